-- What a client is answered that is alone and compacts the tables.
use Rattle.std.proofs.Common.{◌≡◌, ⊎_elim, ℕ, ◌≤◌, ◌<◌, nat_lt, Bool, true, false, List, [], ◌∷◌, length, take, refl, sym, subst, ap, ◌∙◌, Option, Some, None, arith}
use Rattle.std.specs.Prelude.{IfSome, Ok, Err, if◌then◌else◌}
use Rattle.std.proofs.lemmas.Bool.Decides.{nat_tests}
use Rattle.std.proofs.lemmas.List.{take_all, length-take-le}
use Rattle.wp_model.specs.declared.entry.Entry.{Entry}
use Rattle.wp_model.specs.declared.version.Version.{Version}
use Rattle.wp_model.specs.Flushed.{InstalledEdit}
use Rattle.wp_model.specs.Snapshots.{Snapshots, IsLive}
use Rattle.wp_text.specs.declared.script.Command.TheVariants as command
use Rattle.wp_text.specs.declared.reply.Reply.{Reply}
use Rattle.wp_text.specs.declared.reply.Reply.TheVariants as reply
use Rattle.wp_core.specs.Lists.{IsIn}
use Rattle.wp_core.specs.Reading.{Registration}
use Rattle.wp_core.specs.Views as event
use Rattle.wp_core.specs.World.{Participant, World}
use Rattle.wp_core.proofs.EachStep.{reached_is_sound}
use Rattle.wp_core.proofs.KeepsSeen.{shorter}
use Rattle.wp_core.proofs.PastsGrow.{in_front}
use Rattle.wp_core.proofs.Registered.{registered_live}
use Rattle.wp_rule.specs.Shows.{WasLast}
use Rattle.wp_rule.proofs.Knows.{one_was_first}
use Rattle.wp_parts.specs.Parts.{content}
use Rattle.wp_shared.specs.Seats.{SharedState, SeatState, Stands}
use Rattle.wp_maint.specs.declared.done.Done.{Done}
use Rattle.wp_maint.specs.declared.error.MaintError.TheVariants.{Nothing, TableFault, TablesStopped}
use Rattle.wp_compact.specs.Calls.{HasPinned, IsCompactionOf, Compacts}
use Rattle.wp_replies.specs.declared.client.LabelledSnapshot.{LabelledSnapshot}
use Rattle.wp_replies.specs.Txn.{Txn}
use Rattle.wp_replies.specs.Client.{Client, live_of}
use Rattle.wp_replies.specs.Due.{Store, compacted}
use Rattle.wp_replies.specs.Kind.{is_installed}
use Rattle.wp_replies.specs.Tables.{listed, retained, after_compaction}
use Rattle.wp_client.specs.Alone.{IsOnly, IsStoreOf, AnswersAlone}
use Rattle.wp_client.proofs.Alone.Published.{in_both}
use Rattle.wp_client.proofs.Growing.{in_back}
use Rattle.wp_client.proofs.Alone.Worlds.{only_of}
use Rattle.wp_client.proofs.Alone.Seated.{follows_on, alone_at, seen_still}
use Rattle.wp_answers.proofs.Alone.TablesFound.{AsksTablesFor, makes_installed, same_base, last_is, halted_answers, nothing_answers, installs_answers, failed_answers}
use Rattle.wp_answers.proofs.Alone.Retained.{AreSame, retained_same, compaction_same, contained, containing, numbers_in, number_in, of_number, times_in, numbers_same}

module _ {D : Type 0} (z : SharedState D) (first : InstalledEdit) (old new : SeatState) (only : IsOnly old) (store : Store) (is : IsStoreOf z first old.knows.participant store) (stood : (w : World) × Stands z new w) (was_last : WasLast content z.first first) (txn : Txn) (snapshots : List LabelledSnapshot)
    (registered : List Registration) (numbered : numbers_in registered ≡ live_of (record { txn = txn; snapshots = snapshots })) (just_these : (r : Registration) → times_in r old.knows.participant.registered ≡ times_in r registered) where
  abbrev client : Client
  client = record { txn = txn; snapshots = snapshots }

  abbrev ready : Reply
  ready = compacted store (live_of client)

  -- the numbers that it lists
  abbrev mine : List ℕ
  mine = listed (live_of client) store.base store.installed

  abbrev next : InstalledEdit
  next = after_compaction store.history mine store.installed

  asks : new.knows.participant.seen ≡ store.history → AsksTablesFor store client command.Compact ready next
  asks seen = record { due_is = refl; place = 0; edit_is = refl; board = λ b r. refl }

  -- ---- what was pinned

  -- all was pinned at the end of the history, and just the client's snapshots and its pin were live
  record IsWhole (floor : ℕ) (live : List ℕ) : Type 0 where
    pub history : take floor new.knows.participant.seen ≡ store.history
    pub floor_is : floor ≡ length store.history
    pub live_is : AreSame live (live_of client)

  -- the live numbers are those of the seat's registrations
  live_registered : (floor : ℕ) (live : List ℕ) → HasPinned z old new floor live → AreSame live (numbers_in old.knows.participant.registered)
  live_registered floor live k =
      let t = k.pinned.taken in
      let alone = alone_at z old.by t.actor t.world t.there only.by (t.made ∙ only.made) (t.joined ∙ only.joined) in
      let has : t.actor.participant.registered ≡ old.knows.participant.registered = ap (λ (p : Participant). p.registered) t.participant in record {
        there = λ n there.
            let is_live = (k.pinned.are_live.each n).0 (containing _ n (subst (IsIn n) k.live_is there)) in
            let r = (only_of t.world t.there.reached t.actor alone).live n (subst (λ (m : Snapshots). IsLive m n) (sym t.live) is_live) in
            subst (λ (m : ℕ). IsIn m (numbers_in old.knows.participant.registered)) r.2 (number_in r.0 old.knows.participant.registered (subst (IsIn r.0) has r.1));
        back = λ n there.
            let r = of_number n old.knows.participant.registered there in
            let is_live = (registered_live t.world.writes.history t.world.snapshots t.world.actors old.by t.actor r.0 t.there.there (subst (IsIn r.0) (sym has) r.1) (reached_is_sound t.world t.there.reached).registrations).0 in
            subst (IsIn n) (sym k.live_is) (contained _ n ((k.pinned.are_live.each n).1 (subst (λ (m : ℕ). IsLive k.pinned.before m) r.2 (subst (λ (m : Snapshots). IsLive m r.0.number) t.live is_live))));
      }

  whole : (floor : ℕ) (live : List ℕ) → HasPinned z old new floor live → new.knows.participant.seen ≡ store.history → IsWhole floor live
  whole floor live k seen =
      let now : length new.knows.participant.seen ≡ length store.history = ap (λ (h : List Entry). length h) seen in
      let before : length store.history ≡ length old.knows.participant.seen = ap (λ (h : List Entry). length h) is.history in
      let later = shorter (take floor new.knows.participant.seen) old.knows.participant.seen k.later in
      let size : length (take floor new.knows.participant.seen) ≡ floor = length-take-le floor new.knows.participant.seen k.within in
      let within = k.within in
      let mine = live_registered floor live k in
      let theirs = numbers_same old.knows.participant.registered registered just_these in record {
        history = take_all floor new.knows.participant.seen (omega (arith, now, before, later, size)) ∙ seen;
        floor_is = omega (arith, now, before, later, size, within);
        live_is = record {
          there = λ n there. subst (IsIn n) numbered (theirs.there n (mine.there n there));
          back = λ n there. mine.back n (theirs.back n (subst (IsIn n) (sym numbered) there));
        };
      }

  -- the lists are the same too
  both_listed : (live : List ℕ) → AreSame live (live_of client) → AreSame (listed live store.base store.installed) mine
  both_listed live same = record { there = λ n there. of_both live (live_of client) n same.there there; back = λ n there. of_both (live_of client) live n same.back there }
    where
      of_both : (xs ys : List ℕ) (n : ℕ) → ((m : ℕ) → IsIn m xs → IsIn m ys) → IsIn n (listed xs store.base store.installed) → IsIn n (listed ys store.base store.installed)
      of_both xs ys n f there = ⊎_elim
          (λ (k : IsIn n xs). in_front n ys (store.base ∷ store.installed.segment.base ∷ []) (f n k))
          (λ (k : IsIn n (store.base ∷ store.installed.segment.base ∷ [])). in_back n ys (store.base ∷ store.installed.segment.base ∷ []) k)
          (in_both n xs (store.base ∷ store.installed.segment.base ∷ []) there)

  -- what is kept, where it was pinned so
  kept : (floor : ℕ) (live : List ℕ) (opening edit : InstalledEdit) → IsWhole floor live → opening ≡ first → edit ≡ store.installed → retained (take floor new.knows.participant.seen) (listed live opening.segment.base edit) edit ≡ retained store.history mine store.installed
  kept floor live opening edit all began same = ap (λ (x : List Entry × ℕ × InstalledEdit). retained x.0 (listed live x.1 x.2) x.2) (λ i. (all.history i, (ap (λ (x : InstalledEdit). x.segment.base) began ∙ sym is.base) i, same i)) ∙ retained_same store.history (listed live store.base store.installed) mine store.installed (both_listed live all.live_is)

  edit_kept : (floor : ℕ) (live : List ℕ) (opening edit : InstalledEdit) → IsWhole floor live → opening ≡ first → edit ≡ store.installed → after_compaction (take floor new.knows.participant.seen) (listed live opening.segment.base edit) edit ≡ next
  edit_kept floor live opening edit all began same = ap (λ (x : List Entry × ℕ × InstalledEdit). after_compaction x.0 (listed live x.1 x.2) x.2) (λ i. (all.history i, (ap (λ (x : InstalledEdit). x.segment.base) began ∙ sym is.base) i, same i)) ∙ compaction_same store.history (listed live store.base store.installed) mine store.installed (both_listed live all.live_is)

  -- ---- what is answered

  merges : 2 ≤ store.installed.tables → ready ≡ reply.Compacted (length store.history) (length (retained store.history mine store.installed))
  merges two = let several : nat_lt store.installed.tables 2 ≡ false = grind (arith, nat_tests) in
      ap (λ (b : Bool). if b then reply.Nothing else reply.Compacted (length store.history) (length (retained store.history mine store.installed))) several

  merges_none : store.installed.tables < 2 → ready ≡ reply.Nothing
  merges_none one = let few : nat_lt store.installed.tables 2 ≡ true = grind (arith, nat_tests) in
      ap (λ (b : Bool). if b then reply.Nothing else reply.Compacted (length store.history) (length (retained store.history mine store.installed))) few

  pub compacted_alone : (done : Done) → Compacts z old (Ok done) new → AnswersAlone z first old new client client command.Compact (reply.Compacted done.at done.versions) store
  compacted_alone done (e, k) =
      let edit_is = last_is z first old new only store is stood was_last e k.found in
      let seen = seen_still z first old new only store is stood _ (follows_on _ z old new _ k.goes_on _ refl refl) in
      let all = whole done.at k.live k.pinned seen in
      let began : k.first ≡ first = one_was_first content z.first k.first first k.is_first was_last in
      let edit : InstalledEdit = after_compaction (take done.at new.knows.participant.seen) (listed k.live k.first.segment.base e.last) e.last in
      let versions : done.versions ≡ length (retained store.history mine store.installed) = k.versions ∙ ap (λ (vs : List Version). length vs) (kept done.at k.live k.first e.last all began edit_is) in
      let at = all.floor_is in
      installs_answers z first old new only store is stood was_last e k.found client command.Compact ready next asks (reply.Compacted done.at done.versions)
      (merges (subst (λ (x : InstalledEdit). 2 ≤ x.tables) edit_is k.several) ∙ ap (λ (x : ℕ × ℕ). reply.Compacted x.0 x.1) (λ i. (sym at i, sym versions i)))
      refl refl refl refl refl k.running (same_base store.installed) is.limit edit (event.installed edit true) (makes_installed edit true) (edit_kept done.at k.live k.first e.last all began edit_is) k.goes_on

  pub nothing_compacted_alone : Compacts z old (Err Nothing) new → AnswersAlone z first old new client client command.Compact reply.Nothing store
  nothing_compacted_alone (e, k) =
      let edit_is = last_is z first old new only store is stood was_last e k.found in
      nothing_answers z first old new only store is stood was_last e k.found client command.Compact ready next asks (merges_none (subst (λ (x : InstalledEdit). x.tables < 2) edit_is k.idle)) k.running k.goes_on

  pub compact_failed_alone : Compacts z old (Err TableFault) new → AnswersAlone z first old new client client command.Compact reply.FaultTables store
  compact_failed_alone (e, k) =
      let edit_is = last_is z first old new only store is stood was_last e k.found in
      failed_answers z first old new only store is stood was_last e k.found client command.Compact ready next asks refl (ap is_installed (merges (subst (λ (x : InstalledEdit). 2 ≤ x.tables) edit_is k.busy))) k.running k.asked
      (λ seen. is_next e.last edit_is seen k.asked k.next) k.goes_on
    where
      is_next : (last : InstalledEdit) → last ≡ store.installed → new.knows.participant.seen ≡ store.history → (o : Option InstalledEdit) → IfSome o (IsCompactionOf (HasPinned z old new) z new last) → IfSome o (λ edit. edit ≡ next)
      is_next last same seen None k = tt
      is_next last same seen (Some edit) k = k.edit_is ∙ edit_kept k.floor k.live k.first last (whole k.floor k.live k.pinned seen) (one_was_first content z.first k.first first k.is_first was_last) same

  pub compact_halted_alone : (number : ℕ) → Compacts z old (Err (TablesStopped number)) new → AnswersAlone z first old new client client command.Compact (reply.Halted number) store
  compact_halted_alone number (e, k) = halted_answers z first old new only store is stood was_last e k.found client command.Compact ready next asks number k.flushed_is k.halted k.goes_on
