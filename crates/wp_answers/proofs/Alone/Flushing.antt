-- What a client is answered that is alone and flushes.
use Rattle.std.proofs.Common.{◌≡◌, ℕ, ◌≤◌, false, List, [], ◌∷◌, length, take, refl, sym, ap, ◌∙◌, Option, Some, None, arith}
use Rattle.std.specs.Prelude.{IfSome, Ok, Err}
use Rattle.std.proofs.lemmas.List.{take_all}
use Rattle.wp_model.specs.declared.entry.Entry.{Entry}
use Rattle.wp_model.specs.declared.version.Version.{Version}
use Rattle.wp_model.specs.Flushed.{InstalledEdit}
use Rattle.wp_text.specs.declared.script.Command.TheVariants as command
use Rattle.wp_text.specs.declared.reply.Reply.{Reply}
use Rattle.wp_text.specs.declared.reply.Reply.TheVariants as reply
use Rattle.wp_core.specs.Views as event
use Rattle.wp_core.specs.World.{World}
use Rattle.wp_rule.specs.Shows.{WasLast}
use Rattle.wp_parts.specs.Parts.{content}
use Rattle.wp_shared.specs.Seats.{SharedState, SeatState, Stands}
use Rattle.wp_maint.specs.declared.done.Done.{Done}
use Rattle.wp_maint.specs.declared.error.MaintError.TheVariants.{Nothing, TableFault, TablesStopped}
use Rattle.wp_maint.specs.Calls.{Flushes}
use Rattle.wp_replies.specs.Client.{Client}
use Rattle.wp_replies.specs.Due.{Store, flushed}
use Rattle.wp_replies.specs.Kind.{is_installed}
use Rattle.wp_replies.specs.Tables.{unflushed, after_flush}
use Rattle.wp_client.specs.Alone.{IsOnly, IsStoreOf, AnswersAlone}
use Rattle.wp_client.proofs.Alone.Seated.{follows_on, seen_still}
use Rattle.wp_answers.proofs.Alone.TablesFound.{AsksTablesFor, makes_installed, same_base, last_is, halted_answers, nothing_answers, installs_answers, failed_answers}

-- some versions are flushed
flushes : (n : ℕ) (versions : List Version) → 1 ≤ length versions → flushed n versions ≡ reply.Flushed n (length versions)
flushes n [] some_there = absurd (omega (arith, some_there))
flushes n (v ∷ versions) some_there = refl

module _ {D : Type 0} (z : SharedState D) (first : InstalledEdit) (old new : SeatState) (only : IsOnly old) (store : Store) (is : IsStoreOf z first old.knows.participant store) (stood : (w : World) × Stands z new w) (was_last : WasLast content z.first first) (client : Client) where
  abbrev ready : Reply
  ready = flushed (length store.history) (unflushed store.history store.installed)

  abbrev next : InstalledEdit
  next = after_flush store.history store.installed

  asks : new.knows.participant.seen ≡ store.history → AsksTablesFor store client command.Flush ready next
  asks seen = record { due_is = refl; place = 0; edit_is = refl; board = λ b r. refl }

  pub flushed_alone : (done : Done) → Flushes z old (Ok done) new → AnswersAlone z first old new client client command.Flush (reply.Flushed done.at done.versions) store
  flushed_alone done (e, k) =
      let edit_is = last_is z first old new only store is stood was_last e k.found in
      let seen = seen_still z first old new only store is stood _ (follows_on _ z old new _ k.goes_on _ refl refl) in
      let versions : done.versions ≡ length (unflushed store.history store.installed) = k.versions ∙ ap (λ (x : List Entry × InstalledEdit). length (unflushed x.0 x.1)) (λ i. (seen i, edit_is i)) in
      let at : done.at ≡ length store.history = k.at ∙ ap (λ (h : List Entry). length h) seen in
      let some_there : 1 ≤ length (unflushed store.history store.installed) = (let least = k.some in omega (arith, least, versions)) in
      installs_answers z first old new only store is stood was_last e k.found client command.Flush ready next asks (reply.Flushed done.at done.versions)
      (flushes (length store.history) (unflushed store.history store.installed) some_there ∙ ap (λ (x : ℕ × ℕ). reply.Flushed x.0 x.1) (λ i. (sym at i, sym versions i)))
      refl refl refl refl refl k.running (same_base store.installed) is.limit (after_flush new.knows.participant.seen e.last) (event.installed (after_flush new.knows.participant.seen e.last) false) (makes_installed (after_flush new.knows.participant.seen e.last) false) (ap (λ (x : List Entry × InstalledEdit). after_flush x.0 x.1) (λ i. (seen i, edit_is i))) k.goes_on

  pub nothing_flushed_alone : Flushes z old (Err Nothing) new → AnswersAlone z first old new client client command.Flush reply.Nothing store
  nothing_flushed_alone (e, (whole, k)) =
      let edit_is = last_is z first old new only store is stood was_last e k.found in
      let seen = seen_still z first old new only store is stood _ (follows_on _ z old new _ k.goes_on _ refl refl) in
      let all : take (length new.knows.participant.seen) new.knows.participant.seen ≡ store.history = take_all (length new.knows.participant.seen) new.knows.participant.seen (omega arith) ∙ seen in
      let none : unflushed store.history store.installed ≡ [] = ap (λ (x : List Entry × InstalledEdit). unflushed x.0 x.1) (λ i. (sym all i, sym edit_is i)) ∙ k.idle (length new.knows.participant.seen) in
      nothing_answers z first old new only store is stood was_last e k.found client command.Flush ready next asks (ap (flushed (length store.history)) none) k.running k.goes_on

  pub flush_failed_alone : Flushes z old (Err TableFault) new → AnswersAlone z first old new client client command.Flush reply.FaultTables store
  flush_failed_alone (e, (whole, k)) =
      let edit_is = last_is z first old new only store is stood was_last e k.found in
      let seen = seen_still z first old new only store is stood _ (follows_on _ z old new _ k.goes_on _ refl refl) in
      let same : length (unflushed new.knows.participant.seen e.last) ≡ length (unflushed store.history store.installed) = ap (λ (x : List Entry × InstalledEdit). length (unflushed x.0 x.1)) (λ i. (seen i, edit_is i)) in
      let some_there : 1 ≤ length (unflushed store.history store.installed) = (let least = k.busy in omega (arith, least, same)) in
      failed_answers z first old new only store is stood was_last e k.found client command.Flush ready next asks refl (ap is_installed (flushes (length store.history) (unflushed store.history store.installed) some_there)) k.running k.asked
      (λ seen_is. if_some_same k.asked (ap (λ (x : List Entry × InstalledEdit). after_flush x.0 x.1) (λ i. (seen_is i, edit_is i))) k.next) k.goes_on
    where
      if_some_same : (o : Option InstalledEdit) {a b : InstalledEdit} → a ≡ b → IfSome o (λ edit. edit ≡ a) → IfSome o (λ edit. edit ≡ b)
      if_some_same None same k = tt
      if_some_same (Some x) same k = k ∙ same

  pub flush_halted_alone : (number : ℕ) → Flushes z old (Err (TablesStopped number)) new → AnswersAlone z first old new client client command.Flush (reply.Halted number) store
  flush_halted_alone number (e, k) = halted_answers z first old new only store is stood was_last e k.found client command.Flush ready next asks number k.flushed_is k.halted k.goes_on
