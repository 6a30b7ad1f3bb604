-- What the replies of all clients say at the end agrees with each seat.
use Rattle.std.proofs.Common.{◌≡◌, ◌≢◌, ◌⊎◌, inl, inr, ℕ, ◌≤◌, ◌<◌, Bool, true, false, List, [], ◌∷◌, ◌++◌, length, map, take, Option, Some, None, refl, sym, subst, ap, ◌∙◌, arith}
use Rattle.std.specs.Prelude.{◌==◌, ◌&&◌, not, nat_le, nat_lt}
use Rattle.std.specs.List.{list_any}
use Rattle.std.specs.Str.{bytes_eq}
use Rattle.std.proofs.lemmas.Bool.{cases_Bool, eq-eqb, le-leb, leb-true, ltb-true, or_left, or_right}
use Rattle.std.proofs.lemmas.Slice.Eq.{bytes_eq-Decides}
use mathlib.Core.Option.{some}
use lib.ListN.{get_elem?}
use Rattle.wp_model.specs.declared.entry.Entry.{Entry}
use Rattle.wp_model.specs.declared.holder.Holder.{Holder}
use Rattle.wp_model.specs.declared.holder.Holder.TheVariants.{Txn, Client}
use Rattle.wp_model.specs.declared.segment.Segment.{Segment}
use Rattle.wp_model.specs.Flushed.{InstalledEdit}
use Rattle.wp_model.specs.History.{name_at}
use Rattle.wp_model.proofs.Found.{found_named}
use Rattle.wp_text.specs.declared.script.Command.{Command}
use Rattle.wp_text.specs.declared.script.Command.TheVariants as command
use Rattle.wp_text.specs.declared.script.Part.{Part}
use Rattle.wp_text.specs.declared.reply.Reply.{Reply}
use Rattle.wp_text.specs.declared.reply.Reply.TheVariants as reply
use Rattle.wp_core.specs.Lists.{IsIn}
use Rattle.wp_core.specs.Sound.Actors.{seen_of}
use Rattle.wp_core.specs.Sound.Locks.{HasKeyAt, WasPrepared, PrepareHas}
use Rattle.wp_core.specs.Sound.Pasts.{HasDone, IsPast, MadeHolder, IsLockedFor, IsAccounted, raised_to, WasInstalled, WasBased, NoneBetween, past_of}
use Rattle.wp_core.proofs.Frames.{at_map}
use Rattle.wp_core.specs.Views.{Account, own, another, prepare_at, Event, claimed, took, locked, told, heard, installed, renewed, log_failed, tables_failed, stopped, based_at, found_edit, found}
use Rattle.wp_core.specs.World.{Participant}
use Rattle.wp_rule.proofs.Knows.{one_was_first}
use Rattle.wp_shared.specs.Limits.{WasOpenedAt}
use Rattle.wp_parts.specs.Parts.{content}
use Rattle.wp_parts.specs.Devices.{DevicesLeft}
use Rattle.wp_shared.specs.Ended.{IsEnded, of_seats}
use Rattle.wp_shared.specs.Seats.{participant_of, SharedState, SeatState}
use Rattle.wp_replies.specs.Txn as session_txn
use Rattle.wp_replies.specs.Client.{new_client}
use Rattle.wp_replies.specs.Explains.{dialogues, all_replies, judged_by}
use Rattle.wp_replies.specs.Kind.{is_flushed, is_based, is_renewed_between, is_compacted}
use Rattle.wp_replies.specs.Known.{Dialogue, has_stop, answers_in, comes_to, gets_name, takes_name, stages_key, writes_key, tells}
use Rattle.wp_replies.specs.Replies.{WasLocked, WasTold, WasFlushed, WasBase, NoneRenewed, TablesFailed, OtherCompacted, Evidence, IsKnown, WasUndecided, HadKey}
use Rattle.wp_client.specs.Alone.{limits_of}
use Rattle.wp_client.specs.Answers.{IsRemembered}
use Rattle.wp_client.specs.Agrees.{IsAnother, IsBeyond, IsPrepares, KnowsHolder, Knows, Agrees}
use Rattle.wp_threads.specs.Explained.{found_in, left_in, failed_in}
use Rattle.wp_threads.specs.Over.{Answered, AreOver, replies_of}
use Rattle.wp_threads.specs.SoFar.{IsFound}
use Rattle.wp_model.proofs.Tests.{same_some, both}
use Rattle.wp_threads.proofs.Coming.{comes_wider, comes_answered, renewal_answered, answers_any}
use Rattle.wp_threads.proofs.Counted.{same_replies, remembers}
use Rattle.wp_threads.proofs.Doings.{Did, did, took_name, wrote_key}
use Rattle.wp_threads.proofs.Lists.{both_so, any_at, any_other, any_filter}

-- what the store was opened to
pub ended_found : {D : Type 0} {z : SharedState D} {seats : List SeatState} {history : List Entry} {left : DevicesLeft} (ended : IsEnded z seats history left) → IsFound z (found_in ended)
ended_found {z = z} ended = let o = ended.opened in record {
  history = refl;
  edit = ended.first_is;
  at = (o.wal, o.log, sym (ap (λ (s : Segment). s.base) o.segment) ∙ ap (λ (e : InstalledEdit). e.segment.base) (one_was_first content z.first o.edit ended.first_edit o.last ended.first_is));
}

-- a number that was told is at most each greater one
tells_more : (label : List ℕ) (n m : ℕ) → n ≤ m → (t : session_txn.Txn) (c : Command) (a : Option Reply) → tells label n t c a ≡ true → tells label m t c a ≡ true
tells_more label n m le t (command.Tell other) (Some (reply.Told k)) is =
    let parts = both (bytes_eq other label) (nat_le k n) is in
    let low : k ≤ n = leb-true k n parts.1 in
    rw (parts.0, le-leb k m (omega (arith, low, le))) refl
tells_more label n m le t c a is = absurd cc

-- the renewal that a reply tells of is remembered, with the base that it tells
renewed_there : (past : List Event) (base n : ℕ) (r : Reply) → is_renewed_between base n r ≡ true → IsRemembered past r → (edit : InstalledEdit) × IsIn (renewed edit) past × (base < edit.segment.base) × (edit.segment.base < n)
renewed_there past base n (reply.Renewed at carried) is (edit, based, flushed, there) =
    let parts = both (nat_lt base at) (nat_lt at n) is in let low = ltb-true base at parts.0 in let high = ltb-true at n parts.1 in (edit, there, omega (arith, low, based), omega (arith, high, based))
renewed_there past base n other is k = absurd cc

module _ {D : Type 0} {z : SharedState D} {seats : List SeatState} {history : List Entry} {left : DevicesLeft} (ended : IsEnded z seats history left) (parts : List Part) (answered : List Answered) (over : AreOver z (found_in ended) parts answered seats) (before : List Dialogue) (mine : Dialogue) (after : List Dialogue)
    (split : dialogues parts (replies_of answered) ≡ before ++ mine ∷ after) where
  abbrev pub evidence : Evidence
  evidence = judged_by (left_in ended) (limits_of z) (failed_in ended) (found_in ended) before mine after

  abbrev all : List Dialogue
  all = dialogues parts (replies_of answered)

  done_by : (j i : ℕ) (event : Event) → HasDone (of_seats past_of seats) j i event → (j ≡ 0) × Did all i event
  done_by = did z (found_in ended) parts answered seats over

  there_now : (i : ℕ) (d : Dialogue) → get_elem? all i ≡ some d → get_elem? (before ++ mine ∷ after) i ≡ some d
  there_now i d at = subst (λ (ds : List Dialogue). get_elem? ds i ≡ some d) split at

  one_did : (p : Dialogue → Bool) (i : ℕ) (d : Dialogue) → get_elem? all i ≡ some d → p d ≡ true → list_any p (before ++ mine ∷ after) ≡ true
  one_did p i d at is = any_at p (before ++ mine ∷ after) i d (there_now i d at) is

  other_did : (p : Dialogue → Bool) (i : ℕ) (d : Dialogue) → get_elem? all i ≡ some d → i ≢ length before → p d ≡ true → list_any p (before ++ after) ≡ true
  other_did p i d at ne is = any_other p before mine after i d (there_now i d at) ne is

  -- ---- holders

  -- another one than this made the holder
  abbrev MadeByOther : Option (List ℕ) → Holder → Type 0
  MadeByOther key holder = (k l : ℕ) × ((k ≢ 0) ⊎ (l ≢ length before)) × MadeHolder z.opened history (of_seats past_of seats) k l key holder

  elsewhere : (k l : ℕ) → k ≡ 0 → (k ≢ 0) ⊎ (l ≢ length before) → l ≢ length before
  elsewhere k l same (inl ne) = absurd (ne same)
  elsewhere k l same (inr ne) = ne

  -- what another client did, it came to
  other_came : (k l : ℕ) (event : Event) → (k ≢ 0) ⊎ (l ≢ length before) → HasDone (of_seats past_of seats) k l event → (d : Did all l event) × ((p : Dialogue → Bool) → p d.own ≡ true → list_any p (before ++ after) ≡ true)
  other_came k l event ne h = let d = done_by k l event h in (d.1, λ p is. other_did p l d.1.own d.1.there (elsewhere k l d.0 ne) is)

  -- the undecided prepare of a name was undecided, and is of that name
  is_prepared : (from n : ℕ) (name : List ℕ) (key : Option (List ℕ)) → WasPrepared history from n name key → (p : ℕ) × (was : WasUndecided evidence.history from name p) × HasKeyAt (take was.at evidence.history) p key
  is_prepared from n name key (low, high, (p, is, has)) =
      let f = found_named (take n history) name p is in
      (p, record { at = n; fresh = (low, high); undecided = f.0; named = (bytes_eq-Decides (name_at (take n history) p) name).0 f.1 }, has)

  -- who locked a key for a transaction came to it
  was_locked : (name key : List ℕ) → IsPast (of_seats past_of seats) (locked key (Txn name)) → IsKnown evidence (WasLocked name key)
  was_locked name key (j, i, h) = let d = (done_by j i (locked key (Txn name)) h).1 in one_did (λ (x : Dialogue). comes_to (stages_key name key) new_client x.part.commands x.answers) i d.own d.there d.told

  -- the prepare that another client took had the key, or somebody had locked it
  was_held : (name key : List ℕ) → PrepareHas z.opened history name key ⊎ IsPast (of_seats past_of seats) (locked key (Txn name)) → HadKey evidence.history evidence.opened name key ⊎ IsKnown evidence (WasLocked name key)
  was_held name key (inl (n, has)) = inl (is_prepared (length z.opened) n name (Some key) has)
  was_held name key (inr past) = inr (was_locked name key past)

  is_beyond : (p : ℕ) (name : List ℕ) (key : Option (List ℕ)) → length z.opened < p → IsLockedFor (of_seats past_of seats) name key → IsBeyond evidence p name key
  is_beyond p name None behind none = absurd none
  is_beyond p name (Some key) behind past = (behind, was_locked name key past)

  is_another : (key : Option (List ℕ)) (holder : Holder) → MadeByOther key holder → IsAnother evidence key holder
  is_another None (Txn name) (k, l, ne, inl h) = let o = other_came k l (claimed name) ne h in o.1 (λ (x : Dialogue). comes_to (gets_name name) new_client x.part.commands x.answers) o.0.told
  is_another None (Txn name) (k, l, ne, inr h) = let o = other_came k l (took name) ne h in o.1 (λ (x : Dialogue). comes_to (gets_name name) new_client x.part.commands x.answers) (took_name all l name o.0)
  is_another (Some key) (Txn name) (k, l, ne, inl (begun, h)) = let o = other_came k l (locked key (Txn name)) ne h in inl (o.1 (λ (x : Dialogue). comes_to (stages_key name key) new_client x.part.commands x.answers) o.0.told)
  is_another (Some key) (Txn name) (k, l, ne, inr (h, had)) = let o = other_came k l (took name) ne h in inr (o.1 (λ (x : Dialogue). comes_to (takes_name name) new_client x.part.commands x.answers) o.0.told, was_held name key had)
  is_another (Some key) (Client name) (k, l, ne, h) =
      let o = other_came k l (locked key (Client name)) ne h in
      any_filter (λ (x : Dialogue). comes_to (writes_key key) new_client x.part.commands x.answers) (λ (x : Dialogue). bytes_eq x.part.client name) (before ++ after)
      (o.1 (λ (x : Dialogue). bytes_eq x.part.client name && comes_to (writes_key key) new_client x.part.commands x.answers) (wrote_key all l key name o.0))
  is_another None (Client name) made = tt

  is_prepares : (i : ℕ) (key : Option (List ℕ)) (holder : Holder) (seen n : ℕ) → IsAccounted z.opened history (of_seats past_of seats) 0 i key holder seen (prepare_at n) → IsPrepares evidence key holder seen
  is_prepares i key (Txn name) seen n (inl was) = let k = is_prepared seen n name key was in (k.0, k.1, inl k.2)
  is_prepares i key (Txn name) seen n (inr ((low, high, (p, behind, is)), past)) =
      let f = found_named (take n history) name p is in
      (p, record { at = n; fresh = (low, high); undecided = f.0; named = (bytes_eq-Decides (name_at (take n history) p) name).0 f.1 }, inr (is_beyond p name key behind past))
  is_prepares i key (Client name) seen n none = tt

  -- ---- the tables

  was_raised : (n : ℕ) (e : Event) → raised_to e ≡ Some n → (j i : ℕ) → HasDone (of_seats past_of seats) j i e → IsKnown evidence (WasFlushed n)
  was_raised n (installed edit false) raised j i h =
      let d = (done_by j i (installed edit false) h).1 in
      let same : edit.flushed ≡ n = same_some edit.flushed n raised in
      let said = comes_answered (is_flushed edit.flushed) new_client d.own.part.commands d.own.answers d.told in
      or_right (n == ended.first_edit.flushed) (list_any (is_flushed n) (answers_in (before ++ mine ∷ after)))
      (answers_any (is_flushed n) (before ++ mine ∷ after) (one_did (λ (x : Dialogue). list_any (is_flushed n) x.answers) i d.own d.there (subst (λ (m : ℕ). list_any (is_flushed m) d.own.answers ≡ true) same said)))
  was_raised n (renewed edit) raised j i h =
      let d = (done_by j i (renewed edit) h).1 in
      let same : edit.flushed ≡ n = same_some edit.flushed n raised in
      let said = (renewal_answered edit.segment.base edit.flushed new_client d.own.part.commands d.own.answers d.told).1 in
      or_right (n == ended.first_edit.flushed) (list_any (is_flushed n) (answers_in (before ++ mine ∷ after)))
      (answers_any (is_flushed n) (before ++ mine ∷ after) (one_did (λ (x : Dialogue). list_any (is_flushed n) x.answers) i d.own d.there (subst (λ (m : ℕ). list_any (is_flushed m) d.own.answers ≡ true) same said)))
  was_raised n other raised j i h = absurd cc

  was_flushed : (n : ℕ) → WasInstalled ended.first_edit (of_seats past_of seats) n → IsKnown evidence (WasFlushed n)
  was_flushed n (inl first) = or_left (n == ended.first_edit.flushed) (list_any (is_flushed n) (answers_in (before ++ mine ∷ after))) (eq-eqb n ended.first_edit.flushed first)
  was_flushed n (inr (e, raised, (j, i, h))) = was_raised n e raised j i h

  was_based : (n : ℕ) → WasBased ended.first_edit (of_seats past_of seats) n → IsKnown evidence (WasBase n)
  was_based n (inl first) = or_left (n == ended.first_edit.segment.base) (list_any (is_based n) (answers_in (before ++ mine ∷ after))) (eq-eqb n ended.first_edit.segment.base first)
  was_based n (inr (edit, same, (j, i, h))) =
      let d = (done_by j i (renewed edit) h).1 in
      let said = (renewal_answered edit.segment.base edit.flushed new_client d.own.part.commands d.own.answers d.told).0 in
      or_right (n == ended.first_edit.segment.base) (list_any (is_based n) (answers_in (before ++ mine ∷ after)))
      (answers_any (is_based n) (before ++ mine ∷ after) (one_did (λ (x : Dialogue). list_any (is_based n) x.answers) i d.own d.there (subst (λ (m : ℕ). list_any (is_based m) d.own.answers ≡ true) same said)))

  none_renewed : (base n : ℕ) → NoneBetween (of_seats past_of seats) base n → IsKnown evidence (NoneRenewed base n)
  none_renewed base n none = elim (cases_Bool (list_any (is_renewed_between base n) (answers_in (before ++ mine ∷ after)))) [
    | inl said ↦
        let same : answers_in (before ++ mine ∷ after) ≡ all_replies (replies_of answered) = sym (ap answers_in split) ∙ same_replies z (found_in ended) parts answered seats over in
        let k = remembers z (found_in ended) (is_renewed_between base n) parts answered seats over (subst (λ (xs : List Reply). list_any (is_renewed_between base n) xs ≡ true) same said) in
        let r = renewed_there k.past base n k.answer k.is k.remembered in
        let low = none r.0 (0, k.place, (k.past, (map past_of (map participant_of seats), refl, k.there), r.1)) r.3 in absurd (omega (arith, low, r.2))
    | inr unsaid ↦ ap not unsaid
  ]

  -- a renewal failed in the log, whose base was below what is published
  fails_renewal : ended.writes.closed ≡ true → ended.writes.stopped ≡ false → ended.writes.failed ≡ [] → ended.edits.last.segment.base < length history
  fails_renewal closed by_device none =
      let below = ended.faults.renewing closed by_device none in let same = ap (λ (s : Segment). s.base) ended.in_place in let all = ap (λ (h : List Entry). length h) ended.history_is in omega (arith, below, same, all)

  -- ---- the seat

  module _ (p : Participant) (at : get_elem? (map participant_of seats) (length before) ≡ some p) (closed_said : ended.writes.closed ≡ true → list_any has_stop (before ++ mine ∷ after) ≡ true) (halted_said : ended.edits.halted ≡ true → IsKnown evidence TablesFailed) where
    mine_did : (event : Event) → IsIn event p.past → HasDone (of_seats past_of seats) 0 (length before) event
    mine_did event there = (p.past, (map past_of (map participant_of seats), refl, at_map past_of (map participant_of seats) (length before) p at), there)

    past_is : (event : Event) → IsIn event p.past → IsPast (of_seats past_of seats) event
    past_is event there = (0, length before, mine_did event there)

    knows_holder : (key : Option (List ℕ)) (holder : Holder) (seen : ℕ) (account : Account) → IsIn (found key holder seen account) p.past → KnowsHolder evidence key holder seen account
    knows_holder key holder seen own there = tt
    knows_holder key holder seen another there = is_another key holder (ended.holders.found 0 (length before) key holder seen another (mine_did (found key holder seen another) there))
    knows_holder key holder seen (prepare_at n) there = is_prepares (length before) key holder seen n (ended.holders.found 0 (length before) key holder seen (prepare_at n) (mine_did (found key holder seen (prepare_at n)) there))

    was_told : (label : List ℕ) (n m : ℕ) → n ≤ m → IsPast (of_seats past_of seats) (told label n) → IsKnown evidence (WasTold label m)
    was_told label n m le (j, i, h) =
        let d = (done_by j i (told label n) h).1 in
        one_did (λ (x : Dialogue). comes_to (tells label m) new_client x.part.commands x.answers) i d.own d.there (comes_wider (tells label n) (tells label m) (tells_more label n m le) new_client d.own.part.commands d.own.answers d.told)

    other_compacted : (n base tables due : ℕ) (halted : Bool) → IsIn (found_edit n base tables due halted) p.past → tables < due → IsKnown evidence OtherCompacted
    other_compacted n base tables due halted there lt =
        let o = ended.installed.few 0 (length before) n base tables due halted (mine_did (found_edit n base tables due halted) there) lt in
        let d = done_by o.1.0 o.1.1 (installed o.0 true) o.1.3 in
        answers_any is_compacted (before ++ after) (other_did (λ (x : Dialogue). list_any is_compacted x.answers) o.1.1 d.1.own d.1.there (elsewhere o.1.0 o.1.1 d.0 o.1.2) (comes_answered is_compacted new_client d.1.own.part.commands d.1.own.answers d.1.told))

    knows : (event : Event) → IsIn event p.past → Knows evidence event
    knows (found key holder seen account) there = knows_holder key holder seen account there
    knows (heard label n) there = λ m le. was_told label n m le (ended.board.heard label n (past_is (heard label n) there))
    knows (stopped n) there =
        let k = ended.faults.stopped n (past_is (stopped n) there) in
        both_so (n == length history) (list_any has_stop (before ++ mine ∷ after)) (eq-eqb n (length history) (k.1 ∙ ap (λ (h : List Entry). length h) ended.history_is)) (closed_said k.0)
    knows (based_at n base) there = (was_based base (ended.installed.based n base (past_is (based_at n base) there)), none_renewed base n (ended.faults.based n base (past_is (based_at n base) there)).1)
    knows (log_failed entries) there = let f = ended.faults.failed entries (past_is (log_failed entries) there) in (f.1, λ none. fails_renewal f.0 (ended.faults.of_log entries (past_is (log_failed entries) there)) (f.1 ∙ none))
    knows (tables_failed last edit) there = let f = ended.installed.failed last edit (past_is (tables_failed last edit) there) in (f.1, f.2)
    knows (found_edit n base tables due halted) there = (
      was_flushed n (ended.installed.found n base tables due halted (past_is (found_edit n base tables due halted) there)),
      was_based base (ended.installed.found_base n base tables due halted (past_is (found_edit n base tables due halted) there)),
      (λ is. let k = ended.installed.found_halted n base tables due (past_is (found_edit n base tables due true) (subst (λ (b : Bool). IsIn (found_edit n base tables due b) p.past) is there)) in (k.1, halted_said k.0)),
      (λ lt. other_compacted n base tables due halted there lt),
    )
    knows _ there = tt

    pub agrees : Agrees evidence z p
    agrees = record {
      seen = ended.seen 0 (length before) p.seen (map seen_of (map participant_of seats), refl, at_map seen_of (map participant_of seats) (length before) p at);
      limits = refl;
      base = λ first is_first. ap (λ (e : InstalledEdit). e.segment.base) (one_was_first content z.first ended.first_edit first ended.first_is is_first);
      opened = λ first is_first. subst (λ (e : InstalledEdit). WasOpenedAt z e.segment.base) (one_was_first content z.first ended.first_edit first ended.first_is is_first) (ended_found ended).at;
      past = knows;
    }
