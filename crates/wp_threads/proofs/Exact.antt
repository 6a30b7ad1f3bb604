-- With one client, what is left is what its replies leave.
use Rattle.std.proofs.Common.{◌≡◌, ◌≢◌, ◌⊎◌, ⊎_elim, inl, inr, ℕ, zero, suc, ◌<◌, ◌≤◌, true, List, [], ◌∷◌, ◌++◌, length, length-append, Option, Some, None, refl, sym, subst, ap, ◌∙◌, arith}
use Rattle.std.specs.Prelude.{◌==◌}
use Rattle.std.specs.List.{list_any}
use Rattle.std.proofs.lemmas.Bool.{eqb-true}
use mathlib.Core.List.{append-nil}
use mathlib.Core.Option.{some-injective, some-ne-none}
use lib.ListN.{get_elem?}
use Rattle.wp_model.specs.declared.entry.Entry.{Entry}
use Rattle.wp_model.specs.Flushed.{InstalledEdit}
use Rattle.wp_text.specs.declared.script.Part.{Part}
use Rattle.wp_core.specs.Lists.{IsIn, one_if}
use Rattle.wp_core.specs.Sound.Actors.{StartsWith, times}
use Rattle.wp_core.specs.Sound.Pasts.{HasDone, IsPast, OtherInstalls, closes_log, is_tables_fault, past_of}
use Rattle.wp_core.specs.Views.{Event, log_failed, log_stopped, tables_failed}
use Rattle.wp_core.proofs.KeepsSeen.{shorter}
use Rattle.wp_parts.specs.Devices.{DevicesLeft}
use Rattle.wp_shared.specs.Ended.{IsEnded, of_seats}
use Rattle.wp_shared.specs.Ending.{AreAll}
use Rattle.wp_shared.specs.Seats.{SharedState, SeatState}
use Rattle.wp_shared.proofs.Onward.{starts_on}
use Rattle.wp_replies.specs.Asked.{AsksLog, AsksEdit, FaultAsks}
use Rattle.wp_replies.specs.Client.{new_client}
use Rattle.wp_replies.specs.Current.{opened_store}
use Rattle.wp_replies.specs.Exact.{IsExact}
use Rattle.wp_replies.specs.Kind.{stops_log}
use Rattle.wp_replies.specs.Kind as kinds
use Rattle.wp_client.specs.Alone.{limits_of, IsOnly}
use Rattle.wp_threads.specs.Explained.{found_in, left_in, failed_in}
use Rattle.wp_threads.specs.Over.{Answered, EndsAlone, IsOver}
use Rattle.wp_threads.proofs.Alone.{runs_grow, asks_any}
use Rattle.wp_client.proofs.Alone.Published.{since}
use Rattle.wp_threads.proofs.Lists.{any_in, count_any, counted_in}

no_longer : (history front rest : List Entry) → history ≡ front ++ rest → length history ≤ length front → history ≡ front
no_longer history front [] is le = is ∙ append-nil front
no_longer history front (e ∷ rest) is le =
    let whole : length history ≡ length (front ++ e ∷ rest) = ap (λ (h : List Entry). length h) is in let more = length-append front (e ∷ rest) in absurd (omega (arith, whole, more, le))

log_fault_is : (e : Event) → closes_log e ≡ true → ((entries : List Entry) × (e ≡ log_failed entries)) ⊎ (e ≡ log_stopped)
log_fault_is (log_failed entries) is = inl (entries, refl)
log_fault_is log_stopped is = inr refl
log_fault_is other is = absurd cc

tables_fault_is : (e : Event) → is_tables_fault e ≡ true → (last : InstalledEdit) × (edit : Option InstalledEdit) × (e ≡ tables_failed last edit)
tables_fault_is (tables_failed last edit) is = (last, edit, refl)
tables_fault_is other is = absurd cc

-- with one seat, all that was done it did
only_one : (s : SeatState) (k l : ℕ) (e : Event) → HasDone (of_seats past_of (s ∷ [])) k l e → (k ≡ 0) × (l ≡ 0)
only_one s zero zero e h = (refl, refl)
only_one s zero (suc l) e (past, (ps, at, there), is) = absurd (some-ne-none past (sym (ap (λ (x : List (List Event)). get_elem? x (suc l)) (some-injective (s.knows.participant.past ∷ []) ps at) ∙ there)))
only_one s (suc k) l e (past, (ps, at, there), is) = absurd (some-ne-none ps (sym at))

module _ {D : Type 0} {z : SharedState D} {s : SeatState} {history : List Entry} {left : DevicesLeft} (ended : IsEnded z (s ∷ []) history left) (part : Part) (answered : Answered) (over : IsOver z (found_in ended) part answered s) (all : AreAll (s ∷ [])) where
  only : IsOnly s
  only = record { by = all.0; made = all.2; joined = all.1 }

  alone : EndsAlone z (found_in ended) over.done answered.replies s.knows.participant
  alone = over.alone only

  grown : StartsWith history alone.store.history
  grown = starts_on alone.store.history s.knows.participant.seen history alone.history (ended.seen 0 0 s.knows.participant.seen (s.knows.participant.seen ∷ [], refl, refl))

  from_opened : length z.opened ≤ length alone.store.history
  from_opened = shorter alone.store.history z.opened (runs_grow alone.places (opened_store (limits_of z) (found_in ended)) new_client over.done answered.replies alone.store alone.client alone.ran)

  own_low : (n : ℕ) → times n s.knows.participant.own ≡ 1 → n ≤ length alone.store.history
  own_low n one =
      let k = counted_in (λ m. m == n) s.knows.participant.own (omega (arith, one)) in
      alone.own n (subst (λ (m : ℕ). IsIn m s.knows.participant.own) (eqb-true k.0 n k.2) k.1)

  no_more : length alone.store.history < length history → ⊥
  no_more lt =
      let owned = ended.owned (length history) in
      let once = since z.opened history (length history) (let low = from_opened in omega (arith, low, lt)) (omega arith) in
      let low = own_low (length history) (omega (arith, owned, once)) in omega (arith, low, lt)

  same_history : history ≡ alone.store.history
  same_history = no_longer history alone.store.history grown.0 grown.1 (fits (length history) (length alone.store.history) no_more)
    where
      fits : (m n : ℕ) → (n < m → ⊥) → m ≤ n
      fits m n not_less = omega (arith, not_less)

  same_edit : ended.edits.last ≡ alone.store.installed
  same_edit = elim (ended.installed.edit 0 0 s.knows.participant.past (s.knows.participant.past ∷ [], refl, refl)) [
    | inl is ↦ is ∙ sym alone.installed
    | inr other ↦ absurd (not_other other)
  ]
    where
      not_other : OtherInstalls (of_seats past_of (s ∷ [])) 0 0 → ⊥
      not_other (edit, compacts, (k, l, ne, h)) = let o = only_one s k l _ h in ⊎_elim (λ (n : k ≢ 0). n o.0) (λ (n : l ≢ 0). n o.1) ne

  in_past : (e : Event) → IsIn e s.knows.participant.past → IsPast (of_seats past_of (s ∷ [])) e
  in_past e there = (0, 0, (s.knows.participant.past, (s.knows.participant.past ∷ [], refl, refl), there))

  asked_log : alone.store.stopped ≡ true → FaultAsks stops_log (AsksLog ended.writes.failed) alone.places (opened_store (limits_of z) (found_in ended)) new_client over.done answered.replies
  asked_log up =
      let one : one_if alone.store.stopped ≡ 1 = rw up refl in let same = alone.stopped in
      let k = counted_in closes_log s.knows.participant.past (omega (arith, one, same)) in by_event (log_fault_is k.0 k.2) k.1
    where
      by_event : {x : Event} → ((entries : List Entry) × (x ≡ log_failed entries)) ⊎ (x ≡ log_stopped) → IsIn x s.knows.participant.past → FaultAsks stops_log (AsksLog ended.writes.failed) alone.places (opened_store (limits_of z) (found_in ended)) new_client over.done answered.replies
      by_event (inl e) in_it =
          let there : IsIn (log_failed e.0) s.knows.participant.past = subst (λ (x : Event). IsIn x s.knows.participant.past) e.1 in_it in
          subst (λ (entries : List Entry). FaultAsks stops_log (AsksLog entries) alone.places (opened_store (limits_of z) (found_in ended)) new_client over.done answered.replies) (sym (ended.faults.failed e.0 (in_past (log_failed e.0) there)).1) (alone.asked e.0 there)
      by_event (inr e) in_it =
          let there : IsIn log_stopped s.knows.participant.past = subst (λ (x : Event). IsIn x s.knows.participant.past) e in_it in
          subst (λ (entries : List Entry). FaultAsks stops_log (AsksLog entries) alone.places (opened_store (limits_of z) (found_in ended)) new_client over.done answered.replies) (sym (ended.faults.unfailed (in_past log_stopped there)).2) (alone.asked_none there)

  asked_tables : alone.store.halted ≡ true → FaultAsks (λ command answer. kinds.is_tables_fault answer) (AsksEdit ended.edits.failed) alone.places (opened_store (limits_of z) (found_in ended)) new_client over.done answered.replies
  asked_tables up =
      let one : one_if alone.store.halted ≡ 1 = rw up refl in let same = alone.halted in
      let k = counted_in is_tables_fault s.knows.participant.past (omega (arith, one, same)) in let e = tables_fault_is k.0 k.2 in
      let there : IsIn (tables_failed e.0 e.1) s.knows.participant.past = subst (λ (x : Event). IsIn x s.knows.participant.past) e.2 k.1 in
      let counted = over.tables_failed in
      let failed = ended.installed.failed e.0 e.1 (in_past (tables_failed e.0 e.1) there) in
      subst (λ (edit : Option InstalledEdit). FaultAsks (λ command answer. kinds.is_tables_fault answer) (AsksEdit edit) alone.places (opened_store (limits_of z) (found_in ended)) new_client over.done answered.replies) (sym failed.2)
      (by e.0 e.1 there (count_any kinds.is_tables_fault answered.replies (omega (arith, one, same, counted))))
    where
      by : (last : InstalledEdit) (edit : Option InstalledEdit) → IsIn (tables_failed last edit) s.knows.participant.past → list_any kinds.is_tables_fault answered.replies ≡ true → FaultAsks (λ command answer. kinds.is_tables_fault answer) (AsksEdit edit) alone.places (opened_store (limits_of z) (found_in ended)) new_client over.done answered.replies
      by last (Some edit) there said = alone.asked_edit last edit there
      by last None there said = asks_any kinds.is_tables_fault (AsksEdit None) (λ x y c. tt) alone.places (opened_store (limits_of z) (found_in ended)) new_client over.done answered.replies alone.store alone.client alone.ran (any_in kinds.is_tables_fault answered.replies said)

  pub exact : IsExact (limits_of z) (found_in ended) (left_in ended) (failed_in ended) (record { client = part.client; commands = over.done } ∷ []) (answered.replies ∷ [])
  exact = (alone.places, alone.store, alone.client, alone.ran, (λ i. record { history = same_history i; edit = same_edit i }), asked_log, asked_tables)
