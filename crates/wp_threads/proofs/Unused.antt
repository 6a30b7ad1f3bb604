-- A store that was ended with its first seat alone, at which nothing was done that lasts.
use Rattle.std.proofs.Common.{◌≡◌, inl, inr, ℕ, zero, suc, ◌+◌, ◌<◌, ◌≤◌, Bool, List, [], ◌∷◌, length, refl, sym, subst, ap, ◌∙◌, arith}
use mathlib.Core.Option.{some-injective, some-ne-none}
use lib.ListN.{get_elem?}
use Rattle.wp_model.specs.declared.entry.Entry.{Entry}
use Rattle.wp_model.specs.Flushed.{InstalledEdit}
use Rattle.wp_text.specs.declared.script.Part.{Part}
use Rattle.wp_core.specs.Lists.{IsIn, one_if}
use Rattle.wp_core.specs.Sound.Actors.{once, times}
use Rattle.wp_core.specs.Sound.Pasts.{AreEdits, HasDone, closes_log, is_log_fault, is_tables_fault, past_of, times_past}
use Rattle.wp_core.specs.Views.{Event}
use Rattle.wp_parts.specs.Devices.{DevicesLeft}
use Rattle.wp_shared.specs.Ended.{IsEnded, of_seats}
use Rattle.wp_shared.specs.Seats.{SharedState, SeatState}
use Rattle.wp_replies.specs.Explains.{Explains}
use Rattle.wp_client.specs.Alone.{limits_of}
use Rattle.wp_client.specs.Holdings.{no_holdings, Holds}
use Rattle.wp_threads.specs.Explained.{found_in, left_in, failed_in, faults_in, is_log_stop, HaveRun}
use Rattle.wp_threads.specs.Idle.{IsUnused}
use Rattle.wp_seats.specs.New.{first_seat}
use Rattle.wp_threads.specs.Over.{Answered}
use Rattle.wp_threads.proofs.Begun.{holds_new}
use Rattle.wp_client.proofs.Alone.Published.{since}

abbrev one_past : List (List (List Event))
one_past = ([] ∷ []) ∷ []

nothing_done : (j i : ℕ) (event : Event) → HasDone one_past j i event → ⊥
nothing_done zero zero event (past, (pasts, at, there), is) =
    let past_is : [] ≡ past = some-injective [] past (ap (λ (x : List (List Event)). get_elem? x 0) (some-injective ([] ∷ []) pasts at) ∙ there) in
    absurd (subst (IsIn event) (sym past_is) is)
nothing_done zero (suc i) event (past, (pasts, at, there), is) = absurd (some-ne-none past (sym (ap (λ (x : List (List Event)). get_elem? x (suc i)) (some-injective ([] ∷ []) pasts at) ∙ there)))
nothing_done (suc j) i event (past, (pasts, at, there), is) = absurd (some-ne-none pasts (sym at))

module _ {D : Type 0} {z : SharedState D} (s : SeatState) (is : IsUnused z s) {history : List Entry} {left : DevicesLeft} (ended : IsEnded z (s ∷ []) history left) where
  same_pasts : of_seats past_of (s ∷ []) ≡ one_past
  same_pasts = λ i. (is.past i ∷ []) ∷ []

  times_none : (test : Event → Bool) → 0 ≡ times_past test (of_seats past_of (s ∷ []))
  times_none test = ap (times_past test) (sym same_pasts)

  installed : AreEdits ended.first_edit ended.edits one_past
  installed = subst (AreEdits ended.first_edit ended.edits) same_pasts ended.installed

  same_edit : ended.edits.last ≡ ended.first_edit
  same_edit = elim (installed.edit 0 0 [] ([] ∷ [], refl, refl)) [
    | inl same ↦ same
    | inr other ↦ absurd (nothing_done other.2.0 other.2.1 _ other.2.3)
  ]

  not_halted : 0 ≡ one_if ended.edits.halted
  not_halted = times_none is_tables_fault ∙ ended.faults.tables

  none_published : (n : ℕ) → 0 ≡ once z.opened history n
  none_published n = ap (times n) (sym is.own) ∙ (let owned = ended.owned n in omega (arith, owned))

  none_new : (n : ℕ) → length z.opened < n → n ≤ length history → ⊥
  none_new n low high = let none = none_published n in let one = since z.opened history n low high in omega (arith, none, one)

  no_faults : (faults_in ended).log + (faults_in ended).renewals ≡ 0
  no_faults = let log = times_none is_log_fault in let renewals = times_none is_log_stop in omega (arith, log, renewals)

  explains_none : Explains (limits_of z) (faults_in ended) [] [] (found_in ended) (left_in ended) (failed_in ended) []
  explains_none = record {
    legal = ended.legal;
    begins = ended.grown;
    answered = tt;
    paired = λ n low high. absurd (none_new n low high);
    log_failed = times_none is_log_fault;
    log_stopped = sym no_faults;
    stopped = λ said. absurd cc;
    tables_failed = not_halted;
    halted = λ said. absurd cc;
    edit = record {
      said = inl (ap (λ (e : InstalledEdit). e.flushed) same_edit);
      kept = installed.rises ended.first_edit.flushed (inl refl);
      greatest = λ n said. absurd cc;
      based = inl (ap (λ (e : InstalledEdit). e.segment.base) same_edit);
      risen = let same = ap (λ (e : InstalledEdit). e.segment.base) same_edit in omega (arith, same);
      in_place = λ none. ap (λ (e : InstalledEdit). e.segment) same_edit;
      unchanged = λ none. same_edit;
    };
  }

  holds_none : (t : SeatState) → IsIn t (s ∷ []) → Holds z t no_holdings
  holds_none t (inl same) = subst (λ (x : SeatState). Holds z x no_holdings) same is.holds
  holds_none t (inr none) = absurd none

  none_ran : HaveRun z [] [] history left
  none_ran = record {
    seats = s ∷ [];
    ended = ended;
    empty = holds_none;
    run = [];
    first = tt;
    whole = tt;
    explained = explains_none;
    within = λ n low high. absurd (none_new n low high);
    closed = no_faults ∙ (times_none closes_log ∙ ended.faults.log);
    by_device = λ some. let none = no_faults in absurd (omega (arith, some, none));
    behind = λ some. let none = no_faults in absurd (omega (arith, some, none));
    exact = tt;
  }

-- so nothing of a script without parts ran, and that is all of it
pub unused_run : {D : Type 0} (z : SharedState D) (s : SeatState) (seats : List SeatState) (history : List Entry) (left : DevicesLeft) → IsUnused z s → seats ≡ s ∷ [] → IsEnded z seats history left → HaveRun z [] [] history left
unused_run z s seats history left is all ended = none_ran s is (subst (λ (ss : List SeatState). IsEnded z ss history left) all ended)

-- the first seat as it was made is such a seat
pub new_unused : {D : Type 0} (z : SharedState D) (client : List ℕ) (s : SeatState) → s ≡ first_seat z client → IsUnused z s
new_unused z client s same = subst (IsUnused z) (sym same) (record {
  only = record { by = refl; made = refl; joined = refl };
  holds = holds_new z client (first_seat z client) (record { table = refl; turns = refl; made = 0; knows = refl });
  own = refl;
  past = refl;
})

-- the same of a script that has no part
pub run_of_none : {D : Type 0} (z : SharedState D) (parts : List Part) (answered : List Answered) (history : List Entry) (left : DevicesLeft) → length parts ≡ 0 → answered ≡ [] → HaveRun z [] [] history left → HaveRun z parts answered history left
run_of_none z [] answered history left none nothing run = subst (λ (a : List Answered). HaveRun z [] a history left) (sym nothing) run
run_of_none z (part ∷ parts) answered history left none nothing run = absurd (omega (arith, none))
