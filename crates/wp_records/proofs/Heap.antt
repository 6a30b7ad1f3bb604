-- The number of a pending Prepare, and the prepared sets.
use Rattle.std.proofs.Common.{◌≡◌, inl, inr, ℕ, suc, ◌||◌, Bool, true, false, true≢false, List, [], ◌∷◌, length, refl, sym, subst, ap, ◌∙◌, Some, None, arith}
use Rattle.std.specs.Cmp.{nat_cmp_total}
use Rattle.std.specs.Ordering.{nat_cmp}
use Rattle.std.specs.FinSet as set
use Rattle.std.specs.FinSet.{nat_cmp-IsAntisymmetric}
use Rattle.std.specs.FinMap as finite
use Rattle.std.proofs.lemmas.Bool.{false_from_ne_true, cases_eq}
use Rattle.wp_model.specs.PreparedSets.{PreparedSets, NoneDelayed}
use Rattle.wp_prepared.specs.Least.{AreBelow}
use Rattle.wp_core.specs.Lists.{IsIn}
use Rattle.wp_core.specs.States.{WriteState, Content, writes, prepared}
use Rattle.wp_core.specs.Views.{delayed_flag_stays, number_not_in_heap}
use Rattle.wp_core.specs.World.{Actor, World}
use Rattle.wp_core.proofs.HistoryGrows.{none_is}
use Rattle.wp_model.proofs.Tests.{none_some}
use Rattle.wp_core.specs.Entries.{extended, pending_pair}
use Rattle.wp_commits.proofs.Passed.{extended_legal}
use Rattle.wp_commits.proofs.Words.{decided_without}
use Rattle.wp_core.proofs.HistoryLaws.{decided_late}
use Rattle.wp_model.proofs.Numbers.{in_removed, in_removed_else, get_removed, get_removed_else}
use Rattle.wp_judge.specs.Words.{commit_pair}
use Rattle.wp_rule.specs.Knows.{Noted}
use Rattle.wp_rule.specs.Words.{IsAt}
use Rattle.wp_rule.proofs.Knows.{at_sound, noted_is}
use Rattle.wp_rule.proofs.Needed.{within_next}
use Rattle.wp_shared.specs.Seats.{SharedState, SeatState, Stands, place_at}
use Rattle.wp_shared.specs.Notes.{GoesOn, DelayedFlagTells}
use Rattle.wp_shared.proofs.Goes.{stays}
use Rattle.wp_shared.proofs.Tables.{held_state}
use Rattle.wp_records.specs.Stages.{is_of_heap, is_of_number, HasPrepare}
use Rattle.wp_records.proofs.Facts.{heap_alone}

-- a seat that holds both states, in a world of the store
module _ {D : Type 0} (z : SharedState D) (s t : SeatState) (d : WriteState) (tables : PreparedSets) (same : t ≡ s) (at : (w : World) × Stands z t w) (held : s.knows.held ≡ prepared tables ∷ writes d ∷ []) where
  abbrev w : World
  w = at.0

  there : IsAt (place_at z s.by) s.knows w
  there = subst (λ (x : SeatState). IsAt (place_at z x.by) x.knows w) same at.1

  tables_are : w.prepared ≡ tables
  tables_are = held_state (place_at z s.by) s.knows w (prepared tables) there (subst (IsIn (prepared tables)) (sym held) (inl refl))

  writes_is : w.writes ≡ d
  writes_is = held_state (place_at z s.by) s.knows w (writes d) there (subst (IsIn (writes d)) (sym held) (inr (inl refl)))

  abbrev n : ℕ
  n = suc (length d.history)

  next_is : suc (length w.writes.history) ≡ n
  next_is = ap (λ (x : WriteState). suc (length x.history)) writes_is

  -- the next number is above those of the heap, if it is not there
  pub heap_below : Noted s.knows number_not_in_heap → AreBelow tables.heap n
  heap_below below q in_heap =
      let here : set.contains w.prepared.heap q ≡ true = ap (λ (x : PreparedSets). set.contains x.heap q) tables_are ∙ in_heap in
      let low = within_next (place_at z s.by) s.knows w there q (ap (λ (b : Bool). b || set.contains w.prepared.delayed q) here) in
      let none : set.contains w.prepared.heap (suc (length w.writes.history)) ≡ false = (noted_is (place_at z s.by) s.knows w number_not_in_heap there below).is_so in
      elim (cases_eq q (suc (length w.writes.history))) [
        | inl here_too ↦ absurd (true≢false (sym here ∙ (ap (set.contains w.prepared.heap) here_too ∙ none)))
        | inr apart ↦ let len = next_is in omega (arith, apart, low, len)
      ]

  not_delayed : set.contains tables.delayed n ≡ false
  not_delayed = false_from_ne_true (set.contains tables.delayed n) (λ in_delayed.
      let here : set.contains w.prepared.delayed n ≡ true = ap (λ (x : PreparedSets). set.contains x.delayed n) tables_are ∙ in_delayed in
      let low = (at_sound (place_at z s.by) s.knows w there).undecided.delayed_passed n here in let most = (at_sound (place_at z s.by) s.knows w there).history.bounded in
      let len = next_is in absurd (omega (arith, low, most, len)))

  not_committed : HasPrepare d → finite.get tables.delayed_commits n ≡ None
  not_committed prepare = none_is (finite.get tables.delayed_commits n) (λ c is.
      let here : finite.get w.prepared.delayed_commits n ≡ Some c = ap (λ (x : PreparedSets). finite.get x.delayed_commits n) tables_are ∙ is in
      let sound = at_sound (place_at z s.by) s.knows w there in let len = next_is in
      let next = sound.delayed.commits n c here in
      let late = decided_late (extended w.writes.history w.writes.pending) n c (extended_legal w.writes.history w.writes.pending sound.history.legal sound.history.legal_next) next in
      let none : pending_pair w.writes.history w.writes.pending ≡ None = ap (λ (x : WriteState). pending_pair x.history x.pending) writes_is ∙ ap (pending_pair d.history) prepare.3 in
      let low = (decided_without w.writes.history w.writes.pending (commit_pair n c) (λ e. none_some (pending_pair w.writes.history w.writes.pending) (commit_pair n c) none e) late next).1 in absurd (omega (arith, low, late, len)))

  removed_same : set.remove tables.delayed n ≡ tables.delayed
  removed_same = set.same_set nat_cmp_total nat_cmp-IsAntisymmetric (set.remove tables.delayed n) tables.delayed (λ q. elim (cases_eq q n) [
    | inl here ↦ ap (set.contains (set.remove tables.delayed n)) here ∙ (in_removed tables.delayed n ∙ sym (ap (set.contains tables.delayed) here ∙ not_delayed))
    | inr apart ↦ in_removed_else tables.delayed n q apart
  ])

  commits_same : HasPrepare d → finite.remove tables.delayed_commits n ≡ tables.delayed_commits
  commits_same prepare = finite.same_map nat_cmp_total nat_cmp-IsAntisymmetric (finite.remove tables.delayed_commits n) tables.delayed_commits (λ q. elim (cases_eq q n) [
    | inl here ↦ ap (finite.get (finite.remove tables.delayed_commits n)) here ∙ (get_removed tables.delayed_commits n ∙ sym (ap (finite.get tables.delayed_commits) here ∙ not_committed prepare))
    | inr apart ↦ get_removed_else tables.delayed_commits n q apart
  ])

  -- the next number was in the heap at most
  pub left_heap : HasPrepare d → (after : PreparedSets) → after.heap ≡ set.remove tables.heap n → after.delayed ≡ set.remove tables.delayed n → after.delayed_commits ≡ finite.remove tables.delayed_commits n → after ≡ record tables { heap = set.remove tables.heap n }
  left_heap prepare after heap delayed commits = let one = delayed ∙ removed_same in let two = commits ∙ commits_same prepare in λ i. record { heap = heap i; delayed = one i; delayed_commits = two i }

-- the flag tells the same of prepared sets with another heap
pub flag_still : (a b : Actor) (t u : PreparedSets) (heap : set.FinSet nat_cmp) → u ≡ record t { heap = heap } → ((value : ℕ) → Noted a (delayed_flag_stays value) → Noted b (delayed_flag_stays value)) → DelayedFlagTells a t → DelayedFlagTells b u
flag_still a b t u heap is keeps f = record { value = f.value; noted = keeps f.value f.noted; empty = λ e. subst NoneDelayed (sym is) (f.empty e); down = λ none. f.down (subst NoneDelayed is none) }

-- ---- the number comes, or goes

module _ (s t : SeatState) (d : WriteState) (old now : PreparedSets) (same : t ≡ s) (held : s.knows.held ≡ prepared old ∷ writes d ∷ []) where
  pub same_held : t.knows.held ≡ prepared old ∷ writes d ∷ []
  same_held = ap (λ (x : SeatState). x.knows.held) same ∙ held

  -- it was refused
  pub not_added : now ≡ old → GoesOn is_of_number (prepared now ∷ writes d ∷ []) s.turns s t
  not_added refused =
      subst (λ (x : SeatState). GoesOn is_of_number (prepared now ∷ writes d ∷ []) s.turns s x) (sym same)
      (subst (λ (h : List Content). GoesOn is_of_number h s.turns s s) (held ∙ ap (λ (x : PreparedSets). prepared x ∷ writes d ∷ []) (sym refused)) (stays is_of_number s s s))

  pub added_to : (n : ℕ) → n ≡ suc (length d.history) → now ≡ record old { heap = set.insert old.heap n }
      → (x : PreparedSets) × (t.knows.held ≡ prepared x ∷ writes d ∷ []) × (now ≡ record x { heap = set.insert x.heap (suc (length d.history)) })
  added_to n number is = (old, same_held, is ∙ ap (λ (m : ℕ). record old { heap = set.insert old.heap m }) number)

  -- the seat went on from the one that loaded
  pub went_on : (u : SeatState) → GoesOn is_of_heap (prepared now ∷ writes d ∷ []) t.turns t u → GoesOn is_of_number (prepared now ∷ writes d ∷ []) s.turns s u
  went_on u k = let here : GoesOn is_of_heap (prepared now ∷ writes d ∷ []) s.turns s u = subst (λ (x : SeatState). GoesOn is_of_heap (prepared now ∷ writes d ∷ []) x.turns x u) same k in
      record { same = here.same; noted = λ fact other there. here.noted fact (heap_alone fact other) there }

  pub flag_after : (u : SeatState) (heap : set.FinSet nat_cmp) → now ≡ record old { heap = heap } → GoesOn is_of_heap (prepared now ∷ writes d ∷ []) t.turns t u → DelayedFlagTells s.knows old → DelayedFlagTells u.knows now
  flag_after u heap is k f = flag_still s.knows u.knows old now heap is (λ value there. k.noted (delayed_flag_stays value) refl (subst (λ (x : SeatState). Noted x.knows (delayed_flag_stays value)) (sym same) there)) f
