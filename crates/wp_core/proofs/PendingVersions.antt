-- The versions of the pending entry come into memory, and go out of it, soundly.
use Rattle.std.proofs.Common.{◌≡◌, ◌≢◌, inl, inr, ℕ, suc, ◌≤◌, nat_le, ◌==◌, ◌&&◌, eq-eqb, ne_eqb, Bool, true, false, cond, List, [], ◌∷◌, ◌++◌, length, refl, sym, ap, ◌∙◌, Option, Some, None, le_trans, arith}
use Rattle.std.proofs.lemmas.Bool.{cases_lt}
use Rattle.std.proofs.lemmas.Bool.Decides.{nat_tests}
use Rattle.std.specs.Str.{bytes_eq}
use mathlib.Core.Option.{some}
use mathlib.Core.Logic.{dite}
use native.Mathlib.Decide.{ℕ_discrete}
use lib.ListN.{get_elem?}
use Rattle.wp_model.specs.declared.entry.Entry.{Entry}
use Rattle.wp_model.specs.declared.version.Version.{Version}
use Rattle.wp_model.specs.Covered.{IsCovered, GivesStore}
use Rattle.wp_model.specs.Decision.{version_in, entry_version}
use Rattle.wp_model.specs.Versions.{version_at}
use Rattle.wp_core.specs.Entries.{next_of, HasVersionsAt}
use Rattle.wp_core.specs.States.{StoreState, store, up_to}
use Rattle.wp_core.specs.Turns.{Holds, write_turn, store_turn}
use Rattle.wp_core.specs.Views.{Fact, versions_in_memory, versions_nowhere, nothing_flushed, frozen_stay}
use Rattle.wp_core.specs.World.{Participant, Actor, World, with_content}
use Rattle.wp_core.specs.Steps.{Step, add_versions, take_versions}
use Rattle.wp_core.specs.Changes.{held_with, change}
use Rattle.wp_core.specs.Effects.{done}
use Rattle.wp_core.specs.Needs.{Needs}
use Rattle.wp_core.specs.Notes.{forgets}
use Rattle.wp_core.specs.Sound.Store.{IsStored, IsInStep, NoneFlushed}
use Rattle.wp_core.specs.Sound.Views.{IsSo}
use Rattle.wp_core.specs.IsSound.{IsSound}
use Rattle.wp_model.proofs.Entries.{entry_at_past}
use Rattle.wp_core.proofs.AllParts.{SoIn, views_of, pasts_of, readers_still, turns_changed, quiet_step}
use Rattle.wp_core.proofs.Quiet.{idle_after, NotesStay, Stays, stays_not, notes_by, noted_after}
use Rattle.wp_model.proofs.Tests.{both, none_either}

-- ---- look-ups

both_same : (xs ys zs : List Version) (key : List ℕ) (p : ℕ) → version_at xs key p ≡ version_at ys key p → version_at (xs ++ zs) key p ≡ version_at (ys ++ zs) key p
both_same xs ys zs key p e = at_both xs ∙ (ap (λ (o : Option (Option (List ℕ))). or_else o (version_at zs key p)) e ∙ sym (at_both ys))
  where
    or_else : Option (Option (List ℕ)) → Option (Option (List ℕ)) → Option (Option (List ℕ))
    or_else None y = y
    or_else (Some x) y = Some x

    by_test : (b : Bool) (x y z : Option (Option (List ℕ))) (v : Option (List ℕ)) → x ≡ or_else y z → cond b (Some v) x ≡ or_else (cond b (Some v) y) z
    by_test true x y z v f = refl
    by_test false x y z v f = f

    at_both : (vs : List Version) → version_at (vs ++ zs) key p ≡ or_else (version_at vs key p) (version_at zs key p)
    at_both [] = refl
    at_both (v ∷ vs) = by_test (bytes_eq v.key key && (v.number == p)) (version_at (vs ++ zs) key p) (version_at vs key p) (version_at zs key p) v.value (at_both vs)

one_up_to : (v : Version) (F : List Version) (key : List ℕ) (p : ℕ) (a b c : Bool) (x : Option (Option (List ℕ))) → (bytes_eq v.key key && (v.number == p)) ≡ b → (b ≡ true → a ≡ c) → version_at F key p ≡ cond c x None → version_at (cond a (v ∷ F) F) key p ≡ cond c (cond b (Some v.value) x) None
one_up_to v F key p true true c x is tie rest = ap (λ (t : Bool). cond t (Some v.value) (version_at F key p)) is ∙ ap (λ (t : Bool). cond t (Some v.value) None) (tie refl)
one_up_to v F key p true false c x is tie rest = ap (λ (t : Bool). cond t (Some v.value) (version_at F key p)) is ∙ rest
one_up_to v F key p false true c x is tie rest = rest ∙ (ap (λ (t : Bool). cond t x None) (sym (tie refl)) ∙ ap (λ (t : Bool). cond t (Some v.value) None) (tie refl))
one_up_to v F key p false false c x is tie rest = rest

pub at_up_to : (n : ℕ) (vs : List Version) (key : List ℕ) (p : ℕ) → version_at (up_to n vs) key p ≡ cond (nat_le p n) (version_at vs key p) None
at_up_to n [] key p = none_either (nat_le p n)
at_up_to n (v ∷ vs) key p =
    one_up_to v (up_to n vs) key p (nat_le v.number n) (bytes_eq v.key key && (v.number == p)) (nat_le p n) (version_at vs key p) refl
    (λ e. let m : ℕ = v.number in let q : (m == p) ≡ true = (both (bytes_eq v.key key) (v.number == p) e).1 in let same : m ≡ p = grind (arith, nat_tests) in ap (λ (k : ℕ). nat_le k n) same) (at_up_to n vs key p)

pub gives_same : (xs ys : List Version) (history : List Entry) (key : List ℕ) (n : ℕ) → ((p : ℕ) → version_at ys key p ≡ version_at xs key p) → GivesStore xs history key n → GivesStore ys history key n
gives_same xs ys history key n same (inl k) = inl record { number = k.number; value = k.value; there = same k.number ∙ k.there; committed = k.committed; newest = λ q lt is. same q ∙ k.newest q lt is; stored = k.stored }
gives_same xs ys history key n same (inr k) = inr record { none = λ p is. same p ∙ k.none p is; missing = k.missing }

-- what covers a history hangs on look-ups alone
pub covers_same : (xs ys : List Version) (history : List Entry) (numbers : List ℕ) (from : ℕ) → ((key : List ℕ) (p : ℕ) → version_at ys key p ≡ version_at xs key p) → IsCovered xs history numbers from → IsCovered ys history numbers from
covers_same xs ys history numbers from same k = record {
  part = λ key p value e. k.part key p value (sym (same key p) ∙ e);
  undecided = λ key p value u e. same key p ∙ k.undecided key p value u e;
  undone = λ key p value u e. same key (length history) ∙ k.undone key p value u e;
  listed = λ key n among. gives_same xs ys history key n (same key) (k.listed key n among);
  later = λ key n low high. gives_same xs ys history key n (same key) (k.later key n low high);
}

-- ---- the memory of a store changes at the next number alone

abbrev pub SoStored : World → StoreState → Participant → Fact → Type 0
SoStored w t = IsSo w.delayed_flag w.old_flag w.max_evicted w.cache w.writes w.prepared w.snapshots t w.locks w.installed

-- what is so of frozen versions
abbrev IsFrozen : List Entry → List Version → ℕ → List Version → Type 0
IsFrozen history memory n versions = (n ≤ length history) × ((key : List ℕ) (p : ℕ) → p ≤ n → version_at memory key p ≡ version_at versions key p)

module _ (w : World) (memory : List Version) (s : IsSound w) (next : Option Entry) (has : HasVersionsAt next (suc (length w.writes.history)) w.store.memory memory) (is_next : (key : List ℕ) (value : Option (List ℕ)) → version_in next key ≡ Some value → version_in (next_of w.writes.pending) key ≡ Some value) where
  at_else : (key : List ℕ) (p : ℕ) → p ≢ suc (length w.writes.history) → version_at memory key p ≡ version_at w.store.memory key p
  at_else key p ne = has key p ∙ ap (λ (b : Bool). cond b (version_in next key) (version_at w.store.memory key p)) (ne_eqb p (suc (length w.writes.history)) ne)

  at_next : (key : List ℕ) → version_at memory key (suc (length w.writes.history)) ≡ version_in next key
  at_next key = has key (suc (length w.writes.history)) ∙ ap (λ (b : Bool). cond b (version_in next key) (version_at w.store.memory key (suc (length w.writes.history)))) (eq-eqb (suc (length w.writes.history)) (suc (length w.writes.history)) refl)

  at_old : (key : List ℕ) (p : ℕ) → p ≤ length w.writes.history → version_at memory key p ≡ version_at w.store.memory key p
  at_old key p low = at_else key p (λ e. absurd (omega (arith, e)))

  covered_same : (key : List ℕ) (p : ℕ) → version_at (up_to (length w.writes.history) (memory ++ w.store.tables)) key p ≡ version_at (up_to (length w.writes.history) (w.store.memory ++ w.store.tables)) key p
  covered_same key p =
      at_up_to (length w.writes.history) (memory ++ w.store.tables) key p ∙ (by_test (nat_le p (length w.writes.history)) refl ∙ sym (at_up_to (length w.writes.history) (w.store.memory ++ w.store.tables) key p))
    where
      by_test : (b : Bool) → nat_le p (length w.writes.history) ≡ b → cond b (version_at (memory ++ w.store.tables) key p) None ≡ cond b (version_at (w.store.memory ++ w.store.tables) key p) None
      by_test true le = both_same memory w.store.memory w.store.tables key p (at_old key p (grind (arith, nat_tests)))
      by_test false le = refl

  is_within : (key : List ℕ) (p : ℕ) (value : Option (List ℕ)) → entry_version w.writes.history p key ≡ Some value → p ≤ length w.writes.history
  is_within key p value e =
      elim (cases_lt (length w.writes.history) p) [
        | inl past ↦ let q : None ≡ Some value = sym (ap (λ (o : Option Entry). version_in o key) (entry_at_past w.writes.history p past)) ∙ e in absurd (cc)
        | inr within ↦ within
      ]

  stored_now : IsStored w.writes.history w.writes.pending w.first_edit.segment.base w.snapshots (record w.store { memory = memory }) w.installed
  stored_now =
      let o = s.versions in record {
        covered = covers_same _ _ w.writes.history _ w.store.floor covered_same o.covered;
        based = o.based;
        floor = o.floor;
        next = λ key p value lt there.
            dite (ℕ_discrete p (suc (length w.writes.history)))
            (λ (e : p ≡ suc (length w.writes.history)). (e, is_next key value (sym (at_next key) ∙ (ap (version_at memory key) (sym e) ∙ there))))
            (λ (ne : p ≢ suc (length w.writes.history)). absurd (ne (o.next key p value lt (sym (at_else key p ne) ∙ there)).0));
        tables = o.tables;
        last = o.last;
        failed = o.failed;
        in_memory = λ key p value lt there. at_old key p (is_within key p value there) ∙ o.in_memory key p value lt there;
      }

  none_flushed_now : NoneFlushed w.store.memory w.installed.last.flushed → NoneFlushed memory w.installed.last.flushed
  none_flushed_now k key p low = at_old key p (le_trans low s.versions.last.flushed) ∙ k key p low

  in_step_now : IsInStep w.holders.tables w.store w.installed.last → IsInStep w.holders.tables (record w.store { memory = memory }) w.installed.last
  in_step_now k free = (none_flushed_now (k free).0, (k free).1)

  frozen_now : (n : ℕ) (versions : List Version) → IsFrozen w.writes.history w.store.memory n versions → IsFrozen w.writes.history memory n versions
  frozen_now n versions k = (k.0, λ key p low. at_old key p (le_trans low k.0) ∙ k.1 key p low)

-- a step of who holds the store turn
pub store_changes : (w : World) (by : ℕ) (a : Actor) (step : Step) (t : StoreState) → get_elem? w.actors by ≡ some a → Holds w.holders store_turn by → IsStored w.writes.history w.writes.pending w.first_edit.segment.base w.snapshots t w.installed
    → IsInStep w.holders.tables t w.installed.last → NotesStay w by step (SoStored w t) → IsSound w
    → IsSound (change w by (forgets w.writes.history (length w.cache) step a) (store t))
store_changes w by a step t at holds stored in_step notes s =
    let c : Actor = forgets w.writes.history (length w.cache) step a in
    let b : Actor = record c { held = held_with c.held (store t) } in
    quiet_step w (with_content w (store t)) by a b at refl
    (record { history = s.history; cache = s.cache; decided = s.decided; undecided = s.undecided; delayed = s.delayed; flags = s.flags; versions = stored; in_step = in_step; coupled = s.coupled; pending = s.pending })
    (views_of w s) s.locks (pasts_of w s) (turns_changed w by a b at (store t) holds refl s) (readers_still w by a b at refl s)
    (noted_after w by a b step (SoStored w t) at refl refl notes s) (idle_after w by a b store_turn at holds s refl) s

-- ---- they come

module _ (w : World) (memory : List Version) (s : IsSound w) (has : HasVersionsAt (next_of w.writes.pending) (suc (length w.writes.history)) w.store.memory memory) where
  so_added : (p : Participant) (fact : Fact) → Stays w (add_versions memory) write_turn fact → SoIn w p fact → SoStored w (record w.store { memory = memory }) p fact
  so_added p versions_in_memory stays k = λ key value e. at_next w memory s (next_of w.writes.pending) has (λ _ _ f. f) key ∙ e
  so_added p versions_nowhere stays k = absurd (stays_not write_turn stays)
  so_added p nothing_flushed stays k = none_flushed_now w memory s (next_of w.writes.pending) has (λ _ _ f. f) k
  so_added p (frozen_stay n versions) stays k = frozen_now w memory s (next_of w.writes.pending) has (λ _ _ f. f) n versions k
  so_added p fact stays k = k

pub adds_versions : (w : World) (by : ℕ) (a : Actor) (memory : List Version) → get_elem? w.actors by ≡ some a → Needs w by a (add_versions memory) → IsSound w → IsSound (done w by (forgets w.writes.history (length w.cache) (add_versions memory) a) (add_versions memory))
adds_versions w by a memory at n s =
    store_changes w by a (add_versions memory) (record w.store { memory = memory }) at n.1 (stored_now w memory s (next_of w.writes.pending) n.2 (λ _ _ f. f)) (in_step_now w memory s (next_of w.writes.pending) n.2 (λ _ _ f. f) s.in_step)
    (notes_by w by (add_versions memory) write_turn _ n.0 (so_added w memory s n.2)) s

-- ---- they go

not_in_none : (key : List ℕ) (value : Option (List ℕ)) (C : Type 0) → version_in None key ≡ Some value → C
not_in_none key value C e = let q : ◌≡◌ {A = Option (Option (List ℕ))} None (Some value) = e in absurd (cc)

module _ (w : World) (memory : List Version) (s : IsSound w) (has : HasVersionsAt None (suc (length w.writes.history)) w.store.memory memory) where
  so_taken : (p : Participant) (fact : Fact) → Stays w (take_versions memory) write_turn fact → SoIn w p fact → SoStored w (record w.store { memory = memory }) p fact
  so_taken p versions_in_memory stays k = absurd (stays_not write_turn stays)
  so_taken p versions_nowhere stays k = λ key. at_next w memory s None has (λ y v f. not_in_none y v _ f) key
  so_taken p nothing_flushed stays k = none_flushed_now w memory s None has (λ y v f. not_in_none y v _ f) k
  so_taken p (frozen_stay n versions) stays k = frozen_now w memory s None has (λ y v f. not_in_none y v _ f) n versions k
  so_taken p fact stays k = k

pub takes_versions : (w : World) (by : ℕ) (a : Actor) (memory : List Version) → get_elem? w.actors by ≡ some a → Needs w by a (take_versions memory) → IsSound w → IsSound (done w by (forgets w.writes.history (length w.cache) (take_versions memory) a) (take_versions memory))
takes_versions w by a memory at n s =
    store_changes w by a (take_versions memory) (record w.store { memory = memory }) at n.1 (stored_now w memory s None n.2 (λ y v f. not_in_none y v _ f)) (in_step_now w memory s None n.2 (λ y v f. not_in_none y v _ f) s.in_step)
    (notes_by w by (take_versions memory) write_turn _ n.0 (so_taken w memory s n.2)) s
