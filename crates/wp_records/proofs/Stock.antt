-- The versions of the pending entry, and what lies behind the store turn.
use Rattle.std.proofs.Common.{◌≡◌, ◌≢◌, ℕ, suc, ◌≤◌, ◌==◌, nat_le, cond, List, [], ◌∷◌, length, refl, inl, inr, sym, subst, ap, ◌∙◌, ne_eqb, Option, Some, None, arith}
use Rattle.std.proofs.lemmas.Bool.{cases_eq, cases_lt, eq-eqb, le-leb, lt-leb}
use Rattle.wp_model.specs.declared.change.Change.{Change}
use Rattle.wp_model.specs.declared.entry.Entry.{Entry}
use Rattle.wp_model.specs.declared.version.Version.{Version}
use Rattle.wp_model.specs.Legal.{changes_in}
use Rattle.wp_model.specs.Versions.{version_at}
use Rattle.wp_core.specs.Entries.{next_of, HasVersionsAt}
use Rattle.wp_core.specs.Lists.{IsIn}
use Rattle.wp_core.specs.States.{WriteState, StoreState, Content, writes, store}
use Rattle.wp_core.specs.Views.{versions_nowhere}
use Rattle.wp_core.specs.Sound.Views.{IsNowhere}
use Rattle.wp_rule.specs.Knows.{Noted}
use Rattle.wp_core.specs.World.{World}
use Rattle.wp_rule.specs.Words.{IsAt}
use Rattle.wp_rule.proofs.Knows.{at_sound, noted_is}
use Rattle.wp_parts.specs.Stock.{StockState, store_state, HasNoneAt}
use Rattle.wp_shared.specs.Seats.{SharedState, SeatState, Stands, place_at}
use Rattle.wp_shared.specs.Turns.{Taken}
use Rattle.wp_shared.specs.Notes.{GoesOn}
use Rattle.wp_shared.proofs.Goes.{stays}
use Rattle.wp_shared.proofs.Tables.{held_state}
use Rattle.wp_records.specs.Stages.{is_of_versions}

-- nothing of the pending entry is in the versions that a turn is taken with
pub nowhere_there : {D : Type 0} (z : SharedState D) (old new : SeatState) (t : StoreState) (d : WriteState) → Taken z old new (store t) → IsIn (writes d) old.knows.held → Noted old.knows versions_nowhere → IsNowhere d t
nowhere_there z old new t d k held noted =
    subst (λ (x : WriteState × StoreState). IsNowhere x.0 x.1) (λ i. (held_state (place_at z old.by) old.knows k.world (writes d) k.before held i, k.is i))
    (noted_is (place_at z old.by) old.knows k.world versions_nowhere k.before noted).is_so

-- ---- versions are put there

-- the stock with other versions in memory
made_of : (old now : StockState) → now ≡ record old { parts = record old.parts { memory = now.parts.memory } } → store_state now ≡ record (store_state old) { memory = (store_state now).memory }
made_of old now is = ap store_state is ∙ ap (λ (m : List Version). record (store_state old) { memory = m }) (sym (ap (λ (x : StockState). (store_state x).memory) is))

module _ (s : SeatState) (d : WriteState) (old now : StockState) (held : s.knows.held ≡ store (store_state old) ∷ writes d ∷ []) where
  -- it was refused
  pub not_inserted : now ≡ old → GoesOn is_of_versions (store (store_state now) ∷ writes d ∷ []) s.turns s s
  not_inserted same = subst (λ (h : List Content). GoesOn is_of_versions h s.turns s s) (held ∙ ap (λ (x : StockState). store (store_state x) ∷ writes d ∷ []) (sym same)) (stays is_of_versions s s s)

  pub inserted : (n : ℕ) (batch : List Change) → n ≡ suc (length d.history) → (entry : Entry) × (next_of d.pending ≡ Some entry) × (changes_in entry ≡ batch) → IsNowhere d (store_state old) → now ≡ record old { parts = record old.parts { memory = now.parts.memory } }
      → ((entry : Entry) → changes_in entry ≡ batch → HasNoneAt n (store_state old).memory → HasVersionsAt (Some entry) n (store_state old).memory (store_state now).memory)
      → (t : StoreState) × (s.knows.held ≡ store t ∷ writes d ∷ []) × (store_state now ≡ record t { memory = (store_state now).memory }) × HasVersionsAt (next_of d.pending) (suc (length d.history)) t.memory (store_state now).memory
  inserted n batch number entry nowhere others has = (
    store_state old,
    held,
    made_of old now others,
    subst (λ (x : Option Entry × ℕ). HasVersionsAt x.0 x.1 (store_state old).memory (store_state now).memory) (λ i. (sym entry.1 i, number i))
        (has entry.0 entry.2 (λ key. ap (version_at (store_state old).memory key) number ∙ nowhere key)),
  )

  -- those from the number on are taken out, and none is later
  module _ {D : Type 0} (z : SharedState D) (t : SeatState) (same : t ≡ s) (at : (w : World) × Stands z t w) where
    abbrev w : World
    w = at.0

    there : IsAt (place_at z s.by) s.knows w
    there = subst (λ (x : SeatState). IsAt (place_at z x.by) x.knows w) same at.1

    store_is : w.store ≡ store_state old
    store_is = held_state (place_at z s.by) s.knows w (store (store_state old)) there (subst (IsIn (store (store_state old))) (sym held) (inl refl))

    writes_is : w.writes ≡ d
    writes_is = held_state (place_at z s.by) s.knows w (writes d) there (subst (IsIn (writes d)) (sym held) (inr (inl refl)))

    none_later : (key : List ℕ) (p : ℕ) → suc (length d.history) ≤ p → p ≢ suc (length d.history) → version_at (store_state old).memory key p ≡ None
    none_later key p from other = by (version_at (store_state old).memory key p) refl
      where
        by : (o : Option (Option (List ℕ))) → version_at (store_state old).memory key p ≡ o → o ≡ None
        by None is = refl
        by (Some value) is =
            let len = ap (λ (x : WriteState). length x.history) writes_is in
            let last = ((at_sound (place_at z s.by) s.knows w there).versions.next key p value (omega (arith, len, from)) (ap (λ (x : StoreState). version_at x.memory key p) store_is ∙ is)).0 in
            absurd (other (last ∙ ap suc len))

    pub removed : (n : ℕ) → n ≡ suc (length d.history) → ((key : List ℕ) (p : ℕ) → version_at (store_state now).memory key p ≡ cond (nat_le n p) None (version_at (store_state old).memory key p)) → store_state now ≡ record (store_state old) { memory = (store_state now).memory }
        → (x : StoreState) × (t.knows.held ≡ store x ∷ writes d ∷ []) × (store_state now ≡ record x { memory = (store_state now).memory }) × HasVersionsAt None (suc (length d.history)) x.memory (store_state now).memory
    removed n number left others = (
      store_state old,
      ap (λ (x : SeatState). x.knows.held) same ∙ held,
      others,
      λ key p. left key p ∙ ap (λ (m : ℕ). cond (nat_le m p) None (version_at (store_state old).memory key p)) number ∙ at_number key p,
    )
      where
        at_number : (key : List ℕ) (p : ℕ) → cond (nat_le (suc (length d.history)) p) None (version_at (store_state old).memory key p) ≡ cond (p == suc (length d.history)) None (version_at (store_state old).memory key p)
        at_number key p = elim (cases_lt p (suc (length d.history))) [
          | inl lower ↦ rw (lt-leb (suc (length d.history)) p lower, ne_eqb p (suc (length d.history)) (λ is. absurd (omega (arith, is, lower)))) refl
          | inr from ↦ elim (cases_eq p (suc (length d.history))) [
            | inl here ↦ rw (le-leb (suc (length d.history)) p from, eq-eqb p (suc (length d.history)) here) refl
            | inr other ↦ rw (le-leb (suc (length d.history)) p from, ne_eqb p (suc (length d.history)) other) (sym (none_later key p from other))
          ]
        ]

    -- the seat went on from the one that loaded
    pub went_on : (u : SeatState) → GoesOn is_of_versions (store (store_state now) ∷ writes d ∷ []) t.turns t u → GoesOn is_of_versions (store (store_state now) ∷ writes d ∷ []) s.turns s u
    went_on u k = subst (λ (x : SeatState). GoesOn is_of_versions (store (store_state now) ∷ writes d ∷ []) x.turns x u) same k
