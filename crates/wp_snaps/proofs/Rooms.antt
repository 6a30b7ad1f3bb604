-- Where there is room, as one live number after another is passed.
use Rattle.std.proofs.Common.{◌≡◌, ℕ, ◌+◌, ◌<◌, ◌≤◌, List, Option, Some, None, IfSome, inl, inr, refl, sym, ◌∙◌, subst, arith}
use Rattle.std.specs.Cmp.{unsigned_tied}
use Rattle.std.proofs.lemmas.Bool.{cases_lt, cases_order, eq-eqb, ne_eqb}
use Rattle.wp_snaps.specs.Room.{RoomySnapshot}
use Rattle.wp_snaps.proofs.Shown.{snapshot_at, UpdatedAt}

-- each live number from `from` on and below `end` has room
abbrev pub RoomIn : List (ℕ × RoomySnapshot) → ℕ → ℕ → Type 0
RoomIn es from end = (q : ℕ) → from ≤ q → q < end → IfSome (snapshot_at es q) (λ x. 0 < x.room)

pub at_updated : (es ns : List (ℕ × RoomySnapshot)) (s q : ℕ) (w : Option RoomySnapshot) → UpdatedAt es ns s w → s ≡ q → snapshot_at ns q ≡ w
at_updated es ns s q w updated same = updated q ∙ rw (unsigned_tied s q, eq-eqb s q same) refl

pub at_other : (es ns : List (ℕ × RoomySnapshot)) (s q : ℕ) (w : Option RoomySnapshot) → UpdatedAt es ns s w → (s ≡ q → ⊥) → snapshot_at ns q ≡ snapshot_at es q
at_other es ns s q w updated apart = updated q ∙ rw (unsigned_tied s q, ne_eqb s q apart) refl

HasOne : Option RoomySnapshot → Type 0
HasOne o = IfSome o (λ x. 0 < x.room)

-- s is the next live number, and has room now
pub room_at_next : (es ns : List (ℕ × RoomySnapshot)) (start from s : ℕ) (w : RoomySnapshot) → UpdatedAt es ns s (Some w) → RoomIn es start from → ((q : ℕ) → from ≤ q → q < s → snapshot_at es q ≡ None) → 0 < w.room → RoomIn ns start (s + 1)
unfolding HasOne
room_at_next es ns start from s w updated room none roomy q low high =
    elim (cases_order s q) [
      | inl same ↦ subst HasOne (sym (at_updated es ns s q (Some w) updated same)) roomy
      | inr (inl above) ↦ absurd (omega arith)
      | inr (inr below) ↦
          let other = at_other es ns s q (Some w) updated (λ e. omega arith) in
          elim (cases_lt q from) [
            | inl passed ↦ subst HasOne (sym other) (room q low passed)
            | inr left ↦ subst HasOne (sym (other ∙ none q left below)) tt
          ]
    ]

-- s was changed, and the numbers above it have the room that they had
pub room_above : (es ns : List (ℕ × RoomySnapshot)) (from end s : ℕ) (w : Option RoomySnapshot) → UpdatedAt es ns s w → RoomIn es from end → from ≤ s → RoomIn ns (s + 1) end
unfolding HasOne
room_above es ns from end s w updated room next q low high =
    subst HasOne (sym (at_other es ns s q w updated (λ e. omega arith))) (room q (omega arith) high)
