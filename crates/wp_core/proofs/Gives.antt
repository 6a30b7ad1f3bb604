-- Giving a turn keeps a world sound.
use Rattle.std.proofs.Common.{◌≡◌, ◌≢◌, ℕ, Bool, true, false, not, cond, ◌==◌, eq-eqb, ne_eqb, true≢false, List, [], ◌∷◌, refl, sym, ap, ◌∙◌, Option, Some, None, arith}
use mathlib.Core.Logic.{dite}
use native.Mathlib.Decide.{ℕ_discrete}
use Rattle.wp_core.specs.Lists.{IsIn}
use Rattle.wp_core.specs.Turns.{Turn, write_turn, prepared_turn, snapshots_turn, store_turn, locks_turn, tables_turn, Holders, Holds, turn_holder, with_holder}
use Rattle.wp_core.specs.States.{Content, turn_of}
use Rattle.wp_core.specs.Changes.{turn_index, held_without}
use Rattle.wp_core.specs.Sound.Actors.{AreHeld, NoneAfter}
use Rattle.wp_core.proofs.Frames.{filter_in}

-- ---- holders

pub now_holder : (h : Holders) (t : Turn) (x : Option ℕ) → turn_holder (with_holder h t x) t ≡ x
now_holder h write_turn x = refl
now_holder h prepared_turn x = refl
now_holder h snapshots_turn x = refl
now_holder h store_turn x = refl
now_holder h locks_turn x = refl
now_holder h tables_turn x = refl

pub other_holder : (h : Holders) (t u : Turn) (x : Option ℕ) → turn_index u ≢ turn_index t → turn_holder (with_holder h t x) u ≡ turn_holder h u
other_holder h write_turn write_turn x n = absurd (n refl)
other_holder h prepared_turn prepared_turn x n = absurd (n refl)
other_holder h snapshots_turn snapshots_turn x n = absurd (n refl)
other_holder h store_turn store_turn x n = absurd (n refl)
other_holder h locks_turn locks_turn x n = absurd (n refl)
other_holder h tables_turn tables_turn x n = absurd (n refl)
other_holder h t u x n = refl

pub same_turn : (t u : Turn) → turn_index u ≡ turn_index t → u ≡ t
same_turn write_turn write_turn e = refl
same_turn prepared_turn prepared_turn e = refl
same_turn snapshots_turn snapshots_turn e = refl
same_turn store_turn store_turn e = refl
same_turn locks_turn locks_turn e = refl
same_turn tables_turn tables_turn e = refl
same_turn t u e = absurd (omega arith)

-- a turn that another actor holds is another turn, and stays its own
pub others_turn : (h : Holders) (t u : Turn) (by j : ℕ) → Holds h t by → j ≢ by → Holds h u j → turn_index u ≢ turn_index t
others_turn h t u by j mine ne theirs e = let is : turn_holder h u ≡ turn_holder h t = ap (turn_holder h) (same_turn t u e) in let q : Some j ≡ Some by = sym theirs ∙ (is ∙ mine) in ne (cc)

pub still : (h : Holders) (t u : Turn) (by j : ℕ) → Holds h t by → j ≢ by → Holds h u j → Holds (with_holder h t None) u j
still h t u by j mine ne theirs = other_holder h t u None (others_turn h t u by j mine ne theirs) ∙ theirs

-- who holds a turn after another was given holds another one
pub was : (h : Holders) (t u : Turn) (j : ℕ) → Holds (with_holder h t None) u j → (turn_index u ≢ turn_index t) × Holds h u j
was h t u j holds = dite (ℕ_discrete (turn_index u) (turn_index t))
    (λ (e : turn_index u ≡ turn_index t). let n : turn_holder (with_holder h t None) u ≡ None = ap (turn_holder (with_holder h t None)) (same_turn t u e) ∙ now_holder h t None in let q : Some j ≡ None = sym holds ∙ n in absurd (cc))
    (λ (ne : turn_index u ≢ turn_index t). (ne, sym (other_holder h t u None ne) ∙ holds))

-- a turn that one actor holds no other holds
pub not_theirs : (h : Holders) (turn : Turn) (by j : ℕ) → Holds h turn by → j ≢ by → Holds h turn j → ⊥
not_theirs h turn by j mine ne theirs = let q : Some j ≡ Some by = sym theirs ∙ mine in ne (cc)

-- a turn that somebody holds is not free
pub not_free : (h : Holders) (turn : Turn) (by : ℕ) → Holds h turn by → turn_holder h turn ≡ None → ⊥
not_free h turn by mine free = let q : Some by ≡ None = sym mine ∙ free in absurd (cc)

-- ---- what is held

pub still_held : (h : Holders) (contents : Turn → Content) (t : Turn) (by j : ℕ) (held : List Content) → Holds h t by → j ≢ by → AreHeld h contents j held → AreHeld (with_holder h t None) contents j held
still_held h contents t by j [] mine ne k = tt
still_held h contents t by j (c ∷ others) mine ne k = (still h t (turn_of c) by j mine ne k.0, k.1, k.2, still_held h contents t by j others mine ne k.3)

one_after : (t u : Turn) (c : Content) (others : List Content) (b : Bool) → (turn_of c ≢ u) → NoneAfter u (held_without others t) → NoneAfter u (cond b (c ∷ held_without others t) (held_without others t))
one_after t u c others true ne k = (ne, k)
one_after t u c others false ne k = k

none_after : (t u : Turn) (held : List Content) → NoneAfter u held → NoneAfter u (held_without held t)
none_after t u [] k = tt
none_after t u (c ∷ others) k = one_after t u c others (not (turn_index (turn_of c) == turn_index t)) k.0 (none_after t u others k.1)

one_left : (h : Holders) (contents : Turn → Content) (t : Turn) (by : ℕ) (c : Content) (others : List Content) (b : Bool) → (b ≡ true → turn_index (turn_of c) ≢ turn_index t) → AreHeld h contents by (c ∷ others) → AreHeld (with_holder h t None) contents by (held_without others t)
    → AreHeld (with_holder h t None) contents by (cond b (c ∷ held_without others t) (held_without others t))
one_left h contents t by c others true ne k rest = (other_holder h t (turn_of c) None (ne refl) ∙ k.0, k.1, none_after t (turn_of c) others k.2, rest)
one_left h contents t by c others false ne k rest = rest

unequal : (n m : ℕ) → not (n == m) ≡ true → n ≢ m
unequal n m e q = let t : (n == m) ≡ true = eq-eqb n m q in let u : not (n == m) ≡ false = ap not t in absurd (true≢false (sym e ∙ u))

differ : (n m : ℕ) → n ≢ m → not (n == m) ≡ true
differ n m ne = ap not (ne_eqb n m ne)

pub left_held : (h : Holders) (contents : Turn → Content) (t : Turn) (by : ℕ) (held : List Content) → AreHeld h contents by held → AreHeld (with_holder h t None) contents by (held_without held t)
left_held h contents t by [] k = tt
left_held h contents t by (c ∷ others) k = one_left h contents t by c others (not (turn_index (turn_of c) == turn_index t)) (unequal (turn_index (turn_of c)) (turn_index t)) k (left_held h contents t by others k.3)

pub in_left : (t u : Turn) (c : Content) (held : List Content) → turn_of c ≡ u → turn_index u ≢ turn_index t → IsIn c held → IsIn c (held_without held t)
in_left t u c held is ne there = filter_in (λ d. not (turn_index (turn_of d) == turn_index t)) c held (differ (turn_index (turn_of c)) (turn_index t) (λ e. ne (sym (ap turn_index is) ∙ e))) there
