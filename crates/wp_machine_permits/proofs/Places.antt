-- What is at a place of a list, once its items are changed.
use Rattle.std.proofs.Common.{◌≡◌, ◌≢◌, ◌==◌, ◌⊎◌, inl, inr, not, true, ℕ, zero, suc, ◌<◌, List, [], ◌∷◌, length, map, get_or, sym, ap, arith}
use Rattle.std.proofs.lemmas.Bool.{eq-eqb}
use mathlib.Core.Option.{some}
use lib.ListN.{get_elem?}

pub mapped_at : {X Y : Type 0} (f : X → Y) (xs : List X) (i : ℕ) (x : X) → i < length xs → x ≡ get_or xs i x → get_elem? (map f xs) i ≡ some (f x)
mapped_at f [] i x lt e = absurd (omega arith)
mapped_at f (y ∷ ys) zero x lt e = ap (λ z. some (f z)) (sym e)
mapped_at f (y ∷ ys) (suc i) x lt e = mapped_at f ys i x (omega arith) e

pub apart_either : (a b i : ℕ) → ((not (a == b) ≡ true) ⊎ (i ≢ 0)) → (a ≢ b) ⊎ (i ≢ 0)
apart_either a b i (inl e) = inl (λ same. let is = eq-eqb a b same in absurd cc)
apart_either a b i (inr e) = inr e
