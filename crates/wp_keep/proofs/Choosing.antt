-- Versions that are chosen by a test, and one more at the end.
use Rattle.std.proofs.Common.{◌≡◌, ◌<◌, Bool, true, false, cond, List, [], ◌∷◌, ◌++◌, length, map, get_or, refl, sym, ap, arith}
use Rattle.std.specs.List.{filter}
use Rattle.wp_model.specs.declared.version.Version.{Version}
use Rattle.wp_keep.specs.Chosen.{chosen}

pub chosen_by : (test : Version → Bool) (versions : List Version) → chosen versions (map test versions) ≡ filter test versions
chosen_by test [] = refl
chosen_by test (v ∷ versions) = ap (λ vs. cond (test v) (v ∷ vs) vs) (chosen_by test versions)

pub chosen_last : (versions : List Version) (are : List Bool) (v : Version) (b other : Bool) → length versions < length are → b ≡ get_or are (length versions) other → chosen (versions ++ v ∷ []) are ≡ chosen versions are ++ cond b (v ∷ []) []
chosen_last [] [] v b other lt is = absurd (omega (arith, lt))
chosen_last [] (c ∷ are) v b other lt is = ap (λ x. cond x (v ∷ []) []) (sym is)
chosen_last (w ∷ versions) [] v b other lt is = absurd (omega (arith, lt))
chosen_last (w ∷ versions) (c ∷ are) v b other lt is = by c (chosen_last versions are v b other (omega (arith, lt)) is)
  where
    by : (c : Bool) → chosen (versions ++ v ∷ []) are ≡ chosen versions are ++ cond b (v ∷ []) [] → cond c (w ∷ chosen (versions ++ v ∷ []) are) (chosen (versions ++ v ∷ []) are) ≡ cond c (w ∷ chosen versions are) (chosen versions are) ++ cond b (v ∷ []) []
    by true rest = ap (λ vs. w ∷ vs) rest
    by false rest = rest
