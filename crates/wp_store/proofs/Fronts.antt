-- The first n of merged lists are those of the lists' first n.
use Rattle.std.proofs.Common.{◌≡◌, ℕ, zero, suc, ◌≤◌, Less, Equal, Greater, List, [], ◌∷◌, take, map, refl, sym, ap, ◌∙◌, arith}
use Rattle.std.specs.declared.cmp.Ordering.{Ordering}
use Rattle.wp_model.specs.declared.version.Version.{Version}
use Rattle.wp_model.specs.Versions.{version_cmp}
use Rattle.wp_merge.specs.Merge.{choose_by_order, weave, merge_of}
use Rattle.wp_store.proofs.OneMerge.{merged_of}

take_less : (xs : List Version) (n a : ℕ) → n ≤ a → take n (take a xs) ≡ take n xs
take_less xs zero a h = refl
take_less xs (suc n) zero h = absurd (omega (arith, h))
take_less [] (suc n) (suc a) h = refl
take_less (x ∷ xs) (suc n) (suc a) h = ap (λ (ys : List Version). x ∷ ys) (take_less xs n a (omega (arith, h)))

abbrev HasFront : List Version → Type 0
HasFront xs = (ys : List Version) (n a b : ℕ) → n ≤ a → n ≤ b → take n (merge_of xs ys) ≡ take n (merge_of (take a xs) (take b ys))

front_weave : (x : Version) (xs ys : List Version) (n a b : ℕ) → HasFront xs → n ≤ suc a → n ≤ b → take n (weave x (merge_of xs) ys) ≡ take n (weave x (merge_of (take a xs)) (take b ys))
front_weave x xs ys zero a b after first second = refl
front_weave x xs ys (suc n) a zero after first second = absurd (omega (arith, second))
front_weave x xs [] (suc n) a (suc b) after first second = ap (λ (zs : List Version). x ∷ zs) (after [] n a (suc b) (omega (arith, first)) (omega (arith, second)))
front_weave x xs (y ∷ ys) (suc n) a (suc b) after first second =
    by (version_cmp x y) (front_weave x xs ys n a b after (omega (arith, first)) (omega (arith, second)))
  where
    by : (o : Ordering) → take n (weave x (merge_of xs) ys) ≡ take n (weave x (merge_of (take a xs)) (take b ys))
        → take (suc n) (choose_by_order o (x ∷ merge_of xs (y ∷ ys)) (x ∷ merge_of xs ys) (y ∷ weave x (merge_of xs) ys))
        ≡ take (suc n) (choose_by_order o (x ∷ merge_of (take a xs) (y ∷ take b ys)) (x ∷ merge_of (take a xs) (take b ys)) (y ∷ weave x (merge_of (take a xs)) (take b ys)))
    by Less later = ap (λ (zs : List Version). x ∷ zs) (after (y ∷ ys) n a (suc b) (omega (arith, first)) (omega (arith, second)))
    by Equal later = ap (λ (zs : List Version). x ∷ zs) (after ys n a b (omega (arith, first)) (omega (arith, second)))
    by Greater later = ap (λ (zs : List Version). y ∷ zs) later

front_merge : (xs : List Version) → HasFront xs
front_merge xs ys zero a b first second = refl
front_merge xs ys (suc n) zero b first second = absurd (omega (arith, first))
front_merge [] ys (suc n) (suc a) b first second = sym (take_less ys (suc n) b second)
front_merge (x ∷ xs) ys (suc n) (suc a) b first second = front_weave x xs ys (suc n) a b (front_merge xs) first second

pub front-merged : (n : ℕ) (f : List Version → List Version) (sources : List (List Version)) → take n (merged_of (map (λ source. take n (f source)) sources)) ≡ take n (merged_of (map f sources))
front-merged n f [] = refl
front-merged n f (s ∷ ss) =
    let fronts = merged_of (map (λ source. take n (f source)) ss) in
    let all = merged_of (map f ss) in
    front_merge (take n (f s)) fronts n n n (omega arith) (omega arith)
    ∙ (λ i. take n (merge_of (take_less (f s) n n (omega arith) i) (front-merged n f ss i)))
    ∙ sym (front_merge (f s) all n n n (omega arith) (omega arith))
