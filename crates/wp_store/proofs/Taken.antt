-- How the newest versions of a key are copied, one after another.
use Rattle.std.proofs.Common.{◌≡◌, ℕ, zero, suc, ◌+◌, ◌<◌, Bool, true, false, cond, List, [], ◌∷◌, ◌++◌, take, map, refl, sym, ap, ◌∙◌, arith, append_assoc}
use Rattle.std.specs.List.{AllByRecursion}
use Rattle.std.specs.Str.{bytes_eq}
use Rattle.std.proofs.lemmas.List.{append-nil, map-append}
use Rattle.std.proofs.lemmas.Slice.Eq.{bytes_eq-Decides}
use Rattle.wp_model.specs.declared.version.Version.{Version}
use Rattle.wp_memtable.specs.Memtable.{under, numbered_of}
use Rattle.wp_store.specs.Store.{of_key}

-- one more is taken
pub taken_next : (list more rest now whole : List Version) (v : Version) (count left : ℕ) → now ≡ list ++ v ∷ [] → more ≡ v ∷ rest → left + 1 ≡ count → list ++ take count more ≡ whole → now ++ take left rest ≡ whole
taken_next list more rest now whole v count left pushed step one before =
    let more_by_one : suc left ≡ count = omega (arith, one) in
    ap (λ (vs : List Version). vs ++ take left rest) pushed
    ∙ append_assoc list (v ∷ []) (take left rest)
    ∙ (λ i. list ++ take (more_by_one i) (sym step i))
    ∙ before

-- as many are taken as were asked for, or none is left
pub taken_all : (list more whole : List Version) (count : ℕ) → (0 < count → more ≡ []) → list ++ take count more ≡ whole → list ≡ whole
taken_all list more whole zero none before = sym (append-nil list) ∙ before
taken_all list more whole (suc count) none before =
    sym (append-nil list) ∙ (λ i. list ++ take (suc count) (sym (none (omega arith)) i)) ∙ before

-- the versions of a key with it, as they are without it
pub under-numbered : (key : List ℕ) (vs : List Version) → under key (numbered_of key vs) ≡ of_key key vs
under-numbered key [] = refl
under-numbered key (v ∷ vs) = by (bytes_eq v.key key) refl (under-numbered key vs)
  where
    by : (b : Bool) → bytes_eq v.key key ≡ b → under key (numbered_of key vs) ≡ of_key key vs
        → under key (map (λ (w : Version). (w.number, w.value)) (cond b (v ∷ of_key key vs) (of_key key vs))) ≡ cond b (v ∷ of_key key vs) (of_key key vs)
    by true is rest =
        let same : v.key ≡ key = (bytes_eq-Decides v.key key).0 is in
        λ i. record { key = sym same i; number = v.number; value = v.value } ∷ rest i
    by false is rest = rest

-- ---- the lists of the parts

pub all-append : (P : List Version → Type 0) (front back : List (List Version)) → AllByRecursion P front → AllByRecursion P back → AllByRecursion P (front ++ back)
all-append P [] back first second = second
all-append P (s ∷ ss) back first second = (first.0, all-append P ss back first.1 second)

-- what memory, the frozen parts and the tables have, put one after another
pub each_part : (f : List Version → List Version) (memory : List Version) (frozen tables first second third : List (List Version)) → first ≡ f memory ∷ [] → second ≡ first ++ map f frozen → third ≡ second ++ map f tables → third ≡ map f (memory ∷ frozen ++ tables)
each_part f memory frozen tables first second third a b c =
    c ∙ ap (λ (ss : List (List Version)). ss ++ map f tables) (b ∙ ap (λ (ss : List (List Version)). ss ++ map f frozen) a)
    ∙ ap (λ (ss : List (List Version)). f memory ∷ ss) (sym (map-append f frozen tables))
