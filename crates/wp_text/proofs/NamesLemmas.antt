-- Words that are tested one after the other, as a loop does.
use Rattle.std.proofs.Common.{◌≡◌, ◌≢◌, ℕ, zero, suc, ◌+◌, ◌-◌, ◌<◌, ◌≤◌, ◌&&◌, ◌||◌, not, Bool, true, false, List, [], ◌∷◌, ◌++◌, length, map, take, drop, get_or, Bor, Result, Ok, Err, refl, sym, ap, subst, ◌∙◌, inl, inr, arith}
use Rattle.std.specs.Prelude.{IsErr, IsErrAnd}
use Rattle.std.specs.List.{list_any, list_all, AllByRecursion, AllPairs, IsDistinct}
use Rattle.std.specs.Str.{bytes_eq}
use Rattle.std.proofs.lemmas.Bool.{cases_Bool, and_parts, or_parts, not-true}
use Rattle.std.proofs.lemmas.List.{map-append, take_all, take_more, take_rest}
use Rattle.std.proofs.lemmas.Map.Made.{AllPairs-from_IsDistinct}
use Rattle.std.proofs.lemmas.Slice.Eq.{bytes_eq-Decides}
use Rattle.wp_model.specs.Word.{is_name}
use Rattle.wp_fields.specs.Reading.{Fails, Gives}
use Rattle.wp_model.specs.declared.word.WordError.{WordError}
use Rattle.wp_model.specs.declared.word.WordError.TheVariants as word
use Rattle.wp_text.specs.declared.fault.LineError.{LineError}
use Rattle.wp_text.specs.declared.fault.Why.{Why}
use Rattle.wp_text.specs.declared.fault.Why.TheVariants.{BadWord}
use Rattle.wp_text.specs.Names.{are_distinct, may_be_settled}
use Rattle.wp_text.specs.Reading.{line_fault, error_of_word, names_of}

-- the words that are lent
abbrev pub texts : List (Bor (List ℕ)) → List (List ℕ)
texts words = map (λ word. word.now) words

among_texts : (words : List (Bor (List ℕ))) (text : List ℕ) → list_any (λ other. bytes_eq text other.now) words ≡ list_any (bytes_eq text) (texts words)
among_texts [] text = refl
among_texts (word ∷ words) text = ap (λ (b : Bool). bytes_eq text word.now || b) (among_texts words text)

-- the words behind the first
abbrev behind : List (Bor (List ℕ)) → List (Bor (List ℕ))
behind words = take (length words - 1) (drop 1 words)

-- the first word, among those behind it
abbrev IsAmong : List (Bor (List ℕ)) → Bor (List ℕ) → Bool → Type 0
IsAmong words d among = among ≡ list_any (λ other. bytes_eq (get_or words 0 d).now other.now) (behind words)

distinct_behind : (words : List (Bor (List ℕ))) (d : Bor (List ℕ)) (among : Bool) → 1 ≤ length words → IsAmong words d among → are_distinct (texts words) ≡ (not among && are_distinct (texts (behind words)))
distinct_behind [] d among some is = absurd (omega (arith, some))
distinct_behind (word ∷ words) d among some is =
    let all : behind (word ∷ words) ≡ words = take_rest (word ∷ words) 1 in
    let tested : among ≡ list_any (bytes_eq word.now) (texts words) = is ∙ ap (list_any (λ other. bytes_eq word.now other.now)) all ∙ among_texts words word.now in
    λ i. not (sym tested i) && are_distinct (texts (sym all i))

pub comes_twice : (words : List (Bor (List ℕ))) (d : Bor (List ℕ)) (among : Bool) → 1 ≤ length words → IsAmong words d among → among ≡ true → not among ≡ are_distinct (texts words)
comes_twice words d among some is so = ap not so ∙ sym (distinct_behind words d among some is ∙ ap (λ (b : Bool). not b && are_distinct (texts (behind words))) so)

pub comes_once : (words : List (Bor (List ℕ))) (d : Bor (List ℕ)) (among : Bool) → 1 ≤ length words → IsAmong words d among → among ≡ false → are_distinct (texts (behind words)) ≡ are_distinct (texts words)
comes_once words d among some is so = sym (distinct_behind words d among some is ∙ ap (λ (b : Bool). not b && are_distinct (texts (behind words))) so)

-- ---- distinct words differ

none_like : (name : List ℕ) (names : List (List ℕ)) → list_any (bytes_eq name) names ≡ false → AllByRecursion (λ other. bytes_eq name other ≡ false) names
none_like name [] none = tt
none_like name (other ∷ names) none = let both = or_parts (bytes_eq name other) (list_any (bytes_eq name) names) none in (both.0, none_like name names both.1)

distinct_lists : (names : List (List ℕ)) → are_distinct names ≡ true → IsDistinct bytes_eq names
unfolding IsDistinct
distinct_lists [] are = tt
distinct_lists (name ∷ names) are =
    let both = and_parts (not (list_any (bytes_eq name) names)) (are_distinct names) are in
    (none_like name names (not-true _ both.0), distinct_lists names both.1)

pub all_differ : (names : List (List ℕ)) → may_be_settled names ≡ true → AllPairs (λ x y. x ≢ y) names
all_differ names may = AllPairs-from_IsDistinct bytes_eq-Decides names (distinct_lists names (and_parts _ _ may).1)

-- ---- names are read one after the other

pub one_more : (words : List (Bor (List ℕ))) (i : ℕ) (word : Bor (List ℕ)) (items : List (List ℕ)) → i < length words → word ≡ get_or words i word → items ≡ texts (take i words) → items ++ word.now ∷ [] ≡ texts (take (i + 1) words)
one_more words i word items within is so_far =
    let more : take (i + 1) words ≡ take i words ++ word ∷ [] = take_more words i word within ∙ ap (λ (w : Bor (List ℕ)). take i words ++ w ∷ []) (sym is) in
    ap (λ (xs : List (List ℕ)). xs ++ word.now ∷ []) so_far ∙ sym (ap texts more ∙ map-append (λ (w : Bor (List ℕ)). w.now) (take i words) (word ∷ []))

pub all_read : (words : List (Bor (List ℕ))) (i : ℕ) (items : List (List ℕ)) → length words ≤ i → items ≡ texts (take i words) → list_all is_name items ≡ true → names_of (texts words) ≡ Ok items
unfolding names_of
all_read words i items all so_far are =
    let same : items ≡ texts words = so_far ∙ ap texts (take_all i words all) in
    let whole : list_all is_name (texts words) ≡ true = subst (λ (xs : List (List ℕ)). list_all is_name xs ≡ true) same are in
    rw whole (ap (λ (xs : List (List ℕ)). Ok xs) (sym same))

one_fails : (words : List (Bor (List ℕ))) (i : ℕ) (d : Bor (List ℕ)) → i < length words → is_name (get_or words i d).now ≡ false → list_all is_name (texts words) ≡ false
one_fails [] i d within bad = absurd (omega (arith, within))
one_fails (word ∷ words) zero d within bad = ap (λ (b : Bool). b && list_all is_name (texts words)) bad
one_fails (word ∷ words) (suc i) d within bad =
    elim (cases_Bool (is_name word.now)) [
      | inl so ↦ rw so (one_fails words i d (omega (arith, within)) bad)
      | inr other ↦ rw other refl
    ]

pub one_refused : (words : List (Bor (List ℕ))) (i : ℕ) (d : Bor (List ℕ)) → i < length words → is_name (get_or words i d).now ≡ false → names_of (texts words) ≡ Err BadWord
unfolding names_of
one_refused words i d within bad = let none = one_fails words i d within bad in rw none refl

-- a name that could not be read
pub not_read : {X Y : Type 0} (view : X → Y) (read : Result Y Why) (result : Result X LineError) (e : WordError) → IsErrAnd result (λ error. error ≡ error_of_word e) → IsErr result → (e ≡ word.BadWord → read ≡ Err BadWord) → Gives line_fault view result read
not_read view read (Ok x) e is failed bad = absurd cc
not_read view read (Err error) word.Memory is failed bad = subst (λ (x : LineError). Fails line_fault x read) (sym is) tt
not_read view read (Err error) word.BadWord is failed bad = subst (λ (x : LineError). Fails line_fault x read) (sym is) (bad refl)
