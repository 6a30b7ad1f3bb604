-- What an opening makes of a history: the versions of its entries, and what its prepares leave, one more at a time.
use Rattle.std.proofs.Common.{◌≡◌, ℕ, zero, suc, ◌+◌, ◌<◌, List, [], ◌∷◌, ◌++◌, length, take, get_or, append-nil, sym, refl, ap, ◌∙◌, arith}
use Rattle.std.specs.List.{flat_map}
use Rattle.std.proofs.lemmas.List.{take_more}
use Rattle.std.proofs.lemmas.List.Concat.{flat_map-append}
use Rattle.wp_model.specs.declared.entry.Entry.{Entry}
use Rattle.wp_model.specs.declared.version.Version.{Version}
use Rattle.wp_model.specs.Legal.{changes_in}
use Rattle.wp_model.specs.Flushed.{versions_under, versions_after}
use Rattle.wp_core.proofs.PublishesVersions.{after_more}

one_taken : (es : List Entry) (i : ℕ) (d : Entry) → i < length es → take (suc i) es ≡ take i es ++ get_or es i d ∷ []
one_taken [] i d lt = absurd (omega arith)
one_taken (e ∷ es) zero d lt = refl
one_taken (e ∷ es) (suc i) d lt = ap (λ xs. e ∷ xs) (one_taken es i d (omega arith))

as_many : (es : List Entry) (i : ℕ) → i < length es → length (take i es) ≡ i
as_many [] i lt = absurd (omega arith)
as_many (e ∷ es) zero lt = refl
as_many (e ∷ es) (suc i) lt = ap suc (as_many es i (omega arith))

pub versions_more : (es : List Entry) (i n : ℕ) (e : Entry) (xs more all : List Version) → i < length es → e ≡ get_or es i e → n ≡ suc i → xs ≡ versions_after 0 (take i es) → more ≡ versions_under n (changes_in e) → all ≡ xs ++ more → all ≡ versions_after 0 (take (i + 1) es)
versions_more es i n e xs more all lt at number before under is =
    let l = as_many es i lt in
    let next : suc i ≡ i + 1 = omega arith in
    is ∙ ap (λ (z : List Version). z ++ more) before ∙ ap (λ (z : List Version). versions_after 0 (take i es) ++ z) (under ∙ ap (λ (z : Entry). versions_under n (changes_in z)) at)
    ∙ sym (after_more 0 n (take i es) (get_or es i e) (omega (arith, l, number))) ∙ ap (versions_after 0) (sym (one_taken es i e lt)) ∙ ap (λ (k : ℕ). versions_after 0 (take k es)) next

pub pieces_more : {A : Type 0} (f : ℕ → List A) (given ps : List ℕ) (i : ℕ) (old piece new : List A) → given ≡ ps → i < length given → old ≡ flat_map f (take i ps) → piece ≡ f (get_or given i 0) → new ≡ old ++ piece → new ≡ flat_map f (take (i + 1) ps)
pieces_more f given ps i old piece new same lt before at is =
    let here = ap (λ (l : List ℕ). f (get_or l i 0)) same in
    is ∙ (λ j. before j ++ (at ∙ here) j) ∙ ap (λ l. flat_map f (take i ps) ++ l) (sym (append-nil (f (get_or ps i 0)))) ∙ sym (flat_map-append f (take i ps) (get_or ps i 0 ∷ []))
    ∙ ap (flat_map f) (sym (take_more ps i 0 (rw same at lt)))
