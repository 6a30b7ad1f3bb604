-- What the replies of all clients tell at once.
use Rattle.std.proofs.Common.{◌≡◌, inl, inr, ℕ, zero, suc, ◌+◌, ◌≤◌, Bool, true, false, true≢false, cond, List, [], ◌∷◌, length, refl, sym, ap, ◌∙◌, arith}
use Rattle.std.specs.Prelude.{◌||◌, count_by}
use Rattle.std.specs.List.{list_any}
use Rattle.std.proofs.lemmas.Bool.{cases_Bool, or_cases}
use Rattle.std.proofs.lemmas.List.Concat.{flat_map-cons}
use Rattle.std.proofs.lemmas.List.Folds.{list_any-append}
use Rattle.std.proofs.lemmas.List.Sums.{sum_by-cons}
use Rattle.wp_text.specs.declared.script.Part.{Part}
use Rattle.wp_text.specs.declared.reply.Reply.{Reply}
use Rattle.wp_core.specs.Lists.{one_if}
use Rattle.wp_model.proofs.Tests.{both}
use Rattle.wp_replies.specs.Explains.{all_replies}
use Rattle.wp_threads.specs.Explained.{AreWholeParts}
use Rattle.wp_threads.specs.Over.{Answered, replies_of}
use Rattle.wp_threads.proofs.Lists.{count_any}
use Rattle.wp_transcript.specs.Answers.{are_whole, one_fails}

-- each part has one session
pub as_many : (script run : List Part) (answered : List Answered) → AreWholeParts script run answered → length script ≡ length answered
as_many [] [] [] whole = refl
as_many (part ∷ script) (first ∷ run) (a ∷ answered) whole = ap suc (as_many script run answered whole.1)
as_many _ _ _ whole = absurd whole

-- where no session broke off, all commands ran
pub all_ran : (script run : List Part) (answered : List Answered) → AreWholeParts script run answered → are_whole answered ≡ true → run ≡ script
all_ran [] [] [] whole is = refl
all_ran (part ∷ script) (first ∷ run) (a ∷ answered) whole is =
    let k = both a.whole (are_whole answered) is in let same = whole.0 k.0 in let others = all_ran script run answered whole.1 k.1 in λ i. same i ∷ others i
all_ran _ _ _ whole is = absurd whole

any_counts : {X : Type 0} (p : X → Bool) (xs : List X) → list_any p xs ≡ true → 1 ≤ count_by p xs
any_counts p [] is = absurd (true≢false (sym is))
any_counts p (x ∷ xs) is =
    let whole : count_by p (x ∷ xs) ≡ cond (p x) 1 0 + count_by p xs = sum_by-cons (λ y. cond (p y) 1 0) x xs in
    elim (or_cases (p x) (list_any p xs) is) [
      | inl here ↦ let one : ◌≡◌ {A = ℕ} (cond (p x) 1 0) 1 = rw here refl in omega (arith, whole, one)
      | inr later ↦ let some = any_counts p xs later in omega (arith, whole, some)
    ]

any_of_all : (p : Reply → Bool) (answered : List Answered) → list_any p (all_replies (replies_of answered)) ≡ one_fails p answered
any_of_all p [] = refl
any_of_all p (a ∷ answered) =
    ap (list_any p) (flat_map-cons (λ (answers : List Reply). answers) a.replies (replies_of answered)) ∙ (list_any-append p a.replies (all_replies (replies_of answered)) ∙ ap (λ (b : Bool). list_any p a.replies || b) (any_of_all p answered))

-- a client was answered so just where that was counted, once at most
pub fails_as_counted : (p : Reply → Bool) (answered : List Answered) (b : Bool) → count_by p (all_replies (replies_of answered)) ≡ one_if b → one_fails p answered ≡ b
fails_as_counted p answered true once = sym (any_of_all p answered) ∙ count_any p (all_replies (replies_of answered)) (omega (arith, once))
fails_as_counted p answered false none = elim (cases_Bool (one_fails p answered)) [
  | inl is ↦ let some = any_counts p (all_replies (replies_of answered)) (any_of_all p answered ∙ is) in absurd (omega (arith, none, some))
  | inr is ↦ is
]

pub fails_counted : (p : Reply → Bool) (answered : List Answered) (n : ℕ) → n ≤ 1 → count_by p (all_replies (replies_of answered)) ≡ n → one_if (one_fails p answered) ≡ n
fails_counted p answered zero low counted = ap one_if (fails_as_counted p answered false counted)
fails_counted p answered (suc n) low counted = let one : suc n ≡ 1 = omega (arith, low) in ap one_if (fails_as_counted p answered true (counted ∙ one)) ∙ sym one
