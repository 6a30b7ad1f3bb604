-- Commits at the end of a history: which prepares they decide, and whose names are none's behind them.
use Rattle.std.proofs.Common.{◌≡◌, ◌≢◌, ⊎_elim, ℕ, suc, ◌≤◌, ◌<◌, true, false, true≢false, List, [], ◌∷◌, ◌++◌, length, length-append, refl, sym, subst, ap, ◌∙◌, Some, None, append-nil, append_assoc, eq-eqb, arith}
use Rattle.std.specs.List.{AllByRecursion}
use Rattle.std.proofs.lemmas.Slice.Eq.{bytes_eq-Decides}
use Rattle.wp_model.specs.Decision.{decision_of}
use Rattle.wp_model.specs.History.{decides, is_prepare, is_undecided, name_at, named, prepared_name}
use Rattle.wp_model.specs.Legal.{IsLegal}
use Rattle.wp_model.specs.declared.entry.Entry.{Entry}
use Rattle.wp_model.specs.declared.entry.Entry.TheVariants.{Commit}
use Rattle.wp_model.proofs.Entries.{entry_at_old, undecided_within}
use Rattle.wp_model.proofs.Found.{found_named}
use Rattle.wp_model.proofs.Tests.{same_some}
use Rattle.wp_history_laws.proofs.Growth.{after_front, legal_before}
use Rattle.wp_judge.specs.Words.{seq_end}
use Rattle.wp_core.specs.Lists.{IsIn}
use Rattle.wp_core.proofs.HistoryGrows.{none_is, undecided_before_or_now}
use Rattle.wp_core.proofs.HistoryLaws.{decision_stays, next_decides_prepare}
use Rattle.wp_open_txns.specs.Txn.{PreparedState}
use Rattle.wp_txn.specs.Groups.{their_commits}
use Rattle.wp_txn.proofs.Each.{all_in}
use Rattle.wp_txn.proofs.OneName.{named_is}

-- the first of the Commits stands right behind the history
pub first_of : (history : List Entry) (x : PreparedState) (others : List PreparedState) → (history ++ Commit x.number ∷ []) ++ their_commits others ≡ history ++ their_commits (x ∷ others)
first_of history x others = append_assoc history (Commit x.number ∷ []) (their_commits others)

pub legal_first : (history : List Entry) (x : PreparedState) (others : List PreparedState) → IsLegal (history ++ their_commits (x ∷ others)) → IsLegal ((history ++ Commit x.number ∷ []) ++ their_commits others)
legal_first history x others legal = subst IsLegal (sym (first_of history x others)) legal

-- what is undecided behind them was so before, and is the prepare of none of them
still_undecided : (xs : List PreparedState) (history : List Entry) → IsLegal (history ++ their_commits xs) → (q : ℕ) → is_undecided (history ++ their_commits xs) q ≡ true
    → (q ≤ length history) × (is_undecided history q ≡ true) × AllByRecursion (λ x. q ≢ x.number) xs
still_undecided [] history legal q u = let v = subst (λ (es : List Entry). is_undecided es q ≡ true) (append-nil history) u in ((undecided_within history q v).1, v, tt)
still_undecided (x ∷ others) history legal q u =
    let entry : Entry = Commit x.number in
    let whole = legal_first history x others legal in
    let later = still_undecided others (history ++ entry ∷ []) whole q (subst (λ (es : List Entry). is_undecided es q ≡ true) (sym (first_of history x others)) u) in
    ⊎_elim
    (λ (old : (q ≤ length history) × (is_undecided history q ≡ true) × (decides q entry ≡ false)). (old.0, old.1, (λ e. true≢false (sym (eq-eqb x.number q (sym e)) ∙ old.2), later.2)))
    (λ (new : (q ≡ suc (length history)) × (is_prepare (Some entry) ≡ true)). absurd (true≢false (sym new.1)))
    (undecided_before_or_now history entry (legal_before (history ++ entry ∷ []) (their_commits others) whole) q later.1)

-- once its prepare is decided, a name is none's
pub commits_free : (xs : List PreparedState) (history : List Entry) (x : PreparedState) → IsLegal (history ++ their_commits xs) → named history x.name ≡ Some x.number → IsIn x xs → named (history ++ their_commits xs) x.name ≡ None
commits_free xs history x legal is there = none_is (named (history ++ their_commits xs) x.name) (λ q e.
    let found = found_named (history ++ their_commits xs) x.name q e in
    let was = still_undecided xs history legal q found.0 in
    let name : name_at history q ≡ x.name = sym (ap prepared_name (entry_at_old history (their_commits xs) q was.0)) ∙ (bytes_eq-Decides (name_at (history ++ their_commits xs) q) x.name).0 found.1 in
    let same : q ≡ x.number = same_some q x.number (sym (named_is history (legal_before history (their_commits xs) legal) q x.name was.1 name) ∙ is) in
    all_in (λ y. q ≢ y.number) xs x was.2 there same)

-- the prepare of the first of them is decided by the entry right behind the history
pub first_decides : (history : List Entry) (x : PreparedState) (others : List PreparedState) → IsLegal (history ++ their_commits (x ∷ others))
    → (decision_of (history ++ their_commits (x ∷ others)) x.number ≡ Some (suc (length history))) × (x.number ≤ suc (length history)) × (suc (length history) < seq_end)
first_decides history x others legal =
    let entry : Entry = Commit x.number in
    let undecided = (after_front history entry (their_commits others) legal).orderly.names_undecided in
    let low = (undecided_within history x.number undecided).1 in
    let long = length-append history (their_commits (x ∷ others)) in let few = legal.few in (
      ap (λ (es : List Entry). decision_of es x.number) (sym (first_of history x others))
          ∙ decision_stays (history ++ entry ∷ []) (their_commits others) x.number (suc (length history)) (next_decides_prepare history entry x.number undecided (eq-eqb x.number x.number refl)),
      omega (arith, low),
      omega (arith, long, few),
    )
