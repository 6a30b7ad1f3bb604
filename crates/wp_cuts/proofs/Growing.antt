-- A cut of a list that grows, and of what a list begins with.
use Rattle.std.proofs.Common.{◌≡◌, ℕ, ◌+◌, ◌-◌, ◌≤◌, List, [], ◌++◌, length, take, drop, None, refl, sym, ap, ◌∙◌, subst, length-append, length-drop, take_all, arith}
use Rattle.std.proofs.lemmas.List.{drop_all, take-append-le, drop-append-le, take-take, drop-take, length-take-le}
use Rattle.wp_model.specs.declared.entry.Entry.{Entry}
use Rattle.wp_model.specs.History.{value_at, newest}
use Rattle.wp_model.specs.Legal.{undone_last}
use Rattle.wp_cuts.specs.Cut.{Cut, carried_of, cut_at, IsCut}
use Rattle.wp_cuts.specs.LegalCut.{cut_front}

pub cut_carried : (history : List Entry) (c : Cut) → IsCut history c → c.carried ≡ carried_of (take c.base history)
cut_carried history c cut = ap (λ (d : Cut). d.carried) cut.is

cut_entries : (history : List Entry) (c : Cut) → IsCut history c → c.entries ≡ drop c.base history
cut_entries history c cut = ap (λ (d : Cut). d.entries) cut.is

pub cut_grows : (history more : List Entry) (c : Cut) → IsCut history c → IsCut (history ++ more) (record c { entries = c.entries ++ more })
cut_grows history more c cut =
    let front : take c.base (history ++ more) ≡ take c.base history = take-append-le c.base history more cut.within in
    let carried : c.carried ≡ carried_of (take c.base (history ++ more)) = cut_carried history c cut ∙ ap carried_of (sym front) in
    let entries : c.entries ++ more ≡ drop c.base (history ++ more) = ap (λ (h : List Entry). h ++ more) (cut_entries history c cut) ∙ sym (drop-append-le c.base history more cut.within) in
    record {
      within = omega (arith, cut.within, length-append history more);
      whole = ap undone_last front ∙ cut.whole;
      is = λ i. record { base = c.base; carried = carried i; entries = entries i };
    }

pub cut_again : (history : List Entry) (m : ℕ) → m ≤ length history → undone_last (take m history) ≡ None → IsCut history (cut_at history m)
cut_again history m within whole = record { within = within; whole = whole; is = refl }

pub cut_at_end : (history : List Entry) → undone_last history ≡ None → IsCut history (record { base = length history; carried = carried_of history; entries = [] })
cut_at_end history whole =
    let all : take (length history) history ≡ history = take_all (length history) history (omega arith) in
    let carried : carried_of history ≡ carried_of (take (length history) history) = ap carried_of (sym all) in
    let entries : [] ≡ drop (length history) history = sym (drop_all (length history) history (omega arith)) in
    record {
      within = omega arith;
      whole = ap undone_last all ∙ whole;
      is = λ i. record { base = length history; carried = carried i; entries = entries i };
    }

pub entries_long : (history : List Entry) (c : Cut) → IsCut history c → length history ≡ c.base + length c.entries
entries_long history c cut = omega (arith, cut.within, ap length (cut_entries history c cut), length-drop c.base history)

pub front_is_cut : (history : List Entry) (c : Cut) (n : ℕ) → IsCut history c → n ≤ length c.entries → IsCut (take (c.base + n) history) (cut_front c n)
front_is_cut history c n cut within =
    let inside : c.base + n ≤ length history = omega (arith, entries_long history c cut) in
    let front : take c.base (take (c.base + n) history) ≡ take c.base history = take-take c.base (c.base + n) history (omega arith) in
    let carried : c.carried ≡ carried_of (take c.base (take (c.base + n) history)) = cut_carried history c cut ∙ ap carried_of (sym front) in
    let entries : take n c.entries ≡ drop c.base (take (c.base + n) history) = ap (take n) (cut_entries history c cut) ∙ sym (drop-take c.base n history) in
    record {
      within = omega (arith, length-take-le (c.base + n) history inside);
      whole = ap undone_last front ∙ cut.whole;
      is = λ i. record { base = c.base; carried = carried i; entries = entries i };
    }

pub cut_to : (history : List Entry) (c : Cut) (n : ℕ) → IsCut history c → c.base ≤ n → n ≤ length history → IsCut (take n history) (cut_front c (n - c.base))
cut_to history c n cut above within =
    let k = n - c.base in
    let same : c.base + k ≡ n = omega (arith, above) in
    subst (λ (m : ℕ). IsCut (take m history) (cut_front c k)) same (front_is_cut history c k cut (omega (arith, above, within, entries_long history c cut)))

pub value_of_front : (history : List Entry) (c : Cut) (n : ℕ) (key : List ℕ) → value_at (take (c.base + n) history) key c.base ≡ value_at history key c.base
value_of_front history c n key = ap (λ (h : List Entry). newest h key) (take-take c.base (c.base + n) history (omega arith))
