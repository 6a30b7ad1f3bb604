use Rattle.std.proofs.Common.{ℕ, ◌≤◌, refl, subst, sym, ◌∙◌}
use Rattle.wp_rule.specs.Words.{place_of, SawAll}
use Rattle.wp_parts.specs.Parts.{content}
use Rattle.wp_shared.specs.Seats.{turns_of}
use Rattle.wp_shared.proofs.OneStore.{same_store}
use Rattle.wp_shared.proofs.shared.Shared.new.Goals as goal

pub new-requires-clause-parts : goal.new-requires-clause-parts
new-requires-clause-parts g c = c.requires.founds c.count_words-cells.result c.count_words-cells.ensures.range.0

pub invariant_of-result : goal.invariant_of-result
invariant_of-result g c =
    (same_store _ _ _ _ c.in-Ok.ensures.words.0 c.in-Ok.ensures.words.2 c.requires.store, subst (λ (n : ℕ). 1 ≤ n) (sym c.in-Ok.ensures.words.1) c.count_words-cells.ensures.range.0, c.requires.limit.0, c.requires.limit.1, c.in-Ok.ensures.words.1 ∙ c.count_words-cells.ensures.count, c.requires.bits)

pub returns-in-Ok : goal.returns-in-Ok
returns-in-Ok g c = let words = c.in-Ok.ensures.words in let seat = c.in-Ok.ensures.seat in record {
  store = (words.0, words.1 ∙ c.count_words-cells.ensures.count, refl);
  first = words.2;
  seat = λ i. record { table = seat.0 i; by = seat.1 i; knows = (seat.2 i).0; turns = turns_of ((seat.2 i).1) };
  stands = subst (SawAll (place_of content c.in-Ok.words 0) c.in-Ok.seat.me.0) c.requires.published c.in-Ok.ensures.stands;
  refused = tt;
}

pub returns-in-Err : goal.returns-in-Err
returns-in-Err g c = record { store = tt; first = tt; seat = tt; stands = tt; refused = c.in-Err.ensures.refused }
