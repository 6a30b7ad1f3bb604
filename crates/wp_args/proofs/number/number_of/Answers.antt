use Rattle.std.proofs.Common.{arith, sym, ◌∙◌, ◌≡◌, get_or, inl, inr}
use Rattle.wp_args.proofs.Numerals.{IsPlain, decimal_is_plain, parsed_is_spelled, unparsed_spells_none}
use Rattle.wp_args.proofs.number.number_of.Goals as goal
use Rattle.wp_args.proofs.number.number_of.Goals.{then-first-eq43-via-then-first-eq43, then-first-eq43-via-else-first-eq43+then-text-gt1}

pub returns-in_err-first-clause-none : goal.returns-in_err-first-clause-none
returns-in_err-first-clause-none c = rw c.from_residual.ensures (λ number small spells.
    let plain : IsPlain c.args.text.now = rw spells (decimal_is_plain number small) in
    omega (arith, plain.some, c.in_err-first.ensures.item.3))

pub returns-then-first-eq43-clause-none : goal.returns-then-first-eq43-clause-none
returns-then-first-eq43-clause-none c = λ number small spells.
    let plain : IsPlain c.args.text.now = rw spells (decimal_is_plain number small) in
    let first : c.in_ok-first.field-0.now ≡ get_or c.args.text.now 0 0 = rw c.as_bytes.ensures.value at c.in_ok-first.ensures.item.3.1 0 in
    elim c.then-first-eq43.branch [
      | then-first-eq43-via-then-first-eq43 w ↦ plain.unsigned (omega arith)
      | then-first-eq43-via-else-first-eq43+then-text-gt1 w ↦ omega (arith, plain.unpadded (sym first ∙ w.if-text-gt1.true.0))
    ]

pub returns-clause-spelled : goal.returns-clause-spelled
returns-clause-spelled c =
    let first : c.in_ok-first.field-0.now ≡ get_or c.args.text.now 0 0 = rw c.as_bytes.ensures.value at c.in_ok-first.ensures.item.3.1 0 in
    let plain : IsPlain c.args.text.now = record {
      some = omega (arith, c.in_ok-first.ensures.item.3.0);
      unsigned = λ plus. c.if-first-eq43.false (first ∙ plus);
      unpadded = λ zero. elim c.if-text-gt1.either [
        | inl short ↦ short.1
        | inr other ↦ absurd (other (first ∙ zero))
      ];
    } in
    rw c.ok.ensures.value (parsed_is_spelled _ _ plain c.parse.ensures.value.0)

pub returns-clause-none : goal.returns-clause-none
returns-clause-none c = rw c.ok.ensures.value (unparsed_spells_none _ _ c.parse.ensures.value.0)
