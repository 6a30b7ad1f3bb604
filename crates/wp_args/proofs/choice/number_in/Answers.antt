use Rattle.std.proofs.Common.{arith, rules, ap, ◌∙◌, ◌≡◌, ◌<◌, ◌^◌, inl, inr, Some, None, decimal}
use Rattle.clap.specs.Words.{found_of, first_of, rows_of}
use Rattle.wp_args.proofs.Entries.{entry_is, one_number}
use Rattle.wp_args.proofs.choice.number_in.Goals as goal

pub returns-in_err-get_str-clause-none : goal.returns-in_err-get_str-clause-none
returns-in_err-get_str-clause-none c = rw c.from_residual.ensures (λ number has.
    let entry : first_of c.args.name.now (rows_of (found_of c.args.entries.now)) ≡ None = entry_is (found_of c.args.entries.now) c.args.name.now None c.in_err-get_str.ensures in
    cc (entry, has.spelled))

pub returns-in_err-number-clause-none : goal.returns-in_err-number-clause-none
returns-in_err-number-clause-none c = rw c.from_residual-in_err-number.ensures (λ number has.
    let text = c.in_ok-get_str.field-0.now in
    let entry : first_of c.args.name.now (rows_of (found_of c.args.entries.now)) ≡ Some text = entry_is (found_of c.args.entries.now) c.args.name.now (Some text) c.in_ok-get_str.ensures in
    let spells : text ≡ decimal number = cc (entry, has.spelled) in
    c.in_err-number.ensures.none number (omega (arith, has.high, c.ranges.most.fits)) spells)

pub returns-then-number-most-clause-number : goal.returns-then-number-most-clause-number
returns-then-number-most-clause-number c =
    let text = c.in_ok-get_str.field-0.now in
    record {
      spelled = entry_is (found_of c.args.entries.now) c.args.name.now (Some text) c.in_ok-get_str.ensures ∙ ap Some c.in_ok-number.ensures.spelled;
      low = c.if-least-number.true;
      high = c.if-number-most.true;
    }

pub returns-else-least-number-clause-none : goal.returns-else-least-number-clause-none
returns-else-least-number-clause-none c = λ number has.
    let text = c.in_ok-get_str.field-0.now in
    let entry : first_of c.args.name.now (rows_of (found_of c.args.entries.now)) ≡ Some (decimal c.in_ok-number.number) = entry_is (found_of c.args.entries.now) c.args.name.now (Some text) c.in_ok-get_str.ensures ∙ ap Some c.in_ok-number.ensures.spelled in
    let small : c.in_ok-number.number < 2 ^ 64 = search rules in
    let same : number ≡ c.in_ok-number.number = one_number (rows_of (found_of c.args.entries.now)) c.args.name.now c.args.least c.args.most number c.in_ok-number.number c.ranges.most.fits small entry has in
    elim c.else-least-number.either [
      | inl above ↦ omega (arith, above.1, has.high)
      | inr below ↦ omega (arith, has.low)
    ]
