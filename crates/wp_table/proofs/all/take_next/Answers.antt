use Rattle.std.proofs.Common.{◌∷◌, ◌-◌, refl, ap, sym, ◌∙◌, arith}
use Rattle.wp_table.specs.Borrowed.{seen}
use Rattle.wp_table.specs.Walk.{versions_in}
use Rattle.wp_table.proofs.WalkLemmas.{none_in, next_read, next_fails}
use Rattle.wp_table.proofs.all.take_next.Goals as goal

pub returns-then-left-eq0 : goal.returns-then-left-eq0
returns-then-left-eq0 c = let none = none_in c.args.format c.args.left.now c.args.in_block.now c.args.fields.now (omega (arith, c.if-left-eq0.true)) in (none, none)

pub returns-in-Ok : goal.returns-in-Ok
returns-in-Ok c =
    let version = seen c.in-Ok.version in
    next_read c.args.format c.args.left.now c.args.in_block.now c.args.fields.now (version, c.next.new.fields) (omega (arith, c.if-left-eq0.false)) c.in-Ok.ensures
    ∙ ap (λ k. version ∷ versions_in c.args.format (c.args.left.now - 1) k c.next.new.fields) (sym c.one_less.ensures)

pub returns-in-Err : goal.returns-in-Err
returns-in-Err c = (next_fails c.args.format c.args.left.now c.args.in_block.now c.args.fields.now c.in-Err.field-0 c.in-Err.ensures, none_in c.args.format 0 c.args.in_block.now c.next.new.fields refl)
