use Rattle.std.proofs.Common.{List, subst, sym}
use Rattle.wp_model.specs.declared.entry.Entry.{Entry}
use Rattle.wp_model.specs.Legal.{IsOrderlyNext}
use Rattle.wp_cuts.specs.Cut.{carried_of}
use Rattle.wp_history.specs.Holders.{Holds}
use Rattle.wp_wal.proofs.Told.{due_told, told_next}
use Rattle.wp_wal.proofs.read.take_entry.Goals as goal

pub may_come-requires-clause-full : goal.may_come-requires-clause-full
may_come-requires-clause-full c = c.requires.told.told.full

pub push-requires-clause-orderly : goal.push-requires-clause-orderly
push-requires-clause-orderly c = rw c.may_come.ensures.outline (subst (λ (es : List Entry). IsOrderlyNext es c.args.entry) (sym c.requires.told.told.full) (c.in_ok-may.ensures.may.0 c.if-not-may.false).0)

pub returns-clause-told : goal.returns-clause-told
returns-clause-told c =
    let old = c.args.reading.now.outline in
    record {
      told = told_next old c.push.new.self c.args.entry c.requires.told.told (rw c.may_come.ensures.outline at c.push.ensures.entries) (rw c.may_come.ensures.outline at c.push.ensures.cut) c.requires.few (c.in_ok-may.ensures.may.0 c.if-not-may.false);
      holds = subst (λ (es : List Entry). Holds (carried_of es) c.may_come.new.reading.holders) (sym (rw c.may_come.ensures.outline at c.push.ensures.entries)) (c.in_ok-may.ensures.holds c.if-not-may.false);
    }

pub returns-then-not-may-clause-err : goal.returns-then-not-may-clause-err
returns-then-not-may-clause-err c = (
  due_told c.args.reading.now.outline c.published-number.result c.requires.told.told (rw c.may_come.ensures.outline at c.published-number.ensures.value),
  λ may. let yes = c.in_ok-may.ensures.may.1 may in let no = c.if-not-may.true in absurd cc,
)
