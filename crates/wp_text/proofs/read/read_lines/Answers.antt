use Rattle.std.proofs.Common.{rules, length, eqb, arith}
use Rattle.std.specs.List.{enumerate_from}
use Rattle.std.proofs.lemmas.Iterator.{YieldsList}
use Rattle.std.proofs.lemmas.Iterator.Consumers.{YieldsList-turn, YieldsList-end, YieldsList-from_enumerate, YieldsList-at}
use Rattle.std.proofs.lemmas.Iterator.Splits.{YieldsList-from_slice_split}
use Rattle.std.proofs.lemmas.List.{length_push}
use Rattle.std.proofs.lemmas.List.FromFn.{length-enumerate_from}
use borrow.Author.Tests.{tests}
use Rattle.wp_text.specs.Grammar.{lines_of}
use Rattle.wp_text.proofs.Loop.{Turn, turn_from, line_read, line_refused, all_lines_read}
use Rattle.wp_text.proofs.read.read_lines.Goals as goal
use Rattle.wp_text.proofs.read.read_lines.Goals.{After-next, In-Some}
use Rattle.wp_text.proofs.read.read_lines.Given as given

-- the loop goes over the numbered lines
road : (c : After-next) → YieldsList given.iterator-loop-i.next_gives (λ p. (p.0, p.1.now)) c.into_iter-i-iterator.result (enumerate_from 0 (lines_of c.args.bytes.now))
road c = YieldsList-at c.into_iter-i-iterator.ensures.into_iter_gives (YieldsList-from_enumerate (YieldsList-at c.enumerate-i-items.ensures.source (YieldsList-from_slice_split _ (λ b. eqb b 0x0A) c.args.bytes.now c.split.ensures.rest c.split.ensures.done c.split.ensures.closure (λ x b q k. search (rules, tests)))) c.enumerate-i-items.ensures.count)

turn : (c : In-Some) → YieldsList given.iterator-loop-i.next_gives (λ p. (p.0, p.1.now)) c.into_iter-i-iterator.result (enumerate_from 0 (lines_of c.args.bytes.now)) → Turn (lines_of c.args.bytes.now) (length c.loop-i.yielded) c.in-Some.i c.in-Some.line.now
turn c lines =
    let next = YieldsList-turn lines c.loop-i.yielded _ c.loop-i.yielded_by _ _ (c.in-Some.i, c.in-Some.line) c.in-Some.is c.next.ensures.steps in
    turn_from (lines_of c.args.bytes.now) (length c.loop-i.yielded) c.in-Some.i c.in-Some.line.now next.0 next.1

pub loop-i-preserved : goal.loop-i-preserved
loop-i-preserved c =
    rw length_push (line_read (lines_of c.args.bytes.now) (length c.loop-i.yielded) c.in-Some.i c.in-Some.line.now c.loop-i.parts.items c.add_line.new.parts.items _ (turn (goal.at.loop-i-preserved c).In-Some (road (goal.at.loop-i-preserved c).After-next)) c.in_default.ensures c.loop-i.invariant)

pub returns-in-Err : goal.returns-in-Err
returns-in-Err c =
    rw c.in_line.ensures (line_refused (lines_of c.args.bytes.now) (length c.loop-i.yielded) c.in-Some.i c.in-Some.line.now c.loop-i.parts.items c.in-Err.e _ (turn (goal.at.returns-in-Err c).In-Some (road (goal.at.returns-in-Err c).After-next)) c.in-Err.ensures c.loop-i.invariant)

pub returns : goal.returns
returns c =
    let end = YieldsList-end (road (goal.at.returns c).After-next) c.loop-i.yielded _ c.loop-i.yielded_by _ _ c.in-None.is c.next.ensures.steps in
    rw c.new.ensures (all_lines_read (lines_of c.args.bytes.now) (length c.loop-i.yielded) c.loop-i.parts.items _ (omega (arith, end.1, length-enumerate_from 0 (lines_of c.args.bytes.now))) c.loop-i.invariant)
