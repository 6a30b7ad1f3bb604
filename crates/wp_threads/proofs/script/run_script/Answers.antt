use Rattle.std.proofs.Common.{rules, ◌≡◌, ◌<◌, length, map, ◌∙◌, arith}
use Rattle.std.proofs.lemmas.Bool.Decides.{nat_tests}
use Rattle.wp_seats.specs.Lists.{seat_of}
use Rattle.wp_seats.proofs.Seated.{own_first, parts_new, nobodys}
use Rattle.wp_threads.proofs.Unused.{new_unused, run_of_none}
use Rattle.wp_threads.proofs.script.run_script.Goals as goal

pub end_idle-requires-clause-unused : goal.end_idle-requires-clause-unused
end_idle-requires-clause-unused g c =
    let none : length c.args.parts.now ≡ 0 = grind (arith, nat_tests, c.is_empty.ensures, c.if-is_empty.true) in
    let first = nobodys c.args.store c.args.parts.now c.args.first c.requires.first none in new_unused c.args.store first.0 c.args.first first.1

pub returns-then-is_empty-clause-run : goal.returns-then-is_empty-clause-run
returns-then-is_empty-clause-run g c =
    let none : length c.args.parts.now ≡ 0 = grind (arith, nat_tests, c.is_empty.ensures, c.if-is_empty.true) in
    let run = run_of_none c.args.store c.args.parts.now c.end_idle.result.answers.items _ _ none c.end_idle.ensures.answers c.end_idle.ensures.run in search rules

pub seat_all-sessions-requires-clause-first : goal.seat_all-sessions-requires-clause-first
seat_all-sessions-requires-clause-first g c = own_first c.args.store c.args.parts.now c.args.first c.requires.first

pub run_to_end-requires-clause-new : goal.run_to_end-requires-clause-new
run_to_end-requires-clause-new g c =
    let some : 0 < length c.args.parts.now = grind (arith, nat_tests, c.is_empty.ensures, c.if-is_empty.false) in
    let new = parts_new c.args.store c.args.parts.now c.args.first c.into_lists-names.result.0.items (map (seat_of {D = g.row.D.Denot}) c.seat_all-sessions.result.items) c.requires.first some (c.into_lists-names.ensures.names ∙ c.requires.room) c.seat_all-sessions.ensures.new in search rules
