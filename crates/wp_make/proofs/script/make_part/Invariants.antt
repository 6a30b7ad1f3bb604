use Rattle.std.proofs.Common.{◌≡◌, ◌-◌, ◌≤◌, ◌++◌}
use Rattle.wp_make.specs.Generator.{made_in, new_maker}
use Rattle.wp_make.proofs.script.make_part.Given as goal

abbrev pub invariant-loop-turn : goal.invariant-loop-turn
invariant-loop-turn l = record {
  made : l.commands ++ made_in (l.lines - l._turn) l.maker ≡ made_in l.lines (new_maker l.seed l.client);
  few : l.maker.begins ≤ l._turn;
}
