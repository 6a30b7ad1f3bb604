use Rattle.std.proofs.Common.{◌<◌, ◌+◌, ◌-◌, length, ap, ◌∙◌, arith, drop}
use Rattle.std.proofs.lemmas.List.{length-drop}
use Rattle.wp_history.proofs.TakenOut.{first_out, later_out}
use Rattle.wp_history.proofs.numbers.Numbers.remove.Goals as goal

pub returns-then-place-list-clause-items : goal.returns-then-place-list-clause-items
returns-then-place-list-clause-items c =
    let inside = c.self.inside in
    let asked = rw (← c.self.view_is) at c.requires in
    let within : inside.free + c.args.place < length inside.kept.items = omega (arith, asked, length-drop inside.free inside.kept.items) in
    rw (← c.self.view_is) (first_out inside.kept.items inside.free c.args.place within c.deref_mut.result.now c.rotate_right.new.self _ (inside.free + c.args.place + 1 - inside.free) c.deref_mut.ensures.value inside.kept.ok.0 (omega arith) c.rotate_right.ensures.after)

pub returns-else-place-list-clause-items : goal.returns-else-place-list-clause-items
returns-else-place-list-clause-items c =
    let inside = c.self.inside in
    let asked = rw (← c.self.view_is) at c.requires in
    let within : inside.free + c.args.place < length inside.kept.items = omega (arith, asked, length-drop inside.free inside.kept.items) in
    rw (← c.self.view_is) (ap (drop inside.free) c.remove.ensures.items ∙ later_out inside.kept.items inside.free c.args.place within)
