use Rattle.std.proofs.Common.{sym, ◌∙◌}
use Rattle.std.proofs.lemmas.Result.{IfOk-weaker}
use Rattle.wp_model.specs.declared.carried.Carried.{Carried}
use Rattle.wp_history.specs.declared.holders.Holders.{Holders}
use Rattle.wp_history.proofs.Taking.{name_is_free, name_is_held}
use Rattle.wp_history.proofs.holders.Holders.take.Goals as goal

pub returns-then-is_some : goal.returns-then-is_some
returns-then-is_some c = λ prepares had.
    let x : Carried = record { number = c.args.number; name = c.args.name.now; batch = c.args.batch.now } in
    let found = rw c.in_ok-copy.ensures at c.in_ok-held.ensures.old in
    name_is_held prepares x c.args.self.now _ had c.in_ok-held.held found (sym c.is_some.ensures ∙ c.if-is_some.true)

pub returns : goal.returns
returns c =
    let x : Carried = record { number = c.args.number; name = c.args.name.now; batch = c.args.batch.now } in
    let new : Holders = record { alloc = c.args.self.now.alloc; names = c.insert.new.self; keys = c.hold_keys.new.keys } in
    let found = rw c.in_ok-copy.ensures at c.in_ok-held.ensures.old in
    let updates = rw c.in_ok-copy.ensures at c.in_ok-held.ensures.updates in
    IfOk-weaker c.hold_keys.result _ _ (λ free keys prepares had.
    name_is_free prepares x c.args.self.now new had c.in_ok-held.held free found (sym c.is_some.ensures ∙ c.if-is_some.false) updates.0 c.in_ok-held.ensures.ordered keys) (rw c.changes.ensures.value at c.hold_keys.ensures)
