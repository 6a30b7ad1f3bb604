use Rattle.std.proofs.Common.{sym, ◌∙◌, Some}
use Rattle.std.proofs.lemmas.Map.Text.{btree_map_updates_str}
use Rattle.std.proofs.lemmas.Result.{on_ok_weaker}
use Rattle.wp_table.specs.Borrowed.{seen}
use Rattle.wp_cover.proofs.Shows.{uncommitted_noted, older_noted, newer_noted}
use Rattle.wp_cover.proofs.shown.note.Goals as goal

pub returns-then-not-is_committed : goal.returns-then-not-is_committed
returns-then-not-is_committed c = uncommitted_noted c.args.decisions.now c.args.n (seen c.args.version) c.args.newest.now (sym c.is_committed.ensures ∙ c.if-not-is_committed.true)

pub returns-then-not-is_above : goal.returns-then-not-is_above
returns-then-not-is_above c = older_noted c.args.decisions.now c.args.n (seen c.args.version) c.args.newest.now (sym c.is_above.ensures ∙ c.if-not-is_above.true)

pub returns : goal.returns
returns c =
    on_ok_weaker c.leave.result
    (λ left. newer_noted c.args.decisions.now c.args.n (seen c.args.version) c.args.newest.now (record { numbers = c.insert.new.self; values = c.leave.new.store }) (sym c.is_committed.ensures ∙ c.if-not-is_committed.false) (sym c.is_above.ensures ∙ c.if-not-is_above.false)
    (btree_map_updates_str c.args.version.key.now c.args.newest.now.numbers c.insert.new.self (Some c.args.version.number) c.in_ok-insert.ensures.updates) left)
    c.leave.ensures
