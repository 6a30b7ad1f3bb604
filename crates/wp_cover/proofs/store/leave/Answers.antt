use Rattle.std.proofs.Common.{refl, sym, ap, Some, None}
use Rattle.std.specs.Option.{option_copied}
use Rattle.wp_cover.proofs.Stores.{leaves, leaves_same}
use Rattle.wp_cover.proofs.store.leave.Goals as goal

pub returns-in_default : goal.returns-in_default
returns-in_default c = leaves_same c.args.key.now c.args.key.now None (option_copied c.args.value) c.args.store.now c.remove.new.self refl (sym (ap option_copied c.in_default.is)) (leaves c.args.key.now None c.args.store.now c.remove.new.self c.remove.ensures.updates c.remove.ensures.ordered)

pub returns : goal.returns
returns c =
    leaves_same c.args.key.now c.args.key.now (option_copied (Some c.in-Some.value)) (option_copied c.args.value) c.args.store.now c.insert.new.self refl (sym (ap option_copied c.in-Some.is))
    (leaves c.args.key.now (Some c.in-Some.value) c.args.store.now c.insert.new.self c.in_ok-insert.ensures.updates c.in_ok-insert.ensures.ordered)
