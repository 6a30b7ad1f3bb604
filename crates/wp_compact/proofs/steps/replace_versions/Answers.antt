use Rattle.wp_parts.specs.Stock.{store_state}
use Rattle.wp_compact.proofs.Made.{may_replace, was_replaced, noted_replaced, gone_replaced}
use Rattle.wp_compact.proofs.steps.replace_versions.Goals as goal

pub make_about-requires-clause-may : goal.make_about-requires-clause-may
make_about-requires-clause-may g c = let h = c.requires.held in may_replace _ _ h.0 (store_state c.args.stock.now) c.args.edits.now.state h.1 c.requires.may

pub returns : goal.returns
returns g c =
    let h = c.requires.held in let s = c.args.seat.now in let u = c.make_about.new.seat in let now = store_state c.args.stock.now in let e = c.args.edits.now.state in let k = c.make_about.ensures in record {
      goes = was_replaced _ _ s u k.same h.0 now e h.1 h.2 k.moved;
      named = noted_replaced _ _ s u k.same h.0 now e h.1 h.2 k.moved;
      gone = gone_replaced _ _ s u k.same h.0 now e h.1 h.2 k.moved;
    }
