use Rattle.std.proofs.Common.{◌≡◌, true, map, None, subst, sym, ◌∙◌, arith}
use Rattle.std.specs.Str.{bytes_eq}
use Rattle.std.proofs.lemmas.Slice.Eq.{bytes_eq-Decides}
use Rattle.wp_replies.specs.Client.{number_of}
use Rattle.wp_client.specs.Holdings.{HoldingsState, labelled}
use Rattle.wp_client.specs.Replies.{IsPlace}
use Rattle.wp_client.proofs.Placing.{none_among_more, is_place, none_at_all}
use Rattle.wp_client.proofs.holdings.Holdings.place_of.Goals as goal

pub returns-then-eq : goal.returns-then-eq
returns-then-eq c =
    let s = c.index.result.now in let label = c.args.label.now in
    let same : bytes_eq s.label label ≡ true = sym c.eq.ensures ∙ c.if-eq.true in
    subst (λ (h : HoldingsState). IsPlace h.snapshots label c.loop-i.i) c.self.view_is
    (is_place c.self.inside.snapshots.items label c.loop-i.i s (omega arith) c.index.ensures c.loop-i.invariant ((bytes_eq-Decides s.label label).0 same))

pub loop-i-preserved : goal.loop-i-preserved
loop-i-preserved c =
    none_among_more c.self.inside.snapshots.items c.args.label.now c.loop-i.i c.index.result.now (omega arith) c.index.ensures c.loop-i.invariant (sym c.eq.ensures ∙ c.if-eq.false)

pub returns : goal.returns
returns c =
    subst (λ (h : HoldingsState). number_of (map labelled h.snapshots) c.args.label.now ≡ None) c.self.view_is
    (none_at_all c.self.inside.snapshots.items c.args.label.now c.loop-i.i (omega arith) c.loop-i.invariant)
