use Rattle.std.proofs.Common.{◌≡◌, ◌≤◌, ◌<◌, length, vec_len, ap, sym, ◌∙◌, arith}
use Rattle.wp_replies.specs.declared.client.TheConstants.{MOST_SNAPSHOTS}
use Rattle.wp_client.specs.Holdings.{HoldingsState}
use Rattle.wp_client.proofs.Snapping.{refuses_taken, refuses_more, refuses_none}
use Rattle.wp_client.proofs.snapshots.refused.Goals as goal

pub returns-then-is_some : goal.returns-then-is_some
returns-then-is_some c =
    refuses_taken c.args.held.now.snapshots c.args.label.now c.place_of.result c.place_of.ensures c.in_ok-copy.field-0 (c.in_ok-copy.ensures {u = tt}) (sym c.is_some.ensures ∙ c.if-is_some.true)

pub returns-then-len-ge-MOST_SNAPSHOTS : goal.returns-then-len-ge-MOST_SNAPSHOTS
returns-then-len-ge-MOST_SNAPSHOTS c =
    let same : length c.held.inside.snapshots.items ≡ length c.args.held.now.snapshots = ap (λ (h : HoldingsState). length h.snapshots) c.held.view_is in
    let size : c.len.result ≡ vec_len c.held.inside.snapshots = c.len.ensures in
    let many : MOST_SNAPSHOTS ≤ c.len.result = c.if-len-ge-MOST_SNAPSHOTS.true in
    refuses_more c.args.held.now.snapshots c.args.label.now c.place_of.result c.place_of.ensures (sym c.is_some.ensures ∙ c.if-is_some.false) (omega (arith, same, size, many))

pub returns : goal.returns
returns c =
    let same : length c.held.inside.snapshots.items ≡ length c.args.held.now.snapshots = ap (λ (h : HoldingsState). length h.snapshots) c.held.view_is in
    let size : c.len.result ≡ vec_len c.held.inside.snapshots = c.len.ensures in
    let few : c.len.result < MOST_SNAPSHOTS = c.if-len-ge-MOST_SNAPSHOTS.false in
    refuses_none c.args.held.now.snapshots c.args.label.now c.place_of.result c.place_of.ensures (sym c.is_some.ensures ∙ c.if-is_some.false) (omega (arith, same, size, few))
