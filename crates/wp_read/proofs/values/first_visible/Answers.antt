use Rattle.std.proofs.Common.{◌≡◌, ◌<◌, ◌≤◌, true, length, sym, subst, ◌∙◌, arith}
use Rattle.std.proofs.lemmas.List.{take_all}
use Rattle.wp_model.specs.declared.version.Version.{Version}
use Rattle.wp_model.specs.Decision.{IsCommittedAt}
use Rattle.wp_core.specs.Sound.Snapshots.{has_versions_at}
use Rattle.wp_core.specs.World.{Participant}
use Rattle.wp_shared.proofs.Onward.{continues_still}
use Rattle.wp_read.specs.Values.{NoneCommitted}
use Rattle.wp_read.proofs.Rounds.{is_in, none_more, first_is}
use Rattle.wp_read.proofs.values.first_visible.Goals as goal

pub is_visible-requires-clause-version : goal.is_visible-requires-clause-version
is_visible-requires-clause-version g c =
    let x = c.index-found-i.result in let lt : c.loop-i.i < length c.args.found.now = omega arith in
    subst (λ (y : Version). y.number ≤ c.args.snapshot.now.number → has_versions_at c.loop-i.seat.knows.participant.seen y.number ≡ true) c.index-found-i.is
    (λ le. subst (λ (p : Participant). has_versions_at p.seen x.number ≡ true) (sym c.loop-i.invariant.same) (c.requires.versions x (is_in c.args.found.now c.loop-i.i x lt c.index-found-i.is) le))

pub returns-then-is_visible-clause-first : goal.returns-then-is_visible-clause-first
returns-then-is_visible-clause-first g c =
    let lt : c.loop-i.i < length c.args.found.now = omega arith in
    first_is c.args.seat.now.knows.participant.seen c.args.snapshot.now.number c.args.found.now c.loop-i.i c.index-found-i.result lt c.index-found-i.is c.loop-i.invariant.none
    (subst (λ (y : Participant × Version). IsCommittedAt y.0.seen y.1.number c.args.snapshot.now.number) (λ i. (c.loop-i.invariant.same i, (sym c.index-found-i.is) i)) c.if-is_visible.ensures.right)

pub loop-i-preserved : goal.loop-i-preserved
loop-i-preserved g c =
    let lt : c.loop-i.i < length c.args.found.now = omega arith in let k = c.loop-i.invariant in record {
      continues = continues_still c.args.store.now c.args.seat.now c.loop-i.seat c.is_visible.new.seat c.args.seat.now.knows.participant k.continues c.is_visible.ensures.continues;
      same = c.is_visible.ensures.same ∙ k.same;
      none = none_more c.args.seat.now.knows.participant.seen c.args.snapshot.now.number c.args.found.now c.loop-i.i c.index-found-i.result lt c.index-found-i.is k.none
          (subst (λ (y : Participant × Version). IsCommittedAt y.0.seen y.1.number c.args.snapshot.now.number → ⊥) (λ i. (k.same i, (sym c.index-found-i.is) i)) c.if-is_visible.ensures.right);
    }

pub returns-clause-first : goal.returns-clause-first
returns-clause-first g c =
    let le : length c.args.found.now ≤ c.loop-i.i = omega arith in
    subst (NoneCommitted c.args.seat.now.knows.participant.seen c.args.snapshot.now.number) (take_all c.loop-i.i c.args.found.now le) c.loop-i.invariant.none
