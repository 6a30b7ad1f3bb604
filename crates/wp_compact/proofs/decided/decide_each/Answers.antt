use Rattle.std.proofs.Common.{◌≡◌, ℕ, ◌<◌, ◌≤◌, true, List, [], ◌∷◌, length, take, refl, sym, subst, ◌∙◌, arith}
use Rattle.std.proofs.lemmas.List.{take_all}
use Rattle.wp_model.specs.declared.version.Version.{Version}
use Rattle.wp_keep.specs.declared.pair.Pair.{Pair}
use Rattle.wp_core.specs.Lists.{IsIn}
use Rattle.wp_core.specs.Sound.Snapshots.{has_versions_at}
use Rattle.wp_core.specs.World.{Participant}
use Rattle.wp_read.specs.Registers.{numbers_of}
use Rattle.wp_compact.specs.Decided.{Decides, version_numbers}
use Rattle.wp_compact.proofs.Decisions.{decided_nothing, in_place, mapped_next, then_versions}
use Rattle.wp_shared.proofs.Onward.{continues_none, continues_still}
use Rattle.wp_compact.proofs.decided.decide_each.Goals as goal

pub loop-i-init : goal.loop-i-init
loop-i-init g c = let ns = numbers_of (c.args.pinned.now.floor ∷ c.args.pinned.now.live.items) in let seen = c.args.seat.now.knows.participant.seen in record {
  continues = continues_none c.args.store.now c.args.seat.now c.requires.free;
  same = refl;
  decided = subst (λ (pairs : List Pair). Decides seen [] ns [] pairs) (sym c.new-committed.ensures.items) (decided_nothing seen ns []);
}

pub decide_version-requires-clause-free : goal.decide_version-requires-clause-free
decide_version-requires-clause-free g c = c.loop-i.invariant.continues.free

pub decide_version-requires-clause-pinned : goal.decide_version-requires-clause-pinned
decide_version-requires-clause-pinned g c r there = subst (λ (p : Participant). IsIn r p.registered × (r.number ≤ length p.seen)) (sym c.loop-i.invariant.same) (c.requires.pinned r there)

pub decide_version-requires-clause-version : goal.decide_version-requires-clause-version
decide_version-requires-clause-version g c =
    let versions = c.args.versions.now in let x = c.index-versions-i.result in let lt : c.loop-i.i < length versions = omega arith in
    subst (λ (y : Participant × Version). y.1.number ≤ length y.0.seen → has_versions_at y.0.seen y.1.number ≡ true) (λ j. (sym c.loop-i.invariant.same j, c.index-versions-i.is j)) (c.requires.seen x (in_place versions c.loop-i.i x lt c.index-versions-i.is))

pub returns-in_err-decide_version-clause-continues : goal.returns-in_err-decide_version-clause-continues
returns-in_err-decide_version-clause-continues g c =
    let s = c.args.seat.now in
    continues_still c.args.store.now s c.loop-i.seat c.decide_version.new.seat s.knows.participant c.loop-i.invariant.continues c.decide_version.ensures.continues

pub returns-in_err-decide_version-clause-same : goal.returns-in_err-decide_version-clause-same
returns-in_err-decide_version-clause-same g c = c.decide_version.ensures.same ∙ c.loop-i.invariant.same

pub loop-i-preserved : goal.loop-i-preserved
loop-i-preserved g c =
    let s = c.args.seat.now in let seen = s.knows.participant.seen in let versions = c.args.versions.now in let i = c.loop-i.i in let x = c.index-versions-i.result in let is = c.index-versions-i.is in let lt : i < length versions = omega arith in
    let k = c.loop-i.invariant in let d = c.in_ok-decide_version.ensures in let ns = numbers_of (c.args.pinned.now.floor ∷ c.args.pinned.now.live.items) in let mid = c.loop-i.committed.items in let after = c.decide_version.new.committed.items in record {
      continues = continues_still c.args.store.now s c.loop-i.seat c.decide_version.new.seat s.knows.participant k.continues d.continues;
      same = d.same ∙ k.same;
      decided = subst (λ (ps : List ℕ). Decides seen ps ns [] after) (sym (mapped_next (λ (v : Version). v.number) versions i x lt is))
          (then_versions seen [] mid after (version_numbers (take i versions)) (x.number ∷ []) ns k.decided (subst (λ (y : Participant × Version). Decides y.0.seen (y.1.number ∷ []) ns mid after) (λ j. (k.same j, sym is j)) d.decided));
    }

pub returns-clause-decided : goal.returns-clause-decided
returns-clause-decided g c =
    let versions = c.args.versions.now in let le : length versions ≤ c.loop-i.i = omega arith in
    subst (λ (vs : List Version). Decides c.args.seat.now.knows.participant.seen (version_numbers vs) (numbers_of (c.args.pinned.now.floor ∷ c.args.pinned.now.live.items)) [] c.loop-i.committed.items) (take_all c.loop-i.i versions le) c.loop-i.invariant.decided
