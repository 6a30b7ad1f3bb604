use Rattle.std.proofs.Common.{◌≡◌, ℕ, ◌<◌, ◌≤◌, true, List, [], ◌∷◌, length, take, refl, sym, subst, ◌∙◌, arith}
use Rattle.std.proofs.lemmas.List.{take_all}
use Rattle.wp_core.specs.Lists.{IsIn}
use Rattle.wp_core.specs.Reading.{Registration}
use Rattle.wp_core.specs.Sound.Snapshots.{has_versions_at}
use Rattle.wp_core.specs.World.{Participant}
use Rattle.wp_read.specs.Registers.{numbers_of}
use Rattle.wp_compact.specs.Decided.{Decides}
use Rattle.wp_compact.proofs.Decisions.{decided_none, in_place, mapped_next, then_numbers}
use Rattle.wp_shared.proofs.Onward.{continues_none, continues_still}
use Rattle.wp_compact.proofs.decided.decide_at_each.Goals as goal

pub loop-i-init : goal.loop-i-init
loop-i-init g c = record {
  continues = continues_none c.args.store.now c.args.seat.now c.requires.free;
  same = refl;
  decided = decided_none c.args.seat.now.knows.participant.seen (c.args.number ∷ []) c.args.committed.now.items;
}

pub decide_at-requires-clause-free : goal.decide_at-requires-clause-free
decide_at-requires-clause-free g c = c.loop-i.invariant.continues.free

pub decide_at-requires-clause-registered : goal.decide_at-requires-clause-registered
decide_at-requires-clause-registered g c =
    let live = c.args.live.now in let x = c.index-live-i.result in let lt : c.loop-i.i < length live = omega arith in
    subst (λ (p : Participant). IsIn x p.registered) (sym c.loop-i.invariant.same) (c.requires.pinned x (in_place live c.loop-i.i x lt c.index-live-i.is)).0

pub decide_at-requires-clause-version : goal.decide_at-requires-clause-version
decide_at-requires-clause-version g c low =
    let live = c.args.live.now in let x = c.index-live-i.result in let lt : c.loop-i.i < length live = omega arith in
    let within = (c.requires.pinned x (in_place live c.loop-i.i x lt c.index-live-i.is)).1 in
    subst (λ (p : Participant). has_versions_at p.seen c.args.number ≡ true) (sym c.loop-i.invariant.same) (c.requires.version (omega (arith, low, within)))

pub returns-in_err-decide_at-clause-continues : goal.returns-in_err-decide_at-clause-continues
returns-in_err-decide_at-clause-continues g c =
    let s = c.args.seat.now in
    continues_still c.args.store.now s c.loop-i.seat c.decide_at.new.seat s.knows.participant c.loop-i.invariant.continues c.decide_at.ensures.continues

pub returns-in_err-decide_at-clause-same : goal.returns-in_err-decide_at-clause-same
returns-in_err-decide_at-clause-same g c = c.decide_at.ensures.same ∙ c.loop-i.invariant.same

pub loop-i-preserved : goal.loop-i-preserved
loop-i-preserved g c =
    let s = c.args.seat.now in let seen = s.knows.participant.seen in let live = c.args.live.now in let i = c.loop-i.i in let x = c.index-live-i.result in let is = c.index-live-i.is in let lt : i < length live = omega arith in
    let k = c.loop-i.invariant in let d = c.in_ok-decide_at.ensures in let mine = c.args.number ∷ [] in let before = c.args.committed.now.items in let mid = c.loop-i.committed.items in let after = c.decide_at.new.committed.items in record {
      continues = continues_still c.args.store.now s c.loop-i.seat c.decide_at.new.seat s.knows.participant k.continues d.continues;
      same = d.same ∙ k.same;
      decided = subst (λ (ns : List ℕ). Decides seen mine ns before after) (sym (mapped_next (λ (r : Registration). r.number) live i x lt is))
          (then_numbers seen before mid after mine (numbers_of (take i live)) (x.number ∷ []) k.decided (subst (λ (p : Participant). Decides p.seen mine (x.number ∷ []) mid after) k.same d.decided));
    }

pub returns-clause-decided : goal.returns-clause-decided
returns-clause-decided g c =
    let live = c.args.live.now in let le : length live ≤ c.loop-i.i = omega arith in
    subst (λ (rs : List Registration). Decides c.args.seat.now.knows.participant.seen (c.args.number ∷ []) (numbers_of rs) c.args.committed.now.items c.loop-i.committed.items) (take_all c.loop-i.i live le) c.loop-i.invariant.decided
