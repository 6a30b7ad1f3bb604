use Rattle.std.proofs.Common.{inl, inr, true, ◌≡◌, List, [], ◌∷◌, refl, sym, subst, ◌∙◌, arith}
use Rattle.std.proofs.lemmas.Result.{on_ok_weaker}
use Rattle.wp_core.specs.Lists.{IsIn}
use Rattle.wp_core.specs.Reading.{Registration}
use Rattle.wp_core.specs.Sound.Snapshots.{has_versions_at}
use Rattle.wp_core.specs.World.{Participant}
use Rattle.wp_read.specs.Registers.{numbers_of}
use Rattle.wp_compact.specs.Decided.{Decides}
use Rattle.wp_compact.proofs.Decisions.{then_one}
use Rattle.wp_shared.proofs.Onward.{continues_still}
use Rattle.wp_compact.proofs.decided.decide_version.Goals as goal

pub decide_at_each-requires-clause-pinned : goal.decide_at_each-requires-clause-pinned
decide_at_each-requires-clause-pinned g c r there = c.requires.pinned r (inr (subst (IsIn r) c.deref.ensures.value there))

pub decide_at-requires-clause-free : goal.decide_at-requires-clause-free
decide_at-requires-clause-free g c = c.decide_at_each.ensures.continues.free

pub decide_at-requires-clause-registered : goal.decide_at-requires-clause-registered
decide_at-requires-clause-registered g c = let floor = c.args.pinned.now.floor in subst (λ (p : Participant). IsIn floor p.registered) (sym c.decide_at_each.ensures.same) (c.requires.pinned floor (inl refl)).0

pub decide_at-requires-clause-version : goal.decide_at-requires-clause-version
decide_at-requires-clause-version g c low = let within = (c.requires.pinned c.args.pinned.now.floor (inl refl)).1 in
    subst (λ (p : Participant). has_versions_at p.seen c.args.number ≡ true) (sym c.decide_at_each.ensures.same) (c.requires.version (omega (arith, low, within)))

pub returns-clause-continues : goal.returns-clause-continues
returns-clause-continues g c =
    let s = c.args.seat.now in
    continues_still c.args.store.now s c.decide_at_each.new.seat c.decide_at.new.seat s.knows.participant c.decide_at_each.ensures.continues c.decide_at.ensures.continues

pub returns-clause-same : goal.returns-clause-same
returns-clause-same g c = c.decide_at.ensures.same ∙ c.decide_at_each.ensures.same

pub returns-clause-decided : goal.returns-clause-decided
returns-clause-decided g c =
    let seen = c.args.seat.now.knows.participant.seen in let before = c.args.committed.now.items in let mid = c.decide_at_each.new.committed.items in let after = c.decide_at.new.committed.items in let p = c.args.pinned.now in let mine = c.args.number ∷ [] in
    on_ok_weaker c.decide_at.result (λ last. then_one seen before mid after mine (numbers_of p.live.items) p.floor.number
    (subst (λ (rs : List Registration). Decides seen mine (numbers_of rs) before mid) c.deref.ensures.value c.in_ok-decide_at_each.ensures.decided)
    (subst (λ (q : Participant). Decides q.seen mine (p.floor.number ∷ []) mid after) c.decide_at_each.ensures.same last)) c.decide_at.ensures.decided
