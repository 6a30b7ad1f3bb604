use Rattle.std.proofs.Common.{ℕ, sym, subst}
use Rattle.wp_rule.specs.Words.{SharedWords, place_of, SawAll}
use Rattle.wp_rule.proofs.Told.{sees_it, saw_it}
use Rattle.wp_rule.proofs.words.Words.load_published.Goals as goal

pub load-requires-clause-may : goal.load-requires-clause-may
load-requires-clause-may g c w k = ((tt, tt), (tt, tt))

pub returns-clause-seen : goal.returns-clause-seen
returns-clause-seen g c = let s = sees_it _ _ _ _ c.load.ensures.moved in (s.0, (λ i. (s.1 i, c.load.ensures.same.2 i)), s.2, s.3, s.4, s.5)

pub returns-clause-stands : goal.returns-clause-stands
returns-clause-stands g c = subst (λ (z : SharedWords _ × ℕ). SawAll (place_of g.S.HoldsPart.content z.0 z.1) c.load.new.seat.me.0 c.load.result) (λ i. (c.self.view_is i, sym c.load.ensures.same.1 i)) (saw_it _ _ _ _ c.load.ensures.moved)
