use Rattle.std.proofs.Common.{◌≡◌, List, [], ◌∷◌, sym, subst, ap, ◌∙◌}
use Rattle.wp_core.specs.Steps.{Step, load}
use Rattle.wp_core.specs.World.{World}
use Rattle.wp_rule.specs.Moves.{MayMake, Moved}
use Rattle.wp_rule.specs.Words.{Place, word_in}
use Rattle.wp_shared.specs.Clients.{KeepClient}
use Rattle.wp_read.proofs.Readings.{may_load, none_to_look, load_made, word_loaded}
use Rattle.wp_read.proofs.steps.load_with.Goals as goal

pub load-found-requires-clause-may : goal.load-found-requires-clause-may
load-found-requires-clause-may g c =
    subst (λ (x : Place × (World → List Step)). MayMake x.0 c.args.seat.now.knows x.1) (λ i. (sym c.requires.seat.1 i, sym c.requires.steps i))
    (may_load c.args.store.now c.args.seat.now c.args.which c.args.seen.now c.requires.next (none_to_look c.args.seat.now.knows c.args.which c.requires.word))

pub load-found-requires-clause-client : goal.load-found-requires-clause-client
load-found-requires-clause-client g c w = subst (λ (steps : World → List Step). KeepClient (steps w)) (sym c.requires.steps) (tt, tt)

pub returns : goal.returns
returns g c =
    let z = c.args.store.now in let s = c.args.seat.now in let t = c.load-found.new.seat in let which = c.args.which in let r = c.args.seen.now in let found = c.load-found.result in
    load_made z (λ (w : World). found ≡ word_in c.word_of-word.result w) s t which r _ c.requires.next
    (λ w k so. c.put_down.ensures ∙ word_loaded z s.by s.knows w k which c.word_of-word.result found r c.word_of-word.ensures.word so) c.load-found.ensures.same
    (subst (λ (x : Place × (World → List Step)). Moved x.0 x.1 (λ w. found ≡ word_in c.word_of-word.result w) s.knows t.knows) (λ i. (c.requires.seat.1 i, c.requires.steps i)) c.load-found.ensures.moved)
