use Rattle.std.proofs.Common.{[], ◌∷◌, ◌++◌, refl, sym, ap, ◌∙◌}
use Rattle.wp_core.specs.Reading.{Registration}
use Rattle.wp_core.specs.Steps.{release}
use Rattle.wp_read.specs.Registers.{all_but_last, last_of}
use Rattle.wp_read.proofs.Registers.{last_is}
use Rattle.wp_read.proofs.steps.unregister_last.Goals as goal

pub unregister_at-requires-clause-steps : goal.unregister_at-requires-clause-steps
unregister_at-requires-clause-steps g c =
    let k = c.requires.last in let rs = c.args.seat.now.knows.participant.registered in let d : Registration = record { number = 0; smallest = 0 } in let l = last_is d k.1 k.0 in
    (all_but_last rs, [], last_of d rs, refl, k.2 ∙ sym (λ i. (ap all_but_last k.2 ∙ l.0) i ++ (ap (last_of d) k.2 ∙ l.1) i ∷ []))

pub returns : goal.returns
returns g c front r m mine held =
    let d : Registration = record { number = 0; smallest = 0 } in let l = last_is d r front in
    c.unregister_at.ensures front [] r m (λ i w. release ((ap all_but_last mine ∙ l.0) i) ((ap (last_of d) mine ∙ l.1) i) [] ∷ []) mine held
