use Rattle.std.proofs.Common.{refl, sym, ap, ◌∙◌}
use Rattle.std.specs.Cmp.{nat_cmp_total}
use Rattle.std.specs.FinSet.{contains, contains-from_list}
use Rattle.wp_prepared.proofs.Ascending.{is_ok-place}
use Rattle.wp_prepared.proofs.Numbered.{same_place}
use Rattle.wp_prepared.proofs.delayed.DelayedSet.contains.Goals as goal

pub place_of-requires : goal.place_of-requires
place_of-requires c = rw c.deref.ensures.value c.self.invariant.0

pub returns : goal.returns
returns c =
    let place = same_place c.self.inside.entries.items _ c.args.p _ _ c.deref.ensures.value refl c.place_of.ensures in
    c.is_ok.ensures.value
    ∙ is_ok-place _ c.args.p _ place
    ∙ sym (contains-from_list nat_cmp_total _ c.args.p)
    ∙ ap (λ s. contains s.numbers c.args.p) c.self.view_is
