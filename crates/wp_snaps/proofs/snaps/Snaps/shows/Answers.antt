use Rattle.std.proofs.Common.{false, not, is_some, sym, ap, ◌∙◌}
use Rattle.std.specs.Option.{option_map_or}
use Rattle.std.specs.FinSet.{contains}
use Rattle.wp_snaps.proofs.Shown.{is_live, get_of_entry, is_some-option_map}
use Rattle.wp_snaps.proofs.snaps.Snaps.shows.Goals as goal

pub unwrap-requires : goal.unwrap-requires
unwrap-requires c =
    sym (is_some-option_map (λ x. x.now) c.get.result) ∙ ap is_some c.get.ensures.value ∙ sym (is_live _ _ c.args.s c.self.view_is) ∙ c.requires

pub returns : goal.returns
returns c =
    let found = rw c.unwrap.ensures at c.get.ensures.value in
    let is = get_of_entry _ _ c.args.s c.unwrap.result.now c.self.view_is found in
    ap not (c.keeps.ensures ∙ sym (ap (λ x. option_map_or (λ y. contains y.old_commits c.args.p) x false) is))
