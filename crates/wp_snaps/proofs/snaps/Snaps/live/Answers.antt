use Rattle.std.proofs.Common.{sym, ◌∙◌}
use Rattle.std.specs.Cmp.{nat_cmp_total}
use Rattle.std.proofs.lemmas.Map.Keys.{IsStrictlyIncreasing-from_sorted}
use Rattle.std.proofs.lemmas.Map.Lookups.{exact_unsigned}
use Rattle.std.proofs.lemmas.Map.Views.{btree_map_contains_key_iff}
use Rattle.wp_snaps.proofs.Shown.{is_live}
use Rattle.wp_snaps.proofs.snaps.Snaps.live.Goals as goal

pub returns-clause-ascending : goal.returns-clause-ascending
returns-clause-ascending c = rw (c.new.ensures, c.keys.ensures.rest) (IsStrictlyIncreasing-from_sorted _ c.keys.ensures.ordered)

pub returns-clause-each : goal.returns-clause-each
returns-clause-each c = λ s.
    let both = btree_map_contains_key_iff nat_cmp_total exact_unsigned c.self.inside.live s in
    let live = is_live _ _ s c.self.view_is in
    rw (c.new.ensures, c.keys.ensures.rest) (λ member. live ∙ both.1 member, λ is. both.0 (sym live ∙ is))
