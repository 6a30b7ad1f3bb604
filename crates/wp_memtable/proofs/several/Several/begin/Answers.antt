use Rattle.std.proofs.Common.{◌++◌, [], ◌∷◌, sym, ap, subst, ◌∙◌}
use Rattle.wp_memtable.specs.KeyVersions.{AreNewestFirst}
use Rattle.wp_memtable.proofs.KeyVersions.{newest_one}
use Rattle.wp_memtable.proofs.several.Several.begin.Goals as goal

pub invariant_of-self : goal.invariant_of-self
invariant_of-self c =
    let none = ap (λ r. r.versions) c.self.view_is ∙ c.requires.none in
    let is = c.push_back_reserved.ensures.items ∙ ap (λ es. es ++ c.args.version ∷ []) none in
    subst AreNewestFirst (sym is) (newest_one c.args.version.0)
