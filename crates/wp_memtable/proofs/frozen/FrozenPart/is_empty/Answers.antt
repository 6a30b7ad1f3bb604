use Rattle.std.proofs.Common.{◌==◌, length, not, sym, ap, ◌∙◌}
use Rattle.std.specs.List.{list_any}
use Rattle.wp_memtable.specs.Bounds.{is_between}
use Rattle.wp_memtable.proofs.Between.{some_left}
use Rattle.wp_memtable.proofs.frozen.FrozenPart.is_empty.Goals as goal

pub returns : goal.returns
returns c =
    let any = c.has_between.ensures ∙ ap (list_any (λ v. is_between c.self.inside.bounds v.number)) c.deref.ensures in
    ap not any ∙ sym (some_left (is_between c.self.inside.bounds) _) ∙ ap (λ vs. length vs == 0) c.self.view_is
