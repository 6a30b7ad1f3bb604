use Rattle.std.proofs.lemmas.Grind.{common_steps}
use Rattle.std.proofs.Common.{◌≡◌, rules, List, length, sym, ap, ◌∙◌, arith}
use Rattle.std.proofs.lemmas.List.{nil_from_length}
use Rattle.wp_model.specs.declared.version.Version.{Version}
use Rattle.wp_merge.specs.Merge.{merge_of}
use Rattle.wp_merge.proofs.Merged.{merge_none}
use Rattle.wp_merge.proofs.two.merge_two.Goals as goal

pub returns-then-is_empty : goal.returns-then-is_empty
returns-then-is_empty c =
    let none : length c.args.first.items ≡ 0 = search (arith, rules) in
    ap (λ (xs : List Version). merge_of xs c.args.second.items) (sym (nil_from_length c.args.first.items none))

pub returns-then-is_empty-2 : goal.returns-then-is_empty-2
returns-then-is_empty-2 c =
    let none : length c.args.second.items ≡ 0 = search (arith, rules) in
    sym (merge_none c.args.first.items) ∙ ap (merge_of c.args.first.items) (sym (nil_from_length c.args.second.items none))

pub loop-version-preserved : goal.loop-version-preserved
loop-version-preserved c = grind (arith, common_steps)
