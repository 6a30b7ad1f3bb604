use Rattle.std.proofs.Common.{◌++◌, List, ap, ◌∙◌}
use Rattle.std.proofs.lemmas.Result.{IfOk-weaker}
use Rattle.wp_model.specs.declared.version.Version.{Version}
use Rattle.wp_cuts.specs.Kept.{carried_versions}
use Rattle.wp_merge.specs.Merge.{sorted_of}
use Rattle.wp_checkpoint.specs.Copy.{copied_versions}
use Rattle.wp_checkpoint.specs.Image.{AreMadeOf}
use Rattle.wp_checkpoint.proofs.Images.{merged_is}
use Rattle.wp_checkpoint.proofs.image.all_versions.Goals as goal

pub returns-clause-made : goal.returns-clause-made
returns-clause-made g c =
    let rows = c.in_ok-rows.ensures.made in
    let carried = c.args.carried.now in
    IfOk-weaker c.merged.result _ (AreMadeOf (g.R.Rows.left c.args.rows.now) (g.R.Rows.gives c.args.rows.now) (λ given. copied_versions given carried))
    (λ all merged. record {
      rows = rows.rows;
      all = rows.all;
      each = rows.each;
      are = merged_is c.in_ok-rows.rows c.in_ok-prepared.prepared all carried c.in_ok-prepared.ensures (rw c.in_ok-vec.ensures.items at merged)
          ∙ ap (λ (own : List Version). sorted_of (own ++ carried_versions carried)) rows.are;
    }) c.merged.ensures
