use Rattle.std.proofs.Common.{List, ap, ◌∙◌}
use Rattle.std.specs.List.{list_all}
use Rattle.std.specs.Str.{bytes_eq}
use Rattle.wp_model.specs.declared.version.Version.{Version}
use Rattle.wp_model.specs.Versions.{version_at}
use Rattle.wp_cover.proofs.Places.{at_key, all_of_key}
use Rattle.wp_cover.proofs.sources.version_in_table.Goals as goal

pub loop-version-init : goal.loop-version-init
loop-version-init g c =
    let found = c.into_iter-version-iterator.ensures.into_iter_gives ∙ c.versions-version-items.ensures.found in
    record {
      found = ap (λ (vs : List Version). version_at vs c.args.key.now c.args.number) found ∙ at_key c.args.key.now c.args.number c.args.table.now;
      of_key = ap (list_all (λ (v : Version). bytes_eq v.key c.args.key.now)) found ∙ all_of_key c.args.key.now c.args.table.now;
    }
