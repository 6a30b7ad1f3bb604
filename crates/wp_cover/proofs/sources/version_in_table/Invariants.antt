use Rattle.std.proofs.Common.{◌≡◌, true}
use Rattle.std.specs.List.{list_all}
use Rattle.std.specs.Str.{bytes_eq}
use Rattle.wp_model.specs.Versions.{version_at}
use Rattle.wp_cover.proofs.sources.version_in_table.Given as goal

abbrev pub invariant-loop-version : goal.invariant-loop-version
invariant-loop-version g l = record {
  found : version_at l.version-iterator l.key l.number ≡ version_at l.table l.key l.number;
  of_key : list_all (λ v. bytes_eq v.key l.key) l.version-iterator ≡ true;
}
