use Rattle.std.proofs.Common.{drop, ◌≡◌}
use Rattle.wp_model.specs.Decision.{entry_version}
use Rattle.wp_model.specs.declared.version.Version.{Version}
use Rattle.wp_model.specs.Versions.{version_at}
use Rattle.wp_machine_permits.specs.Each.{Each}
use Rattle.wp_machine_permits.proofs.needs.stored.each_is_of.Given as goal

abbrev pub invariant-loop-version : goal.invariant-loop-version
invariant-loop-version l = record {
  onward : Each (λ (v : Version). entry_version l.history.entries v.number v.key ≡ version_at l.versions v.key v.number) l.listed → Each (λ (v : Version). entry_version l.history.entries v.number v.key ≡ version_at l.versions v.key v.number) (drop l.version-index l.listed);
  back : Each (λ (v : Version). entry_version l.history.entries v.number v.key ≡ version_at l.versions v.key v.number) (drop l.version-index l.listed) → Each (λ (v : Version). entry_version l.history.entries v.number v.key ≡ version_at l.versions v.key v.number) l.listed;
}
