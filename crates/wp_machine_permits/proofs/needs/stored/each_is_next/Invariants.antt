use Rattle.std.proofs.Common.{drop, ◌≡◌, ◌<◌, suc}
use Rattle.wp_model.specs.Decision.{version_in}
use Rattle.wp_core.specs.Entries.{next_of}
use Rattle.wp_model.specs.declared.version.Version.{Version}
use Rattle.wp_model.specs.Versions.{version_at}
use Rattle.wp_machine_permits.specs.Each.{Each}
use Rattle.wp_machine_permits.proofs.needs.stored.each_is_next.Given as goal

abbrev pub invariant-loop-version : goal.invariant-loop-version
invariant-loop-version l = record {
  onward : Each (λ (v : Version). l.last < v.number → (v.number ≡ suc l.last) × (version_in (next_of l.pending) v.key ≡ version_at l.versions v.key v.number)) l.listed → Each (λ (v : Version). l.last < v.number → (v.number ≡ suc l.last) × (version_in (next_of l.pending) v.key ≡ version_at l.versions v.key v.number)) (drop l.version-index l.listed);
  back : Each (λ (v : Version). l.last < v.number → (v.number ≡ suc l.last) × (version_in (next_of l.pending) v.key ≡ version_at l.versions v.key v.number)) (drop l.version-index l.listed) → Each (λ (v : Version). l.last < v.number → (v.number ≡ suc l.last) × (version_in (next_of l.pending) v.key ≡ version_at l.versions v.key v.number)) l.listed;
}
