use Rattle.std.proofs.Common.{ap, ◌∙◌}
use Rattle.wp_parts.specs.Devices.{devices_behind}
use Rattle.wp_parts.specs.VersionSet.{VersionSetState}
use Rattle.wp_parts.specs.Log.{LogState}
use Rattle.wp_parts.proofs.FlushedVersions.{tables_flushed}
use Rattle.wp_refused.specs.Parts.{stored_cut}
use Rattle.wp_opened.proofs.OpeningLemmas.{has_cut, rests}
use Rattle.wp_opened.proofs.filling.make_guarded.Goals as goal

pub new-edits-requires-clause-stores : goal.new-edits-requires-clause-stores
new-edits-requires-clause-stores g c =
    let o = c.requires.opened in
    let parts = c.args.parts in
    let at_rest = rests o.0 o.1 o.2 o.3 parts.wal parts.history.entries parts.manifest _ parts.store o.4 in
    (o.4.installed.edits, rw c.requires.tables (c.new-2.ensures.stores o.4.installed.edits parts.store.tables o.4.installed.stores at_rest))

pub new-edits-requires-clause-flushed : goal.new-edits-requires-clause-flushed
new-edits-requires-clause-flushed g c =
    let o = c.requires.opened in
    let parts = c.args.parts in
    rw (c.new-2.ensures.set, c.requires.tables) (tables_flushed parts.wal.id parts.manifest.edit.flushed parts.store.tables o.4.are)

pub new-log-requires-clause-stores : goal.new-log-requires-clause-stores
new-log-requires-clause-stores g c =
    let o = c.requires.opened in
    let parts = c.args.parts in
    (stored_cut parts.wal parts.history.entries, o.4.opened.stores, has_cut o.0 o.1 o.2 o.3 parts.wal parts.history.entries parts.manifest _ parts.store o.4)

-- ---- memory is wanting

pub returns-in_default-clause-refused : goal.returns-in_default-clause-refused
returns-in_default-clause-refused g c =
    c.take_apart.ensures.disks ∙ (λ i. devices_behind (ap (λ (l : LogState). l.wal) c.new-log.ensures i) ((ap (λ (e : VersionSetState). e.set) c.new-edits.ensures ∙ c.new-2.ensures.set) i))

pub returns-in-Err-clause-refused : goal.returns-in-Err-clause-refused
returns-in-Err-clause-refused g c =
    c.take_apart-in-Err.ensures.disks
    ∙ (λ i. devices_behind (ap (λ (l : LogState). l.wal) (c.in-Err.ensures.value_returned ∙ c.new-log.ensures) i) ((ap (λ (e : VersionSetState). e.set) c.new-edits.ensures ∙ c.new-2.ensures.set) i))

pub returns-in-Err-new-clause-refused : goal.returns-in-Err-new-clause-refused
returns-in-Err-new-clause-refused g c =
    c.take_apart-in-Err-new.ensures.disks
    ∙ (λ i. devices_behind (ap (λ (l : LogState). l.wal) (c.into_inner.ensures ∙ c.in-Ok-new.ensures.ok ∙ c.new-log.ensures) i) ((ap (λ (e : VersionSetState). e.set) (c.in-Err-new.ensures.value_returned ∙ c.new-edits.ensures) ∙ c.new-2.ensures.set) i))
