use Rattle.std.proofs.Common.{map, sym, ◌∙◌}
use Rattle.std.specs.Arc.{arc_value}
use Rattle.std.specs.Option.{option_or}
use Rattle.wp_model.specs.Flushed.{later_versions}
use Rattle.wp_model.specs.Versions.{version_at}
use Rattle.wp_merge.specs.Merge.{joined}
use Rattle.wp_cover.proofs.Places.{at_all, first_found, none_found}
use Rattle.wp_cover.proofs.sources.Sources.find.Goals as goal

pub returns-then-is_some : goal.returns-then-is_some
returns-then-is_some c =
    let s = c.args.self.now in
    let key = c.args.key.now in
    let p = c.args.number in
    let list = version_at s.list.now key p in
    let stored = version_at (joined (map arc_value s.tables.now)) key p in
    let later = version_at (later_versions s.history.now.entries s.flushed) key p in
    first_found c.version_at-listed.result list (option_or stored later) (sym c.is_some.ensures ∙ c.if-is_some.true) c.version_at-listed.ensures
    ∙ sym (at_all s.history.now.entries s.list.now (joined (map arc_value s.tables.now)) s.flushed key p)

pub returns-then-is_some-2 : goal.returns-then-is_some-2
returns-then-is_some-2 c =
    let s = c.args.self.now in
    let key = c.args.key.now in
    let p = c.args.number in
    let list = version_at s.list.now key p in
    let stored = version_at (joined (map arc_value s.tables.now)) key p in
    let later = version_at (later_versions s.history.now.entries s.flushed) key p in
    first_found c.version_in_tables-stored.result stored later (sym c.is_some-2.ensures ∙ c.if-is_some-2.true) c.version_in_tables-stored.ensures
    ∙ none_found c.version_at-listed.result list (option_or stored later) (sym c.is_some.ensures ∙ c.if-is_some.false) c.version_at-listed.ensures
    ∙ sym (at_all s.history.now.entries s.list.now (joined (map arc_value s.tables.now)) s.flushed key p)

pub returns : goal.returns
returns c =
    let s = c.args.self.now in
    let key = c.args.key.now in
    let p = c.args.number in
    let list = version_at s.list.now key p in
    let stored = version_at (joined (map arc_value s.tables.now)) key p in
    let later = version_at (later_versions s.history.now.entries s.flushed) key p in
    c.later_version.ensures
    ∙ none_found c.version_in_tables-stored.result stored later (sym c.is_some-2.ensures ∙ c.if-is_some-2.false) c.version_in_tables-stored.ensures
    ∙ none_found c.version_at-listed.result list (option_or stored later) (sym c.is_some.ensures ∙ c.if-is_some.false) c.version_at-listed.ensures
    ∙ sym (at_all s.history.now.entries s.list.now (joined (map arc_value s.tables.now)) s.flushed key p)
