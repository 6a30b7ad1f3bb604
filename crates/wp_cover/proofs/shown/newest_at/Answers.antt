use Rattle.std.proofs.Common.{◌++◌, map, None}
use Rattle.std.specs.Arc.{arc_value}
use Rattle.wp_model.specs.Flushed.{later_versions}
use Rattle.wp_merge.specs.Merge.{joined}
use Rattle.wp_cover.proofs.Shows.{none_newest, notes_append}
use Rattle.wp_cover.proofs.shown.newest_at.Goals as goal

pub returns : goal.returns
returns c =
    let s = c.args.sources.now in
    let history = c.args.decisions.now in
    notes_append history c.args.n s.list.now (joined (map arc_value s.tables.now) ++ later_versions s.history.now.entries s.flushed) _ c.note_list.new.newest c.note_later.new.newest c.in_ok-note_list.ensures
    (notes_append history c.args.n (joined (map arc_value s.tables.now)) (later_versions s.history.now.entries s.flushed) c.note_list.new.newest c.note_tables.new.newest c.note_later.new.newest c.in_ok-note_tables.ensures c.in_ok-note_later.ensures)
    (λ key. None) (none_newest _ c.new.ensures.empty c.new-2.ensures.empty)
