use Rattle.std.proofs.Common.{[], ap, sym, ◌∙◌}
use Rattle.std.specs.Option.{option_map}
use Rattle.wp_table.specs.Borrowed.{seen, with_next, begins_short}
use Rattle.wp_table.proofs.Lookup.{short_front}
use Rattle.wp_table.proofs.table.Table.begins_short.Goals as goal

pub returns-clause-short : goal.returns-clause-short
returns-clause-short g c =
    c.is_short.ensures.short
    ∙ ap (λ k. begins_short c.args.above k (with_next (option_map seen c.advance-first.result) [])) c.bytes.ensures.value
    ∙ short_front c.args.above c.args.key.now (option_map seen c.advance-first.result) c.advance-first.new.self
    ∙ sym (ap (begins_short c.args.above c.args.key.now) (sym c.from_block.ensures.versions ∙ c.advance-first.ensures))
