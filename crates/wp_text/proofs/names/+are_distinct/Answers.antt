use Rattle.std.proofs.Common.{◌∙◌}
use Rattle.wp_text.proofs.NamesLemmas.{comes_twice, comes_once}
use Rattle.wp_text.proofs.names.«+are_distinct».Goals as goal

pub returns-then-not-is_among : goal.returns-then-not-is_among
returns-then-not-is_among n c = c.are_distinct.ensures ∙ comes_once c.args.words.now _ _ c.in-len1-up.len_at_least c.is_among.ensures c.if-not-is_among.true

pub returns-else-not-is_among : goal.returns-else-not-is_among
returns-else-not-is_among n c = comes_twice c.args.words.now _ _ c.in-len1-up.len_at_least c.is_among.ensures c.if-not-is_among.false
