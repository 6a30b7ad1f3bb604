use Rattle.std.proofs.Common.{sym, ◌∙◌, arith}
use Rattle.wp_gatelog.proofs.HeadLemmas.{none_named, later_named}
use Rattle.wp_fields.proofs.FieldLemmas.{byte_of_format}
use Rattle.wp_gatelog.proofs.head.version_of.Goals as goal

pub returns-in_default-clause-none : goal.returns-in_default-clause-none
returns-in_default-clause-none c = none_named c.args.newest c.args.byte (sym c.of.ensures ∙ c.in_default.is)

pub returns-then-byte-clause-none : goal.returns-then-byte-clause-none
returns-then-byte-clause-none c = later_named c.args.newest c.in-Some.format c.args.byte (sym c.of.ensures ∙ c.in-Some.is) (omega arith)

pub returns-clause-found : goal.returns-clause-found
returns-clause-found c = (omega arith, byte_of_format c.args.byte c.in-Some.format (sym c.of.ensures ∙ c.in-Some.is))
