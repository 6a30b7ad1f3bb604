use Rattle.std.proofs.Common.{sym, ap, ◌∙◌}
use Rattle.wp_entry.specs.declared.error.RecordError.{RecordError}
use Rattle.wp_entry.specs.Reading.{record_at}
use Rattle.wp_fields.proofs.Results.{ok_is}
use Rattle.wp_entry.proofs.Spelled.{record_again}
use Rattle.wp_entry.proofs.laws.spellings_differ.Goals as goal

pub returns : goal.returns
returns c = λ format first one other is_one is_other same. ok_is {E = RecordError} one other (sym (record_again format first one is_one) ∙ ap (record_at format first) same ∙ record_again format first other is_other)
