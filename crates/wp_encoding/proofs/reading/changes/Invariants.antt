use Rattle.std.proofs.Common.{◌≡◌, ◌-◌, true, length, []}
use Rattle.wp_model.specs.Batch.{is_batch}
use Rattle.wp_encoding.specs.Reading.{changes_after}
use Rattle.wp_encoding.proofs.reading.changes.Given as goal

abbrev pub invariant-loop : goal.invariant-loop
invariant-loop l = record {
  read : changes_after (l.count - l.counter) l.batch l.fields ≡ changes_after l.count [] l.fn.fields;
  in_order : is_batch l.batch ≡ true;
  counted : length l.batch ≡ l.counter;
}
