-- What the base of a log is told by.
use Rattle.std.specs.Prelude.{◌≡◌, ℕ, ◌^◌, List, map, min}
use Rattle.std.specs.List.Sorted.{IsStrictlySortedBy}
use Rattle.std.specs.Map.{lookup}
use Rattle.std.specs.BTreeMap.{is_at}
use Rattle.wp_model.specs.declared.entry.Entry.{Entry}
use Rattle.wp_model.specs.Batch.{key_cmp}
use Rattle.wp_model.specs.History.{value_at}
use Rattle.wp_outside.specs.Disk.{Moment, IfKnown}
use Rattle.wp_fields.specs.declared.format.Format.{Format}
use Rattle.wp_entry.specs.Record.{last_number}
use Rattle.wp_wal.specs.Spelling.{IsInVersion}
use Rattle.wp_replies.specs.Replies.{Limits}

-- each key that has a value at the base, in ascending order, with that value
pub record IsBaseStore (history : List Entry) (base : ℕ) (store : List (List ℕ × List ℕ)) : Type 0 where
  pub order : IsStrictlySortedBy key_cmp (map (λ pair. pair.0) store)
  pub each : (key : List ℕ) → lookup (is_at (key_cmp key)) store ≡ value_at history key base

-- The limit is the one that was asked for, and until the log was renewed no more than the last number of the version that was found at that
-- place of its device. The commit cache has as many words as were asked for.
pub record AreLimits (asked bits place : ℕ) (log : List Moment) (limits : Limits) : Type 0 where
  pub format : Format
  pub found : IfKnown log (λ m. IsInVersion format place m.reads)
  pub opened : limits.opened ≡ min asked (last_number format)
  pub renewed : limits.renewed ≡ asked
  pub cells : limits.cells ≡ 2 ^ bits
