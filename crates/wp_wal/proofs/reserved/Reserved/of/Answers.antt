use Rattle.std.proofs.Common.{ℕ, List, drop, length, ap, ◌∙◌, arith}
use Rattle.std.proofs.lemmas.List.{drop_at}
use Rattle.wp_entry.specs.Record.{record_bytes}
use Rattle.wp_wal.specs.Wal.{Reserved}
use Rattle.wp_wal.proofs.reserved.Reserved.of.Goals as goal

abbrev reserved_as : List ℕ → ℕ → Reserved
reserved_as bytes count = record { bytes = bytes; count = count }

pub returns-clause-reserved : goal.returns-clause-reserved
returns-clause-reserved c =
    ap (λ (bytes : List ℕ). reserved_as bytes (length c.args.entries.now))
    (c.in_ok-of.ensures ∙ ap (λ (l : List ℕ). drop 8 l) c.in_ok-push_record.ensures.pushed ∙ drop_at c.in_ok-room.room.items (record_bytes c.args.format c.args.due c.args.entries.now) 8 (omega (arith, c.in_ok-room.ensures)))
