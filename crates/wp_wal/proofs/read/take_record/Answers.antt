use Rattle.std.proofs.Common.{ℕ, ◌+◌, List, ap, refl, sym, subst, rules}
use Rattle.std.proofs.lemmas.Result.{IfErr-weaker, on_ok_weaker}
use Rattle.wp_model.specs.declared.entry.Entry.{Entry}
use Rattle.wp_cuts.specs.Cut.{carried_of}
use Rattle.wp_history.specs.Holders.{Holds}
use Rattle.wp_history.specs.Outline.{cut_in}
use Rattle.wp_wal.specs.Reading.{AreRefusedEntries, IsRefusedRecord}
use Rattle.wp_wal.proofs.Told.{entries_refused, few_there, no_record_there, takes_there, told_same}
use Rattle.wp_wal.proofs.read.take_record.Goals as goal

pub take_entries-requires-clause-told : goal.take_entries-requires-clause-told
take_entries-requires-clause-told c = record {
  told = told_same c.args.reading.now.outline c.reserve.new.self c.in_ok-reserve.ensures.base c.in_ok-reserve.ensures.entries c.requires.told;
  holds = subst (λ (es : List Entry). Holds (carried_of es) c.args.reading.now.holders) (sym c.in_ok-reserve.ensures.entries) c.requires.holds;
}

pub take_entries-requires-clause-few : goal.take_entries-requires-clause-few
take_entries-requires-clause-few c = rw c.in_ok-reserve.ensures.entries (few_there c.args.format c.args.reading.now.outline _ c.in-Ok.entries.items (search rules) c.in-Ok.ensures.found.0)

pub returns-clause-ok : goal.returns-clause-ok
returns-clause-ok c =
    on_ok_weaker c.take_entries.result (λ more.
    takes_there c.args.format c.args.reading.now.outline c.reserve.new.self c.take_entries.new.reading.outline (c.published-due.result + 1) c.in-Ok.entries.items c.args.bytes.now c.requires.told c.in_ok-reserve.ensures.base c.in_ok-reserve.ensures.entries c.take_entries.ensures.base more
    (search rules) c.in-Ok.ensures.found.0 c.in-Ok.ensures.found.1) c.take_entries.ensures.ok

pub returns-clause-err : goal.returns-clause-err
returns-clause-err c =
    IfErr-weaker c.take_entries.result (AreRefusedEntries (cut_in c.reserve.new.self) c.in-Ok.entries.items) (IsRefusedRecord c.args.format (cut_in c.args.reading.now.outline) c.args.index c.args.bytes.now) (λ why.
    entries_refused c.args.format c.args.reading.now.outline c.reserve.new.self (c.published-due.result + 1) c.args.index c.in-Ok.entries.items c.args.bytes.now why c.requires.told c.in_ok-reserve.ensures.base c.in_ok-reserve.ensures.entries (search rules) c.in-Ok.ensures.found.0 c.in-Ok.ensures.found.1) c.take_entries.ensures.err

pub returns-in-Err-clause-err : goal.returns-in-Err-clause-err
returns-in-Err-clause-err c = (refl, no_record_there c.args.format c.args.reading.now.outline (c.published-due.result + 1) c.args.bytes.now c.in-Err.why c.requires.told (ap (λ (n : ℕ). n + 1) c.published-due.ensures.value) (search rules))
