use Rattle.std.proofs.Common.{◌≡◌, ℕ, List, ◌∙◌}
use Rattle.std.proofs.lemmas.Result.{IfOk-weaker}
use Rattle.wp_model.specs.declared.entry.Entry.{Entry}
use Rattle.wp_model.specs.Rows.{rows}
use Rattle.wp_scan.specs.Scan.{left_of}
use Rattle.wp_copy.proofs.Ranges.{all_rows}
use Rattle.wp_copy.proofs.copying.scan_all.Goals as goal

pub returns-clause-all : goal.returns-clause-all
returns-clause-all g c =
    let seen = c.args.seat.now.knows.participant.seen in let n = c.args.snapshot.now.number in let ends = c.in_ok-least.ensures in
    IfOk-weaker c.begin.result (λ scan. (history : List Entry) (m : ℕ) → left_of history m scan ≡ rows history c.in_ok-least.least c.in_ok-least.greatest m) _
    (λ scan is. is seen n ∙ (λ i. rows seen (ends.0 i) (ends.1 i) n) ∙ all_rows seen n c.in_ok-next_row.ensures.words) c.begin.ensures
