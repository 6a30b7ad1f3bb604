use Rattle.std.proofs.Common.{◌≡◌, ℕ, List, [], ◌∷◌, drop}
use Rattle.std.proofs.lemmas.Result.{IfOk-weaker, IfErr-weaker}
use Rattle.wp_outside.specs.Disk.{IfKnown}
use Rattle.wp_gatelog.specs.Patched.{Shows, ReadsTo}
use Rattle.wp_gatelog.specs.Scanning.{HasRead, IsReadFault, RefusedBy}
use Rattle.wp_gatelog.proofs.ScanLemmas.{alone_found, alone_refused}
use Rattle.wp_gatelog.proofs.scan.own_records.Goals as goal

pub returns-clause-found : goal.returns-clause-found
returns-clause-found g c =
    let old = g.D.Peek.moments c.args.disk.now in
    let new = g.D.Peek.moments c.read_records.new.disk in
    let same : new ≡ old = c.read_records.ensures.looks.unchanged (g.met.D.Disk.owned c.args.disk.now) in
    IfOk-weaker c.read_records.result (λ scan. IfKnown old (λ m. Shows c.args.start (c.args.first ∷ []) m → ReadsTo c.args.start old new (λ text. HasRead c.args.start text (0 ∷ []) scan.records.items scan.last scan.end)))
    (λ scan. IfKnown old (λ m. Shows c.args.start (c.args.first ∷ []) m → (following : List ℕ) × HasRead c.args.start (drop c.args.start m.reads) (0 ∷ following) scan.records.items scan.last scan.end))
    (λ scan found. alone_found c.args.start old new c.args.first scan.records.items scan.last scan.end same found) c.read_records.ensures.found

pub returns-clause-refused : goal.returns-clause-refused
returns-clause-refused g c =
    let old = g.D.Peek.moments c.args.disk.now in
    let new = g.D.Peek.moments c.read_records.new.disk in
    let same : new ≡ old = c.read_records.ensures.looks.unchanged (g.met.D.Disk.owned c.args.disk.now) in
    IfErr-weaker c.read_records.result (λ why. IfKnown old (λ m. Shows c.args.start (c.args.first ∷ []) m → RefusedBy c.args.start c.args.id old new why))
    (λ why. IfKnown old (λ m. Shows c.args.start (c.args.first ∷ []) m → IsReadFault c.args.id (drop c.args.start m.reads) why))
    (λ why refused. alone_refused c.args.start old new c.args.id c.args.first why same refused) c.read_records.ensures.refused

pub returns-clause-unchanged : goal.returns-clause-unchanged
returns-clause-unchanged g c = c.read_records.ensures.looks.unchanged (g.met.D.Disk.owned c.args.disk.now)
