use Rattle.std.proofs.Common.{◌≡◌, ◌+◌, ◌∷◌, [], ◌++◌, Some, List, ℕ, length, take, drop, refl, ◌∙◌, rules, arith}
use Rattle.wp_outside.specs.Disk.{Moment}
use Rattle.wp_outside.proofs.Moments.{looks_on, looks_same}
use Rattle.wp_gatelog.specs.declared.error.LogError.TheVariants as error
use Rattle.wp_gatelog.specs.Patched.{Shows, ReadsTo}
use Rattle.wp_gatelog.specs.Scanning.{IsUnfinished, HasRead, RefusedBy}
use Rattle.wp_gatelog.proofs.MomentLemmas.{known_map}
use Rattle.wp_gatelog.proofs.ScanLemmas.{HasScanned, next_long, scan_begins, scan_more, scan_ends, scan_cut}
use Rattle.wp_gatelog.proofs.scan.read_records.Goals as goal

pub gates-init : goal.gates-init
gates-init g c = record {
  looks = looks_same _ _ _ _ refl refl;
  unfailed = refl;
  count = omega arith;
  scanned = (let one : c.of-piece.result ≡ c.args.first ∷ [] = search rules in rw (one, c.new-records.ensures.items) (scan_begins c.args.start (g.P.Peek.moments c.args.disk.now) c.args.first));
}

pub take_record-requires : goal.take_record-requires
take_record-requires g c =
    let found = rw c.in-Open.is at c.in_ok-read_next.ensures.found in
    rw c.rest.ensures (next_long c.read_next.new.piece c.in-Open.gate c.in-Open.len found)

pub pass-requires : goal.pass-requires
pass-requires g c =
    let found = rw c.in-Open.is at c.in_ok-read_next.ensures.found in
    omega (arith, c.in_ok-size-in-Open.ensures.size, next_long c.read_next.new.piece c.in-Open.gate c.in-Open.len found)

pub gates-preserved : goal.gates-preserved
gates-preserved g c =
    let old = g.P.Peek.moments c.args.disk.now in
    let mid = g.P.Peek.moments c.gates.disk in
    let new = g.P.Peek.moments c.read_next.new.disk in
    let piece : List ℕ = c.read_next.new.piece in
    let len : ℕ = c.in-Open.len in
    let record_is : List ℕ = take len (drop 9 piece) in
    let found = rw c.in-Open.is at c.in_ok-read_next.ensures.found in
    let taken : c.take_record.new.records.items ≡ c.gates.records.items ++ record_is ∷ [] = rw c.rest.ensures at c.in_ok-size-in-Open.ensures.taken in
    let size : c.in_ok-size-in-Open.size ≡ 9 + len = c.in_ok-size-in-Open.ensures.size in
    let P : Moment → Type 0 = λ m. Shows c.args.start (c.args.first ∷ []) m → HasScanned c.args.start old mid c.gates.piece c.gates.records.items c.gates.last c.gates.end in
    let Q : Moment → Type 0 = λ m. Shows c.args.start (c.args.first ∷ []) m
    → HasScanned c.args.start old new (take c.args.reach (drop (9 + len) piece)) (c.gates.records.items ++ record_is ∷ []) (Some (record { at = c.gates.end; byte = c.in-Open.gate })) (c.gates.end + (9 + len)) in
    let scanned = known_map P Q (λ m h shown.
    scan_more c.args.start old mid new c.gates.piece piece c.gates.records.items c.gates.last c.gates.end c.read_next.ensures.looks.passes c.in_ok-read_next.ensures.shown (h shown)
    c.in-Open.gate len c.args.reach record_is c.requires refl found) old c.gates.invariant.scanned in
    record {
      looks = looks_on _ _ _ _ _ _ c.gates.invariant.looks c.read_next.ensures.looks;
      unfailed = c.in_ok-read_next.ensures.unfailed ∙ c.gates.invariant.unfailed;
      count = omega (arith, c.gates.invariant.count, c.in_ok-size-in-Open.ensures.count, size);
      scanned = rw (taken, c.pass.ensures, size) scanned;
    }

pub returns-in-Closed-clause-found : goal.returns-in-Closed-clause-found
returns-in-Closed-clause-found g c =
    let old = g.P.Peek.moments c.args.disk.now in
    let mid = g.P.Peek.moments c.gates.disk in
    let new = g.P.Peek.moments c.read_next.new.disk in
    let P : Moment → Type 0 = λ m. Shows c.args.start (c.args.first ∷ []) m → HasScanned c.args.start old mid c.gates.piece c.gates.records.items c.gates.last c.gates.end in
    let Q : Moment → Type 0 = λ m. Shows c.args.start (c.args.first ∷ []) m → ReadsTo c.args.start old new (λ text. HasRead c.args.start text (0 ∷ []) c.gates.records.items c.gates.last c.gates.end) in
    known_map P Q (λ m h shown.
    scan_ends c.args.start old mid new c.gates.piece c.read_next.new.piece c.gates.records.items c.gates.last c.gates.end c.read_next.ensures.looks.passes c.in_ok-read_next.ensures.shown (h shown)
    (rw c.in-Closed.is at c.in_ok-read_next.ensures.found)) old c.gates.invariant.scanned

pub returns-in-Short-clause-refused : goal.returns-in-Short-clause-refused
returns-in-Short-clause-refused g c =
    let old = g.P.Peek.moments c.args.disk.now in
    let mid = g.P.Peek.moments c.gates.disk in
    let new = g.P.Peek.moments c.read_next.new.disk in
    let unfinished : IsUnfinished c.read_next.new.piece = rw c.in-Short.is at c.in_ok-read_next.ensures.found in
    let index : c.len.result ≡ length c.gates.records.items = search rules in
    let P : Moment → Type 0 = λ m. Shows c.args.start (c.args.first ∷ []) m → HasScanned c.args.start old mid c.gates.piece c.gates.records.items c.gates.last c.gates.end in
    let Q : Moment → Type 0 = λ m. Shows c.args.start (c.args.first ∷ []) m → RefusedBy c.args.start c.args.id old new (error.Cut (length c.gates.records.items) c.args.id) in
    let cut = known_map P Q (λ m h shown.
    scan_cut c.args.start old mid new c.gates.piece c.read_next.new.piece c.gates.records.items c.gates.last c.gates.end c.read_next.ensures.looks.passes c.in_ok-read_next.ensures.shown (h shown) c.args.id c.in_ok-read_next.ensures.kept unfinished) old c.gates.invariant.scanned in
    rw index cut

-- nothing but the last look came behind what was known before
pub returns-in-Closed-clause-looks : goal.returns-in-Closed-clause-looks
returns-in-Closed-clause-looks g c = looks_on _ _ _ _ _ _ c.gates.invariant.looks c.read_next.ensures.looks

pub returns-in-Short-clause-looks : goal.returns-in-Short-clause-looks
returns-in-Short-clause-looks g c = looks_on _ _ _ _ _ _ c.gates.invariant.looks c.read_next.ensures.looks

pub returns-in_err-read_next-clause-looks : goal.returns-in_err-read_next-clause-looks
returns-in_err-read_next-clause-looks g c = looks_on _ _ _ _ _ _ c.gates.invariant.looks c.read_next.ensures.looks

pub returns-in_err-size-in-Open-clause-looks : goal.returns-in_err-size-in-Open-clause-looks
returns-in_err-size-in-Open-clause-looks g c = looks_on _ _ _ _ _ _ c.gates.invariant.looks c.read_next.ensures.looks
