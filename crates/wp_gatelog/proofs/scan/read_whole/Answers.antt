use Rattle.std.proofs.Common.{◌≡◌, ◌<◌, length, refl, ◌∙◌, rules}
use Rattle.wp_outside.specs.Disk.{IsRead}
use Rattle.wp_outside.proofs.Moments.{looks_on, looks_same}
use Rattle.wp_gatelog.specs.Scanning.{IsWholeAt}
use Rattle.wp_gatelog.proofs.MomentLemmas.{known_map}
use Rattle.wp_gatelog.proofs.ScanLemmas.{finished, left_read, whole_read}
use Rattle.wp_gatelog.proofs.scan.read_whole.Goals as goal

pub sizes-init : goal.sizes-init
sizes-init g c = record { looks = looks_same _ _ _ _ refl refl; unfailed = refl }

pub sizes-preserved : goal.sizes-preserved
sizes-preserved g c = record {
  looks = looks_on _ _ _ _ _ _ c.sizes.invariant.looks (looks_on _ _ _ _ _ _ c.read_at.ensures.looks c.len.ensures.looks);
  unfailed = c.in_ok-len.ensures.cause.ok ∙ c.in_ok-read.ensures.cause.ok ∙ c.sizes.invariant.unfailed;
}

pub returns-then-read-size-clause-found : goal.returns-then-read-size-clause-found
returns-then-read-size-clause-found g c =
    let room : length c.read_at.new.buf ≡ c.sizes.size = search rules in
    let is = left_read c.read_at.new.buf _ c.truncate.new.self.items c.in_ok-read.read c.in_ok-bytes.bytes.len (search rules) c.truncate.ensures.items in
    let less : c.in_ok-read.read < c.sizes.size = c.if-read-size.true in
    known_map (λ m. IsRead m.reads c.args.at c.read_at.new.buf c.in_ok-read.read) (IsWholeAt c.args.at c.truncate.new.self.items)
    (λ m. whole_read m c.read_at.new.buf c.truncate.new.self.items c.args.at c.in_ok-read.read c.sizes.size room is (λ unfinished. less)) _ c.in_ok-read.ensures.bytes

pub returns-then-read-size-clause-looks : goal.returns-then-read-size-clause-looks
returns-then-read-size-clause-looks g c = looks_on _ _ _ _ _ _ c.sizes.invariant.looks c.read_at.ensures.looks

pub returns-in_default-clause-found : goal.returns-in_default-clause-found
returns-in_default-clause-found g c =
    let room : length c.read_at.new.buf ≡ c.sizes.size = search rules in
    let is = left_read c.read_at.new.buf _ c.truncate.new.self.items c.in_ok-read.read c.in_ok-bytes.bytes.len (search rules) c.truncate.ensures.items in
    known_map (λ m. IsRead m.reads c.args.at c.read_at.new.buf c.in_ok-read.read) (IsWholeAt c.args.at c.truncate.new.self.items)
    (λ m. whole_read m c.read_at.new.buf c.truncate.new.self.items c.args.at c.in_ok-read.read c.sizes.size room is
    (λ unfinished. absurd (finished c.truncate.new.self.items c.next_in.result c.in_default.not-Short (rw c.deref.ensures.value at c.next_in.ensures) unfinished))) _ c.in_ok-read.ensures.bytes

pub returns-in_default-clause-looks : goal.returns-in_default-clause-looks
returns-in_default-clause-looks g c = looks_on _ _ _ _ _ _ c.sizes.invariant.looks c.read_at.ensures.looks

pub returns-in_err-read-clause-looks : goal.returns-in_err-read-clause-looks
returns-in_err-read-clause-looks g c = looks_on _ _ _ _ _ _ c.sizes.invariant.looks c.read_at.ensures.looks

pub returns-in_err-len-clause-looks : goal.returns-in_err-len-clause-looks
returns-in_err-len-clause-looks g c = looks_on _ _ _ _ _ _ c.sizes.invariant.looks (looks_on _ _ _ _ _ _ c.read_at.ensures.looks c.len.ensures.looks)
