use Rattle.std.proofs.Common.{drop, rules}
use Rattle.wp_outside.specs.Disk.{Moment, IsRead}
use Rattle.wp_outside.proofs.Moments.{looks_on}
use Rattle.wp_gatelog.specs.Heads.{IsHead}
use Rattle.wp_gatelog.proofs.HeadLemmas.{head_read}
use Rattle.wp_gatelog.proofs.MomentLemmas.{known_map}
use Rattle.wp_gatelog.proofs.head.read_head.Goals as goal

pub returns-clause-found : goal.returns-clause-found
returns-clause-found g c =
    let P : Moment → Type 0 = λ m. IsRead m.reads c.args.place c.read_at-2.new.buf c.in_ok-read.read in
    let Q : Moment → Type 0 = λ m. IsHead c.args.magic.now c.args.newest (drop c.args.place m.reads) c.head_of.result in
    known_map P Q (λ m. head_read c.args.magic.now c.args.newest c.read_at-2.new.buf m.reads c.args.place c.in_ok-read.read c.head_of.result (search rules) c.head_of.ensures.found) _ c.in_ok-read.ensures.bytes

pub returns-clause-looks : goal.returns-clause-looks
returns-clause-looks g c = looks_on _ _ _ _ _ _ c.read_at.ensures.looks c.read_at-2.ensures.looks

pub returns-in_err-read-clause-looks : goal.returns-in_err-read-clause-looks
returns-in_err-read-clause-looks g c = looks_on _ _ _ _ _ _ c.read_at.ensures.looks c.read_at-2.ensures.looks
