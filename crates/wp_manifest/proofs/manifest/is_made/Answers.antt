use Rattle.std.proofs.Common.{◌≡◌, ◌↔◌, false, rules}
use Rattle.wp_outside.specs.Disk.{Moment, IsRead}
use Rattle.wp_gatelog.specs.Spelling.{IsUnmade}
use Rattle.wp_gatelog.proofs.MomentLemmas.{known_map}
use Rattle.wp_manifest.proofs.HeadLemmas.{made_by_front}
use Rattle.wp_manifest.proofs.manifest.is_made.Goals as goal

pub returns-clause-made : goal.returns-clause-made
returns-clause-made g c =
    let old = g.D.Peek.moments c.args.disk.now in
    let buf = c.read_at.new.buf in
    let P : Moment → Type 0 = λ m. IsRead m.reads 0 buf c.in_ok-read.read in
    let Q : Moment → Type 0 = λ m. (c.begins_one.result ≡ false) ↔ IsUnmade m.reads in
    let read = c.in_ok-read.ensures.bytes in
    let same = c.read_at.ensures.looks.unchanged (g.met.D.Disk.owned c.args.disk.now) in
    known_map P Q (λ m is. made_by_front m.reads buf c.in_ok-read.read c.begins_one.result (search rules) is c.begins_one.ensures) old (rw same at read)

pub returns-clause-unchanged : goal.returns-clause-unchanged
returns-clause-unchanged g c = c.read_at.ensures.looks.unchanged (g.met.D.Disk.owned c.args.disk.now)
