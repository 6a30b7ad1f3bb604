use Rattle.std.proofs.Common.{◌≡◌, ◌⊎◌, inl, inr, length, arith, rules}
use Rattle.std.proofs.lemmas.Bool.{cases_eq}
use Rattle.wp_outside.specs.Disk.{IsRead}
use Rattle.wp_gatelog.specs.Patched.{Shows}
use Rattle.wp_gatelog.proofs.MomentLemmas.{known_map}
use Rattle.wp_gatelog.proofs.ScanLemmas.{left_read}
use Rattle.wp_open.proofs.Reading.{read_shows, read_ends}
use Rattle.wp_open.proofs.tables.bytes_at.Goals as goal

pub returns-in-Ok-clause-shown : goal.returns-in-Ok-clause-shown
returns-in-Ok-clause-shown g c =
    let place = c.min-place.result in
    let room : length c.read_at.new.buf ≡ c.min-size.result = search rules in
    let is = left_read c.read_at.new.buf _ c.truncate.new.self.items c.in-Ok.read c.in_ok-bytes.bytes.len (search rules) c.truncate.ensures.items in
    let where_is : (place ≡ c.args.placed.0) ⊎ (length c.read_at.new.buf ≡ 0) = elim (cases_eq place c.args.placed.0) [
      | inl same ↦ inl same
      | inr behind ↦ inr (omega (arith, behind, room))
    ] in
    known_map (λ m. IsRead m.reads place c.read_at.new.buf c.in-Ok.read) (Shows c.args.placed.0 c.truncate.new.self.items)
    (λ m. read_shows m c.read_at.new.buf c.truncate.new.self.items place c.args.placed.0 c.in-Ok.read is where_is) _ c.in-Ok.ensures.bytes

pub returns-in-Ok-clause-ended : goal.returns-in-Ok-clause-ended
returns-in-Ok-clause-ended g c =
    let is = left_read c.read_at.new.buf _ c.truncate.new.self.items c.in-Ok.read c.in_ok-bytes.bytes.len (search rules) c.truncate.ensures.items in
    λ short. read_ends _ c.read_at.new.buf c.truncate.new.self.items c.args.len c.args.placed.0 c.min-place.result c.args.placed.1 c.in-Ok.read is (search rules) (search rules) (search rules) c.in-Ok.ensures.bytes short
