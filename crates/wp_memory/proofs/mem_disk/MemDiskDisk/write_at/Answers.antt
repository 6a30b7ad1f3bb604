use Rattle.std.proofs.Common.{◌+◌, ◌≤◌, length, arith, ◌∙◌, ap, refl}
use Rattle.wp_memory.specs.declared.mem_disk.Change.TheVariants.{Write}
use Rattle.wp_memory.specs.MemDisk.{Wrote, bytes_written, now_of, moments_of}
use Rattle.wp_memory.specs.Replay.{disk_state}
use Rattle.wp_memory.proofs.Replayed.{IsNoted, noted, noted_effects, moments_of-more, written_again}
use Rattle.wp_memory.proofs.mem_disk.MemDiskDisk.write_at.Goals as goal

pub keep-requires : goal.keep-requires
keep-requires c =
    let f = c.fits-fits.ensures.room c.in_ok-admit.ensures.fits in
    let room : bytes_written (disk_state c.self.inside) + length c.args.bytes.now ≤ c.self.inside.room = rw (← c.self.view_is) at f.written in
    let same = written_again c.self.inside.past.items c.self.inside.written.items (omega (arith, c.self.invariant.written)) in
    omega (arith, room, same, c.self.invariant.written, c.self.invariant.written_room)

is_noted : (c : goal.After-note) → IsNoted (Write c.args.at (length c.args.bytes.now)) c.args.bytes.now c.self.inside record c.self.inside { bytes = c.overwrite.new.bytes; written = c.keep.new.written; past = c.note.new.past; counter = c.admit.new.self }
is_noted c =
    let f = c.fits-fits.ensures.room c.in_ok-admit.ensures.fits in
    record {
      start = refl;
      bytes = c.overwrite.ensures.reads (now_of (disk_state c.self.inside)) c.self.invariant.bytes;
      past = c.note.ensures.items;
      written = c.keep.ensures.items;
      size = refl;
      counted = rw c.in_ok-admit.ensures.counted refl;
      left = rw (← c.self.view_is) at f.left;
      room = refl;
      most = refl;
      bytes_room = c.overwrite.ensures.capacity;
      written_room = c.keep.ensures.capacity;
      past_room = c.note.ensures.capacity;
    }

pub invariant_of-self-2 : goal.invariant_of-self-2
invariant_of-self-2 c = noted c.self.invariant (is_noted c)

pub returns-clause-after : goal.returns-clause-after
returns-clause-after c = rw (← c.self.view_is, noted_effects c.self.invariant (is_noted c), c.in_ok-admit.ensures.counted) refl

pub returns-clause-done : goal.returns-clause-done
returns-clause-done c = ap (λ d. moments_of d) (returns-clause-after c) ∙ moments_of-more c.args.self.now (Wrote c.args.at c.args.bytes.now)
