use Rattle.std.proofs.Common.{◌≡◌, [], length, take, min, arith, sym, ◌∙◌, ap, refl}
use Rattle.std.proofs.lemmas.List.{append-nil, take_min}
use Rattle.wp_memory.specs.declared.mem_disk.Change.TheVariants.{Cut}
use Rattle.wp_memory.specs.MemDisk.{Shortened, moments_of}
use Rattle.wp_memory.proofs.Replayed.{IsNoted, noted, noted_effects, moments_of-more}
use Rattle.wp_memory.proofs.mem_disk.MemDiskDisk.cut.Goals as goal

is_noted : (c : goal.After-note) → IsNoted (Cut c.args.len) [] c.self.inside record c.self.inside { bytes = c.truncate.new.self; past = c.note.new.past; counter = c.admit.new.self }
is_noted c =
    let f = c.fits-fits.ensures.room c.in_ok-admit.ensures.fits in
    let shorter : min c.args.len (length c.self.inside.bytes.items) ≡ c.min-shorter.result = omega arith in
    record {
      start = refl;
      bytes =
          ap (λ xs. take c.args.len xs) c.self.invariant.bytes
          ∙ sym (take_min c.args.len c.self.inside.bytes.items)
          ∙ ap (λ n. take n c.self.inside.bytes.items) shorter
          ∙ sym c.truncate.ensures.items;
      past = c.note.ensures.items;
      written = sym (append-nil c.self.inside.written.items);
      size = refl;
      counted = rw c.in_ok-admit.ensures.counted refl;
      left = rw (← c.self.view_is) at f.left;
      room = refl;
      most = refl;
      bytes_room = omega (arith, c.truncate.ensures.capacity);
      written_room = omega arith;
      past_room = c.note.ensures.capacity;
    }

pub invariant_of-self-2 : goal.invariant_of-self-2
invariant_of-self-2 c = noted c.self.invariant (is_noted c)

pub returns-clause-after : goal.returns-clause-after
returns-clause-after c = rw (← c.self.view_is, noted_effects c.self.invariant (is_noted c), c.in_ok-admit.ensures.counted) refl

pub returns-clause-done : goal.returns-clause-done
returns-clause-done c = ap (λ d. moments_of d) (returns-clause-after c) ∙ moments_of-more c.args.self.now (Shortened c.args.len)
