use Rattle.std.proofs.Common.{[], arith, sym, ◌∙◌, ap, subst, refl}
use Rattle.std.proofs.lemmas.List.{append-nil}
use Rattle.wp_memory.specs.declared.mem_disk.Change.TheVariants.{Sync}
use Rattle.wp_memory.specs.MemDisk.{Synced, moments_of}
use Rattle.wp_outside.specs.Disk.{images}
use Rattle.wp_outside.proofs.Moments.{synced_image}
use Rattle.wp_memory.proofs.Replayed.{IsNoted, noted, noted_effects, moments_of-more}
use Rattle.wp_memory.proofs.mem_disk.MemDiskDisk.sync.Goals as goal

is_noted : (c : goal.After-note) → IsNoted Sync [] c.self.inside record c.self.inside { past = c.note.new.past; counter = c.admit.new.self }
is_noted c =
    let f = c.fits-fits.ensures.room c.in_ok-admit.ensures.fits in
    record {
      start = refl;
      bytes = c.self.invariant.bytes;
      past = c.note.ensures.items;
      written = sym (append-nil c.self.inside.written.items);
      size = refl;
      counted = rw c.in_ok-admit.ensures.counted refl;
      left = rw (← c.self.view_is) at f.left;
      room = refl;
      most = refl;
      bytes_room = omega arith;
      written_room = omega arith;
      past_room = c.note.ensures.capacity;
    }

pub invariant_of-self-2 : goal.invariant_of-self-2
invariant_of-self-2 c = noted c.self.invariant (is_noted c)

pub returns-clause-after : goal.returns-clause-after
returns-clause-after c = rw (← c.self.view_is, noted_effects c.self.invariant (is_noted c), c.in_ok-admit.ensures.counted) refl

pub returns-clause-done : goal.returns-clause-done
returns-clause-done c = ap (λ d. moments_of d) (returns-clause-after c) ∙ moments_of-more c.args.self.now Synced

pub returns-clause-durable : goal.returns-clause-durable
returns-clause-durable c = λ image left. synced_image (moments_of c.args.self.now) image (subst (λ ms. images ms image) (returns-clause-done c) left)
