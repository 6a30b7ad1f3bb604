use Rattle.std.proofs.Common.{◌≡◌, ℕ, None, Some, sym, ap, ◌∙◌}
use Rattle.wp_history.specs.Outline.{collision_of, cut_in}
use Rattle.wp_history.proofs.Apart.{none_collide}
use Rattle.wp_history.proofs.outline.Outline.carried_holders.Goals as goal

pub unreachable-requires : goal.unreachable-requires
unreachable-requires c =
    let cut = c.published.ensures.cut in
    let n : ℕ = c.in-Err-Collision.field-0-0 in
    let is : collision_of c.carried.result.now ≡ Some n = rw c.in-Err-Collision.field-0-is at c.in-Err-Collision.ensures.err in
    let both : None ≡ Some n = sym (none_collide (cut_in c.args.self.now) cut.numbered cut.apart) ∙ sym (ap collision_of c.carried.ensures) ∙ is in
    cc both
