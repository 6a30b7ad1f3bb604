use Rattle.std.proofs.Common.{◌≡◌, ℕ, List, drop, ap, ◌∙◌, arith}
use Rattle.std.proofs.lemmas.List.{drop_at}
use Rattle.wp_entry.specs.Base.{base_bytes}
use Rattle.wp_wal.proofs.base.base_frame.Goals as goal

pub returns-clause-bytes : goal.returns-clause-bytes
returns-clause-bytes c =
    let piece : drop 8 c.push_base.new.out.items ≡ base_bytes c.args.base.now = ap (λ (l : List ℕ). drop 8 l) c.in_ok-push_base.ensures.pushed ∙ drop_at c.in_ok-room.room.items (base_bytes c.args.base.now) 8 (omega (arith, c.in_ok-room.ensures)) in
    rw piece at c.of.ensures
