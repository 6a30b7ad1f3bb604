use Rattle.std.proofs.Common.{◌≡◌, ℕ, List, length, min, subst, arith}
use Rattle.std.specs.Prelude.{IfOk}
use Rattle.wp_seats.proofs.Seated.{others_behind}
use Rattle.wp_seats.proofs.room.names_behind.Goals as goal

pub returns : goal.returns
returns c =
    let first : c.min-first.result ≡ min (length c.args.parts.now) 1 = omega arith in
    subst (λ (ns : List (List ℕ)). IfOk c.names_of.result (λ names. names.items ≡ ns)) (others_behind c.args.parts.now c.min-first.result first) c.names_of.ensures
