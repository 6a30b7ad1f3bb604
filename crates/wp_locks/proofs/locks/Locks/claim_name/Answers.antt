use Rattle.std.proofs.Common.{refl, ap}
use Rattle.std.proofs.lemmas.Result.{err_from_is_err_and}
use Rattle.wp_locks.proofs.Maps.{map_of, map_of_inserted, get_none, get_some}
use Rattle.wp_locks.proofs.locks.Locks.claim_name.Goals as goal

pub returns-then-contains_key : goal.returns-then-contains_key
returns-then-contains_key c = (rw (← c.self.view_is) (get_some _ c.args.name _ c.contains_key.ensures c.if-contains_key.true), refl, refl)

pub returns-in_err-insert : goal.returns-in_err-insert
returns-in_err-insert c =
    let p = err_from_is_err_and c.from_residual.result c.from_residual.ensures.1 in
    let none = get_none _ c.args.name _ c.contains_key.ensures c.if-contains_key.false in
    let names = ap map_of c.in_err-insert.ensures.err in
    rw (p.1, p.2, ← c.self.view_is) (none, λ i. record { names = names i; keys = map_of c.self.inside.keys.entries; labels = map_of c.self.inside.labels.entries })

pub returns : goal.returns
returns c =
    let none = get_none _ c.args.name _ c.contains_key.ensures c.if-contains_key.false in
    let names = map_of_inserted _ _ c.args.name _ c.in_ok-insert.ensures.updates.0 in
    rw (← c.self.view_is) (none, λ i. record { names = names i; keys = map_of c.self.inside.keys.entries; labels = map_of c.self.inside.labels.entries })
