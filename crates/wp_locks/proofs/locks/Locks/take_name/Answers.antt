use Rattle.std.proofs.Common.{Some, is_some, refl, sym, ap, ◌∙◌}
use Rattle.wp_locks.proofs.Maps.{map_of, map_of_inserted, get_found, none_from_false}
use Rattle.wp_locks.proofs.Tables.{looked_at, refuses_unknown, refuses_used}
use Rattle.wp_locks.proofs.locks.Locks.take_name.Goals as goal

pub returns-in_default : goal.returns-in_default
returns-in_default c =
    let found = get_found _ c.args.name _ c.in_default.ensures.value in
    rw (c.get_mut.follows.holds-at-none, ← c.self.view_is) (refuses_unknown _ c.args.name found, refl, refl)

pub returns-then-is_some : goal.returns-then-is_some
returns-then-is_some c =
    let had = c.in-Some.ensures.value in
    let found = get_found _ c.args.name _ had in
    let names = looked_at _ _ c.args.name _ had ((c.get_mut.follows.holds c.in-Some.has.now).3 (ap is_some (sym had))).0 in
    rw (← c.self.view_is) (refuses_used _ c.in-Some.has.now c.args.name found (sym c.is_some.ensures ∙ c.if-is_some.true), refl, λ i. record { names = names i; keys = map_of c.self.inside.keys.entries; labels = map_of c.self.inside.labels.entries })

pub returns : goal.returns
returns c =
    let had = c.in-Some.ensures.value in
    let free = none_from_false c.in-Some.has.now (sym c.is_some.ensures ∙ c.if-is_some.false) in
    let names = map_of_inserted _ _ c.args.name (Some c.args.client) ((c.get_mut.follows.holds (Some c.args.client)).3 (ap is_some (sym had))).0 in
    rw (← c.self.view_is) (get_found _ c.args.name _ had ∙ ap Some free, λ i. record { names = names i; keys = map_of c.self.inside.keys.entries; labels = map_of c.self.inside.labels.entries })
