use Rattle.std.proofs.Common.{sym, ap, subst, ◌∙◌, nat_eq, arith}
use Rattle.std.proofs.lemmas.List.Sums.{prefix_len-le-length}
use Rattle.std.proofs.lemmas.Map.{NonePasses}
use Rattle.wp_memtable.proofs.KeyVersions.{newer, newest-put, lookup-put, none_is, room_left, ok_from_room}
use Rattle.wp_memtable.proofs.several.Several.put.Goals as goal

pub insert-requires : goal.insert-requires
insert-requires c = omega (arith, c.newer_than-place.ensures, prefix_len-le-length (newer c.args.n) c.self.inside.newest_first.items, c.self.inside.newest_first.ok.0)

pub unwrap-requires : goal.unwrap-requires
unwrap-requires c =
    let room = room_left c.args.n _ _ _ _ c.remove-had.ensures.had c.requires c.remove-had.ensures.room in
    ok_from_room c.insert.result _ _ c.insert.ensures.full (rw (← c.self.view_is) at room)

pub invariant_of-self : goal.invariant_of-self
invariant_of-self c =
    let is = rw c.unwrap.ensures at c.insert.ensures.items in
    let same = ap (λ r. r.versions) c.self.view_is in
    let none = subst (NonePasses (nat_eq c.args.n)) (sym (same ∙ c.remove-had.ensures.versions)) (none_is c.args.n _) in
    rw (is, c.newer_than-place.ensures) (newest-put c.args.n c.args.value _ c.self.invariant none)

pub returns-clause-each : goal.returns-clause-each
returns-clause-each c = λ m.
    let is = rw c.unwrap.ensures at c.insert.ensures.items in
    let same = ap (λ r. r.versions) c.self.view_is in
    rw (is, same, c.remove-had.ensures.versions) (lookup-put c.args.n c.args.value _ c.newer_than-place.result m)

pub returns-clause-newest_first : goal.returns-clause-newest_first
returns-clause-newest_first c = invariant_of-self c
