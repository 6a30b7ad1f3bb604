use Rattle.std.proofs.Common.{None, is_some, sym, ap}
use Rattle.wp_locks.proofs.Maps.{map_of}
use Rattle.wp_locks.proofs.Tables.{left_live, left_nobody}
use Rattle.wp_locks.proofs.locks.Locks.leave_name.Goals as goal
use Rattle.wp_locks.proofs.locks.Locks.leave_name.Goals.{in-Some+in-Some-1, in-Some+in-None-1, in_default}

pub returns : goal.returns
returns c =
    let written = c.get_mut.follows.holds None in
    elim c.match-get_mut.branch [
      | in-Some+in-Some-1 w ↦
          let names = left_live _ _ c.args.name.now _ w.in-Some.ensures.value (written.3 (ap is_some (sym w.in-Some.ensures.value))).0 in
          rw (w.self-inside-is, ← c.self.view_is) (λ i. record { names = names i; keys = map_of c.self.inside.keys.entries; labels = map_of c.self.inside.labels.entries })
      | in-Some+in-None-1 w ↦
          let names = left_live _ _ c.args.name.now _ w.in-Some.ensures.value (written.3 (ap is_some (sym w.in-Some.ensures.value))).0 in
          rw (w.self-inside-is, ← c.self.view_is) (λ i. record { names = names i; keys = map_of c.self.inside.keys.entries; labels = map_of c.self.inside.labels.entries })
      | in_default w ↦
          let names = left_nobody _ c.args.name.now w.in_default.ensures.value in
          rw (w.self-inside-is, c.get_mut.follows.holds-at-none, ← c.self.view_is) (λ i. record { names = names i; keys = map_of c.self.inside.keys.entries; labels = map_of c.self.inside.labels.entries })
    ]
