use Rattle.std.proofs.Common.{◌≡◌, ◌+◌, ◌≤◌, vec_len, ap, arith}
use Rattle.wp_history.specs.History.{RoomyHistory}
use Rattle.wp_history.proofs.Kept.{numbers_ascend, kept_next, full_next, cut_next}
use Rattle.wp_history.proofs.outline.Outline.push.Goals as goal

pub note_undecided-requires-clause-ascending : goal.note_undecided-requires-clause-ascending
note_undecided-requires-clause-ascending c = numbers_ascend _ _ _ c.self.invariant.0

pub invariant_of-self : goal.invariant_of-self
invariant_of-self c =
    let same = ap (λ (h : RoomyHistory). h.entries) c.self.view_is in
    let pushed = rw c.unwrap.ensures at c.push.ensures.items in
    let longer : vec_len c.push.new.self ≡ vec_len c.self.inside.later + 1 = rw c.unwrap.ensures at c.push.ensures.len in
    let room : 1 ≤ c.self.inside.room = rw (← c.self.view_is) at c.requires.room in (
      kept_next _ _ _ _ _ _ c.args.entry _ _ _ c.self.invariant.0 same c.requires.orderly c.published-number.ensures.value c.requires.few pushed c.note_undecided.ensures.numbers,
      omega (arith, c.self.invariant.1, c.push.ensures.capacity),
      omega (arith, c.self.invariant.2, c.note_undecided.ensures.room),
    )

pub returns-clause-entries : goal.returns-clause-entries
returns-clause-entries c =
    let same = ap (λ (h : RoomyHistory). h.entries) c.self.view_is in
    let pushed = rw c.unwrap.ensures at c.push.ensures.items in
    full_next _ _ _ _ _ c.args.entry _ same pushed

pub returns-clause-cut : goal.returns-clause-cut
returns-clause-cut c =
    let inside = c.self.inside in
    let pushed = rw c.unwrap.ensures at c.push.ensures.items in
    cut_next inside.base inside.carried.items inside.later.items inside.versions.value c.args.entry _ inside.room _ c.self.view_is pushed c.self.invariant.0.cut.numbered
