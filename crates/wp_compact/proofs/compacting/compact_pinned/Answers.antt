use Rattle.std.proofs.Common.{[], refl, sym, subst, ap}
use Rattle.wp_rule.specs.Knows.{KnowsTables}
use Rattle.wp_parts.specs.Parts.{EditsStand}
use Rattle.wp_parts.specs.VersionSet.{VersionSetState, IsEdits}
use Rattle.wp_shared.specs.Calls.{GoesOnAs}
use Rattle.wp_shared.specs.Seats.{SeatState}
use Rattle.wp_shared.proofs.Onward.{holds_alone, starts_equal, starts_on, starts_same}
use Rattle.wp_read.specs.Registers.{numbers_of}
use Rattle.wp_core.specs.World.{Participant}
use Rattle.wp_compact.specs.Compaction.{IsDecision, IsPin}
use Rattle.wp_maint.specs.Holding.{HoldsEdits}
use Rattle.wp_maint.proofs.BeforeInstall.{kept_each}
use Rattle.wp_compact.proofs.BeforeInstall.{each_between, none_taken, round_more}
use Rattle.wp_maint.proofs.Found.{held_first}
use Rattle.wp_maint.proofs.Onward.{seat_still}
use Rattle.wp_compact.proofs.Rounds.{no_tables, are_pinned, has_decided, decided_taken, goes_taken, ends_given, ends_somehow}
use Rattle.wp_compact.proofs.compacting.compact_pinned.Goals as goal

pub decide_tables-requires-clause-pinned : goal.decide_tables-requires-clause-pinned
decide_tables-requires-clause-pinned g c = are_pinned c.args.seat.now.knows c.args.pinned.now.floor c.args.pinned.now.live.items c.requires.floor.0 c.requires.floor.1 c.requires.live

pub compact_in-result-requires-clause-holds : goal.compact_in-result-requires-clause-holds
compact_in-result-requires-clause-holds g c = subst (HoldsEdits c.args.store.now c.take_turn-edits.new.seat) (sym c.deref_mut.ensures.value) (record { turn = holds_alone c.decide_tables.ensures.continues.free c.take_turn-edits.ensures.taken; of_store = c.take_turn-edits.ensures.of_store })

pub compact_in-result-requires-clause-in_step : goal.compact_in-result-requires-clause-in_step
compact_in-result-requires-clause-in_step g c = subst (λ (e : VersionSetState). KnowsTables c.take_turn-edits.new.seat.knows e.state.last) (sym c.deref_mut.ensures.value) c.take_turn-edits.ensures.taken.knows

pub compact_in-result-requires-clause-decided : goal.compact_in-result-requires-clause-decided
compact_in-result-requires-clause-decided g c =
    let p = c.args.pinned.now in let d = c.in-Ok.decided in
    decided_taken c.requires.free c.decide_tables.ensures.continues c.take_turn-edits.ensures.taken p.floor p.live.items d.bases d.versions d.committed.items
    (has_decided c.args.store.now c.args.seat.now c.decide_tables.new.seat p.floor p.live.items d.bases d.versions d.committed.items c.decide_tables.ensures.continues c.requires.live c.in-Ok.ensures.low c.in-Ok.ensures.decided)

pub compact_in-result-requires-clause-opened : goal.compact_in-result-requires-clause-opened
compact_in-result-requires-clause-opened g c = c.in-Ok.ensures.bases.opened

pub give_turn-requires-clause-holds : goal.give_turn-requires-clause-holds
give_turn-requires-clause-holds g c = ([], [], c.compact_in-result.ensures.holds.turn)

pub returns-in_default-clause-says : goal.returns-in_default-clause-says
returns-in_default-clause-says g c = (no_tables, c.decide_tables.ensures.continues)

pub returns-in_default-clause-untouched : goal.returns-in_default-clause-untouched
returns-in_default-clause-untouched g c = none_taken c.args.store.now c.args.seat.now c.decide_tables.new.seat

pub returns-clause-says : goal.returns-clause-says
returns-clause-says g c =
    let p = c.args.pinned.now in let d = c.in-Ok.decided in let result = c.compact_in-result.result in let t = c.take_turn-edits.new.seat in let u = c.compact_in-result.new.seat in let told = c.deref_mut.result.now.state in
    let says = c.compact_in-result.ensures.says in let pins = IsPin p.floor.number (numbers_of p.live.items) in
    ends_given c.requires.free c.decide_tables.ensures.continues c.take_turn-edits.ensures.taken u c.give_turn.new.seat (c.give_turn.ensures [] [] c.compact_in-result.ensures.holds.turn) p.floor.number (numbers_of p.live.items) d.bases d.versions (c.in-Ok.ensures.tabled, c.in-Ok.ensures.bases)
    told (ends_somehow (GoesOnAs t u) pins c.args.store.now t u told (IsDecision p.floor.number d.bases d.versions) result says).1.seen result says

pub returns-clause-untouched : goal.returns-clause-untouched
returns-clause-untouched g c =
    let z = c.args.store.now in let s = c.args.seat.now in let t = c.take_turn-edits.new.seat in let v = c.give_turn.new.seat in let result = c.compact_in-result.result in
    let before = c.deref_mut.result.now in let after = c.compact_in-result.new.edits in let taken = c.take_turn-edits.ensures.taken in
    let holds = subst (HoldsEdits z t) (sym c.deref_mut.ensures.value) (record { turn = holds_alone c.decide_tables.ensures.continues.free taken; of_store = c.take_turn-edits.ensures.of_store }) in
    let first = goes_taken c.requires.free c.decide_tables.ensures.continues taken in let p = c.args.pinned.now in let d = c.in-Ok.decided in let u = c.compact_in-result.new.seat in let given = (c.give_turn.ensures [] [] c.compact_in-result.ensures.holds.turn).goes in
    let went = ends_somehow (GoesOnAs t u) (IsPin p.floor.number (numbers_of p.live.items)) z t u before.state (IsDecision p.floor.number d.bases d.versions) result c.compact_in-result.ensures.says in
    let grown = starts_on t.knows.participant.seen u.knows.participant.seen v.knows.participant.seen went.1.seen (starts_equal u.knows.participant.seen v.knows.participant.seen (ap (λ (x : SeatState). x.knows.participant.seen) given.same)) in
    round_more
    (λ left. each_between z s t v v (seat_still s t s.knows.participant first) (ap (λ (q : Participant). q.past) first.participant) first.seen (starts_same v.knows.participant.seen)
    (kept_each z t t v before after taken.stands (refl, refl, refl) refl (held_first t before.state holds.turn.held) holds.of_store c.compact_in-result.ensures.holds.of_store
    (subst IsEdits (sym c.deref_mut.ensures.value) (subst IsEdits c.deref.ensures c.devices_agree.ensures.edits)) (subst IsEdits c.deref-2.ensures c.devices_agree-2.ensures.edits) grown
    (subst EditsStand (sym c.deref_mut.ensures.value) (subst EditsStand c.deref.ensures (c.devices_agree.ensures.manifest, c.devices_agree.ensures.tables))) left))
    result c.compact_in-result.ensures.untouched
