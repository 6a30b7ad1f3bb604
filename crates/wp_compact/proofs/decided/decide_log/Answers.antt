use Rattle.std.proofs.Common.{List, [], min, sym, subst, ap, ◌∙◌}
use Rattle.wp_model.specs.declared.entry.Entry.{Entry}
use Rattle.wp_core.specs.World.{Participant}
use Rattle.wp_parts.specs.Log.{LogState, IsLog}
use Rattle.wp_compact.specs.Decided.{Decides, both_bases, version_numbers}
use Rattle.wp_compact.proofs.Based.{took_alone, given_on, given_legal, same_given, are_low, are_bases}
use Rattle.wp_compact.proofs.decided.decide_log.Goals as goal

pub give_turn-requires-clause-holds : goal.give_turn-requires-clause-holds
give_turn-requires-clause-holds g c = ([], [], took_alone c.take_log-log.ensures c.requires.free)

pub returns-in_err-decided-clause-continues : goal.returns-in_err-decided-clause-continues
returns-in_err-decided-clause-continues g c = let k = c.take_log-log.ensures in given_on k (c.give_turn.ensures [] [] (took_alone k c.requires.free))

pub returns-in_err-decided-clause-legal : goal.returns-in_err-decided-clause-legal
returns-in_err-decided-clause-legal g c = let k = c.take_log-log.ensures in given_legal k (c.give_turn.ensures [] [] (took_alone k c.requires.free))

pub returns-clause-continues : goal.returns-clause-continues
returns-clause-continues g c = let k = c.take_log-log.ensures in given_on k (c.give_turn.ensures [] [] (took_alone k c.requires.free))

pub returns-clause-legal : goal.returns-clause-legal
returns-clause-legal g c = let k = c.take_log-log.ensures in given_legal k (c.give_turn.ensures [] [] (took_alone k c.requires.free))

pub returns-clause-bases : goal.returns-clause-bases
returns-clause-bases g c =
    let k = c.take_log-log.ensures in let p = c.args.pinned.now in
    are_bases k (c.give_turn.ensures [] [] (took_alone k c.requires.free)) c.shows_one_store.ensures (subst IsLog c.deref.ensures c.devices_agree.ensures.log) p.floor p.live.items c.requires.pinned (record { opened = c.opened_base.result; installed = c.min.result }) (c.opened_base.ensures ∙ ap (λ (x : LogState). x.first.segment.base) c.deref-2.ensures)
    (c.min.ensures ∙ (λ i. min ((c.base.ensures ∙ ap (λ (x : LogState). x.state.segment.base) c.deref-3.ensures) i) (c.number.ensures i)))

pub returns-clause-low : goal.returns-clause-low
returns-clause-low g c =
    let k = c.take_log-log.ensures in let p = c.args.pinned.now in
    are_low k (c.give_turn.ensures [] [] (took_alone k c.requires.free)) c.shows_one_store.ensures (subst IsLog c.deref.ensures c.devices_agree.ensures.log) p.floor p.live.items c.requires.pinned (record { opened = c.opened_base.result; installed = c.min.result }) (c.opened_base.ensures ∙ ap (λ (x : LogState). x.first.segment.base) c.deref-2.ensures)
    (c.min.ensures ∙ (λ i. min ((c.base.ensures ∙ ap (λ (x : LogState). x.state.segment.base) c.deref-3.ensures) i) (c.number.ensures i)))

pub returns-clause-decided : goal.returns-clause-decided
returns-clause-decided g c =
    let k = c.take_log-log.ensures in let v = c.give_turn.new.seat in
    let seen = ap (λ (x : LogState). x.state.history) c.deref-4.ensures ∙ sym k.seen ∙ sym (ap (λ (p : Participant). p.seen) (same_given k (c.give_turn.ensures [] [] (took_alone k c.requires.free)))) in
    subst (λ (h : List Entry). Decides h (version_numbers c.args.versions.now) (both_bases (record { opened = c.opened_base.result; installed = c.min.result })) c.args.committed.now.items c.decide_in-decided.new.committed.items) seen c.in_ok-decided.ensures
