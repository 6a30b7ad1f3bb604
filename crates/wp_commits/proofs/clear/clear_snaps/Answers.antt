use Rattle.std.proofs.Common.{[], ◌∷◌, refl, sym, subst, ap, ◌∙◌}
use Rattle.wp_judge.specs.Words.{commit_pair}
use Rattle.wp_core.specs.States.{snapshots, writes}
use Rattle.wp_core.specs.Turns.{snapshots_turn}
use Rattle.wp_core.specs.Views.{in_old_commits, words_stay}
use Rattle.wp_rule.specs.Knows.{Noted}
use Rattle.wp_shared.specs.Notes.{is_flag, OldFlagTells}
use Rattle.wp_shared.proofs.Tables.{knows_to_give}
use Rattle.wp_commits.proofs.Clears.{on_ok, still_there, flag_under_snapshots}
use Rattle.wp_commits.proofs.Through.{held_taken, holds_still, goes_through}
use Rattle.wp_commits.proofs.clear.clear_snaps.Goals as goal

pub ready_snaps-result-requires-clause-held : goal.ready_snaps-result-requires-clause-held
ready_snaps-result-requires-clause-held g c = let z = c.args.store.now in let s = c.args.seat.now in let d = c.args.log.now.state in let t = c.take_turn-snaps in held_taken z s t.new.seat s (snapshots t.result.value) (snapshots t.result.value) (writes d ∷ []) c.requires.held t.ensures.taken ∙ ap (λ x. snapshots x ∷ writes d ∷ []) (sym c.deref_mut.ensures.value)

pub ready_snaps-result-requires-clause-there : goal.ready_snaps-result-requires-clause-there
ready_snaps-result-requires-clause-there g c = let k = c.requires.there in let t = c.take_turn-snaps in
    still_there c.args.seat.now.knows t.new.seat.knows c.args.log.now.state.history c.args.place c.args.p c.args.c k k.bound (t.ensures.taken.goes.noted (words_stay k.bound k.words) refl k.noted)

pub ready_snaps-result-requires-clause-flag : goal.ready_snaps-result-requires-clause-flag
ready_snaps-result-requires-clause-flag g c = let t = c.take_turn-snaps in subst (OldFlagTells t.new.seat.knows) (sym c.deref_mut.ensures.value) t.ensures.taken.knows

pub give_turn-requires-clause-holds : goal.give_turn-requires-clause-holds
give_turn-requires-clause-holds g c = let z = c.args.store.now in let s = c.args.seat.now in let d = c.args.log.now.state in let t = c.take_turn-snaps in let u = c.ready_snaps-result in
    (writes d ∷ [], s.turns, holds_still z s t.new.seat u.new.seat (snapshots t.result.value) (snapshots u.new.snaps) (writes d ∷ []) c.requires.held t.ensures.taken is_flag _ u.ensures.seat refl)

pub give_turn-requires-clause-knows : goal.give_turn-requires-clause-knows
give_turn-requires-clause-knows g c = let u = c.ready_snaps-result in knows_to_give u.new.seat.knows (snapshots u.new.snaps) u.ensures.flag

pub returns : goal.returns
returns g c = let z = c.args.store.now in let s = c.args.seat.now in let d = c.args.log.now.state in let t = c.take_turn-snaps in let u = c.ready_snaps-result in let v = c.give_turn.new.seat in
    let holds = holds_still z s t.new.seat u.new.seat (snapshots t.result.value) (snapshots u.new.snaps) (writes d ∷ []) c.requires.held t.ensures.taken is_flag _ u.ensures.seat refl in
    let gave = (c.give_turn.ensures (writes d ∷ []) s.turns holds).goes in
    let one = in_old_commits c.args.place (commit_pair c.args.p c.args.c) in
    record {
      seat = goes_through z s t.new.seat u.new.seat (snapshots t.result.value) (snapshots u.new.snaps) (writes d ∷ []) c.requires.held t.ensures.taken is_flag _ u.ensures.seat refl snapshots_turn v flag_under_snapshots gave;
      ready = on_ok u.result (Noted u.new.seat.knows one) (Noted v.knows one) (gave.noted one refl) u.ensures.ready;
    }
