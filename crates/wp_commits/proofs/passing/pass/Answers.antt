use Rattle.std.proofs.Common.{◌≡◌, List, [], ◌∷◌, refl, sym, subst, ap, ◌∙◌}
use Rattle.wp_core.specs.States.{Content, snapshots, prepared, writes}
use Rattle.wp_core.specs.Turns.{prepared_turn, snapshots_turn}
use Rattle.wp_core.specs.Views.{words_stay, none_waits, delayed_flag_stays}
use Rattle.wp_model.specs.PreparedSets.{NoneDelayed}
use Rattle.wp_rule.specs.Knows.{Noted}
use Rattle.wp_shared.specs.Notes.{is_flag, GoesOn, DelayedFlagTells, OldFlagTells}
use Rattle.wp_shared.specs.Seats.{SeatState}
use Rattle.wp_shared.proofs.Goes.{notes}
use Rattle.wp_shared.proofs.Tables.{knows_to_give}
use Rattle.wp_commits.proofs.Clears.{on_ok, just_noted, match_true, match_false, flag_under_prepared, flag_under_snapshots}
use Rattle.wp_commits.proofs.Flags.{tells_still}
use Rattle.wp_commits.proofs.Through.{held_taken, holds_still, goes_through}
use Rattle.wp_commits.proofs.passing.pass.Goals as goal

pub returns-then-none_delayed-clause-seat : goal.returns-then-none_delayed-clause-seat
returns-then-none_delayed-clause-seat g c = let s = c.args.seat.now in let r = c.none_delayed.new.seat in
    subst (λ (h : List Content). GoesOn is_flag h s.turns s r) c.requires.held (notes is_flag s r r none_waits (match_true c.none_delayed.result _ _ c.if-none_delayed.true c.none_delayed.ensures))

pub returns-then-none_delayed-clause-waits : goal.returns-then-none_delayed-clause-waits
returns-then-none_delayed-clause-waits g c = just_noted c.args.seat.now c.none_delayed.new.seat none_waits (match_true c.none_delayed.result _ _ c.if-none_delayed.true c.none_delayed.ensures)

pub take_turn-tables-requires-clause-seat : goal.take_turn-tables-requires-clause-seat
take_turn-tables-requires-clause-seat g c = let same = match_false c.none_delayed.result _ _ c.if-none_delayed.false c.none_delayed.ensures in (ap (λ (x : SeatState). x.table) same ∙ c.requires.seat.0, ap (λ (x : SeatState). x.knows.live) same ∙ c.requires.seat.1)

pub take_turn-snaps-requires-clause-seat : goal.take_turn-snaps-requires-clause-seat
take_turn-snaps-requires-clause-seat g c = let holds = c.take_turn-tables.ensures.taken.holds in (holds.same_table, holds.live)

pub pass_all-result-requires : goal.pass_all-result-requires
pass_all-result-requires g c = let same = match_false c.none_delayed.result _ _ c.if-none_delayed.false c.none_delayed.ensures in let z = c.args.store.now in let d = c.args.log.now.state in let r = c.none_delayed.new.seat in let t = c.take_turn-tables in let u = c.take_turn-snaps in
    let held : r.knows.held ≡ writes d ∷ [] = ap (λ (x : SeatState). x.knows.held) same ∙ c.requires.held in
    let before : t.new.seat.knows.held ≡ prepared t.result.value ∷ writes d ∷ [] = held_taken z r t.new.seat r (prepared t.result.value) (prepared t.result.value) (writes d ∷ []) held t.ensures.taken in
    let taken = u.ensures.taken in let w = c.requires.words in let first = c.deref_mut.ensures.value in let second = c.deref_mut-2.ensures.value in
    record {
      seat = (taken.holds.same_table, taken.holds.live);
      held = held_taken z t.new.seat u.new.seat r (snapshots u.result.value) (snapshots u.result.value) (prepared t.result.value ∷ writes d ∷ []) before taken ∙ (λ i. snapshots (sym second i) ∷ prepared (sym first i) ∷ writes d ∷ []);
      words = (w.0, w.1, taken.goes.noted (words_stay w.0 w.1) refl (t.ensures.taken.goes.noted (words_stay w.0 w.1) refl (subst (λ (x : SeatState). Noted x.knows (words_stay w.0 w.1)) (sym same) w.2)));
      delayed_flag = subst (DelayedFlagTells u.new.seat.knows) (sym first) (tells_still t.new.seat.knows u.new.seat.knows delayed_flag_stays (NoneDelayed t.result.value) (λ value there. taken.goes.noted (delayed_flag_stays value) refl there) t.ensures.taken.knows);
      old_flag = subst (OldFlagTells u.new.seat.knows) (sym second) taken.knows;
    }

pub give_turn-requires-clause-holds : goal.give_turn-requires-clause-holds
give_turn-requires-clause-holds g c = let same = match_false c.none_delayed.result _ _ c.if-none_delayed.false c.none_delayed.ensures in let z = c.args.store.now in let d = c.args.log.now.state in let r = c.none_delayed.new.seat in let t = c.take_turn-tables in let u = c.take_turn-snaps in let v = c.pass_all-result in
    let held : r.knows.held ≡ writes d ∷ [] = ap (λ (x : SeatState). x.knows.held) same ∙ c.requires.held in
    let before : t.new.seat.knows.held ≡ prepared t.result.value ∷ writes d ∷ [] = held_taken z r t.new.seat r (prepared t.result.value) (prepared t.result.value) (writes d ∷ []) held t.ensures.taken in
    let beneath : List Content = prepared v.new.tables ∷ writes d ∷ [] in
    let holds = holds_still z t.new.seat u.new.seat v.new.seat (snapshots u.result.value) (snapshots v.new.snaps) (prepared t.result.value ∷ writes d ∷ []) before u.ensures.taken is_flag beneath v.ensures.seat refl in
    (beneath, t.new.seat.turns, holds)

pub give_turn-requires-clause-knows : goal.give_turn-requires-clause-knows
give_turn-requires-clause-knows g c = let v = c.pass_all-result in knows_to_give v.new.seat.knows (snapshots v.new.snaps) v.ensures.old_flag

pub give_turn-requires-2-clause-holds : goal.give_turn-requires-2-clause-holds
give_turn-requires-2-clause-holds g c = let same = match_false c.none_delayed.result _ _ c.if-none_delayed.false c.none_delayed.ensures in let z = c.args.store.now in let d = c.args.log.now.state in let r = c.none_delayed.new.seat in let t = c.take_turn-tables in let u = c.take_turn-snaps in let v = c.pass_all-result in
    let held : r.knows.held ≡ writes d ∷ [] = ap (λ (x : SeatState). x.knows.held) same ∙ c.requires.held in
    let before : t.new.seat.knows.held ≡ prepared t.result.value ∷ writes d ∷ [] = held_taken z r t.new.seat r (prepared t.result.value) (prepared t.result.value) (writes d ∷ []) held t.ensures.taken in
    let beneath : List Content = prepared v.new.tables ∷ writes d ∷ [] in
    let holds = holds_still z t.new.seat u.new.seat v.new.seat (snapshots u.result.value) (snapshots v.new.snaps) (prepared t.result.value ∷ writes d ∷ []) before u.ensures.taken is_flag beneath v.ensures.seat refl in
    let w = c.give_turn.new.seat in
    let gave = (c.give_turn.ensures beneath t.new.seat.turns holds).goes in
    let goes : GoesOn is_flag beneath t.new.seat.turns t.new.seat w =
    goes_through z t.new.seat u.new.seat v.new.seat (snapshots u.result.value) (snapshots v.new.snaps) (prepared t.result.value ∷ writes d ∷ []) before u.ensures.taken is_flag beneath v.ensures.seat refl snapshots_turn w flag_under_snapshots gave in
    let given = holds_still z r t.new.seat w (prepared t.result.value) (prepared v.new.tables) (writes d ∷ []) held t.ensures.taken is_flag (writes d ∷ []) goes refl in
    (writes d ∷ [], r.turns, given)

pub give_turn-requires-2-clause-knows : goal.give_turn-requires-2-clause-knows
give_turn-requires-2-clause-knows g c = let same = match_false c.none_delayed.result _ _ c.if-none_delayed.false c.none_delayed.ensures in let z = c.args.store.now in let d = c.args.log.now.state in let r = c.none_delayed.new.seat in let t = c.take_turn-tables in let u = c.take_turn-snaps in let v = c.pass_all-result in
    let held : r.knows.held ≡ writes d ∷ [] = ap (λ (x : SeatState). x.knows.held) same ∙ c.requires.held in
    let before : t.new.seat.knows.held ≡ prepared t.result.value ∷ writes d ∷ [] = held_taken z r t.new.seat r (prepared t.result.value) (prepared t.result.value) (writes d ∷ []) held t.ensures.taken in
    let beneath : List Content = prepared v.new.tables ∷ writes d ∷ [] in
    let holds = holds_still z t.new.seat u.new.seat v.new.seat (snapshots u.result.value) (snapshots v.new.snaps) (prepared t.result.value ∷ writes d ∷ []) before u.ensures.taken is_flag beneath v.ensures.seat refl in
    let w = c.give_turn.new.seat in
    let gave = (c.give_turn.ensures beneath t.new.seat.turns holds).goes in
    knows_to_give w.knows (prepared v.new.tables) (tells_still v.new.seat.knows w.knows delayed_flag_stays (NoneDelayed v.new.tables) (λ value there. gave.noted (delayed_flag_stays value) refl there) v.ensures.delayed_flag)

pub returns : goal.returns
returns g c = let same = match_false c.none_delayed.result _ _ c.if-none_delayed.false c.none_delayed.ensures in let z = c.args.store.now in let d = c.args.log.now.state in let r = c.none_delayed.new.seat in let t = c.take_turn-tables in let u = c.take_turn-snaps in let v = c.pass_all-result in
    let held : r.knows.held ≡ writes d ∷ [] = ap (λ (x : SeatState). x.knows.held) same ∙ c.requires.held in
    let before : t.new.seat.knows.held ≡ prepared t.result.value ∷ writes d ∷ [] = held_taken z r t.new.seat r (prepared t.result.value) (prepared t.result.value) (writes d ∷ []) held t.ensures.taken in
    let beneath : List Content = prepared v.new.tables ∷ writes d ∷ [] in
    let holds = holds_still z t.new.seat u.new.seat v.new.seat (snapshots u.result.value) (snapshots v.new.snaps) (prepared t.result.value ∷ writes d ∷ []) before u.ensures.taken is_flag beneath v.ensures.seat refl in
    let w = c.give_turn.new.seat in
    let gave = (c.give_turn.ensures beneath t.new.seat.turns holds).goes in
    let goes : GoesOn is_flag beneath t.new.seat.turns t.new.seat w =
    goes_through z t.new.seat u.new.seat v.new.seat (snapshots u.result.value) (snapshots v.new.snaps) (prepared t.result.value ∷ writes d ∷ []) before u.ensures.taken is_flag beneath v.ensures.seat refl snapshots_turn w flag_under_snapshots gave in
    let given = holds_still z r t.new.seat w (prepared t.result.value) (prepared v.new.tables) (writes d ∷ []) held t.ensures.taken is_flag (writes d ∷ []) goes refl in
    let x = c.give_turn-2.new.seat in
    let last = (c.give_turn-2.ensures (writes d ∷ []) r.turns given).goes in
    let through = goes_through z r t.new.seat w (prepared t.result.value) (prepared v.new.tables) (writes d ∷ []) held t.ensures.taken is_flag (writes d ∷ []) goes refl prepared_turn x flag_under_prepared last in
    record {
      seat = subst (λ (y : SeatState). GoesOn is_flag (writes d ∷ []) y.turns y x) same through;
      waits = on_ok v.result (Noted v.new.seat.knows none_waits) (Noted x.knows none_waits) (λ there. last.noted none_waits refl (gave.noted none_waits refl there)) v.ensures.waits;
    }
