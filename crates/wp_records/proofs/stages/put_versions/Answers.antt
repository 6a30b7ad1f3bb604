use Rattle.std.proofs.Common.{List, [], ◌∷◌, inl, refl, sym, subst, ap, ◌∙◌}
use Rattle.wp_core.specs.Lists.{IsIn}
use Rattle.wp_core.specs.States.{Content, writes, store}
use Rattle.wp_core.specs.Turns.{store_turn}
use Rattle.wp_core.specs.Sound.Views.{IsNowhere}
use Rattle.wp_core.specs.Views.{versions_in_memory}
use Rattle.wp_shared.specs.Notes.{GoesOn}
use Rattle.wp_rule.specs.Knows.{Noted}
use Rattle.wp_parts.specs.Stock.{store_state}
use Rattle.wp_commits.proofs.Clears.{on_ok}
use Rattle.wp_commits.proofs.Through.{held_taken, holds_still, goes_through}
use Rattle.wp_records.specs.Stages.{is_of_versions}
use Rattle.wp_records.proofs.Facts.{versions_under_store}
use Rattle.wp_records.proofs.Holding.{still_holds, words_kept}
use Rattle.wp_records.proofs.Stock.{nowhere_there}
use Rattle.wp_records.proofs.stages.put_versions.Goals as goal

pub take_turn-stock-requires-clause-seat : goal.take_turn-stock-requires-clause-seat
take_turn-stock-requires-clause-seat g c = (c.requires.holds.turn.same_table, c.requires.holds.turn.live)

pub insert_versions-result-requires-clause-seat : goal.insert_versions-result-requires-clause-seat
insert_versions-result-requires-clause-seat g c = c.take_turn-stock.ensures.taken.holds.same_table

pub insert_versions-result-requires-clause-held : goal.insert_versions-result-requires-clause-held
insert_versions-result-requires-clause-held g c = let z = c.args.store.now in let s = c.args.seat.now in let d = c.args.log.now.state in let t = c.take_turn-stock in
    held_taken z s t.new.seat s (store (store_state t.result.value)) (store (store_state t.result.value)) (writes d ∷ []) c.requires.holds.turn.held t.ensures.taken ∙ ap (λ x. store (store_state x) ∷ writes d ∷ []) (sym c.deref_mut.ensures.value)

pub insert_versions-result-requires-clause-nowhere : goal.insert_versions-result-requires-clause-nowhere
insert_versions-result-requires-clause-nowhere g c = let z = c.args.store.now in let s = c.args.seat.now in let d = c.args.log.now.state in let t = c.take_turn-stock in
    subst (λ x. IsNowhere d (store_state x)) (sym c.deref_mut.ensures.value) (nowhere_there z s t.new.seat (store_state t.result.value) d t.ensures.taken (subst (IsIn (writes d)) (sym c.requires.holds.turn.held) (inl refl)) c.requires.nowhere)

pub give_turn-requires-clause-holds : goal.give_turn-requires-clause-holds
give_turn-requires-clause-holds g c = let z = c.args.store.now in let s = c.args.seat.now in let d = c.args.log.now.state in let t = c.take_turn-stock in let u = c.insert_versions-result in
    (writes d ∷ [], s.turns, holds_still z s t.new.seat u.new.seat (store (store_state t.result.value)) (store (store_state u.new.stock)) (writes d ∷ []) c.requires.holds.turn.held t.ensures.taken is_of_versions _ u.ensures.seat refl)

pub returns : goal.returns
returns g c = let z = c.args.store.now in let s = c.args.seat.now in let d = c.args.log.now.state in let t = c.take_turn-stock in let u = c.insert_versions-result in let v = c.give_turn.new.seat in
    let before = store (store_state t.result.value) in let now = store (store_state u.new.stock) in
    let holds = holds_still z s t.new.seat u.new.seat before now (writes d ∷ []) c.requires.holds.turn.held t.ensures.taken is_of_versions _ u.ensures.seat refl in
    let gave = (c.give_turn.ensures (writes d ∷ []) s.turns holds).goes in
    let goes = goes_through z s t.new.seat u.new.seat before now (writes d ∷ []) c.requires.holds.turn.held t.ensures.taken is_of_versions _ u.ensures.seat refl store_turn v versions_under_store gave in
    let all = subst (λ (h : List Content). GoesOn is_of_versions h s.turns s v) (sym c.requires.holds.turn.held) goes in
    record {
      holds = still_holds z s v c.args.log.now is_of_versions c.requires.holds all (words_kept is_of_versions s v _ _ _ (λ bound words. refl) all c.requires.holds.words);
      seat = all;
      ok = on_ok u.result (Noted u.new.seat.knows versions_in_memory) (Noted v.knows versions_in_memory) (gave.noted versions_in_memory refl) u.ensures.ok;
    }
