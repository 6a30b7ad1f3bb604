use Rattle.std.proofs.Common.{◌≡◌, true, suc, [], ◌∷◌, ◌++◌, length, append_assoc, append-nil, refl, sym, ◌∙◌, arith}
use Rattle.wp_model.specs.History.{is_prepare}
use Rattle.wp_core.specs.Entries.{next_of}
use Rattle.wp_core.specs.Views.{versions_in_memory, versions_nowhere, number_in_heap, number_not_in_heap, pair_not_delayed, none_waits, words_stay}
use Rattle.wp_rule.specs.Knows.{Noted}
use Rattle.wp_commits.specs.Notes.{is_of_words}
use Rattle.wp_commits.specs.Ways.{ways_of, AnyClears, RisesFor}
use Rattle.wp_commits.proofs.Clears.{on_ok, err_any}
use Rattle.wp_commits.proofs.Ways.{keeps_ready, are_ready_still, cleared_ready}
use Rattle.wp_records.specs.Stages.{is_guarded, is_of_number, is_of_versions, IsReadied}
use Rattle.wp_records.proofs.Facts.{and_still, not_words, not_versions, not_number}
use Rattle.wp_records.proofs.Readied.{cleared_holds}
use Rattle.wp_records.proofs.Words.{unentered}
use Rattle.wp_shared.proofs.Goes.{wider}
use Rattle.wp_records.proofs.putting.ready.Goals as goal

pub clear_all-requires-clause-words : goal.clear_all-requires-clause-words
clear_all-requires-clause-words g c = let w = c.requires.holds.words in (w.bound, w.words, w.noted)

pub clear_all-requires-clause-unentered : goal.clear_all-requires-clause-unentered
clear_all-requires-clause-unentered g c = unentered c.args.seat.now.knows c.args.store.now.cells c.args.log.now.state c.requires.holds.words

pub returns-in_err-clear_all-clause-holds : goal.returns-in_err-clear_all-clause-holds
returns-in_err-clear_all-clause-holds g c =
    cleared_holds c.args.store.now c.args.seat.now c.clear_all.new.seat c.args.log.now c.requires.holds c.clear_all.ensures.seat (λ bound words there. (_, c.in_err-clear_all.ensures.refused.5 bound words there))

pub returns-in_err-clear_all-clause-seat : goal.returns-in_err-clear_all-clause-seat
returns-in_err-clear_all-clause-seat g c = wider is_of_words c.args.seat.now c.clear_all.new.seat c.clear_all.new.seat is_guarded _ _ not_words c.clear_all.ensures.seat

pub put_versions-requires-clause-holds : goal.put_versions-requires-clause-holds
put_versions-requires-clause-holds g c =
    cleared_holds c.args.store.now c.args.seat.now c.clear_all.new.seat c.args.log.now c.requires.holds c.clear_all.ensures.seat (λ bound words there. (_, c.in_ok-clear_all.ensures.bound bound words there))

pub put_versions-requires-clause-nowhere : goal.put_versions-requires-clause-nowhere
put_versions-requires-clause-nowhere g c = c.clear_all.ensures.seat.noted versions_nowhere refl c.requires.nowhere

pub returns-in_err-put_versions-clause-seat : goal.returns-in_err-put_versions-clause-seat
returns-in_err-put_versions-clause-seat g c =
    and_still is_guarded is_of_words is_of_versions not_words not_versions c.args.seat.now c.clear_all.new.seat c.put_versions.new.seat c.args.seat.now.knows.held c.args.seat.now.turns c.clear_all.ensures.seat c.put_versions.ensures.seat

pub put_number-requires-clause-below : goal.put_number-requires-clause-below
put_number-requires-clause-below g c = c.put_versions.ensures.seat.noted number_not_in_heap refl (c.clear_all.ensures.seat.noted number_not_in_heap refl c.requires.below)

pub returns-clause-seat : goal.returns-clause-seat
returns-clause-seat g c =
    let s = c.args.seat.now in let t = c.clear_all.new.seat in let u = c.put_versions.new.seat in let v = c.put_number.new.seat in
    let two = and_still is_guarded is_of_words is_of_versions not_words not_versions s t u s.knows.held s.turns c.clear_all.ensures.seat c.put_versions.ensures.seat in
    and_still is_guarded is_guarded is_of_number (λ fact e. e) not_number s u v s.knows.held s.turns two c.put_number.ensures.seat

pub returns-clause-ok : goal.returns-clause-ok
returns-clause-ok g c =
    let t = c.clear_all.new.seat in let u = c.put_versions.new.seat in let v = c.put_number.new.seat in let d = c.args.log.now.state in let cells = c.args.store.now.cells in
    let one = keeps_ready is_of_versions t u _ _ (λ place pair. (refl, refl, refl)) c.put_versions.ensures.seat (λ bound words there. (bound, c.put_versions.ensures.seat.noted (words_stay bound words) refl there, omega arith)) in
    let two = keeps_ready is_of_number u v _ _ (λ place pair. (refl, refl, refl)) c.put_number.ensures.seat (λ bound words there. (bound, c.put_number.ensures.seat.noted (words_stay bound words) refl there, omega arith)) in
    let ways = ways_of c.args.store.now.cells (suc (length d.history)) d.pending in let n = length d.history in
    on_ok c.put_number.result (is_prepare (next_of d.pending) ≡ true → Noted v.knows number_in_heap) (IsReadied v.knows cells d)
    (λ number. record {
      versions = c.put_number.ensures.seat.noted versions_in_memory refl c.in_ok-put_versions.ensures.ok;
      number = number;
      pairs = are_ready_still u.knows v.knows cells n n two (omega arith) ways (are_ready_still t.knows u.knows cells n n one (omega arith) ways (cleared_ready t.knows cells n ways c.in_ok-clear_all.ensures.cleared));
    })
    c.put_number.ensures.ok

-- the versions and the number leave the words as they are
pub returns-in_err-clear_all-clause-refused : goal.returns-in_err-clear_all-clause-refused
returns-in_err-clear_all-clause-refused g c =
    let r = c.in_err-clear_all.ensures.refused in err_any c.from_residual.result _ (r.0 ++ r.1 ∷ [], r.2, r.4 ∙ sym (append_assoc r.0 (r.1 ∷ []) r.2), r.5)

pub returns-in_err-put_versions-clause-refused : goal.returns-in_err-put_versions-clause-refused
returns-in_err-put_versions-clause-refused g c =
    let d = c.args.log.now.state in let ways = ways_of c.args.store.now.cells (suc (length d.history)) d.pending in
    err_any c.from_residual-in_err-put_versions.result _ (ways, [], sym (append-nil ways), λ bound words there. c.put_versions.ensures.seat.noted (words_stay _ words) refl (c.in_ok-clear_all.ensures.bound bound words there))

pub returns-clause-bound : goal.returns-clause-bound
returns-clause-bound g c =
    let d = c.args.log.now.state in
    on_ok c.put_number.result _ (RisesFor c.args.store.now.cells (length d.history) c.args.seat.now.knows c.put_number.new.seat.knows (ways_of c.args.store.now.cells (suc (length d.history)) d.pending))
    (λ number bound words there. c.put_number.ensures.seat.noted (words_stay _ words) refl (c.put_versions.ensures.seat.noted (words_stay _ words) refl (c.in_ok-clear_all.ensures.bound bound words there)))
    c.put_number.ensures.ok

pub returns-clause-refused : goal.returns-clause-refused
returns-clause-refused g c =
    let d = c.args.log.now.state in let ways = ways_of c.args.store.now.cells (suc (length d.history)) d.pending in
    err_any c.put_number.result _
    (ways, [], sym (append-nil ways), λ bound words there. c.put_number.ensures.seat.noted (words_stay _ words) refl (c.put_versions.ensures.seat.noted (words_stay _ words) refl (c.in_ok-clear_all.ensures.bound bound words there)))

-- nor is the pair delayed by them
pub returns-in_err-clear_all-clause-undelayed : goal.returns-in_err-clear_all-clause-undelayed
returns-in_err-clear_all-clause-undelayed g c = c.clear_all.ensures.seat.noted pair_not_delayed refl c.requires.undelayed

pub returns-in_err-put_versions-clause-undelayed : goal.returns-in_err-put_versions-clause-undelayed
returns-in_err-put_versions-clause-undelayed g c = c.put_versions.ensures.seat.noted pair_not_delayed refl (c.clear_all.ensures.seat.noted pair_not_delayed refl c.requires.undelayed)

pub returns-clause-undelayed : goal.returns-clause-undelayed
returns-clause-undelayed g c = c.put_number.ensures.seat.noted pair_not_delayed refl (c.put_versions.ensures.seat.noted pair_not_delayed refl (c.clear_all.ensures.seat.noted pair_not_delayed refl c.requires.undelayed))

-- nor does a number wait by them
pub returns-clause-waits : goal.returns-clause-waits
returns-clause-waits g c =
    let d = c.args.log.now.state in
    on_ok c.put_number.result _ (AnyClears (ways_of c.args.store.now.cells (suc (length d.history)) d.pending) → Noted c.put_number.new.seat.knows none_waits)
    (λ number any. c.put_number.ensures.seat.noted none_waits refl (c.put_versions.ensures.seat.noted none_waits refl (c.in_ok-clear_all.ensures.waits any)))
    c.put_number.ensures.ok
