use Rattle.std.proofs.Common.{◌+◌, ◌∷◌, [], ◌++◌, List, ℕ, length, refl, ap}
use Rattle.std.proofs.lemmas.Result.{err_from_is_err_and}
use Rattle.wp_gatelog.specs.Log.{IsAtRest}
use Rattle.wp_gatelog.specs.Spelling.{framed, log_of}
use Rattle.wp_gatelog.proofs.ChangeLemmas.{brings_on, brings_failed}
use Rattle.wp_gatelog.proofs.MomentLemmas.{known_as}
use Rattle.wp_gatelog.proofs.RepairLemmas.{Repaired, brings_cut, brings_head, brings_last, brings_none, last_split, last_place}
use Rattle.wp_gatelog.proofs.repair.repair.Goals as goal

pub returns-in_err-cut_rest-clause-repaired : goal.returns-in_err-cut_rest-clause-repaired
returns-in_err-cut_rest-clause-repaired g c = λ magic stamp front bytes place log known.
    let p = err_from_is_err_and c.from_residual.result c.from_residual.ensures.1 in
    let rests = IsAtRest magic stamp c.args.found.now.end front [] c.args.found.now.records.items in
    let P = Repaired front magic stamp c.args.head _ _ _ c.args.len bytes log in
    rw p.1 (brings_failed p.0 (length front) magic P _ rests _ _ _ (brings_cut front magic stamp c.args.head _ _ _ c.args.len bytes log _ _ _ c.cut_rest.ensures.changes known))

pub returns-in_err-open_wholly-clause-repaired : goal.returns-in_err-open_wholly-clause-repaired
returns-in_err-open_wholly-clause-repaired g c = λ magic stamp front bytes place log known.
    let p = err_from_is_err_and c.from_residual-in_err-open_wholly.result c.from_residual-in_err-open_wholly.ensures.1 in
    let rests = IsAtRest magic stamp c.args.found.now.end front [] c.args.found.now.records.items in
    let P = Repaired front magic stamp c.args.head _ _ _ c.args.len bytes log in
    let cut = brings_cut front magic stamp c.args.head _ _ _ c.args.len bytes log _ _ _ c.in_ok-cut_rest.ensures.changes known in
    rw p.1 (brings_failed p.0 (length front) magic P _ rests _ _ _ (brings_head front magic stamp c.args.head _ _ _ c.args.len bytes log _ c.args.place _ _ _ _ place cut c.open_wholly.ensures.changes))

pub returns-in-Some-clause-repaired : goal.returns-in-Some-clause-repaired
returns-in-Some-clause-repaired g c = λ magic stamp front bytes at log known.
    let last = rw c.in-Some.is at log.last_is in
    let P = Repaired front magic stamp c.args.head _ _ _ c.args.len bytes log in
    let cut = brings_cut front magic stamp c.args.head _ _ _ c.args.len bytes log _ _ _ c.in_ok-cut_rest.ensures.changes known in
    let head = brings_head front magic stamp c.args.head _ _ _ c.args.len bytes log _ c.args.place _ _ _ _ at cut c.in_ok-open_wholly.ensures.changes in
    let split = known_as _ _ _ (ap (λ (l : List ℕ). front ++ l) (last_split (length front + 10) magic stamp c.args.head log.gated c.in-Some.gate last)) head.done in
    let place = last_place (length front + 10) magic stamp c.args.head log.gated c.in-Some.gate last (length front) refl log.magic_size in
    brings_on (length front) magic P _ _ _ _ _ _ _ head
    (brings_last front magic stamp c.args.head c.args.found.now.records.items c.args.found.now.last c.args.found.now.end c.args.len bytes log c.in-Some.gate last _ _ _
    (c.open_wholly-in-Some.ensures.changes front (log_of magic stamp 1 last.0) (framed last.1 ++ 0 ∷ []) place split))

pub returns-in-None-clause-repaired : goal.returns-in-None-clause-repaired
returns-in-None-clause-repaired g c = λ magic stamp front bytes at log known.
    let none = rw c.in-None.is at log.last_is in
    let cut = brings_cut front magic stamp c.args.head _ _ _ c.args.len bytes log _ _ _ c.in_ok-cut_rest.ensures.changes known in
    let head = brings_head front magic stamp c.args.head _ _ _ c.args.len bytes log _ c.args.place _ _ _ _ at cut c.in_ok-open_wholly.ensures.changes in
    brings_none front magic stamp c.args.head c.args.found.now.records.items c.args.found.now.last c.args.found.now.end c.args.len bytes log _ _ none _ _ head
