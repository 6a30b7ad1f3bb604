use Rattle.std.proofs.Common.{sym, subst, ◌∙◌}
use Rattle.std.proofs.lemmas.Result.{err_from_is_err_and}
use Rattle.wp_model.specs.Decision.{IsCommittedAt}
use Rattle.wp_core.specs.Lists.{IsIn}
use Rattle.wp_core.specs.World.{Participant}
use Rattle.wp_read.specs.Values.{AreVersions, Says, ShowsValue}
use Rattle.wp_shared.proofs.Onward.{continues_still}
use Rattle.wp_read.proofs.AtOnce.{free_client, same_client}
use Rattle.wp_read.proofs.Shows.{have_versions}
use Rattle.wp_read.proofs.values.look_through.Goals as goal

pub copy_newest-requires-clause-seat : goal.copy_newest-requires-clause-seat
copy_newest-requires-clause-seat g c = (c.requires.free.same_table, c.requires.free.live)

pub returns-in_err-found-clause-continues : goal.returns-in_err-found-clause-continues
returns-in_err-found-clause-continues g c = free_client c.copy_newest.ensures.goes c.args.store.now c.requires.free

pub returns-in_err-found-clause-same : goal.returns-in_err-found-clause-same
returns-in_err-found-clause-same g c = same_client c.copy_newest.ensures.goes

pub returns-in_err-found-clause-says : goal.returns-in_err-found-clause-says
returns-in_err-found-clause-says g c = let p = err_from_is_err_and c.from_residual.result c.from_residual.ensures.1 in rw p.1 tt

pub decided-requires-clause-free : goal.decided-requires-clause-free
decided-requires-clause-free g c = (free_client c.copy_newest.ensures.goes c.args.store.now c.requires.free).free

pub decided-requires-clause-registered : goal.decided-requires-clause-registered
decided-requires-clause-registered g c = subst (λ (p : Participant). IsIn c.args.snapshot.now p.registered) (sym (same_client c.copy_newest.ensures.goes)) c.requires.registered

pub decided-requires-clause-versions : goal.decided-requires-clause-versions
decided-requires-clause-versions g c =
    let shows = c.in_ok-found.ensures.found c.args.snapshot.now c.requires.registered in
    subst (λ (p : Participant). AreVersions p.seen c.args.snapshot.now.number c.in_ok-found.found) (sym (same_client c.copy_newest.ensures.goes)) (have_versions c.args.seat.now.knows.participant.seen c.args.key.now c.args.snapshot.now.number c.in_ok-found.found shows.are)

pub decided-requires-clause-none_later : goal.decided-requires-clause-none_later
decided-requires-clause-none_later g c p past committed =
    let shows = c.in_ok-found.ensures.found c.args.snapshot.now c.requires.registered in
    shows.none_later p past (subst (λ (q : Participant). IsCommittedAt q.seen p c.args.snapshot.now.number) (same_client c.copy_newest.ensures.goes) committed)

pub decided-requires-clause-earlier : goal.decided-requires-clause-earlier
decided-requires-clause-earlier g c v there committed = c.requires.earlier v there (subst (λ (q : Participant). IsCommittedAt q.seen v.number c.args.snapshot.now.number) (same_client c.copy_newest.ensures.goes) committed)

pub returns-clause-says : goal.returns-clause-says
returns-clause-says g c =
    let shows = c.in_ok-found.ensures.found c.args.snapshot.now c.requires.registered in let key = c.args.key.now in let n = c.args.snapshot.now.number in
    subst (λ (p : Participant). Says p.seen key n c.decided.result) (same_client c.copy_newest.ensures.goes)
    (c.decided.ensures.says key (subst (λ (p : Participant). ShowsValue p.seen key n c.args.most c.in_ok-found.found) (sym (same_client c.copy_newest.ensures.goes)) shows))

pub returns-clause-continues : goal.returns-clause-continues
returns-clause-continues g c =
    continues_still c.args.store.now c.args.seat.now c.copy_newest.new.seat c.decided.new.seat c.args.seat.now.knows.participant (free_client c.copy_newest.ensures.goes c.args.store.now c.requires.free) c.decided.ensures.continues

pub returns-clause-same : goal.returns-clause-same
returns-clause-same g c = c.decided.ensures.same ∙ same_client c.copy_newest.ensures.goes
