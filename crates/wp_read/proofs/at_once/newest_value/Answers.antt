use Rattle.std.proofs.Common.{◌≡◌, ◌≤◌, ◌<◌, ◌==◌, ℕ, zero, suc, Bool, true, false, true≢false, List, [], ◌∷◌, length, drop, refl, sym, subst, ap, ◌∙◌, arith}
use Rattle.std.specs.Prelude.{slice_index_or}
use Rattle.std.proofs.lemmas.Result.{err_from_is_err_and}
use Rattle.wp_model.specs.declared.version.Version.{Version}
use Rattle.wp_model.specs.Decision.{IsCommittedAt}
use Rattle.wp_core.specs.Lists.{IsIn}
use Rattle.wp_core.specs.Sound.Reader.{IsRight}
use Rattle.wp_core.specs.Sound.Snapshots.{has_versions_at}
use Rattle.wp_core.specs.World.{Participant}
use Rattle.wp_core.proofs.HistoryLaws.{is_equal}
use Rattle.wp_shared.specs.Seats.{SeatState}
use Rattle.wp_read.specs.Values.{NoneCommitted}
use Rattle.wp_read.proofs.AtOnce.{reads_on, reads_on_then, same_client}
use Rattle.wp_read.proofs.Decides.{reading_of}
use Rattle.wp_read.proofs.Rounds.{parts_at, is_in}
use Rattle.wp_read.proofs.Shows.{have_versions}
use Rattle.wp_read.proofs.at_once.newest_value.Goals as goal

not_none : (n : ℕ) (empty : Bool) → empty ≡ (n == 0) → empty ≡ false → 0 < n
not_none zero empty is not = absurd (true≢false (sym is ∙ not))
not_none (suc n) empty is not = omega arith

is_none : (xs : List Version) (empty : Bool) → empty ≡ (length xs == 0) → empty ≡ true → xs ≡ []
is_none [] empty is none = refl
is_none (x ∷ xs) empty is none = let same : suc (length xs) ≡ 0 = is_equal (length (x ∷ xs)) 0 (sym is ∙ none) in absurd (omega arith)

pub copy_newest-requires-clause-seat : goal.copy_newest-requires-clause-seat
copy_newest-requires-clause-seat g c = (c.requires.holds.1.same_table, c.requires.holds.1.live)

pub decide_free-requires-clause-registered : goal.decide_free-requires-clause-registered
decide_free-requires-clause-registered g c =
    subst (λ (p : Participant). IsIn c.args.snapshot.now p.registered) (sym (same_client c.copy_newest.ensures.goes)) c.requires.registered

pub decide_free-requires-clause-version : goal.decide_free-requires-clause-version
decide_free-requires-clause-version g c =
    let x = c.index-as_slice-0.result in let found = c.as_slice-2.result.now in let lt = subst (λ (n : ℕ). 0 < n) (ap (λ (x : List Version). length x) (c.as_slice.ensures.value ∙ sym c.as_slice-2.ensures.value)) (not_none (length c.as_slice.result.now) c.is_empty.result c.is_empty.ensures c.if-is_empty.false) in
    let shows = c.in_ok-found.ensures.found c.args.snapshot.now c.requires.registered in
    subst (λ (y : Version). y.number ≤ c.args.snapshot.now.number → has_versions_at c.copy_newest.new.seat.knows.participant.seen y.number ≡ true) c.index-as_slice-0.is
    (λ le. subst (λ (p : Participant). has_versions_at p.seen x.number ≡ true) (sym (same_client c.copy_newest.ensures.goes)) (have_versions c.args.seat.now.knows.participant.seen c.args.key.now c.args.snapshot.now.number c.in_ok-found.found shows.are x (subst (IsIn x) c.as_slice-2.ensures.value (is_in found 0 x lt c.index-as_slice-0.is)) le))

pub returns-in-Decided-true-clause-value : goal.returns-in-Decided-true-clause-value
returns-in-Decided-true-clause-value g c =
    let x = c.index-as_slice-0.result in let found = c.as_slice-2.result.now in let lt = subst (λ (n : ℕ). 0 < n) (ap (λ (x : List Version). length x) (c.as_slice.ensures.value ∙ sym c.as_slice-2.ensures.value)) (not_none (length c.as_slice.result.now) c.is_empty.result c.is_empty.ensures c.if-is_empty.false) in let rest = drop 1 found in
    let shows = c.in_ok-found.ensures.found c.args.snapshot.now c.requires.registered in
    let are = sym c.as_slice-2.ensures.value ∙ parts_at found 0 x lt c.index-as_slice-0.is in
    let right = subst (IsRight c.copy_newest.new.seat.knows.participant.seen (slice_index_or found 0 x).number c.args.snapshot.now.number) c.in-Decided-true.field-0-test c.in-Decided-true.ensures.4 in
    ap (λ (v : Version). v.value) (c.take_version-value.ensures [] rest x are refl)
    ∙ shows.first [] rest x are (λ v there committed. there)
    (subst (λ (y : Participant × Version). IsCommittedAt y.0.seen y.1.number c.args.snapshot.now.number) (λ i. ((same_client c.copy_newest.ensures.goes) i, (sym c.index-as_slice-0.is) i)) right)

pub returns-in_err-found-clause-goes : goal.returns-in_err-found-clause-goes
returns-in_err-found-clause-goes g c = reads_on c.copy_newest.ensures.goes

pub returns-in_err-found-clause-value : goal.returns-in_err-found-clause-value
returns-in_err-found-clause-value g c = let p = err_from_is_err_and c.from_residual.result c.from_residual.ensures.1 in rw p.1 tt

pub returns-then-is_empty-clause-goes : goal.returns-then-is_empty-clause-goes
returns-then-is_empty-clause-goes g c = reads_on c.copy_newest.ensures.goes

pub returns-then-is_empty-clause-value : goal.returns-then-is_empty-clause-value
returns-then-is_empty-clause-value g c =
    let shows = c.in_ok-found.ensures.found c.args.snapshot.now c.requires.registered in
    let none : c.in_ok-found.found ≡ [] = sym c.as_slice.ensures.value ∙ is_none c.as_slice.result.now c.is_empty.result c.is_empty.ensures c.if-is_empty.true in
    sym (shows.none (subst (λ (xs : List Version). length xs < 1) (sym none) (omega arith)) (subst (NoneCommitted c.args.seat.now.knows.participant.seen c.args.snapshot.now.number) (sym none) (λ v there committed. there)))

pub decide_free-requires-clause-seat : goal.decide_free-requires-clause-seat
decide_free-requires-clause-seat g c = ap (λ (x : SeatState). x.table) c.copy_newest.ensures.goes.same ∙ c.requires.holds.1.same_table

pub take_version-value-requires : goal.take_version-value-requires
take_version-value-requires g c =
    subst (λ (xs : List Version). 0 < length xs) c.as_slice.ensures.value (not_none (length c.as_slice.result.now) c.is_empty.result c.is_empty.ensures c.if-is_empty.false)

pub returns-in-Decided-true-clause-goes : goal.returns-in-Decided-true-clause-goes
returns-in-Decided-true-clause-goes g c = reads_on_then c.copy_newest.ensures.goes c.in-Decided-true.ensures.1

pub returns-in-Decided-false-clause-goes : goal.returns-in-Decided-false-clause-goes
returns-in-Decided-false-clause-goes g c =
    let k = reading_of c.args.store.now c.copy_newest.new.seat c.decide_free.new.seat (slice_index_or c.as_slice-2.result.now 0 c.index-as_slice-0.result).number c.args.snapshot.now c.decide_free.result c.decide_free.ensures in reads_on_then c.copy_newest.ensures.goes k.1

pub returns-in-Decided-false-clause-value : goal.returns-in-Decided-false-clause-value
returns-in-Decided-false-clause-value g c = tt
