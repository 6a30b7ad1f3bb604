use Rattle.std.proofs.Common.{◌≡◌, inl, inr, ⊎_elim, ℕ, suc, ◌+◌, ◌<◌, List, [], ◌∷◌, length, take, drop, refl, sym, subst, ap, ◌∙◌, Some, arith}
use Rattle.std.specs.Prelude.{slice_get}
use Rattle.std.proofs.lemmas.Option.{slice_get_read}
use Rattle.wp_model.specs.declared.entry.Entry.{Entry}
use Rattle.wp_core.specs.Entries.{pair_by}
use Rattle.wp_core.specs.States.{Content}
use Rattle.wp_core.specs.Views.{words_stay, none_waits}
use Rattle.wp_rule.specs.Knows.{Noted}
use Rattle.wp_shared.specs.Notes.{GoesOn}
use Rattle.wp_shared.specs.Seats.{SeatState}
use Rattle.wp_shared.proofs.Goes.{then_still}
use Rattle.wp_commits.specs.declared.way.Way.{Way}
use Rattle.wp_commits.specs.Bound.{bound_with, bound_for}
use Rattle.wp_commits.specs.Notes.{is_of_words}
use Rattle.wp_commits.specs.Ways.{way_of, ways_of, Clears, AnyClears, RisesFor, IsClearedFor, AreCleared}
use Rattle.wp_commits.proofs.Clears.{err_any}
use Rattle.wp_commits.proofs.Puts.{pair_at_order}
use Rattle.wp_commits.proofs.Ways.{keeps_ready, are_cleared_still, bound_for_more, bound_rises, cleared_last, clears_last, next_taken, taken_apart, all_taken, pair_in}
use Rattle.wp_commits.proofs.clear.clear_all.Goals as goal

pub of-requires-clause-pair : goal.of-requires-clause-pair
of-requires-clause-pair g c pair is =
    let d = c.args.log.now.state in let k = c.loop-entry.invariant in let i = c.loop-entry.entry-index in
    let here : Entry = c.entry-item.result in
    let lt : i < length c.pending-entries.result.now = omega arith in
    let got : slice_get d.pending i ≡ Some here = subst (λ (e : List Entry). slice_get e i ≡ Some here) c.pending-entries.ensures (slice_get_read c.pending-entries.result.now (length c.pending-entries.result.now) i here refl lt c.entry-item.is) in
    let number = k.number in
    let n : c.loop-entry.n + 1 ≡ suc (length d.history) + i = omega (arith, number) in
    pair_at_order d.history d.pending i here pair c.devices_agree.ensures.log.legal got (ap (λ (m : ℕ). pair_by m here) (sym n) ∙ is)

pub clear-requires-clause-seat : goal.clear-requires-clause-seat
clear-requires-clause-seat g c = let k = c.loop-entry.invariant in
    (ap (λ (x : SeatState). x.table) k.goes.same ∙ c.requires.seat.0, ap (λ (x : SeatState). x.knows.live) k.goes.same ∙ c.requires.seat.1)

pub clear-requires-clause-held : goal.clear-requires-clause-held
clear-requires-clause-held g c = ap (λ (x : SeatState). x.knows.held) c.loop-entry.invariant.goes.same ∙ c.requires.held

pub clear-requires-clause-words : goal.clear-requires-clause-words
clear-requires-clause-words g c = let w = c.requires.words in (_, w.1, c.loop-entry.invariant.bound w.0 w.1 w.2)

pub clear-requires-clause-unentered : goal.clear-requires-clause-unentered
clear-requires-clause-unentered g c pair is = let w = c.requires.unentered pair is in (_, w.1, c.loop-entry.invariant.bound w.0 w.1 w.2, w.3)

pub clear-requires-clause-wanted : goal.clear-requires-clause-wanted
clear-requires-clause-wanted g c =
    let z = c.args.store.now in let s = c.args.seat.now in let d = c.args.log.now.state in let t = c.loop-entry.seat in let k = c.loop-entry.invariant in let i = c.loop-entry.entry-index in
    let here : Entry = c.entry-item.result in
    let lt : i < length c.pending-entries.result.now = omega arith in
    let got : slice_get d.pending i ≡ Some here = subst (λ (e : List Entry). slice_get e i ≡ Some here) c.pending-entries.ensures (slice_get_read c.pending-entries.result.now (length c.pending-entries.result.now) i here refl lt c.entry-item.is) in
    let number = k.number in
    let n : c.loop-entry.n + 1 ≡ suc (length d.history) + i = omega (arith, number) in
    let way : c.of.result ≡ way_of z.cells (pair_by (suc (length d.history) + i) here) = c.of.ensures ∙ (λ j. way_of (sym c.bits-bits.ensures.1 j) (pair_by (n j) here)) in
    (pair_by (suc (length d.history) + i) here, way, λ pair is. pair_in (suc (length d.history)) i d.pending here pair got is)

pub loop-entry-preserved : goal.loop-entry-preserved
loop-entry-preserved g c =
    let z = c.args.store.now in let s = c.args.seat.now in let d = c.args.log.now.state in let t = c.loop-entry.seat in let u = c.clear.new.seat in let k = c.loop-entry.invariant in let i = c.loop-entry.entry-index in
    let here : Entry = c.entry-item.result in
    let lt : i < length c.pending-entries.result.now = omega arith in
    let got : slice_get d.pending i ≡ Some here = subst (λ (e : List Entry). slice_get e i ≡ Some here) c.pending-entries.ensures (slice_get_read c.pending-entries.result.now (length c.pending-entries.result.now) i here refl lt c.entry-item.is) in
    let number = k.number in
    let n : c.loop-entry.n + 1 ≡ suc (length d.history) + i = omega (arith, number) in
    let way : c.of.result ≡ way_of z.cells (pair_by (suc (length d.history) + i) here) = c.of.ensures ∙ (λ j. way_of (sym c.bits-bits.ensures.1 j) (pair_by (n j) here)) in
    let ways = ways_of z.cells (suc (length d.history)) d.pending in
    let next : i + 1 ≡ suc i = omega arith in
    let more = ap (λ (m : ℕ). take m ways) next ∙ next_taken z.cells (suc (length d.history)) i d.pending here got in
    let keeps = keeps_ready is_of_words t u _ _ (λ place pair. (refl, refl, refl)) c.clear.ensures.seat (λ bound words there. (_, c.clear.ensures.bound bound words there, bound_rises z.cells (length d.history) bound words c.of.result)) in
    record {
      number = omega (arith, number);
      goes = subst (λ (h : List Content). GoesOn is_of_words h s.turns s u) (sym c.requires.held) (then_still is_of_words s t u _ _ s.turns k.goes c.clear.ensures.seat);
      bound = λ bound words there. subst (λ (b : ℕ). Noted u.knows (words_stay b words))
          (ap (bound_with z.cells (length d.history) (bound_for z.cells (length d.history) bound words (take i ways)) words) way
          ∙ (sym (bound_for_more z.cells (length d.history) bound words (take i ways) (way_of z.cells (pair_by (suc (length d.history) + i) here) ∷ [])) ∙ ap (bound_for z.cells (length d.history) bound words) (sym more)))
          (c.clear.ensures.bound (bound_for z.cells (length d.history) bound words (take i ways)) words (k.bound bound words there));
      cleared = subst (AreCleared u.knows z.cells) (sym more)
          (cleared_last u.knows z.cells (take i ways) (way_of z.cells (pair_by (suc (length d.history) + i) here))
          (are_cleared_still t.knows u.knows keeps z.cells (take i ways) k.cleared)
          (subst (IsClearedFor u.knows z.cells) way c.in_ok-clear.ensures.cleared));
      waits = λ any. c.in_ok-clear.ensures.waits
          (⊎_elim
          (λ (one : Clears (way_of z.cells (pair_by (suc (length d.history) + i) here))). inl (subst Clears (sym way) one))
          (λ (before : AnyClears (take i ways)). inr (k.waits before))
          (clears_last (take i ways) (way_of z.cells (pair_by (suc (length d.history) + i) here)) (subst AnyClears more any)));
    }

pub returns-in_err-clear-clause-seat : goal.returns-in_err-clear-clause-seat
returns-in_err-clear-clause-seat g c =
    let s = c.args.seat.now in let t = c.loop-entry.seat in
    subst (λ (h : List Content). GoesOn is_of_words h s.turns s c.clear.new.seat) (sym c.requires.held) (then_still is_of_words s t c.clear.new.seat _ _ s.turns c.loop-entry.invariant.goes c.clear.ensures.seat)

pub returns-in_err-clear-clause-refused : goal.returns-in_err-clear-clause-refused
returns-in_err-clear-clause-refused g c =
    let z = c.args.store.now in let s = c.args.seat.now in let d = c.args.log.now.state in let t = c.loop-entry.seat in let u = c.clear.new.seat in let k = c.loop-entry.invariant in let i = c.loop-entry.entry-index in
    let here : Entry = c.entry-item.result in
    let lt : i < length c.pending-entries.result.now = omega arith in
    let got : slice_get d.pending i ≡ Some here = subst (λ (e : List Entry). slice_get e i ≡ Some here) c.pending-entries.ensures (slice_get_read c.pending-entries.result.now (length c.pending-entries.result.now) i here refl lt c.entry-item.is) in
    let number = k.number in
    let n : c.loop-entry.n + 1 ≡ suc (length d.history) + i = omega (arith, number) in
    let way : c.of.result ≡ way_of z.cells (pair_by (suc (length d.history) + i) here) = c.of.ensures ∙ (λ j. way_of (sym c.bits-bits.ensures.1 j) (pair_by (n j) here)) in
    let ways = ways_of z.cells (suc (length d.history)) d.pending in
    err_any c.from_residual.result _ (
      take i ways,
      way_of z.cells (pair_by (suc (length d.history) + i) here),
      drop (suc i) ways,
      subst Clears way c.in_err-clear.ensures.wanting,
      taken_apart z.cells (suc (length d.history)) i d.pending here got,
      λ bound words there. subst (λ (b : ℕ). Noted u.knows (words_stay b words))
          (ap (bound_with z.cells (length d.history) (bound_for z.cells (length d.history) bound words (take i ways)) words) way ∙ sym (bound_for_more z.cells (length d.history) bound words (take i ways) (way_of z.cells (pair_by (suc (length d.history) + i) here) ∷ [])))
          (c.clear.ensures.bound (bound_for z.cells (length d.history) bound words (take i ways)) words (k.bound bound words there)),
    )

pub returns-clause-bound : goal.returns-clause-bound
returns-clause-bound g c =
    let z = c.args.store.now in let d = c.args.log.now.state in let all : c.loop-entry.entry-index ≡ length c.pending-entries.result.now = omega arith in
    let whole = ap (λ (m : ℕ). take m (ways_of z.cells (suc (length d.history)) d.pending)) all ∙ (ap (λ (e : List Entry). take (length e) (ways_of z.cells (suc (length d.history)) d.pending)) c.pending-entries.ensures ∙ all_taken z.cells (suc (length d.history)) d.pending) in
    subst (RisesFor c.args.store.now.cells (length d.history) c.args.seat.now.knows c.loop-entry.seat.knows) whole c.loop-entry.invariant.bound

pub returns-clause-cleared : goal.returns-clause-cleared
returns-clause-cleared g c =
    let z = c.args.store.now in let d = c.args.log.now.state in let all : c.loop-entry.entry-index ≡ length c.pending-entries.result.now = omega arith in
    let whole = ap (λ (m : ℕ). take m (ways_of z.cells (suc (length d.history)) d.pending)) all ∙ (ap (λ (e : List Entry). take (length e) (ways_of z.cells (suc (length d.history)) d.pending)) c.pending-entries.ensures ∙ all_taken z.cells (suc (length d.history)) d.pending) in
    subst (AreCleared c.loop-entry.seat.knows c.args.store.now.cells) whole c.loop-entry.invariant.cleared

pub returns-clause-waits : goal.returns-clause-waits
returns-clause-waits g c =
    let z = c.args.store.now in let d = c.args.log.now.state in let all : c.loop-entry.entry-index ≡ length c.pending-entries.result.now = omega arith in
    let whole = ap (λ (m : ℕ). take m (ways_of z.cells (suc (length d.history)) d.pending)) all ∙ (ap (λ (e : List Entry). take (length e) (ways_of z.cells (suc (length d.history)) d.pending)) c.pending-entries.ensures ∙ all_taken z.cells (suc (length d.history)) d.pending) in
    subst (λ (l : List Way). AnyClears l → Noted c.loop-entry.seat.knows none_waits) whole c.loop-entry.invariant.waits
