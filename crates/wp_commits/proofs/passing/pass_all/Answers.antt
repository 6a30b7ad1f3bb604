use Rattle.std.proofs.Common.{◌≡◌, inl, inr, List, [], ◌∷◌, refl, sym, subst, ap, ◌∙◌}
use Rattle.wp_core.specs.Lists.{IsIn}
use Rattle.wp_core.specs.States.{Content, writes, prepared, snapshots}
use Rattle.wp_core.specs.Views.{words_stay, none_waits, delayed_flag_stays, old_flag_stays}
use Rattle.wp_model.specs.PreparedSets.{NoneDelayed}
use Rattle.wp_model.specs.Snapshots.{NoOldCommits}
use Rattle.wp_rule.specs.Knows.{Noted}
use Rattle.wp_shared.specs.Notes.{is_flag, GoesOn, OldFlagTells}
use Rattle.wp_shared.specs.Seats.{SeatState}
use Rattle.wp_shared.proofs.Goes.{stays, then_still}
use Rattle.wp_commits.specs.Passing.{NoneReached}
use Rattle.wp_commits.proofs.Clears.{then_noted, just_noted}
use Rattle.wp_commits.proofs.Flags.{tells_still}
use Rattle.wp_commits.proofs.Passed.{fewer, knows_none_waits}
use Rattle.wp_commits.proofs.passing.pass_all.Goals as goal

pub loop-p-init : goal.loop-p-init
loop-p-init g c = let s = c.args.seat.now in record { goes = subst (λ (h : List Content). GoesOn is_flag h s.turns s s) c.requires.held (stays is_flag s s s); delayed_flag = c.requires.delayed_flag; old_flag = c.requires.old_flag }

pub passed-requires-clause-seat : goal.passed-requires-clause-seat
passed-requires-clause-seat g c = ap (λ (x : SeatState). x.table) c.loop-p.invariant.goes.same ∙ c.requires.seat.0

pub passed-requires-clause-held : goal.passed-requires-clause-held
passed-requires-clause-held g c = let d = c.args.log.now.state in let t = c.loop-p.tables in let held = sym (ap (λ (x : SeatState). x.knows.held) c.loop-p.invariant.goes.same) in
    (subst (IsIn (writes d)) held (inr (inr (inl refl))), subst (IsIn (prepared t)) held (inr (inl refl)))

pub passed-requires-clause-words : goal.passed-requires-clause-words
passed-requires-clause-words g c = let w = c.requires.words in (w.0, w.1, c.loop-p.invariant.goes.noted (words_stay w.0 w.1) refl w.2)

pub keep-requires-clause-seat : goal.keep-requires-clause-seat
keep-requires-clause-seat g c = let s = c.args.seat.now in let d = c.args.log.now.state in let l = c.loop-p in let t = l.seat in let k = l.invariant in let r = c.passed.new.seat in let same = c.passed.ensures.same in ap (λ (x : SeatState). x.table) (same ∙ k.goes.same) ∙ c.requires.seat.0

pub keep-requires-clause-held : goal.keep-requires-clause-held
keep-requires-clause-held g c = let s = c.args.seat.now in let d = c.args.log.now.state in let l = c.loop-p in let t = l.seat in let k = l.invariant in let r = c.passed.new.seat in let same = c.passed.ensures.same in let held : r.knows.held ≡ snapshots l.snaps ∷ prepared l.tables ∷ writes d ∷ [] = ap (λ (x : SeatState). x.knows.held) (same ∙ k.goes.same) in (prepared l.tables ∷ writes d ∷ [], held, inr (inl refl))

pub keep-requires-clause-ordered : goal.keep-requires-clause-ordered
keep-requires-clause-ordered g c = c.in-Some.ensures.passed.ordered

pub keep-requires-clause-decided : goal.keep-requires-clause-decided
keep-requires-clause-decided g c = c.in-Some.ensures.passed.decided

pub keep-requires-clause-flag : goal.keep-requires-clause-flag
keep-requires-clause-flag g c = subst (λ (x : SeatState). OldFlagTells x.knows c.loop-p.snaps) (sym c.passed.ensures.same) c.loop-p.invariant.old_flag

pub returns-in_err-keep-clause-seat : goal.returns-in_err-keep-clause-seat
returns-in_err-keep-clause-seat g c = let s = c.args.seat.now in let d = c.args.log.now.state in let l = c.loop-p in let t = l.seat in let k = l.invariant in let r = c.passed.new.seat in let same = c.passed.ensures.same in let held : r.knows.held ≡ snapshots l.snaps ∷ prepared l.tables ∷ writes d ∷ [] = ap (λ (x : SeatState). x.knows.held) (same ∙ k.goes.same) in
    let beneath : List Content = prepared l.tables ∷ writes d ∷ [] in let u = c.keep.new.seat in let kept = c.keep.ensures.seat beneath held in
    let back : r ≡ t = same in let kept_from : GoesOn is_flag (snapshots c.keep.new.snaps ∷ beneath) t.turns t u = subst (λ (x : SeatState). GoesOn is_flag (snapshots c.keep.new.snaps ∷ beneath) x.turns x u) same kept in let so_far = then_still is_flag s t u _ _ s.turns k.goes kept_from in so_far

pub returns-in_err-keep-clause-delayed_flag : goal.returns-in_err-keep-clause-delayed_flag
returns-in_err-keep-clause-delayed_flag g c = let l = c.loop-p in
    tells_still l.seat.knows c.keep.new.seat.knows delayed_flag_stays (NoneDelayed l.tables) (λ value there. c.keep.ensures.other value (subst (λ (x : SeatState). Noted x.knows (delayed_flag_stays value)) (sym c.passed.ensures.same) there)) l.invariant.delayed_flag

pub let_go-requires-clause-seat : goal.let_go-requires-clause-seat
let_go-requires-clause-seat g c = let s = c.args.seat.now in let d = c.args.log.now.state in let l = c.loop-p in let t = l.seat in let k = l.invariant in let r = c.passed.new.seat in let same = c.passed.ensures.same in let held : r.knows.held ≡ snapshots l.snaps ∷ prepared l.tables ∷ writes d ∷ [] = ap (λ (x : SeatState). x.knows.held) (same ∙ k.goes.same) in
    let beneath : List Content = prepared l.tables ∷ writes d ∷ [] in let u = c.keep.new.seat in let kept = c.keep.ensures.seat beneath held in
    ap (λ (x : SeatState). x.table) kept.same ∙ (ap (λ (x : SeatState). x.table) (same ∙ k.goes.same) ∙ c.requires.seat.0)

pub let_go-requires-clause-held : goal.let_go-requires-clause-held
let_go-requires-clause-held g c = let s = c.args.seat.now in let d = c.args.log.now.state in let l = c.loop-p in let t = l.seat in let k = l.invariant in let r = c.passed.new.seat in let same = c.passed.ensures.same in let held : r.knows.held ≡ snapshots l.snaps ∷ prepared l.tables ∷ writes d ∷ [] = ap (λ (x : SeatState). x.knows.held) (same ∙ k.goes.same) in
    let beneath : List Content = prepared l.tables ∷ writes d ∷ [] in let u = c.keep.new.seat in let kept = c.keep.ensures.seat beneath held in
    ap (λ (x : SeatState). x.knows.held) kept.same

pub let_go-requires-clause-decided : goal.let_go-requires-clause-decided
let_go-requires-clause-decided g c = c.in-Some.ensures.passed.decided

pub let_go-requires-clause-reached : goal.let_go-requires-clause-reached
let_go-requires-clause-reached g c = let s = c.args.seat.now in let d = c.args.log.now.state in let l = c.loop-p in let t = l.seat in let k = l.invariant in let r = c.passed.new.seat in let same = c.passed.ensures.same in let held : r.knows.held ≡ snapshots l.snaps ∷ prepared l.tables ∷ writes d ∷ [] = ap (λ (x : SeatState). x.knows.held) (same ∙ k.goes.same) in
    let beneath : List Content = prepared l.tables ∷ writes d ∷ [] in let u = c.keep.new.seat in let kept = c.keep.ensures.seat beneath held in
    let f = c.in-Some.ensures.passed in
    (f.bound, f.words, kept.noted (words_stay f.bound f.words) refl (subst (λ (x : SeatState). Noted x.knows (words_stay f.bound f.words)) (sym same) f.noted), f.passed)

pub let_go-requires-clause-flag : goal.let_go-requires-clause-flag
let_go-requires-clause-flag g c = let l = c.loop-p in
    tells_still l.seat.knows c.keep.new.seat.knows delayed_flag_stays (NoneDelayed l.tables) (λ value there. c.keep.ensures.other value (subst (λ (x : SeatState). Noted x.knows (delayed_flag_stays value)) (sym c.passed.ensures.same) there)) l.invariant.delayed_flag

pub loop-p-preserved : goal.loop-p-preserved
loop-p-preserved g c = let s = c.args.seat.now in let d = c.args.log.now.state in let l = c.loop-p in let t = l.seat in let k = l.invariant in let r = c.passed.new.seat in let same = c.passed.ensures.same in let held : r.knows.held ≡ snapshots l.snaps ∷ prepared l.tables ∷ writes d ∷ [] = ap (λ (x : SeatState). x.knows.held) (same ∙ k.goes.same) in
    let beneath : List Content = prepared l.tables ∷ writes d ∷ [] in let u = c.keep.new.seat in let kept = c.keep.ensures.seat beneath held in
    let back : r ≡ t = same in let kept_from : GoesOn is_flag (snapshots c.keep.new.snaps ∷ beneath) t.turns t u = subst (λ (x : SeatState). GoesOn is_flag (snapshots c.keep.new.snaps ∷ beneath) x.turns x u) same kept in let so_far = then_still is_flag s t u _ _ s.turns k.goes kept_from in
    let v = c.let_go.new.seat in
    record {
      goes = then_still is_flag s u v _ _ s.turns so_far c.let_go.ensures.seat;
      delayed_flag = c.let_go.ensures.flag;
      old_flag = tells_still u.knows v.knows old_flag_stays (NoOldCommits c.keep.new.snaps) c.let_go.ensures.other c.keep.ensures.flag;
    }

pub loop-p-smaller : goal.loop-p-smaller
loop-p-smaller g c = fewer c.loop-p.tables c.let_go.new.tables c.in-Some.p c.in-Some.c c.in-Some.ensures.passed.there c.let_go.ensures.left

pub note-requires-clause-seat : goal.note-requires-clause-seat
note-requires-clause-seat g c = let s = c.args.seat.now in let d = c.args.log.now.state in let l = c.loop-p in let t = l.seat in let k = l.invariant in let r = c.passed.new.seat in let same = c.passed.ensures.same in let one = ap (λ (x : SeatState). x.table) (same ∙ k.goes.same) ∙ c.requires.seat.0 in let two = ap (λ (x : SeatState). x.knows.live) (same ∙ k.goes.same) ∙ c.requires.seat.1 in (one, two)

pub note-requires-clause-known : goal.note-requires-clause-known
note-requires-clause-known g c = let d = c.args.log.now.state in let l = c.loop-p in let r = c.passed.new.seat in let same = c.passed.ensures.same in let held : r.knows.held ≡ snapshots l.snaps ∷ prepared l.tables ∷ writes d ∷ [] = ap (λ (x : SeatState). x.knows.held) (same ∙ l.invariant.goes.same) in
    knows_none_waits r.knows d l.tables (subst (IsIn (writes d)) (sym held) (inr (inr (inl refl)))) (subst (IsIn (prepared l.tables)) (sym held) (inr (inl refl)))
    (subst (λ (x : SeatState). NoneReached x.knows l.tables.delayed_commits) (sym same) c.in_default.ensures.passed)

pub returns-clause-seat : goal.returns-clause-seat
returns-clause-seat g c = let s = c.args.seat.now in let d = c.args.log.now.state in let l = c.loop-p in let t = l.seat in let k = l.invariant in let r = c.passed.new.seat in let same = c.passed.ensures.same in let v = c.note.new.seat in
    let goes = subst (λ (x : SeatState). GoesOn is_flag (snapshots l.snaps ∷ prepared l.tables ∷ writes d ∷ []) s.turns s x) (sym same) k.goes in
    then_noted s r v v is_flag none_waits _ _ goes c.note.ensures

pub returns-clause-delayed_flag : goal.returns-clause-delayed_flag
returns-clause-delayed_flag g c = let s = c.args.seat.now in let d = c.args.log.now.state in let l = c.loop-p in let t = l.seat in let k = l.invariant in let r = c.passed.new.seat in let same = c.passed.ensures.same in
    tells_still t.knows c.note.new.seat.knows delayed_flag_stays (NoneDelayed l.tables) (λ value there. subst (λ (x : SeatState). Noted x.knows (delayed_flag_stays value)) (sym c.note.ensures) (inr (subst (λ (x : SeatState). Noted x.knows (delayed_flag_stays value)) (sym same) there))) k.delayed_flag

pub returns-clause-old_flag : goal.returns-clause-old_flag
returns-clause-old_flag g c = let s = c.args.seat.now in let d = c.args.log.now.state in let l = c.loop-p in let t = l.seat in let k = l.invariant in let r = c.passed.new.seat in let same = c.passed.ensures.same in
    tells_still t.knows c.note.new.seat.knows old_flag_stays (NoOldCommits l.snaps) (λ value there. subst (λ (x : SeatState). Noted x.knows (old_flag_stays value)) (sym c.note.ensures) (inr (subst (λ (x : SeatState). Noted x.knows (old_flag_stays value)) (sym same) there))) k.old_flag

pub returns-clause-waits : goal.returns-clause-waits
returns-clause-waits g c = just_noted c.passed.new.seat c.note.new.seat none_waits c.note.ensures
