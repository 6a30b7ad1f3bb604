-- A decided number leaves the prepared sets.
use Rattle.std.proofs.Common.{◌≡◌, inl, ℕ, ◌||◌, true, false, List, [], ◌∷◌, length, refl, sym, subst, ap, ◌∙◌, Some, None, append-nil}
use Rattle.wp_model.specs.Decision.{decision_of}
use Rattle.wp_model.specs.PreparedSets.{PreparedSets}
use Rattle.wp_model.specs.declared.entry.Entry.{Entry}
use Rattle.wp_core.specs.Changes.{held_with}
use Rattle.wp_core.specs.Lists.{IsIn}
use Rattle.wp_core.specs.Notes.{forgets}
use Rattle.wp_core.specs.Steps.{take_out, note}
use Rattle.wp_core.specs.States.{Content, prepared, without_prepared}
use Rattle.wp_core.specs.Views.{Fact, has_left, delayed_flag_stays, old_flag_stays}
use Rattle.wp_core.specs.World.{Actor, World}
use Rattle.wp_core.specs.Sound.Views.{guarded_by}
use Rattle.wp_model.proofs.Numbers.{in_removed}
use Rattle.wp_model.proofs.Tests.{none_some, some_none}
use Rattle.wp_rule.specs.Moves.{MayMake, Moved}
use Rattle.wp_rule.specs.Words.{Place}
use Rattle.wp_rule.proofs.Forgets.{EndsNothing, forgets_nothing, note_ends}
use Rattle.wp_rule.proofs.Needed.{needed}
use Rattle.wp_shared.specs.Calls.{Continues}
use Rattle.wp_shared.specs.Seats.{SharedState, SeatState, IsFree}
use Rattle.wp_shared.proofs.Goes.{holds, notes, then, is_free}
use Rattle.wp_shared.proofs.OneStep.{becomes}
use Rattle.wp_shared.proofs.Tables.{held_state}
use Rattle.wp_shared.specs.Notes.{is_flag, noting, GoesOn}
use Rattle.wp_judge.specs.Words.{commit_pair, fits}

pub take_ends : (p : ℕ) → EndsNothing (take_out p)
take_ends p = record { guard = λ turn. refl; place = λ words place. refl; words = refl; delayed_flag = refl; old_flag = refl; pending = refl; adds = refl; takes = refl; prepared = refl; unprepared = refl; delays = refl; transaction = λ history name. refl; changes = λ history key. refl; direct = refl; moves = refl; replaces = refl; installing = refl }

pub may_take_out : (at : Place) (a : Actor) (t : PreparedSets) (p : ℕ) → a.live ≡ true → a.held ≡ prepared t ∷ [] → (c : ℕ) × (decision_of a.participant.seen p ≡ Some c) × (fits at.cells (commit_pair p c) ≡ true) → MayMake at a (λ w. take_out p ∷ note (has_left p) ∷ [])
may_take_out at a t p live held decided w k =
    let n = needed at a w k (take_out p) (record { state = t; held = subst (IsIn (prepared t)) (sym held) (inl refl); so_is = (decided.0, decided.1, inl decided.2) }) in
    ((tt, (tt, tt)), (n, ((live, (λ turn e. absurd (none_some None turn refl e)), ((n.1.0, n.1.1), (λ i. in_removed w.prepared.heap p i || in_removed w.prepared.delayed p i))), tt)))

-- the number left the sets, which is noted
pub took_out : (at : Place) (so : World → Type 0) (s t : SeatState) (old tables : PreparedSets) (p : ℕ) → s.knows.held ≡ prepared old ∷ [] → tables ≡ without_prepared old p → (t.table ≡ s.table) × (t.by ≡ s.by) × (t.turns ≡ s.turns)
    → Moved at (λ w. take_out p ∷ note (has_left p) ∷ []) so s.knows t.knows → t ≡ noting (has_left p) (record s { knows = record s.knows { held = prepared tables ∷ [] } })
took_out at so s t old tables p held is same m =
    let w = m.world in let h = w.writes.history in let c = length w.cache in
    let table : w.prepared ≡ old = held_state at s.knows w (prepared old) m.before (subst (IsIn (prepared old)) (sym held) (inl refl)) in
    let left : held_with s.knows.held (prepared (without_prepared w.prepared p)) ≡ prepared tables ∷ [] =
    ap (λ (x : List Content). held_with x (prepared (without_prepared w.prepared p))) held ∙ ap (λ (x : PreparedSets). prepared x ∷ []) (ap (λ (x : PreparedSets). without_prepared x p) table ∙ sym is) in
    let one : Actor → Actor = λ a. record a { held = held_with a.held (prepared (without_prepared w.prepared p)) } in
    let two : Actor → Actor = λ a. record a { notes = has_left p ∷ a.notes } in
    becomes s t (two (record s.knows { held = prepared tables ∷ [] })) same
    (m.actor
    ∙ (ap (λ (x : Actor). two (forgets h c (note (has_left p)) (one x))) (forgets_nothing h c (take_out p) s.knows (take_ends p))
    ∙ (ap two (forgets_nothing h c (note (has_left p)) (one s.knows) (note_ends (has_left p)))
    ∙ ap (λ (x : List Content). two (record s.knows { held = x })) left)))

-- and then the flag was fitted
pub left_goes : (s t u : SeatState) (held : List Content) (p : ℕ) → t ≡ noting (has_left p) (record s { knows = record s.knows { held = held } }) → GoesOn is_flag t.knows.held t.turns t u → GoesOn is_flag held s.turns s u
left_goes s t u held p is second =
    let x : SeatState = record s { knows = record s.knows { held = held } } in
    then is_flag s t u held held s.turns s.turns
    (then is_flag s x t held held s.turns s.turns (holds is_flag s x x held refl) (notes is_flag x t t (has_left p) is))
    (subst (λ (y : List Content × List ℕ). GoesOn is_flag y.0 y.1 t u) (λ i. ((is i).knows.held, (is i).turns)) second)

-- the same without a note
pub went_goes : (s t u : SeatState) (held : List Content) → t ≡ record s { knows = record s.knows { held = held } } → GoesOn is_flag t.knows.held t.turns t u → GoesOn is_flag held s.turns s u
went_goes s t u held is second =
    then is_flag s t u held held s.turns s.turns
    (holds is_flag s t t held is)
    (subst (λ (y : List Content × List ℕ). GoesOn is_flag y.0 y.1 t u) (λ i. ((is i).knows.held, (is i).turns)) second)

-- ---- a call that takes the prepared turn alone

-- what is noted without a turn is no flag
no_flag : (fact : Fact) → guarded_by fact ≡ None → is_flag fact ≡ false
no_flag (delayed_flag_stays value) e = absurd (some_none _ e)
no_flag (old_flag_stays value) e = absurd (some_none _ e)
no_flag other e = refl

pub continues_by : {D : Type 0} (z : SharedState D) (s t : SeatState) → IsFree z.table s → GoesOn is_flag [] [] s t → Continues z s t s.knows.participant
continues_by z s t free k = record {
  free = is_free z is_flag s t free.same_table free.live k;
  same_by = ap (λ (x : SeatState). x.by) k.same;
  seen = ([], ap (λ (x : SeatState). x.knows.participant.seen) k.same ∙ sym (append-nil s.knows.participant.seen));
  participant = let e = ap (λ (x : SeatState). x.knows.participant) k.same in e ∙ ap (λ (l : List Entry). record s.knows.participant { seen = l }) (sym (ap (λ (x : SeatState). x.knows.participant.seen) k.same));
  notes = λ fact guard there. k.noted fact (no_flag fact guard) there;
  made = ap (λ (x : SeatState). x.knows.made) k.same;
  joined = ap (λ (x : SeatState). x.knows.joined) k.same;
}
