-- An actor is taken out of a world, makes its step, and is put back.
use Rattle.std.specs.Prelude.{slice_get, option_map}
use Rattle.std.proofs.Common.{◌≡◌, ◌≢◌, unwrap_or, ℕ, zero, suc, ◌<◌, ◌≤◌, List, [], ◌∷◌, length, set, get_or, OnOk, Ok, Err, Result, refl, sym, subst, ap, ◌∙◌, arith, ◌++◌, not, Option, Some, None, true, false}
use mathlib.Core.Option.{some-injective}
use Rattle.std.proofs.lemmas.List.{set-set}
use Rattle.wp_core.specs.World.{World, Actor, new_actor}
use Rattle.wp_core.specs.Changes.{with_actor, joined_actor, made_one}
use Rattle.wp_core.specs.Effects.{done}
use Rattle.wp_core.specs.Notes.{forgets, gives_guard}
use Rattle.wp_core.specs.Turns.{Turn}
use Rattle.wp_model.specs.declared.entry.Entry.{Entry}
use Rattle.wp_core.specs.Steps as step
use Rattle.wp_core.specs.Steps.{Step}
use Rattle.wp_machine.specs.declared.step.Kind.{Kind}
use Rattle.wp_machine.specs.declared.step.Kind.TheVariants as kind
use Rattle.wp_machine.specs.declared.step.ActorsStep.{ActorsStep}
use Rattle.wp_machine.specs.declared.step.ActorsStep.TheVariants as actors
use Rattle.wp_machine.proofs.StayNoted.{EndsNothing, all_stay}
use Rattle.wp_machine.specs.Machine.{actors_step, step_of, MayMake, Makes}
use Rattle.wp_machine.specs.Effect.{IsEffect}
use Rattle.wp_machine.specs.Marks.{apart_step, left_by}
use Rattle.wp_machine.specs.Apart.{IsApart}
use Rattle.wp_machine.proofs.Apart.{acts, again, apart_same, step_same}
use mathlib.Core.Option.{some}
use lib.ListN.{get_elem?}
use Rattle.std.specs.declared.alloc.AllocError.{AllocError}

pub at_by : (r : Result (Unit {0}) AllocError) (P : ℕ → Type 0) (by : ℕ) → OnOk r ((by : ℕ) → P by) → OnOk r (P by)
at_by (Ok x) P by f = f by
at_by (Err e) P by f = f

-- what is the effect of a step is that of each step that is the same
pub same_effect : (r : Result (Unit {0}) AllocError) (w next : World) (a b : Actor) (t s : Step) → Some t ≡ Some s → OnOk r ((by : ℕ) → IsEffect by w a t next b) → OnOk r ((by : ℕ) → IsEffect by w a s next b)
same_effect r w next a b t s e = subst (λ (z : Step). OnOk r ((by : ℕ) → IsEffect by w a z next b)) (ap (λ o. unwrap_or o t) e)

pub at_index : {X : Type 0} (xs : List X) (i : ℕ) (d : X) → i < length xs → get_elem? xs i ≡ some (get_or xs i d)
at_index [] i d l = absurd (omega arith)
at_index (x ∷ xs) zero d l = refl
at_index (x ∷ xs) (suc i) d l = at_index xs i d (omega arith)

pub set_beyond : {X : Type 0} (xs : List X) (i : ℕ) (a : X) → length xs ≤ i → xs ≡ set xs i a
set_beyond [] i a l = refl
set_beyond (x ∷ xs) zero a l = absurd (omega arith)
set_beyond (x ∷ xs) (suc i) a l = ap (λ zs. x ∷ zs) (set_beyond xs i a (omega arith))

pub at_within : {X : Type 0} (xs : List X) (i : ℕ) (x : X) → get_elem? xs i ≡ some x → i < length xs
at_within [] i x e = absurd cc
at_within (y ∷ xs) zero x e = omega arith
at_within (y ∷ xs) (suc i) x e = let l = at_within xs i x e in omega arith

same_actor : (w : World) (by : ℕ) (a b : Actor) → get_elem? w.actors by ≡ some a → get_elem? w.actors by ≡ some b → b ≡ a
same_actor w by a b at at2 = some-injective b a (sym at2 ∙ at)

pub noted : (next w : World) (by : ℕ) (a actor note : Actor) → get_elem? w.actors by ≡ some a → get_elem? w.actors by ≡ some actor → note ≡ new_actor false actor.participant.client actor.participant.seen → next ≡ record w { actors = w.actors ++ note ∷ [] } → next ≡ done w by a step.make_note
noted next w by a actor note at at2 is n = n ∙ ap (λ z. record w { actors = w.actors ++ z ∷ [] }) (is ∙ ap (λ z. new_actor false z.participant.client z.participant.seen) (same_actor w by a actor at at2))

pub seated : (next w we w2 : World) (by : ℕ) (a first actor more seat : Actor) → get_elem? w.actors by ≡ some a → get_elem? w.actors by ≡ some first → get_elem? w.actors by ≡ some actor → seat ≡ new_actor true first.participant.client first.participant.seen → we ≡ with_actor w by joined_actor → more ≡ made_one actor → w2 ≡ with_actor we by more → next ≡ record w2 { actors = w2.actors ++ seat ∷ [] } → next ≡ done w by a step.make_seat
seated next w we w2 by a first actor more seat at at1 at2 is out one back n =
    n ∙ ap (λ (z : World). record z { actors = z.actors ++ seat ∷ [] }) (back ∙ ap (λ (z : World). with_actor z by more) out)
    ∙ ap (λ (zs : List Actor). record w { actors = zs ++ seat ∷ [] }) (set-set w.actors by joined_actor more)
    ∙ ap (λ (z : Actor). record w { actors = set w.actors by z ++ seat ∷ [] }) (one ∙ ap made_one (same_actor w by a actor at at2))
    ∙ ap (λ (z : Actor). record w { actors = set w.actors by (made_one a) ++ z ∷ [] }) (is ∙ ap (λ z. new_actor true z.participant.client z.participant.seen) (same_actor w by a first at at1))

pub acted : (w we w2 next : World) (by : ℕ) (k : Kind) (a actor left left2 : Actor) (s : Step) (i : IsApart k) → get_elem? w.actors by ≡ some a → get_elem? w.actors by ≡ some actor → we ≡ with_actor w by joined_actor → left ≡ record actor { notes = left_by (apart_step we.writes we.store we.locks actor.participant k) we.writes.history (length we.cache) actor.notes } → step_of w a.participant k ≡ Some s → (step_of we left.participant k ≡ Some s → IsEffect by we left s w2 left2) → next ≡ with_actor w2 by left2 → next ≡ done w by (forgets w.writes.history (length w.cache) s a) s
acted w we w2 next by k a actor left left2 s i at at2 out marked e made back =
    let same = same_actor w by a actor at at2 in
    let first : step_of w actor.participant k ≡ Some s = ap (λ z. step_of w z.participant k) same ∙ e in
    let here : step_of we left.participant k ≡ Some s = ap (λ z. step_of we z.participant k) marked ∙ ap (λ z. step_of z actor.participant k) out ∙ step_same w by joined_actor actor.participant k i ∙ first in
    let noted : left ≡ forgets w.writes.history (length w.cache) s actor = marked ∙ ap (λ (z : World). record actor { notes = left_by (apart_step z.writes z.store z.locks actor.participant k) z.writes.history (length z.cache) actor.notes }) out ∙ ap (λ o. record actor { notes = left_by o w.writes.history (length w.cache) actor.notes }) (apart_same w actor.participant k i ∙ first) in
    back ∙ made here ∙ ap (λ z. done z by left s) out ∙ again w by joined_actor left s (acts w actor.participant k s i first) ∙ ap (λ z. done w by z s) (noted ∙ ap (forgets w.writes.history (length w.cache) s) same)

-- ---- joins

set_elsewhere : {X : Type 0} (xs : List X) (i j : ℕ) (x : X) → i ≢ j → get_elem? (set xs i x) j ≡ get_elem? xs j
set_elsewhere [] i j x ne = refl
set_elsewhere (y ∷ xs) zero zero x ne = absurd (ne refl)
set_elsewhere (y ∷ xs) zero (suc j) x ne = refl
set_elsewhere (y ∷ xs) (suc i) zero x ne = refl
set_elsewhere (y ∷ xs) (suc i) (suc j) x ne = set_elsewhere xs i j x (λ e. ne (ap suc e))

set_turned : {X : Type 0} (xs : List X) (i j : ℕ) (x y : X) → i ≢ j → set (set xs i x) j y ≡ set (set xs j y) i x
set_turned [] i j x y ne = refl
set_turned (z ∷ xs) zero zero x y ne = absurd (ne refl)
set_turned (z ∷ xs) zero (suc j) x y ne = refl
set_turned (z ∷ xs) (suc i) zero x y ne = refl
set_turned (z ∷ xs) (suc i) (suc j) x y ne = ap (λ zs. z ∷ zs) (set_turned xs i j x y (λ e. ne (ap suc e)))

-- the other one is taken out first, then the actor, which changes by it and is put back
pub joined : (f : Actor → Actor → Actor) (w we we2 next : World) (by other : ℕ) (a b note actor more : Actor) → other ≢ by → get_elem? w.actors by ≡ some a → get_elem? w.actors other ≡ some b → get_elem? w.actors other ≡ some note → we ≡ with_actor w other joined_actor → get_elem? we.actors by ≡ some actor → we2 ≡ with_actor we by joined_actor → more ≡ f actor note → next ≡ with_actor we2 by more → next ≡ with_actor (with_actor w by (f a b)) other joined_actor
joined f w we we2 next by other a b note actor more ne at there there2 out at2 out2 one back =
    let first : get_elem? w.actors by ≡ some actor = sym (set_elsewhere w.actors other by joined_actor ne) ∙ ap (λ (z : World). get_elem? z.actors by) (sym out) ∙ at2 in
    let by_it : more ≡ f a b = one ∙ ap (λ z. f z note) (same_actor w by a actor at first) ∙ ap (f a) (same_actor w other b note there there2) in
    back ∙ ap (λ (z : World). with_actor z by more) (out2 ∙ ap (λ (z : World). with_actor z by joined_actor) out)
    ∙ ap (λ (zs : List Actor). record w { actors = zs }) (set-set (set w.actors other joined_actor) by joined_actor more ∙ set_turned w.actors other by joined_actor more ne)
    ∙ ap (λ (z : Actor). with_actor (with_actor w by z) other joined_actor) by_it

pub got : {X : Type 0} (xs : List X) (i : ℕ) (x : X) → slice_get xs i ≡ Some x → get_elem? xs i ≡ some x
got [] i x e = absurd cc
got (y ∷ xs) zero x e = ap (λ o. some (unwrap_or o x)) e
got (y ∷ xs) (suc i) x e = got xs i x e

-- the step is one with the actor at that place
pub record IsWith (w : World) (other : ℕ) (f : Actor → Step) (s : Step) : Type 0 where
  pub actor : Actor
  pub there : get_elem? w.actors other ≡ some actor
  pub is : f actor ≡ s

pub is_with : (w : World) (other : ℕ) (f : Actor → Step) (s : Step) → option_map f (slice_get w.actors other) ≡ Some s → IsWith w other f s
is_with w other f s e = by (slice_get w.actors other) refl e
  where
    by : (o : Option Actor) → slice_get w.actors other ≡ o → option_map f o ≡ Some s → IsWith w other f s
    by None at e = absurd cc
    by (Some b) at e = record { actor = b; there = got w.actors other b at; is = ap (λ o. unwrap_or o s) e }

only : (x s : Step) → Some x ≡ Some s → x ≡ s
only x s e = ap (λ o. unwrap_or o x) e

no_guard : (s : Step) → ((turn : Turn) → gives_guard (Some turn) s ≡ false) → (turn : Option Turn) → gives_guard turn s ≡ false
no_guard s given None = refl
no_guard s given (Some turn) = given turn

note_ends_nothing : (h : List Entry) (n : ℕ) → EndsNothing h n step.make_note
note_ends_nothing h n = record { guard = no_guard step.make_note (λ turn. refl); place = λ at. refl; words = refl; pending = refl; transaction = λ name. refl; delayed_flag = refl; old_flag = refl; add_prepared = refl; take_prepared = refl; delays = refl; add_versions = refl; take_versions = refl; moves = refl; replaces = refl; installs = refl; direct = refl; changes = λ key. refl }

seat_ends_nothing : (h : List Entry) (n : ℕ) → EndsNothing h n step.make_seat
seat_ends_nothing h n = record { guard = no_guard step.make_seat (λ turn. refl); place = λ at. refl; words = refl; pending = refl; transaction = λ name. refl; delayed_flag = refl; old_flag = refl; add_prepared = refl; take_prepared = refl; delays = refl; add_versions = refl; take_versions = refl; moves = refl; replaces = refl; installs = refl; direct = refl; changes = λ key. refl }

learning_ends_nothing : (h : List Entry) (n place : ℕ) (note : Actor) → EndsNothing h n (step.learn place note)
learning_ends_nothing h n place note = record { guard = no_guard (step.learn place note) (λ turn. refl); place = λ at. refl; words = refl; pending = refl; transaction = λ name. refl; delayed_flag = refl; old_flag = refl; add_prepared = refl; take_prepared = refl; delays = refl; add_versions = refl; take_versions = refl; moves = refl; replaces = refl; installs = refl; direct = refl; changes = λ key. refl }

joining_ends_nothing : (h : List Entry) (n place : ℕ) (seat : Actor) → EndsNothing h n (step.join_seat place seat)
joining_ends_nothing h n place seat = record { guard = no_guard (step.join_seat place seat) (λ turn. refl); place = λ at. refl; words = refl; pending = refl; transaction = λ name. refl; delayed_flag = refl; old_flag = refl; add_prepared = refl; take_prepared = refl; delays = refl; add_versions = refl; take_versions = refl; moves = refl; replaces = refl; installs = refl; direct = refl; changes = λ key. refl }

ends_nothing : (w : World) (k : ActorsStep) (s : Step) → actors_step w k ≡ Some s → EndsNothing w.writes.history (length w.cache) s
ends_nothing w actors.MakeNote s e = subst (EndsNothing w.writes.history (length w.cache)) (only step.make_note s e) (note_ends_nothing _ _)
ends_nothing w actors.MakeSeat s e = subst (EndsNothing w.writes.history (length w.cache)) (only step.make_seat s e) (seat_ends_nothing _ _)
ends_nothing w (actors.Learn other) s e =
    let k = is_with w other (step.learn other) s e in
    subst (EndsNothing w.writes.history (length w.cache)) k.is (learning_ends_nothing _ _ other k.actor)
ends_nothing w (actors.JoinSeat other) s e =
    let k = is_with w other (step.join_seat other) s e in
    subst (EndsNothing w.writes.history (length w.cache)) k.is (joining_ends_nothing _ _ other k.actor)

made_actor : (w next : World) (by : ℕ) (k : ActorsStep) (a : Actor) (s : Step) → step_of w a.participant (kind.Actors k) ≡ Some s → next ≡ done w by a s → next ≡ done w by (forgets w.writes.history (length w.cache) s a) s
made_actor w next by k a s e n = n ∙ ap (λ xs. done w by (record a { notes = xs }) s) (sym (all_stay w.writes.history (length w.cache) s (ends_nothing w k s e) a.notes))

pub on_ok : (r : Result (Unit {0}) AllocError) (P Q : Type 0) → (P → Q) → OnOk r P → OnOk r Q
on_ok (Ok x) P Q f p = f p
on_ok (Err e) P Q f p = p

-- the step that may be made is this one, and it is done
pub makes : (r : Result (Unit {0}) AllocError) (w next : World) (by : ℕ) (k : ActorsStep) (s : Step) (q : MayMake w by (kind.Actors k)) → s ≡ q.step → OnOk r (next ≡ done w by q.actor s) → OnOk r (Makes w by (kind.Actors k) next)
makes r w next by k s q same = on_ok r _ _ (λ n. record { actor = q.actor; there = q.there; step = q.step; is = q.is; goes = (q.actor, q.there, q.needs, made_actor w next by k q.actor q.step q.is (n ∙ ap (λ z. done w by q.actor z) same)) })

pub apart_unless : (k : Kind) → ((x : ActorsStep) → k ≡ kind.Actors x → ⊥) → IsApart k
apart_unless (kind.Reader k) not = tt
apart_unless (kind.Word k) not = tt
apart_unless (kind.Turn k) not = tt
apart_unless (kind.Write k) not = tt
apart_unless (kind.Prepared k) not = tt
apart_unless (kind.Snapshots k) not = tt
apart_unless (kind.Store k) not = tt
apart_unless (kind.Tables k) not = tt
apart_unless (kind.Locks k) not = tt
apart_unless (kind.Own k) not = tt
apart_unless (kind.Actors k) not = not k refl
