-- An actor that only remembers what it found keeps every part of a sound world.
use Rattle.std.proofs.Common.{◌≡◌, ◌⊎◌, ⊎_elim, inl, inr, ℕ, ◌≤◌, ◌<◌, true, false, List, [], ◌∷◌, ◌++◌, length, length-append, zero, suc, map, set, refl, sym, subst, ap, ◌∙◌, arith, Option, Some, None, is_some, take, true≢false, unwrap_or}
use Rattle.std.proofs.Math.Seq.{take-length}
use mathlib.Core.Option.{some, some-injective, some-ne-none}
use lib.ListN.{get_elem?}
use Rattle.std.specs.FinMap as finite
use Rattle.wp_model.specs.declared.entry.Entry.{Entry}
use Rattle.wp_model.specs.declared.segment.Segment.{Segment}
use Rattle.wp_model.specs.History.{named, batch_at, is_changed}
use Rattle.wp_model.specs.declared.holder.Holder.{Holder}
use Rattle.wp_model.specs.declared.holder.Holder.TheVariants.{Txn, Client}
use Rattle.wp_core.specs.Lists.{IsIn}
use Rattle.wp_core.specs.Turns.{write_turn, locks_turn, tables_turn}
use Rattle.wp_core.specs.Views.{Account, own, another, prepare_at, Event, claimed, took, locked, told, heard, renewed, stopped, based_at, found_edit, found, Fact}
use Rattle.wp_core.specs.World.{Transaction, Actor, Participant, World, content_of}
use Rattle.wp_core.specs.World as world
use Rattle.wp_core.specs.Steps.{Step, find_log_closed, find_base, find_edit, find_holder, hear}
use Rattle.wp_core.specs.Changes.{with_actor, remembers}
use Rattle.wp_core.specs.Effects.{done}
use Rattle.wp_core.specs.Needs.{Needs}
use Rattle.wp_core.specs.Conditions.{Accounts, IsHolder, IsSelf}
use Rattle.wp_core.specs.Notes.{forgets}
use Rattle.wp_core.specs.Sound.Actors.{seen_of, participants_of, IsParticipantAt}
use Rattle.wp_core.specs.Sound.Locks.{Owner, owner_of, Has, HasKeyAt, PrepareHas, WasLockedFor}
use Rattle.wp_core.specs.Sound.Pasts.{past_of, IsPast, HasDone, HasBegun, MadeHolder, IsLockedFor, IsAccounted, WasInstalled, WasBased, tables_due, OtherCompacts, NoneBetween}
use Rattle.wp_core.specs.Sound.Views.{noter_of}
use Rattle.wp_core.specs.IsSound.{IsSound, participants}
use Rattle.wp_core.proofs.Frames.{at_map}
use Rattle.wp_core.proofs.AllParticipants.{mine}
use Rattle.wp_core.proofs.OwnersStay.{past_locked}
use Rattle.wp_core.proofs.Quiet.{holder_lives}
use Rattle.wp_model.proofs.Tests.{some_there, none_some}
use Rattle.wp_core.proofs.Remembers.{based_of, IsQuiet, holders_more, board_more, faults_more, edits_more}
use Rattle.wp_core.proofs.AllParts.{SoIn, all_parts, tables_of, views_still, readers_still, turns_still, notes_stay, idle_set, led_still}

-- ---- what is noted

-- no fact speaks of a past
so_past : (w : World) (a : Participant) (past : List Event) (fact : Fact) → SoIn w a fact → SoIn w (record a { past = past }) fact
so_past w a past fact k = k

-- ---- all parts

-- what an event has to meet that is only remembered, by its kind
abbrev pub MayRemember : World → ℕ → Event → Type 0
MayRemember w by (found key holder seen account) = IsAccounted w.opened w.writes.history (participants past_of w) by 0 key holder seen account
MayRemember w by (heard label n) = (is_some (finite.get w.locks.labels label) ≡ true) × IsPast (participants past_of w) (told label n)
MayRemember w by (stopped n) = (w.writes.closed ≡ true) × (n ≡ length w.writes.history)
MayRemember w by (based_at n base) = (n ≤ length w.writes.history) × NoneBetween (participants past_of w) base n × WasBased w.first_edit (participants past_of w) base
MayRemember w by (found_edit n base tables due halted) = WasInstalled w.first_edit (participants past_of w) n × WasBased w.first_edit (participants past_of w) base × (tables < due → OtherCompacts (participants past_of w) by 0) × (halted ≡ true → (w.installed.halted ≡ true) × (n ≡ w.installed.last.flushed))
MayRemember w by e = ⊥

remembered_quietly : (w : World) (by : ℕ) (e : Event) → MayRemember w by e → IsQuiet e
remembered_quietly w by (found key holder seen account) may = record { log = refl; tables = refl; due = λ m. refl; last = λ m. refl }
remembered_quietly w by (heard label n) may = record { log = refl; tables = refl; due = λ m. refl; last = λ m. refl }
remembered_quietly w by (stopped n) may = record { log = refl; tables = refl; due = λ m. refl; last = λ m. refl }
remembered_quietly w by (based_at n base) may = record { log = refl; tables = refl; due = λ m. refl; last = λ m. refl }
remembered_quietly w by (found_edit n base tables due halted) may = record { log = refl; tables = refl; due = λ m. refl; last = λ m. refl }
remembered_quietly w by e may = absurd may

pub with_events : (w : World) (by : ℕ) (a : Actor) (e : Event) (step : Step) → get_elem? w.actors by ≡ some a → (a.live ≡ false → ⊥) → MayRemember w by e → IsSound w
    → IsSound (with_actor w by (remembers (forgets w.writes.history (length w.cache) step a) e))
with_events w by a e step at live may s =
    let b : Actor = remembers (forgets w.writes.history (length w.cache) step a) e in
    let quiet = remembered_quietly w by e may in
    let is : (x : Event) → e ≡ x → MayRemember w by x = λ x q. subst (MayRemember w by) q may in
    all_parts w (set w.actors by b) (tables_of w s) (views_still w by a b at refl s) (past_locked w.actors by a b e at refl refl w.opened w.writes.history w.locks s.locks) (record {
      holders = holders_more w.actors by a b e at refl refl w.opened w.writes.history w.locks (λ key holder seen account q. is (found key holder seen account) q) s.holders;
      board = board_more w.actors by a b e at refl refl (world.published w) w.locks
          (λ label n q. ⊎_elim (λ (r : e ≡ told label n). absurd (is (told label n) r)) (λ (r : e ≡ heard label n). (is (heard label n) r).0) q) (λ label n q. (is (heard label n) q).1) (λ label n q. is (told label n) q) s.board;
      faults = faults_more w.actors by a b e at refl refl w.writes w.installed.halted quiet.log quiet.tables (λ n q. is (stopped n) q) (λ n base q. let k = is (based_at n base) q in (k.0, k.1)) (λ edit q. absurd (is (renewed edit) q)) s.faults;
      edits = edits_more w.actors by a b e at refl refl w.first_edit w.installed quiet (λ n base tables due halted q. let k = is (found_edit n base tables due halted) q in (k.0, k.1, k.2)) (λ n base q. (is (based_at n base) q).2) (λ n base tables due q. (is (found_edit n base tables due true) q).3 refl) s.edits;
    }) (turns_still w by a b at refl s)
    (readers_still w by a b at refl s)
    (notes_stay w by a b at step w.holders (SoIn w) refl (λ fact left m. record { guarded = m.guarded; is_so = so_past w a.participant (a.participant.past ++ e ∷ []) fact m.is_so }) (λ j x fact ne there m. m) s)
    (led_still w by a b at refl s) (idle_set w by a b at (λ dead. absurd (live dead)) s)

-- ---- each step

pub finds_log_closed : (w : World) (by : ℕ) (a : Actor) → get_elem? w.actors by ≡ some a → Needs w by a find_log_closed → IsSound w
    → IsSound (done w by (forgets w.writes.history (length w.cache) find_log_closed a) find_log_closed)
finds_log_closed w by a at n s = with_events w by a (stopped (world.published w)) find_log_closed at (holder_lives w by a write_turn at n.0 s) (n.1, refl) s

-- no segment waits, so the log is in that of the last edit, and no renewal has a base above it
pub finds_base : (w : World) (by : ℕ) (a : Actor) → get_elem? w.actors by ≡ some a → Needs w by a find_base → IsSound w
    → IsSound (done w by (forgets w.writes.history (length w.cache) find_base a) find_base)
finds_base w by a at n s = with_events w by a (based_at (world.published w) w.writes.segment.base) find_base at (holder_lives w by a write_turn at n.0 s) (omega arith, λ edit there below. let high = (s.edits.risen edit there).1 in let base = ap (λ (x : Segment). x.base) in_use in omega (arith, high, base), subst (λ (x : Segment). WasBased w.first_edit (participants past_of w) x.base) in_use (based_of w.first_edit (participants past_of w) w.installed.last.segment s.edits.placed)) s
  where
    in_use : w.installed.last.segment ≡ w.writes.segment
    in_use = ⊎_elim
        (λ (same : w.installed.last.segment ≡ w.writes.segment). same)
        (λ (next : (w.writes.next ≡ Some w.installed.last.segment) × (w.writes.closed ≡ false)). ⊎_elim
        (λ (none : w.writes.next ≡ None). absurd (none_some w.writes.next w.installed.last.segment none next.0))
        (λ (closed : w.writes.closed ≡ true). absurd (true≢false (sym closed ∙ next.1)))
        n.1)
        s.coupled.last

-- who finds fewer tables than it knows of knows that another one compacted
few_found : (w : World) (by : ℕ) (a : Actor) → get_elem? w.actors by ≡ some a → IsSound w → w.installed.last.tables < tables_due w.first_edit a.participant.past → OtherCompacts (participants past_of w) by 0
few_found w by a at s few = ⊎_elim
    (λ (enough : tables_due w.first_edit a.participant.past ≤ w.installed.last.tables). absurd (omega arith))
    (λ (other : OtherCompacts (participants past_of w) by 0). other)
    (s.edits.tables by 0 a.participant.past (mine past_of w.actors by a a at refl))

pub finds_edit : (w : World) (by : ℕ) (a : Actor) → get_elem? w.actors by ≡ some a → Needs w by a find_edit → IsSound w
    → IsSound (done w by (forgets w.writes.history (length w.cache) find_edit a) find_edit)
finds_edit w by a at n s =
    let e = w.installed in
    with_events w by a (found_edit e.last.flushed e.last.segment.base e.last.tables (tables_due w.first_edit a.participant.past) e.halted) find_edit at (holder_lives w by a tables_turn at n s) (s.edits.last, based_of w.first_edit (participants past_of w) e.last.segment s.edits.placed, few_found w by a at s, λ q. (q, refl)) s

pub hears : (w : World) (by : ℕ) (a : Actor) (label : List ℕ) (n : ℕ) → get_elem? w.actors by ≡ some a → Needs w by a (hear label n) → IsSound w
    → IsSound (done w by (forgets w.writes.history (length w.cache) (hear label n) a) (hear label n))
hears w by a label n at needs s = with_events w by a (heard label n) (hear label n) at (holder_lives w by a locks_turn at needs.0 s) (ap is_some needs.1, s.board.numbers label n needs.1) s

-- ---- who is found

pub from_map : {A B : Type 0} (f : A → B) (xs : List A) (i : ℕ) (y : B) → get_elem? (map f xs) i ≡ some y → (x : A) × (get_elem? xs i ≡ some x) × (f x ≡ y)
from_map f [] i y e = absurd (some-ne-none y (sym e))
from_map f (x ∷ xs) zero y e = (x, refl, some-injective (f x) y e)
from_map f (x ∷ xs) (suc i) y e = from_map f xs i y e

-- the participant of one that noted something
pub noter_there : (w : World) (j : ℕ) (x : Participant × List Fact) → get_elem? (map noter_of w.actors) j ≡ some x → IsParticipantAt (participants owner_of w) j 0 (owner_of x.0)
noter_there w j x there = let b = from_map noter_of w.actors j x there in (participants_of owner_of b.0, at_map (participants_of owner_of) w.actors j b.0 b.1, ap (λ (z : Participant × List Fact). some (owner_of z.0)) b.2)

-- the past of an owner is one of the pasts
past_there : (xs : List Actor) (j i : ℕ) (o : Owner) → IsParticipantAt (map (participants_of owner_of) xs) j i o → IsParticipantAt (map (participants_of past_of) xs) j i o.past
past_there xs j i o k =
    let x = from_map (participants_of owner_of) xs j k.0 k.1 in
    let p = from_map owner_of (x.0.participant ∷ x.0.joined) i o (ap (λ (z : List Owner). get_elem? z i) x.2 ∙ k.2) in
    (participants_of past_of x.0, at_map (participants_of past_of) xs j x.0 x.1, at_map past_of (x.0.participant ∷ x.0.joined) i p.0 p.1 ∙ ap (λ (z : Owner). some z.past) p.2)

-- one that has the name claimed or took it
begun_by : (w : World) (j i : ℕ) (o : Owner) (name : List ℕ) (x : Transaction) → IsSound w → IsParticipantAt (participants owner_of w) j i o → Has o name x → HasBegun (participants past_of w) j i name
begun_by w j i o name x s there has =
    let live = (s.locks.had j i o there).names name x has in
    let had = s.locks.names_had name o.client live in
    let same = s.locks.apart.names j i had.at had.place o had.owner name x had.transaction there had.there has had.has in
    let past = past_there w.actors had.at had.place had.owner had.there in
    let begun : HasBegun (participants past_of w) had.at had.place name = ⊎_elim (λ (k : IsIn (claimed name) had.owner.past). inl (had.owner.past, past, k)) (λ (k : IsIn (took name) had.owner.past). inr (had.owner.past, past, k)) had.began in
    subst (λ (n : ℕ). HasBegun (participants past_of w) n i name) (sym same.0) (subst (λ (n : ℕ). HasBegun (participants past_of w) had.at n name) (sym same.1) begun)

-- what somebody locked is in somebody's past
locked_past : (w : World) (name key : List ℕ) → WasLockedFor (participants owner_of w) name key → IsPast (participants past_of w) (locked key (Txn name))
locked_past w name key k = (k.at, k.place, (k.owner.past, past_there w.actors k.at k.place k.owner k.there, k.began))

-- ... and locked each key that is held for it, or took it with a prepare that has the key or while somebody had locked it; and one
-- that has a direct write of the key locked it
self_made : (w : World) (j i : ℕ) (o : Owner) (key : Option (List ℕ)) (holder : Holder) → IsSound w → IsHolder w key holder → IsParticipantAt (participants owner_of w) j i o → IsSelf o key holder → MadeHolder w.opened w.writes.history (participants past_of w) j i key holder
self_made w j i o None (Txn name) s held there is = begun_by w j i o name is.0 s there is.1
self_made w j i o (Some key) (Txn name) s held there is =
    let past = past_there w.actors j i o there in
    ⊎_elim
    (λ (k : IsIn (locked key (Txn name)) o.past). inl (begun_by w j i o name is.0 s there is.1, (o.past, past, k)))
    (λ (k : IsIn (took name) o.past × (PrepareHas w.opened w.writes.history name key ⊎ WasLockedFor (participants owner_of w) name key)). inr ((o.past, past, k.0), ⊎_elim (λ has. inl has) (λ was. inr (locked_past w name key was)) k.1))
    (s.locks.came j i o there name is.0 key is.1 (s.locks.keys_known key name held j i o there is.0 is.1))
self_made w j i o (Some key) (Client client) s held there is =
    let its = (s.locks.had j i o there).direct key is.1 in
    let had = s.locks.keys_direct key o.client its in
    let same = s.locks.apart.direct j i had.at had.place o had.owner key there had.there is.1 had.has in
    let e = locked key (Client client) in
    let there_too = subst (λ (c : List ℕ). IsIn (locked key (Client c)) had.owner.past) is.0 had.began in
    subst (λ (n : ℕ). HasDone (participants past_of w) n i e) (sym same.0)
    (subst (λ (n : ℕ). HasDone (participants past_of w) had.at n e) (sym same.1) (had.owner.past, past_there w.actors had.at had.place had.owner had.there, there_too))
self_made w j i o None (Client client) s held there is = absurd is

-- a key of a name that nobody has is the undecided prepare's, or somebody locked it, and the prepare came behind the opening
left_key : (w : World) (key : Option (List ℕ)) (name : List ℕ) (p : ℕ) → named w.writes.history name ≡ Some p → IsHolder w key (Txn name) → IsSound w → HasKeyAt w.writes.history p key ⊎ ((length w.opened < p) × IsLockedFor (participants past_of w) name key)
left_key w None name p is held s = inl tt
left_key w (Some key) name p is held s = ⊎_elim
    (λ (changed : is_changed (batch_at w.writes.history p) key ≡ true). inl changed)
    (λ (was : (length w.opened < p) × WasLockedFor (participants owner_of w) name key). inr (was.0, locked_past w name key was.1)) (s.locks.beyond key name p is held)

accounts : (w : World) (by : ℕ) (a : Actor) (key : Option (List ℕ)) (holder : Holder) (account : Account) → get_elem? w.actors by ≡ some a → IsHolder w key holder → IsSound w → Accounts w by a key holder account → IsAccounted w.opened w.writes.history (participants past_of w) by 0 key holder (length a.participant.seen) account
accounts w by a key holder own at is s k = self_made w by 0 (owner_of a.participant) key holder s is (mine owner_of w.actors by a a at refl) k
accounts w by a key holder another at is s k = (k.at, k.place, k.apart, self_made w k.at k.place k.participant key holder s is k.there k.is)
accounts w by a key (Txn name) (prepare_at n) at is s k =
    let seen = s.seen by 0 a.participant.seen (mine seen_of w.actors by a a at refl) in
    let few : length a.participant.seen ≤ length w.writes.history = rw seen.1 (rw (length-append a.participant.seen seen.0) (omega arith)) in
    let whole : take n w.writes.history ≡ w.writes.history = ap (λ (m : ℕ). take m w.writes.history) k.0 ∙ take-length w.writes.history in
    let p = some_there (named w.writes.history name) (s.locks.names_left name k.1) in
    let from = subst (λ (m : ℕ). length a.participant.seen ≤ m) (sym k.0) few in
    let within = subst (λ (m : ℕ). m ≤ length w.writes.history) (sym k.0) (omega arith) in
    ⊎_elim
    (λ (has : HasKeyAt w.writes.history p.0 key). inl (from, within, subst (λ (h : List Entry). (q : ℕ) × (named h name ≡ Some q) × HasKeyAt h q key) (sym whole) (p.0, p.1, has)))
    (λ (locks : (length w.opened < p.0) × IsLockedFor (participants past_of w) name key).
    inr ((from, within, subst (λ (h : List Entry). (q : ℕ) × (length w.opened < q) × (named h name ≡ Some q)) (sym whole) (p.0, locks.0, p.1)), locks.1))
    (left_key w key name p.0 p.1 is s)
accounts w by a key (Client client) (prepare_at n) at is s k = absurd k

pub finds_holder : (w : World) (by : ℕ) (a : Actor) (key : Option (List ℕ)) (holder : Holder) (account : Account) → get_elem? w.actors by ≡ some a → Needs w by a (find_holder key holder account) → IsSound w
    → IsSound (done w by (forgets w.writes.history (length w.cache) (find_holder key holder account) a) (find_holder key holder account))
finds_holder w by a key holder account at needs s =
    with_events w by a (found key holder (length a.participant.seen) account) (find_holder key holder account) at (holder_lives w by a locks_turn at needs.0 s)
    (accounts w by a key holder account at needs.1 s needs.2) s
