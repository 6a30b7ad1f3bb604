-- A reader begins and ends soundly.
use Rattle.std.proofs.Common.{◌≡◌, ℕ, ◌≤◌, true, length, refl, subst, ap, ◌∙◌, Some, None, Bool, ⊎_elim, ◌<◌, suc, nat_lt, false, not, cond, List, [], ◌∷◌, filter, arith, sym}
use mathlib.Core.Option.{some}
use lib.ListN.{get_elem?}
use Rattle.wp_judge.specs.declared.observed.Observed.{Observed}
use Rattle.wp_judge.specs.Order.{judgement, answer_of}
use Rattle.wp_core.specs.Lists.{IsIn}
use Rattle.wp_core.specs.Reading.{Registration, reads}
use Rattle.wp_core.specs.Views.{Fact}
use Rattle.wp_core.specs.World.{Actor, Participant, World}
use Rattle.wp_core.specs.Steps.{begin_reading, end_reading}
use Rattle.wp_core.specs.Effects.{done}
use Rattle.wp_core.specs.Needs.{Needs}
use Rattle.wp_core.specs.Notes.{forgets, ends}
use Rattle.wp_core.specs.Sound.Reader.{IsReader, IsRight}
use Rattle.wp_core.specs.Sound.Snapshots.{registered_of, has_versions_at, IsBelowCommitted}
use Rattle.wp_core.specs.Sound.Actors.{participants_of}
use Rattle.wp_core.specs.IsSound.{IsSound}
use Rattle.wp_model.specs.Decision.{IsCommittedAt}
use Rattle.wp_judge.specs.declared.observed.Load.TheVariants.{FirstWord}
use Rattle.wp_judge.specs.declared.observed.Asked.TheVariants.{Load, Answer}
use Rattle.std.proofs.lemmas.Bool.Decides.{nat_tests}
use Rattle.wp_core.proofs.Frames.{at_map}
use Rattle.wp_core.proofs.HistoryLaws.{decided_late}
use Rattle.wp_core.proofs.Looks.{leaves_most, looks}
use Rattle.wp_model.proofs.Tests.{same_some, some_none}

pub in_at : {X : Type 0} (x : X) (xs : List X) → IsIn x xs → (i : ℕ) × (get_elem? xs i ≡ some x)
in_at x [] there = absurd there
in_at x (y ∷ ys) there = ⊎_elim (λ (e : y ≡ x). (0, ap some e)) (λ (k : IsIn x ys). let t = in_at x ys k in (suc t.0, t.1)) there

-- what is below a snapshot's smallest is committed there
pub below_smallest : (w : World) (by : ℕ) (a : Actor) (r : Registration) → get_elem? w.actors by ≡ some a → IsIn r a.participant.registered → IsSound w → IsBelowCommitted w.writes.history r
below_smallest w by a r at there s =
    let k = in_at r a.participant.registered there in
    s.registrations.smallest by 0 a.participant.registered (participants_of registered_of a, at_map (participants_of registered_of) w.actors by a at, refl) k.0 r k.1

no_answer_yet : (b visible : Bool) → answer_of (cond b (Answer true) (Load FirstWord)) ≡ Some visible → (b ≡ true) × (true ≡ visible)
no_answer_yet true visible e = (refl, same_some true visible e)
no_answer_yet false visible e = let no : None ≡ Some visible = e in absurd (cc)

by_snapshot : (w : World) (by : ℕ) (a : Actor) (p : ℕ) (r : Registration) (visible b : Bool) → get_elem? w.actors by ≡ some a → IsIn r a.participant.registered → (p ≤ r.number → has_versions_at w.writes.history p ≡ true) → IsSound w → nat_lt r.number p ≡ b
    → answer_of (cond b (Answer false) (cond (nat_lt p r.smallest) (Answer true) (Load FirstWord))) ≡ Some visible → IsRight w.writes.history p r.number visible
by_snapshot w by a p r visible true at there has s above e =
    subst (IsRight w.writes.history p r.number) (same_some false visible e)
    (λ (is : IsCommittedAt w.writes.history p r.number). let late = decided_late w.writes.history p is.by s.history.legal is.decided in let within = is.within in let lt : r.number < p = grind (arith, nat_tests) in absurd (omega arith))
by_snapshot w by a p r visible false at there has s above e =
    let low : p ≤ r.number = grind (arith, nat_tests) in
    let k = no_answer_yet (nat_lt p r.smallest) visible e in
    let test : nat_lt p r.smallest ≡ true = k.0 in
    let below : p < r.smallest = grind (arith, nat_tests) in
    subst (IsRight w.writes.history p r.number) k.1 (below_smallest w by a r at there s p below low (has low))

pub begins_reading : (w : World) (by : ℕ) (a : Actor) (bits p : ℕ) (snapshot : Registration) → get_elem? w.actors by ≡ some a → Needs w by a (begin_reading bits p snapshot) → IsSound w → IsSound (done w by (forgets w.writes.history (length w.cache) (begin_reading bits p snapshot) a) (begin_reading bits p snapshot))
begins_reading w by a bits p snapshot at n s =
    let test : Fact → Bool = λ f. not (ends w.writes.history (length w.cache) (begin_reading bits p snapshot) f) in
    let b : Actor = record a { reading = Some (reads bits p snapshot); notes = filter test a.notes } in
    looks w by a b at (leaves_most w a (Some (reads bits p snapshot)) test)
    record {
      knows = λ r e. subst (IsReader w.writes.history w.max_evicted w.cache w.prepared.delayed_commits w.snapshots a.participant.registered) (same_some (reads bits p snapshot) r e)
          record {
            words = n.0;
            registered_at = n.1;
            in_order = record { first_max = λ _. refl; delayed_flag = λ _. refl; in_prepared = λ _. refl; second_word = λ _. refl; looked = λ flag is raised none. refl; second_max = λ _. refl; old_flag = λ _. refl; is_old_commit = λ _. refl };
            knows = λ low. record {
              version = n.2 low;
              first_word = λ word is another committed. absurd (some_none word (sym is));
              first_max = λ m is. absurd (some_none m (sym is));
              not_in_prepared = λ k. absurd (some_none k.bound (sym k.loaded));
              second_word = λ word is another. absurd (some_none word (sym is));
              second_max = λ m is. absurd (some_none m (sym is));
            };
          };
      right = λ r visible e judged. let same = same_some (reads bits p snapshot) r e in
          subst (λ (x : Observed). IsRight w.writes.history x.version x.snapshot visible) same (by_snapshot w by a p snapshot visible (nat_lt snapshot.number p) at n.1 n.2 s refl (ap judgement same ∙ judged));
      idle = λ dead. let i = s.idle by a at dead in absurd (subst (IsIn snapshot) (ap (λ (z : Participant). z.registered) i.participant) n.1);
    } s

pub ends_reading : (w : World) (by : ℕ) (a : Actor) → get_elem? w.actors by ≡ some a → IsSound w → IsSound (done w by (forgets w.writes.history (length w.cache) end_reading a) end_reading)
ends_reading w by a at s =
    let test : Fact → Bool = λ f. not (ends w.writes.history (length w.cache) end_reading f) in
    let b : Actor = record a { reading = None; notes = filter test a.notes } in
    looks w by a b at (leaves_most w a None test)
    record {
      knows = λ r e. absurd (some_none r (sym e));
      right = λ r visible e judged. absurd (some_none r (sym e));
      idle = λ dead. let i = s.idle by a at dead in record { participant = i.participant; held = i.held; reading = refl; notes = ap (λ (z : List Fact). filter test z) i.notes };
    } s
