-- A step that changes the live snapshots, and of its actor what it saw, registered and reads, keeps a world sound, where no
-- old commit is lost at a live number and what is new is so.
use Rattle.std.proofs.Common.{◌≡◌, ◌≢◌, ◌⊎◌, inl, inr, ⊎_elim, ℕ, ◌<◌, ◌≤◌, ◌==◌, ◌||◌, eq-eqb, ne_eqb, Bool, true, List, [], ◌∷◌, length, map, set, refl, sym, subst, ap, ◌∙◌, Option, Some, is_some, arith}
use mathlib.Core.Option.{some}
use mathlib.Core.Logic.{dite}
use native.Mathlib.Decide.{ℕ_discrete}
use lib.ListN.{get_elem?}
use Rattle.std.specs.Cmp.{unsigned_tied}
use Rattle.std.proofs.lemmas.Bool.{or_cases, or_left, or_right}
use Rattle.std.specs.Ordering.{nat_cmp, eq_by_cmp}
use Rattle.std.specs.List.{list_any}
use Rattle.std.specs.FinMap as finite
use Rattle.std.specs.FinMap.Entries.{is_some-find}
use Rattle.wp_model.specs.declared.entry.Entry.{Entry}
use Rattle.wp_model.specs.Covered.{is_among}
use Rattle.wp_model.specs.Decision.{decision_of}
use Rattle.wp_model.specs.Snapshots.{Snapshots, IsLive, is_old_commit, NoOldCommits}
use Rattle.wp_judge.specs.Words.{commit_pair}
use Rattle.wp_judge.specs.declared.observed.Observed.{Observed}
use Rattle.wp_judge.specs.Order.{judgement}
use Rattle.wp_core.specs.Cache.{cached}
use Rattle.wp_core.specs.Lists.{IsIn}
use Rattle.wp_core.specs.Reading.{Registration, snapshot_of}
use Rattle.wp_core.specs.Turns.{Holds, snapshots_turn}
use Rattle.wp_core.specs.States.{Content, snapshots, live_numbers}
use Rattle.wp_core.specs.Views.{Fact, in_old_commits, live_listed}
use Rattle.wp_core.specs.World.{Participant, Actor, World, with_content}
use Rattle.wp_core.specs.Steps.{Step}
use Rattle.wp_core.specs.Changes.{held_with, change}
use Rattle.wp_core.specs.Notes.{forgets}
use Rattle.wp_core.specs.Sound.Actors.{StartsWith, seen_of, own_of, AreOwned, participants_of, learned_of}
use Rattle.wp_core.specs.Sound.Prepared.{AreDecided, IsPassed, IsEntered}
use Rattle.wp_core.specs.Sound.Snapshots.{registered_of, AreRegistered, view_of, HasSeen}
use Rattle.wp_core.specs.Sound.Store.{IsStored}
use Rattle.wp_core.specs.Sound.Reader.{IsReader, AnswersFor, IsRight, reader_of}
use Rattle.wp_core.specs.Sound.Views.{IsSo}
use Rattle.wp_core.specs.IsSound.{IsSound}
use Rattle.wp_core.proofs.Frames.{map_set, each_map_set, at_map, set_else, here}
use Rattle.wp_core.proofs.KeepsRemembered.{from_map}
use Rattle.wp_core.proofs.Registered.{registered_live}
use Rattle.wp_core.proofs.Participants.{each_person_set}
use Rattle.wp_core.proofs.HistoryLaws.{decision_within}
use Rattle.wp_core.proofs.Quiet.{idle_after}
use Rattle.wp_core.proofs.AllParts.{SoIn, all_parts, kept_part, locks_still, pasts_still, turns_changed, notes_stay, led_still}
use Rattle.wp_core.proofs.Gives.{not_free}

-- ---- live numbers

same_test : (n k : ℕ) → (k == n) ≡ eq_by_cmp nat_cmp n k
same_test n k = dite (ℕ_discrete n k) (λ (e : n ≡ k). eq-eqb k n (sym e) ∙ sym (unsigned_tied n k ∙ eq-eqb n k e)) (λ (ne : n ≢ k). ne_eqb k n (λ e. ne (sym e)) ∙ sym (unsigned_tied n k ∙ ne_eqb n k ne))

same_any : (n : ℕ) (ks : List ℕ) → list_any (λ k. k == n) ks ≡ list_any (eq_by_cmp nat_cmp n) ks
same_any n [] = refl
same_any n (k ∷ ks) = λ i. same_test n k i || same_any n ks i

-- a number is among the live ones exactly where it is live
pub among_live : (m : Snapshots) (n : ℕ) → is_among (live_numbers m) n ≡ is_some (finite.get m n)
among_live m n = same_any n (live_numbers m) ∙ (sym (is_some-find nat_cmp n (finite.entries m)) ∙ ap is_some (sym (finite.get-entries m n)))

-- ---- the snapshots after the step

-- Nothing live is lost but by the step, what is new is the published number, and no old commit is lost at a live number.
pub record SnapshotsGrow (history : List Entry) (old new : Snapshots) : Type 0 where
  pub live : (t : ℕ) → IsLive new t → IsLive old t ⊎ (t ≡ length history)
  pub stays : (t p : ℕ) → IsLive new t → is_old_commit old t p ≡ true → is_old_commit new t p ≡ true
  pub came : (t p : ℕ) → is_old_commit new t p ≡ true → (is_old_commit old t p ≡ true) ⊎ ((c : ℕ) × (decision_of history p ≡ Some c) × (p ≤ t) × (t < c))

module _ (w : World) (m : Snapshots) (s : IsSound w) (k : SnapshotsGrow w.writes.history w.snapshots m) where
  -- the old commit map has a version that is published where it must
  still_noted : (p c : ℕ) → c ≤ length w.writes.history → ((t : ℕ) → IsLive w.snapshots t → p ≤ t → t < c → is_old_commit w.snapshots t p ≡ true) → (t : ℕ) → IsLive m t → p ≤ t → t < c → is_old_commit m t p ≡ true
  still_noted p c published noted t live le lt =
      ⊎_elim (λ (was : IsLive w.snapshots t). k.stays t p live (noted t was le lt)) (λ (e : t ≡ length w.writes.history). absurd (omega (arith, e))) (k.live t live)

  pub decided_grows : AreDecided w.writes.history w.cache w.prepared.delayed_commits w.max_evicted m
  decided_grows = record {
    found = λ p c decided. ⊎_elim (λ (there : IsEntered w.cache w.prepared.delayed_commits w.max_evicted (commit_pair p c)). inl there) (λ (o : IsPassed w.max_evicted w.snapshots p c). inr (o.0, still_noted p c (decision_within w.writes.history p c decided) o.1)) (s.decided.found p c decided);
    kept = λ t p there. ⊎_elim (λ (was : is_old_commit w.snapshots t p ≡ true). s.decided.kept t p was) (λ (new : (c : ℕ) × (decision_of w.writes.history p ≡ Some c) × (p ≤ t) × (t < c)). new) (k.came t p there);
  }

  pub stored_grows : IsStored w.writes.history w.writes.pending w.first_edit.segment.base m w.store w.installed
  stored_grows =
      let o = s.versions in let c = o.covered in record {
        covered = record {
          part = c.part;
          undecided = c.undecided;
          undone = c.undone;
          listed = λ key n among. ⊎_elim
              (λ same. c.listed key n (or_left (w.first_edit.segment.base == n) (is_among (live_numbers w.snapshots) n) same))
              (λ there. ⊎_elim (λ (was : IsLive w.snapshots n). c.listed key n (or_right (w.first_edit.segment.base == n) (is_among (live_numbers w.snapshots) n) (among_live w.snapshots n ∙ was))) (λ (e : n ≡ length w.writes.history). c.later key n (subst (λ (x : ℕ). w.store.floor ≤ x) (sym e) o.floor) (omega (arith, e))) (k.live n (sym (among_live m n) ∙ there)))
              (or_cases (w.first_edit.segment.base == n) (is_among (live_numbers m) n) among);
          later = c.later;
        };
        based = o.based;
        floor = o.floor;
        next = o.next;
        tables = o.tables;
        last = o.last;
        failed = o.failed;
        in_memory = o.in_memory;
      }

  -- what the old commit map answered for it answers for still, at a live number
  pub answers_grow : (n p c : ℕ) → IsLive m n → AnswersFor w.max_evicted w.cache w.snapshots n p c → AnswersFor w.max_evicted w.cache m n p c
  answers_grow n p c live o =
      ⊎_elim (λ (there : cached w.cache p ≡ Some c). inl there) (λ (x : (c ≤ w.max_evicted) × (n < c → is_old_commit w.snapshots n p ≡ true)). inr (x.0, λ (lt : n < c). k.stays n p live (x.1 lt))) o

  pub reader_grows : (registered now : List Registration) (r : Observed) → IsLive m r.snapshot → IsIn (snapshot_of r) now → IsReader w.writes.history w.max_evicted w.cache w.prepared.delayed_commits w.snapshots registered r → IsReader w.writes.history w.max_evicted w.cache w.prepared.delayed_commits m now r
  reader_grows registered now r live there o = record {
    words = o.words;
    registered_at = there;
    in_order = o.in_order;
    knows = λ low. let x = o.knows low in record {
      version = x.version;
      first_word = x.first_word;
      first_max = x.first_max;
      not_in_prepared = λ n. let d = x.not_in_prepared n in (d.0, d.1, answers_grow r.snapshot r.version d.0 live d.2);
      second_word = x.second_word;
      second_max = x.second_max;
    };
  }

  pub so_grows : (p : Participant) (seen : List Entry) (registered : List Registration) (fact : Fact) → SoIn w p fact → IsSo w.delayed_flag w.old_flag w.max_evicted w.cache w.writes w.prepared m w.store w.locks w.installed (record p { seen = seen; registered = registered }) fact
  so_grows p seen registered (in_old_commits place pair) o = record { place_within = o.place_within; there = o.there; published_by = o.published_by; so = still_noted pair.number pair.decision o.published_by o.so }
  so_grows p seen registered (live_listed floor listed) o = (o.0, λ n live. ⊎_elim (λ (was : IsLive w.snapshots n). o.1 n was) (λ (e : n ≡ length w.writes.history). inr (subst (λ (x : ℕ). floor ≤ x) (sym e) o.0)) (k.live n live))
  so_grows p seen registered fact o = o

-- ---- the actor after the step

-- the actor with this seen, learned, registered and read
abbrev pub with_view : Actor → List Entry → List Entry → List Registration → Option Observed → Actor
with_view a seen learned registered reading = record a { participant = record a.participant { seen = seen; registered = registered }; learned = learned; reading = reading }

pub record ViewsGrow (w : World) (a : Actor) (m : Snapshots) (seen learned : List Entry) (registered : List Registration) (reading : Option Observed) : Type 0 where
  pub seen_part : StartsWith w.writes.history seen
  pub learned_part : StartsWith w.writes.history learned
  pub view_part : HasSeen (seen, registered)
  pub reads : (r : Observed) → reading ≡ Some r → (a.reading ≡ Some r) × IsIn (snapshot_of r) registered
  pub none_kept : w.old_flag ≡ 0 → NoOldCommits m

pub snapshots_step : (w : World) (by : ℕ) (a : Actor) (step : Step) (m : Snapshots) (seen learned : List Entry) (registered : List Registration) (reading : Option Observed)
    → get_elem? w.actors by ≡ some a → Holds w.holders snapshots_turn by → SnapshotsGrow w.writes.history w.snapshots m → ViewsGrow w a m seen learned registered reading
    → AreRegistered w.writes.history m (map (participants_of registered_of) (set w.actors by (with_view a seen learned registered reading))) → IsSound w
    → IsSound (change w by (with_view (forgets w.writes.history (length w.cache) step a) seen learned registered reading) (snapshots m))
snapshots_step w by a step m seen learned registered reading at holds grows views counted s =
    let e : Content = snapshots m in
    let c : Actor = with_view (forgets w.writes.history (length w.cache) step a) seen learned registered reading in
    let b : Actor = record c { held = held_with c.held e } in
    let now : Actor = with_view a seen learned registered reading in
    let reader = s.readers by (reader_of a) (at_map reader_of w.actors by a at) in
    let judged = s.judged by (reader_of a) (at_map reader_of w.actors by a at) in
    let so : Participant → Fact → Type 0 = IsSo w.delayed_flag w.old_flag w.max_evicted w.cache w.writes w.prepared m w.store w.locks w.installed in
    all_parts (with_content w e) (set w.actors by b) (record {
      history = s.history;
      cache = s.cache;
      decided = decided_grows w m s grows;
      undecided = s.undecided;
      delayed = s.delayed;
      flags = record { none_delayed = s.flags.none_delayed; none_kept = views.none_kept; delayed_free = s.flags.delayed_free; old_free = λ free. absurd (not_free w.holders snapshots_turn by holds free) };
      versions = stored_grows w m s grows;
      in_step = s.in_step;
      coupled = s.coupled;
      pending = s.pending;
    })
    (record {
      seen = each_person_set seen_of (StartsWith w.writes.history) w.actors by a b at views.seen_part refl s.seen;
      learned = each_map_set learned_of (λ j entries. StartsWith w.writes.history entries) w.actors by b views.learned_part (λ j x ne there. s.learned j x there);
      owned = kept_part w by a b at (participants_of own_of) (AreOwned w.opened w.writes.history) refl s.owned;
      registrations = subst (AreRegistered w.writes.history m) (map_set (participants_of registered_of) w.actors by (with_view a seen learned registered reading) ∙ sym (map_set (participants_of registered_of) w.actors by b)) counted;
      from_base = λ t live. ⊎_elim (λ old. s.from_base t old) (λ (new : t ≡ length w.writes.history). let based = s.versions.based in let flushed = s.versions.last.flushed in omega (arith, based, flushed, new)) (grows.live t live);
      viewed = each_person_set view_of HasSeen w.actors by a b at views.view_part refl s.viewed;
    })
    (locks_still w by a b at refl s) (pasts_still w by a b at refl s) (turns_changed w by a b at e holds refl s)
    (record {
      readers = each_map_set reader_of (λ j x. (r : Observed) → x.1 ≡ Some r → IsReader w.writes.history w.max_evicted w.cache w.prepared.delayed_commits m x.0 r) w.actors by b
          (λ r is. let v = views.reads r is in
          let live = (registered_live w.writes.history m (set w.actors by now) by now (snapshot_of r) (here w.actors by a now at) v.1 counted).0 in
          reader_grows w m s grows a.participant.registered registered r live v.1 (reader r v.0))
          (λ j x ne there r is.
          let o = from_map reader_of w.actors j x there in let k = s.readers j x there r is in
          let mine : IsIn (snapshot_of r) o.0.participant.registered = subst (IsIn (snapshot_of r)) (sym (ap (λ (z : List Registration × Option Observed). z.0) o.2)) k.registered_at in
          let live = (registered_live w.writes.history m (set w.actors by now) j o.0 (snapshot_of r) (set_else w.actors by j now ne ∙ o.1) mine counted).0 in
          reader_grows w m s grows x.0 x.0 r live k.registered_at k);
      judged = each_map_set reader_of (λ j x. (r : Observed) (visible : Bool) → x.1 ≡ Some r → judgement r ≡ Some visible → IsRight w.writes.history r.version r.snapshot visible) w.actors by b
          (λ r visible is. judged r visible (views.reads r is).0) (λ j x ne there. s.judged j x there);
    })
    (notes_stay w by a b at step w.holders so refl (λ fact left o. record { guarded = o.guarded; is_so = so_grows w m s grows a.participant seen registered fact o.is_so }) (λ j x fact ne there o. record { guarded = o.guarded; is_so = so_grows w m s grows x.0 x.0.seen x.0.registered fact o.is_so }) s)
    (led_still w by a b at refl s) (idle_after w by a b snapshots_turn at holds s refl)
