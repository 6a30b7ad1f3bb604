-- The pending entry joins the history: registrations, what readers know, and what they concluded.
use Rattle.std.proofs.Common.{◌≡◌, ℕ, ◌≤◌, ◌==◌, eq-eqb, Bool, true, false, List, [], ◌∷◌, ◌++◌, length, map, refl, sym, subst, ap, ◌∙◌, Option, Some, arith}
use mathlib.Core.Option.{some}
use lib.ListN.{get_elem?}
use Rattle.std.specs.Ordering.{nat_cmp}
use Rattle.std.specs.FinMap as finite
use Rattle.wp_model.specs.declared.entry.Entry.{Entry}
use Rattle.wp_model.specs.Legal.{IsLegal}
use Rattle.wp_model.specs.Snapshots.{Snapshots}
use Rattle.wp_judge.specs.declared.observed.Observed.{Observed}
use Rattle.wp_model.proofs.Entries.{entry_at_old}
use Rattle.wp_core.specs.Lists.{IsIn, one_if, total}
use Rattle.wp_core.specs.Reading.{Registration, snapshot_of}
use Rattle.wp_core.specs.World.{Actor}
use Rattle.wp_core.specs.Sound.Actors.{IsParticipantAt, participants_of}
use Rattle.wp_core.specs.Sound.Snapshots.{has_versions, has_versions_at, registered_of, IsBelowCommitted, AreRegistered}
use Rattle.wp_core.specs.Sound.Reader.{ReaderKnows, AreReaders, IsPassedBy, IsReachedBy, IsRight, AreJudged, reader_of}
use Rattle.wp_core.proofs.HistoryGrows.{committed_old, committed_stays, grown_length}
use Rattle.wp_core.proofs.HistoryLaws.{decision_stays}
use Rattle.wp_core.proofs.KeepsRemembered.{from_map}
use Rattle.wp_core.proofs.Registered.{total_at, some_counted, registered_live}

-- a registered number is at most the published one
pub number_within : (history : List Entry) (snapshots : Snapshots) (registered : List (List (List Registration))) (j i k : ℕ) (rs : List Registration) (r : Registration) → AreRegistered history snapshots registered → IsParticipantAt registered j i rs → get_elem? rs k ≡ some r → r.number ≤ length history
number_within history snapshots registered j i k rs r are (ps, there, mine) at =
    let f : Registration → ℕ = λ x. one_if (x.number == r.number) in
    let one : f r ≡ 1 = ap one_if (eq-eqb r.number r.number refl) in
    let a = total_at f rs k r at in
    let b = total_at (total f) ps i rs mine in
    let c = total_at (total (total f)) registered j ps there in
    let count = are.counted r.number in
    let x = some_counted _ (let d : 1 ≤ total (total (total f)) registered = omega (arith, one, a, b, c) in subst (λ (m : ℕ). 1 ≤ m) (sym count) d) in
    (are.live r.number x.0 x.1).1

module _ (history : List Entry) (entry : Entry) (legal : IsLegal (history ++ entry ∷ [])) where
  abbrev grown : List Entry
  grown = history ++ entry ∷ []

  versions_old : (p : ℕ) → p ≤ length history → has_versions_at grown p ≡ has_versions_at history p
  versions_old p le = ap has_versions (entry_at_old history (entry ∷ []) p le)

  below_stays : (r : Registration) → r.number ≤ length history → IsBelowCommitted history r → IsBelowCommitted grown r
  below_stays r low k p lt le has = committed_stays history entry legal p r.number r.number (omega arith) (k p lt le (sym (versions_old p (omega (arith, le, low))) ∙ has))

  pub registered_part : (snapshots : Snapshots) (registered : List (List (List Registration))) → AreRegistered history snapshots registered → AreRegistered grown snapshots registered
  registered_part snapshots registered k = record {
    counted = k.counted;
    live = λ s x e. let o = k.live s x e in let low = o.1 in let l = grown_length history entry legal in (o.0, omega (arith, low, l));
    smallest = λ j i rs there n r at. below_stays r (number_within history snapshots registered j i n rs r k there at) (k.smallest j i rs there n r at);
  }

  -- ---- readers

  passed_stays : (max : ℕ) (cache : List ℕ) (p : ℕ) → IsPassedBy history max cache p → IsPassedBy grown max cache p
  passed_stays max cache p k = record { by = k.by; decided = decision_stays history (entry ∷ []) p k.by k.decided; within = k.within; gone = k.gone }

  reached_stays : (max : ℕ) (cache : List ℕ) (commits : finite.FinMap nat_cmp ℕ) (p : ℕ) → IsReachedBy history max cache commits p → IsReachedBy grown max cache commits p
  reached_stays max cache commits p k = record { by = k.by; decided = decision_stays history (entry ∷ []) p k.by k.decided; reached = k.reached; elsewhere = k.elsewhere; gone = k.gone }

  knows_stays : (max : ℕ) (cache : List ℕ) (commits : finite.FinMap nat_cmp ℕ) (snapshots : Snapshots) (r : Observed) → r.version ≤ r.snapshot → r.snapshot ≤ length history → ReaderKnows history max cache commits snapshots r → ReaderKnows grown max cache commits snapshots r
  knows_stays max cache commits snapshots r le low k = record {
    version = versions_old r.version (omega (arith, le, low)) ∙ k.version;
    first_word = λ word e other is. reached_stays max cache commits r.version (k.first_word word e other (committed_old history entry legal r.version r.snapshot low is));
    first_max = k.first_max;
    not_in_prepared = λ n. let o = k.not_in_prepared n in (o.0, decision_stays history (entry ∷ []) r.version o.0 o.1, o.2);
    second_word = λ word e other. passed_stays max cache r.version (k.second_word word e other);
    second_max = λ m e. let o = k.second_max m e in (o.0, decision_stays history (entry ∷ []) r.version o.0 o.1, o.2);
  }

  right_stays : (p s : ℕ) (visible : Bool) → s ≤ length history → IsRight history p s visible → IsRight grown p s visible
  right_stays p s true low k = committed_stays history entry legal p s s (omega arith) k
  right_stays p s false low k = λ is. k (committed_old history entry legal p s low is)

  module _ (snapshots : Snapshots) (max : ℕ) (cache : List ℕ) (commits : finite.FinMap nat_cmp ℕ) (actors : List Actor) (registered : AreRegistered history snapshots (map (participants_of registered_of) actors)) (readers : AreReaders history max cache commits snapshots (map reader_of actors)) where
    snapshot_within : (j : ℕ) (x : List Registration × Option Observed) (r : Observed) → get_elem? (map reader_of actors) j ≡ some x → x.1 ≡ Some r → r.snapshot ≤ length history
    snapshot_within j x r there reads =
        let b = from_map reader_of actors j x there in
        let at : IsIn (snapshot_of r) b.0.participant.registered = subst (IsIn (snapshot_of r)) (sym (ap (λ (z : List Registration × Option Observed). z.0) b.2)) (readers j x there r reads).registered_at in
        (registered_live history snapshots actors j b.0 (snapshot_of r) b.1 at registered).1

    pub readers_part : AreReaders grown max cache commits snapshots (map reader_of actors)
    readers_part j x there r reads =
        let k = readers j x there r reads in
        record { words = k.words; registered_at = k.registered_at; in_order = k.in_order; knows = λ le. knows_stays max cache commits snapshots r le (snapshot_within j x r there reads) (k.knows le) }

    pub judged_part : AreJudged history (map reader_of actors) → AreJudged grown (map reader_of actors)
    judged_part judged j x there r visible reads is = right_stays r.version r.snapshot visible (snapshot_within j x r there reads) (judged j x there r visible reads is)
