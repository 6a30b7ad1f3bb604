-- The newest versions of a key that lie behind the store turn show its value at a snapshot of the seat's.
use Rattle.std.proofs.Common.{◌≡◌, inl, inr, ⊎_elim, ℕ, ◌+◌, ◌<◌, ◌≤◌, ◌==◌, true, List, [], ◌∷◌, ◌++◌, length, take, drop, min, refl, sym, subst, ap, ◌∙◌, Option, Some, None, append_assoc, length-append, arith}
use Rattle.std.specs.Prelude.{Result, Ok, Err, IfOk}
use Rattle.std.specs.Option.{option_map}
use Rattle.std.proofs.lemmas.Bool.{cases_lt, or_right}
use Rattle.std.proofs.lemmas.List.{take-append-drop, take-append-le, take_all, length-take}
use Rattle.wp_model.specs.declared.entry.Entry.{Entry}
use Rattle.wp_model.specs.declared.entry.Entry.TheVariants.{Write, Prepare, Commit, Undo, Close}
use Rattle.wp_model.specs.declared.version.Version.{Version}
use Rattle.wp_model.specs.Covered.{GivesNewest, GivesNone, GivesStore, is_among}
use Rattle.wp_model.specs.Decision.{decision_of, IsCommittedAt, version_in, entry_version}
use Rattle.wp_model.specs.History.{entry_at, newest, value_at}
use Rattle.wp_model.specs.Legal.{IsLegal}
use Rattle.wp_model.specs.Versions.{version_at}
use Rattle.wp_model.proofs.Entries.{entry_at_old}
use Rattle.wp_model.proofs.Tests.{some_none, none_some}
use Rattle.wp_core.specs.Lists.{IsIn}
use Rattle.wp_core.specs.Reading.{Registration}
use Rattle.wp_core.specs.Sound.Snapshots.{has_versions}
use Rattle.wp_core.specs.States.{StoreState, live_numbers, up_to, all_in}
use Rattle.wp_core.specs.World.{World}
use Rattle.wp_core.proofs.HistoryLaws.{decided_late, decision_stays}
use Rattle.wp_core.proofs.PublishesVersions.{up_to_within, up_to_past}
use Rattle.wp_core.proofs.Registered.{registered_live}
use Rattle.wp_core.proofs.SnapshotsStep.{among_live}
use Rattle.wp_merge.specs.Merge.{sorted_of}
use Rattle.wp_merge.proofs.Sorted.{in_order_sorted, at_sorted}
use Rattle.wp_rule.specs.Words.{IsAt}
use Rattle.wp_rule.proofs.Knows.{at_sound, seen_is}
use Rattle.wp_store.specs.Store.{of_key, newest_of}
use Rattle.wp_parts.specs.Stock.{StockState, store_state}
use Rattle.wp_shared.specs.Seats.{SharedState, SeatState, Stands, place_at}
use Rattle.wp_read.specs.Rows.{IsRowOf}
use Rattle.wp_read.specs.Values.{AreOfKey, AreVersions, NoneCommitted, ShowsValue}
use Rattle.wp_read.proofs.Readings.{right_before, registered_low}
use Rattle.wp_read.proofs.Versions.{Descends, in_front, descends, at_of_key, in_store, first_shows, none_shows}

-- who has a version has versions
pub versions_of : (o : Option Entry) (key : List ℕ) (value : Option (List ℕ)) → version_in o key ≡ Some value → has_versions o ≡ true
versions_of None key value e = absurd cc
versions_of (Some (Write batch)) key value e = refl
versions_of (Some (Prepare name batch)) key value e = refl
versions_of (Some (Undo p batch)) key value e = refl
versions_of (Some (Commit p)) key value e = absurd cc
versions_of (Some (Close p)) key value e = absurd cc

module _ {D : Type 0} (z : SharedState D) (s : SeatState) (w : World) (key : List ℕ) (r : Registration) (most : ℕ) (k : IsAt (place_at z s.by) s.knows w) (mine : IsIn r s.knows.participant.registered) where
  abbrev seen : List Entry
  seen = s.knows.participant.seen

  abbrev whole : List Entry
  whole = w.writes.history

  abbrev all : List Version
  all = all_in w.store

  abbrev of_it : List Version
  of_it = of_key key (sorted_of all)

  abbrev rest : List Entry
  rest = (seen_is (place_at z s.by) s.knows w k).0

  grown : whole ≡ seen ++ rest
  grown = (seen_is (place_at z s.by) s.knows w k).1

  legal : IsLegal whole
  legal = (at_sound (place_at z s.by) s.knows w k).history.legal

  low_seen : r.number ≤ length seen
  low_seen = registered_low (place_at z s.by) s.knows w r k mine

  low : r.number ≤ length whole
  low = let l : length whole ≡ length seen + length rest = ap length grown ∙ length-append seen rest in let m = low_seen in omega arith

  live : is_among (live_numbers w.snapshots) r.number ≡ true
  live = among_live w.snapshots r.number ∙ (registered_live whole w.snapshots w.actors s.by s.knows r k.there mine (at_sound (place_at z s.by) s.knows w k).registrations).0

  gives : GivesStore (up_to (length whole) all) whole key r.number
  gives = (at_sound (place_at z s.by) s.knows w k).versions.covered.listed key r.number (or_right (w.first_edit.segment.base == r.number) (is_among (live_numbers w.snapshots) r.number) live)

  each : (p : ℕ) → version_at of_it key p ≡ version_at all key p
  each p = at_of_key key p (sorted_of all) ∙ at_sorted all key p

  in_turn : Descends key of_it
  in_turn = descends key (sorted_of all) (in_order_sorted all)

  committed_on : (p : ℕ) → IsCommittedAt seen p r.number → IsCommittedAt whole p r.number
  committed_on p c = record { by = c.by; decided = subst (λ (x : List Entry). decision_of x p ≡ Some c.by) (sym grown) (decision_stays seen rest p c.by c.decided); within = c.within }

  committed_back : (p : ℕ) → IsCommittedAt whole p r.number → IsCommittedAt seen p r.number
  committed_back p c = right_before seen rest p r.number true (subst IsLegal grown legal) low_seen (subst (λ (x : List Entry). IsCommittedAt x p r.number) grown c)

  below : (p : ℕ) → IsCommittedAt whole p r.number → p ≤ r.number
  below p c = let late = decided_late whole p c.by legal c.decided in let within = c.within in omega arith

  same_value : value_at whole key r.number ≡ value_at seen key r.number
  same_value = ap (λ (x : List Entry). value_at x key r.number) grown ∙ ap (λ (x : List Entry). newest x key) (take-append-le r.number seen rest low_seen)

  cut : of_it ≡ take most of_it ++ drop most of_it
  cut = sym (take-append-drop most of_it)

  in_all : (v : Version) → IsIn v (take most of_it) → IsIn v of_it
  in_all v there = subst (IsIn v) (sym cut) (in_front v (take most of_it) (drop most of_it) there)

  version_seen : (v : Version) → IsIn v (take most of_it) → v.number ≤ r.number → entry_version seen v.number key ≡ Some v.value
  version_seen v there le =
      let stored = in_store whole key r.number all of_it each in_turn low gives v (in_all v there) le in
      let is : entry_version whole v.number key ≡ Some v.value = (at_sound (place_at z s.by) s.knows w k).versions.covered.part key v.number v.value stored in
      let within : v.number ≤ length seen = (let m = low_seen in omega arith) in
      ap (λ (o : Option Entry). version_in o key) (sym (ap (λ (x : List Entry). entry_at x v.number) grown ∙ entry_at_old seen rest v.number within)) ∙ is

  all_taken : length (take most of_it) < most → take most of_it ≡ of_it
  all_taken short = let l : length (take most of_it) ≡ min most (length of_it) = length-take most of_it in take_all most of_it (omega arith)

  pub shows_value : ShowsValue seen key r.number most (take most of_it)
  shows_value = record {
    are = version_seen;
    none_later = λ p past c. (let le = below p (committed_on p c) in absurd (omega arith));
    first = λ front back v are none c.
        first_shows whole key r.number all of_it each in_turn low gives front (back ++ drop most of_it) v (cut ∙ (ap (λ x. x ++ drop most of_it) are ∙ append_assoc front (v ∷ back) (drop most of_it)))
        (λ u there d. none u there (committed_back u.number d)) (committed_on v.number c) (below v.number (committed_on v.number c)) ∙ same_value;
    none = λ short none.
        sym same_value ∙ none_shows whole key r.number all of_it each in_turn low gives (λ u there d. none u (subst (IsIn u) (sym (all_taken short)) there) (committed_back u.number d));
  }

  -- who has a value has a version
  pub has_version : (value : List ℕ) → value_at seen key r.number ≡ Some value → (p : ℕ) × (x : Option (List ℕ)) × (version_at all key p ≡ Some x)
  has_version value is = ⊎_elim
      (λ (g : GivesNewest (up_to (length whole) all) whole key r.number). (g.number, g.value, there g.number g.value g.there))
      (λ (g : GivesNone (up_to (length whole) all) whole key r.number). absurd (some_none value (sym (same_value ∙ is) ∙ g.missing))) gives
    where
      there : (p : ℕ) (x : Option (List ℕ)) → version_at (up_to (length whole) all) key p ≡ Some x → version_at all key p ≡ Some x
      there p x e = ⊎_elim
          (λ (past : length whole < p). absurd (none_some (version_at (up_to (length whole) all) key p) x (up_to_past (length whole) all key p past) e))
          (λ (within : p ≤ length whole). sym (up_to_within (length whole) all key p within) ∙ e) (cases_lt (length whole) p)

pub have_versions : (history : List Entry) (key : List ℕ) (n : ℕ) (found : List Version) → AreOfKey history key n found → AreVersions history n found
have_versions history key n found are v there le = versions_of (entry_at history v.number) key v.value (are v there le)

-- the first of the versions that is committed has the key's row, or the key has none
pub row_shown : (history : List Entry) (key : List ℕ) (n most : ℕ) (found front back : List Version) (v : Version) → ShowsValue history key n most found → found ≡ front ++ v ∷ back → NoneCommitted history n front → IsCommittedAt history v.number n
    → IsRowOf history key n (option_map (λ value. (v.number, value)) v.value)
row_shown history key n most found front back v shows are none committed = by v.value refl
  where
    in_middle : (xs : List Version) → IsIn v (xs ++ v ∷ back)
    in_middle [] = inl refl
    in_middle (x ∷ xs) = inr (in_middle xs)

    low : v.number ≤ n
    low = ⊎_elim (λ (past : n < v.number). absurd (shows.none_later v.number past committed)) (λ (le : v.number ≤ n). le) (cases_lt n v.number)

    by : (o : Option (List ℕ)) → v.value ≡ o → IsRowOf history key n (option_map (λ value. (v.number, value)) o)
    by None e = sym (shows.first front back v are none committed) ∙ e
    by (Some value) e = record {
      committed = committed;
      version = shows.are v (subst (IsIn v) (sym are) (in_middle front)) low ∙ ap (λ (x : Option (List ℕ)). Some x) e;
      stored = sym (shows.first front back v are none committed) ∙ e;
    }

-- the value of a row is what the store has there
pub row_value : (history : List Entry) (key : List ℕ) (n : ℕ) (row : Option (ℕ × List ℕ)) → IsRowOf history key n row → option_map (λ row. row.1) row ≡ value_at history key n
row_value history key n None is = sym is
row_value history key n (Some row) is = sym is.stored

-- what was copied under the store turn shows it
pub copies_show : {D E : Type 0} (z : SharedState D) (s : SeatState) (stock : StockState) (key : List ℕ) (most : ℕ) (result : Result (List Version) E) → (w : World) × Stands z s w × (w.store ≡ store_state stock) → IfOk result (λ found. found ≡ newest_of most key (sorted_of (all_in (store_state stock))))
    → IfOk result (λ found. (r : Registration) → IsIn r s.knows.participant.registered → ShowsValue s.knows.participant.seen key r.number most found)
copies_show z s stock key most (Ok found) took is = λ (r : Registration) (mine : IsIn r s.knows.participant.registered).
    subst (ShowsValue s.knows.participant.seen key r.number most) (ap (λ (x : StoreState). newest_of most key (sorted_of (all_in x))) took.2 ∙ sym is) (shows_value z s took.0 key r most took.1 mine)
copies_show z s stock key most (Err error) took is = is
