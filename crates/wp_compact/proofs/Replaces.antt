-- The table that is left is put in place of all.
use Rattle.std.proofs.Common.{◌≡◌, ◌⊎◌, ⊎_elim, inl, inr, ℕ, zero, suc, ◌≤◌, ◌==◌, ◌||◌, eq-eqb, Bool, true, false, List, [], ◌∷◌, ◌++◌, length, take, drop, refl, sym, subst, ap, ◌∙◌, arith}
use Rattle.std.proofs.lemmas.Bool.{eqb-true, or_cases, or_left, or_right}
use Rattle.std.proofs.lemmas.List.{take-append-drop}
use Rattle.std.proofs.lemmas.List.Folds.{list_any-append}
use Rattle.std.specs.List.{list_all}
use Rattle.wp_model.specs.declared.entry.Entry.{Entry}
use Rattle.wp_model.specs.declared.version.Version.{Version}
use Rattle.wp_model.specs.Covered.{is_among}
use Rattle.wp_model.specs.Decision.{is_committed}
use Rattle.wp_model.specs.Flushed.{InstalledEdit, IsEditCovered}
use Rattle.wp_model.specs.Snapshots.{IsLive}
use Rattle.wp_keep.specs.Keep.{retained_of}
use Rattle.wp_history_laws.proofs.Listed.{only_listed}
use Rattle.wp_replies.specs.Tables.{listed, retained, after_compaction}
use Rattle.wp_table.specs.Table.{is_flushed}
use Rattle.wp_core.specs.Conditions.{KeepsStore}
use Rattle.wp_core.specs.IsSound.{IsSound}
use Rattle.wp_core.specs.Lists.{IsIn}
use Rattle.wp_core.specs.Reading.{Registration}
use Rattle.wp_core.specs.Sound.Actors.{StartsWith}
use Rattle.wp_core.specs.Sound.Store.{NoneFlushed}
use Rattle.wp_core.specs.States.{StoreState, Installed, store, installed}
use Rattle.wp_core.specs.Views.{Fact, tables_stay, live_listed, nothing_flushed}
use Rattle.wp_core.specs.World.{Participant, Actor, World}
use Rattle.wp_model.proofs.Tests.{same_some}
use Rattle.wp_rule.specs.Knows.{Noted}
use Rattle.wp_rule.specs.Words.{IsAt}
use Rattle.wp_rule.proofs.Knows.{at_sound, noted_is, seen_is}
use Rattle.wp_shared.specs.Seats.{SharedState, SeatState, Stands, place_at}
use Rattle.wp_shared.proofs.Onward.{starts_on}
use Rattle.wp_shared.proofs.Tables.{held_state}
use Rattle.wp_read.specs.Registers.{numbers_of}
use Rattle.wp_compact.specs.Compaction.{IsOpenedBase, MayPutKept, MayReplace}
use Rattle.wp_tableset.specs.Changes.{Asked}
use Rattle.wp_tableset.specs.declared.gone.Gone.TheVariants as goes
use Rattle.wp_maint.specs.Installs.{next_of, MayInstall}
use Rattle.wp_compact.proofs.Covering.{kept_keeps}

-- ---- what was seen up to the floor

pub length_front : (n : ℕ) (h : List Entry) → n ≤ length h → length (take n h) ≡ n
length_front zero h le = refl
length_front (suc n) [] le = absurd (omega (arith, le))
length_front (suc n) (x ∷ h) le = ap (λ (m : ℕ). suc m) (length_front n h (omega (arith, le)))

pub front_starts : (n : ℕ) (seen history : List Entry) → StartsWith history seen → StartsWith history (take n seen)
front_starts n seen history starts = starts_on (take n seen) seen history (drop n seen, sym (take-append-drop n seen)) starts

-- ---- live numbers

pub record IsNumberOf (live : List Registration) (n : ℕ) : Type 0 where
  pub r : Registration
  pub there : IsIn r live
  pub is : r.number ≡ n

pub number_of : (live : List Registration) (n : ℕ) → is_among (numbers_of live) n ≡ true → IsNumberOf live n
number_of [] n among = absurd cc
number_of (r ∷ live) n among = by (r.number == n) refl among (number_of live n)
  where
    by : (b : Bool) → (r.number == n) ≡ b → (b || is_among (numbers_of live) n) ≡ true → (is_among (numbers_of live) n ≡ true → IsNumberOf live n) → IsNumberOf (r ∷ live) n
    by true is e rest = record { r = r; there = inl refl; is = eqb-true r.number n is }
    by false is e rest = let k = rest e in record { r = k.r; there = inr k.there; is = k.is }

pub number_in : (live : List Registration) (n : ℕ) → IsIn n (numbers_of live) → IsNumberOf live n
number_in [] n none = absurd none
number_in (r ∷ live) n (inl same) = record { r = r; there = inl refl; is = same }
number_in (r ∷ live) n (inr rest) = let k = number_in live n rest in record { r = k.r; there = inr k.there; is = k.is }

-- ---- what a compaction lists

pub among_front : (n : ℕ) (xs ys : List ℕ) → is_among xs n ≡ true → is_among (xs ++ ys) n ≡ true
among_front n xs ys there = list_any-append (λ m. m == n) xs ys ∙ or_left (is_among xs n) (is_among ys n) there

pub among_back : (n : ℕ) (xs ys : List ℕ) → is_among ys n ≡ true → is_among (xs ++ ys) n ≡ true
among_back n xs ys there = list_any-append (λ m. m == n) xs ys ∙ or_right (is_among xs n) (is_among ys n) there

-- each number is one of those that are pinned, or the one base or the other
pub each_listed : (P : ℕ → Type 0) (live : List Registration) (opened : ℕ) (last : InstalledEdit) → ((r : Registration) → IsIn r live → P r.number) → P opened → P last.segment.base → (n : ℕ) → is_among (listed (numbers_of live) opened last) n ≡ true → P n
each_listed P live opened last of_live of_opened of_base n among =
    let base = last.segment.base in
    elim (or_cases (is_among (numbers_of live) n) (is_among (opened ∷ base ∷ []) n) (sym (list_any-append (λ m. m == n) (numbers_of live) (opened ∷ base ∷ [])) ∙ among)) [
      | inl there ↦ let k = number_of live n there in subst P k.is (of_live k.r k.there)
      | inr bases ↦ elim (or_cases (opened == n) (is_among (base ∷ []) n) bases) [
        | inl here ↦ subst P (eqb-true opened n here) of_opened
        | inr rest ↦ subst P (only_listed base n rest) of_base
      ]
    ]

pub listed_low : (live : List Registration) (opened floor : ℕ) (last : InstalledEdit) → ((r : Registration) → IsIn r live → r.number ≤ floor) → (opened ≤ floor) × (last.segment.base ≤ floor) → (n : ℕ) → is_among (listed (numbers_of live) opened last) n ≡ true → n ≤ floor
listed_low live opened floor last of_live bases = each_listed (λ n. n ≤ floor) live opened last of_live bases.0 bases.1

-- both bases are listed
pub opened_among : (live : List Registration) (opened : ℕ) (last : InstalledEdit) (n : ℕ) → opened ≡ n → is_among (listed (numbers_of live) opened last) n ≡ true
opened_among live opened last n is = among_back n (numbers_of live) (opened ∷ last.segment.base ∷ []) (or_left (opened == n) (is_among (last.segment.base ∷ []) n) (eq-eqb opened n is))

pub base_among : (live : List Registration) (opened : ℕ) (last : InstalledEdit) (n : ℕ) → last.segment.base ≡ n → is_among (listed (numbers_of live) opened last) n ≡ true
base_among live opened last n is = among_back n (numbers_of live) (opened ∷ last.segment.base ∷ []) (or_right (opened == n) (is_among (last.segment.base ∷ []) n) (or_left (last.segment.base == n) false (eq-eqb last.segment.base n is)))

-- the base at which the store's log was opened is that of the first edit of its worlds
pub opened_is : {D : Type 0} (z : SharedState D) (by : ℕ) (a : Actor) (w : World) → IsAt (place_at z by) a w → (base : ℕ) → IsOpenedBase z base → base ≡ w.first_edit.segment.base
opened_is z by a w at base k = k.2 ∙ ap (λ (edit : InstalledEdit). edit.segment.base) (same_some k.0 w.first_edit (sym k.1 ∙ at.first_edit))

-- ---- in a world of the store

module _ {D : Type 0} (z : SharedState D) (s : SeatState) (e : Installed) (floor : ℕ) (put : MayPutKept z s.knows e floor) (u : SeatState) (t : StoreState) (same : u.knows.participant ≡ s.knows.participant) (notes : (fact : Fact) → Noted s.knows fact → Noted u.knows fact) (held : u.knows.held ≡ store t ∷ installed e ∷ [])
    (w : World) (stands : Stands z u w) where
  abbrev may : MayReplace s.knows e floor put.live put.versions
  may = put.replace

  sound : IsSound w
  sound = at_sound (place_at z u.by) u.knows w stands

  edit_here : w.installed ≡ e
  edit_here = held_state (place_at z u.by) u.knows w (installed e) stands (subst (IsIn (installed e)) (sym held) (inr (inl refl)))

  abbrev front : List Entry
  front = take floor s.knows.participant.seen

  abbrev pinned : List ℕ
  pinned = numbers_of put.live

  abbrev numbers : List ℕ
  numbers = listed pinned put.opened e.last

  floor_is : length front ≡ floor
  floor_is = length_front floor s.knows.participant.seen may.live_is.within

  starts : StartsWith w.writes.history front
  starts = front_starts floor s.knows.participant.seen w.writes.history (subst (λ (p : Participant). StartsWith w.writes.history p.seen) same (seen_is (place_at z u.by) u.knows w stands))

  named : (w.store.tables ≡ put.versions) × (w.store.floor ≡ may.store_floor)
  named = (noted_is (place_at z u.by) u.knows w (tables_stay put.versions may.store_floor) stands (notes (tables_stay put.versions may.store_floor) may.named)).is_so

  gone : NoneFlushed w.store.memory w.installed.last.flushed
  gone = (noted_is (place_at z u.by) u.knows w nothing_flushed stands (notes nothing_flushed may.gone)).is_so

  low : (n : ℕ) → is_among numbers n ≡ true → n ≤ length front
  low n among = let f = floor_is in let l = listed_low put.live put.opened floor e.last (λ r there. (may.live_is.registered r there).1) put.low n among in omega (arith, l, f)

  all_live : (n : ℕ) → IsLive w.snapshots n → (is_among numbers n ≡ true) ⊎ (length front ≤ n)
  all_live n is_live =
      ⊎_elim (λ there. inl (among_front n pinned (put.opened ∷ e.last.segment.base ∷ []) there)) (λ high. inr (let f = floor_is in omega (arith, f, high)))
      ((noted_is (place_at z u.by) u.knows w (live_listed floor pinned) stands (notes (live_listed floor pinned) may.live_is.listed)).is_so.1 n is_live)

  opened_listed : is_among numbers w.first_edit.segment.base ≡ true
  opened_listed = opened_among put.live put.opened e.last w.first_edit.segment.base (opened_is z u.by u.knows w stands put.opened put.is_opened)

  up_to_floor : w.store.floor ≤ floor
  up_to_floor = let n = named.1 in let g = may.given_up in omega (arith, n, g)

  keeps_front : KeepsStore w (record w.store { tables = retained_of (is_committed front) put.versions numbers (length front); floor = length front }) w.installed
  keeps_front =
      kept_keeps w sound front starts numbers low put.versions named.0 may.in_order (subst (λ (x : Installed). list_all (is_flushed x.last.flushed) put.versions ≡ true) (sym edit_here) may.low) gone (let f = floor_is in let u = up_to_floor in omega (arith, f, u))
      opened_listed all_live

  pub may_put : (w.store.floor ≤ floor) × KeepsStore w (record w.store { tables = e.last.versions; floor = floor }) w.installed
  may_put = (
    up_to_floor,
    subst (λ (n : ℕ). KeepsStore w (record w.store { tables = e.last.versions; floor = n }) w.installed) floor_is (subst (λ (l : List Version). KeepsStore w (record w.store { tables = l; floor = length front }) w.installed) (sym put.kept) keeps_front),
  )

-- ---- the edit

-- the edit with these versions in place of all tables
abbrev pub all_in_one : List Version → InstalledEdit → Asked
all_in_one kept last = record { gone = goes.Tables; versions = kept; flushed = last.flushed }

pub may_compact : (a : Actor) (t : Installed) (kept : List Version) → t.halted ≡ false → IsEditCovered a.participant.seen (next_of (all_in_one kept t.last) t.last) → Noted a nothing_flushed → MayInstall a t (all_in_one kept t.last)
may_compact a t kept running covered noted = record {
  knows = record { running = running; covered = covered; rises = omega arith; one_more = λ compacts. absurd cc; keeps = λ _. refl; segment = refl };
  gone = λ _. noted;
}

pub in_one_is : (history : List Entry) (live : List ℕ) (last : InstalledEdit) (kept : List Version) → kept ≡ retained history live last → next_of (all_in_one kept last) last ≡ after_compaction history live last
in_one_is history live last kept is = ap (λ (l : List Version). next_of (all_in_one l last) last) is
