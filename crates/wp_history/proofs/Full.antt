-- What stands at the numbers of a full list, by what is in memory.
use Rattle.std.proofs.Common.{Bor, ◌≡◌, ℕ, zero, suc, ◌+◌, ◌-◌, ◌<◌, ◌≤◌, Bool, true, cond, get_or, List, [], ◌∷◌, ◌++◌, length, map, take, drop, Option, Some, None, refl, sym, ap, ◌∙◌, subst, inl, inr, length-append, length-take-le, arith}
use Rattle.std.specs.Prelude.{option_map, is_some, nat_lt, slice_get}
use Rattle.std.specs.List.{AllByRecursion, range_with_len}
use Rattle.std.specs.Option.{option_copied}
use Rattle.std.specs.Slice.{IsItemAt}
use Rattle.std.proofs.lemmas.Option.{same_Some, slice_get-get_or, slice_get_past}
use Rattle.std.proofs.lemmas.List.{take_at, take-append-drop, length-drop}
use Rattle.std.proofs.lemmas.Bool.{cases_lt, lt-ltb, le-ltb}
use Rattle.std.proofs.lemmas.List.{get_or-drop}
use Rattle.wp_model.specs.declared.carried.Carried.{Carried}
use Rattle.wp_model.specs.declared.change.Change.{Change}
use Rattle.wp_model.specs.declared.entry.Entry.{Entry}
use Rattle.wp_model.specs.declared.entry.Entry.TheVariants.{Write, Prepare, Commit, Undo, Close}
use Rattle.wp_model.specs.declared.version.Version.{Version}
use Rattle.wp_model.specs.History.{entry_at}
use Rattle.wp_model.specs.Legal.{undone_last}
use Rattle.wp_history_laws.specs.Growth.{undone_by}
use Rattle.wp_history_laws.proofs.Growth.{AreNaming}
use Rattle.wp_history_laws.proofs.Undone.{undone_at_last, none_undone}
use Rattle.wp_history_laws.specs.Prepares.{prepare_of}
use Rattle.wp_cuts.specs.Cut.{Cut, carried_of, carried_at, is_start, front_entry, full_of}
use Rattle.wp_cuts.specs.LegalCut.{AreNumbered}
use Rattle.wp_cuts.proofs.FullList.{full_is_cut, starts, front_long, full_carried, full_behind, full_long, numbered_low, fixed_from}
use Rattle.wp_cuts.proofs.Rows.{start_names}
use Rattle.wp_cuts.proofs.Whole.{undone_behind, full_fixed, full_rest}
use Rattle.wp_history.specs.History.{RoomyHistory, entry_behind}
use Rattle.wp_history.specs.Outline.{AreOrderly}

-- what a look-up lends is what is there
pub got : (entries : List Entry) (i : ℕ) (found : Option (Bor Entry)) → IsItemAt entries i found → option_copied found ≡ slice_get entries i
got entries i None is = sym (slice_get_past entries i is.3)
got entries i (Some x) is = let lt = is.3.0 in sym (slice_get-get_or entries i x.now lt ∙ ap (λ (e : Entry). Some e) (sym is.1))

-- what is behind a base at a place
pub later_at : (full : List Entry) (base i : ℕ) (later : List Entry) (here : Entry) → later ≡ drop base full → here ≡ get_or later i here → here ≡ get_or full (base + i) here
later_at full base i later here is at = at ∙ ap (λ (es : List Entry). get_or es i here) is ∙ get_or-drop base full i here

abbrev pub name_and_batch : Carried → List ℕ × List Change
name_and_batch x = (x.name, x.batch)

module _ (c : Cut) (versions : List Version) where
  pub prepare_carried : (p : ℕ) → AreNumbered c → p ≤ c.base → option_map name_and_batch (carried_at c p) ≡ prepare_of (entry_at (full_of c versions) p)
  prepare_carried zero numbered le = by (carried_at c 0) refl
    where
      by : (o : Option Carried) → carried_at c 0 ≡ o → option_map name_and_batch o ≡ None
      by None e = refl
      by (Some x) e = let low = numbered_low c 0 x numbered e in absurd (omega (arith, low))
  prepare_carried (suc n) numbered le = by (carried_at c (suc n)) refl
    where
      by : (o : Option Carried) → carried_at c (suc n) ≡ o → option_map name_and_batch o ≡ prepare_of (entry_at (full_of c versions) (suc n))
      by None e = sym (ap prepare_of (full_fixed c versions (suc n) (fixed_from c (suc n) (omega arith) le (ap is_some e))))
      by (Some x) e = sym (ap prepare_of (full_carried c versions (suc n) x numbered e))

  pub later_is : drop c.base (full_of c versions) ≡ c.entries
  later_is = full_rest c versions c.base (omega arith) ∙ ap (λ (n : ℕ). drop n c.entries) (let e : c.base - c.base ≡ 0 = omega arith in e)

  pub carried_is : AreNumbered c → c.carried ≡ carried_of (take c.base (full_of c versions))
  carried_is numbered = ap (λ (d : Cut). d.carried) (full_is_cut c versions numbered).is

  pub within_full : c.base ≤ length (full_of c versions)
  within_full = let long = full_long c versions in omega (arith, long)

  all_start : (ps : List ℕ) → AllByRecursion (λ (entry : Entry). is_start entry ≡ true) (map (front_entry c versions) ps)
  all_start [] = tt
  all_start (p ∷ ps) = (starts c versions p, all_start ps)

  -- up to the base stand Writes and Prepares alone
  pub starts_are : AllByRecursion (λ (entry : Entry). is_start entry ≡ true) (take c.base (full_of c versions))
  unfolding full_of
  starts_are =
      subst (AllByRecursion (λ (entry : Entry). is_start entry ≡ true))
      (sym (take_at (map (front_entry c versions) (range_with_len 1 c.base)) c.entries c.base (front_long c versions c.base)))
      (all_start (range_with_len 1 c.base))

  -- what is looked up behind the base
  at_or_before : (n : ℕ) → n ≤ c.base → cond (nat_lt c.base n) (entry_at (full_of c versions) n) None ≡ None
  at_or_before n le = ap (λ (b : Bool). cond b (entry_at (full_of c versions) n) None) (le-ltb c.base n le)

  pub behind_at : (n : ℕ) → c.base < n → slice_get c.entries (n - c.base - 1) ≡ cond (nat_lt c.base n) (entry_at (full_of c versions) n) None
  behind_at n above =
      let same : n - c.base - 1 ≡ n - 1 - c.base = omega (arith, above) in
      ap (slice_get c.entries) same
      ∙ sym (full_behind c versions n above)
      ∙ ap (λ (b : Bool). cond b (entry_at (full_of c versions) n) None) (sym (lt-ltb c.base n above))

  pub none_before : (n : ℕ) → n ≤ c.base → None ≡ cond (nat_lt c.base n) (entry_at (full_of c versions) n) None
  none_before n le = sym (at_or_before n le)

-- without a base and entries there is nothing
pub full_none : (versions : List Version) → full_of (record { base = 0; carried = []; entries = [] }) versions ≡ []
unfolding full_of
full_none versions = refl

-- ---- what is last

abbrev pub AreStarts : List Entry → Type 0
AreStarts entries = AllByRecursion (λ (entry : Entry). is_start entry ≡ true) entries

pub starts_undone : (entries : List Entry) → AreStarts entries → undone_last entries ≡ None
starts_undone [] all = refl
starts_undone (Write batch ∷ []) all = refl
starts_undone (Prepare name batch ∷ []) all = refl
starts_undone (Write batch ∷ second ∷ others) all = starts_undone (second ∷ others) all.1
starts_undone (Prepare name batch ∷ second ∷ others) all = starts_undone (second ∷ others) all.1
starts_undone (Commit p ∷ others) all = let no = all.0 in absurd cc
starts_undone (Undo p batch ∷ others) all = let no = all.0 in absurd cc
starts_undone (Close p ∷ others) all = let no = all.0 in absurd cc

pub undone_later : (full : List Entry) (base : ℕ) (later : List Entry) → AreStarts (take base full) → later ≡ drop base full → undone_last full ≡ undone_last later
undone_later full base later starts is =
    ap undone_last (sym (take-append-drop base full))
    ∙ undone_behind (take base full) (drop base full) (starts_undone (take base full) starts)
    ∙ ap undone_last (sym is)

pub undone_at_later : (full : List Entry) (base : ℕ) (later : List Entry) (entry : Entry) → AreStarts (take base full) → later ≡ drop base full → slice_get later (length later - 1) ≡ Some entry → undone_by entry ≡ undone_last full
undone_at_later full base later entry starts is at = undone_at_last later entry at ∙ sym (undone_later full base later starts is)

pub none_at_later : (full : List Entry) (base : ℕ) (later : List Entry) → AreStarts (take base full) → later ≡ drop base full → slice_get later (length later - 1) ≡ None → None ≡ undone_last full
none_at_later full base later starts is at = none_undone later at ∙ sym (undone_later full base later starts is)

-- ---- what decides

pub start_at : (entries : List Entry) (base n : ℕ) (entry : Entry) → AreStarts (take base entries) → n < base → slice_get entries n ≡ Some entry → is_start entry ≡ true
start_at [] base n entry starts lt at = absurd cc
start_at (first ∷ others) zero n entry starts lt at = absurd (omega (arith, lt))
start_at (first ∷ others) (suc base) zero entry starts lt at = subst (λ (e : Entry). is_start e ≡ true) (same_Some first entry at) starts.0
start_at (first ∷ others) (suc base) (suc n) entry starts lt at = start_at others base n entry starts.1 (omega (arith, lt)) at

-- each decision finds its prepare
pub naming_by : (h : RoomyHistory) → AreStarts (take h.base h.entries) → AreOrderly h → AreNaming h.entries
naming_by h starts orderly n entry at = elim (cases_lt n h.base) [
  | inl lt ↦ start_names (take n h.entries) entry (start_at h.entries h.base n entry starts lt at)
  | inr ge ↦ (orderly n entry ge at).names_undecided
]

-- an entry behind the base, where it is looked up among those
pub there_at : (full : List Entry) (base i : ℕ) (later : List Entry) (here : Entry) → later ≡ drop base full → base ≤ length full → i < length later → here ≡ get_or later i here → slice_get full (base + i) ≡ Some here
there_at full base i later here is within lt at =
    let parts : length (take base full ++ drop base full) ≡ length full = ap length (take-append-drop base full) in
    let size = length-append (take base full) (drop base full) in
    let front = length-take-le base full within in
    let behind = ap length is in
    slice_get-get_or full (base + i) here (omega (arith, lt, parts, size, front, behind)) ∙ ap (λ (e : Entry). Some e) (sym (later_at full base i later here is at))

-- past those behind the base there are none
pub behind_all : (full : List Entry) (base : ℕ) (later : List Entry) (i : ℕ) → later ≡ drop base full → length later ≤ i → length full ≤ base + i
behind_all full base later i is past = let long = ap length is ∙ length-drop base full in omega (arith, long, past)

-- without a base all entries are behind it
pub behind_whole : (h : RoomyHistory) (n : ℕ) → h.base ≡ 0 → entry_behind h n ≡ entry_at h.entries n
behind_whole h zero none = rw none refl
behind_whole h (suc n) none = ap (λ (b : Bool). cond b (entry_at h.entries (suc n)) None) (lt-ltb h.base (suc n) (omega (arith, none)))
