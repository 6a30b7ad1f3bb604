-- What stands up to a base, and what is looked up behind it.
use Rattle.std.proofs.Common.{◌≡◌, ℕ, zero, suc, ◌+◌, ◌-◌, ◌≤◌, Bool, true, false, ◌&&◌, not, cond, List, [], ◌∷◌, length, get_or, take, drop, Option, Some, None, refl, sym, ap, ◌∙◌, inl, inr, arith}
use Rattle.std.specs.Prelude.{option_map, is_some, nat_le, slice_get}
use Rattle.std.specs.List.{position, position_from}
use Rattle.std.specs.Ordering.{nat_cmp}
use Rattle.std.specs.BTreeMap.{BTreeMap, is_at, get}
use Rattle.std.specs.Map.{lookup}
use Rattle.std.proofs.lemmas.Bool.{and_parts, and_from, cases_lt, le-leb, leb-true, lt-ltb, le-ltb, not-true, not_from_false}
use Rattle.std.proofs.lemmas.Iterator.Adapters.{position_from-zero}
use Rattle.std.proofs.lemmas.List.{length-drop, take_all}
use Rattle.std.proofs.lemmas.Option.{slice_get-get_or, slice_get_within}
use Rattle.wp_model.specs.declared.change.Change.{Change}
use Rattle.wp_model.specs.declared.entry.Entry.{Entry}
use Rattle.wp_model.specs.declared.entry.Entry.TheVariants.{Write, Prepare, Commit, Undo, Close}
use Rattle.wp_model.specs.declared.version.Version.{Version}
use Rattle.wp_model.specs.Decision.{decision_in, decision_of, version_in, entry_version}
use Rattle.wp_model.specs.History.{entry_at, is_prepare, decides}
use Rattle.wp_history_laws.specs.Prepares.{prepare_of}
use Rattle.wp_cuts.specs.Cut.{is_start}
use Rattle.wp_history.specs.History.{RoomyHistory, entry_behind}
use Rattle.wp_history.proofs.Full.{AreStarts, start_at}
use Rattle.wp_cover.specs.Decisions.{HasDeciders}
use Rattle.wp_cover.specs.Sources.{is_fixed, AreFixed}
use Rattle.wp_cover.proofs.Places.{get_dropped}

-- ---- fixed numbers

-- a fixed number is a Write's, and decides itself
pub fixed_decides : (h : RoomyHistory) (p : ℕ) → AreStarts (take h.base h.entries) → h.base ≤ length h.entries → is_fixed h p ≡ true → decision_of h.entries p ≡ Some p
fixed_decides h zero starts within fixed = absurd cc
fixed_decides h (suc n) starts within fixed =
    let parts = and_parts (nat_le 1 (suc n)) (nat_le (suc n) h.base && not (is_prepare (entry_at h.entries (suc n)))) fixed in
    let more = and_parts (nat_le (suc n) h.base) (not (is_prepare (entry_at h.entries (suc n)))) parts.1 in
    let le = leb-true (suc n) h.base more.0 in
    let at = slice_get-get_or h.entries n (Write []) (omega (arith, le, within)) in
    by (get_or h.entries n (Write [])) at (start_at h.entries h.base n (get_or h.entries n (Write [])) starts (omega (arith, le)) at) (not-true (is_prepare (entry_at h.entries (suc n))) more.1)
  where
    by : (entry : Entry) → slice_get h.entries n ≡ Some entry → is_start entry ≡ true → is_prepare (entry_at h.entries (suc n)) ≡ false → decision_of h.entries (suc n) ≡ Some (suc n)
    by (Write batch) at start other = ap (decision_in h.entries (suc n)) at
    by (Prepare name batch) at start other = let is : is_prepare (entry_at h.entries (suc n)) ≡ true = ap is_prepare at in absurd cc
    by (Commit p) at start other = absurd cc
    by (Undo p batch) at start other = absurd cc
    by (Close p) at start other = absurd cc

-- without a base none is fixed
pub none_fixed : (h : RoomyHistory) (versions : List Version) → h.base ≡ 0 → AreFixed h versions
none_fixed h versions none key p value fixed there =
    let parts = and_parts (nat_le 1 p) (nat_le p h.base && not (is_prepare (entry_at h.entries p))) fixed in
    let low = leb-true 1 p parts.0 in
    let within = leb-true p h.base (and_parts (nat_le p h.base) (not (is_prepare (entry_at h.entries p))) parts.1).0 in
    absurd (omega (arith, low, within, none))

-- ---- other numbers

no_prepare : (o : Option Entry) → prepare_of o ≡ None → is_prepare o ≡ false
no_prepare None none = refl
no_prepare (Some (Write batch)) none = refl
no_prepare (Some (Prepare name batch)) none = absurd cc
no_prepare (Some (Commit p)) none = refl
no_prepare (Some (Undo p batch)) none = refl
no_prepare (Some (Close p)) none = refl

-- what is neither fixed nor a Prepare stands behind the base, or is nothing
pub behind_or_none : (h : RoomyHistory) (p : ℕ) → is_fixed h p ≡ false → None ≡ prepare_of (entry_at h.entries p) → entry_behind h p ≡ entry_at h.entries p
behind_or_none h p other none = elim (cases_lt h.base p) [
  | inl above ↦ ap (λ (b : Bool). cond b (entry_at h.entries p) None) (lt-ltb h.base p above)
  | inr le ↦ ap (λ (b : Bool). cond b (entry_at h.entries p) None) (le-ltb h.base p (omega (arith, le))) ∙ nothing p le other none
]
  where
    nothing : (q : ℕ) → q ≤ h.base → is_fixed h q ≡ false → None ≡ prepare_of (entry_at h.entries q) → None ≡ entry_at h.entries q
    nothing zero le other none = refl
    nothing (suc n) le other none =
        let yes : is_fixed h (suc n) ≡ true =
        and_from (nat_le 1 (suc n)) (nat_le (suc n) h.base && not (is_prepare (entry_at h.entries (suc n)))) (le-leb 1 (suc n) (omega arith))
        (and_from (nat_le (suc n) h.base) (not (is_prepare (entry_at h.entries (suc n)))) (le-leb (suc n) h.base le) (not_from_false (is_prepare (entry_at h.entries (suc n))) (no_prepare (entry_at h.entries (suc n)) (sym none)))) in
        absurd cc

no_name : {X : Type 0} (names : X → List ℕ × List Change) (found : Option X) → is_some found ≡ false → None ≡ option_map names found
no_name names None e = refl
no_name names (Some x) e = absurd cc

-- what is looked up of such a number is its entry
pub other_at : {X : Type 0} (h : RoomyHistory) (p : ℕ) (fixed some : Bool) (found : Option X) (names : X → List ℕ × List Change) (o : Option Entry) → fixed ≡ is_fixed h p → fixed ≡ false → option_map names found ≡ prepare_of (entry_at h.entries p) → some ≡ is_some found → some ≡ false
    → o ≡ entry_behind h p → entry_at h.entries p ≡ o
other_at h p fixed some found names o is other prepared none is_none behind = sym (behind ∙ behind_or_none h p (sym is ∙ other) (no_name names found (sym none ∙ is_none) ∙ prepared))

-- so it is no Prepare
pub no_prepared : {X : Type 0} (names : X → List ℕ × List Change) (found : Option X) (o : Option Entry) (name : List ℕ) (batch : List Change) → option_map names found ≡ prepare_of o → is_some found ≡ false → o ≡ Some (Prepare name batch) → ⊥
no_prepared names found o name batch prepared none at =
    let nothing : None ≡ prepare_of o = no_name names found none ∙ prepared in
    let something : prepare_of o ≡ Some (name, batch) = ap prepare_of at in
    absurd cc

prepared_in : (history : List Entry) (p : ℕ) (o : Option Entry) → is_some (prepare_of o) ≡ true → option_map suc (position (decides p) history) ≡ decision_in history p o
prepared_in history p None some = absurd cc
prepared_in history p (Some (Write batch)) some = absurd cc
prepared_in history p (Some (Prepare name batch)) some = refl
prepared_in history p (Some (Commit q)) some = absurd cc
prepared_in history p (Some (Undo q batch)) some = absurd cc
prepared_in history p (Some (Close q)) some = absurd cc

some_named : {X : Type 0} (names : X → List ℕ × List Change) (found : Option X) → is_some found ≡ true → is_some (option_map names found) ≡ true
some_named names None e = e
some_named names (Some x) e = refl

-- of a Prepare that is noted which decides it
pub prepared_decides : {X : Type 0} (history : List Entry) (deciders : BTreeMap ℕ ℕ) (p : ℕ) (names : X → List ℕ × List Change) (found : Option X) → HasDeciders history deciders → option_map names found ≡ prepare_of (entry_at history p) → is_some found ≡ true → get nat_cmp deciders p ≡ decision_of history p
prepared_decides history deciders p names found has is some = has p ∙ prepared_in history p (entry_at history p) (ap is_some (sym is) ∙ some_named names found some)

version_of : (o : Option Entry) (name : List ℕ) (batch : List Change) (key : List ℕ) → Some (name, batch) ≡ prepare_of o → version_in (Some (Prepare name batch)) key ≡ version_in o key
version_of None name batch key is = absurd cc
version_of (Some (Write b)) name batch key is = absurd cc
version_of (Some (Prepare n b)) name batch key is = λ i. version_in (Some (Prepare name (pair_is i))) key
  where
    pair_is : batch ≡ b
    pair_is = let same : (name, batch) ≡ (n, b) = cc in ap (λ (t : List ℕ × List Change). t.1) same
version_of (Some (Commit p)) name batch key is = absurd cc
version_of (Some (Undo p b)) name batch key is = absurd cc
version_of (Some (Close p)) name batch key is = absurd cc

-- what a Prepare has under a key
pub prepared_version : (history : List Entry) (p : ℕ) (name : List ℕ) (batch : List Change) (key : List ℕ) → Some (name, batch) ≡ prepare_of (entry_at history p) → version_in (Some (Prepare name batch)) key ≡ entry_version history p key
prepared_version history p name batch key is = version_of (entry_at history p) name batch key is

-- ---- nothing up to the base decides

no_decider : (entries : List Entry) (i p : ℕ) → AreStarts entries → position_from (decides p) i entries ≡ None
no_decider [] i p starts = refl
no_decider (Write batch ∷ entries) i p starts = no_decider entries (i + 1) p starts.1
no_decider (Prepare name batch ∷ entries) i p starts = no_decider entries (i + 1) p starts.1
no_decider (Commit q ∷ entries) i p starts = let no = starts.0 in absurd cc
no_decider (Undo q batch ∷ entries) i p starts = let no = starts.0 in absurd cc
no_decider (Close q ∷ entries) i p starts = let no = starts.0 in absurd cc

pub none_decided : (entries : List Entry) (deciders : BTreeMap ℕ ℕ) → AreStarts entries → deciders.entries ≡ [] → HasDeciders entries deciders
none_decided entries deciders starts none p = ap (λ (es : List (ℕ × ℕ)). lookup (is_at (nat_cmp p)) es) none ∙ sym (ap (option_map suc) (position_from-zero (decides p) entries ∙ no_decider entries 0 p starts))

-- ---- the numbers behind the base

pub behind_long : (history later : List Entry) (base : ℕ) → later ≡ drop base history → length later ≡ length history - base
behind_long history later base is = ap (λ (es : List Entry). length es) is ∙ length-drop base history

-- all of them make the whole
pub all_behind : (history later : List Entry) (base i : ℕ) → later ≡ drop base history → length later ≤ i → take (base + i) history ≡ history
all_behind history later base i is le = let long = behind_long history later base is in take_all (base + i) history (omega (arith, long, le))

-- the last one behind is the last of all
pub last_behind : (history later : List Entry) (base : ℕ) (entry : Entry) → later ≡ drop base history → slice_get later (length later - 1) ≡ Some entry → slice_get history (length history - 1) ≡ Some entry
last_behind history later base entry is at =
    let long = behind_long history later base is in
    let some = slice_get_within later (length later - 1) entry at in
    let place : base + (length later - 1) ≡ length history - 1 = omega (arith, long, some) in
    ap (slice_get history) (sym place) ∙ sym (get_dropped history base (length later - 1)) ∙ ap (λ (es : List Entry). slice_get es (length later - 1)) (sym is) ∙ at
