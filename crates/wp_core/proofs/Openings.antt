-- Each legal history that ends in no undo can be opened: all its versions stand in memory, no table has one, and each of its
-- undecided prepares is delayed, its name live, its keys held.
use Rattle.std.proofs.Common.{◌≡◌, ◌≢◌, inl, inr, ℕ, zero, suc, ◌<◌, ◌≤◌, eq-eqb, ne_eqb, Bool, true, false, true≢false, cond, List, [], ◌∷◌, ◌++◌, length, take, append-nil, refl, sym, subst, ap, ◌∙◌, Option, Some, None, is_some, slice_index_or, arith}
use Rattle.std.specs.Prelude.{All}
use Rattle.std.proofs.lemmas.Bool.{cases_lt}
use Rattle.std.specs.Ordering.{nat_cmp}
use Rattle.std.specs.FinSet as finset
use Rattle.std.specs.FinMap as finite
use Rattle.wp_model.specs.Batch.{change_to}
use Rattle.wp_model.specs.declared.entry.Entry.{Entry}
use Rattle.wp_model.specs.declared.version.Version.{Version}
use Rattle.wp_model.specs.Covered.{IsCovered, GivesStore, is_among}
use Rattle.wp_model.specs.History.{newest, undecided, is_undecided}
use Rattle.wp_model.specs.Legal.{IsLegal, changes_in, undone_last}
use Rattle.wp_model.specs.Decision.{version_in, entry_version}
use Rattle.wp_model.specs.Versions.{version_at}
use Rattle.wp_model.proofs.Entries.{entry_at_past}
use Rattle.wp_history_laws.proofs.Counting.{entry_version_old}
use Rattle.wp_history_laws.proofs.Growth.{by_growth}
use Rattle.wp_history_laws.proofs.Listed.{zero_covered}
use Rattle.wp_history_laws.proofs.Opened.{names_of, keys_of, tables_opened}
use Rattle.wp_core.specs.Turns.{all_free}
use Rattle.wp_core.specs.States.{StoreState, live_numbers, up_to}
use Rattle.wp_model.specs.Flushed.{InstalledEdit, versions_under, later_versions, first_segment}
use Rattle.wp_core.specs.World.{World, new_actor}
use Rattle.wp_core.specs.Runs.{IsOpening}
use Rattle.wp_core.specs.Sound.Store.{IsStored, NoneFlushed}
use Rattle.wp_core.proofs.CoveredGrows.{covered_grows}
use Rattle.wp_core.proofs.HistoryGrows.{grown_length, version_new}
use Rattle.wp_core.proofs.PendingVersions.{covers_same}
use Rattle.wp_core.proofs.PublishesVersions.{at_front, at_back, at_under, later_more, up_to_within, up_to_past}
use Rattle.wp_core.proofs.SnapshotsStep.{among_live}
use Rattle.wp_model.proofs.Tests.{none_some}

-- ---- the empty history

none_undecided : (p : ℕ) → is_undecided [] p ≡ true → ⊥
none_undecided zero e = absurd (true≢false (sym e))
none_undecided (suc n) e = absurd (true≢false (sym e))

nothing_newest : (key : List ℕ) (n : ℕ) → newest (take n []) key ≡ None
nothing_newest key zero = refl
nothing_newest key (suc n) = refl

gives : (key : List ℕ) (n : ℕ) → GivesStore [] [] key n
gives key n = inr record { none = λ p is. refl; missing = nothing_newest key n }

none_covered : (numbers : List ℕ) → IsCovered [] [] numbers 0
none_covered numbers = record {
  part = λ key p value e. let q : None ≡ Some value = e in absurd (cc);
  undecided = λ key p value is e. absurd (none_undecided p is);
  undone = λ key p value is e. let q : None ≡ Some p = is in absurd (cc);
  listed = λ key n is. gives key n;
  later = λ key n le low. gives key n;
}

-- ---- all versions of a history

-- the list has the versions of the history and no others, and shows each reader what the history holds
pub record AreAll (versions : List Version) (history : List Entry) : Type 0 where
  pub at : (key : List ℕ) (p : ℕ) → version_at versions key p ≡ entry_version history p key
  pub covered : IsCovered versions history [] 0

none_past : (history : List Entry) (key : List ℕ) (p : ℕ) → length history < p → entry_version history p key ≡ None
none_past history key p lt = ap (λ (o : Option Entry). version_in o key) (entry_at_past history p lt)

in_none : (key : List ℕ) (p : ℕ) → None ≡ entry_version [] p key
in_none key zero = refl
in_none key (suc p) = refl

module _ (history : List Entry) (entry : Entry) (legal : IsLegal (history ++ entry ∷ [])) (k : AreAll (later_versions history 0) history) where
  abbrev next : ℕ
  next = suc (length history)

  abbrev before : List Version
  before = later_versions history 0

  abbrev under : List Version
  under = versions_under next (changes_in entry)

  nothing : (key : List ℕ) (p : ℕ) → length history < p → version_at before key p ≡ None
  nothing key p lt = k.at key p ∙ none_past history key p lt

  not_here : (key : List ℕ) (p : ℕ) → next ≢ p → version_at under key p ≡ None
  not_here key p ne = at_under next (changes_in entry) key p ∙ ap (λ (b : Bool). cond b (change_to (changes_in entry) key) None) (ne_eqb next p ne)

  old : (key : List ℕ) (p : ℕ) → p ≤ length history → version_at (before ++ under) key p ≡ version_at before key p
  old key p le = at_front before under key p (not_here key p (λ e. absurd (omega (arith, e, le))))

  new : (key : List ℕ) → version_at (before ++ under) key next ≡ version_in (Some entry) key
  new key = at_back before under key next (nothing key next (omega arith)) ∙ (at_under next (changes_in entry) key next ∙ ap (λ (b : Bool). cond b (change_to (changes_in entry) key) None) (eq-eqb next next refl))

  past : (key : List ℕ) (p : ℕ) → next < p → version_at (before ++ under) key p ≡ None
  past key p lt = at_front before under key p (not_here key p (λ e. absurd (omega (arith, e, lt)))) ∙ nothing key p (omega arith)

  at_each : (key : List ℕ) (p : ℕ) → version_at (before ++ under) key p ≡ entry_version (history ++ entry ∷ []) p key
  at_each key p = elim (cases_lt (length history) p) [
    | inr le ↦ old key p le ∙ k.at key p ∙ sym (entry_version_old history (entry ∷ []) p key le)
    | inl gt ↦ elim (cases_lt next p) [
      | inl beyond ↦ past key p beyond ∙ sym (none_past (history ++ entry ∷ []) key p (let l = grown_length history entry legal in omega (arith, l, beyond)))
      | inr le ↦ let same : p ≡ next = omega (arith, gt, le) in
          ap (version_at (before ++ under) key) same ∙ new key ∙ sym (version_new history entry legal key) ∙ ap (λ (q : ℕ). entry_version (history ++ entry ∷ []) q key) (sym same)
    ]
  ]

  one_more : AreAll (later_versions (history ++ entry ∷ []) 0) (history ++ entry ∷ [])
  one_more =
      subst (λ (z : List Version). AreAll z (history ++ entry ∷ [])) (sym (later_more history entry 0 (omega arith)))
      record { at = at_each; covered = covered_grows history entry legal before (before ++ under) [] 0 k.covered (omega arith) old new past 0 (omega arith) (λ m among. absurd cc) }

pub all_versions : (history : List Entry) → IsLegal history → AreAll (later_versions history 0) history
all_versions history legal = by_growth (λ h. AreAll (later_versions h 0) h) record { at = in_none; covered = none_covered [] } (λ h entry after before legal_next k. one_more h entry after k) history legal

-- ---- they are a store

abbrev pub no_table : InstalledEdit
no_table = record { segment = first_segment; flushed = 0; versions = []; tables = 0 }

abbrev pub all_in_memory : List Entry → StoreState
all_in_memory history = record { memory = later_versions history 0; tables = []; floor = 0 }

module _ (history : List Entry) (legal : IsLegal history) where
  abbrev versions : List Version
  versions = later_versions history 0

  all : AreAll versions history
  all = all_versions history legal

  not_past : (key : List ℕ) (p : ℕ) → length history < p → version_at versions key p ≡ None
  not_past key p lt = all.at key p ∙ none_past history key p lt

  within : (key : List ℕ) (p : ℕ) → version_at (up_to (length history) (versions ++ [])) key p ≡ version_at versions key p
  within key p = elim (cases_lt (length history) p) [
    | inr le ↦ up_to_within (length history) (versions ++ []) key p le ∙ ap (λ (z : List Version). version_at z key p) (append-nil versions)
    | inl gt ↦ up_to_past (length history) (versions ++ []) key p gt ∙ sym (not_past key p gt)
  ]

  none_live : (n : ℕ) → is_among (live_numbers finite.empty) n ≡ true → ⊥
  none_live n among = true≢false (sym among ∙ among_live finite.empty n ∙ ap is_some (finite.get-empty nat_cmp n))

  shown : IsCovered (up_to (length history) (versions ++ [])) history [] 0
  shown = covers_same versions (up_to (length history) (versions ++ [])) history [] 0 within all.covered

  pub all_stored : IsStored history [] 0 finite.empty (all_in_memory history) (record { last = no_table; failed = None; halted = false })
  all_stored = record {
    covered = zero_covered (up_to (length history) (versions ++ [])) history (live_numbers finite.empty) 0 (record { part = shown.part; undecided = shown.undecided; undone = shown.undone; listed = λ key n among. absurd (none_live n among); later = shown.later });
    based = omega arith;
    floor = omega arith;
    next = λ key p value lt e. absurd (none_some (version_at versions key p) value (not_past key p lt) e);
    tables = λ key p value e. let q : None ≡ Some value = e in absurd (cc);
    last = record {
      base = omega arith;
      flushed = omega arith;
      covered = let k = all.covered in zero_covered versions history [] (length history) (record { part = k.part; undecided = k.undecided; undone = k.undone; listed = k.listed; later = λ key n low high. k.later key n (omega arith) high });
    };
    failed = λ edit e. let q : None ≡ Some edit = e in absurd (cc);
    in_memory = λ key p value lt e. all.at key p ∙ e;
  }

  pub none_flushed : NoneFlushed versions 0
  none_flushed key p le = let same : p ≡ 0 = omega (arith, le) in all.at key p ∙ ap (λ (q : ℕ). entry_version history q key) same

-- ---- the opening

-- the delayed flag is up just where something is undecided
abbrev pub flag_of : List ℕ → ℕ
flag_of [] = 0
flag_of (p ∷ ps) = 1

flag_down : (ps : List ℕ) → flag_of ps ≡ 0 → ps ≡ []
flag_down [] e = refl
flag_down (p ∷ ps) e = absurd (omega (arith, e))

-- the world that is opened on a history
abbrev pub opened_world : List Entry → List ℕ → List ℕ → World
opened_world history cache client =
    record {
      opened = history;
      max_evicted = length history;
      delayed_flag = flag_of (undecided history);
      old_flag = 0;
      cache = cache;
      holders = all_free;
      writes = record { history = history; pending = []; logged = false; log = history; closed = false; stopped = false; failed = []; segment = first_segment; next = None };
      prepared = record { heap = finset.empty; delayed = finset.from_list (undecided history); delayed_commits = finite.empty };
      snapshots = finite.empty;
      store = all_in_memory history;
      locks = record { names = finite.from_entries (names_of history); keys = finite.from_entries (keys_of history); labels = finite.empty };
      installed = record { last = no_table; failed = None; halted = false };
      first_edit = no_table;
      actors = new_actor true client history ∷ [];
    }

pub world_opened : (history : List Entry) (cache client : List ℕ) → IsLegal history → undone_last history ≡ None → 1 ≤ length cache → All (λ word. word ≡ 0) cache → IsOpening (opened_world history cache client)
world_opened history cache client legal closed words zeros = record {
  legal = legal;
  closed_undo = closed;
  history = refl;
  pending = refl;
  log = refl;
  running_log = refl;
  unstopped = refl;
  none_failed = refl;
  segment = refl;
  none_next = refl;
  max_evicted = refl;
  words = words;
  cache = zeros;
  holders = refl;
  heap = refl;
  delayed = refl;
  delayed_commits = refl;
  delayed_flag = flag_down (undecided history);
  delayed_free = λ none. ap flag_of none;
  old_flag = refl;
  snapshots = refl;
  versions = all_stored history legal;
  in_step = (none_flushed history legal, refl);
  first_edit = refl;
  not_failed = refl;
  running = refl;
  locks = tables_opened history (opened_world history cache client).locks refl refl refl;
  client = client;
  actors = refl;
}

abbrev pub one_word : List ℕ
one_word = 0 ∷ []

only_zero : (i d : ℕ) → i < 1 → slice_index_or one_word i d ≡ 0
only_zero zero d lt = refl
only_zero (suc i) d lt = absurd (omega arith)

pub is_opened : (history : List Entry) → IsLegal history → undone_last history ≡ None → IsOpening (opened_world history one_word [])
is_opened history legal closed = world_opened history one_word [] legal closed (omega arith) (λ i d lt. only_zero i d lt)
