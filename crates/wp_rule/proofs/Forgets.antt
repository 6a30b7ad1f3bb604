-- A step that ends no note leaves the actor's notes.
use Rattle.std.proofs.Common.{◌≡◌, ℕ, Bool, false, not, filter, List, [], ◌∷◌, refl, ap, Some}
use Rattle.wp_model.specs.declared.entry.Entry.{Entry}
use Rattle.wp_core.specs.Turns.{Turn, write_turn, prepared_turn, snapshots_turn, tables_turn}
use Rattle.wp_core.specs.Views.{Fact, passed, in_old_commits, apart, words_stay, has_left, versions_in_memory, versions_nowhere, number_in_heap, number_not_in_heap, pair_delayed, pair_not_delayed, none_waits, undecided_at, prior_values, unprepared, direct_free, unchanged, locks_stay, tables_stay, live_listed, nothing_flushed, frozen_stay, delayed_flag_stays, old_flag_stays}
use Rattle.wp_core.specs.World.{Actor}
use Rattle.wp_core.specs.Steps.{Step, load_published, take_turn, note, make_seat, learn, join_seat}
use Rattle.wp_core.specs.Notes.{ends, forgets, gives_guard, stores_at, stores_words, stores_delayed_flag, stores_old_flag, ends_pending, adds_versions, takes_versions, adds_prepared, takes_prepared, ends_transaction, ends_unchanged, frees_direct, moves_versions, replaces_versions, installs, delays_pending}

pub record EndsNothing (step : Step) : Type 0 where
  pub guard : (turn : Turn) → gives_guard (Some turn) step ≡ false
  pub place : (words place : ℕ) → stores_at words place step ≡ false
  pub words : stores_words step ≡ false
  pub delayed_flag : stores_delayed_flag step ≡ false
  pub old_flag : stores_old_flag step ≡ false
  pub pending : ends_pending step ≡ false
  pub adds : adds_versions step ≡ false
  pub takes : takes_versions step ≡ false
  pub prepared : adds_prepared step ≡ false
  pub unprepared : takes_prepared step ≡ false
  pub transaction : (history : List Entry) (name : List ℕ) → ends_transaction history name step ≡ false
  pub changes : (history : List Entry) (key : List ℕ) → ends_unchanged history key step ≡ false
  pub direct : frees_direct step ≡ false
  pub moves : moves_versions step ≡ false
  pub replaces : replaces_versions step ≡ false
  pub installing : installs step ≡ false
  pub delays : delays_pending step ≡ false

none_ends : (history : List Entry) (words : ℕ) (step : Step) → EndsNothing step → (fact : Fact) → ends history words step fact ≡ false
none_ends history words step e (passed place pair) = rw (e.guard write_turn, e.place words place) refl
none_ends history words step e (in_old_commits place pair) = rw (e.guard write_turn, e.place words place) refl
none_ends history words step e (apart place pair) = rw (e.guard write_turn, e.place words place) refl
none_ends history words step e (words_stay max cache) = rw (e.guard write_turn, e.words) refl
none_ends history words step e (has_left p) = refl
none_ends history words step e versions_in_memory = rw (e.guard write_turn, e.pending, e.takes) refl
none_ends history words step e versions_nowhere = rw (e.guard write_turn, e.pending, e.adds) refl
none_ends history words step e number_in_heap = rw (e.guard write_turn, e.pending, e.unprepared) refl
none_ends history words step e number_not_in_heap = rw (e.guard write_turn, e.pending, e.prepared) refl
none_ends history words step e pair_delayed = rw (e.guard write_turn, e.pending) refl
none_ends history words step e pair_not_delayed = rw (e.guard write_turn, e.pending, e.delays) refl
none_ends history words step e none_waits = rw (e.guard write_turn, e.words, e.pending) refl
none_ends history words step e (undecided_at name p) = e.transaction history name
none_ends history words step e (prior_values name p batch) = e.transaction history name
none_ends history words step e (unprepared name) = e.transaction history name
none_ends history words step e (direct_free key) = e.direct
none_ends history words step e (unchanged name key n) = rw (e.transaction history name, e.changes history key) refl
none_ends history words step e (locks_stay name p keys) = refl
none_ends history words step e (tables_stay versions floor) = rw (e.guard tables_turn, e.moves, e.replaces) refl
none_ends history words step e (live_listed floor listed) = refl
none_ends history words step e nothing_flushed = rw (e.guard tables_turn, e.moves, e.installing) refl
none_ends history words step e (frozen_stay n versions) = rw (e.guard tables_turn, e.moves) refl
none_ends history words step e (delayed_flag_stays value) = rw (e.guard prepared_turn, e.delayed_flag) refl
none_ends history words step e (old_flag_stays value) = rw (e.guard snapshots_turn, e.old_flag) refl

all_stay : (test : Fact → Bool) → ((fact : Fact) → test fact ≡ false) → (notes : List Fact) → filter (λ fact. not (test fact)) notes ≡ notes
all_stay test none [] = refl
all_stay test none (fact ∷ notes) = rw (none fact, all_stay test none notes) refl

pub forgets_nothing : (history : List Entry) (words : ℕ) (step : Step) (a : Actor) → EndsNothing step → forgets history words step a ≡ a
forgets_nothing history words step a e = ap (λ (notes : List Fact). record a { notes = notes }) (all_stay (ends history words step) (none_ends history words step e) a.notes)

pub load_ends : EndsNothing load_published
load_ends = record { guard = λ turn. refl; place = λ words place. refl; words = refl; delayed_flag = refl; old_flag = refl; pending = refl; adds = refl; takes = refl; prepared = refl; unprepared = refl; delays = refl; transaction = λ history name. refl; changes = λ history key. refl; direct = refl; moves = refl; replaces = refl; installing = refl }

pub take_ends : (turn : Turn) → EndsNothing (take_turn turn)
take_ends turn = record { guard = λ turn. refl; place = λ words place. refl; words = refl; delayed_flag = refl; old_flag = refl; pending = refl; adds = refl; takes = refl; prepared = refl; unprepared = refl; delays = refl; transaction = λ history name. refl; changes = λ history key. refl; direct = refl; moves = refl; replaces = refl; installing = refl }

pub note_ends : (fact : Fact) → EndsNothing (note fact)
note_ends fact = record { guard = λ turn. refl; place = λ words place. refl; words = refl; delayed_flag = refl; old_flag = refl; pending = refl; adds = refl; takes = refl; prepared = refl; unprepared = refl; delays = refl; transaction = λ history name. refl; changes = λ history key. refl; direct = refl; moves = refl; replaces = refl; installing = refl }

pub make_ends : EndsNothing make_seat
make_ends = record { guard = λ turn. refl; place = λ words place. refl; words = refl; delayed_flag = refl; old_flag = refl; pending = refl; adds = refl; takes = refl; prepared = refl; unprepared = refl; delays = refl; transaction = λ history name. refl; changes = λ history key. refl; direct = refl; moves = refl; replaces = refl; installing = refl }

pub learn_ends : (other : ℕ) (b : Actor) → EndsNothing (learn other b)
learn_ends other b = record { guard = λ turn. refl; place = λ words place. refl; words = refl; delayed_flag = refl; old_flag = refl; pending = refl; adds = refl; takes = refl; prepared = refl; unprepared = refl; delays = refl; transaction = λ history name. refl; changes = λ history key. refl; direct = refl; moves = refl; replaces = refl; installing = refl }

pub join_ends : (other : ℕ) (b : Actor) → EndsNothing (join_seat other b)
join_ends other b = record { guard = λ turn. refl; place = λ words place. refl; words = refl; delayed_flag = refl; old_flag = refl; pending = refl; adds = refl; takes = refl; prepared = refl; unprepared = refl; delays = refl; transaction = λ history name. refl; changes = λ history key. refl; direct = refl; moves = refl; replaces = refl; installing = refl }
