-- A step that makes an actor, or joins one, leaves the notes.
use Rattle.std.proofs.Common.{◌≡◌, ℕ, Bool, false, not, filter, ◌||◌, List, [], ◌∷◌, Option, refl}
use Rattle.wp_model.specs.declared.entry.Entry.{Entry}
use Rattle.wp_core.specs.Turns.{Turn}
use Rattle.wp_core.specs.Steps.{Step}
use Rattle.wp_core.specs.Notes.{gives_guard, stores_at, stores_words, stores_delayed_flag, stores_old_flag, ends_pending, adds_versions, takes_versions, adds_prepared, takes_prepared, delays_pending, ends_transaction, ends_unchanged, frees_direct, moves_versions, replaces_versions, installs, ends_itself, ends}
use Rattle.wp_core.specs.Views as view
use Rattle.wp_core.specs.Views.{Fact}
use Rattle.wp_core.specs.Sound.Views.{guarded_by}

pub record EndsNothing (h : List Entry) (n : ℕ) (s : Step) : Type 0 where
  pub guard : (turn : Option Turn) → gives_guard turn s ≡ false
  pub place : (place : ℕ) → stores_at n place s ≡ false
  pub words : stores_words s ≡ false
  pub pending : ends_pending s ≡ false
  pub transaction : (name : List ℕ) → ends_transaction h name s ≡ false
  pub delayed_flag : stores_delayed_flag s ≡ false
  pub old_flag : stores_old_flag s ≡ false
  pub add_prepared : adds_prepared s ≡ false
  pub take_prepared : takes_prepared s ≡ false
  pub delays : delays_pending s ≡ false
  pub add_versions : adds_versions s ≡ false
  pub take_versions : takes_versions s ≡ false
  pub moves : moves_versions s ≡ false
  pub replaces : replaces_versions s ≡ false
  pub installs : installs s ≡ false
  pub direct : frees_direct s ≡ false
  pub changes : (key : List ℕ) → ends_unchanged h key s ≡ false

neither : (a b : Bool) → a ≡ false → b ≡ false → (a || b) ≡ false
neither a b p q = rw (p, q) refl

none_ends : (h : List Entry) (n : ℕ) (s : Step) → EndsNothing h n s → (fact : Fact) → ends_itself h n s fact ≡ false
none_ends h n s is (view.passed place pair) = is.place place
none_ends h n s is (view.in_old_commits place pair) = is.place place
none_ends h n s is (view.apart place pair) = is.place place
none_ends h n s is (view.words_stay max cache) = is.words
none_ends h n s is (view.has_left p) = refl
none_ends h n s is view.versions_in_memory = neither _ _ is.pending is.take_versions
none_ends h n s is view.versions_nowhere = neither _ _ is.pending is.add_versions
none_ends h n s is view.number_in_heap = neither _ _ is.pending is.take_prepared
none_ends h n s is view.number_not_in_heap = neither _ _ is.pending is.add_prepared
none_ends h n s is view.pair_delayed = is.pending
none_ends h n s is view.pair_not_delayed = neither _ _ is.pending is.delays
none_ends h n s is view.none_waits = neither _ _ is.words is.pending
none_ends h n s is (view.undecided_at name p) = is.transaction name
none_ends h n s is (view.prior_values name p batch) = is.transaction name
none_ends h n s is (view.unprepared name) = is.transaction name
none_ends h n s is (view.direct_free key) = is.direct
none_ends h n s is (view.unchanged name key m) = neither _ _ (is.transaction name) (is.changes key)
none_ends h n s is (view.locks_stay name p keys) = refl
none_ends h n s is (view.tables_stay versions floor) = neither _ _ is.moves is.replaces
none_ends h n s is (view.live_listed floor listed) = refl
none_ends h n s is view.nothing_flushed = neither _ _ is.moves is.installs
none_ends h n s is (view.frozen_stay k versions) = is.moves
none_ends h n s is (view.delayed_flag_stays value) = is.delayed_flag
none_ends h n s is (view.old_flag_stays value) = is.old_flag

pub all_stay : (h : List Entry) (n : ℕ) (s : Step) → EndsNothing h n s → (xs : List Fact) → filter (λ x. not (ends h n s x)) xs ≡ xs
all_stay h n s is [] = refl
all_stay h n s is (x ∷ xs) = rw (neither _ _ (is.guard (guarded_by x)) (none_ends h n s is x), all_stay h n s is xs) refl
