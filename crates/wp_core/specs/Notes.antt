-- When a step of the actor itself ends what it noted.
use Rattle.std.specs.Prelude.{ℕ, Bool, true, false, ◌||◌, ◌==◌, not, List, filter, Option, Some, None, bytes_eq}
use Rattle.wp_model.specs.declared.entry.Entry.{Entry}
use Rattle.wp_model.specs.History.{changes_of, is_changed}
use Rattle.wp_core.specs.Turns.{Turn}
use Rattle.wp_core.specs.Cache.{cache_place}
use Rattle.wp_core.specs.Views.{Fact, passed, in_old_commits, apart, words_stay, has_left, versions_in_memory, versions_nowhere, number_in_heap, number_not_in_heap, pair_delayed, pair_not_delayed, none_waits, undecided_at, prior_values, unprepared, direct_free, unchanged, locks_stay, tables_stay, live_listed, nothing_flushed, frozen_stay, delayed_flag_stays, old_flag_stays}
use Rattle.wp_core.specs.Entries.{transaction_of}
use Rattle.wp_core.specs.World.{Actor}
use Rattle.wp_core.specs.Steps.{Step, store_published, store_max_evicted, store_word, store_delayed_flag, store_old_flag, give_turn, make_pending, drop_pending, add_prepared, take_pending_prepared, delay_pending, add_versions, take_versions, move_versions, replace_versions, install, renew, free_transaction, leave_name, free_key, free_direct}
use Rattle.wp_core.specs.Changes.{turn_index}
use Rattle.wp_core.specs.Sound.Views.{guarded_by}

-- the turn that guards it is given
abbrev pub gives_guard : Option Turn → Step → Bool
gives_guard (Some turn) (give_turn given) = turn_index turn == turn_index given
gives_guard other step = false

abbrev pub stores_at : ℕ → ℕ → Step → Bool
stores_at words place (store_word pair) = cache_place words pair.number == place
stores_at words place other = false

abbrev pub stores_words : Step → Bool
stores_words (store_word pair) = true
stores_words (store_max_evicted m) = true
stores_words other = false

abbrev pub stores_delayed_flag : Step → Bool
stores_delayed_flag (store_delayed_flag value) = true
stores_delayed_flag other = false

abbrev pub stores_old_flag : Step → Bool
stores_old_flag (store_old_flag value) = true
stores_old_flag other = false

-- another entry is pending, or none
abbrev pub ends_pending : Step → Bool
ends_pending (store_published entry others) = true
ends_pending (make_pending entries) = true
ends_pending drop_pending = true
ends_pending other = false

abbrev pub adds_versions : Step → Bool
adds_versions (add_versions memory) = true
adds_versions other = false

abbrev pub takes_versions : Step → Bool
takes_versions (take_versions memory) = true
takes_versions other = false

abbrev pub adds_prepared : Step → Bool
adds_prepared add_prepared = true
adds_prepared other = false

abbrev pub takes_prepared : Step → Bool
takes_prepared take_pending_prepared = true
takes_prepared other = false

abbrev pub delays_pending : Step → Bool
delays_pending (delay_pending pair) = true
delays_pending other = false

abbrev pub is_name : Option (List ℕ) → List ℕ → Bool
is_name None name = false
is_name (Some other) name = bytes_eq other name

-- the transaction is prepared, decided or left
abbrev pub ends_transaction : List Entry → List ℕ → Step → Bool
ends_transaction history name (store_published entry others) = is_name (transaction_of history entry) name
ends_transaction history name (free_transaction other) = bytes_eq other name
ends_transaction history name (leave_name other) = bytes_eq other name
ends_transaction history name other = false

-- the key is freed, or changed by what is published
abbrev pub ends_unchanged : List Entry → List ℕ → Step → Bool
ends_unchanged history key (store_published entry others) = is_changed (changes_of history entry) key
ends_unchanged history key (free_key name t freed) = bytes_eq freed key
ends_unchanged history key other = false

abbrev pub frees_direct : Step → Bool
frees_direct (free_direct key) = true
frees_direct other = false

abbrev pub moves_versions : Step → Bool
moves_versions (move_versions memory tables) = true
moves_versions other = false

abbrev pub replaces_versions : Step → Bool
replaces_versions (replace_versions tables floor) = true
replaces_versions other = false

abbrev pub installs : Step → Bool
installs (install edit compacts) = true
installs (renew edit) = true
installs other = false

abbrev pub ends_itself : List Entry → ℕ → Step → Fact → Bool
ends_itself history words step (passed place pair) = stores_at words place step
ends_itself history words step (in_old_commits place pair) = stores_at words place step
ends_itself history words step (apart place pair) = stores_at words place step
ends_itself history words step (words_stay max cache) = stores_words step
ends_itself history words step (has_left p) = false
ends_itself history words step versions_in_memory = ends_pending step || takes_versions step
ends_itself history words step versions_nowhere = ends_pending step || adds_versions step
ends_itself history words step number_in_heap = ends_pending step || takes_prepared step
ends_itself history words step number_not_in_heap = ends_pending step || adds_prepared step
ends_itself history words step pair_delayed = ends_pending step
ends_itself history words step pair_not_delayed = ends_pending step || delays_pending step
ends_itself history words step none_waits = stores_words step || ends_pending step
ends_itself history words step (undecided_at name p) = ends_transaction history name step
ends_itself history words step (prior_values name p batch) = ends_transaction history name step
ends_itself history words step (unprepared name) = ends_transaction history name step
ends_itself history words step (direct_free key) = frees_direct step
ends_itself history words step (unchanged name key n) = ends_transaction history name step || ends_unchanged history key step
ends_itself history words step (locks_stay name p keys) = false
ends_itself history words step (tables_stay versions floor) = moves_versions step || replaces_versions step
ends_itself history words step (live_listed floor listed) = false
ends_itself history words step nothing_flushed = moves_versions step || installs step
ends_itself history words step (frozen_stay n versions) = moves_versions step
ends_itself history words step (delayed_flag_stays value) = stores_delayed_flag step
ends_itself history words step (old_flag_stays value) = stores_old_flag step

abbrev pub ends : List Entry → ℕ → Step → Fact → Bool
ends history words step fact = gives_guard (guarded_by fact) step || ends_itself history words step fact

-- the actor with what is left of its notes
abbrev pub forgets : List Entry → ℕ → Step → Actor → Actor
forgets history words step a = record a { notes = filter (λ fact. not (ends history words step fact)) a.notes }
