-- Each step keeps a world sound, and so do runs of steps.
use Rattle.std.proofs.Common.{◌≡◌, ℕ, length, sym, subst}
use mathlib.Core.Option.{some}
use lib.ListN.{get_elem?}
use Rattle.wp_core.specs.World.{Actor, World}
use Rattle.wp_core.specs.Steps.{Step, load_published, register, begin_reading, load, end_reading, store_published, store_max_evicted, store_word, store_delayed_flag, store_old_flag, take_turn, give_turn, make_pending, log_pending, close_log, find_log_closed, find_base, drop_pending, write_segment, use_segment, stop_log, add_prepared, take_pending_prepared, add_delayed_commit, delay_pending, take_out, register_again, release, add_old_commit, add_versions, take_versions, move_versions, replace_versions, install, renew, halt, find_edit, claim_name, take_name, leave_name, free_transaction, lock_key, free_key, lock_direct, free_direct, find_holder, tell, hear, set_batch, note, make_note, make_seat, set_client, learn, join_seat}
use Rattle.wp_core.specs.Effects.{done}
use Rattle.wp_core.specs.Needs.{Needs}
use Rattle.wp_core.specs.Notes.{forgets}
use Rattle.wp_core.specs.Runs.{IsStep, ReachesFrom, stays, goes_on, Reaches}
use Rattle.wp_core.specs.IsSound.{IsSound}
use Rattle.wp_core.proofs.KeepsSeen.{loads_published}
use Rattle.wp_core.proofs.KeepsSnapshots.{registers_now, registers_again}
use Rattle.wp_core.proofs.Readings.{begins_reading, ends_reading}
use Rattle.wp_core.proofs.Loads.{load_keeps}
use Rattle.wp_core.proofs.KeepsPublished.{stores_published}
use Rattle.wp_core.proofs.KeepsMax.{stores_max}
use Rattle.wp_core.proofs.StoresWord.{stores_word}
use Rattle.wp_core.proofs.StoresFlag.{stores_delayed_flag, stores_old_flag}
use Rattle.wp_core.proofs.TakesTurn.{takes_turn}
use Rattle.wp_core.proofs.KeepsGive.{gives}
use Rattle.wp_core.proofs.PendingSteps.{makes_pending, logs_pending}
use Rattle.wp_core.proofs.ClosesLog.{closes_log_by_fault, stops_log}
use Rattle.wp_core.proofs.KeepsRemembered.{finds_log_closed, finds_base, finds_edit, hears, finds_holder}
use Rattle.wp_core.proofs.DropsPending.{drops_pending}
use Rattle.wp_core.proofs.WritesSegment.{writes_segment}
use Rattle.wp_core.proofs.PendingPrepared.{adds_prepared, takes_pending_prepared}
use Rattle.wp_core.proofs.PreparedSteps.{takes_out, adds_delayed_commit, delays_pending_pair}
use Rattle.wp_core.proofs.OldCommits.{releases_one, notes_old_commit}
use Rattle.wp_core.proofs.PendingVersions.{adds_versions, takes_versions}
use Rattle.wp_core.proofs.MovesVersions.{moves_versions, replaces_versions}
use Rattle.wp_core.proofs.InstallsEdit.{installs, halts}
use Rattle.wp_core.proofs.RenewsLog.{renews, uses_segment}
use Rattle.wp_core.proofs.KeepsClaimed.{claims_name}
use Rattle.wp_core.proofs.KeepsNameTaken.{takes_name}
use Rattle.wp_core.proofs.KeepsNameLeft.{leaves_name}
use Rattle.wp_core.proofs.KeepsNameFreed.{frees_transaction}
use Rattle.wp_core.proofs.KeepsKeyLock.{locks_key}
use Rattle.wp_core.proofs.KeepsKeyFree.{frees_key}
use Rattle.wp_core.proofs.KeepsDirectLock.{locks_direct}
use Rattle.wp_core.proofs.KeepsDirectFree.{frees_direct}
use Rattle.wp_core.proofs.KeepsTold.{tells}
use Rattle.wp_core.proofs.KeepsBatch.{sets_batch}
use Rattle.wp_core.proofs.KeepsNoted.{notes}
use Rattle.wp_core.proofs.MakesActors.{makes_note, makes_seat}
use Rattle.wp_core.proofs.SetsClient.{sets_client}
use Rattle.wp_core.proofs.Learns.{learns}
use Rattle.wp_core.proofs.JoinsSeat.{joins_seat}
use Rattle.wp_core.proofs.Opened.{opening_is_sound}

kept : (w : World) (by : ℕ) (a : Actor) (step : Step) → get_elem? w.actors by ≡ some a → Needs w by a step → IsSound w → IsSound (done w by (forgets w.writes.history (length w.cache) step a) step)
kept w by a load_published at needs s = loads_published w by a at s
kept w by a (register smallest) at needs s = registers_now w by a smallest at needs s
kept w by a (begin_reading bits p snapshot) at needs s = begins_reading w by a bits p snapshot at needs s
kept w by a (load which) at needs s = load_keeps w by a which at needs s
kept w by a end_reading at needs s = ends_reading w by a at s
kept w by a (store_published entry others) at needs s = stores_published w by a entry others at needs s
kept w by a (store_max_evicted m) at needs s = stores_max w by a m at needs s
kept w by a (store_word pair) at needs s = stores_word w by a pair at needs s
kept w by a (store_delayed_flag value) at needs s = stores_delayed_flag w by a value at needs s
kept w by a (store_old_flag value) at needs s = stores_old_flag w by a value at needs s
kept w by a (take_turn turn) at needs s = takes_turn w by a turn at needs s
kept w by a (give_turn turn) at needs s = gives w by a turn at needs s
kept w by a (make_pending entries) at needs s = makes_pending w by a entries at needs s
kept w by a log_pending at needs s = logs_pending w by a at needs s
kept w by a close_log at needs s = closes_log_by_fault w by a at needs s
kept w by a find_log_closed at needs s = finds_log_closed w by a at needs s
kept w by a find_base at needs s = finds_base w by a at needs s
kept w by a drop_pending at needs s = drops_pending w by a at needs s
kept w by a (write_segment place) at needs s = writes_segment w by a place at needs s
kept w by a use_segment at needs s = uses_segment w by a at needs s
kept w by a stop_log at needs s = stops_log w by a at needs s
kept w by a add_prepared at needs s = adds_prepared w by a at needs s
kept w by a take_pending_prepared at needs s = takes_pending_prepared w by a at needs s
kept w by a (add_delayed_commit pair) at needs s = adds_delayed_commit w by a pair at needs s
kept w by a (delay_pending pair) at needs s = delays_pending_pair w by a pair at needs s
kept w by a (take_out p) at needs s = takes_out w by a p at needs s
kept w by a (register_again n) at needs s = registers_again w by a n at needs s
kept w by a (release front r back) at needs s = releases_one w by a front back r at needs s
kept w by a (add_old_commit n p) at needs s = notes_old_commit w by a n p at needs s
kept w by a (add_versions memory) at needs s = adds_versions w by a memory at needs s
kept w by a (take_versions memory) at needs s = takes_versions w by a memory at needs s
kept w by a (move_versions memory tables) at needs s = moves_versions w by a memory tables at needs s
kept w by a (replace_versions tables floor) at needs s = replaces_versions w by a tables floor at needs s
kept w by a (install edit compacts) at needs s = installs w by a edit compacts at needs s
kept w by a (renew edit) at needs s = renews w by a edit at needs s
kept w by a (halt edit) at needs s = halts w by a edit at needs s
kept w by a find_edit at needs s = finds_edit w by a at needs s
kept w by a (claim_name name) at needs s = claims_name w by a name at needs s
kept w by a (take_name name p) at needs s = takes_name w by a name p at needs s
kept w by a (leave_name name) at needs s = leaves_name w by a name at needs s
kept w by a (free_transaction name) at needs s = frees_transaction w by a name at needs s
kept w by a (lock_key name t key) at needs s = locks_key w by a name t key at needs s
kept w by a (free_key name t key) at needs s = frees_key w by a name t key at needs s
kept w by a (lock_direct key) at needs s = locks_direct w by a key at needs s
kept w by a (free_direct key) at needs s = frees_direct w by a key at needs s
kept w by a (find_holder key holder account) at needs s = finds_holder w by a key holder account at needs s
kept w by a (tell label) at needs s = tells w by a label at needs s
kept w by a (hear label n) at needs s = hears w by a label n at needs s
kept w by a (set_batch name t batch) at needs s = sets_batch w by a name t batch at needs s
kept w by a (note fact) at needs s = notes w by a fact at needs s
kept w by a make_note at needs s = makes_note w by a at needs s
kept w by a make_seat at needs s = makes_seat w by a at needs s
kept w by a (set_client client) at needs s = sets_client w by a client at needs s
kept w by a (learn other b) at needs s = learns w by a other b at needs s
kept w by a (join_seat other b) at needs s = joins_seat w by a other b at needs s

pub step_keeps : (w : World) (by : ℕ) (step : Step) (next : World) → IsStep w by step next → IsSound w → IsSound next
step_keeps w by step next g s = subst IsSound (sym g.3) (kept w by g.0 step g.1 g.2 s)

pub run_keeps : {w later : World} → ReachesFrom w later → IsSound w → IsSound later
run_keeps {w} stays s = s
run_keeps {w} (goes_on {last} {next} by step before goes) s = step_keeps last by step next goes (run_keeps before s)

pub reached_is_sound : (w : World) → Reaches w → IsSound w
reached_is_sound w k = run_keeps k.2 (opening_is_sound k.0 k.1)
