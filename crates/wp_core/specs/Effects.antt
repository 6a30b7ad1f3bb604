-- What comes of a step.
use Rattle.std.specs.Prelude.{ℕ, suc, true, false, List, [], ◌∷◌, ◌++◌, length, slice_set, Option, Some, None, option_map, unwrap_or}
use Rattle.std.specs.FinSet as set
use Rattle.std.specs.FinMap as finite
use Rattle.wp_model.specs.declared.entry.Entry.{Entry}
use Rattle.wp_model.specs.History.{batch_at}
use Rattle.wp_model.specs.declared.holder.Holder.TheVariants.{Txn, Client}
use Rattle.wp_core.specs.Turns.{with_holder}
use Rattle.wp_core.specs.Cache.{with_pair}
use Rattle.wp_core.specs.States.{WriteState, Installed, writes, prepared, snapshots, store, locks, installed, without_prepared, with_moved}
use Rattle.wp_model.specs.Flushed.{InstalledEdit}
use Rattle.wp_core.specs.Reading.{reads}
use Rattle.wp_core.specs.Views.{claimed, took, locked, told, heard, renewed, log_failed, log_stopped, tables_failed, stopped, based_at, found_edit, found}
use Rattle.wp_core.specs.Views as event
use Rattle.wp_core.specs.World.{Actor, new_actor, World, published, content_of}
use Rattle.wp_core.specs.Steps.{Step, load_published, register, begin_reading, load, end_reading, store_published, store_max_evicted, store_word, store_delayed_flag, store_old_flag, take_turn, give_turn, make_pending, log_pending, close_log, find_log_closed, find_base, drop_pending, write_segment, use_segment, stop_log, add_prepared, take_pending_prepared, add_delayed_commit, delay_pending, take_out, register_again, release, add_old_commit, add_versions, take_versions, move_versions, replace_versions, install, renew, halt, find_edit, claim_name, take_name, leave_name, free_transaction, lock_key, free_key, lock_direct, free_direct, find_holder, tell, hear, set_batch, note, make_note, make_seat, set_client, learn, join_seat}
use Rattle.wp_core.specs.Sound.Pasts.{tables_due}
use Rattle.wp_core.specs.Changes.{with_actor, held_without, change, sees, remembers, registers, releases, has_transaction, has_no_transaction, has_direct, loaded, with_registered, with_released, with_old_commit, keys_of_holder, with_name, with_key, without_key, without_transaction, with_label, informed, joins, joined_actor, made_one}

-- ---- states

-- the entry is published, and those after it in its record are pending
abbrev pub with_entry : WriteState → Entry → List Entry → WriteState
with_entry t entry others = record t { history = t.history ++ entry ∷ []; pending = others }

abbrev pub with_failed : Installed → Option InstalledEdit → Installed
with_failed t None = record t { halted = true }
with_failed t (Some edit) = record t { failed = Some edit; halted = true }

abbrev pub publishes : List Entry → Entry → Actor → Actor
publishes history entry a = record a { participant = record a.participant { seen = history ++ entry ∷ []; own = a.participant.own ++ suc (length history) ∷ [] }; learned = [] }

-- ---- the world after it, where the actor is by and was a

abbrev pub done : World → ℕ → Actor → Step → World
done w by a load_published = with_actor w by (sees w.writes.history a)
done w by a (register smallest) = change w by (registers (sees w.writes.history a) (record { number = published w; smallest = smallest })) (snapshots (with_registered w.snapshots (published w)))
done w by a (begin_reading bits p snapshot) = with_actor w by (record a { reading = Some (reads bits p snapshot) })
done w by a (load which) = with_actor w by (record a { reading = option_map (loaded w which) a.reading })
done w by a end_reading = with_actor w by (record a { reading = None })
done w by a (store_published entry others) = change w by (publishes w.writes.history entry a) (writes (with_entry w.writes entry others))
done w by a (store_max_evicted m) = change (record w { max_evicted = m }) by a (prepared (with_moved w.prepared m))
done w by a (store_word pair) = with_actor (record w { cache = with_pair w.cache pair }) by a
done w by a (store_delayed_flag value) = with_actor (record w { delayed_flag = value }) by a
done w by a (store_old_flag value) = with_actor (record w { old_flag = value }) by a
done w by a (take_turn turn) = with_actor (record w { holders = with_holder w.holders turn (Some by) }) by (record a { held = content_of w turn ∷ a.held })
done w by a (give_turn turn) = with_actor (record w { holders = with_holder w.holders turn None }) by (record a { held = held_without a.held turn })
done w by a (make_pending entries) = change w by a (writes (record w.writes { pending = entries; logged = false }))
done w by a log_pending = change w by a (writes (record w.writes { logged = true; log = w.writes.log ++ w.writes.pending }))
done w by a close_log = change w by (remembers a (log_failed w.writes.pending)) (writes (record w.writes { closed = true; failed = w.writes.pending }))
done w by a find_log_closed = with_actor w by (remembers a (stopped (published w)))
done w by a find_base = with_actor w by (remembers a (based_at (published w) w.writes.segment.base))
done w by a drop_pending = change w by a (writes (record w.writes { pending = [] }))
done w by a (write_segment place) = change w by a (writes (record w.writes { next = Some (record { place = place; base = published w }) }))
done w by a use_segment = change w by a (writes (record w.writes { segment = unwrap_or w.writes.next w.writes.segment; next = None }))
done w by a stop_log = change w by (remembers a log_stopped) (writes (record w.writes { closed = true; stopped = true }))
done w by a add_prepared = change w by a (prepared (record w.prepared { heap = set.insert w.prepared.heap (suc (published w)) }))
done w by a take_pending_prepared = change w by a (prepared (record w.prepared { heap = set.remove w.prepared.heap (suc (published w)) }))
done w by a (add_delayed_commit pair) = change w by a (prepared (record w.prepared { delayed_commits = finite.insert w.prepared.delayed_commits pair.number pair.decision }))
done w by a (delay_pending pair) = change w by a (prepared (record w.prepared { delayed_commits = finite.insert w.prepared.delayed_commits pair.number pair.decision }))
done w by a (take_out p) = change w by a (prepared (without_prepared w.prepared p))
done w by a (register_again s) = change w by (registers a (record { number = s; smallest = 1 })) (snapshots (with_registered w.snapshots s))
done w by a (release front r back) = change w by (releases a (front ++ back)) (snapshots (with_released w.snapshots r.number))
done w by a (add_old_commit s p) = change w by a (snapshots (with_old_commit w.snapshots s p))
done w by a (add_versions memory) = change w by a (store (record w.store { memory = memory }))
done w by a (take_versions memory) = change w by a (store (record w.store { memory = memory }))
done w by a (move_versions memory tables) = change w by a (store (record w.store { memory = memory; tables = tables }))
done w by a (replace_versions tables floor) = change w by a (store (record w.store { tables = tables; floor = floor }))
done w by a (install edit compacts) = change w by (remembers a (event.installed edit compacts)) (installed (record w.installed { last = edit }))
done w by a (renew edit) = change w by (remembers a (renewed edit)) (installed (record w.installed { last = edit }))
done w by a (halt edit) = change w by (remembers a (tables_failed w.installed.last edit)) (installed (with_failed w.installed edit))
done w by a find_edit = with_actor w by (remembers a (found_edit w.installed.last.flushed w.installed.last.segment.base w.installed.last.tables (tables_due w.first_edit a.participant.past) w.installed.halted))
done w by a (claim_name name) = change w by (remembers (has_transaction a name (record { batch = []; locked = set.empty })) (claimed name)) (locks (with_name w.locks name (Some a.participant.client)))
done w by a (take_name name p) = change w by (remembers (has_transaction a name (record { batch = batch_at w.writes.history p; locked = keys_of_holder w.locks (Txn name) })) (took name)) (locks (with_name w.locks name (Some a.participant.client)))
done w by a (leave_name name) = change w by (has_no_transaction a name) (locks (with_name w.locks name None))
done w by a (free_transaction name) = change w by (has_no_transaction a name) (locks (without_transaction w.locks name))
done w by a (lock_key name t key) = change w by (remembers (has_transaction a name (record t { locked = set.insert t.locked key })) (locked key (Txn name))) (locks (with_key w.locks key (Txn name)))
done w by a (free_key name t key) = change w by (has_transaction a name (record t { locked = set.remove t.locked key })) (locks (without_key w.locks key))
done w by a (lock_direct key) = change w by (remembers (has_direct a (Some key)) (locked key (Client a.participant.client))) (locks (with_key w.locks key (Client a.participant.client)))
done w by a (free_direct key) = change w by (has_direct a None) (locks (without_key w.locks key))
done w by a (find_holder key holder account) = with_actor w by (remembers a (found key holder (length a.participant.seen) account))
done w by a (tell label) = change w by (remembers a (told label (length a.participant.seen))) (locks (with_label w.locks label (length a.participant.seen)))
done w by a (hear label n) = with_actor w by (remembers a (heard label n))
done w by a (set_batch name t batch) = with_actor w by (has_transaction a name (record t { batch = batch }))
done w by a (note fact) = with_actor w by (record a { notes = fact ∷ a.notes })
done w by a make_note = record w { actors = w.actors ++ new_actor false a.participant.client a.participant.seen ∷ [] }
done w by a make_seat = record w { actors = slice_set w.actors by (made_one a) ++ new_actor true a.participant.client a.participant.seen ∷ [] }
done w by a (set_client client) = with_actor w by (record a { participant = record a.participant { client = client } })
done w by a (learn other b) = with_actor (with_actor w by (informed a b)) other joined_actor
done w by a (join_seat other b) = with_actor (with_actor w by (joins a b)) other joined_actor
