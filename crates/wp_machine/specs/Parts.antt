-- What the enums of the code are in the machine.
use Rattle.std.specs.Prelude.{true, false}
use Rattle.wp_judge.specs.Words.{commit_pair}
use Rattle.wp_machine.specs.declared.content.Guarded.{Guarded}
use Rattle.wp_machine.specs.declared.content.Guarded.TheVariants as table
use Rattle.wp_machine.specs.declared.views.Account as code_account
use Rattle.wp_machine.specs.declared.views.Account.TheVariants as account
use Rattle.wp_machine.specs.declared.views.Found.{Found}
use Rattle.wp_machine.specs.declared.views.Found.TheVariants as found
use Rattle.wp_machine.specs.declared.views.Noted.{Noted}
use Rattle.wp_machine.specs.declared.views.Noted.TheVariants as noted
use Rattle.wp_core.specs.States.{Content}
use Rattle.wp_core.specs.States as content
use Rattle.wp_core.specs.Views.{Account, Event, Fact}
use Rattle.wp_core.specs.Views as view

abbrev pub content_of : Guarded → Content
content_of (table.Writes t) = content.writes t.value
content_of (table.Prepared t) = content.prepared t.value
content_of (table.Snapshots t) = content.snapshots t.value
content_of (table.Store t) = content.store t.value
content_of (table.Locks t) = content.locks t.value
content_of (table.Installed t) = content.installed t.value

abbrev pub account_of : code_account.Account → Account
account_of account.Own = view.own
account_of account.Another = view.another
account_of (account.PrepareAt n) = view.prepare_at n

abbrev pub event_of : Found → Event
event_of (found.Claimed name) = view.claimed name.value
event_of (found.Took name) = view.took name.value
event_of (found.Locked key holder) = view.locked key holder
event_of (found.Told label n) = view.told label.value n
event_of (found.Heard label n) = view.heard label.value n
event_of (found.Flushed edit) = view.installed edit.value false
event_of (found.Compacted edit tables) = view.installed (record edit.value { tables = tables }) true
event_of (found.Renewed edit) = view.renewed edit.value
event_of (found.LogFailed entries) = view.log_failed entries.value.items
event_of found.LogStopped = view.log_stopped
event_of (found.TablesFailed last edit) = view.tables_failed last.value edit.value
event_of (found.Stopped n) = view.stopped n
event_of (found.Base n base) = view.based_at n base
event_of (found.Edit flushed base tables due halted) = view.found_edit flushed base tables due halted
event_of (found.Holder key holder seen account) = view.found key.value holder.value seen (account_of account)

abbrev pub fact_of : Noted → Fact
fact_of (noted.Passed place p c) = view.passed place (commit_pair p c)
fact_of (noted.InOldCommits place p c) = view.in_old_commits place (commit_pair p c)
fact_of (noted.Apart place p c) = view.apart place (commit_pair p c)
fact_of (noted.WordsStay max words) = view.words_stay max words.items
fact_of (noted.HasLeft p) = view.has_left p
fact_of noted.VersionsInMemory = view.versions_in_memory
fact_of noted.VersionsNowhere = view.versions_nowhere
fact_of noted.NumberInHeap = view.number_in_heap
fact_of noted.NumberNotInHeap = view.number_not_in_heap
fact_of noted.PairDelayed = view.pair_delayed
fact_of noted.PairNotDelayed = view.pair_not_delayed
fact_of noted.NoneWaits = view.none_waits
fact_of (noted.UndecidedAt name p) = view.undecided_at name p
fact_of (noted.PriorValues name p batch) = view.prior_values name p batch
fact_of (noted.Unprepared name) = view.unprepared name
fact_of (noted.DirectFree key) = view.direct_free key
fact_of (noted.Unchanged name key n) = view.unchanged name key n
fact_of (noted.LocksStay name p keys) = view.locks_stay name p keys.items
fact_of (noted.TablesStay versions floor) = view.tables_stay versions.items floor
fact_of (noted.LiveListed floor listed) = view.live_listed floor listed.items
fact_of noted.NothingFlushed = view.nothing_flushed
fact_of (noted.FrozenStay n versions) = view.frozen_stay n versions.items
fact_of (noted.DelayedFlagStays value) = view.delayed_flag_stays value
fact_of (noted.OldFlagStays value) = view.old_flag_stays value
