use Rattle.std.proofs.Common.{ℕ, sym, subst}
use Rattle.std.specs.Bool.{Decides}
use Rattle.wp_history.proofs.Full.{undone_at_later, none_at_later}
use Rattle.wp_cover.specs.Present.{HasChanges}
use Rattle.wp_cover.specs.Sources.{all_of}
use Rattle.wp_cover.proofs.Based.{last_behind}
use Rattle.wp_cover.proofs.Presence.{nothing_undone, ends_undone, ends_otherwise}
use Rattle.wp_cover.proofs.present.has_undone.Goals as goal

pub returns-in_default : goal.returns-in_default
returns-in_default c =
    let h = c.args.sources.now.history.now in
    nothing_undone h.entries (all_of c.args.sources.now) (sym (none_at_later h.entries h.base c.later.result.now c.later.ensures.starts c.later.ensures.value (sym c.in_default.ensures.value)))

pub returns-in_default-restored : goal.returns-in_default-restored
returns-in_default-restored c =
    let h = c.args.sources.now.history.now in
    ends_otherwise h.entries (all_of c.args.sources.now) c.in-Some.entry.now (undone_at_later h.entries h.base c.later.result.now c.in-Some.entry.now c.later.ensures.starts c.later.ensures.value (sym c.in-Some.ensures.value)) c.in_default-restored.ensures

pub returns : goal.returns
returns c =
    let h = c.args.sources.now.history.now in
    let at = last_behind h.entries c.later.result.now h.base c.in-Some.entry.now c.later.ensures.value (sym c.in-Some.ensures.value) in
    let has = subst (λ (n : ℕ). Decides c.has_changes.result (HasChanges (all_of c.args.sources.now) n c.in-Some-restored.batch.now)) c.published.ensures.value c.has_changes.ensures in
    ends_undone h.entries (all_of c.args.sources.now) c.in-Some.entry.now c.in-Some-restored.batch.now c.has_changes.result at c.in-Some-restored.ensures has
