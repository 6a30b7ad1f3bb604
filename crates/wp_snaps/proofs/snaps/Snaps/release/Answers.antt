use Rattle.std.proofs.Common.{◌<◌, Some, None, is_some, sym, ap, ◌∙◌, arith}
use Rattle.std.proofs.lemmas.Bool.{iff_false}
use Rattle.wp_model.specs.Snapshots.{after_release}
use Rattle.std.specs.Int.{from_bool}
use Rattle.wp_snaps.proofs.KeptNumbers.{had_counted, len-release_shared, len-release_last}
use Rattle.wp_snaps.proofs.Shown.{shown, changes_at, updated_twice, is_live, is_some-option_map, after_release-shared, after_release-last}
use Rattle.wp_snaps.proofs.snaps.Snaps.release.Goals as goal
use Rattle.wp_snaps.proofs.snaps.Snaps.release.Goals.{in-Some-1, in-None-1}

pub unwrap-snapshot-requires : goal.unwrap-snapshot-requires
unwrap-snapshot-requires c =
    sym (is_some-option_map (λ x. x.now) c.get_mut.result) ∙ ap is_some c.get_mut.ensures.value ∙ sym (is_live _ _ c.args.s c.self.view_is) ∙ c.requires

pub returns-then-is_registered_once : goal.returns-then-is_registered_once
returns-then-is_registered_once c =
    let found = rw c.unwrap-snapshot.ensures at c.get_mut.ensures.value in
    let written = c.get_mut.follows.holds c.unwrap-snapshot.result.now in
    let updated = updated_twice _ _ _ c.args.s _ None (written.3 (ap is_some (sym found))).0 c.remove.ensures.updates.0 in
    let last = sym (after_release-last c.unwrap-snapshot.result.now.snapshot (c.is_registered_once.ensures.0 c.if-is_registered_once.true)) in
    let changes = changes_at _ _ c.args.s None after_release updated (last ∙ ap (λ x. after_release (shown x)) found) in
    elim c.match-remove.branch [
      | in-Some-1 w ↦ rw (w.self-is, ← c.self.view_is) changes
      | in-None-1 w ↦ rw (w.self-is, ← c.self.view_is) changes
    ]

pub returns-else-is_registered_once : goal.returns-else-is_registered_once
returns-else-is_registered_once c =
    let found = rw c.unwrap-snapshot.ensures at c.get_mut.ensures.value in
    let written = c.get_mut.follows.holds c.release.new.self in
    let shared : 1 < c.unwrap-snapshot.result.now.snapshot.registrations = omega (arith, iff_false c.is_registered_once.ensures c.if-is_registered_once.false) in
    rw (← c.self.view_is) (changes_at _ _ c.args.s (Some c.release.new.self) after_release (written.3 (ap is_some (sym found))).0 (ap (λ x. Some x.snapshot) c.release.ensures ∙ sym (after_release-shared c.unwrap-snapshot.result.now.snapshot shared) ∙ ap (λ x. after_release (shown x)) found))

pub overflow_sub-self : goal.overflow_sub-self
overflow_sub-self c =
    let found = rw c.unwrap-snapshot.ensures at c.get_mut.ensures.value in
    let had = had_counted c.self.inside.live.entries c.args.s c.unwrap-snapshot.result.now found in
    omega (arith, had, c.self.invariant, c.from.ensures, ap from_bool c.keeps_any.ensures)

pub invariant_of-self : goal.invariant_of-self
invariant_of-self c =
    let found = rw c.unwrap-snapshot.ensures at c.get_mut.ensures.value in
    let written = c.get_mut.follows.holds c.unwrap-snapshot.result.now in
    let updated = updated_twice _ _ _ c.args.s _ None (written.3 (ap is_some (sym found))).0 c.remove.ensures.updates.0 in
    let once = c.is_registered_once.ensures.0 c.if-is_registered_once.true in
    let last = sym (after_release-last c.unwrap-snapshot.result.now.snapshot once) in
    let changes = changes_at c.self.inside.live.entries c.remove.new.self.entries c.args.s None after_release updated (last ∙ ap (λ x. after_release (shown x)) found) in
    let counted = len-release_last c.self.inside.live.entries c.remove.new.self.entries c.args.s c.unwrap-snapshot.result.now found changes once in
    omega (arith, counted, c.self.invariant, c.from.ensures, ap from_bool c.keeps_any.ensures)

pub invariant_of-self-else-is_registered_once : goal.invariant_of-self-else-is_registered_once
invariant_of-self-else-is_registered_once c =
    let found = rw c.unwrap-snapshot.ensures at c.get_mut.ensures.value in
    let written = c.get_mut.follows.holds c.release.new.self in
    let shared : 1 < c.unwrap-snapshot.result.now.snapshot.registrations = omega (arith, iff_false c.is_registered_once.ensures c.if-is_registered_once.false) in
    let changes = changes_at _ _ c.args.s (Some c.release.new.self) after_release (written.3 (ap is_some (sym found))).0 (ap (λ x. Some x.snapshot) c.release.ensures ∙ sym (after_release-shared c.unwrap-snapshot.result.now.snapshot shared) ∙ ap (λ x. after_release (shown x)) found) in
    c.self.invariant ∙ sym (len-release_shared c.self.inside.live.entries _ c.args.s c.unwrap-snapshot.result.now found changes shared)
