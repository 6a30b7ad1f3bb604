use Rattle.std.proofs.Common.{Some, is_some, sym, ap, ◌∙◌}
use Rattle.std.proofs.lemmas.Result.{on_ok_weaker, on_err_weaker}
use Rattle.wp_model.specs.Snapshots.{after_register}
use Rattle.wp_snaps.proofs.KeptNumbers.{len-register, len-same, under-register}
use Rattle.wp_snaps.proofs.Shown.{shown, changes_at, shows_no_change}
use Rattle.wp_snaps.proofs.snaps.Snaps.register.Goals as goal

pub returns-in-Some-clause-ok : goal.returns-in-Some-clause-ok
returns-in-Some-clause-ok c =
    let found = c.in-Some.ensures.value in
    let written = c.get_mut.follows.holds c.register.new.self in
    rw (← c.self.view_is) (on_ok_weaker c.register.result (λ raised. changes_at _ _ c.args.s (Some c.register.new.self) after_register (written.3 (ap is_some (sym found))).0 (ap Some raised ∙ ap (λ x. after_register (shown x)) found)) c.register.ensures.ok)

pub returns-in-Some-clause-err : goal.returns-in-Some-clause-err
returns-in-Some-clause-err c =
    let found = c.in-Some.ensures.value in
    let written = c.get_mut.follows.holds c.register.new.self in
    rw (← c.self.view_is) (on_err_weaker c.register.result (λ same. shows_no_change _ _ c.args.s (Some c.register.new.self) (written.3 (ap is_some (sym found))).0 (ap (λ x. shown (Some x)) same ∙ ap shown found)) c.register.ensures.err)

pub returns-clause-ok : goal.returns-clause-ok
returns-clause-ok c =
    let absent = c.in_default.ensures.value in
    let updated = rw c.get_mut.follows.holds-at-none at c.in_ok-insert.ensures.updates in
    rw (← c.self.view_is) (changes_at _ _ c.args.s (Some c.new.result) after_register updated.0 (ap Some c.new.ensures ∙ ap (λ x. after_register (shown x)) absent))

pub invariant_of-self : goal.invariant_of-self
invariant_of-self c =
    let found = c.in-Some.ensures.value in
    let updated = ((c.get_mut.follows.holds c.register.new.self).3 (ap is_some (sym found))).0 in
    let changes = on_ok_weaker c.register.result (λ raised. changes_at _ _ c.args.s (Some c.register.new.self) after_register updated (ap Some raised ∙ ap (λ x. after_register (shown x)) found)) c.register.ensures.ok in
    let same = on_err_weaker c.register.result (λ is. shows_no_change _ _ c.args.s (Some c.register.new.self) updated (ap (λ x. shown (Some x)) is ∙ ap shown found)) c.register.ensures.err in
    c.self.invariant ∙ sym (len-register c.register.result _ _ c.args.s changes same)

pub invariant_of-self-2 : goal.invariant_of-self-2
invariant_of-self-2 c =
    let absent = c.in_default.ensures.value in
    let updated = rw c.get_mut.follows.holds-at-none at c.in_ok-insert.ensures.updates in
    let changes = changes_at _ _ c.args.s (Some c.new.result) after_register updated.0 (ap Some c.new.ensures ∙ ap (λ x. after_register (shown x)) absent) in
    c.self.invariant ∙ sym (len-same _ _ c.args.s after_register changes (under-register _))
