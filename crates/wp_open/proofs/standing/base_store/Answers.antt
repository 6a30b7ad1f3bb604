use Rattle.std.proofs.Common.{◌≡◌, true, false, [], sym, ◌∙◌, refl, arith}
use Rattle.wp_cuts.specs.Cut as cut
use Rattle.wp_history.specs.Outline.{cut_in}
use Rattle.wp_open.proofs.Base.{same_fixed}
use Rattle.wp_open.proofs.OverTables.{all_taken, none_taken, taken_other, taken_fixed}
use Rattle.wp_open.proofs.standing.base_store.Goals as goal

pub loop-version-init : goal.loop-version-init
loop-version-init c = none_taken (cut_in c.args.outline.now) c.args.versions c.into_vec-rest.result.items c.new-store.result c.into_vec-rest.ensures.value c.new-store.ensures.empty c.new-store.ensures.ordered

pub loop-version-preserved-in-Continue-1 : goal.loop-version-preserved-in-Continue-1
loop-version-preserved-in-Continue-1 c =
    let h = c.args.outline.now in
    let v = c.in-Some.version in
    let fixed : cut.is_fixed (cut_in h) v.number ≡ true = sym (same_fixed h (cut_in h) [] v.number c.requires.numbered refl c.requires.full) ∙ sym c.is_fixed.ensures ∙ c.if-is_fixed.true in
    taken_fixed (cut_in h) c.args.versions c.loop-version.rest.items _ v c.loop-version.store c.leave.new.store c.in-Some.ensures.items fixed c.loop-version.invariant c.in_ok-leave.ensures

pub loop-version-preserved-else-is_fixed : goal.loop-version-preserved-else-is_fixed
loop-version-preserved-else-is_fixed c =
    let h = c.args.outline.now in
    let v = c.in-Some.version in
    let other : cut.is_fixed (cut_in h) v.number ≡ false = sym (same_fixed h (cut_in h) [] v.number c.requires.numbered refl c.requires.full) ∙ sym c.is_fixed.ensures ∙ c.if-is_fixed.false in
    taken_other (cut_in h) c.args.versions c.loop-version.rest.items _ v c.loop-version.store c.in-Some.ensures.items other c.loop-version.invariant

pub loop-version-preserved : goal.loop-version-preserved
loop-version-preserved c =
    let h = c.args.outline.now in
    let v = c.in-Some.version in
    let other : cut.is_fixed (cut_in h) v.number ≡ false = sym (same_fixed h (cut_in h) [] v.number c.requires.numbered refl c.requires.full) ∙ sym c.is_fixed.ensures ∙ c.if-is_fixed.false in
    taken_other (cut_in h) c.args.versions c.loop-version.rest.items _ v c.loop-version.store c.in-Some.ensures.items other c.loop-version.invariant

pub returns : goal.returns
returns c = all_taken (cut_in c.args.outline.now) c.args.versions c.loop-version.rest.items c.loop-version.store (omega (arith, c.in_default.ensures.cases.0, c.loop-version.rest.ok.0)) c.loop-version.invariant
