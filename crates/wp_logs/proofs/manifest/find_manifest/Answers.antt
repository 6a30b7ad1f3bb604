use Rattle.std.proofs.Common.{◌≡◌, ◌↔◌, true, false, refl, ◌∙◌, true≢false}
use Rattle.wp_gatelog.specs.Spelling.{IsUnmade}
use Rattle.wp_gatelog.proofs.MomentLemmas.{known_map}
use Rattle.wp_refused.proofs.Stages.{cause_since, kept_since, seen_durable, seen_only}
use Rattle.wp_logs.proofs.manifest.find_manifest.Goals as goal

pub returns-in-Ok-clause-made : goal.returns-in-Ok-clause-made
returns-in-Ok-clause-made g c =
    let old = g.D.Peek.moments c.args.disk in
    let looked = c.is_made.ensures in
    let same = looked.unchanged in (
      rw same at c.in-Ok.ensures.opened,
      known_map (λ m. (true ≡ false) ↔ IsUnmade m.reads) (λ m. IsUnmade m.reads → ⊥) (λ m is unmade. true≢false (is.1 unmade)) old (rw c.in-Ok-true.field-0-test at c.in-Ok-true.ensures.made),
      kept_since c.args.id _ _ _ old c.in-Ok.manifest.log.moments looked.cause.later (rw same at c.in-Ok.ensures.kept),
      c.in-Ok.ensures.unfailed ∙ c.in-Ok-true.ensures.cause.ok,
    )

pub returns-in-Err-open-clause-refused : goal.returns-in-Err-open-clause-refused
returns-in-Err-open-clause-refused g c =
    let looked = c.is_made.ensures in
    let unopened = rw looked.unchanged at c.in-Err-open.ensures.refused in
    record { cause = cause_since _ _ _ _ c.in-Err-open.refused.why looked.cause.later unopened.cause; left = unopened.left }

pub returns-in-Err-open-clause-kept : goal.returns-in-Err-open-clause-kept
returns-in-Err-open-clause-kept g c =
    let looked = c.is_made.ensures in
    kept_since c.args.id _ _ _ _ _ looked.cause.later (rw looked.unchanged at c.in-Err-open.ensures.kept)

pub returns-in-Ok-false-clause-made : goal.returns-in-Ok-false-clause-made
returns-in-Ok-false-clause-made g c =
    let old = g.D.Peek.moments c.args.disk in
    (c.is_made.ensures.unchanged, c.in-Ok-false.ensures.cause.ok, known_map (λ m. (false ≡ false) ↔ IsUnmade m.reads) (λ m. IsUnmade m.reads) (λ m is. is.0 refl) old (rw c.in-Ok-false.field-0-test at c.in-Ok-false.ensures.made))

pub returns-in-Err-clause-kept : goal.returns-in-Err-clause-kept
returns-in-Err-clause-kept g c = record {
  survives = seen_only c.args.id _ _ c.is_made.ensures.unchanged;
  durable = seen_durable _ _ c.is_made.ensures.unchanged;
  later = c.is_made.ensures.cause.later;
}
