use Rattle.std.proofs.Common.{◌≡◌, ◌<◌, ◌≤◌, ◌∷◌, [], false, get_or, List, length, length-append, refl, ap, ◌∙◌, arith}
use Rattle.wp_model.specs.declared.version.Version.{Version}
use Rattle.wp_keep.specs.Chosen.{chosen}
use Rattle.wp_keep.specs.Keep.{by_commits}
use Rattle.wp_keep.proofs.Choosing.{chosen_last}
use Rattle.wp_keep.proofs.Ends.{remaining_chosen}
use Rattle.wp_keep.proofs.remaining.remaining.Goals as goal

pub loop-version-preserved : goal.loop-version-preserved
loop-version-preserved c =
    let stay = c.args.stay.now in let was = c.loop-version.versions.items in let rest = c.pop.new.self.items in let v = c.in-Some.version in let each = c.loop-version.invariant.each in
    let popped = c.in-Some.ensures.items in
    let long = ap (λ (vs : List Version). length vs) popped ∙ length-append rest (v ∷ []) in
    let lt : length rest < length stay = omega (arith, each, long) in
    let len = c.len-last.ensures in let ok = c.pop.new.self.ok.0 in let at : c.len-last.result ≡ length rest = omega (arith, len, ok) in record {
      each = let le : length rest ≤ length stay = omega (arith, lt) in le;
      remaining = remaining_chosen (by_commits c.args.commits.now) (chosen c.args.versions.items stay) c.args.floor (chosen was stay) (chosen rest stay) c.loop-version.retained.items c.push_lasting.new.retained.items v _ _ c.requires.in_order
          (ap (λ (vs : List Version). chosen vs stay) popped ∙ chosen_last rest stay v _ false lt (ap (λ n. get_or stay n false) at)) refl c.in_ok-push_lasting.ensures c.loop-version.invariant.remaining;
    }
