use Rattle.std.proofs.Common.{◌≡◌, ℕ, sym, subst, refl, replicate, ◌≤◌, ◌^◌}
use Rattle.std.proofs.lemmas.List.{length-replicate}
use Rattle.std.proofs.lemmas.List.Elements.{All-replicate}
use Rattle.std.proofs.lemmas.Result.{IfOk-weaker}
use Rattle.wp_core.specs.Runs.{IsOpening}
use Rattle.wp_core.proofs.Openings.{world_opened}
use Rattle.wp_machine.proofs.Bits.{some_words}
use Rattle.wp_machine.proofs.world.World.opened.Goals as goal

pub returns-clause-opening : goal.returns-clause-opening
returns-clause-opening c =
    let some = subst (λ n. 1 ≤ n) (sym (length-replicate (2 ^ c.args.bits) 0)) (some_words c.args.bits) in
    IfOk-weaker c.on.result _ _ (λ w is. subst IsOpening (sym is) (world_opened c.args.history.now.entries (replicate (2 ^ c.args.bits) 0) c.args.client c.on.ensures.legal c.requires.closed some (All-replicate (λ (word : ℕ). word ≡ 0) (2 ^ c.args.bits) 0 refl))) c.on.ensures.world
