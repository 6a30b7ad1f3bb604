use Rattle.std.proofs.Common.{rules, ◌≡◌, true, length, Some, option_map}
use Rattle.wp_judge.specs.Words.{commit_pair, fits, numbers_of}
use Rattle.wp_core.specs.Turns.{Holds, write_turn}
use Rattle.wp_core.specs.Entries.{pending_pair}
use Rattle.wp_machine_permits.proofs.Held.{stores}
use Rattle.wp_machine_permits.proofs.permitted.word.may_store_word.Goals as goal

pub returns : goal.returns
returns c clear a =
    let there : Some (c.in-Some.p, c.in-Some.c) ≡ option_map numbers_of (pending_pair c.args.world.now.writes.history c.args.world.now.writes.pending) = search rules in
    let turn : Holds c.args.world.now.holders write_turn c.args.by = search rules in
    let narrow : fits (length c.args.world.now.cache) (commit_pair c.in-Some.p c.in-Some.c) ≡ true = search rules in
    stores c.args.world.now c.args.by a c.in-Some.p c.in-Some.c there turn narrow (c.in_ok-clear.ensures clear)
