use Rattle.std.proofs.Common.{ap, sym, ◌∙◌, Ok}
use Rattle.wp_core.specs.Steps as step
use Rattle.wp_machine.specs.Parts.{account_of}
use Rattle.wp_machine.specs.Machine.{locks_step}
use Rattle.wp_machine.proofs.Acting.{same_effect}
use Rattle.wp_machine.proofs.effects.locks.locks.Goals as goal

pub returns-in-ClaimName : goal.returns-in-ClaimName
returns-in-ClaimName c s e =
    same_effect c.claim_name.result c.args.world.now c.claim_name.new.world c.args.actor.now c.claim_name.new.actor (step.claim_name c.in-ClaimName.name) s (ap (locks_step c.args.world.now.locks c.args.actor.now.participant) (sym c.in-ClaimName.is) ∙ e) c.claim_name.ensures

pub returns-in-TakeName : goal.returns-in-TakeName
returns-in-TakeName c s e =
    same_effect c.take_name.result c.args.world.now c.take_name.new.world c.args.actor.now c.take_name.new.actor (step.take_name c.in-TakeName.name c.in-TakeName.p) s (ap (locks_step c.args.world.now.locks c.args.actor.now.participant) (sym c.in-TakeName.is) ∙ e) c.take_name.ensures

pub returns-in-LeaveName : goal.returns-in-LeaveName
returns-in-LeaveName c s e =
    same_effect c.leave_name.result c.args.world.now c.leave_name.new.world c.args.actor.now c.leave_name.new.actor (step.leave_name c.in-LeaveName.name) s (ap (locks_step c.args.world.now.locks c.args.actor.now.participant) (sym c.in-LeaveName.is) ∙ e) c.leave_name.ensures

pub returns-in-FreeTransaction : goal.returns-in-FreeTransaction
returns-in-FreeTransaction c s e =
    same_effect c.free_transaction.result c.args.world.now c.free_transaction.new.world c.args.actor.now c.free_transaction.new.actor (step.free_transaction c.in-FreeTransaction.name) s (ap (locks_step c.args.world.now.locks c.args.actor.now.participant) (sym c.in-FreeTransaction.is) ∙ e) c.free_transaction.ensures

pub returns-in-LockKey : goal.returns-in-LockKey
returns-in-LockKey c s e = c.lock_key.ensures s (ap (locks_step c.args.world.now.locks c.args.actor.now.participant) (sym c.in-LockKey.is) ∙ e)

pub returns-in-FreeKey : goal.returns-in-FreeKey
returns-in-FreeKey c s e = c.free_key.ensures s (ap (locks_step c.args.world.now.locks c.args.actor.now.participant) (sym c.in-FreeKey.is) ∙ e)

pub returns-in-LockDirect : goal.returns-in-LockDirect
returns-in-LockDirect c s e =
    same_effect c.lock_direct.result c.args.world.now c.lock_direct.new.world c.args.actor.now c.lock_direct.new.actor (step.lock_direct c.in-LockDirect.key) s (ap (locks_step c.args.world.now.locks c.args.actor.now.participant) (sym c.in-LockDirect.is) ∙ e) c.lock_direct.ensures

pub returns-in-FreeDirect : goal.returns-in-FreeDirect
returns-in-FreeDirect c s e =
    same_effect (Ok tt) c.args.world.now c.free_direct.new.world c.args.actor.now c.free_direct.new.actor (step.free_direct c.in-FreeDirect.key) s (ap (locks_step c.args.world.now.locks c.args.actor.now.participant) (sym c.in-FreeDirect.is) ∙ e) c.free_direct.ensures

pub returns-in-FindHolder : goal.returns-in-FindHolder
returns-in-FindHolder c s e =
    same_effect c.find_holder.result c.args.world.now c.find_holder.new.world c.args.actor.now c.find_holder.new.actor (step.find_holder c.in-FindHolder.key c.in-FindHolder.holder (account_of c.in-FindHolder.account)) s (ap (locks_step c.args.world.now.locks c.args.actor.now.participant) (sym c.in-FindHolder.is) ∙ e) c.find_holder.ensures

pub returns-in-Tell : goal.returns-in-Tell
returns-in-Tell c s e =
    same_effect c.tell.result c.args.world.now c.tell.new.world c.args.actor.now c.tell.new.actor (step.tell c.in-Tell.label) s (ap (locks_step c.args.world.now.locks c.args.actor.now.participant) (sym c.in-Tell.is) ∙ e) c.tell.ensures

pub returns-in-Hear : goal.returns-in-Hear
returns-in-Hear c s e = c.hear.ensures s (ap (locks_step c.args.world.now.locks c.args.actor.now.participant) (sym c.in-Hear.is) ∙ e)
