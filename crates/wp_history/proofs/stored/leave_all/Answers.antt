use Rattle.std.proofs.Common.{◌≡◌, List, drop, sym, subst, arith}
use Rattle.std.proofs.lemmas.List.{drop_all}
use Rattle.wp_model.specs.declared.change.Change.{Change}
use Rattle.wp_history.specs.History.{IsStore}
use Rattle.wp_history.proofs.StoreMaps.{made, made_next}
use Rattle.wp_history.proofs.stored.leave_all.Goals as goal

pub loop-i-init : goal.loop-i-init
loop-i-init c = record {
  within = omega arith;
  made = λ values had. subst (λ (cs : List Change). IsStore (made cs values) c.args.store.now) (sym (drop_all _ c.args.changes.now (omega arith))) had;
}

pub loop-i-preserved : goal.loop-i-preserved
loop-i-preserved c = record {
  within = omega arith;
  made = λ values had. made_next c.args.changes.now _ c.loop-i.i c.index-changes-i.result values c.loop-i.store c.leave.new.store (omega arith) (omega arith) c.index-changes-i.is c.in_ok-leave.ensures (c.loop-i.invariant.made values had);
}

pub returns : goal.returns
returns c = λ values had.
    let none : c.loop-i.i ≡ 0 = omega (arith, c.loop-i-test.false) in
    subst (λ i. IsStore (made (drop i c.args.changes.now) values) c.loop-i.store) none (c.loop-i.invariant.made values had)
