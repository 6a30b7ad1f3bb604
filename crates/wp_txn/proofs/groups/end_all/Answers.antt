use Rattle.std.proofs.Common.{◌≡◌, ℕ, suc, ◌+◌, ◌-◌, true, List, [], ◌∷◌, vec_len, subst, sym, ◌∙◌, arith}
use Rattle.std.proofs.lemmas.List.{nil_from_length}
use Rattle.wp_judge.specs.Words.{fits}
use Rattle.wp_core.specs.Lists.{IsIn}
use Rattle.wp_core.specs.Views.{has_left}
use Rattle.wp_core.proofs.HistoryLaws.{is_equal}
use Rattle.wp_open_txns.specs.Txn.{PreparedState}
use Rattle.wp_txn.specs.Groups.{IsDecidedBy, AreDecidedBehind, EndsEach}
use Rattle.wp_txn.proofs.Each.{HaveOtherNames, other_names}
use Rattle.wp_txn.proofs.GroupEnds.{first_out, none_ends, first_ends, decided_still}
use Rattle.wp_txn.proofs.groups.end_all.Goals as goal

pub loop-txns-init : goal.loop-txns-init
loop-txns-init g c =
    let z = c.args.store.now in let s = c.args.seat.now in let xs = c.args.txns.items in let first = c.requires.decided in let is = first.1 in let long = c.len.ensures in record {
      number = omega (arith, is, long);
      free = c.requires.free;
      decided = subst (λ (n : ℕ). AreDecidedBehind s n xs) (let same : first.0 ≡ c.args.last - c.len.result = omega (arith, is, long) in same) first.2;
      names = other_names xs c.requires.names;
      ends = λ n last new ends. subst (λ (m : ℕ). EndsEach z s xs m new) (let same : c.args.last - c.len.result ≡ n = omega (arith, last, long) in same) ends;
    }

pub end-requires-clause-has : goal.end-requires-clause-has
end-requires-clause-has g c =
    let s = c.loop-txns.seat in let xs = c.loop-txns.txns.items in let x : PreparedState = c.remove-txn.result in let long = c.remove-txn.ensures.len in
    let is : xs ≡ x ∷ c.remove-txn.new.self.items = first_out xs x (omega (arith, long)) ∙ (λ i. sym c.remove-txn.ensures.value i ∷ sym c.remove-txn.ensures.items i) in
    (subst (AreDecidedBehind s c.loop-txns.decision) is c.loop-txns.invariant.decided).0.has

pub end-requires-clause-noted : goal.end-requires-clause-noted
end-requires-clause-noted g c =
    let s = c.loop-txns.seat in let xs = c.loop-txns.txns.items in let x : PreparedState = c.remove-txn.result in let long = c.remove-txn.ensures.len in
    let is : xs ≡ x ∷ c.remove-txn.new.self.items = first_out xs x (omega (arith, long)) ∙ (λ i. sym c.remove-txn.ensures.value i ∷ sym c.remove-txn.ensures.items i) in
    (subst (AreDecidedBehind s c.loop-txns.decision) is c.loop-txns.invariant.decided).0.noted

pub end-requires-clause-decided : goal.end-requires-clause-decided
end-requires-clause-decided g c =
    let s = c.loop-txns.seat in let xs = c.loop-txns.txns.items in let x : PreparedState = c.remove-txn.result in let long = c.remove-txn.ensures.len in
    let is : xs ≡ x ∷ c.remove-txn.new.self.items = first_out xs x (omega (arith, long)) ∙ (λ i. sym c.remove-txn.ensures.value i ∷ sym c.remove-txn.ensures.items i) in
    let next : suc c.loop-txns.decision ≡ c.loop-txns.decision + 1 = omega arith in
    (subst (λ (n : ℕ). IsDecidedBy s n x) next (subst (AreDecidedBehind s c.loop-txns.decision) is c.loop-txns.invariant.decided).0).decided

pub loop-txns-preserved : goal.loop-txns-preserved
loop-txns-preserved g c =
    let z = c.args.store.now in let s = c.loop-txns.seat in let u = c.end.new.seat in let d = c.loop-txns.decision in let k = c.loop-txns.invariant in
    let xs = c.loop-txns.txns.items in let x : PreparedState = c.remove-txn.result in let others = c.remove-txn.new.self.items in let long = c.remove-txn.ensures.len in let number = k.number in
    let is : xs ≡ x ∷ others = first_out xs x (omega (arith, long)) ∙ (λ i. sym c.remove-txn.ensures.value i ∷ sym c.remove-txn.ensures.items i) in
    let next : suc d ≡ d + 1 = omega arith in
    let frees = c.end.ensures.frees in let names = subst HaveOtherNames is k.names in
    let gone = subst (λ (n : ℕ). fits z.cells (record { number = x.number; decision = n }) ≡ true → IsIn (has_left x.number) u.knows.notes) (sym next) c.end.ensures.gone in record {
      number = omega (arith, number, long);
      free = frees.gives_up.free;
      decided = subst (λ (n : ℕ). AreDecidedBehind u n others) next (decided_still z s u x d frees others (suc d) names.0 (subst (AreDecidedBehind s d) is k.decided).1);
      names = names.1;
      ends = λ n last new ends. k.ends n last new (subst (λ (ys : List PreparedState). EndsEach z s ys d new) (sym is) (first_ends z s u x d frees gone others new (subst (λ (m : ℕ). EndsEach z u others m new) (sym next) ends)));
    }

pub returns : goal.returns
returns g c n last =
    let z = c.args.store.now in let s = c.loop-txns.seat in let d = c.loop-txns.decision in let k = c.loop-txns.invariant in
    let left = is_equal (vec_len c.loop-txns.txns) 0 (sym (c.loop-txns-test.ensures {u = tt})) in
    let none : c.loop-txns.txns.items ≡ [] = nil_from_length c.loop-txns.txns.items (omega (arith, left)) in
    k.ends n last s (subst (λ (ys : List PreparedState). EndsEach z s ys d s) (sym none) (none_ends z s d k.free))
