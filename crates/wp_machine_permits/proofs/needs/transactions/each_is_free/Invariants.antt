use Rattle.std.proofs.Common.{drop, ◌≡◌, None}
use Rattle.wp_model.specs.History.{holder_of}
use Rattle.wp_machine_permits.specs.Each.{Each}
use Rattle.wp_machine_permits.proofs.needs.transactions.each_is_free.Given as goal

abbrev pub invariant-loop-key : goal.invariant-loop-key
invariant-loop-key l = record {
  onward : Each (λ key. holder_of l.history.entries key ≡ None) l.keys → Each (λ key. holder_of l.history.entries key ≡ None) (drop l.key-index l.keys);
  back : Each (λ key. holder_of l.history.entries key ≡ None) (drop l.key-index l.keys) → Each (λ key. holder_of l.history.entries key ≡ None) l.keys;
}
