use Rattle.std.proofs.Common.{◌≡◌, take}
use Rattle.std.specs.List.{flat_map}
use Rattle.wp_model.specs.History.{entry_at, undecided}
use Rattle.wp_history_laws.specs.Prepares.{prepare_of}
use Rattle.wp_history_laws.proofs.Opened.{name_left}
use Rattle.wp_machine.proofs.left.names_left.Given as goal

abbrev pub invariant-loop-p : goal.invariant-loop-p
invariant-loop-p l = l.names.items ≡ flat_map (λ p. name_left (prepare_of (entry_at l.history.entries p))) (take l.p-index (undecided l.history.entries))
