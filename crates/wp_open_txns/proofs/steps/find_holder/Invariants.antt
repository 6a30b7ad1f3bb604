use Rattle.std.specs.Prelude.{[], ◌∷◌, length, Some}
use Rattle.wp_core.specs.Steps.{find_holder}
use Rattle.wp_rule.specs.Accounts.{account_of}
use Rattle.wp_shared.specs.Seats.{place_at}
use Rattle.wp_open_txns.proofs.steps.find_holder.Given as goal

abbrev pub ghosts-make_about : goal.ghosts-make_about
ghosts-make_about g a = record { place = place_at a.self.now a.seat.now.by; steps = λ w. find_holder (Some a.about.now.0.now) a.about.now.1.now (account_of a.seat.now.knows.participant w.locks (length w.writes.history) (Some a.about.now.0.now) a.about.now.1.now) ∷ [] }
