-- The histories of the runs are legal.
use Rattle.std.proofs.Common.{[], ◌∷◌, refl, arith}
use Rattle.wp_model.specs.declared.entry.Entry.TheVariants.{Write, Commit, Undo, Close}
use Rattle.wp_model.specs.Legal.{IsLegal}
use Rattle.wp_history_laws.proofs.Growth.{legal_next}
use Rattle.wp_machine_permits.specs.Runs.{prepared, prior, direct}
use Rattle.wp_machine_permits.proofs.Leading.{none_legal}

pub prepared_legal : IsLegal (prepared ∷ [])
prepared_legal = legal_next [] prepared none_legal (record { orderly = record { ascending = refl; names_undecided = tt; undo_is_closed = refl; keys_are_free = ((refl, tt), refl) }; restores_prior = tt }) (omega arith)

pub committed_legal : IsLegal (prepared ∷ Commit 1 ∷ [])
committed_legal = legal_next (prepared ∷ []) (Commit 1) prepared_legal (record { orderly = record { ascending = refl; names_undecided = refl; undo_is_closed = refl; keys_are_free = tt }; restores_prior = tt }) (omega arith)

pub written_legal : IsLegal (prepared ∷ Commit 1 ∷ Write direct ∷ [])
written_legal = legal_next (prepared ∷ Commit 1 ∷ []) (Write direct) committed_legal (record { orderly = record { ascending = refl; names_undecided = tt; undo_is_closed = refl; keys_are_free = (refl, tt) }; restores_prior = tt }) (omega arith)

pub undone_legal : IsLegal (prepared ∷ Undo 1 prior ∷ [])
undone_legal = legal_next (prepared ∷ []) (Undo 1 prior) prepared_legal (record { orderly = record { ascending = refl; names_undecided = refl; undo_is_closed = refl; keys_are_free = tt }; restores_prior = refl }) (omega arith)

pub closed_legal : IsLegal (prepared ∷ Undo 1 prior ∷ Close 1 ∷ [])
closed_legal = legal_next (prepared ∷ Undo 1 prior ∷ []) (Close 1) undone_legal (record { orderly = record { ascending = refl; names_undecided = refl; undo_is_closed = refl; keys_are_free = tt }; restores_prior = tt }) (omega arith)
