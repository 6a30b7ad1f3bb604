use Rattle.std.proofs.Common.{[]}
use Rattle.wp_txn.proofs.recording.close_log.Goals as goal

pub give_turn-requires-clause-holds : goal.give_turn-requires-clause-holds
give_turn-requires-clause-holds g c = ([], [], c.requires.turn)

pub returns-in-Ok-clause-gives : goal.returns-in-Ok-clause-gives
returns-in-Ok-clause-gives g c = c.give_turn.ensures [] [] c.requires.turn

pub returns-in-Err-Memory-clause-gives : goal.returns-in-Err-Memory-clause-gives
returns-in-Err-Memory-clause-gives g c = c.give_turn.ensures [] [] c.requires.turn

pub returns-in-Err-LogFault-clause-gives : goal.returns-in-Err-LogFault-clause-gives
returns-in-Err-LogFault-clause-gives g c = c.give_turn.ensures [] [] c.requires.turn
