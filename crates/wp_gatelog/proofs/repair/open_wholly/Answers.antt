use Rattle.std.proofs.Common.{◌∷◌, [], ◌++◌, ℕ, length, refl, ap}
use Rattle.wp_outside.specs.Disk.{IsImage, synced, after_write}
use Rattle.wp_gatelog.specs.Repair.{Reopens}
use Rattle.wp_gatelog.proofs.ChangeLemmas.{unchanged, changes_map}
use Rattle.wp_gatelog.proofs.RepairLemmas.{reopens_written}
use Rattle.wp_gatelog.proofs.MomentLemmas.{put_gate}
use Rattle.wp_gatelog.proofs.repair.open_wholly.Goals as goal

pub returns-then-gate-eq-OPEN-clause-changes : goal.returns-then-gate-eq-OPEN-clause-changes
returns-then-gate-eq-OPEN-clause-changes g c = λ first front following place known.
    unchanged _ first (Reopens front c.args.gate.byte following) (front ++ c.args.gate.byte ∷ following) (front ++ 1 ∷ following) _ (ap (λ (b : ℕ). front ++ b ∷ following) c.if-gate-eq-OPEN.true) known

pub returns-clause-changes : goal.returns-clause-changes
returns-clause-changes g c = λ first front following place known.
    let before = front ++ c.args.gate.byte ∷ following in
    let m = after_write (length front) (1 ∷ []) (synced before) in
    changes_map first (IsImage m) (Reopens front c.args.gate.byte following) before m.reads (front ++ 1 ∷ following) _ _ _ (reopens_written front following (length front) c.args.gate.byte refl c.if-gate-eq-OPEN.false) (put_gate front c.args.gate.byte following (length front) refl)
    (c.write_synced.ensures.changes first before (length front) place known)
