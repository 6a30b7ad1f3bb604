use Rattle.std.proofs.Common.{◌+◌, ◌∷◌, [], ◌++◌, length, refl, arith, length-append}
use Rattle.wp_outside.specs.Disk.{IsImage, synced, after_cut}
use Rattle.wp_gatelog.specs.Repair.{HasFront}
use Rattle.wp_gatelog.proofs.ChangeLemmas.{unchanged, changes_map}
use Rattle.wp_gatelog.proofs.RepairLemmas.{nothing_follows, has_front_cut, taken_cut}
use Rattle.wp_gatelog.proofs.repair.cut_rest.Goals as goal

pub returns-then-saturating_sub-le1-clause-changes : goal.returns-then-saturating_sub-le1-clause-changes
returns-then-saturating_sub-le1-clause-changes g c = λ first front following ends size known.
    unchanged _ first (HasFront front) (front ++ 0 ∷ following) (front ++ 0 ∷ []) _ (nothing_follows front following (omega (arith, ends, size, length-append front (0 ∷ following)))) known

pub returns-clause-changes : goal.returns-clause-changes
returns-clause-changes g c = λ first front following ends size known.
    let m = after_cut (length front + 1) (synced (front ++ 0 ∷ following)) in
    changes_map first (IsImage m) (HasFront front) (front ++ 0 ∷ following) m.reads (front ++ 0 ∷ []) _ _ _ (has_front_cut front following (length front) refl) (taken_cut front following (length front) refl)
    (c.cut_synced.ensures.changes first (front ++ 0 ∷ following) (length front + 1) (omega (arith, ends)) known)
