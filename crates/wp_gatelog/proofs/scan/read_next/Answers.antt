use Rattle.std.proofs.Common.{inl, inr, refl}
use Rattle.wp_outside.proofs.Moments.{looks_same}
use Rattle.wp_gatelog.specs.Patched.{Shows}
use Rattle.wp_gatelog.specs.Scanning.{IsWholeAt}
use Rattle.wp_gatelog.proofs.MomentLemmas.{known_map}
use Rattle.wp_gatelog.proofs.ScanLemmas.{finished}
use Rattle.wp_gatelog.proofs.scan.read_next.Goals as goal

-- nothing is read where the piece has a closed gate or a whole record
pub returns-in_default-clause-shown : goal.returns-in_default-clause-shown
returns-in_default-clause-shown g c = λ shown.
    known_map (Shows c.args.at c.args.piece.now) (IsWholeAt c.args.at c.args.piece.now)
    (λ m there. (there, λ unfinished. absurd (finished c.args.piece.now c.next_in-known.result c.in_default.not-Short (rw c.rest.ensures at c.next_in-known.ensures) unfinished))) _ shown

pub returns-in_default-clause-kept : goal.returns-in_default-clause-kept
returns-in_default-clause-kept g c = inl (refl, refl)

pub returns-in_default-clause-looks : goal.returns-in_default-clause-looks
returns-in_default-clause-looks g c = looks_same _ _ _ _ refl refl

pub returns-clause-shown : goal.returns-clause-shown
returns-clause-shown g c = λ shown. rw c.of.ensures c.in_ok-read_whole.ensures.found

pub returns-clause-kept : goal.returns-clause-kept
returns-clause-kept g c = inr (rw (c.in-Short.is, c.rest.ensures) at c.next_in-known.ensures)
