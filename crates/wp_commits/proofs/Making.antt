-- A fact that is noted at one load.
use Rattle.std.proofs.Common.{◌≡◌, [], ◌∷◌, true}
use Rattle.wp_core.specs.Steps.{note}
use Rattle.wp_core.specs.Views.{Fact}
use Rattle.wp_core.specs.World.{Actor, World}
use Rattle.wp_rule.specs.Knows.{KnowsFact}
use Rattle.wp_rule.specs.Moves.{MayMake, Moved}
use Rattle.wp_rule.specs.Words.{Place}
use Rattle.wp_rule.proofs.Forgets.{note_ends}
use Rattle.wp_rule.proofs.MayBeMade.{known_made}
use Rattle.wp_shared.specs.Seats.{SeatState}
use Rattle.wp_shared.proofs.OneStep.{made, becomes}
use Rattle.wp_shared.specs.Notes.{noting}

pub may_note : (p : Place) (a : Actor) (fact : Fact) → a.live ≡ true → KnowsFact a fact → MayMake p a (λ w. note fact ∷ [])
may_note p a fact live known = known_made p a (note fact) tt (live, known)

pub noted : (p : Place) (so : World → Type 0) (fact : Fact) (s t : SeatState) → (t.table ≡ s.table) × (t.by ≡ s.by) × (t.turns ≡ s.turns) → Moved p (λ w. note fact ∷ []) so s.knows t.knows → t ≡ noting fact s
noted p so fact s t same m = becomes s t (record s.knows { notes = fact ∷ s.knows.notes }) same (made p (note fact) so s.knows t.knows (note_ends fact) m).actor
