use Rattle.std.proofs.Common.{sym, ◌∙◌}
use Rattle.wp_machine_permits.proofs.needs.note.is_kept.Goals as goal

pub returns-then-not-is_clear : goal.returns-then-not-is_clear
returns-then-not-is_clear c = (λ e. absurd cc, λ h. sym c.if-not-is_clear.true ∙ c.is_clear.ensures.1 (record { place_within = h.place_within; there = h.there; published_by = h.published_by; so = tt }))
