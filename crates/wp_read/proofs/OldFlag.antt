-- The old-map flag is lowered.
use Rattle.std.proofs.Common.{◌≡◌, inl, ℕ, false, true≢false, List, [], ◌∷◌, length, refl, sym, subst, ap, ◌∙◌}
use Rattle.wp_model.specs.declared.entry.Entry.{Entry}
use Rattle.wp_model.specs.Snapshots.{Snapshots, NoOldCommits}
use Rattle.wp_core.specs.Lists.{IsIn}
use Rattle.wp_core.specs.Notes.{ends}
use Rattle.wp_core.specs.Steps.{store_old_flag, note}
use Rattle.wp_core.specs.States.{snapshots}
use Rattle.wp_core.specs.Turns.{snapshots_turn}
use Rattle.wp_core.specs.Views.{Fact, old_flag_stays}
use Rattle.wp_core.specs.World.{Actor}
use Rattle.wp_rule.specs.Moves.{MayStep, Moved}
use Rattle.wp_rule.proofs.Needed.{needed}
use Rattle.wp_rule.proofs.Outlasting.{outlasts}
use Rattle.wp_shared.specs.Notes.{is_under, GoesOn}
use Rattle.wp_shared.specs.Seats.{SharedState, SeatState, place_at}
use Rattle.wp_shared.proofs.Noting.{note_ends_none}
use Rattle.wp_shared.proofs.OneStep.{becomes}

pub may_lower : {D : Type 0} (z : SharedState D) (s : SeatState) (m : Snapshots) → IsIn (snapshots m) s.knows.held → NoOldCommits m → MayStep (place_at z s.by) s.knows (store_old_flag 0)
may_lower z s m held none = λ w k. needed (place_at z s.by) s.knows w k (store_old_flag 0) (record { state = m; held = held; so_is = λ zero. none })

-- the snapshots turn does not guard it, so no store of its flag ends it
others_stay : (history : List Entry) (words : ℕ) (fact : Fact) → is_under snapshots_turn fact ≡ false → ends history words (store_old_flag 0) fact ≡ false
others_stay history words (old_flag_stays value) e = absurd (true≢false e)
others_stay history words other e = refl

module _ {D : Type 0} (z : SharedState D) (s t : SeatState) (m : Moved (place_at z s.by) (λ w. store_old_flag 0 ∷ note (old_flag_stays 0) ∷ []) (λ w. Unit {0}) s.knows t.knows) where
  pub lowered : (t.table ≡ s.table) × (t.by ≡ s.by) × (t.turns ≡ s.turns) → GoesOn (is_under snapshots_turn) s.knows.held s.turns s t
  lowered same = record {
    same = becomes s t (record s.knows { notes = t.knows.notes }) same (m.actor ∙ ap (λ (notes : List Fact). record s.knows { notes = notes }) (sym (ap (λ (a : Actor). a.notes) m.actor)));
    noted = λ fact other there.
        subst (λ (a : Actor). IsIn fact a.notes) (sym m.actor)
        (outlasts fact (store_old_flag 0 ∷ note (old_flag_stays 0) ∷ []) m.world s.by s.knows there
        ((λ x. x), others_stay m.world.writes.history (length m.world.cache) fact other, ((λ x. x), note_ends_none m.world.writes.history (length m.world.cache) (old_flag_stays 0) fact, tt)));
  }

  pub lowered_noted : IsIn (old_flag_stays 0) t.knows.notes
  lowered_noted = subst (λ (a : Actor). IsIn (old_flag_stays 0) a.notes) (sym m.actor) (inl refl)
