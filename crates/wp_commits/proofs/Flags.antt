-- The flags, which tell whether something is delayed, or is kept for snapshots.
use Rattle.std.proofs.Common.{◌≡◌, inl, ℕ, Bool, true, false, true≢false, List, length, refl, sym, subst, ◌∙◌, arith}
use Rattle.std.specs.Prelude.{[], ◌∷◌}
use Rattle.wp_model.specs.declared.entry.Entry.{Entry}
use Rattle.wp_core.specs.Notes.{ends}
use Rattle.wp_core.specs.Steps.{store_delayed_flag, store_old_flag, note}
use Rattle.wp_core.specs.States.{prepared, snapshots}
use Rattle.wp_model.specs.PreparedSets.{NoneDelayed}
use Rattle.wp_model.specs.Snapshots.{NoOldCommits}
use Rattle.wp_core.specs.Views.{Fact, passed, delayed_flag_stays, old_flag_stays}
use Rattle.wp_core.specs.World.{Actor, World}
use Rattle.wp_rule.specs.Knows.{Holding, Noted}
use Rattle.wp_rule.specs.Moves.{MayStep, Moved}
use Rattle.wp_rule.specs.Words.{Place}
use Rattle.wp_rule.proofs.Needed.{needed}
use Rattle.wp_rule.proofs.Outlasting.{outlasts}
use Rattle.wp_shared.specs.Notes.{is_flag, GoesOn, FlagTells}
use Rattle.wp_shared.specs.Seats.{SeatState}
use Rattle.wp_shared.proofs.Goes.{goes_with}

flag_ends : (history : List Entry) (words value : ℕ) (fact : Fact) → is_flag fact ≡ false → (ends history words (store_delayed_flag value) fact ≡ false) × (ends history words (store_old_flag value) fact ≡ false)
flag_ends history words value (delayed_flag_stays n) e = absurd (true≢false e)
flag_ends history words value (old_flag_stays n) e = absurd (true≢false e)
flag_ends history words value other e = (refl, refl)

pub note_ends_none : (history : List Entry) (words : ℕ) (noted fact : Fact) → ends history words (note noted) fact ≡ false
note_ends_none history words noted (passed place pair) = refl
note_ends_none history words noted other = refl

one_not_zero : ◌≡◌ {A = ℕ} 1 0 → ⊥
one_not_zero e = absurd (omega (arith, e))

-- the value of a flag that says whether there is nothing
pub record Says (none : Bool) (value : ℕ) : Type 0 where
  pub up : none ≡ false → value ≡ 1
  pub down : none ≡ true → value ≡ 0

zero_says : (none : Bool) (value : ℕ) → Says none value → value ≡ 0 → none ≡ true
zero_says true value k e = refl
zero_says false value k e = absurd (one_not_zero (sym (k.up refl) ∙ e))

-- the flag that is stored is 0 exactly where there is nothing
pub flag_tells : (a : Actor) (flag : ℕ → Fact) (none : Bool) (value : ℕ) → Noted a (flag value) → Says none value → FlagTells a flag (none ≡ true)
flag_tells a flag none value there k = record { value = value; noted = there; empty = zero_says none value k; down = k.down }

module _ (p : Place) (so : World → Type 0) (s t : SeatState) (value : ℕ) (same : (t.table ≡ s.table) × (t.by ≡ s.by) × (t.turns ≡ s.turns)) where
  pub put_delayed : Moved p (λ w. store_delayed_flag value ∷ note (delayed_flag_stays value) ∷ []) so s.knows t.knows → GoesOn is_flag s.knows.held s.turns s t × Noted t.knows (delayed_flag_stays value)
  put_delayed m =
      let w = m.world in (
        record {
          same = goes_with s t s.knows.held s.turns _ same.0 same.1 same.2 m.actor;
          noted = λ fact other there. subst (λ (x : Actor). Noted x fact) (sym m.actor)
              (outlasts fact (store_delayed_flag value ∷ note (delayed_flag_stays value) ∷ []) w p.by s.knows there ((λ x. x), (flag_ends w.writes.history (length w.cache) value fact other).0, ((λ x. x), note_ends_none w.writes.history (length w.cache) (delayed_flag_stays value) fact, tt)));
        },
        subst (λ (x : Actor). Noted x (delayed_flag_stays value)) (sym m.actor) (inl refl),
      )

  pub put_old : Moved p (λ w. store_old_flag value ∷ note (old_flag_stays value) ∷ []) so s.knows t.knows → GoesOn is_flag s.knows.held s.turns s t × Noted t.knows (old_flag_stays value)
  put_old m =
      let w = m.world in (
        record {
          same = goes_with s t s.knows.held s.turns _ same.0 same.1 same.2 m.actor;
          noted = λ fact other there. subst (λ (x : Actor). Noted x fact) (sym m.actor)
              (outlasts fact (store_old_flag value ∷ note (old_flag_stays value) ∷ []) w p.by s.knows there ((λ x. x), (flag_ends w.writes.history (length w.cache) value fact other).1, ((λ x. x), note_ends_none w.writes.history (length w.cache) (old_flag_stays value) fact, tt)));
        },
        subst (λ (x : Actor). Noted x (old_flag_stays value)) (sym m.actor) (inl refl),
      )

-- the other flag is noted still
pub old_flag_kept : (p : Place) (so : World → Type 0) (s t : SeatState) (value : ℕ) → Moved p (λ w. store_delayed_flag value ∷ note (delayed_flag_stays value) ∷ []) so s.knows t.knows → (n : ℕ) → Noted s.knows (old_flag_stays n) → Noted t.knows (old_flag_stays n)
old_flag_kept p so s t value m n there =
    let w = m.world in
    subst (λ (x : Actor). Noted x (old_flag_stays n)) (sym m.actor) (outlasts (old_flag_stays n) (store_delayed_flag value ∷ note (delayed_flag_stays value) ∷ []) w p.by s.knows there ((λ x. x), refl, ((λ x. x), refl, tt)))

pub delayed_flag_kept : (p : Place) (so : World → Type 0) (s t : SeatState) (value : ℕ) → Moved p (λ w. store_old_flag value ∷ note (old_flag_stays value) ∷ []) so s.knows t.knows → (n : ℕ) → Noted s.knows (delayed_flag_stays n) → Noted t.knows (delayed_flag_stays n)
delayed_flag_kept p so s t value m n there =
    let w = m.world in
    subst (λ (x : Actor). Noted x (delayed_flag_stays n)) (sym m.actor) (outlasts (delayed_flag_stays n) (store_old_flag value ∷ note (old_flag_stays value) ∷ []) w p.by s.knows there ((λ x. x), refl, ((λ x. x), refl, tt)))

-- a flag that tells does so where its notes are kept
pub tells_still : (a b : Actor) (flag : ℕ → Fact) (none : Type 0) → ((value : ℕ) → Noted a (flag value) → Noted b (flag value)) → FlagTells a flag none → FlagTells b flag none
tells_still a b flag none keeps f = record { value = f.value; noted = keeps f.value f.noted; empty = f.empty; down = f.down }

module _ (p : Place) (a : Actor) (none : Bool) (value : ℕ) (says : Says none value) where
  pub may_put_delayed : Holding a prepared (λ t. none ≡ true → NoneDelayed t) → MayStep p a (store_delayed_flag value)
  may_put_delayed h w k = needed p a w k (store_delayed_flag value) (record { state = h.state; held = h.held; so_is = λ e. h.so_is (zero_says none value says e) })

  pub may_put_old : Holding a snapshots (λ m. none ≡ true → NoOldCommits m) → MayStep p a (store_old_flag value)
  may_put_old h w k = needed p a w k (store_old_flag value) (record { state = h.state; held = h.held; so_is = λ e. h.so_is (zero_says none value says e) })
