-- A seat that remembers how it found the tables goes on.
use Rattle.std.proofs.Common.{◌≡◌, inl, Bool, List, [], ◌∷◌, append_assoc, refl, sym, subst, ap, ◌∙◌, Option, Some, None}
use Rattle.wp_model.specs.Flushed.{InstalledEdit}
use Rattle.wp_core.specs.Effects.{with_failed}
use Rattle.wp_core.specs.Lists.{IsIn}
use Rattle.wp_core.specs.States.{Installed, installed}
use Rattle.wp_core.specs.Views.{Event, Fact, tables_stay, nothing_flushed}
use Rattle.wp_rule.specs.Knows.{KnowsTables, KnowsInstalled}
use Rattle.wp_parts.specs.VersionSet.{VersionSetState}
use Rattle.wp_shared.specs.Calls.{with_events}
use Rattle.wp_shared.specs.Notes.{with_participant, GoesOn}
use Rattle.wp_shared.specs.Seats.{SharedState, SeatState}
use Rattle.wp_shared.proofs.Onward.{starts_equal}
use Rattle.wp_maint.specs.Calls.{found_by}
use Rattle.wp_maint.specs.Finding.{Remembers, Changes}
use Rattle.wp_maint.specs.Installs.{HasBroken}
use Rattle.wp_maint.proofs.Onward.{found_later}

pub held_first : (s : SeatState) (t : Installed) → s.knows.held ≡ installed t ∷ [] → IsIn (installed t) s.knows.held
held_first s t held = subst (IsIn (installed t)) (sym held) (inl refl)

-- the last edit stays where the devices fail
pub failed_last : (t : Installed) (asked : Option InstalledEdit) → (with_failed t asked).last ≡ t.last
failed_last t None = refl
failed_last t (Some edit) = refl

module _ {D : Type 0} (z : SharedState D) (s u : SeatState) (t : Installed) where
  pub held_still : s.knows.held ≡ installed t ∷ [] → Remembers z s t u → (u.table ≡ s.table) × (u.knows.held ≡ installed t ∷ [])
  held_still held k = (ap (λ (x : SeatState). x.table) k.is, ap (λ (x : SeatState). x.knows.held) k.is ∙ held)

  pub knows_still : Remembers z s t u → (e : Installed) (edit : InstalledEdit) (compacts : Bool) → KnowsInstalled s.knows e edit compacts → KnowsInstalled u.knows e edit compacts
  knows_still k e edit compacts known = subst (λ (x : SeatState). KnowsInstalled x.knows e edit compacts) (sym k.is)
      (record { running = known.running; covered = known.covered; rises = known.rises; one_more = known.one_more; keeps = known.keeps; segment = known.segment })

-- and remembers one event more
pub then_changes : {D : Type 0} (z : SharedState D) (s u v : SeatState) (t : Installed) (k : Remembers z s t u) (left : Installed) (event : Event) (test : Fact → Bool)
    → GoesOn test (installed left ∷ []) u.turns (with_participant (with_events (event ∷ []) u.knows.participant) u) v → Changes z s t left event test v
then_changes z s u v t k left event test goes =
    let found = found_later z s u v t (starts_equal u.knows.participant.seen v.knows.participant.seen (ap (λ (x : SeatState). x.knows.participant.seen) goes.same)) k.found in
    let first = found_by z s v t found in
    let both : with_participant (with_events (event ∷ []) u.knows.participant) u ≡ with_participant (with_events (first ∷ event ∷ []) s.knows.participant) s =
    ap (λ (x : SeatState). with_participant (with_events (event ∷ []) x.knows.participant) x) k.is
    ∙ ap (λ (past : List Event). with_participant (record s.knows.participant { past = past }) s) (append_assoc s.knows.participant.past (first ∷ []) (event ∷ [])) in
    record {
      found = found;
      goes = subst (λ (b : SeatState). GoesOn test (installed left ∷ []) s.turns b v) both (subst (λ (x : SeatState). GoesOn test (installed left ∷ []) x.turns (with_participant (with_events (event ∷ []) u.knows.participant) u) v) k.is goes);
    }

-- what was noted of the tables is so still where a device failed
pub in_step_broken : {D : Type 0} (z : SharedState D) (s u : SeatState) (e left : VersionSetState) (next : InstalledEdit) → HasBroken z s e next u left → KnowsTables s.knows e.state.last → KnowsTables u.knows left.state.last
in_step_broken z s u e left next k there =
    let last : left.state.last ≡ e.state.last = ap (λ (x : Installed). x.last) k.state ∙ failed_last e.state left.state.failed in
    subst (KnowsTables u.knows) (sym last) (k.changes.goes.noted nothing_flushed refl there.0, (there.1.0, k.changes.goes.noted (tables_stay e.state.last.versions there.1.0) refl there.1.1))
