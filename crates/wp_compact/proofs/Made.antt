-- The steps of a compaction: that they may be made, and what they leave of the seat.
use Rattle.std.proofs.Common.{◌≡◌, inl, ℕ, ◌≤◌, false, true≢false, List, [], ◌∷◌, length, refl, sym, ap, ◌∙◌}
use Rattle.wp_model.specs.declared.entry.Entry.{Entry}
use Rattle.wp_model.specs.declared.version.Version.{Version}
use Rattle.wp_core.specs.Changes.{held_with}
use Rattle.wp_core.specs.Notes.{ends}
use Rattle.wp_core.specs.Conditions.{KeepsStore}
use Rattle.wp_core.specs.Steps.{Step, replace_versions, note}
use Rattle.wp_core.specs.States.{StoreState, Installed, store, installed}
use Rattle.wp_core.specs.Turns.{tables_turn}
use Rattle.wp_core.specs.Views.{Fact, tables_stay, nothing_flushed, frozen_stay}
use Rattle.wp_core.specs.World.{Actor, World}
use Rattle.wp_rule.specs.Knows.{Noted}
use Rattle.wp_rule.specs.Moves.{MayMake, Moved}
use Rattle.wp_rule.specs.Words.{Place, IsAt}
use Rattle.wp_rule.proofs.Knows.{held_is}
use Rattle.wp_rule.proofs.Needed.{guarded}
use Rattle.wp_rule.proofs.Outlasting.{outlasts}
use Rattle.wp_rule.proofs.Stores.{holder_is_live}
use Rattle.wp_shared.specs.Notes.{GoesOn}
use Rattle.wp_shared.specs.Seats.{SeatState}
use Rattle.wp_shared.proofs.Noting.{note_ends_none}
use Rattle.wp_shared.proofs.Tables.{held_state}
use Rattle.wp_maint.specs.Holding.{is_of_tables}
use Rattle.wp_maint.proofs.Made.{first_held, goes_from, noted_by, second_held}

-- ---- versions go

replace_ends : (history : List Entry) (words : ℕ) (tables : List Version) (floor : ℕ) (fact : Fact) → is_of_tables fact ≡ false → ends history words (replace_versions tables floor) fact ≡ false
replace_ends history words tables floor (tables_stay versions n) e = absurd (true≢false e)
replace_ends history words tables floor (frozen_stay n versions) e = absurd (true≢false e)
replace_ends history words tables floor nothing_flushed e = absurd (true≢false e)
replace_ends history words tables floor other e = refl

abbrev pub replacing : StoreState → World → List Step
replacing t w = replace_versions t.tables t.floor ∷ note (tables_stay t.tables t.floor) ∷ []

pub may_replace : (p : Place) (a : Actor) (t now : StoreState) (e : Installed) → a.held ≡ store t ∷ installed e ∷ []
    → ((w : World) → IsAt p a w → (w.store.floor ≤ now.floor) × KeepsStore w (record w.store { tables = now.tables; floor = now.floor }) w.installed) → MayMake p a (replacing now)
may_replace p a t now e held may w k =
    let stores = (held_is p a w (store t) k (first_held a (store t) (installed e ∷ []) held)).0 in
    let tables = (held_is p a w (installed e) k (second_held a (store t) (installed e) held)).0 in
    let m = may w k in
    ((tt, (tt, tt)), ((stores, tables, m.0, m.1), ((holder_is_live p a w tables_turn k tables, guarded p a w k tables_turn tables, (refl, refl)), tt)))

module _ (p : Place) (so : World → Type 0) (s u : SeatState) (same : (u.table ≡ s.table) × (u.by ≡ s.by) × (u.turns ≡ s.turns)) (t now : StoreState) (e : Installed) (held : s.knows.held ≡ store t ∷ installed e ∷ []) (memory : now.memory ≡ t.memory)
    (m : Moved p (replacing now) so s.knows u.knows) where
  abbrev x : World
  x = m.world

  kept_held : held_with s.knows.held (store (record x.store { tables = now.tables; floor = now.floor })) ≡ store now ∷ installed e ∷ []
  kept_held =
      let table : x.store ≡ t = held_state p s.knows x (store t) m.before (first_held s.knows (store t) (installed e ∷ []) held) in
      (λ i. held_with (held i) (store (record (table i) { tables = now.tables; floor = now.floor }))) ∙ ap (λ (l : List Version). store (record { memory = l; tables = now.tables; floor = now.floor }) ∷ installed e ∷ []) (sym memory)

  pub was_replaced : GoesOn is_of_tables (store now ∷ installed e ∷ []) s.turns s u
  was_replaced = goes_from p so s u same (replacing now) m s.knows is_of_tables (store now ∷ installed e ∷ []) refl refl kept_held (λ fact other.
      ((λ y. y), replace_ends x.writes.history (length x.cache) now.tables now.floor fact other, ((λ y. y), note_ends_none x.writes.history (length x.cache) (tables_stay now.tables now.floor) fact, tt)))

  pub noted_replaced : Noted u.knows (tables_stay now.tables now.floor)
  noted_replaced = noted_by p so s u same (replacing now) m (tables_stay now.tables now.floor) (inl refl)

  pub gone_replaced : Noted s.knows nothing_flushed → Noted u.knows nothing_flushed
  gone_replaced there =
      noted_by p so s u same (replacing now) m nothing_flushed
      (outlasts nothing_flushed (replacing now x) x p.by s.knows there ((λ y. y), refl, ((λ y. y), note_ends_none x.writes.history (length x.cache) (tables_stay now.tables now.floor) nothing_flushed, tt)))
