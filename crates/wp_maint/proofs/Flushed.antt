-- What a flush says of its seat, once the edit was installed or refused.
use Rattle.std.proofs.Common.{◌≡◌, inl, ℕ, ◌≤◌, Bool, false, List, [], ◌∷◌, ◌++◌, length, Option, refl, sym, subst, ap, ◌∙◌, arith}
use Rattle.std.specs.Prelude.{Err, IfSome}
use Rattle.wp_model.specs.declared.entry.Entry.{Entry}
use Rattle.wp_model.specs.declared.version.Version.{Version}
use Rattle.wp_model.specs.Flushed.{InstalledEdit}
use Rattle.wp_merge.specs.Merge.{sorted_of}
use Rattle.wp_replies.specs.Tables.{unflushed, after_flush}
use Rattle.wp_tableset.specs.Changes.{Asked, new_parts, one_part, parts_after}
use Rattle.wp_tableset.specs.declared.gone.Gone.TheVariants as gone
use Rattle.wp_core.specs.Effects.{with_failed}
use Rattle.wp_core.specs.Lists.{IsIn}
use Rattle.wp_core.specs.States.{Installed, installed}
use Rattle.wp_core.specs.Views.{tables_failed, tables_stay, frozen_stay}
use Rattle.wp_core.specs.Views as event
use Rattle.wp_core.specs.World.{Participant}
use Rattle.wp_rule.specs.Knows.{KnowsTables}
use Rattle.wp_parts.specs.VersionSet.{VersionSetState}
use Rattle.wp_parts.specs.Installs.{SurvivesInstall}
use Rattle.wp_shared.specs.Calls.{GoesOnAs, with_events}
use Rattle.wp_shared.specs.Notes.{no_fact, GoesOn}
use Rattle.wp_shared.specs.Seats.{SharedState, SeatState}
use Rattle.wp_shared.proofs.Onward.{starts_equal, loose_none, goes_same, goes_still}
use Rattle.wp_maint.specs.declared.error.MaintError.TheVariants.{TableFault}
use Rattle.wp_maint.specs.declared.frozen.Frozen.{Frozen}
use Rattle.wp_maint.specs.Calls.{found_by, SawWhole, HasFlushed, HasNewest, FlushesFrom}
use Rattle.wp_maint.specs.Flush.{versions_of, HasFrozen, MayPut}
use Rattle.wp_maint.specs.Installs.{is_compaction, next_of, HasBroken, HasInstalled}
use Rattle.wp_maint.specs.Holding.{is_of_flushed, is_of_tables, HoldsEdits}
use Rattle.wp_maint.proofs.Became.{tables_became}
use Rattle.wp_maint.proofs.Installed.{same_edit, same_list}
use Rattle.wp_maint.proofs.Throughout.{opens_throughout}
use Rattle.wp_maint.proofs.Onward.{changed_seat, held_left, found_later, flushed_free, tables_free, goes_remembering}

module _ {D : Type 0} (z : SharedState D) (s u : SeatState) (e left : VersionSetState) (f : Frozen) where
  -- what is asked for of what is frozen is a flush's edit
  module _ (asked : Asked) (frozen : HasFrozen s.knows e.state f) (some : 1 ≤ length (versions_of f)) (is : asked ≡ record { gone = gone.Frozen; versions = versions_of f; flushed = f.at }) where
    pub as_flushed : HasInstalled z s e (next_of asked e.state.last) (is_compaction asked.gone) u left → HasInstalled z s e (after_flush s.knows.participant.seen e.state.last) false u left
    as_flushed k = subst (λ (x : InstalledEdit × Bool). HasInstalled z s e x.0 x.1 u left) (λ i. (same_edit s.knows e.state f asked frozen some is i, is_compaction (is i).gone)) k

    pub broke_flush : HasBroken z s e (next_of asked e.state.last) u left → HasBroken z s e (after_flush s.knows.participant.seen e.state.last) u left
    broke_flush k = subst (λ (x : InstalledEdit). HasBroken z s e x u left) (same_edit s.knows e.state f asked frozen some is) k

  module _ (frozen : HasFrozen s.knows e.state f) where
    abbrev next : InstalledEdit
    next = after_flush s.knows.participant.seen e.state.last

    module _ (table : Option (List Version)) (table_is : table ≡ one_part (versions_of f)) (k : HasInstalled z s e next false u left) where
      pub may_put : KnowsTables s.knows e.state.last → MayPut u.knows left.state f table
      may_put in_step = record {
        flushed = ap (λ (x : Installed). x.last.flushed) k.state ∙ sym frozen.at;
        table_is = table_is;
        low = frozen.flushed;
        frozen = k.changes.goes.noted (frozen_stay f.at (versions_of f)) refl frozen.noted;
        before = e.state.last.versions;
        floor = in_step.1.0;
        named = k.changes.goes.noted (tables_stay e.state.last.versions in_step.1.0) refl in_step.1.1;
        tables = frozen.tables;
        room = frozen.room;
        last = ap (λ (x : Installed). x.last.versions) k.state ∙ sym (same_list (versions_of f) (unflushed s.knows.participant.seen e.state.last) e.state.last.versions frozen.versions);
      }

    module _ (some : 1 ≤ length (versions_of f)) where
      pub has_flushed : HasInstalled z s e next false u left → HoldsEdits z s e → SawWhole z s s.knows.participant.seen → HasNewest (versions_of f) e left → (v : SeatState) (turns : List ℕ) → GoesOn is_of_tables (installed left.state ∷ []) turns u v → e.state.halted ≡ false → (n : ℕ) → n ≡ length (versions_of f) → HasFlushed (GoesOnAs s v) z s v e.state (record { at = f.at; versions = n })
      has_flushed k holds whole parts v turns put running n counted =
          let before : u.knows.participant.seen ≡ s.knows.participant.seen = ap (λ (x : SeatState). x.knows.participant.seen) k.changes.goes.same in
          let seen : v.knows.participant.seen ≡ s.knows.participant.seen = ap (λ (x : SeatState). x.knows.participant.seen) put.same ∙ before in
          let found = found_later z s u v e.state (starts_equal u.knows.participant.seen v.knows.participant.seen (ap (λ (x : SeatState). x.knows.participant.seen) put.same)) k.changes.found in
          let after : InstalledEdit → Participant = λ edit. with_events (found_by z s v e.state found ∷ event.installed edit false ∷ []) s.knows.participant in
          let first : GoesOnAs s u (after next) = goes_remembering s u (found_by z s v e.state found ∷ event.installed next false ∷ []) is_of_flushed (installed left.state ∷ []) s.turns k.changes.goes flushed_free in
          let second : GoesOnAs u v u.knows.participant = goes_same u v is_of_tables (installed left.state ∷ []) turns tables_free put in
          record {
            found = found;
            running = running;
            at = frozen.at ∙ ap (λ (h : List Entry). length h) (sym seen);
            whole = subst (SawWhole z s) (sym seen) whole;
            some = omega (arith, some, counted);
            versions = counted ∙ frozen.count ∙ ap (λ (h : List Entry). length (unflushed h e.state.last)) (sym seen);
            left = held_left z s u v (record e.state { last = after_flush v.knows.participant.seen e.state.last }) k.stands (changed_seat z s u e.state left.state k.changes) before (ap (λ (x : SeatState). x.knows.participant) put.same)
                (subst (λ (t : Installed). IsIn (installed t) u.knows.held) (k.state ∙ ap (λ (h : List Entry). record e.state { last = after_flush h e.state.last }) (sym seen)) (subst (IsIn (installed left.state)) (sym k.holds.turn.held) (inl refl)));
            tables = tables_became e left holds.of_store k.holds.of_store k.edits k.still_edits (k.state ∙ ap (λ (h : List Entry). record e.state { last = after_flush h e.state.last }) (sym seen)) (parts ∙ ap (λ (l : List Version). l ∷ e.parts) (frozen.versions ∙ ap (λ (h : List Entry). sorted_of (unflushed h e.state.last)) (sym seen)));
            survives = subst (λ (h : List Entry). SurvivesInstall e left (after_flush h e.state.last)) (sym seen) k.survives;
            throughout = opens_throughout s.knows.participant.seen v.knows.participant.seen e left next (after_flush v.knows.participant.seen e.state.last) k.edits running k.survives frozen.covered refl seen (ap (λ (h : List Entry). after_flush h e.state.last) (sym seen));
            goes_on = subst (λ (h : List Entry). GoesOnAs s v (after (after_flush h e.state.last))) (sym seen) (goes_still s u v (after next) first second);
          }

      -- ---- a device failed

      pub not_flushed : HasBroken z s e next u left → HoldsEdits z s e → SawWhole z s s.knows.participant.seen → e.state.halted ≡ false → FlushesFrom (GoesOnAs s u) z s e.state (Err TableFault) u
      not_flushed k holds whole running = let seen : u.knows.participant.seen ≡ s.knows.participant.seen = ap (λ (x : SeatState). x.knows.participant.seen) k.changes.goes.same in (
        subst (SawWhole z s) (sym seen) whole,
        record {
          found = k.changes.found;
          running = running;
          busy = let c = frozen.count in let q = ap (λ (h : List Entry). length (unflushed h e.state.last)) seen in omega (arith, some, c, q);
          asked = left.state.failed;
          next = subst (λ (h : List Entry). IfSome left.state.failed (λ edit. edit ≡ after_flush h e.state.last)) (sym seen) k.asked;
          left = held_left z s u u (with_failed e.state left.state.failed) k.stands (changed_seat z s u e.state left.state k.changes) seen refl
              (subst (λ (t : Installed). IsIn (installed t) u.knows.held) k.state (subst (IsIn (installed left.state)) (sym k.holds.turn.held) (inl refl)));
          fault = tables_became e left holds.of_store k.holds.of_store k.edits k.still_edits k.state k.fault;
          survives = (next, ap (λ (h : List Entry). after_flush h e.state.last) (sym seen), k.survives, opens_throughout s.knows.participant.seen u.knows.participant.seen e left next next k.edits running k.survives frozen.covered refl seen refl);
          goes_on = goes_remembering s u (found_by z s u e.state k.changes.found ∷ tables_failed e.state.last left.state.failed ∷ []) no_fact (installed left.state ∷ []) s.turns k.changes.goes loose_none;
        },
      )

-- its table is the newest
pub newest : (e left : VersionSetState) (f : Frozen) (asked : Asked) → 1 ≤ length (versions_of f) → asked ≡ record { gone = gone.Frozen; versions = versions_of f; flushed = f.at } → left.parts ≡ parts_after asked e.parts → HasNewest (versions_of f) e left
newest e left f asked some is parts = parts ∙ ap (λ (x : Asked). parts_after x e.parts) is ∙ one (versions_of f) some
  where
    one : (vs : List Version) → 1 ≤ length vs → new_parts vs ++ e.parts ≡ vs ∷ e.parts
    one [] some = let wrong : ⊥ = omega (arith, some) in absurd wrong
    one (v ∷ vs) some = refl
