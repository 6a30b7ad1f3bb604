-- The edit of a flush, and the table that takes the place of what was frozen.
use Rattle.std.proofs.Common.{◌≡◌, ◌⊎◌, inl, inr, ℕ, suc, ◌<◌, ◌≤◌, nat_le, Bool, true, false, cond, List, [], ◌∷◌, ◌++◌, length, map, Option, Some, None, Result, Ok, Err, OnErr, refl, sym, subst, ap, ◌∙◌, arith}
use Rattle.std.proofs.lemmas.Bool.{cases_lt, le-leb}
use Rattle.std.specs.Prelude.{IfSome}
use Rattle.std.specs.Arc.{arc_value}
use Rattle.std.specs.Option.{option_or}
use Rattle.wp_model.specs.declared.version.Version.{Version}
use Rattle.wp_model.specs.Flushed.{InstalledEdit, IsEditCovered}
use Rattle.wp_model.specs.Versions.{version_at}
use Rattle.wp_merge.specs.Merge.{joined, sorted_of}
use Rattle.wp_merge.proofs.Sorted.{at_append, at_sorted}
use Rattle.wp_replies.specs.Tables.{unflushed, after_flush}
use Rattle.wp_store.specs.Store.{with_newest}
use Rattle.wp_tableset.specs.Changes.{Asked, one_part}
use Rattle.wp_tableset.specs.declared.gone.Gone.TheVariants as gone
use Rattle.wp_core.specs.Lists.{IsIn}
use Rattle.wp_core.specs.Sound.Store.{NoneFlushed}
use Rattle.wp_core.specs.States.{Content, StoreState, Installed, store, installed}
use Rattle.wp_core.specs.Views.{Fact, tables_stay, frozen_stay}
use Rattle.wp_core.specs.World.{Participant, Actor, World}
use Rattle.wp_model.proofs.Tests.{none_some}
use Rattle.wp_rule.specs.Knows.{Noted, KnowsMoved}
use Rattle.wp_rule.proofs.Knows.{noted_is}
use Rattle.wp_parts.specs.VersionSet.{VersionSetState, with_new}
use Rattle.wp_parts.specs.Installs.{HadCause}
use Rattle.wp_tableset.specs.Set.{TableSetState}
use Rattle.wp_outside.specs.Faults.{Rose}
use Rattle.wp_shared.specs.Notes.{with_participant, GoesOn}
use Rattle.wp_shared.specs.Seats.{SharedState, SeatState, Stands, place_at}
use Rattle.wp_shared.proofs.Tables.{held_state}
use Rattle.wp_maint.specs.declared.frozen.Frozen.{Frozen}
use Rattle.wp_maint.specs.Flush.{versions_of, HasFrozen, MayPut}
use Rattle.wp_maint.specs.Holding.{HoldsEdits}
use Rattle.wp_maint.specs.Installs.{is_compaction, next_of, MayInstall}
use Rattle.wp_maint.proofs.Versions.{Found, none_past, same_sorted}

-- ---- the edit

-- where something is frozen, its table is one more
some_new : (versions : List Version) (last : InstalledEdit) → 1 ≤ length versions → with_new gone.Frozen versions last ≡ record last { versions = sorted_of (versions ++ last.versions); tables = suc last.tables }
some_new [] last some = let wrong : ⊥ = omega (arith, some) in absurd wrong
some_new (v ∷ versions) last some = refl

-- in the end only what is sorted counts
pub same_list : (versions later more : List Version) → versions ≡ sorted_of later → sorted_of (versions ++ more) ≡ sorted_of (later ++ more)
same_list versions later more is =
    same_sorted (versions ++ more) (later ++ more) (λ key p.
    at_append versions more key p
    ∙ ap (λ (o : Found). option_or o (version_at more key p)) (ap (λ (l : List Version). version_at l key p) is ∙ at_sorted later key p)
    ∙ sym (at_append later more key p))

module _ (a : Actor) (t : Installed) (f : Frozen) (asked : Asked) (k : HasFrozen a t f) (some : 1 ≤ length (versions_of f)) (is : asked ≡ record { gone = gone.Frozen; versions = versions_of f; flushed = f.at }) where
  -- what is asked for of what is frozen is the edit of a flush
  pub same_edit : next_of asked t.last ≡ after_flush a.participant.seen t.last
  same_edit =
      ap (λ (x : Asked). next_of x t.last) is
      ∙ ap (λ (x : InstalledEdit). record x { segment = t.last.segment; flushed = f.at }) (some_new (versions_of f) t.last some)
      ∙ (λ i. record { segment = t.last.segment; flushed = k.at i; versions = same_list (versions_of f) (unflushed a.participant.seen t.last) t.last.versions k.versions i; tables = suc t.last.tables })

  pub may_flush : t.halted ≡ false → MayInstall a t asked
  may_flush running = record {
    knows = record {
      running = running;
      covered = subst (IsEditCovered a.participant.seen) (sym same_edit) k.covered;
      rises = let n = ap (λ (x : InstalledEdit). x.flushed) same_edit in let l = k.later.0 in let at = k.at in omega (arith, n, l, at);
      one_more = λ _. let n = ap (λ (x : InstalledEdit). x.tables) same_edit in omega (arith, n);
      keeps = λ compacts. let none : false ≡ true = sym (ap (λ (x : Asked). is_compaction x.gone) is) ∙ compacts in absurd cc;
      segment = refl;
    };
    gone = λ tables. let none : false ≡ true = sym (ap (λ (x : Asked). is_compaction x.gone) is) ∙ ap is_compaction tables in absurd cc;
  }

-- what is so of the edit that was asked for is so of the one whose install failed, if one did
pub asked_of : (so : InstalledEdit → Type 0) (edit : InstalledEdit) (failed : Option InstalledEdit) → so edit → IfSome failed (λ next. next ≡ edit) → IfSome failed so
asked_of so edit None is same = tt
asked_of so edit (Some next) is same = subst so (sym same) is

-- a fault behind another call is one since before it
pub fault_since : (old mid new : TableSetState) → mid.manifest.log.faults ≡ old.manifest.log.faults → mid.faults ≡ old.faults → HadCause mid new → HadCause old new
fault_since old mid new same equal (inl rose) = inl (subst (λ (n : ℕ). Rose n new.manifest.log.faults) same rose)
fault_since old mid new same equal (inr rose) = inr (subst (λ (n : ℕ). Rose n new.faults) equal rose)

-- where it is refused, so much more is so
pub on_err : {T E : Type 0} {P Q : Type 0} (r : Result T E) → (P → Q) → OnErr r P → OnErr r Q
on_err (Ok x) more so = tt
on_err (Err e) more so = more so

pub still_holds : {D : Type 0} (z : SharedState D) (s u : SeatState) (e left : VersionSetState) (p : Participant) (test : Fact → Bool) → HoldsEdits z s e → GoesOn test (installed left.state ∷ []) s.turns (with_participant p s) u → left.first ≡ e.first → HoldsEdits z u left
still_holds z s u e left p test h k first = record {
  turn = record {
    same_table = ap (λ (x : SeatState). x.table) k.same ∙ h.turn.same_table;
    live = ap (λ (x : SeatState). x.knows.live) k.same ∙ h.turn.live;
    held = ap (λ (x : SeatState). x.knows.held) k.same;
    turns = ap (λ (x : SeatState). x.turns) k.same ∙ h.turn.turns;
  };
  of_store = h.of_store ∙ ap Some (sym first);
}

-- ---- the table

or_same : (a b : Found) → a ≡ None → option_or a b ≡ b
or_same a b none = ap (λ (o : Found). option_or o b) none

-- the tables with it are one list
joined_with : (table : Option (List Version)) (versions : List Version) (tables : List (List Version)) → table ≡ one_part versions → joined (with_newest table tables) ≡ versions ++ joined tables
joined_with table versions tables is = ap (λ (o : Option (List Version)). joined (with_newest o tables)) is ∙ of versions
  where
    of : (vs : List Version) → joined (with_newest (one_part vs) tables) ≡ vs ++ joined tables
    of [] = refl
    of (v ∷ vs) = refl

module _ {D : Type 0} (z : SharedState D) (s : SeatState) (e : Installed) (f : Frozen) (table : Option (List Version)) (may : MayPut s.knows e f table) (u : SeatState) (w : World) (stands : Stands z u w)
    (notes : (fact : Fact) → Noted s.knows fact → Noted u.knows fact) (t : StoreState) (others : List Content) (held : u.knows.held ≡ store t ∷ others)
    (now : StoreState) (memory : (key : List ℕ) (p : ℕ) → version_at now.memory key p ≡ cond (nat_le p f.at) None (version_at t.memory key p)) (put : now.tables ≡ sorted_of (joined (with_newest table (map arc_value f.tables.items)))) where
  abbrev tables : List Version
  tables = joined (map arc_value f.tables.items)

  tables_is : now.tables ≡ sorted_of (versions_of f ++ tables)
  tables_is = put ∙ ap sorted_of (joined_with table (versions_of f) (map arc_value f.tables.items) may.table_is)

  here : w.store ≡ t
  here = held_state (place_at z u.by) u.knows w (store t) stands (subst (IsIn (store t)) (sym held) (inl refl))

  frozen_at : (key : List ℕ) (q : ℕ) → q ≤ f.at → version_at t.memory key q ≡ version_at (versions_of f) key q
  frozen_at key q low = ap (λ (x : StoreState). version_at x.memory key q) (sym here) ∙ (noted_is (place_at z u.by) u.knows w (frozen_stay f.at (versions_of f)) stands (notes (frozen_stay f.at (versions_of f)) may.frozen)).is_so.1 key q low

  tables_then : t.tables ≡ may.before
  tables_then = ap (λ (x : StoreState). x.tables) (sym here) ∙ (noted_is (place_at z u.by) u.knows w (tables_stay may.before may.floor) stands (notes (tables_stay may.before may.floor) may.named)).is_so.0

  gone_below : (key : List ℕ) (q : ℕ) → q ≤ f.at → version_at now.memory key q ≡ None
  gone_below key q low = memory key q ∙ ap (λ (b : Bool). cond b None (version_at t.memory key q)) (le-leb q f.at low)

  same_above : (key : List ℕ) (q : ℕ) → f.at < q → version_at now.memory key q ≡ version_at t.memory key q
  same_above key q above = memory key q ∙ ap (λ (b : Bool). cond b None (version_at t.memory key q)) (not_low q above)
    where
      not_low : (q : ℕ) → f.at < q → nat_le q f.at ≡ false
      not_low q above = grind (arith, above)

  now_at : (key : List ℕ) (q : ℕ) → version_at now.tables key q ≡ option_or (version_at (versions_of f) key q) (version_at t.tables key q)
  now_at key q =
      ap (λ (l : List Version). version_at l key q) tables_is
      ∙ at_sorted (versions_of f ++ tables) key q
      ∙ at_append (versions_of f) tables key q
      ∙ ap (option_or (version_at (versions_of f) key q)) (sym (at_sorted tables key q) ∙ ap (λ (l : List Version). version_at l key q) (may.tables ∙ sym tables_then))

  pub knows_moved : KnowsMoved t e.last.flushed now.memory now.tables
  knows_moved = record {
    same = λ key q. at_append now.memory now.tables key q ∙ elim (cases_lt f.at q) [
      | inr low ↦
          or_same (version_at now.memory key q) (version_at now.tables key q) (gone_below key q low)
          ∙ now_at key q
          ∙ ap (λ (o : Found). option_or o (version_at t.tables key q)) (sym (frozen_at key q low))
          ∙ sym (at_append t.memory t.tables key q)
      | inl above ↦
          ap (λ (o : Found). option_or o (version_at now.tables key q)) (same_above key q above)
          ∙ ap (option_or (version_at t.memory key q)) (now_at key q ∙ or_same (version_at (versions_of f) key q) (version_at t.tables key q) (none_past f.at (versions_of f) may.low key q above))
          ∙ sym (at_append t.memory t.tables key q)
    ];
    above = λ key q above. same_above key q (let l = may.flushed in omega (arith, l, above));
    below = λ key q value there. below_by key q value (version_at (versions_of f) key q) refl (sym (now_at key q) ∙ there);
  }
    where
      below_by : (key : List ℕ) (q : ℕ) (value : Option (List ℕ)) (o : Found) → version_at (versions_of f) key q ≡ o → option_or (version_at (versions_of f) key q) (version_at t.tables key q) ≡ Some value
          → (version_at t.tables key q ≡ Some value) ⊎ ((q ≤ e.last.flushed) × (version_at t.memory key q ≡ Some value))
      below_by key q value None is there = inl (sym (or_same (version_at (versions_of f) key q) (version_at t.tables key q) is) ∙ there)
      below_by key q value (Some v) is there = elim (cases_lt f.at q) [
        | inl above ↦ absurd (none_some (version_at (versions_of f) key q) v (none_past f.at (versions_of f) may.low key q above) is)
        | inr low ↦ inr ((let l = may.flushed in omega (arith, l, low)), frozen_at key q low ∙ is ∙ sym (ap (λ (x : Found). option_or x (version_at t.tables key q)) is) ∙ there)
      ]

  pub none_flushed : NoneFlushed now.memory e.last.flushed
  none_flushed key p low = gone_below key p (let l = may.flushed in omega (arith, l, low))

  pub tables_named : now.tables ≡ e.last.versions
  tables_named =
      tables_is
      ∙ same_sorted (versions_of f ++ tables) (versions_of f ++ may.before) (λ key p.
      at_append (versions_of f) tables key p
      ∙ ap (option_or (version_at (versions_of f) key p)) (sym (at_sorted tables key p) ∙ ap (λ (l : List Version). version_at l key p) may.tables)
      ∙ sym (at_append (versions_of f) may.before key p))
      ∙ sym may.last
