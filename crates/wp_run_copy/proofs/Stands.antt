-- An opened store that was ended by its first seat, which only read: it stands as one that is shown.
use Rattle.std.proofs.Common.{◌≡◌, ℕ, suc, ◌+◌, ◌≤◌, ◌^◌, List, [], ◌∷◌, ◌++◌, length, Some, refl, sym, ap, ◌∙◌, subst, append-nil, length-append, arith}
use Rattle.std.specs.Prelude.{count_by}
use Rattle.wp_fields.specs.declared.format.Format.TheVariants.{Two}
use Rattle.wp_entry.specs.Record.{last_number}
use Rattle.wp_model.specs.declared.entry.Entry.{Entry}
use Rattle.wp_core.specs.World.{Actor}
use Rattle.wp_rule.specs.Words.{SawAll}
use Rattle.wp_wal.specs.Wal.{WalState}
use Rattle.wp_text.specs.declared.script.Part.{Part}
use Rattle.wp_parts.specs.Parts.{log_first}
use Rattle.wp_opened.specs.OpenedFrom.{IsOpenedFrom}
use Rattle.wp_shared.specs.Seats.{SharedState, place_at}
use Rattle.wp_replies.specs.Explains.{Faults, AreFirstParts, all_exchanges}
use Rattle.wp_replies.specs.Known.{is_stop}
use Rattle.wp_threads.specs.Explained.{HaveRun, faults_in}
use Rattle.wp_status.specs.Use.{before, after}
use Rattle.wp_run.specs.Base.{IsBaseStore}
use Rattle.wp_run.specs.Headline.{Headline}
use Rattle.wp_run.specs.Serving.{faults_of}
use Rattle.wp_run.proofs.TopLemmas.{headline}
use Rattle.wp_run_copy.specs.CopyCall.{Copying, SourceStands, shown_by}

none_first : (run : List Part) → AreFirstParts [] run → run ≡ []
none_first [] first = refl
none_first (part ∷ run) first = absurd first

-- the store stands, under this id and with this history
pub record StandsAs (c : Copying) (id : ℕ) (history : List Entry) : Type 0 where
  pub source : SourceStands c
  pub id_is : source.id ≡ id
  pub history_is : source.left.history ≡ history

module _ {D : Type 0} (z : SharedState D) (c : Copying) (history : List Entry) (base : ℕ) (store : List (List ℕ × List ℕ)) (cells : z.cells ≡ 2 ^ c.options.bits) (limit : z.limit ≡ c.options.limit) (low : c.options.limit ≤ last_number Two) (first : Actor) (stands : SawAll (place_at z 0) first (length z.opened)) (seen : first.participant.seen ≡ z.opened)
    (opened : IsOpenedFrom c.options.id (before c.store) z) (run : HaveRun z [] [] history (after c.store)) (based : base ≡ run.ended.first_edit.segment.base) (store_is : IsBaseStore history base store) where
  -- nothing was published since it was opened
  opened_still : history ≡ z.opened
  opened_still = by run.explained.begins.0 run.explained.begins.1
    where
      by : (added : List Entry) → history ≡ z.opened ++ added → history ≡ z.opened
      by [] is = is ∙ append-nil z.opened
      by (entry ∷ added) is =
          let size : length history ≡ length (z.opened ++ entry ∷ added) = ap (λ (h : List Entry). length h) is in let parts = length-append z.opened (entry ∷ added) in
          let once : 0 ≡ 1 = run.explained.paired (suc (length z.opened)) (omega arith) (omega (arith, size, parts)) in absurd (omega (arith, once))

  -- no device failed
  no_faults : faults_in run.ended ≡ faults_of 0 0 0
  no_faults =
      let log = run.explained.log_failed in let tables = run.explained.tables_failed in
      let stopped = subst (λ (ran : List Part). count_by is_stop (all_exchanges ran []) ≡ (faults_in run.ended).log + (faults_in run.ended).renewals) (none_first run.run run.first) run.explained.log_stopped in
      let none : (faults_in run.ended).renewals ≡ 0 = omega (arith, log, stopped) in
      λ i. record { log = sym log i; tables = sym tables i; renewals = none i }

  pub stands_as : (id : ℕ) → ((wal : WalState) → log_first z.first ≡ Some wal → id ≡ wal.id) → StandsAs c id z.opened
  stands_as id bears =
      let h = headline z (shown_by c) [] history base store cells limit low first stands seen opened run based store_is [] (none_first run.run run.first) in
      subst (λ (f : Faults). (source : Headline (shown_by c) f []) → (source.id ≡ run.ended.opened.wal.id) → (source.left.history ≡ history) → f ≡ faults_of 0 0 0 → StandsAs c id z.opened) (sym no_faults)
      (λ source its left same. record { source = source; id_is = its ∙ sym (bears run.ended.opened.wal run.ended.opened.log); history_is = left ∙ opened_still })
      h.0 h.6 h.3 no_faults
