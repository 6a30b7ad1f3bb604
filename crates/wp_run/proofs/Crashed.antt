-- What a crash leaves, by what the tables of the store say of it.
use Rattle.std.proofs.Common.{◌≡◌, ◌⊎◌, inl, inr, Bool, true, false, List, [], ◌++◌, ℕ, zero, suc, Some, None, refl, sym, subst, ap, ◌∙◌, append-nil}
use Rattle.wp_model.specs.declared.entry.Entry.{Entry}
use Rattle.wp_model.specs.Flushed.{InstalledEdit}
use Rattle.wp_outside.specs.Disk.{Moment, images}
use Rattle.wp_core.specs.Lists.{one_if}
use Rattle.wp_core.specs.States.{WriteState, Installed}
use Rattle.wp_replies.specs.Known.{StoredState}
use Rattle.wp_replies.specs.Replies.{Untaken}
use Rattle.wp_shared.specs.Ended.{IsFrom, OpensAsLeft}
use Rattle.wp_run.specs.Crash.{MayBeSpelled, MayBeLast, CrashOpens}

spelled : (faults base : ℕ) (closed : Bool) (log failed history entries opened : List Entry) → log ≡ history → (faults ≡ 0 → failed ≡ []) → (entries ≡ log) ⊎ ((closed ≡ true) × (entries ≡ log ++ failed)) → IsFrom base entries opened → MayBeSpelled faults base history failed opened
spelled zero base closed log failed history entries opened is none (inl same) from = subst (λ (h : List Entry). IsFrom base h opened) (same ∙ is) from
spelled zero base closed log failed history entries opened is none (inr more) from =
    subst (λ (h : List Entry). IsFrom base h opened) (more.1 ∙ (ap (λ (f : List Entry). log ++ f) (none refl) ∙ (append-nil log ∙ is))) from
spelled (suc faults) base closed log failed history entries opened is none (inl same) from = inl (subst (λ (h : List Entry). IsFrom base h opened) (same ∙ is) from)
spelled (suc faults) base closed log failed history entries opened is none (inr more) from = inr (subst (λ (h : List Entry). IsFrom base h opened) (more.1 ∙ ap (λ (h : List Entry). h ++ failed) is) from)

none_is : (edit : InstalledEdit) → None ≡ Some edit → ⊥
none_is edit e = absurd cc

module _ (writes : WriteState) (edits : Installed) (history : List Entry) where
  abbrev left : StoredState
  left = record { history = history; edit = edits.last }

  abbrev failed : Untaken
  failed = record { entries = writes.failed; edit = edits.failed }

  named : (halted : Bool) (edit : InstalledEdit) → (halted ≡ false → edits.failed ≡ None) → (edit ≡ edits.last) ⊎ (edits.failed ≡ Some edit) → MayBeLast (one_if halted) left failed edit
  named false edit none (inl same) = same
  named false edit none (inr is) = absurd (none_is edit (sym (none refl) ∙ is))
  named true edit none (inl same) = inl same
  named true edit none (inr is) = inr is

  pub crash_opens : (log_faults renewals : ℕ) (id : ℕ) (log manifest tables : List Moment) → writes.log ≡ history → (log_faults ≡ 0 → writes.failed ≡ []) → (edits.halted ≡ false → edits.failed ≡ None)
      → ((l m t : List ℕ) → images log l → images manifest m → images tables t → OpensAsLeft id writes edits l m t) → CrashOpens (record { log = log_faults; tables = one_if edits.halted; renewals = renewals }) id left failed log manifest tables
  crash_opens log_faults renewals id log manifest tables is unfailed none opens = λ l m t a b c.
      let o = opens l m t a b c in record {
        history = o.history;
        edit = o.edit;
        spelled = spelled log_faults o.edit.segment.base writes.closed writes.log writes.failed history o.left o.history is unfailed o.spelled o.same;
        last = named edits.halted o.edit none o.named;
        opens = o.opens;
      }
