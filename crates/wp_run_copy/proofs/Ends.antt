-- How a call that copies ends.
use Rattle.std.proofs.Common.{◌≡◌, ℕ, ◌≤◌, false, List, Some, None, inl, inr, sym, ap, subst, ◌∙◌, arith}
use Rattle.std.specs.Prelude.{Result, Ok, Err, IfOk, IfErr}
use Rattle.wp_outside.specs.declared.disk.Disks.{Disks}
use Rattle.wp_model.specs.declared.entry.Entry.{Entry}
use Rattle.wp_contents.specs.Devices.{DevicesLeft}
use Rattle.wp_refused.specs.declared.error.OpenError.{OpenError}
use Rattle.wp_refused.specs.declared.error.OpenError.TheVariants as open_error
use Rattle.wp_fields.specs.declared.format.Format.TheVariants.{Two}
use Rattle.wp_entry.specs.Record.{last_number}
use Rattle.wp_args.specs.CopyChoice.{IsCopyChoice, IsCopyEntered}
use Rattle.wp_args.specs.declared.choice.StoreOptions.{StoreOptions}
use Rattle.wp_args.specs.declared.limits.TheConstants.{MOST_BITS}
use Rattle.wp_checkpoint.specs.declared.copying.Copied.{Copied}
use Rattle.wp_checkpoint.specs.declared.error.CopyError.{CopyError}
use Rattle.wp_checkpoint.specs.declared.error.CopyError.TheVariants as copy_error
use Rattle.wp_checkpoint.specs.declared.error.CopyRefused.{CopyRefused}
use Rattle.wp_copy.specs.CopyAt.{CopiesTo, RefusesAt}
use Rattle.wp_status.specs.declared.status.Status.{Status}
use Rattle.wp_status.specs.declared.status.Status.TheVariants as status
use Rattle.wp_status.specs.Status as opening
use Rattle.wp_status.specs.Use.{AreUncalled, before, after}
use Rattle.wp_status.specs.Written.{IsWritten}
use Rattle.wp_run_copy.specs.CopyCall.{Copying, SourceUnopened, HasCopied, Copies, CopyCall, CopyEnds, IsCopied, IsCopyChoiceOf}
use Rattle.wp_run_copy.specs.Line.{copied_line}
use Rattle.wp_run_copy.specs.Told.{IsStatusOf, Tells}
use Rattle.wp_run_copy.proofs.Stands.{StandsAs}

-- ---- the store was not opened

pub unopened_ends : (c : Copying) (why : OpenError) (end : Status) → opening.IsStatusOf why end → SourceUnopened c why → Copies c end
unopened_ends c open_error.Memory end is none = rw is (inl none)
unopened_ends c (open_error.OpenFault device) end is none = rw is none
unopened_ends c (open_error.Contents damage) end is none = rw is none

-- ---- it was copied, or not

module _ (c : Copying) (id : ℕ) (history : List Entry) (stands : StandsAs c id history) where
  has_copied : (copied : Copied) → CopiesTo id history (before c.target) copied (after c.target) → HasCopied c copied
  has_copied copied copies = record {
    source = stands.source;
    copies = subst (λ (x : ℕ × List Entry). CopiesTo x.0 x.1 (before c.target) copied (after c.target)) (λ i. (sym stands.id_is i, sym stands.history_is i)) copies;
  }

  line_ends : (copied : Copied) (end : Status) → CopiesTo id history (before c.target) copied (after c.target) → IsWritten false false c.sink (copied_line copied) end → Copies c end
  line_ends copied status.Ok copies w = (copied, has_copied copied copies, w.2)
  line_ends copied status.LogFault copies w = absurd cc
  line_ends copied status.TableFault copies w = absurd cc
  line_ends copied status.SinkFault copies w = (w.0, copied, has_copied copied copies, w.1)
  line_ends copied other copies w = absurd w

  refused_ends : (why : CopyError) (end : Status) → RefusesAt (before c.target) (after c.target) why → IsStatusOf why end → Copies c end
  refused_ends copy_error.Memory end refused is = rw is (inr (record { source = stands.source; refused = refused }))
  refused_ends (copy_error.CopyHeld device) end refused is = rw is (record { source = stands.source; refused = refused })
  refused_ends (copy_error.CopyFault device) end refused is = rw is (record { source = stands.source; refused = refused })

  pub told_ends : {E : Type 0} (left : Disks E → DevicesLeft) (outcome : Result (Copied × Disks E) (CopyRefused E)) (end : Status) (target : Disks E) → after c.target ≡ left target → Tells outcome c.sink end target
      → IfOk outcome (λ made. CopiesTo id history (before c.target) made.0 (left made.1)) → IfErr outcome (λ refused. RefusesAt (before c.target) (left refused.target) refused.why) → Copies c end
  told_ends left (Ok made) end target same told copies refuses =
      line_ends made.0 end (subst (λ (x : DevicesLeft). CopiesTo id history (before c.target) made.0 x) (sym (same ∙ ap left told.1)) copies) told.0
  told_ends left (Err refused) end target same told copies refuses =
      refused_ends refused.why end (subst (λ (x : DevicesLeft). RefusesAt (before c.target) x refused.why) (sym (same ∙ ap left told.1)) refuses) told.0

-- ---- a call

pub wordless_ends : (call : CopyCall) (end : Status) → AreUncalled call.store → AreUncalled call.target → IsCopyChoiceOf call.words (Err end) → CopyEnds call end
wordless_ends call status.Words store target why = why
wordless_ends call status.Memory store target why = inl (store, target)
wordless_ends call other store target why = absurd why

pub copied_ends : (call : CopyCall) (end : Status) → IsCopied call end → CopyEnds call end
copied_ends call status.Memory h = inr h
copied_ends call status.Words h = absurd h.copied
copied_ends call status.Ok h = h
copied_ends call status.SourceFault h = h
copied_ends call status.SinkFault h = h
copied_ends call (status.Script fault) h = h
copied_ends call status.LogFault h = h
copied_ends call status.TableFault h = h
copied_ends call (status.Contents damage) h = h
copied_ends call (status.OpenFault device) h = h
copied_ends call (status.CopyFault device) h = h
copied_ends call (status.CopyHeld device) h = h

-- the numbers of the options are in their ranges
pub in_ranges : (words : List (List ℕ)) (options : StoreOptions) → IsCopyChoice words options → (options.bits ≤ MOST_BITS) × (1 ≤ options.limit) × (options.limit ≤ last_number Two)
in_ranges words options is = by _ is.entered
  where
    by : (entered : _) → IsCopyEntered entered options → (options.bits ≤ MOST_BITS) × (1 ≤ options.limit) × (options.limit ≤ last_number Two)
    by None none = absurd none
    by (Some x) has = let high = has.limit.high in (has.bits.high, has.limit.low, omega (arith, high))
