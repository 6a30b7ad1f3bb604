-- Words that choose to show a store, or to have a script made, leave the source uncalled.
use Rattle.std.specs.Prelude.{Ok, Err}
use Rattle.std.proofs.Common.{◌≡◌, ℕ, List, subst, ap, ◌∙◌}
use Rattle.wp_args.specs.Choice.{IsChoice}
use Rattle.wp_args.specs.declared.choice.Action.{Action}
use Rattle.wp_args.specs.declared.choice.Action.TheVariants as action
use Rattle.wp_args.specs.declared.choice.Choice.{Choice}
use Rattle.wp_run.specs.Run.{IsChosen, IsReadAs}
use Rattle.wp_status.specs.Use.{SourceUse}

show_uncalled : (source : SourceUse) (read : _) → IsReadAs action.Show source read → source.uncalled
show_uncalled source (Ok script) has = has.0
show_uncalled source (Err end) has = has.0

make_uncalled : (source : SourceUse) (seed clients lines : ℕ) (read : _) → IsReadAs (action.Make seed clients lines) source read → source.uncalled
make_uncalled source seed clients lines (Ok script) has = has.0
make_uncalled source seed clients lines (Err end) has = has.0

-- words choose one thing
as_chosen : (R : Action → Type 0) (words : List (List ℕ)) (choice : Choice) → ((ws : List (List ℕ)) (one other : Choice) → IsChoice ws one → IsChoice ws other → one ≡ other) → IsChoice words choice → R choice.action → (chosen : Action) → IsChosen words chosen → R chosen
as_chosen R words choice once is has chosen (other, is_other, same) = subst R (ap (λ (c : Choice). c.action) (once words choice other is is_other) ∙ same) has

pub shown_uncalled : (words : List (List ℕ)) (choice : Choice) (source : SourceUse) (read : _) → ((ws : List (List ℕ)) (one other : Choice) → IsChoice ws one → IsChoice ws other → one ≡ other) → IsChoice words choice → IsReadAs choice.action source read
    → IsChosen words action.Show → source.uncalled
shown_uncalled words choice source read once is has chosen = show_uncalled source read (as_chosen (λ a. IsReadAs a source read) words choice once is has action.Show chosen)

pub made_uncalled : (words : List (List ℕ)) (choice : Choice) (source : SourceUse) (read : _) → ((ws : List (List ℕ)) (one other : Choice) → IsChoice ws one → IsChoice ws other → one ≡ other) → IsChoice words choice → IsReadAs choice.action source read
    → (seed clients lines : ℕ) → IsChosen words (action.Make seed clients lines) → source.uncalled
made_uncalled words choice source read once is has seed clients lines chosen =
    make_uncalled source seed clients lines read (as_chosen (λ a. IsReadAs a source read) words choice once is has (action.Make seed clients lines) chosen)
