-- An argument that subcommands do not take leaves a command with as many that they take as it had.
use Rattle.std.proofs.Common.{◌≡◌, refl, ap, ◌∙◌, Bool, true, false, ◌||◌, Result, Ok, Err, IfOk}
use Rattle.clap.specs.Built.{AddsArg}
use Rattle.clap.specs.declared.builder.arg.Arg.{Arg}
use Rattle.clap.specs.declared.builder.command.Command.{Command}
use Rattle.clap.specs.declared.builder.command.Command.TheViews.{out-Command as fields_of}

or_false : (b : Bool) → (b || false) ≡ b
or_false true = refl
or_false false = refl

pub kept : {E : Type 0} (old : Command) (arg : Arg) (result : Result Command E) → arg.global ≡ false → IfOk result (λ made. AddsArg old arg made)
    → IfOk result (λ made. (fields_of made).has_globals ≡ (fields_of old).has_globals)
kept old arg (Ok made) local adds = adds.globals ∙ ap (λ (global : Bool). (fields_of old).has_globals || global) local ∙ or_false (fields_of old).has_globals
kept old arg (Err e) local adds = tt
