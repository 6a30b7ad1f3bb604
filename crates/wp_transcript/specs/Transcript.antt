-- The text that a command prints: a transcript, which has all clients' replies and the history that explains them; or a summary.
use Rattle.std.specs.Prelude.{ℕ, ◌+◌, ◌==◌, List, [], ◌∷◌, ◌++◌, length, take, drop, codes, if◌then◌else◌}
use Rattle.std.specs.List.{flat_map}
use Rattle.wp_model.specs.declared.carried.Carried.{Carried}
use Rattle.wp_model.specs.declared.entry.Entry.{Entry}
use Rattle.wp_model.specs.History.{undecided}
use Rattle.wp_text.specs.declared.script.Part.{Part}
use Rattle.wp_text.specs.declared.reply.Reply.{Reply}
use Rattle.wp_args.specs.declared.choice.Action.{Action}
use Rattle.wp_args.specs.declared.choice.Action.TheVariants as action
use Rattle.wp_make.specs.Summary.{summary_of}
use Rattle.wp_text.specs.Lines.{client_line, reply_line, base_lines, entry_lines, end_line, line_end}
use Rattle.wp_cuts.specs.Cut.{carried_of}

-- one client's replies, below its name
abbrev pub client_text : Part → List Reply → List ℕ
client_text part answers = client_line part.client ++ flat_map reply_line answers

abbrev pub client_lines : List Part → List (List Reply) → List ℕ
client_lines [] sessions = []
client_lines (part ∷ parts) [] = []
client_lines (part ∷ parts) (answers ∷ others) = client_text part answers ++ client_lines parts others

-- the lines of the base of the log that the store was opened from, with what it had there and carried: of the base 0 there are none
abbrev pub opening_lines : ℕ → List (List ℕ × List ℕ) → List Carried → List ℕ
opening_lines base store carried = if base == 0 then [] else base_lines base store carried

-- the transcript: each client's replies, then the base with what the store had there, then every entry behind it, then the end
abbrev pub transcript_of : List Part → List (List Reply) → (base : ℕ) → List (List ℕ × List ℕ) → List Entry → List ℕ
transcript_of script sessions base store history =
    client_lines script sessions ++ codes "history" ++ line_end ++ opening_lines base store (carried_of (take base history)) ++ entry_lines (base + 1) (drop base history) ++ end_line (length history) (length (undecided history))

-- the text of a command: of a script that it made the summary, else the transcript
abbrev pub text_of : Action → List Part → List (List Reply) → (base : ℕ) → List (List ℕ × List ℕ) → List Entry → List ℕ
text_of (action.Make seed clients lines) script sessions base store history = summary_of seed clients lines sessions history
text_of other script sessions base store history = transcript_of script sessions base store history
