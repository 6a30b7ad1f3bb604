-- The summary of a made script's run.
use Rattle.std.specs.Prelude.{ℕ, List, ◌++◌, length, codes, decimal}
use Rattle.wp_model.specs.declared.entry.Entry.{Entry}
use Rattle.wp_model.specs.History.{undecided}
use Rattle.wp_text.specs.declared.reply.Reply.{Reply}
use Rattle.wp_text.specs.Lines.{end_line, line_end}
use Rattle.wp_make.specs.declared.kind.Kind.TheVariants.{Puts, Commits, RollBacks, Gets, Missing}
use Rattle.wp_make.specs.declared.sizes.Sizes.{Sizes}
use Rattle.wp_make.specs.Totals.{count_of, store_of}

-- the line that names the script by its numbers
abbrev pub made_line : (seed clients lines : ℕ) → List ℕ
made_line seed clients lines = codes "made " ++ decimal seed ++ codes " " ++ decimal clients ++ codes " " ++ decimal lines ++ line_end

-- a count behind what it counts
abbrev pub count_line : List ℕ → ℕ → List ℕ
count_line counted n = counted ++ codes " " ++ decimal n ++ line_end

abbrev pub store_line : Sizes → List ℕ
store_line sizes = codes "store " ++ decimal sizes.keys ++ codes " " ++ decimal sizes.bytes ++ line_end

-- the lines of counts, of all clients' replies
abbrev pub count_lines : List (List Reply) → List ℕ
count_lines sessions =
    count_line (codes "puts") (count_of Puts sessions)
    ++ count_line (codes "commits") (count_of Commits sessions)
    ++ count_line (codes "rollbacks") (count_of RollBacks sessions)
    ++ count_line (codes "gets") (count_of Gets sessions)
    ++ count_line (codes "missing") (count_of Missing sessions)

-- the summary of these replies of the clients and of the history that is left
abbrev pub summary_of : (seed clients lines : ℕ) → List (List Reply) → List Entry → List ℕ
summary_of seed clients lines sessions history =
    made_line seed clients lines ++ end_line (length history) (length (undecided history)) ++ count_lines sessions ++ store_line (store_of history)
