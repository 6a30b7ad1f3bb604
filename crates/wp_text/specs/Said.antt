-- What is written for a reply.
use Rattle.std.specs.Prelude.{List, ℕ, ◌++◌, codes, decimal}
use Rattle.wp_text.specs.declared.lines.Words.{Words}
use Rattle.wp_text.specs.declared.lines.Words.TheVariants as words
use Rattle.wp_text.specs.Lines.{holder_words, rows_words}

abbrev pub said : Words → List ℕ
said (words.Text text) = text.now
said (words.Number text n) = text.now ++ decimal n
said (words.Numbers text n m) = text.now ++ decimal n ++ codes " " ++ decimal m
said (words.Word text word) = text.now ++ word.now
said (words.WordAt text word n) = text.now ++ word.now ++ codes " @" ++ decimal n
said (words.Own value) = codes "get " ++ value.now ++ codes " own"
said (words.Busy holder) = codes "busy " ++ holder_words holder.now
said (words.Rows pairs n) = codes "rows @" ++ decimal n ++ rows_words pairs.now
