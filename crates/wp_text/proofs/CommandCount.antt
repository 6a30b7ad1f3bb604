-- A script has no more commands than bytes, since each has a line, and the first line of a part is none.
use Rattle.std.proofs.Common.{◌≡◌, ℕ, suc, ◌+◌, ◌≤◌, eqb, List, [], ◌∷◌, length, Option, Some, None, refl, ap, arith}
use Rattle.std.specs.List.{flat_map, filter_map, AllZip}
use Rattle.std.proofs.lemmas.List.{length-append, length-map}
use Rattle.std.proofs.lemmas.List.Splits.{length-slice_split}
use Rattle.std.proofs.lemmas.List.Sums.{count_by-le-length}
use Rattle.wp_text.specs.declared.line.Statement.{Statement}
use Rattle.wp_text.specs.declared.line.Statement.TheVariants as statement
use Rattle.wp_text.specs.declared.script.Part.{Part}
use Rattle.wp_text.specs.Grammar.{lines_of, Means, statements_of, IsScript, commands_of}

statement_count : (parts : List Part) → length (flat_map statements_of parts) ≡ length (commands_of parts) + length parts
statement_count [] = refl
statement_count (part ∷ parts) = omega (arith, statement_count parts, length-append (statements_of part) (flat_map statements_of parts), length-append part.commands (commands_of parts), length-map part.commands (λ c. statement.Command c))

said_few : (meanings : List (Option Statement)) → length (filter_map (λ (meaning : Option Statement). meaning) meanings) ≤ length meanings
said_few [] = omega arith
said_few (None ∷ meanings) = omega (arith, said_few meanings)
said_few (Some s ∷ meanings) = omega (arith, said_few meanings)

as_many : (lines : List (List ℕ)) (meanings : List (Option Statement)) → AllZip Means lines meanings → length meanings ≡ length lines
as_many [] [] each = refl
as_many [] (m ∷ ms) each = absurd each
as_many (l ∷ ls) [] each = absurd each
as_many (l ∷ ls) (m ∷ ms) each = ap suc (as_many ls ms each.1)

with_a_part : (parts : List Part) (n : ℕ) → length (commands_of parts) + length parts ≤ n + 1 → length (commands_of parts) ≤ n
with_a_part [] n h = omega arith
with_a_part (part ∷ parts) n h = omega (arith, h)

pub few_commands : (bytes : List ℕ) (parts : List Part) → IsScript bytes parts → length (commands_of parts) ≤ length bytes
few_commands bytes parts is =
    let lines = is.lines in
    with_a_part parts (length bytes) (omega (arith, statement_count parts, ap length lines.statements, said_few lines.meanings, as_many (lines_of bytes) lines.meanings lines.each, length-slice_split (λ b. eqb b 0x0A) bytes, count_by-le-length (λ b. eqb b 0x0A) bytes))
