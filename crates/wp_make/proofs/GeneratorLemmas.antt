-- What turns make, one more at a time.
use Rattle.std.proofs.Common.{◌≡◌, ℕ, suc, ◌+◌, ◌≤◌, List, ◌++◌, ◌∙◌, append_assoc, subst, arith}
use Rattle.wp_text.specs.declared.script.Command.{Command}
use Rattle.wp_make.specs.declared.maker.Maker.{Maker}
use Rattle.wp_make.specs.declared.turn.Turn.{Turn}
use Rattle.wp_make.specs.declared.turn.Turn.TheVariants as turn
use Rattle.wp_make.specs.Generator.{drawn, next_state, turn_of, made_by, made_next, made_in}

-- a turn begins one transaction at most
begins_by : (t : Turn) (m : Maker) → (made_by t m).left.begins ≤ m.begins + 1
begins_by turn.Put m = omega arith
begins_by turn.Del m = omega arith
begins_by turn.Get m = omega arith
begins_by turn.Begin m = omega arith
begins_by turn.Maintain m = omega arith
begins_by turn.Commit m = omega arith
begins_by turn.RollBack m = omega arith

pub begins_few : (m : Maker) → (made_next m).left.begins ≤ m.begins + 1
begins_few m = let state = next_state m.state in begins_by (turn_of m.begun (drawn 8 state)) (record m { state = state })

-- the commands so far, and those of the turns that are left
pub made_more : (turns left : ℕ) (m now : Maker) (so_far commands all : List Command) → turns ≡ suc left → so_far ++ made_in turns m ≡ all → commands ≡ so_far ++ (made_next m).commands → now ≡ (made_next m).left → commands ++ made_in left now ≡ all
made_more turns left m now so_far commands all is before more after =
    (λ i. more i ++ made_in left (after i)) ∙ append_assoc so_far (made_next m).commands (made_in left (made_next m).left) ∙ subst (λ (n : ℕ). so_far ++ made_in n m ≡ all) is before
