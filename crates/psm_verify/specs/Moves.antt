-- What an instruction does to the operands, as the verifier holds it, without its name.
use Rattle.std.specs.Prelude.{ℕ, Bool, false, ◌&&◌, ◌||◌, List, [], ◌++◌, Option, Some, None, option_map, replicate, slice_get}
use Rattle.std.specs.List.{flat_map}
use Rattle.psm_exprcode.specs.Kinds.{some_letter, some_value}
use Rattle.psm_exprcode.specs.declared.op.Letter.{Letter}
use Rattle.psm_exprcode.specs.Operations as table
use Rattle.psm_exprcode.specs.Table.{letters_of}
use Rattle.psm_exprcode.specs.WellFormed.{left_of}
use Rattle.psm_code.specs.declared.code.RawCode.{RawCode}
use Rattle.psm_code.specs.declared.code.RawRoutine.{RawRoutine}
use Rattle.psm_code.specs.declared.instruction.Instruction.{Instruction}
use Rattle.psm_code.specs.declared.instruction.Instruction.TheVariants.{Data}
use Rattle.psm_code.specs.Instructions.{instruction_effect, of_plan, plan_letters}
use Rattle.psm_code.specs.RoutineRules.{constant_fits, lacks_result, stated_fall_through, stated_branch}
use Rattle.psm_verify.specs.declared.effects.Effect.{Effect}
use Rattle.psm_verify.specs.declared.effects.Run.{Run}
use Rattle.psm_verify.specs.declared.effects.Run.TheVariants.{Few, Items}

pub record Moves : Type 0 where
  pub takes : List Letter
  pub fall_through : Option (List Letter)
  pub branching : Option (ℕ × List Letter)

abbrev pub moves_of : table.Effect → Moves
moves_of e = record { takes = e.takes; fall_through = e.fall_through; branching = e.branching }

-- what the table of instructions says
abbrev pub known_moves : RawCode → RawRoutine → Instruction → Letter → Letter → Option Moves
known_moves code r i k x = option_map moves_of (instruction_effect code r i k x)

-- the same of the instructions other than those that change rows
abbrev pub moves_at : RawCode → RawRoutine → Instruction → Letter → Letter → Option Moves
moves_at code r (Data p) k x = None
moves_at code r i k x = known_moves code r i k x

abbrev pub run_of : Run → List Letter
run_of (Few letters) = letters_of letters
run_of (Items letters) = letters.now

abbrev pub fall_through_of : Option Run → Option (List Letter)
fall_through_of None = None
fall_through_of (Some r) = Some (run_of r)

abbrev pub branch_of : Option (ℕ × Run) → Option (ℕ × List Letter)
branch_of None = None
branch_of (Some j) = Some (j.0, run_of j.1)

abbrev pub effect_of : Effect → Moves
effect_of e = record { takes = run_of e.takes; fall_through = fall_through_of e.fall_through; branching = branch_of e.branching }

abbrev pub moves_after : RawRoutine → ℕ → Moves → Option (List Letter) → Bool
moves_after r at m None = false
moves_after r at m (Some rest) = stated_fall_through r at m.fall_through rest && stated_branch r m.branching rest

abbrev pub moves_follow : RawRoutine → ℕ → List Letter → Moves → Bool
moves_follow r at s m = moves_after r at m (left_of m.takes s)

abbrev pub optional_follow : RawRoutine → ℕ → List Letter → Option Moves → Bool
optional_follow r at s None = false
optional_follow r at s (Some m) = moves_follow r at s m

-- what a plan takes, if it is there and what it names is
abbrev pub taken_by_plan : RawCode → RawRoutine → ℕ → Option (List Letter)
taken_by_plan code r p = of_plan (plan_letters code) (slice_get r.plans p)

abbrev pub plan_follows : RawRoutine → ℕ → List Letter → Option (List Letter) → Bool
plan_follows r at s None = false
plan_follows r at s (Some ls) = moves_follow r at s (record { takes = ls; fall_through = Some []; branching = None })

-- whether the operands follow, by whether it changes rows
abbrev pub follows_split : RawCode → RawRoutine → ℕ → List Letter → Instruction → Bool
follows_split code r at s (Data p) = plan_follows r at s (taken_by_plan code r p)
follows_split code r at s i = constant_fits i && (lacks_result code r s i || some_value (λ k. some_letter (λ x. optional_follow r at s (moves_at code r i k x))))

-- n rows of operands, each with the last one first
abbrev pub given_rows : ℕ → List Letter → List Letter
given_rows n row = flat_map (λ xs. xs) (replicate n row)

-- some letters before others, if those are there
abbrev pub prepend : List Letter → Option (List Letter) → Option (List Letter)
prepend xs None = None
prepend xs (Some ys) = Some (xs ++ ys)
