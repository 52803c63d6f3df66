-- The rules of lines by whether an instruction changes rows, which is where the verifier makes the difference.
use Rattle.std.proofs.Common.{◌≡◌, ℕ, Bool, true, false, ◌&&◌, ◌||◌, List, [], refl, ap, ◌∙◌, Option, Some, None}
use Rattle.std.specs.Prelude.{codes, option_map}
use Rattle.psm_exprcode.specs.declared.op.Letter.{Letter}
use Rattle.psm_exprcode.specs.declared.op.Letter.TheVariants.{N}
use Rattle.psm_exprcode.specs.Kinds.{some_letter, some_value}
use Rattle.psm_exprcode.specs.Operations.{Effect, plain}
use Rattle.psm_exprcode.specs.WellFormed.{left_of}
use Rattle.psm_code.specs.declared.code.RawCode.{RawCode}
use Rattle.psm_code.specs.declared.code.RawRoutine.{RawRoutine}
use Rattle.psm_code.specs.declared.instruction.Instruction.{Instruction}
use Rattle.psm_code.specs.declared.instruction.Instruction.TheVariants as instruction
use Rattle.psm_code.specs.Instructions.{instruction_effect}
use Rattle.psm_code.specs.RoutineRules.{constant_fits, follows_with, lacks_result, operands_follow, stated_after}
use Rattle.psm_verify.specs.Moves.{follows_split, moves_after, moves_of, optional_follow, plan_follows, taken_by_plan}
use Rattle.psm_verify.proofs.Placing.{some_letter_is, some_value_is}

follow_after : (r : RawRoutine) (at : ℕ) (e : Effect) (o : Option (List Letter)) → stated_after r at e o ≡ moves_after r at (moves_of e) o
follow_after r at e None = refl
follow_after r at e (Some rest) = refl

follow_is : (r : RawRoutine) (at : ℕ) (s : List Letter) (o : Option Effect) → follows_with r at s o ≡ optional_follow r at s (option_map moves_of o)
follow_is r at s None = refl
follow_is r at s (Some e) = follow_after r at e (left_of e.takes s)

follow_plan : (r : RawRoutine) (at : ℕ) (s : List Letter) (o : Option (List Letter)) → follows_with r at s (option_map (λ ls. plain (codes "DATA") ls []) o) ≡ plan_follows r at s o
follow_plan r at s None = refl
follow_plan r at s (Some ls) = follow_after r at (plain (codes "DATA") ls []) (left_of ls s)

six : (b : Bool) → ((b || (b || b)) || (b || (b || b))) ≡ b
six true = refl
six false = refl

any_is : (code : RawCode) (r : RawRoutine) (at : ℕ) (s : List Letter) (i : Instruction)
    → some_value (λ k. some_letter (λ x. follows_with r at s (instruction_effect code r i k x))) ≡ some_value (λ k. some_letter (λ x. optional_follow r at s (option_map moves_of (instruction_effect code r i k x))))
any_is code r at s i =
    some_value_is (λ k. some_letter (λ x. follows_with r at s (instruction_effect code r i k x))) (λ k. some_letter (λ x. optional_follow r at s (option_map moves_of (instruction_effect code r i k x))))
    (λ k. some_letter_is (λ x. follows_with r at s (instruction_effect code r i k x)) (λ x. optional_follow r at s (option_map moves_of (instruction_effect code r i k x))) (λ x. follow_is r at s (instruction_effect code r i k x)))

pub follows_is_split : (code : RawCode) (r : RawRoutine) (at : ℕ) (s : List Letter) (i : Instruction) → operands_follow code r at s i ≡ follows_split code r at s i
follows_is_split code r at s (instruction.Data n) = six (follows_with r at s (instruction_effect code r (instruction.Data n) N N)) ∙ follow_plan r at s (taken_by_plan code r n)
follows_is_split code r at s i = ap (λ b. constant_fits i && (lacks_result code r s i || b)) (any_is code r at s i)
