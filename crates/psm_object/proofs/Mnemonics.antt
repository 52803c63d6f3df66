-- The mnemonic of an instruction is that of the table of instructions.
use Rattle.std.proofs.Common.{◌≡◌, ℕ, List, [], ◌∷◌, refl, sym, ap, ◌∙◌}
use Rattle.std.specs.Prelude.{Option, Some, None, codes, option_map, slice_get}
use Rattle.psm_exprcode.specs.declared.op.Letter.{Letter}
use Rattle.psm_exprcode.specs.declared.op.Letter.TheVariants.{N}
use Rattle.psm_exprcode.specs.declared.op.Op.{Op}
use Rattle.psm_exprcode.specs.declared.op.Op.TheVariants as op
use Rattle.psm_exprcode.specs.Kinds.{letter_of}
use Rattle.psm_exprcode.specs.Operations.{Effect, effect, plain}
use Rattle.psm_code.specs.declared.code.RawCode.{RawCode}
use Rattle.psm_code.specs.declared.code.RawRoutine.{RawRoutine}
use Rattle.psm_code.specs.declared.instruction.Instruction.{Instruction}
use Rattle.psm_code.specs.declared.instruction.Instruction.TheVariants as instruction
use Rattle.psm_code.specs.Instructions.{cursor_letters, function_effect, instruction_effect, last, next_effect, of_plan, of_routine, operation_effect, plan_letters, procedure_effect, query_letters, returning_effect, scalar_effect, slot_letter}
use Rattle.psm_code.specs.Parts.{routine_at}
use Rattle.psm_object.specs.Instructions.{mnemonic}

-- what is there is called so
abbrev Named : List ℕ → Option Effect → Type 0
Named name None = Unit {0}
Named name (Some e) = e.mnemonic ≡ name

of_some : {A : Type 0} (name : List ℕ) (f : A → Effect) (o : Option A) → ((a : A) → (f a).mnemonic ≡ name) → Named name (option_map f o)
of_some name f (Some a) h = h a
of_some name f None h = tt

-- the mnemonic of what is there
abbrev called : List ℕ → Option Effect → List ℕ
called name None = name
called name (Some e) = e.mnemonic

pub is_named : (name : List ℕ) (o : Option Effect) (e : Effect) → Named name o → o ≡ Some e → e.mnemonic ≡ name
is_named name (Some d) e h g = ap (called name) (sym g) ∙ h
is_named name None e h g = absurd cc

same_mnemonic : (o : Op) (k x : Letter) → (effect o k x).mnemonic ≡ (effect o N N).mnemonic
same_mnemonic (op.Constant l d) k x = refl
same_mnemonic o k x = refl

operation_named : (r : RawRoutine) (o : Op) (k x : Letter) → Named (mnemonic (instruction.Operation o)) (operation_effect r o k x)
operation_named r (op.Variable slot) k x = of_some (mnemonic (instruction.Operation (op.Variable slot))) (λ l. effect (op.Variable slot) l x) (slot_letter r slot) (λ l. refl)
operation_named r o k x = same_mnemonic o k x

scalar_named : (ls : Option (List Letter)) → Named (codes "SCALAR") (scalar_effect ls)
scalar_named None = tt
scalar_named (Some []) = tt
scalar_named (Some (l ∷ [])) = refl
scalar_named (Some (l ∷ m ∷ ls)) = tt

procedure_named : (r : Option RawRoutine) → Named (codes "CALL") (of_routine (λ p. Some (procedure_effect p)) r)
procedure_named None = tt
procedure_named (Some r) = refl

function_named : (r : Option RawRoutine) → Named (codes "FCALL") (of_routine function_effect r)
function_named None = tt
function_named (Some r) = of_some (codes "FCALL") (λ t. returning_effect r (letter_of t)) r.returns (λ t. refl)

pub named : (code : RawCode) (r : RawRoutine) (i : Instruction) (k x : Letter) → Named (mnemonic i) (instruction_effect code r i k x)
named code r (instruction.Operation o) k x = operation_named r o k x
named code r (instruction.Store slot) k x = of_some (codes "STORE") (λ l. plain (codes "STORE") (l ∷ []) []) (slot_letter r slot) (λ l. refl)
named code r (instruction.FetchStore slot) k x = of_some (codes "FSTORE") (λ l. plain (codes "FSTORE") (l ∷ []) []) (slot_letter r slot) (λ l. refl)
named code r (instruction.Call n) k x = procedure_named (routine_at code n)
named code r (instruction.FunctionCall n) k x = function_named (routine_at code n)
named code r instruction.ReturnValue k x = of_some (codes "RETV") (λ t. last (codes "RETV") (letter_of t ∷ [])) r.returns (λ t. refl)
named code r (instruction.Scalar q) k x = scalar_named (query_letters code r q)
named code r (instruction.Row q) k x = of_some (codes "ROW") (λ ls. plain (codes "ROW") [] ls) (query_letters code r q) (λ ls. refl)
named code r (instruction.Data p) k x = of_some (codes "DATA") (λ ls. plain (codes "DATA") ls []) (of_plan (plan_letters code) (slice_get r.plans p)) (λ ls. refl)
named code r (instruction.Fetch c) k x = of_some (codes "FETCH") (λ ls. plain (codes "FETCH") [] ls) (cursor_letters code r c) (λ ls. refl)
named code r (instruction.Next c p) k x = of_some (codes "NEXT") (next_effect p) (cursor_letters code r c) (λ ls. refl)
named code r i k x = refl
