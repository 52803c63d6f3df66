-- Where code of a statement stands in its routine.
use Rattle.std.specs.Prelude.{◌≡◌, ℕ, suc, Bool, true, false, ◌||◌, List, [], ◌∷◌, map, nat_eq, Option, Some}
use Rattle.psm_cond.specs.declared.handlers.Handler.{Handler}
use Rattle.psm_exprcode.specs.declared.op.Letter.{Letter}
use Rattle.psm_exprcode.specs.declared.op.Op.TheVariants as op
use Rattle.psm_resolved.specs.declared.file.ResolvedRoutine.{ResolvedRoutine}
use Rattle.psm_resolved.specs.declared.statement.ResolvedCursor.{ResolvedCursor}
use Rattle.psm_resolved.specs.declared.statement.ResolvedHandler.{ResolvedHandler}
use Rattle.psm_cond.specs.Area.{Diagnostics}
use Rattle.psm_meaning.specs.State.{EvalContext, Scope}
use Rattle.psm_code.specs.declared.code.RawRoutine.{RawRoutine}
use Rattle.psm_code.specs.declared.instruction.Instruction.{Instruction}
use Rattle.psm_code.specs.declared.instruction.Instruction.TheVariants as instruction
use Rattle.psm_code.specs.Parts.{line_at}

-- ---- lines

-- the instruction at a line of a context; after a condition that it raises the run goes on at the line resume
pub record Raising (r : RawRoutine) (context resume pc : ℕ) (i : Instruction) : Type 0 where
  pub stack : List Letter
  pub there : line_at r pc ≡ Some (record { context = context; resume = Some resume; stack = stack; instruction = i })

-- the instruction at a line, whatever else it states
pub record Plain (r : RawRoutine) (pc : ℕ) (i : Instruction) : Type 0 where
  pub context : ℕ
  pub stack : List Letter
  pub resume : Option ℕ
  pub there : line_at r pc ≡ Some (record { context = context; resume = resume; stack = stack; instruction = i })

-- ---- what is around a statement

-- some numbers of cursors
abbrev pub Numbers : Type 0
Numbers = ℕ → Bool

-- these
abbrev pub are : List ℕ → Numbers
are [] n = false
are (x ∷ xs) n = nat_eq x n || are xs n

abbrev pub Within : Numbers → Numbers → Type 0
Within f g = (n : ℕ) → f n ≡ true → g n ≡ true

abbrev pub Apart : Numbers → Numbers → Type 0
Apart f g = (n : ℕ) → f n ≡ true → g n ≡ false

-- A block whose handlers are in scope: its level, the context of its list, its handlers, their numbers in the code, the cursors that
-- their actions see, its own cursors, those of them that may be open, and those that blocks in its list and in the actions of its handlers may declare
pub record Visible : Type 0 where
  pub level : ℕ
  pub context : ℕ
  pub handlers : List ResolvedHandler
  pub coded : List (ℕ × Handler)
  pub cursors : List ResolvedCursor
  pub own : List ℕ
  pub moved : List ℕ
  pub inside : Numbers
  pub acting : Numbers

-- what LEAVE and ITERATE can name, by its level: a loop, with the lines that they go to, or a block, with its context and exit line;
-- and the block of a FOR statement, by its context, which they leave on their way
pub data EnclosingBlock : Type 0 where
  InLoop : ℕ → ℕ → ℕ → EnclosingBlock
  InBlock : ℕ → ℕ → ℕ → EnclosingBlock
  OverRows : ℕ → EnclosingBlock

-- the context of the statement's lines, what is around it, innermost first, the blocks whose handlers are in scope, innermost
-- first, the cursors that it sees, and those that blocks in it may declare
pub record Env : Type 0 where
  pub context : ℕ
  pub enclosing : List EnclosingBlock
  pub visible : List Visible
  pub cursors : List ResolvedCursor
  pub free : Numbers

abbrev pub scope_of : Visible → Scope
scope_of v = record { level = v.level; handlers = v.handlers; cursors = v.cursors }

-- the place of the statement in the meaning
abbrev pub eval_context_of : ResolvedRoutine → Env → List Diagnostics → EvalContext
eval_context_of routine env acting = record { routine = routine; cursors = env.cursors; scopes = map scope_of env.visible; acting = acting }

-- the body of a routine
abbrev pub outermost : Env
outermost = record { context = 0; enclosing = []; visible = []; cursors = []; free = λ n. true }

abbrev pub inside_loop : ℕ → ℕ → ℕ → Env → Env
inside_loop level out again env = record env { enclosing = InLoop level out again ∷ env.enclosing }

abbrev pub inside_block : Visible → ℕ → Env → Env
inside_block v exit env = record {
  context = v.context;
  enclosing = InBlock v.level v.context exit ∷ env.enclosing;
  visible = v ∷ env.visible;
  cursors = v.cursors;
  free = v.inside;
}

-- the block of a FOR statement has one cursor and no handlers
abbrev pub for_block : ℕ → ℕ → ℕ → List ℕ → Numbers → List ResolvedCursor → Visible
for_block level context number moved inside cursors = record { level = level; context = context; handlers = []; coded = []; cursors = cursors; own = number ∷ []; moved = moved; inside = inside; acting = λ n. false }

abbrev pub over_rows : ℕ → Numbers → Env → Env
over_rows context inside env = record env { context = context; enclosing = OverRows context ∷ env.enclosing; free = inside }

-- its list sees the cursor
abbrev pub with_cursor : ResolvedCursor → Env → Env
with_cursor x env = record env { cursors = x ∷ env.cursors }

-- the action of a handler of a block stands outside its scope, where those blocks are visible; it can name no label
abbrev pub in_action : Visible → ℕ → List Visible → Env
in_action v context outer = record { context = context; enclosing = []; visible = outer; cursors = v.cursors; free = v.acting }

-- ---- LEAVE and ITERATE: the blocks in between are left, and then the run goes on where the loop or the block says

abbrev pub IfElse : Bool → Type 0 → Type 0 → Type 0
IfElse true A B = A
IfElse false A B = B

abbrev pub Leaves : RawRoutine → List EnclosingBlock → ℕ → ℕ → Type 0
Leaves r [] level pc = ⊥
Leaves r (InLoop l out again ∷ enclosing) level pc = IfElse (nat_eq level l) (Plain r pc (instruction.Operation (op.Jump out))) (Leaves r enclosing level pc)
Leaves r (InBlock l context exit ∷ enclosing) level pc = IfElse (nat_eq level l) (Plain r pc (instruction.Operation (op.Jump exit))) (Plain r pc (instruction.Exit context) × Leaves r enclosing level (suc pc))
Leaves r (OverRows context ∷ enclosing) level pc = Plain r pc (instruction.Exit context) × Leaves r enclosing level (suc pc)

abbrev pub Iterates : RawRoutine → List EnclosingBlock → ℕ → ℕ → Type 0
Iterates r [] level pc = ⊥
Iterates r (InLoop l out again ∷ enclosing) level pc = IfElse (nat_eq level l) (Plain r pc (instruction.Operation (op.Jump again))) (Iterates r enclosing level pc)
Iterates r (InBlock l context exit ∷ enclosing) level pc = Plain r pc (instruction.Exit context) × Iterates r enclosing level (suc pc)
Iterates r (OverRows context ∷ enclosing) level pc = Plain r pc (instruction.Exit context) × Iterates r enclosing level (suc pc)
