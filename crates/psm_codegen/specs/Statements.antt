-- The lines that are written for a statement, one rule a form, with what stands around it: the context, and what LEAVE and ITERATE can
-- name, innermost first.
use Rattle.std.specs.Prelude.{◌≡◌, ℕ, suc, false, List, [], ◌∷◌, ◌++◌, length, map, Some, None}
use Rattle.psm_exprcode.specs.declared.op.Letter.TheVariants.{B, N}
use Rattle.psm_exprcode.specs.declared.op.Op.TheVariants as op
use Rattle.psm_exprcode.specs.declared.query.Query.{Query}
use Rattle.psm_resolved.specs.declared.expr.ResolvedExpr.{ResolvedExpr}
use Rattle.psm_resolved.specs.declared.statement.ResolvedBlock.{ResolvedBlock, out-ResolvedBlock}
use Rattle.psm_resolved.specs.declared.statement.ResolvedBranch.{ResolvedBranch, out-ResolvedBranch}
use Rattle.psm_resolved.specs.declared.statement.ResolvedCursor.{ResolvedCursor}
use Rattle.psm_resolved.specs.declared.statement.ResolvedFor.{ResolvedFor}
use Rattle.psm_resolved.specs.declared.statement.ResolvedHandler.{ResolvedHandler, out-ResolvedHandler}
use Rattle.psm_resolved.specs.declared.statement.ResolvedSimple.{ResolvedSimple}
use Rattle.psm_resolved.specs.declared.statement.ResolvedStatement.{ResolvedStatement, out-ResolvedStatement}
use Rattle.psm_resolved.specs.declared.statement.ResolvedStatement.TheOpen as layers
use Rattle.psm_code.specs.declared.instruction.Instruction.TheVariants as instruction
use Rattle.psm_exprgen.specs.declared.known.Known.{Known}
use Rattle.psm_exprgen.specs.Exprs.{Writes}
use Rattle.psm_exprgen.specs.Queries.{QueryMade, cursor_of, item_letters}
use Rattle.psm_exprgen.specs.Written.{Written, applied, last_letter, letters_at, puts, takes, taken, with_query}
use Rattle.psm_codegen.specs.declared.enclosing.EnclosingBlock.{EnclosingBlock}
use Rattle.psm_codegen.specs.declared.enclosing.EnclosingBlock.TheVariants.{Loop, Block, Rows}
use Rattle.psm_codegen.specs.FunctionBuilder.{FunctionBuilder, at, block_entered, next_context, with_code, with_handler, with_plain}
use Rattle.psm_codegen.specs.Simples.{Declares, WritesSimple, stored}

-- a cursor more, with its query
abbrev pub with_cursor : Known → ResolvedCursor → Query → FunctionBuilder → FunctionBuilder
with_cursor known x q p = record (with_code (with_query q p.code) p) { cursors = p.cursors ++ cursor_of x (length p.code.queries) ∷ []; letters = p.letters ++ item_letters known x.query ∷ [] }

pub data WritesCursors (known : Known) : List ResolvedCursor → FunctionBuilder → FunctionBuilder → Type 0 where
  no_cursor : {p : FunctionBuilder} → WritesCursors known [] p p
  cursor : {x : ResolvedCursor} {xs : List ResolvedCursor} {p r : FunctionBuilder} (q : Query) → QueryMade known x.query q → WritesCursors known xs (with_cursor known x q p) r → WritesCursors known (x ∷ xs) p r

-- the actions of handlers are passed over
abbrev pub passed : ℕ → ℕ → List ResolvedHandler → FunctionBuilder → FunctionBuilder
passed context start [] p = p
passed context start (h ∷ hs) p = with_plain context (instruction.Operation (op.Jump start)) p

-- a jump back, or to the end
abbrev pub jumped : ℕ → ℕ → FunctionBuilder → FunctionBuilder
jumped context to p = with_plain context (instruction.Operation (op.Jump to)) p

-- a jump unless the last operand is true
abbrev pub unless_true : ℕ → ℕ → ℕ → Written → Written
unless_true context resume to w = taken context resume (op.JumpUnlessTrue to) w

-- the lines of FOR after the entry of its block, up to its list: OPEN, a turn, the next row, which goes into the variables
abbrev pub opened : ℕ → ℕ → ResolvedCursor → FunctionBuilder → FunctionBuilder
opened context exit x p = with_plain context instruction.Turn (with_code (takes context exit (instruction.Open x.number) 0 p.code) p)

abbrev pub fetched : ℕ → ℕ → ResolvedFor → FunctionBuilder → FunctionBuilder
fetched context exit head p = with_code (stored context exit (λ slot. instruction.Store slot) head.slots
    (puts context exit (instruction.Next head.cursor.number exit) 0 (letters_at p.letters head.cursor.number) p.code)) p

mutual
  pub data WritesStatement (known : Known) : ℕ → List EnclosingBlock → ResolvedStatement → FunctionBuilder → FunctionBuilder → Type 0 where
    -- v : declarations and cursors; entered; actions; statements
    compound : {context : ℕ} {enclosing : List EnclosingBlock} {s : ResolvedStatement} {p : FunctionBuilder} {w : Written} {a b c : FunctionBuilder} (level : ℕ) (block : ResolvedBlock) → out-ResolvedStatement s ≡ layers.Compound level block
        → Declares known context (suc (at c)) (out-ResolvedBlock block).declarations p.code w → WritesCursors known (out-ResolvedBlock block).cursors (with_code w p) a
        → WritesHandlers known (next_context a) (out-ResolvedBlock block).handlers
        (passed (next_context a) (at b) (out-ResolvedBlock block).handlers (block_entered context (out-ResolvedBlock block).atomic (at c) (map (λ x. x.number) (out-ResolvedBlock block).cursors) a)) b
        → WritesStatements known (next_context a) (Block level (next_context a) context (at c) ∷ enclosing) (out-ResolvedBlock block).statements b c
        → WritesStatement known context enclosing s p (with_plain (next_context a) (instruction.Exit (next_context a)) c)
    loop : {context : ℕ} {enclosing : List EnclosingBlock} {s : ResolvedStatement} {p c : FunctionBuilder} (level : ℕ) (statements : List ResolvedStatement) → out-ResolvedStatement s ≡ layers.Loop level statements
        → WritesStatements known context (Loop level (suc (at c)) (at p) ∷ enclosing) statements (with_plain context instruction.Turn p) c → WritesStatement known context enclosing s p (jumped context (at p) c)
    while : {context : ℕ} {enclosing : List EnclosingBlock} {s : ResolvedStatement} {p c : FunctionBuilder} {w : Written} (level : ℕ) (test : ResolvedExpr) (statements : List ResolvedStatement) → out-ResolvedStatement s ≡ layers.While level test statements
        → Writes known context (suc (at c)) B test (with_plain context instruction.Turn p).code w
        → WritesStatements known context (Loop level (suc (at c)) (at p) ∷ enclosing) statements (with_code (unless_true context (suc (at c)) (suc (at c)) w) p) c → WritesStatement known context enclosing s p (jumped context (at p) c)
    repeat : {context : ℕ} {enclosing : List EnclosingBlock} {s : ResolvedStatement} {p c : FunctionBuilder} {w : Written} (level : ℕ) (statements : List ResolvedStatement) (until : ResolvedExpr) → out-ResolvedStatement s ≡ layers.Repeat level statements until
        → WritesStatements known context (Loop level (suc (length w.lines)) (at c) ∷ enclosing) statements (with_plain context instruction.Turn p) c → Writes known context (suc (length w.lines)) B until c.code w
        → WritesStatement known context enclosing s p (with_code (unless_true context (suc (length w.lines)) (at p) w) c)
    if_ : {context : ℕ} {enclosing : List EnclosingBlock} {s : ResolvedStatement} {p b c : FunctionBuilder} (branches : List ResolvedBranch) (otherwise : List ResolvedStatement) → out-ResolvedStatement s ≡ layers.If branches otherwise
        → WritesBranches known context enclosing (at c) branches p b → WritesStatements known context enclosing otherwise b c → WritesStatement known context enclosing s p c
    case : {context : ℕ} {enclosing : List EnclosingBlock} {s : ResolvedStatement} {p b c : FunctionBuilder} (branches : List ResolvedBranch) (otherwise : List ResolvedStatement) → out-ResolvedStatement s ≡ layers.Case None branches otherwise
        → WritesBranches known context enclosing (at c) branches p b → WritesElse known context enclosing otherwise b c → WritesStatement known context enclosing s p c
    compared : {context : ℕ} {enclosing : List EnclosingBlock} {s : ResolvedStatement} {p b c : FunctionBuilder} {w : Written} (operand : ResolvedExpr) (branches : List ResolvedBranch) (otherwise : List ResolvedStatement)
        → out-ResolvedStatement s ≡ layers.Case (Some operand) branches otherwise → Writes known context (at c) N operand p.code w → WritesComparisons known context enclosing (at c) branches (with_code w p) b
        → WritesElse known context enclosing otherwise (with_code (taken context (at c) op.Drop b.code) b) c → WritesStatement known context enclosing s p c
    for_ : {context : ℕ} {enclosing : List EnclosingBlock} {s : ResolvedStatement} {p a c : FunctionBuilder} (level : ℕ) (head : ResolvedFor) (statements : List ResolvedStatement) → out-ResolvedStatement s ≡ layers.For level head statements
        → WritesCursors known (head.cursor ∷ []) p a
        → WritesStatements known (next_context a) (Loop level (suc (at c)) (suc (suc (at p))) ∷ Rows (next_context a) context ∷ enclosing) statements
        (fetched (next_context a) (suc (at c)) head (opened (next_context a) (suc (at c)) head.cursor (block_entered context false (suc (at c)) (head.cursor.number ∷ []) a))) c
        → WritesStatement known context enclosing s p (with_plain (next_context a) (instruction.Exit (next_context a)) (jumped (next_context a) (suc (suc (at p))) c))
    simple : {context : ℕ} {enclosing : List EnclosingBlock} {s : ResolvedStatement} {p c : FunctionBuilder} (statement : ResolvedSimple) → out-ResolvedStatement s ≡ layers.Simple statement → WritesSimple known context (at c) enclosing statement p c → WritesStatement known context enclosing s p c

  -- statements one after another
  pub data WritesStatements (known : Known) : ℕ → List EnclosingBlock → List ResolvedStatement → FunctionBuilder → FunctionBuilder → Type 0 where
    none : {context : ℕ} {enclosing : List EnclosingBlock} {p : FunctionBuilder} → WritesStatements known context enclosing [] p p
    more : {context : ℕ} {enclosing : List EnclosingBlock} {s : ResolvedStatement} {ss : List ResolvedStatement} {p b c : FunctionBuilder} → WritesStatement known context enclosing s p b → WritesStatements known context enclosing ss b c → WritesStatements known context enclosing (s ∷ ss) p c

  -- tests with their statements, which go to the line out
  pub data WritesBranches (known : Known) : ℕ → List EnclosingBlock → ℕ → List ResolvedBranch → FunctionBuilder → FunctionBuilder → Type 0 where
    no_branch : {context : ℕ} {enclosing : List EnclosingBlock} {out : ℕ} {p : FunctionBuilder} → WritesBranches known context enclosing out [] p p
    branch : {context : ℕ} {enclosing : List EnclosingBlock} {out : ℕ} {x : ResolvedBranch} {xs : List ResolvedBranch} {p b c : FunctionBuilder} {w : Written} → Writes known context out B (out-ResolvedBranch x).test p.code w
        → WritesStatements known context enclosing (out-ResolvedBranch x).statements (with_code (unless_true context out (suc (at b)) w) p) b → WritesBranches known context enclosing out xs (jumped context out b) c
        → WritesBranches known context enclosing out (x ∷ xs) p c

  -- the same with an operand, which stands on the operands, and is dropped where a value is equal to it
  pub data WritesComparisons (known : Known) : ℕ → List EnclosingBlock → ℕ → List ResolvedBranch → FunctionBuilder → FunctionBuilder → Type 0 where
    no_comparison : {context : ℕ} {enclosing : List EnclosingBlock} {out : ℕ} {p : FunctionBuilder} → WritesComparisons known context enclosing out [] p p
    comparison : {context : ℕ} {enclosing : List EnclosingBlock} {out : ℕ} {x : ResolvedBranch} {xs : List ResolvedBranch} {p b c : FunctionBuilder} {w : Written}
        → Writes known context out (last_letter p.code) (out-ResolvedBranch x).test (applied context out op.Duplicate 0 (last_letter p.code) p.code) w
        → WritesStatements known context enclosing (out-ResolvedBranch x).statements
        (with_code (taken context out op.Drop (unless_true context out (suc (at b)) (applied context out op.Equal 2 B w))) p) b
        → WritesComparisons known context enclosing out xs (with_code (applied context out (op.Jump out) 0 (last_letter p.code) b.code) b) c
        → WritesComparisons known context enclosing out (x ∷ xs) p c

  -- the statements of ELSE; without any a condition is raised
  pub data WritesElse (known : Known) : ℕ → List EnclosingBlock → List ResolvedStatement → FunctionBuilder → FunctionBuilder → Type 0 where
    no_else : {context : ℕ} {enclosing : List EnclosingBlock} {p : FunctionBuilder} → WritesElse known context enclosing [] p (with_code (takes context (suc (at p)) instruction.NoCase 0 p.code) p)
    else_all : {context : ℕ} {enclosing : List EnclosingBlock} {s : ResolvedStatement} {ss : List ResolvedStatement} {p c : FunctionBuilder} → WritesStatements known context enclosing (s ∷ ss) p c → WritesElse known context enclosing (s ∷ ss) p c

  -- the handlers of the block of a context, each with its action
  pub data WritesHandlers (known : Known) : ℕ → List ResolvedHandler → FunctionBuilder → FunctionBuilder → Type 0 where
    no_handler : {context : ℕ} {p : FunctionBuilder} → WritesHandlers known context [] p p
    handler : {context : ℕ} {h : ResolvedHandler} {hs : List ResolvedHandler} {p b c : FunctionBuilder}
        → WritesStatement known (next_context p) [] (out-ResolvedHandler h).action (with_handler context (out-ResolvedHandler h).kind (out-ResolvedHandler h).values p) b
        → WritesHandlers known context hs (with_plain (next_context p) (instruction.EndAction (length p.handlers)) b) c → WritesHandlers known context (h ∷ hs) p c
