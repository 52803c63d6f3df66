-- The lines of a statement that has statements, from what was written one after another.
use Rattle.std.proofs.Common.{arith, ◌≡◌, ℕ, suc, Bool, true, false, nat_eq, List, [], ◌∷◌, map, length, Some, None, ap, sym, refl, subst, ◌∙◌}
use Rattle.std.proofs.lemmas.Bool.{false≢true}
use Rattle.psm_exprcode.specs.declared.op.Letter.{Letter}
use Rattle.psm_exprcode.specs.declared.op.Letter.TheVariants.{B, N}
use Rattle.psm_exprcode.specs.declared.op.Op.TheVariants as op
use Rattle.psm_code.specs.declared.instruction.Instruction.{Instruction}
use Rattle.psm_code.specs.declared.instruction.Instruction.TheVariants as instruction
use Rattle.psm_resolved.specs.declared.expr.ResolvedExpr.{ResolvedExpr}
use Rattle.psm_resolved.specs.declared.statement.ResolvedBlock.{ResolvedBlock, out-ResolvedBlock}
use Rattle.psm_resolved.specs.declared.statement.ResolvedBranch.{ResolvedBranch, out-ResolvedBranch}
use Rattle.psm_resolved.specs.declared.statement.ResolvedCursor.{ResolvedCursor}
use Rattle.psm_resolved.specs.declared.statement.ResolvedFor.{ResolvedFor}
use Rattle.psm_resolved.specs.declared.statement.ResolvedHandler.{ResolvedHandler, out-ResolvedHandler}
use Rattle.psm_resolved.specs.declared.statement.ResolvedSimple.{ResolvedSimple}
use Rattle.psm_resolved.specs.declared.statement.ResolvedStatement.{ResolvedStatement}
use Rattle.psm_resolved.specs.declared.statement.ResolvedStatement.TheOpen as layers
use Rattle.psm_exprgen.specs.declared.known.Known.{Known}
use Rattle.psm_exprgen.specs.Exprs.{Writes}
use Rattle.psm_exprgen.specs.Queries.{QueryMade}
use Rattle.psm_codegen.specs.declared.enclosing.EnclosingBlock.{EnclosingBlock}
use Rattle.psm_codegen.specs.declared.enclosing.EnclosingBlock.TheVariants.{Loop, Block, Rows}
use Rattle.psm_codegen.specs.FunctionBuilder.{FunctionBuilder, at, block_entered, next_context, with_code, with_handler, with_plain}
use Rattle.psm_codegen.specs.Labels.{DraftedParts, patched_block}
use Rattle.psm_codegen.specs.Simples.{Declares, WritesSimple}
use Rattle.psm_codegen.specs.Statements as written
use Rattle.psm_codegen.specs.Statements.{WritesBranches, WritesComparisons, WritesCursors, WritesElse, WritesHandlers, WritesStatement, WritesStatements, fetched, jumped, opened, passed, unless_true, with_cursor}
use Rattle.psm_exprcode.specs.declared.query.Query.{Query}
use Rattle.psm_resolved.specs.declared.expr.ResolvedQuery.{ResolvedQuery}
use Rattle.psm_exprgen.specs.Written.{applied, last_letter, takes, taken}
use Rattle.psm_exprgen.proofs.Counts.{here-plain, here-taken, here-takes}
use Rattle.psm_codegen.specs.StatementForms.{WritesForm}

pub at-plain : (context : ℕ) (i : Instruction) (p : FunctionBuilder) → at (with_plain context i p) ≡ suc (at p)
at-plain context i p = here-plain context i p.code

cursors-at : {known : Known} {xs : List ResolvedCursor} {p q : FunctionBuilder} → WritesCursors known xs p q → at q ≡ at p
cursors-at written.no_cursor = refl
cursors-at (written.cursor code a b) = cursors-at b

pub within_same : {known : Known} {context : ℕ} {outer inner : List EnclosingBlock} {list : List ResolvedStatement} {p q : FunctionBuilder} → outer ≡ inner → DraftedParts (λ σ. WritesStatements known context (map (patched_block σ) outer) list) p q
    → DraftedParts (λ σ. WritesStatements known context (map (patched_block σ) inner) list) p q
within_same {known} {context} {list = list} {p = p} {q = q} h x = subst (λ z. DraftedParts (λ σ. WritesStatements known context (map (patched_block σ) z) list) p q) h x

pub cursor_written : {known : Known} {p q : FunctionBuilder} {x : ResolvedCursor} {d : ResolvedQuery} (code : Query) → d ≡ x.query → QueryMade known d code → q ≡ with_cursor known x code p
    → (xs : List ResolvedCursor) (r : FunctionBuilder) → WritesCursors known xs q r → WritesCursors known (x ∷ xs) p r
cursor_written {known} {p} {q} {x} code h m e xs r y = written.cursor code (subst (λ z. QueryMade known z code) h m) (subst (λ z. WritesCursors known xs z r) e y)

-- ---- loops

pub loop_written : {known : Known} {context end m : ℕ} {enclosing : List EnclosingBlock} {p a b q : FunctionBuilder} (level : ℕ) (list : List ResolvedStatement) → m ≡ at p → a ≡ with_plain context instruction.Turn p
    → WritesStatements known context (Loop level end m ∷ enclosing) list a b → q ≡ jumped context m b → WritesForm known context end enclosing (layers.Loop level list) p q
loop_written {known} {context} {end} {m} {enclosing} {p} {a} {b} {q} level list h1 h2 ss h3 s o e =
    let out : end ≡ suc (at b) = e ∙ ap at h3 ∙ at-plain context (instruction.Operation (op.Jump m)) b in
    subst (λ z. WritesStatement known context enclosing s p z) (sym (h3 ∙ ap (λ z. jumped context z b) h1))
    (written.loop level list o (subst (λ z. WritesStatements known context (Loop level z (at p) ∷ enclosing) list (with_plain context instruction.Turn p) b) out
    (subst (λ z. WritesStatements known context (Loop level end z ∷ enclosing) list (with_plain context instruction.Turn p) b) h1 (subst (λ z. WritesStatements known context (Loop level end m ∷ enclosing) list z b) h2 ss))))

pub while_written : {known : Known} {context end m : ℕ} {enclosing : List EnclosingBlock} {p a t u b q : FunctionBuilder} (level : ℕ) (test : ResolvedExpr) (list : List ResolvedStatement) → m ≡ at p → a ≡ with_plain context instruction.Turn p
    → Writes known context end B test a.code t.code → t ≡ with_code t.code a → u ≡ with_code (taken context end (op.JumpUnlessTrue end) t.code) t
    → WritesStatements known context (Loop level end m ∷ enclosing) list u b → q ≡ jumped context m b → WritesForm known context end enclosing (layers.While level test list) p q
while_written {known} {context} {end} {m} {enclosing} {p} {a} {t} {u} {b} {q} level test list h1 h2 x h3 h4 ss h5 s o e =
    let out : end ≡ suc (at b) = e ∙ ap at h5 ∙ at-plain context (instruction.Operation (op.Jump m)) b in
    let same : u ≡ with_code (unless_true context end end t.code) p = h4 ∙ ap (with_code (taken context end (op.JumpUnlessTrue end) t.code)) (h3 ∙ ap (with_code t.code) h2) in
    subst (λ z. WritesStatement known context enclosing s p z) (sym (h5 ∙ ap (λ z. jumped context z b) h1))
    (written.while level test list o
    (subst (λ z. Writes known context z B test (with_plain context instruction.Turn p).code t.code) out (subst (λ z. Writes known context end B test z.code t.code) h2 x))
    (subst (λ z. WritesStatements known context (Loop level z (at p) ∷ enclosing) list (with_code (unless_true context z z t.code) p) b) out
    (subst (λ z. WritesStatements known context (Loop level end z ∷ enclosing) list (with_code (unless_true context end end t.code) p) b) h1 (subst (λ z. WritesStatements known context (Loop level end m ∷ enclosing) list z b) same ss))))

pub repeat_written : {known : Known} {context end m k : ℕ} {enclosing : List EnclosingBlock} {p a b t q : FunctionBuilder} (level : ℕ) (list : List ResolvedStatement) (until : ResolvedExpr) → k ≡ at p
    → m ≡ at b → a ≡ with_plain context instruction.Turn p
    → WritesStatements known context (Loop level end m ∷ enclosing) list a b → Writes known context end B until b.code t.code → t ≡ with_code t.code b → q ≡ with_code (taken context end (op.JumpUnlessTrue k) t.code) t
    → WritesForm known context end enclosing (layers.Repeat level list until) p q
repeat_written {known} {context} {end} {m} {k} {enclosing} {p} {a} {b} {t} {q} level list until h0 test h2 ss x h3 h4 s o e =
    let out : end ≡ suc (length t.code.lines) = e ∙ ap at h4 ∙ here-taken context end (op.JumpUnlessTrue k) t.code in
    subst (λ z. WritesStatement known context enclosing s p z)
    (sym (h4 ∙ ap (with_code (taken context end (op.JumpUnlessTrue k) t.code)) h3 ∙ ap (λ z. with_code (unless_true context z k t.code) b) out ∙ ap (λ z. with_code (unless_true context (suc (length t.code.lines)) z t.code) b) h0))
    (written.repeat level list until o
    (subst (λ z. WritesStatements known context (Loop level z (at b) ∷ enclosing) list (with_plain context instruction.Turn p) b) out
    (subst (λ z. WritesStatements known context (Loop level end z ∷ enclosing) list (with_plain context instruction.Turn p) b) test (subst (λ z. WritesStatements known context (Loop level end m ∷ enclosing) list z b) h2 ss)))
    (subst (λ z. Writes known context z B until b.code t.code) out x))

-- ---- IF and CASE

pub if_written : {known : Known} {context end : ℕ} {enclosing : List EnclosingBlock} {p b q : FunctionBuilder} (branches : List ResolvedBranch) (otherwise : List ResolvedStatement) → WritesBranches known context enclosing end branches p b
    → WritesStatements known context enclosing otherwise b q → WritesForm known context end enclosing (layers.If branches otherwise) p q
if_written {known} {context} {enclosing = enclosing} {p} {b} branches otherwise bs ss s o e = written.if_ branches otherwise o (subst (λ z. WritesBranches known context enclosing z branches p b) e bs) ss

pub case_written : {known : Known} {context end : ℕ} {enclosing : List EnclosingBlock} {p b q : FunctionBuilder} (branches : List ResolvedBranch) (otherwise : List ResolvedStatement) → WritesBranches known context enclosing end branches p b
    → WritesElse known context enclosing otherwise b q → WritesForm known context end enclosing (layers.Case None branches otherwise) p q
case_written {known} {context} {enclosing = enclosing} {p} {b} branches otherwise bs ss s o e = written.case branches otherwise o (subst (λ z. WritesBranches known context enclosing z branches p b) e bs) ss

pub compared_written : {known : Known} {context end : ℕ} {enclosing : List EnclosingBlock} {p t b d q : FunctionBuilder} (operand f : ResolvedExpr) (branches : List ResolvedBranch) (otherwise : List ResolvedStatement) → f ≡ operand
    → Writes known context end N f p.code t.code → t ≡ with_code t.code p → WritesComparisons known context enclosing end branches t b → d ≡ with_code (taken context end op.Drop b.code) b
    → WritesElse known context enclosing otherwise d q → WritesForm known context end enclosing (layers.Case (Some operand) branches otherwise) p q
compared_written {known} {context} {end} {enclosing} {p} {t} {b} {d} {q} operand f branches otherwise h0 x h1 bs h2 ss s o out =
    let y : Writes known context end N operand p.code t.code = subst (λ z. Writes known context end N z p.code t.code) h0 x in
    written.compared operand branches otherwise o (subst (λ z. Writes known context z N operand p.code t.code) out y)
    (subst (λ z. WritesComparisons known context enclosing z branches (with_code t.code p) b) out (subst (λ z. WritesComparisons known context enclosing end branches z b) h1 bs))
    (subst (λ z. WritesElse known context enclosing otherwise (with_code (taken context z op.Drop b.code) b) q) out (subst (λ z. WritesElse known context enclosing otherwise z q) h2 ss))

-- ---- branches

pub branch_written : {known : Known} {context out next : ℕ} {enclosing : List EnclosingBlock} {x : ResolvedBranch} {p t u b c : FunctionBuilder} (f : ResolvedExpr) → f ≡ (out-ResolvedBranch x).test
    → Writes known context out B f p.code t.code → t ≡ with_code t.code p → next ≡ suc (at b)
    → u ≡ with_code (taken context out (op.JumpUnlessTrue next) t.code) t → WritesStatements known context enclosing (out-ResolvedBranch x).statements u b → c ≡ jumped context out b
    → (xs : List ResolvedBranch) (r : FunctionBuilder) → WritesBranches known context enclosing out xs c r → WritesBranches known context enclosing out (x ∷ xs) p r
branch_written {known} {context} {out} {next} {enclosing} {x} {p} {t} {u} {b} {c} f h0 y h1 after h3 ss h4 xs r bs =
    let same : u ≡ with_code (unless_true context out (suc (at b)) t.code) p = h3 ∙ ap (with_code (taken context out (op.JumpUnlessTrue next) t.code)) h1 ∙ ap (λ z. with_code (unless_true context out z t.code) p) after in
    written.branch (subst (λ z. Writes known context out B z p.code t.code) h0 y) (subst (λ z. WritesStatements known context enclosing (out-ResolvedBranch x).statements z b) same ss)
    (subst (λ z. WritesBranches known context enclosing out xs z r) h4 bs)

pub comparison_written : {known : Known} {context out next : ℕ} {enclosing : List EnclosingBlock} {x : ResolvedBranch} {k : Letter} {p i t j u d b c : FunctionBuilder} (f : ResolvedExpr) → f ≡ (out-ResolvedBranch x).test → k ≡ last_letter p.code
    → i ≡ with_code (applied context out op.Duplicate 0 k p.code) p → Writes known context out k f i.code t.code → t ≡ with_code t.code i → j ≡ with_code (applied context out op.Equal 2 B t.code) t
    → next ≡ suc (at b) → u ≡ with_code (taken context out (op.JumpUnlessTrue next) j.code) j → d ≡ with_code (taken context out op.Drop u.code) u
    → WritesStatements known context enclosing (out-ResolvedBranch x).statements d b → c ≡ with_code (applied context out (op.Jump out) 0 k b.code) b
    → (xs : List ResolvedBranch) (r : FunctionBuilder) → WritesComparisons known context enclosing out xs c r → WritesComparisons known context enclosing out (x ∷ xs) p r
comparison_written {known} {context} {out} {next} {enclosing} {x} {k} {p} {i} {t} {j} {u} {d} {b} {c} f h0 hk h1 y h2 h3 after h5 h6 ss h7 xs r bs =
    let l = last_letter p.code in
    let equal : j ≡ with_code (applied context out op.Equal 2 B t.code) p = h3 ∙ ap (with_code (applied context out op.Equal 2 B t.code)) (h2 ∙ ap (with_code t.code) h1) in
    let jump : u ≡ with_code (unless_true context out (suc (at b)) (applied context out op.Equal 2 B t.code)) p =
    h5 ∙ ap (λ z. with_code (taken context out (op.JumpUnlessTrue next) z.code) z) equal ∙ ap (λ z. with_code (unless_true context out z (applied context out op.Equal 2 B t.code)) p) after in
    let same : d ≡ with_code (taken context out op.Drop (unless_true context out (suc (at b)) (applied context out op.Equal 2 B t.code))) p = h6 ∙ ap (λ z. with_code (taken context out op.Drop z.code) z) jump in
    written.comparison
    (subst (λ z. Writes known context out z (out-ResolvedBranch x).test (applied context out op.Duplicate 0 z p.code) t.code) hk
    (subst (λ z. Writes known context out k (out-ResolvedBranch x).test z.code t.code) h1 (subst (λ z. Writes known context out k z i.code t.code) h0 y)))
    (subst (λ z. WritesStatements known context enclosing (out-ResolvedBranch x).statements z b) same ss)
    (subst (λ z. WritesComparisons known context enclosing out xs z r) (h7 ∙ ap (λ z. with_code (applied context out (op.Jump out) 0 z b.code) b) hk) bs)

-- ---- handlers

pub handler_written : {known : Known} {context number inner : ℕ} {h : ResolvedHandler} {p a b c : FunctionBuilder} (action : ResolvedStatement) → action ≡ (out-ResolvedHandler h).action → number ≡ length p.handlers → inner ≡ next_context p
    → a ≡ with_handler context (out-ResolvedHandler h).kind (out-ResolvedHandler h).values p → WritesStatement known inner [] action a b → c ≡ with_plain inner (instruction.EndAction number) b
    → (hs : List ResolvedHandler) (r : FunctionBuilder) → WritesHandlers known context hs c r → WritesHandlers known context (h ∷ hs) p r
handler_written {known} {context} {number} {inner} {h} {p} {a} {b} {c} action h0 h1 h2 h3 x h4 hs r ys =
    written.handler (subst (λ z. WritesStatement known (next_context p) [] (out-ResolvedHandler h).action z b) h3 (subst (λ z. WritesStatement known z [] (out-ResolvedHandler h).action a b) h2 (subst (λ z. WritesStatement known inner [] z a b) h0 x)))
    (subst (λ z. WritesHandlers known context hs z r) (h4 ∙ ap (λ z. with_plain z (instruction.EndAction number) b) h2 ∙ ap (λ z. with_plain (next_context p) (instruction.EndAction z) b) h1) ys)

-- ---- ELSE

pub else_none : {known : Known} {context : ℕ} {enclosing : List EnclosingBlock} (ss items : List ResolvedStatement) (t : Bool) {p q : FunctionBuilder} → items ≡ ss → t ≡ nat_eq (length items) 0 → t ≡ true
    → q ≡ with_code (takes context (suc (at p)) instruction.NoCase 0 p.code) p → WritesElse known context enclosing ss p q
else_none {known} {context} {enclosing} [] items t {p} {q} e f g h = subst (λ z. WritesElse known context enclosing [] p z) (sym h) written.no_else
else_none (s ∷ ss) items t e f g h =
    let n : nat_eq (length (s ∷ ss)) 0 ≡ true = sym (f ∙ ap (λ ys. nat_eq (length ys) 0) e) ∙ g in
    let z : length (s ∷ ss) ≡ 0 = grind (arith, n) in
    absurd (omega (arith, z))

pub else_some : {known : Known} {context : ℕ} {enclosing : List EnclosingBlock} (ss items : List ResolvedStatement) (t : Bool) {p q : FunctionBuilder} → items ≡ ss → t ≡ nat_eq (length items) 0 → t ≡ false
    → WritesStatements known context enclosing ss p q → WritesElse known context enclosing ss p q
else_some [] items t e f g x = absurd (false≢true (sym g ∙ f ∙ ap (λ ys. nat_eq (length ys) 0) e))
else_some (s ∷ ss) items t e f g x = written.else_all x

-- ---- blocks

pub compound_written : {known : Known} {context end exit inner : ℕ} {enclosing : List EnclosingBlock} {start : ℕ} {p d a e x b c q : FunctionBuilder} {ns : List ℕ} (level : ℕ) (block : ResolvedBlock) → exit ≡ at c
    → Declares known context end (out-ResolvedBlock block).declarations p.code d.code → d ≡ with_code d.code p → WritesCursors known (out-ResolvedBlock block).cursors d a → ns ≡ map (λ y. y.number) (out-ResolvedBlock block).cursors
    → inner ≡ next_context a → e ≡ block_entered context (out-ResolvedBlock block).atomic exit ns a
    → x ≡ passed inner start (out-ResolvedBlock block).handlers e → start ≡ at b
    → WritesHandlers known inner (out-ResolvedBlock block).handlers x b → WritesStatements known inner (Block level inner context exit ∷ enclosing) (out-ResolvedBlock block).statements b c → q ≡ with_plain inner (instruction.Exit inner) c
    → WritesForm known context end enclosing (layers.Compound level block) p q
compound_written {known} {context} {end} {exit} {inner} {enclosing} {start} {p} {d} {a} {e} {x} {b} {c} {q} {ns} level block out ds h1 cs h2 h3 h4 jump begins hs ss h6 s o en =
    let y = out-ResolvedBlock block in
    let numbers = map (λ z. z.number) y.cursors in
    let following : end ≡ suc (at c) = en ∙ ap at h6 ∙ at-plain inner (instruction.Exit inner) c in
    let enter : e ≡ block_entered context y.atomic (at c) numbers a = h4 ∙ ap (λ z. block_entered context y.atomic z ns a) out ∙ ap (λ z. block_entered context y.atomic (at c) z a) h2 in
    let pass : x ≡ passed (next_context a) (at b) y.handlers (block_entered context y.atomic (at c) numbers a) =
    jump ∙ ap (λ z. passed inner z y.handlers e) begins ∙ ap (λ z. passed z (at b) y.handlers e) h3 ∙ ap (passed (next_context a) (at b) y.handlers) enter in
    subst (λ z. WritesStatement known context enclosing s p z) (sym (h6 ∙ ap (λ z. with_plain z (instruction.Exit z) c) h3))
    (written.compound level block o (subst (λ z. Declares known context z y.declarations p.code d.code) following ds) (subst (λ z. WritesCursors known y.cursors z a) h1 cs)
    (subst (λ z. WritesHandlers known (next_context a) y.handlers z b) pass (subst (λ z. WritesHandlers known z y.handlers x b) h3 hs))
    (subst (λ z. WritesStatements known z (Block level z context (at c) ∷ enclosing) y.statements b c) h3 (subst (λ z. WritesStatements known inner (Block level inner context z ∷ enclosing) y.statements b c) out ss)))

pub for_written : {known : Known} {context end out again inner : ℕ} {enclosing : List EnclosingBlock} {p a e t o2 f c j q : FunctionBuilder} {ns : List ℕ} (level : ℕ) (head : ResolvedFor) (list : List ResolvedStatement) → WritesCursors known (head.cursor ∷ []) p a
    → ns ≡ head.cursor.number ∷ [] → inner ≡ next_context a → e ≡ block_entered context false out ns a → t ≡ with_code (takes inner out (instruction.Open head.cursor.number) 0 e.code) e → again ≡ at t → o2 ≡ with_plain inner instruction.Turn t
    → f ≡ fetched inner out head o2 → WritesStatements known inner (Loop level out again ∷ Rows inner context ∷ enclosing) list f c → j ≡ jumped inner again c → out ≡ at j → q ≡ with_plain inner (instruction.Exit inner) j
    → WritesForm known context end enclosing (layers.For level head list) p q
for_written {known} {context} {end} {out} {again} {inner} {enclosing} {p} {a} {e} {t} {o2} {f} {c} {j} {q} {ns} level head list one h2 h3 h4 h5 h0 h51 h6 ss h7 h1 h8 s o en =
    let left : out ≡ suc (at c) = h1 ∙ ap at h7 ∙ at-plain inner (instruction.Operation (op.Jump again)) c in
    let back : again ≡ suc (suc (at p)) =
    h0 ∙ ap at h5 ∙ here-takes inner out (instruction.Open head.cursor.number) 0 e.code ∙ ap suc (ap at h4 ∙ here-plain context (instruction.Enter (next_context a)) a.code ∙ ap suc (cursors-at one)) in
    let n = next_context a in
    let enter : e ≡ block_entered context false (suc (at c)) (head.cursor.number ∷ []) a = h4 ∙ ap (λ z. block_entered context false z ns a) left ∙ ap (λ z. block_entered context false (suc (at c)) z a) h2 in
    let first : o2 ≡ opened inner out head.cursor e = h51 ∙ ap (with_plain inner instruction.Turn) h5 in
    let rows : f ≡ fetched n (suc (at c)) head (opened n (suc (at c)) head.cursor (block_entered context false (suc (at c)) (head.cursor.number ∷ []) a)) =
    h6 ∙ ap (fetched inner out head) (first ∙ ap (opened inner out head.cursor) enter)
    ∙ ap (λ z. fetched z out head (opened z out head.cursor (block_entered context false (suc (at c)) (head.cursor.number ∷ []) a))) h3
    ∙ ap (λ z. fetched n z head (opened n z head.cursor (block_entered context false (suc (at c)) (head.cursor.number ∷ []) a))) left in
    subst (λ z. WritesStatement known context enclosing s p z)
    (sym (h8 ∙ ap (with_plain inner (instruction.Exit inner)) (h7 ∙ ap (λ z. jumped inner z c) back) ∙ ap (λ z. with_plain z (instruction.Exit z) (jumped z (suc (suc (at p))) c)) h3))
    (written.for_ level head list o one
    (subst (λ z. WritesStatements known n (Loop level (suc (at c)) (suc (suc (at p))) ∷ Rows n context ∷ enclosing) list z c) rows
    (subst (λ z. WritesStatements known n (Loop level (suc (at c)) z ∷ Rows n context ∷ enclosing) list f c) back
    (subst (λ z. WritesStatements known n (Loop level z again ∷ Rows n context ∷ enclosing) list f c) left
    (subst (λ z. WritesStatements known z (Loop level out again ∷ Rows z context ∷ enclosing) list f c) h3 ss)))))

-- ---- a simple statement

pub simple_written : {known : Known} {context end : ℕ} {enclosing : List EnclosingBlock} {p q : FunctionBuilder} (x y : ResolvedSimple) → y ≡ x → WritesSimple known context end enclosing y p q → WritesForm known context end enclosing (layers.Simple x) p q
simple_written {known} {context} {end} {enclosing} {p} {q} x y h w s o e =
    let z : WritesSimple known context end enclosing x p q = subst (λ i. WritesSimple known context end enclosing i p q) h w in
    written.simple x o (subst (λ i. WritesSimple known context i enclosing x p q) e z)
