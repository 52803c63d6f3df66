-- Statements are written after what there is.
use Rattle.std.proofs.Common.{◌<◌, ◌≤◌, ℕ, suc, Bool, false, List, [], ◌∷◌, length, map, nat_eq, arith}
use Rattle.psm_exprcode.specs.declared.op.Letter.TheVariants.{B}
use Rattle.psm_exprcode.specs.declared.op.Op.TheVariants as op
use Rattle.psm_resolved.specs.declared.statement.ResolvedBlock.{ResolvedBlock, out-ResolvedBlock}
use Rattle.psm_resolved.specs.declared.statement.ResolvedBranch.{ResolvedBranch}
use Rattle.psm_resolved.specs.declared.statement.ResolvedHandler.{ResolvedHandler, out-ResolvedHandler}
use Rattle.psm_resolved.specs.declared.statement.ResolvedStatement.{ResolvedStatement}
use Rattle.psm_code.specs.declared.instruction.Instruction.TheVariants as instruction
use Rattle.psm_exprgen.specs.declared.known.Known.{Known}
use Rattle.psm_exprgen.specs.Written.{Written, applied, last_letter}
use Rattle.psm_exprgen.proofs.Growth.{grows-applied, grows-on, grows-taken, grows-takes, grows-writes}
use Rattle.psm_codegen.specs.declared.enclosing.EnclosingBlock.{EnclosingBlock}
use Rattle.psm_codegen.specs.FunctionBuilder.{FunctionBuilder, at, block_entered, next_context, with_code}
use Rattle.psm_codegen.specs.Simples.{Declares}
use Rattle.psm_codegen.specs.Statements.{WritesBranches, WritesComparisons, WritesCursors, WritesElse, WritesHandlers, WritesStatement, WritesStatements, jumped, opened, passed, unless_true}
use Rattle.psm_codegen.specs.Statements as written
use Rattle.psm_codegen.proofs.Growing.{Grown, begins-length, grown-any, grown-block, grown-code, grown-cursors, grown-entered, grown-fetched, grown-handler, grown-here, grown-on, grown-opened, grown-passed, grown-plain, grown-simple, next-entered, no_context}
use Rattle.psm_codegen.proofs.GrowthSimples.{grows-declares}

-- what stands before the list of a block is written
pub before-list : {known : Known} {context : ℕ} (resume exit start : ℕ) (block : ResolvedBlock) {p a : FunctionBuilder} {w : Written} → Declares known context resume (out-ResolvedBlock block).declarations p.code w → WritesCursors known (out-ResolvedBlock block).cursors (with_code w p) a
    → Grown no_context p (passed (next_context a) start (out-ResolvedBlock block).handlers (block_entered context (out-ResolvedBlock block).atomic exit (map (λ x. x.number) (out-ResolvedBlock block).cursors) a))
before-list {context = context} resume exit start block {a = a} declarations cursors =
    let numbers = map (λ x. x.number) (out-ResolvedBlock block).cursors in
    grown-on (grown-code (grows-declares declarations)) (grown-on (grown-cursors cursors) (grown-on (grown-entered context (out-ResolvedBlock block).atomic exit numbers a)
    (grown-passed (next_context a) start (out-ResolvedBlock block).handlers (block_entered context (out-ResolvedBlock block).atomic exit numbers a))))

-- a context more than there were
pub low-context : {p a : FunctionBuilder} → Grown no_context p a → length p.contexts < next_context a
low-context g = let h = begins-length g.contexts in omega (arith, h)

pub high-context : (context exit start : ℕ) (block : ResolvedBlock) (a : FunctionBuilder) {but : ℕ → Bool} {q : FunctionBuilder}
    → Grown but (passed (next_context a) start (out-ResolvedBlock block).handlers (block_entered context (out-ResolvedBlock block).atomic exit (map (λ x. x.number) (out-ResolvedBlock block).cursors) a)) q → next_context a ≤ length q.contexts
high-context context exit start block a {but} {q} g =
    let numbers = map (λ x. x.number) (out-ResolvedBlock block).cursors in
    let entered = block_entered context (out-ResolvedBlock block).atomic exit numbers a in
    let h : length entered.contexts ≤ length q.contexts = begins-length (grown-on (grown-passed {but = but} (next_context a) start (out-ResolvedBlock block).handlers entered) g).contexts in
    omega (arith, h, next-entered context (out-ResolvedBlock block).atomic exit numbers a)

mutual
  pub grown-statement : {known : Known} {context : ℕ} {enclosing : List EnclosingBlock} {s : ResolvedStatement} {p q : FunctionBuilder} → WritesStatement known context enclosing s p q → Grown no_context p q
  grown-statement {context = context} (written.compound {p = p} {w = w} {a = a} {b = b} {c = c} level block e declarations cursors handlers statements) =
      let before = before-list (suc (at c)) (at c) (at b) block declarations cursors in
      let inside = grown-handlers handlers in
      let following = grown-on (grown-all statements) (grown-plain (next_context a) (instruction.Exit (next_context a)) {p = c}) in
      grown-block (next_context a) before inside following (low-context (grown-on (grown-code (grows-declares declarations)) (grown-cursors cursors))) (high-context context (at c) (at b) block a (grown-on inside (grown-any following)))
  grown-statement {context = context} (written.loop {p = p} {c = c} level ss e all) = grown-on (grown-plain context instruction.Turn {p = p}) (grown-on (grown-all all) (grown-plain context (instruction.Operation (op.Jump (at p))) {p = c}))
  grown-statement {context = context} (written.while {p = p} {c = c} {w = w} level test ss e t all) =
      grown-on (grown-plain context instruction.Turn {p = p}) (grown-on (grown-code {w = unless_true context (suc (at c)) (suc (at c)) w} (grows-on (grows-writes t) (grows-taken context (suc (at c)) (op.JumpUnlessTrue (suc (at c))) {w = w})))
      (grown-on (grown-all all) (grown-plain context (instruction.Operation (op.Jump (at p))) {p = c})))
  grown-statement {context = context} (written.repeat {p = p} {c = c} {w = w} level ss until e all t) =
      grown-on (grown-plain context instruction.Turn {p = p}) (grown-on (grown-all all) (grown-code (grows-on (grows-writes t) (grows-taken context (suc (length w.lines)) (op.JumpUnlessTrue (at p)) {w = w}))))
  grown-statement (written.if_ branches otherwise e bs all) = grown-on (grown-branches bs) (grown-all all)
  grown-statement (written.case branches otherwise e bs x) = grown-on (grown-branches bs) (grown-else x)
  grown-statement {context = context} (written.compared {b = b} {c = c} {w = w} operand branches otherwise e t bs x) =
      grown-on (grown-code (grows-writes t)) (grown-on (grown-comparisons bs) (grown-on (grown-code (grows-taken context (at c) op.Drop {w = b.code})) (grown-else x)))
  grown-statement {context = context} (written.for_ {p = p} {a = a} {c = c} level head ss e cursors all) =
      let entered = block_entered context false (suc (at c)) (head.cursor.number ∷ []) a in
      grown-on (grown-cursors cursors) (grown-on (grown-entered context false (suc (at c)) (head.cursor.number ∷ []) a) (grown-on (grown-opened (next_context a) (suc (at c)) head.cursor entered)
      (grown-on (grown-fetched (next_context a) (suc (at c)) head (opened (next_context a) (suc (at c)) head.cursor entered)) (grown-on (grown-all all)
      (grown-on (grown-plain (next_context a) (instruction.Operation (op.Jump (suc (suc (at p))))) {p = c})
      (grown-plain (next_context a) (instruction.Exit (next_context a)) {p = jumped (next_context a) (suc (suc (at p))) c}))))))
  grown-statement (written.simple s e x) = grown-simple x

  pub grown-all : {known : Known} {context : ℕ} {enclosing : List EnclosingBlock} {ss : List ResolvedStatement} {p q : FunctionBuilder} → WritesStatements known context enclosing ss p q → Grown no_context p q
  grown-all written.none = grown-here
  grown-all (written.more s ss) = grown-on (grown-statement s) (grown-all ss)

  pub grown-branches : {known : Known} {context : ℕ} {enclosing : List EnclosingBlock} {out : ℕ} {bs : List ResolvedBranch} {p q : FunctionBuilder} → WritesBranches known context enclosing out bs p q → Grown no_context p q
  grown-branches written.no_branch = grown-here
  grown-branches {context = context} {out = out} (written.branch {b = b} {w = w} t all bs) =
      grown-on (grown-code (grows-on (grows-writes t) (grows-taken context out (op.JumpUnlessTrue (suc (at b))) {w = w}))) (grown-on (grown-all all) (grown-on (grown-plain context (instruction.Operation (op.Jump out)) {p = b}) (grown-branches bs)))

  pub grown-comparisons : {known : Known} {context : ℕ} {enclosing : List EnclosingBlock} {out : ℕ} {bs : List ResolvedBranch} {p q : FunctionBuilder} → WritesComparisons known context enclosing out bs p q → Grown no_context p q
  grown-comparisons written.no_comparison = grown-here
  grown-comparisons {context = context} {out = out} (written.comparison {p = p} {b = b} {w = w} t all bs) =
      let equal = applied context out op.Equal 2 B w in
      let unless = unless_true context out (suc (at b)) equal in
      grown-on (grown-code (grows-on (grows-applied context out op.Duplicate 0 (last_letter p.code) {w = p.code}) (grows-on (grows-writes t)
      (grows-on (grows-applied context out op.Equal 2 B {w = w}) (grows-on (grows-taken context out (op.JumpUnlessTrue (suc (at b))) {w = equal}) (grows-taken context out op.Drop {w = unless}))))))
      (grown-on (grown-all all) (grown-on (grown-code (grows-applied context out (op.Jump out) 0 (last_letter p.code) {w = b.code})) (grown-comparisons bs)))

  pub grown-else : {known : Known} {context : ℕ} {enclosing : List EnclosingBlock} {ss : List ResolvedStatement} {p q : FunctionBuilder} → WritesElse known context enclosing ss p q → Grown no_context p q
  grown-else {context = context} (written.no_else {p = p}) = grown-code (grows-takes context (suc (at p)) instruction.NoCase 0 {w = p.code})
  grown-else (written.else_all all) = grown-all all

  pub grown-handlers : {known : Known} {context : ℕ} {hs : List ResolvedHandler} {p q : FunctionBuilder} → WritesHandlers known context hs p q → Grown (nat_eq context) p q
  grown-handlers written.no_handler = grown-here
  grown-handlers {context = context} (written.handler {h = h} {p = p} {b = b} action others) =
      grown-on (grown-handler context (out-ResolvedHandler h).kind (out-ResolvedHandler h).values p) (grown-on (grown-any (grown-statement action))
      (grown-on (grown-plain (next_context p) (instruction.EndAction (length p.handlers)) {p = b}) (grown-handlers others)))
