-- How many cursors a statement has in the code, by its tree.
use Rattle.std.specs.List.{concat}
use Rattle.std.proofs.Common.{◌≡◌, ◌+◌, ℕ, suc, List, [], ◌∷◌, ◌++◌, length, map, ap, refl, ◌∙◌, subst, arith, length-append}
use Rattle.psm_resolved.specs.declared.statement.ResolvedBlock.{ResolvedBlock, out-ResolvedBlock}
use Rattle.psm_resolved.specs.declared.statement.ResolvedBranch.{ResolvedBranch, out-ResolvedBranch}
use Rattle.psm_resolved.specs.declared.statement.ResolvedCursor.{ResolvedCursor}
use Rattle.psm_resolved.specs.declared.statement.ResolvedHandler.{ResolvedHandler, out-ResolvedHandler}
use Rattle.psm_resolved.specs.declared.statement.ResolvedSimple.{ResolvedSimple}
use Rattle.psm_resolved.specs.declared.statement.ResolvedStatement.{ResolvedStatement, out-ResolvedStatement}
use Rattle.psm_resolved.specs.declared.statement.ResolvedStatement.TheFolds.{map-ResolvedStatement, fold-ResolvedBlock, fold-ResolvedBranch, fold-ResolvedHandler, fold_out-ResolvedStatement, fold_out-ResolvedBlock, fold_out-ResolvedBranch, fold_out-ResolvedHandler}
use Rattle.psm_exprgen.specs.declared.known.Known.{Known}
use Rattle.psm_exprgen.specs.Queries.{cursor_of}
use Rattle.psm_codegen.specs.declared.enclosing.EnclosingBlock.{EnclosingBlock}
use Rattle.psm_codegen.specs.FunctionBuilder.{FunctionBuilder, at, block_entered, next_context}
use Rattle.psm_codegen.specs.Simples.{WritesSimple}
use Rattle.psm_codegen.specs.Simples as simple
use Rattle.psm_codegen.specs.Standing.{CountsUp, Layer, block_cursors_layer, branch_cursors_layer, cursors_layer, cursors_of, handler_cursors_layer, numbers_of}
use Rattle.psm_codegen.specs.Statements.{WritesBranches, WritesComparisons, WritesCursors, WritesElse, WritesHandlers, WritesStatement, WritesStatements, passed}
use Rattle.psm_codegen.specs.Statements as written
use Rattle.psm_codegen.proofs.Growing.{length-snoc}

-- ---- the numbers in each form

abbrev pub cursors_of_block : ResolvedBlock → List ℕ
cursors_of_block = fold-ResolvedBlock (List ℕ) (List ℕ) (List ℕ) (List ℕ) cursors_layer block_cursors_layer branch_cursors_layer handler_cursors_layer

abbrev pub cursors_of_branch : ResolvedBranch → List ℕ
cursors_of_branch = fold-ResolvedBranch (List ℕ) (List ℕ) (List ℕ) (List ℕ) cursors_layer block_cursors_layer branch_cursors_layer handler_cursors_layer

abbrev pub cursors_of_handler : ResolvedHandler → List ℕ
cursors_of_handler = fold-ResolvedHandler (List ℕ) (List ℕ) (List ℕ) (List ℕ) cursors_layer block_cursors_layer branch_cursors_layer handler_cursors_layer

abbrev pub cursors_in : List ResolvedStatement → List ℕ
cursors_in ss = concat (map cursors_of ss)

abbrev pub cursors_in_branches : List ResolvedBranch → List ℕ
cursors_in_branches bs = concat (map cursors_of_branch bs)

abbrev pub cursors_in_handlers : List ResolvedHandler → List ℕ
cursors_in_handlers hs = concat (map cursors_of_handler hs)

-- those of a statement whose layer it is
abbrev pub in_layer : Layer → List ℕ
in_layer layer = cursors_layer (map-ResolvedStatement ResolvedStatement ResolvedBlock ResolvedBranch ResolvedHandler (List ℕ) (List ℕ) (List ℕ) (List ℕ) cursors_of cursors_of_block cursors_of_branch cursors_of_handler layer)

pub cursors-out : (s : ResolvedStatement) {layer : Layer} → out-ResolvedStatement s ≡ layer → cursors_of s ≡ in_layer layer
cursors-out s e = fold_out-ResolvedStatement (List ℕ) (List ℕ) (List ℕ) (List ℕ) cursors_layer block_cursors_layer branch_cursors_layer handler_cursors_layer s ∙ ap in_layer e

pub block_cursors-out : (b : ResolvedBlock) → cursors_of_block b ≡ numbers_of (out-ResolvedBlock b).cursors ++ (cursors_in_handlers (out-ResolvedBlock b).handlers ++ cursors_in (out-ResolvedBlock b).statements)
block_cursors-out b = fold_out-ResolvedBlock (List ℕ) (List ℕ) (List ℕ) (List ℕ) cursors_layer block_cursors_layer branch_cursors_layer handler_cursors_layer b

pub branch_cursors-out : (b : ResolvedBranch) → cursors_of_branch b ≡ cursors_in (out-ResolvedBranch b).statements
branch_cursors-out b = fold_out-ResolvedBranch (List ℕ) (List ℕ) (List ℕ) (List ℕ) cursors_layer block_cursors_layer branch_cursors_layer handler_cursors_layer b

pub handler_cursors-out : (h : ResolvedHandler) → cursors_of_handler h ≡ cursors_of (out-ResolvedHandler h).action
handler_cursors-out h = fold_out-ResolvedHandler (List ℕ) (List ℕ) (List ℕ) (List ℕ) cursors_layer block_cursors_layer branch_cursors_layer handler_cursors_layer h

-- ---- numbers that count up

pub counts-to : (from : ℕ) (ns : List ℕ) (to : ℕ) → CountsUp from ns to → to ≡ from + length ns
counts-to from [] to h = omega (arith, h)
counts-to from (n ∷ ns) to h = omega (arith, counts-to (suc from) ns to h.1)

-- up to the end of a part, and from there
pub counts-split : (from : ℕ) (ns ms : List ℕ) (to : ℕ) → CountsUp from (ns ++ ms) to → (mid : ℕ) → mid ≡ from + length ns → CountsUp from ns mid × CountsUp mid ms to
counts-split from [] ms to h mid e = let f : from ≡ mid = omega (arith, e) in (f, subst (λ i. CountsUp i ms to) f h)
counts-split from (n ∷ ns) ms to h mid e = let k = counts-split (suc from) ns ms to h.1 mid (omega (arith, e)) in ((h.0, k.0), k.1)

-- ---- how many cursors are written

pub counted-cursors : {known : Known} {xs : List ResolvedCursor} {p q : FunctionBuilder} → WritesCursors known xs p q → length q.cursors ≡ length p.cursors + length (numbers_of xs)
counted-cursors written.no_cursor = omega arith
counted-cursors (written.cursor {x = x} {p = p} code m others) = omega (arith, counted-cursors others, length-snoc p.cursors (cursor_of x (length p.code.queries)))

pub passed-cursors : (context start : ℕ) (hs : List ResolvedHandler) (p : FunctionBuilder) → (passed context start hs p).cursors ≡ p.cursors
passed-cursors context start [] p = refl
passed-cursors context start (h ∷ hs) p = refl

simple-cursors : {known : Known} {context resume : ℕ} {enclosing : List EnclosingBlock} {s : ResolvedSimple} {p q : FunctionBuilder} → WritesSimple known context resume enclosing s p q → q.cursors ≡ p.cursors
simple-cursors (simple.set e) = refl
simple-cursors (simple.call a) = refl
simple-cursors (simple.return e) = refl
simple-cursors simple.leave = refl
simple-cursors simple.iterate = refl
simple-cursors (simple.signal m) = refl
simple-cursors simple.resignal = refl
simple-cursors (simple.resignal_condition m) = refl
simple-cursors simple.diagnostics_of_statement = refl
simple-cursors simple.diagnostics_of_condition = refl
simple-cursors (simple.select_into m) = refl
simple-cursors (simple.insert rows) = refl
simple-cursors (simple.insert_query m) = refl
simple-cursors (simple.update u) = refl
simple-cursors (simple.delete d) = refl
simple-cursors simple.open_ = refl
simple-cursors simple.fetch_ = refl
simple-cursors simple.close_ = refl

mutual
  pub counted : {known : Known} {context : ℕ} {enclosing : List EnclosingBlock} {s : ResolvedStatement} {p q : FunctionBuilder} → WritesStatement known context enclosing s p q → length q.cursors ≡ length p.cursors + length (cursors_of s)
  counted {context = context} {s = s} (written.compound {p = p} {w = w} {a = a} {b = b} {c = c} level block e declarations cursors handlers statements) =
      let all : cursors_of s ≡ numbers_of (out-ResolvedBlock block).cursors ++ (cursors_in_handlers (out-ResolvedBlock block).handlers ++ cursors_in (out-ResolvedBlock block).statements) = cursors-out s e ∙ block_cursors-out block in
      let entered = ap length (passed-cursors (next_context a) (at b) (out-ResolvedBlock block).handlers (block_entered context (out-ResolvedBlock block).atomic (at c) (numbers_of (out-ResolvedBlock block).cursors) a)) in
      omega (
        arith,
        ap length all,
        length-append (numbers_of (out-ResolvedBlock block).cursors) (cursors_in_handlers (out-ResolvedBlock block).handlers ++ cursors_in (out-ResolvedBlock block).statements),
        length-append (cursors_in_handlers (out-ResolvedBlock block).handlers) (cursors_in (out-ResolvedBlock block).statements),
        counted-cursors cursors,
        entered,
        counted-handlers handlers,
        counted-all statements,
      )
  counted {s = s} (written.loop level ss e all) = omega (arith, ap length (cursors-out s e), counted-all all)
  counted {s = s} (written.while level test ss e t all) = omega (arith, ap length (cursors-out s e), counted-all all)
  counted {s = s} (written.repeat level ss until e all t) = omega (arith, ap length (cursors-out s e), counted-all all)
  counted {s = s} (written.if_ branches otherwise e bs all) = omega (arith, ap length (cursors-out s e), length-append (cursors_in_branches branches) (cursors_in otherwise), counted-branches bs, counted-all all)
  counted {s = s} (written.case branches otherwise e bs x) = omega (arith, ap length (cursors-out s e), length-append (cursors_in_branches branches) (cursors_in otherwise), counted-branches bs, counted-else x)
  counted {s = s} (written.compared operand branches otherwise e t bs x) = omega (arith, ap length (cursors-out s e), length-append (cursors_in_branches branches) (cursors_in otherwise), counted-comparisons bs, counted-else x)
  counted {s = s} (written.for_ level head ss e cursors all) = omega (arith, ap length (cursors-out s e), counted-cursors cursors, counted-all all)
  counted {s = s} (written.simple simple e x) = omega (arith, ap length (cursors-out s e), ap length (simple-cursors x))

  pub counted-all : {known : Known} {context : ℕ} {enclosing : List EnclosingBlock} {ss : List ResolvedStatement} {p q : FunctionBuilder} → WritesStatements known context enclosing ss p q → length q.cursors ≡ length p.cursors + length (cursors_in ss)
  counted-all written.none = omega arith
  counted-all (written.more {s = s} {ss = ss} x xs) = omega (arith, length-append (cursors_of s) (cursors_in ss), counted x, counted-all xs)

  pub counted-branches : {known : Known} {context : ℕ} {enclosing : List EnclosingBlock} {out : ℕ} {bs : List ResolvedBranch} {p q : FunctionBuilder} → WritesBranches known context enclosing out bs p q → length q.cursors ≡ length p.cursors + length (cursors_in_branches bs)
  counted-branches written.no_branch = omega arith
  counted-branches (written.branch {x = x} {xs = xs} t all bs) = omega (arith, length-append (cursors_of_branch x) (cursors_in_branches xs), ap length (branch_cursors-out x), counted-all all, counted-branches bs)

  pub counted-comparisons : {known : Known} {context : ℕ} {enclosing : List EnclosingBlock} {out : ℕ} {bs : List ResolvedBranch} {p q : FunctionBuilder} → WritesComparisons known context enclosing out bs p q → length q.cursors ≡ length p.cursors + length (cursors_in_branches bs)
  counted-comparisons written.no_comparison = omega arith
  counted-comparisons (written.comparison {x = x} {xs = xs} t all bs) = omega (arith, length-append (cursors_of_branch x) (cursors_in_branches xs), ap length (branch_cursors-out x), counted-all all, counted-comparisons bs)

  pub counted-else : {known : Known} {context : ℕ} {enclosing : List EnclosingBlock} {ss : List ResolvedStatement} {p q : FunctionBuilder} → WritesElse known context enclosing ss p q → length q.cursors ≡ length p.cursors + length (cursors_in ss)
  counted-else written.no_else = omega arith
  counted-else (written.else_all all) = counted-all all

  pub counted-handlers : {known : Known} {context : ℕ} {hs : List ResolvedHandler} {p q : FunctionBuilder} → WritesHandlers known context hs p q → length q.cursors ≡ length p.cursors + length (cursors_in_handlers hs)
  counted-handlers written.no_handler = omega arith
  counted-handlers (written.handler {h = h} {hs = hs} action others) = omega (arith, length-append (cursors_of_handler h) (cursors_in_handlers hs), ap length (handler_cursors-out h), counted action, counted-handlers others)
