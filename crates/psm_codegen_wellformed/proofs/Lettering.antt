-- The letters of cursors that are written stand after those that there were, as many as there are cursors.
use Rattle.std.proofs.Common.{◌≡◌, ℕ, suc, List, [], ◌∷◌, length, map, ap, sym, ◌∙◌}
use Rattle.psm_exprcode.specs.declared.op.Letter.{Letter}
use Rattle.psm_resolved.specs.declared.statement.ResolvedBlock.{out-ResolvedBlock}
use Rattle.psm_resolved.specs.declared.statement.ResolvedBranch.{ResolvedBranch}
use Rattle.psm_resolved.specs.declared.statement.ResolvedCursor.{ResolvedCursor}
use Rattle.psm_resolved.specs.declared.statement.ResolvedHandler.{ResolvedHandler}
use Rattle.psm_resolved.specs.declared.statement.ResolvedSimple.{ResolvedSimple}
use Rattle.psm_resolved.specs.declared.statement.ResolvedStatement.{ResolvedStatement}
use Rattle.psm_code.specs.declared.code.CodeCursor.{CodeCursor}
use Rattle.psm_exprgen.specs.declared.known.Known.{Known}
use Rattle.psm_exprgen.specs.Queries.{cursor_of, item_letters}
use Rattle.psm_exprgen.specs.Writing.{BeginsWith}
use Rattle.psm_exprgen.proofs.Growth.{begins-before, begins-here, begins-more}
use Rattle.psm_codegen.specs.declared.enclosing.EnclosingBlock.{EnclosingBlock}
use Rattle.psm_codegen.specs.FunctionBuilder.{FunctionBuilder, at, block_entered, next_context}
use Rattle.psm_codegen.specs.Simples.{WritesSimple}
use Rattle.psm_codegen.specs.Simples as simple
use Rattle.psm_codegen.specs.Statements.{WritesBranches, WritesComparisons, WritesCursors, WritesElse, WritesHandlers, WritesStatement, WritesStatements, passed}
use Rattle.psm_codegen.specs.Statements as written
use Rattle.psm_codegen.proofs.Growing.{length-snoc}

-- from lists of letters and of cursors to others
pub record Lettering (ls : List (List Letter)) (cs : List CodeCursor) (ms : List (List Letter)) (ds : List CodeCursor) : Type 0 where
  pub more : BeginsWith ls ms
  pub even : length ls ≡ length cs → length ms ≡ length ds

-- Parts that differ in lines, contexts, handlers, conditions or plans alone stand for one another here.
abbrev pub Lettered : FunctionBuilder → FunctionBuilder → Type 0
Lettered p q = Lettering p.letters p.cursors q.letters q.cursors

pub lettered-on : {ls ms ns : List (List Letter)} {cs ds es : List CodeCursor} → Lettering ls cs ms ds → Lettering ms ds ns es → Lettering ls cs ns es
lettered-on g h = record { more = begins-before g.more h.more; even = λ e. h.even (g.even e) }

-- neither letters nor cursors more
pub lettered-here : {ls : List (List Letter)} {cs : List CodeCursor} → Lettering ls cs ls cs
lettered-here {ls} = record { more = begins-here ls; even = λ e. e }

pub lettered-cursors : {known : Known} {xs : List ResolvedCursor} {p q : FunctionBuilder} → WritesCursors known xs p q → Lettered p q
lettered-cursors written.no_cursor = lettered-here
lettered-cursors {known} (written.cursor {x = x} {p = p} code m others) =
    lettered-on (record {
      more = begins-more _ _;
      even = λ e. length-snoc p.letters (item_letters known x.query) ∙ ap suc e ∙ sym (length-snoc p.cursors (cursor_of x (length p.code.queries)));
    }) (lettered-cursors others)

pub lettered-passed : (context start : ℕ) (hs : List ResolvedHandler) (p : FunctionBuilder) → Lettered p (passed context start hs p)
lettered-passed context start [] p = lettered-here
lettered-passed context start (h ∷ hs) p = lettered-here

lettered-simple : {known : Known} {context resume : ℕ} {enclosing : List EnclosingBlock} {s : ResolvedSimple} {p q : FunctionBuilder} → WritesSimple known context resume enclosing s p q → Lettered p q
lettered-simple (simple.set e) = lettered-here
lettered-simple (simple.call a) = lettered-here
lettered-simple (simple.return e) = lettered-here
lettered-simple simple.leave = lettered-here
lettered-simple simple.iterate = lettered-here
lettered-simple (simple.signal m) = lettered-here
lettered-simple simple.resignal = lettered-here
lettered-simple (simple.resignal_condition m) = lettered-here
lettered-simple simple.diagnostics_of_statement = lettered-here
lettered-simple simple.diagnostics_of_condition = lettered-here
lettered-simple (simple.select_into m) = lettered-here
lettered-simple (simple.insert rows) = lettered-here
lettered-simple (simple.insert_query m) = lettered-here
lettered-simple (simple.update u) = lettered-here
lettered-simple (simple.delete d) = lettered-here
lettered-simple simple.open_ = lettered-here
lettered-simple simple.fetch_ = lettered-here
lettered-simple simple.close_ = lettered-here

mutual
  pub lettered-statement : {known : Known} {context : ℕ} {enclosing : List EnclosingBlock} {s : ResolvedStatement} {p q : FunctionBuilder} → WritesStatement known context enclosing s p q → Lettered p q
  lettered-statement {context = context} (written.compound {p = p} {w = w} {a = a} {b = b} {c = c} level block e declarations cursors handlers statements) =
      let numbers = map (λ x. x.number) (out-ResolvedBlock block).cursors in
      let entered = block_entered context (out-ResolvedBlock block).atomic (at c) numbers a in
      let first : Lettered p a = lettered-cursors cursors in
      let second : Lettered a (passed (next_context a) (at b) (out-ResolvedBlock block).handlers entered) = lettered-passed (next_context a) (at b) (out-ResolvedBlock block).handlers entered in
      lettered-on first (lettered-on second (lettered-on (lettered-handlers handlers) (lettered-all statements)))
  lettered-statement (written.loop level ss e all) = lettered-all all
  lettered-statement (written.while level test ss e t all) = lettered-all all
  lettered-statement (written.repeat level ss until e all t) = lettered-all all
  lettered-statement (written.if_ branches otherwise e bs all) = lettered-on (lettered-branches bs) (lettered-all all)
  lettered-statement (written.case branches otherwise e bs x) = lettered-on (lettered-branches bs) (lettered-else x)
  lettered-statement (written.compared {p = p} {b = b} {c = c} operand branches otherwise e t bs x) = let first : Lettered p b = lettered-comparisons bs in let second : Lettered b c = lettered-else x in lettered-on first second
  lettered-statement (written.for_ {p = p} {a = a} {c = c} level head ss e cursors all) = let first : Lettered p a = lettered-cursors cursors in let second : Lettered a c = lettered-all all in lettered-on first second
  lettered-statement (written.simple s e x) = lettered-simple x

  pub lettered-all : {known : Known} {context : ℕ} {enclosing : List EnclosingBlock} {ss : List ResolvedStatement} {p q : FunctionBuilder} → WritesStatements known context enclosing ss p q → Lettered p q
  lettered-all written.none = lettered-here
  lettered-all (written.more s ss) = lettered-on (lettered-statement s) (lettered-all ss)

  pub lettered-branches : {known : Known} {context : ℕ} {enclosing : List EnclosingBlock} {out : ℕ} {bs : List ResolvedBranch} {p q : FunctionBuilder} → WritesBranches known context enclosing out bs p q → Lettered p q
  lettered-branches written.no_branch = lettered-here
  lettered-branches (written.branch {p = p} {b = b} {c = c} t all bs) = let first : Lettered p b = lettered-all all in let second : Lettered b c = lettered-branches bs in lettered-on first second

  pub lettered-comparisons : {known : Known} {context : ℕ} {enclosing : List EnclosingBlock} {out : ℕ} {bs : List ResolvedBranch} {p q : FunctionBuilder} → WritesComparisons known context enclosing out bs p q → Lettered p q
  lettered-comparisons written.no_comparison = lettered-here
  lettered-comparisons (written.comparison {p = p} {b = b} {c = c} t all bs) = let first : Lettered p b = lettered-all all in let second : Lettered b c = lettered-comparisons bs in lettered-on first second

  pub lettered-else : {known : Known} {context : ℕ} {enclosing : List EnclosingBlock} {ss : List ResolvedStatement} {p q : FunctionBuilder} → WritesElse known context enclosing ss p q → Lettered p q
  lettered-else written.no_else = lettered-here
  lettered-else (written.else_all all) = lettered-all all

  pub lettered-handlers : {known : Known} {context : ℕ} {hs : List ResolvedHandler} {p q : FunctionBuilder} → WritesHandlers known context hs p q → Lettered p q
  lettered-handlers written.no_handler = lettered-here
  lettered-handlers (written.handler {p = p} {b = b} {c = c} action others) = let first : Lettered p b = lettered-statement action in let second : Lettered b c = lettered-handlers others in lettered-on first second
