-- The lines that are written for a statement stand for it.
use Rattle.std.proofs.Common.{◌≡◌, ◌<◌, ◌≤◌, ℕ, suc, false, List, [], ◌∷◌, ◌++◌, length, nat_eq, ap, sym, refl, ◌∙◌, subst, arith, le_refl, le_trans}
use Rattle.psm_cond.specs.Handlers.{Numbered}
use Rattle.psm_exprcode.specs.declared.op.Letter.{Letter}
use Rattle.psm_exprcode.specs.declared.op.Letter.TheVariants.{B}
use Rattle.psm_exprcode.specs.declared.op.Op.TheVariants as op
use Rattle.psm_resolved.specs.declared.expr.ResolvedExpr.{ResolvedExpr}
use Rattle.psm_resolved.specs.declared.file.ResolvedFile.{ResolvedFile}
use Rattle.psm_resolved.specs.declared.file.ResolvedRoutine.{ResolvedRoutine}
use Rattle.psm_resolved.specs.declared.statement.ResolvedBlock.{ResolvedBlock, out-ResolvedBlock}
use Rattle.psm_resolved.specs.declared.statement.ResolvedBranch.{ResolvedBranch}
use Rattle.psm_resolved.specs.declared.statement.ResolvedFor.{ResolvedFor}
use Rattle.psm_resolved.specs.declared.statement.ResolvedHandler.{ResolvedHandler, out-ResolvedHandler}
use Rattle.psm_resolved.specs.declared.statement.ResolvedStatement.{ResolvedStatement, out-ResolvedStatement}
use Rattle.psm_resolved.specs.declared.statement.ResolvedStatement.TheOpen as layers
use Rattle.psm_code.specs.declared.code.RawCode.{RawCode}
use Rattle.psm_code.specs.declared.code.RawRoutine.{RawRoutine}
use Rattle.psm_code.specs.declared.instruction.Instruction.{Instruction}
use Rattle.psm_code.specs.declared.instruction.Instruction.TheVariants as instruction
use Rattle.psm_simulation.specs.Env.{Env, Numbers, Plain, Raising, Visible, inside_block, inside_loop, over_rows}
use Rattle.psm_simulation.specs.Env as env_of
use Rattle.psm_simulation.specs.Expressions.{Puts}
use Rattle.psm_simulation.specs.Scheme.{Branches, Compares, GoesTo, Handles, IsForOf, Otherwise, StandAll, Stands}
use Rattle.psm_simulation.specs.Scheme as stands
use Rattle.psm_exprgen.specs.Exprs.{Writes}
use Rattle.psm_exprgen.specs.Writing.{Begins}
use Rattle.psm_exprgen.specs.Written.{Written, applied, here, last_letter, letters_at, taken, takes, puts as puts_of}
use Rattle.psm_exprgen.proofs.Counts.{here-applied, here-plain, here-puts, here-taken, here-takes}
use Rattle.psm_exprgen.proofs.Growth.{begins-earlier, grows-applied, grows-on, grows-plain, grows-puts, grows-taken, grows-writes}
use Rattle.psm_codegen.specs.declared.enclosing.EnclosingBlock.{EnclosingBlock}
use Rattle.psm_codegen.specs.Files.{known_of}
use Rattle.psm_codegen.specs.FunctionBuilder.{FunctionBuilder, at, block_entered, next_context, with_code, with_plain}
use Rattle.psm_codegen.specs.Standing.{AllFit, BranchesFit, CountsUp, Fits, HandlersFit, BlockScope, StandsOutside, cursors_of, in_action, numbers_of}
use Rattle.psm_codegen.specs.Statements.{WritesBranches, WritesComparisons, WritesCursors, WritesElse, WritesHandlers, WritesStatement, WritesStatements, fetched, jumped, opened, unless_true}
use Rattle.psm_codegen.specs.Statements as written
use Rattle.psm_codegen.proofs.BlocksStand.{Entered, block-entered, block-is, code_of_block, cursors-at, cursors-stand, entered_block, for-is, for-searches, goes-to, handler-is, seen-action, seen-block, seen-for, space-at, space-in, space-with, the_block}
use Rattle.psm_codegen.proofs.Fitting.{fits-as, of_branch, of_case, of_compound, of_for, of_handler, of_if, of_loop, of_more, of_repeat, of_simple, of_while}
use Rattle.psm_codegen.proofs.Growing.{Grown, begins-length, grown-any, grown-code, grown-cursors, grown-entered, grown-fetched, grown-handler, grown-here, grown-on, grown-opened, grown-passed, grown-plain, next-entered, next-handler, no_context}
use Rattle.psm_codegen.proofs.GrowingAll.{before-list, grown-all, grown-branches, grown-comparisons, grown-else, grown-handlers, grown-statement, high-context, low-context}
use Rattle.psm_codegen.proofs.GrowthSimples.{grows-declares, grows-stored}
use Rattle.psm_codegen.proofs.Numbering.{block_cursors-out, branch_cursors-out, counted, counted-all, counted-branches, counted-comparisons, counted-cursors, counted-handlers, counts-split, cursors-out, cursors_in, cursors_in_branches, cursors_in_handlers, cursors_of_branch, cursors_of_handler, handler_cursors-out, passed-cursors}
use Rattle.psm_codegen.proofs.Numbers.{known_functions}
use Rattle.psm_codegen.proofs.Outsides.{of_just}
use Rattle.psm_codegen.proofs.Placing.{Kept, Space, kept-earlier, puts-plain, space-first, space-last, space-part}
use Rattle.psm_codegen.proofs.Scoping.{AllCursors, Given, Seen, all-cursors, between, coded_of, seen-loop}
use Rattle.psm_codegen.proofs.SimplesStand.{simple_stands}
use Rattle.psm_codegen.proofs.Standing.{puts_written}
use Rattle.psm_codegen.proofs.StandingSimples.{declares_stand, stored_stands}
use Rattle.psm_codegen.proofs.There.{plain_there, raising_there}

-- the same numbers, up to the same end
counts-as : (from to : ℕ) {xs ys : List ℕ} → xs ≡ ys → CountsUp from xs to → CountsUp from ys to
counts-as from to e n = subst (λ ns. CountsUp from ns to) e n

eq-below : (k n j : ℕ) → k ≤ n → n < j → nat_eq k j ≡ false
eq-below k n j h l = grind (arith, h, l)

module _ (file : ResolvedFile) (code : RawCode) (routine : ResolvedRoutine) (r : RawRoutine) (given : Given file code routine r) where
  puts : {context resume : ℕ} {k : Letter} {e : ResolvedExpr} {w v : Written} → Writes (known_of file routine) context resume k e w v → StandsOutside file routine e → Begins v r → Puts file code r context resume e (here w) (here v)
  puts {context} {resume} d o b = puts_written file code r (known_of file routine) context resume (known_functions file routine) d o b

  -- at equal lines
  to-end : {env : Env} {s : ResolvedStatement} {pc m n : ℕ} → m ≡ n → Stands file code routine r env s pc m → Stands file code routine r env s pc n
  to-end {env} {s} {pc} e x = subst (λ i. Stands file code routine r env s pc i) e x

  from-line : {env : Env} {ss : List ResolvedStatement} {end m n : ℕ} → m ≡ n → StandAll file code routine r env ss m end → StandAll file code routine r env ss n end
  from-line {env} {ss} {end} e x = subst (λ i. StandAll file code routine r env ss i end) e x

  from-puts : {context resume : ℕ} {t : ResolvedExpr} {end m n : ℕ} → m ≡ n → Puts file code r context resume t m end → Puts file code r context resume t n end
  from-puts {context} {resume} {t} {end} e x = subst (λ i. Puts file code r context resume t i end) e x

  at-line : {context resume : ℕ} {i : Instruction} {m n : ℕ} → m ≡ n → Raising r context resume m i → Raising r context resume n i
  at-line {context} {resume} {i} e x = subst (λ n. Raising r context resume n i) e x

  from-branches : {env : Env} {out : ℕ} {bs : List ResolvedBranch} {end m n : ℕ} → m ≡ n → Branches file code routine r env out bs m end → Branches file code routine r env out bs n end
  from-branches {env} {out} {bs} {end} e x = subst (λ i. Branches file code routine r env out bs i end) e x

  from-compares : {env : Env} {out : ℕ} {bs : List ResolvedBranch} {end m n : ℕ} → m ≡ n → Compares file code routine r env out bs m end → Compares file code routine r env out bs n end
  from-compares {env} {out} {bs} {end} e x = subst (λ i. Compares file code routine r env out bs i end) e x

  from-else : {env : Env} {ss : List ResolvedStatement} {end m n : ℕ} → m ≡ n → Otherwise file code routine r env ss m end → Otherwise file code routine r env ss n end
  from-else {env} {ss} {end} e x = subst (λ i. Otherwise file code routine r env ss i end) e x

  at-plain : {i : Instruction} {m n : ℕ} → m ≡ n → Plain r m i → Plain r n i
  at-plain {i} e x = subst (λ n. Plain r n i) e x

  else-to : {env : Env} {ss : List ResolvedStatement} {pc m n : ℕ} → m ≡ n → Otherwise file code routine r env ss pc m → Otherwise file code routine r env ss pc n
  else-to {env} {ss} {pc} e x = subst (λ i. Otherwise file code routine r env ss pc i) e x

  -- the lines of FOR around its list
  for-lines : (env : Env) {s : ResolvedStatement} (p a c : FunctionBuilder) (level : ℕ) (head : ResolvedFor) (ss : List ResolvedStatement) {inside : Numbers} → out-ResolvedStatement s ≡ layers.For level head ss → WritesCursors (known_of file routine) (head.cursor ∷ []) p a
      → IsForOf r env level (next_context a) (suc (at c)) head.cursor inside → Kept (block_entered env.context false (suc (at c)) (head.cursor.number ∷ []) a) r
      → Kept (fetched (next_context a) (suc (at c)) head (opened (next_context a) (suc (at c)) head.cursor (block_entered env.context false (suc (at c)) (head.cursor.number ∷ []) a))) r
      → Kept (jumped (next_context a) (suc (suc (at p))) c) r → Kept (with_plain (next_context a) (instruction.Exit (next_context a)) (jumped (next_context a) (suc (suc (at p))) c)) r
      → StandAll file code routine r (inside_loop level (suc (at c)) (suc (suc (at p))) (env_of.with_cursor head.cursor (over_rows (next_context a) inside env))) ss
      (at (fetched (next_context a) (suc (at c)) head (opened (next_context a) (suc (at c)) head.cursor (block_entered env.context false (suc (at c)) (head.cursor.number ∷ []) a)))) (at c)
      → Stands file code routine r env s (at p) (at (with_plain (next_context a) (instruction.Exit (next_context a)) (jumped (next_context a) (suc (suc (at p))) c)))
  for-lines env {s} p a c level head ss {inside} e cursors is kept-entered kept-got kept-back kept-end body =
      let k = next_context a in
      let exit = suc (at c) in
      let turn = suc (suc (at p)) in
      let number = head.cursor.number in
      let entered = block_entered env.context false exit (number ∷ []) a in
      let asked = opened k exit head.cursor entered in
      let letters = letters_at asked.letters number in
      let first = takes k exit (instruction.Open number) 0 entered.code in
      let next = puts_of k exit (instruction.Next number exit) 0 letters asked.code in
      let store : ℕ → Instruction = λ slot. instruction.Store slot in
      let stored-begins = begins-earlier (grows-stored k exit store head.slots next) kept-got.code in
      let asked-begins = begins-earlier (grows-puts k exit (instruction.Next number exit) 0 letters {w = asked.code}) stored-begins in
      let first-begins = begins-earlier (grows-plain k instruction.Turn {w = first}) asked-begins in
      let e0 = cursors-at cursors in
      let e1 = here-plain env.context (instruction.Enter k) a.code ∙ ap suc e0 in
      let e2 = here-takes k exit (instruction.Open number) 0 entered.code ∙ ap suc e1 in
      let e3 = here-plain k instruction.Turn first ∙ ap suc e2 in
      let e4 = here-puts k exit (instruction.Next number exit) 0 letters asked.code ∙ ap suc e3 in
      let e5 = here-plain k (instruction.Operation (op.Jump turn)) c.code in
      to-end (sym (here-plain k (instruction.Exit k) (jumped k turn c).code ∙ ap suc e5))
      (stands.for_ level k head ss inside e is (at-plain e0 (plain_there env.context a.code kept-entered.code.lines)) (at-line e1 (raising_there entered.code first-begins.lines)) (at-plain e2 (plain_there k first asked-begins.lines))
      (at-line e3 (raising_there asked.code stored-begins.lines)) (subst (λ i. stands.Stores r k exit store head.slots i (at (fetched k exit head asked))) e4 (stored_stands k exit store head.slots next kept-got.code)) body
      (plain_there k c.code kept-back.code.lines) (at-plain e5 (plain_there k (jumped k turn c).code kept-end.code.lines)))

  mutual
    pub statement-stands : (env : Env) {enclosing : List EnclosingBlock} {block_scope : BlockScope} {s : ResolvedStatement} {p q : FunctionBuilder} → WritesStatement (known_of file routine) env.context enclosing s p q → Seen r env enclosing block_scope → Space r env.context env.visible env.free p q
        → Fits file routine block_scope s → CountsUp (length p.cursors) (cursors_of s) (length q.cursors) → Stands file code routine r env s (at p) (at q)
    statement-stands env {s = s} (written.compound {p = p} {w = w} {a = a} {b = b} {c = c} level block e declarations cursors handlers statements) seen space f n =
        let k = next_context a in
        let o = out-ResolvedBlock block in
        let fit = of_compound (fits-as f e) in
        let entered = block_entered env.context o.atomic (at c) (numbers_of o.cursors) a in
        let opened_parts = entered_block env.context (at c) (at b) block a in
        let start = grown-on (grown-code (grows-declares declarations)) (grown-cursors cursors) in
        let before = before-list (suc (at c)) (at c) (at b) block declarations cursors in
        let pass : Grown no_context entered opened_parts = grown-passed k (at b) o.handlers entered in
        let inside = grown-handlers handlers in
        let leave : Grown no_context c (with_plain k (instruction.Exit k) c) = grown-plain k (instruction.Exit k) {p = c} in
        let following = grown-on (grown-all statements) leave in
        let there = block-entered env (at c) (at b) block space start handlers following in
        let mine = counts-split (length p.cursors) (numbers_of o.cursors) (cursors_in_handlers o.handlers ++ cursors_in o.statements) (length c.cursors)
        (counts-as (length p.cursors) (length c.cursors) (cursors-out s e ∙ block_cursors-out block) n) (length opened_parts.cursors) (omega (arith, ap length (passed-cursors k (at b) o.handlers entered), counted-cursors cursors)) in
        let others = counts-split (length opened_parts.cursors) (cursors_in_handlers o.handlers) (cursors_in o.statements) (length c.cursors) mine.1 (length b.cursors) (counted-handlers handlers) in
        let kept-open = kept-earlier inside (kept-earlier following space.kept) in
        let kept-entered = kept-earlier pass kept-open in
        let kept = kept-earlier {but = no_context} (grown-entered env.context o.atomic (at c) (numbers_of o.cursors) a) kept-entered in
        let own = cursors-stand file routine cursors kept fit.cursors (length opened_parts.cursors) mine.0 in
        let low = low-context start in
        let high = high-context env.context (at c) (at b) block a {but = no_context} grown-here in
        let higher = begins-length inside.contexts in
        let v = the_block env level block k (coded_of handlers) (length opened_parts.cursors) (length b.cursors) (length c.cursors) in
        let list = space-first leave (λ j l. refl) (space-last (grown-on (grown-any before) inside) (λ j l. eq-below k (length b.contexts) j (le_trans high higher) l) space) in
        to-end (sym (here-plain k (instruction.Exit k) c.code))
        (stands.compound level block v e
        (subst (λ i. stands.Declares file code r env.context (suc (at c)) o.declarations (at p) i) (sym (cursors-at cursors)) (declares_stand file code r (known_of file routine) env.context (suc (at c)) (known_functions file routine) declarations fit.defaults (kept-earlier {but = no_context} (grown-cursors cursors) kept).code))
        (plain_there env.context a.code kept-entered.code.lines)
        (block-is env level block k (at c) (coded_of handlers) (length opened_parts.cursors) (length b.cursors) (length c.cursors) seen space fit.new low there mine.0 (begins-length before.cursors) (begins-length inside.cursors) (begins-length (grown-all statements).cursors) (le_refl (length c.cursors)))
        (handlers-stand env block v (at c) handlers seen there (ap (λ l. o.cursors ++ l) seen.cursors) (all-cursors r o.cursors env.cursors own seen.stand) (space-in k high (space-part before following space)) fit.handlers others.0)
        (subst (λ i. GoesTo r (at b) i) (here-plain env.context (instruction.Enter k) a.code) (goes-to k (at b) o.handlers entered handlers refl kept-open))
        (all-stand (inside_block v (at c) env) statements (seen-block env level block k (at c) (coded_of handlers) (length opened_parts.cursors) (length b.cursors) (length c.cursors) seen there own)
        (space-with v (le_trans high higher) (space-in k (le_trans high higher) list)) fit.statements others.1)
        (plain_there k c.code space.kept.code.lines))
    statement-stands env {s = s} (written.loop {p = p} {c = c} level ss e all) seen space f n =
        let turn : Grown no_context p (with_plain env.context instruction.Turn p) = grown-plain env.context instruction.Turn {p = p} in
        let back : Grown no_context c (jumped env.context (at p) c) = grown-plain env.context (instruction.Operation (op.Jump (at p))) {p = c} in
        let body = all-stand (inside_loop level (suc (at c)) (at p) env) all (seen-loop level (suc (at c)) (at p) seen) (space-part turn back space) (of_loop (fits-as f e)) (counts-as (length p.cursors) (length c.cursors) (cursors-out s e) n) in
        let kept = kept-earlier (grown-on (grown-all all) back) space.kept in
        to-end (sym (here-plain env.context (instruction.Operation (op.Jump (at p))) c.code))
        (stands.loop level ss e (plain_there env.context p.code kept.code.lines) (from-line (here-plain env.context instruction.Turn p.code) body) (plain_there env.context c.code space.kept.code.lines))
    statement-stands env {s = s} (written.while {p = p} {c = c} {w = w} level test ss e t all) seen space f n =
        let start = with_plain env.context instruction.Turn p in
        let exit = suc (at c) in
        let tested = with_code (unless_true env.context exit exit w) p in
        let unless = grows-taken env.context exit (op.JumpUnlessTrue exit) {w = w} in
        let turn : Grown no_context p start = grown-plain env.context instruction.Turn {p = p} in
        let asked : Grown no_context start tested = grown-code (grows-on (grows-writes t) unless) in
        let back : Grown no_context c (jumped env.context (at p) c) = grown-plain env.context (instruction.Operation (op.Jump (at p))) {p = c} in
        let both = of_while (fits-as f e) in
        let body = all-stand (inside_loop level exit (at p) env) all (seen-loop level exit (at p) seen) (space-part (grown-on turn asked) back space) both.1 (counts-as (length p.cursors) (length c.cursors) (cursors-out s e) n) in
        let kept = kept-earlier (grown-on (grown-all all) back) space.kept in
        let read = begins-earlier unless kept.code in
        let first = begins-earlier (grows-writes t) read in
        to-end (sym (here-plain env.context (instruction.Operation (op.Jump (at p))) c.code))
        (stands.while level test ss e (plain_there env.context p.code first.lines) (from-puts (here-plain env.context instruction.Turn p.code) (puts t both.0 read)) (raising_there w kept.code.lines)
        (from-line (here-taken env.context exit (op.JumpUnlessTrue exit) w) body) (plain_there env.context c.code space.kept.code.lines))
    statement-stands env {s = s} (written.repeat {p = p} {c = c} {w = w} level ss until e all t) seen space f n =
        let start = with_plain env.context instruction.Turn p in
        let exit = suc (here w) in
        let unless = grows-taken env.context exit (op.JumpUnlessTrue (at p)) {w = w} in
        let turn : Grown no_context p start = grown-plain env.context instruction.Turn {p = p} in
        let asked : Grown no_context c (with_code (unless_true env.context exit (at p) w) c) = grown-code (grows-on (grows-writes t) unless) in
        let both = of_repeat (fits-as f e) in
        let body = all-stand (inside_loop level exit (at c) env) all (seen-loop level exit (at c) seen) (space-part turn asked space) both.0 (counts-as (length p.cursors) (length c.cursors) (cursors-out s e) n) in
        let kept = kept-earlier (grown-on (grown-all all) asked) space.kept in
        to-end (sym (here-taken env.context exit (op.JumpUnlessTrue (at p)) w))
        (stands.repeat level ss until e (plain_there env.context p.code kept.code.lines) (from-line (here-plain env.context instruction.Turn p.code) body) (puts t both.1 (begins-earlier unless space.kept.code)) (raising_there w space.kept.code.lines))
    statement-stands env {s = s} (written.if_ {p = p} {b = b} {c = c} branches otherwise e bs all) seen space f n =
        let parts = counts-split (length p.cursors) (cursors_in_branches branches) (cursors_in otherwise) (length c.cursors) (counts-as (length p.cursors) (length c.cursors) (cursors-out s e) n) (length b.cursors) (counted-branches bs) in
        let both = of_if (fits-as f e) in
        stands.if_ branches otherwise e (branches-stand env bs seen (space-first (grown-all all) (λ k l. refl) space) both.0 parts.0) (all-stand env all seen (space-last (grown-branches bs) (λ k l. refl) space) both.1 parts.1)
    statement-stands env {s = s} (written.case {p = p} {b = b} {c = c} branches otherwise e bs x) seen space f n =
        let parts = counts-split (length p.cursors) (cursors_in_branches branches) (cursors_in otherwise) (length c.cursors) (counts-as (length p.cursors) (length c.cursors) (cursors-out s e) n) (length b.cursors) (counted-branches bs) in
        let all = of_case (fits-as f e) in
        stands.case branches otherwise e (branches-stand env bs seen (space-first (grown-else x) (λ k l. refl) space) all.1 parts.0) (else-stands env x seen (space-last (grown-branches bs) (λ k l. refl) space) all.2 parts.1)
    statement-stands env {s = s} (written.compared {p = p} {b = b} {c = c} {w = w} operand branches otherwise e t bs x) seen space f n =
        let parts = counts-split (length p.cursors) (cursors_in_branches branches) (cursors_in otherwise) (length c.cursors) (counts-as (length p.cursors) (length c.cursors) (cursors-out s e) n) (length b.cursors) (counted-comparisons bs) in
        let all = of_case (fits-as f e) in
        let given_operand : Grown no_context p (with_code w p) = grown-code (grows-writes t) in
        let drop : Grown no_context b (with_code (taken env.context (at c) op.Drop b.code) b) = grown-code (grows-taken env.context (at c) op.Drop {w = b.code}) in
        let last = kept-earlier (grown-else x) space.kept in
        let kept = kept-earlier (grown-on (grown-comparisons bs) (grown-on drop (grown-else x))) space.kept in
        stands.compared operand branches otherwise e (puts t (of_just all.0) kept.code) (comparisons-stand env bs seen (space-part given_operand (grown-on drop (grown-else x)) space) all.1 parts.0) (raising_there b.code last.code.lines)
        (from-else (here-taken env.context (at c) op.Drop b.code) (else-stands env x seen (space-last (grown-on given_operand (grown-on (grown-comparisons bs) drop)) (λ k l. refl) space) all.2 parts.1))
    statement-stands env {s = s} (written.for_ {p = p} {a = a} {c = c} level head ss e cursors all) seen space f n =
        let k = next_context a in
        let exit = suc (at c) in
        let turn = suc (suc (at p)) in
        let x = head.cursor in
        let entered = block_entered env.context false exit (x.number ∷ []) a in
        let asked = opened k exit x entered in
        let got = fetched k exit head asked in
        let fit = of_for (fits-as f e) in
        let numbers = counts-as (length p.cursors) (length c.cursors) (cursors-out s e) n in
        let one : length a.cursors ≡ suc (length p.cursors) = omega (arith, counted-cursors cursors) in
        let start : Grown no_context p a = grown-cursors cursors in
        let enter : Grown no_context a entered = grown-entered env.context false exit (x.number ∷ []) a in
        let before : Grown no_context entered got = grown-on (grown-opened k exit x entered) (grown-fetched k exit head asked) in
        let back : Grown no_context c (jumped k turn c) = grown-plain k (instruction.Operation (op.Jump turn)) {p = c} in
        let leave : Grown no_context (jumped k turn c) (with_plain k (instruction.Exit k) (jumped k turn c)) = grown-plain k (instruction.Exit k) {p = jumped k turn c} in
        let following = grown-on back leave in
        let inner = grown-on before (grown-on (grown-all all) following) in
        let kept-back = kept-earlier leave space.kept in
        let kept-got = kept-earlier (grown-on (grown-all all) following) space.kept in
        let kept-entered = kept-earlier before kept-got in
        let is = (cursors-stand file routine cursors (kept-earlier enter kept-entered) (fit.1, tt) (suc (length p.cursors)) (numbers.0, refl)).0 in
        let long : length a.cursors ≤ length c.cursors = begins-length (grown-all all).cursors in
        let high : k ≤ length got.contexts = le_trans (omega (arith, next-entered env.context false exit (x.number ∷ []) a)) (begins-length before.contexts) in
        let inside = between (length a.cursors) (length c.cursors) in
        let seen-list = seen-for env level x k exit turn inside seen (for-searches env exit x.number seen space start inner) is in
        let body = all-stand (inside_loop level exit turn (env_of.with_cursor x (over_rows k inside env))) all seen-list (space-in k high (space-part (grown-on start (grown-on enter before)) following space)) fit.2
        (subst (λ i. CountsUp i (cursors_in ss) (length c.cursors)) (sym one) numbers.1) in
        for-lines env p a c level head ss e cursors (for-is env level exit x (length c.cursors) seen space fit.0 start inner is numbers.0 one long (le_refl (length c.cursors))) kept-entered kept-got kept-back space.kept body
    statement-stands env {q = q} (written.simple s e x) seen space f n = stands.simple s e (simple_stands file code routine r given env (at q) x refl seen space.kept (of_simple (fits-as f e)))

    pub all-stand : (env : Env) {enclosing : List EnclosingBlock} {block_scope : BlockScope} {ss : List ResolvedStatement} {p q : FunctionBuilder} → WritesStatements (known_of file routine) env.context enclosing ss p q → Seen r env enclosing block_scope → Space r env.context env.visible env.free p q
        → AllFit file routine block_scope ss → CountsUp (length p.cursors) (cursors_in ss) (length q.cursors) → StandAll file code routine r env ss (at p) (at q)
    all-stand env written.none seen space f n = stands.none
    all-stand env (written.more {s = s} {ss = ss} {p = p} {b = b} {c = c} x xs) seen space f n =
        let parts = counts-split (length p.cursors) (cursors_of s) (cursors_in ss) (length c.cursors) n (length b.cursors) (counted x) in
        let both = of_more f in
        stands.more (statement-stands env x seen (space-first (grown-all xs) (λ k l. refl) space) both.0 parts.0) (all-stand env xs seen (space-last (grown-statement x) (λ k l. refl) space) both.1 parts.1)

    branches-stand : (env : Env) {enclosing : List EnclosingBlock} {block_scope : BlockScope} {out : ℕ} {bs : List ResolvedBranch} {p q : FunctionBuilder} → WritesBranches (known_of file routine) env.context enclosing out bs p q → Seen r env enclosing block_scope → Space r env.context env.visible env.free p q
        → BranchesFit file routine block_scope bs → CountsUp (length p.cursors) (cursors_in_branches bs) (length q.cursors) → Branches file code routine r env out bs (at p) (at q)
    branches-stand env written.no_branch seen space f n = stands.no_branch
    branches-stand env {out = out} (written.branch {x = x} {xs = xs} {p = p} {b = b} {c = c} {w = w} t all bs) seen space f n =
        let fit = of_branch f in
        let goes = op.JumpUnlessTrue (suc (at b)) in
        let unless = grows-taken env.context out goes {w = w} in
        let asked : Grown no_context p (with_code (unless_true env.context out (suc (at b)) w) p) = grown-code (grows-on (grows-writes t) unless) in
        let jump : Grown no_context b (jumped env.context out b) = grown-plain env.context (instruction.Operation (op.Jump out)) {p = b} in
        let rest = grown-on jump (grown-branches bs) in
        let parts = counts-split (length p.cursors) (cursors_of_branch x) (cursors_in_branches xs) (length c.cursors) n (length b.cursors) (omega (arith, ap length (branch_cursors-out x), counted-all all)) in
        let body = all-stand env all seen (space-part asked rest space) fit.1 (counts-as (length p.cursors) (length b.cursors) (branch_cursors-out x) parts.0) in
        let others = branches-stand env bs seen (space-last (grown-on asked (grown-on (grown-all all) jump)) (λ k l. refl) space) fit.2 parts.1 in
        let last = kept-earlier (grown-branches bs) space.kept in
        let kept = kept-earlier (grown-on (grown-all all) rest) space.kept in
        stands.branch (puts t fit.0 (begins-earlier unless kept.code)) (raising_there w kept.code.lines) (from-line (here-taken env.context out goes w) body) (plain_there env.context b.code last.code.lines)
        (from-branches (here-plain env.context (instruction.Operation (op.Jump out)) b.code) others)

    comparisons-stand : (env : Env) {enclosing : List EnclosingBlock} {block_scope : BlockScope} {out : ℕ} {bs : List ResolvedBranch} {p q : FunctionBuilder} → WritesComparisons (known_of file routine) env.context enclosing out bs p q → Seen r env enclosing block_scope → Space r env.context env.visible env.free p q
        → BranchesFit file routine block_scope bs → CountsUp (length p.cursors) (cursors_in_branches bs) (length q.cursors) → Compares file code routine r env out bs (at p) (at q)
    comparisons-stand env written.no_comparison seen space f n = stands.no_more
    comparisons-stand env {out = out} (written.comparison {x = x} {xs = xs} {p = p} {b = b} {c = c} {w = w} t all bs) seen space f n =
        let fit = of_branch f in
        let k = last_letter p.code in
        let goes = op.JumpUnlessTrue (suc (at b)) in
        let copied = applied env.context out op.Duplicate 0 k p.code in
        let equal = applied env.context out op.Equal 2 B w in
        let unless = unless_true env.context out (suc (at b)) equal in
        let tested = with_code (taken env.context out op.Drop unless) p in
        let drop = grows-taken env.context out op.Drop {w = unless} in
        let turn = grows-taken env.context out goes {w = equal} in
        let same = grows-applied env.context out op.Equal 2 B {w = w} in
        let asked : Grown no_context p tested = grown-code (grows-on (grows-applied env.context out op.Duplicate 0 k {w = p.code}) (grows-on (grows-writes t) (grows-on same (grows-on turn drop)))) in
        let jump : Grown no_context b (with_code (applied env.context out (op.Jump out) 0 k b.code) b) = grown-code (grows-applied env.context out (op.Jump out) 0 k {w = b.code}) in
        let rest = grown-on jump (grown-comparisons bs) in
        let parts = counts-split (length p.cursors) (cursors_of_branch x) (cursors_in_branches xs) (length c.cursors) n (length b.cursors) (omega (arith, ap length (branch_cursors-out x), counted-all all)) in
        let body = all-stand env all seen (space-part asked rest space) fit.1 (counts-as (length p.cursors) (length b.cursors) (branch_cursors-out x) parts.0) in
        let others = comparisons-stand env bs seen (space-last (grown-on asked (grown-on (grown-all all) jump)) (λ k l. refl) space) fit.2 parts.1 in
        let last = kept-earlier (grown-comparisons bs) space.kept in
        let kept = kept-earlier (grown-on (grown-all all) rest) space.kept in
        let third = begins-earlier drop kept.code in
        let second = begins-earlier turn third in
        let read = begins-earlier same second in
        let first = begins-earlier (grows-writes t) read in
        let one = here-applied env.context out op.Equal 2 B w in
        let two = here-taken env.context out goes equal ∙ ap suc one in
        stands.compare (raising_there p.code first.lines) (from-puts (here-applied env.context out op.Duplicate 0 k p.code) (puts t fit.0 read)) (raising_there w second.lines) (at-line one (raising_there equal third.lines)) (at-line two (raising_there unless kept.code.lines))
        (from-line (here-taken env.context out op.Drop unless ∙ ap suc two) body) (puts-plain env.context out b.code last.code.lines) (from-compares (here-applied env.context out (op.Jump out) 0 k b.code) others)

    else-stands : (env : Env) {enclosing : List EnclosingBlock} {block_scope : BlockScope} {ss : List ResolvedStatement} {p q : FunctionBuilder} → WritesElse (known_of file routine) env.context enclosing ss p q → Seen r env enclosing block_scope → Space r env.context env.visible env.free p q
        → AllFit file routine block_scope ss → CountsUp (length p.cursors) (cursors_in ss) (length q.cursors) → Otherwise file code routine r env ss (at p) (at q)
    else-stands env (written.no_else {p = p}) seen space f n = else-to (sym (here-takes env.context (suc (at p)) instruction.NoCase 0 p.code)) (stands.no_else (raising_there p.code space.kept.code.lines))
    else-stands env (written.else_all all) seen space f n = stands.else_all (all-stand env all seen space f n)

    handlers-stand : (env : Env) {enclosing : List EnclosingBlock} {block_scope : BlockScope} {coded : List Numbered} (block : ResolvedBlock) (v : Visible) (exit : ℕ) {hs : List ResolvedHandler} {p q : FunctionBuilder} (d : WritesHandlers (known_of file routine) v.context hs p q) → Seen r env enclosing block_scope
        → Entered r env v.context (code_of_block block exit) coded → v.cursors ≡ (out-ResolvedBlock block).cursors ++ block_scope.cursors → AllCursors r v.cursors → Space r v.context env.visible v.acting p q
        → HandlersFit file routine (in_action (out-ResolvedBlock block).cursors block_scope) (out-ResolvedBlock block).atomic hs → CountsUp (length p.cursors) (cursors_in_handlers hs) (length q.cursors) → Handles file code routine r env.visible v hs (coded_of d)
    handlers-stand env block v exit written.no_handler seen there same cursors space f n = stands.no_handler
    handlers-stand env block v exit (written.handler {h = h} {hs = hs} {p = p} {b = b} {c = c} action others) seen there same cursors space f n =
        let fit = of_handler f in
        let kind = (out-ResolvedHandler h).kind in
        let values = (out-ResolvedHandler h).values in
        let k = next_context p in
        let low = space.context in
        let more = grown-handler v.context kind values p in
        let ends : Grown (nat_eq v.context) b (with_plain k (instruction.EndAction (length p.handlers)) b) = grown-plain k (instruction.EndAction (length p.handlers)) {p = b} in
        let rest = grown-on ends (grown-handlers others) in
        let here = space-first rest (λ j l. eq-below v.context (length p.contexts) j low l) space in
        let next = next-handler v.context kind values p in
        let inside = space-last more (λ j l. eq-below v.context (length p.contexts) j low (omega (arith, l, next))) here in
        let kept = kept-earlier (grown-statement action) here.kept in
        let parts = counts-split (length p.cursors) (cursors_of_handler h) (cursors_in_handlers hs) (length c.cursors) n (length b.cursors) (omega (arith, ap length (handler_cursors-out h), counted action)) in
        let body = statement-stands (env_of.in_action v k env.visible) action (seen-action env v (code_of_block block exit) (out-ResolvedBlock block).cursors h p seen there same cursors low kept)
        (space-at k (omega (arith, next)) inside) fit.2 (counts-as (length p.cursors) (length b.cursors) (handler_cursors-out h) parts.0) in
        let following = space-last (grown-on more (grown-on (grown-any (grown-statement action)) ends)) (λ j l. eq-below v.context (length b.contexts) j (le_trans low (begins-length (grown-on more (grown-any (grown-statement action))).contexts)) l) space in
        stands.handler k (handler-is env v (code_of_block block exit) h p seen there low kept fit.0 fit.1) body (plain_there k b.code (kept-earlier (grown-handlers others) space.kept).code.lines)
        (handlers-stand env block v exit others seen there same cursors following fit.3 parts.1)
