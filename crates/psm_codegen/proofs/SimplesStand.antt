-- The lines that are written for a simple statement stand for it.
use Rattle.std.proofs.Common.{◌≡◌, ◌<◌, ℕ, zero, suc, Bool, true, false, ◌||◌, List, [], ◌∷◌, ◌++◌, find, length, map, nat_eq, slice_get, Option, Some, None, option_map, cond, if◌then◌else◌, ap, sym, refl, ◌∙◌, subst, arith}
use Rattle.psm_cond.specs.declared.handlers.Declared.TheVariants as declares
use Rattle.psm_exprcode.specs.declared.op.Letter.TheVariants.{N}
use Rattle.psm_exprcode.specs.declared.op.Op.TheVariants as op
use Rattle.psm_resolved.specs.declared.file.ResolvedFile.{ResolvedFile}
use Rattle.psm_resolved.specs.declared.file.ResolvedRoutine.{ResolvedRoutine}
use Rattle.psm_resolved.specs.declared.statement.ResolvedArgument.{ResolvedArgument}
use Rattle.psm_resolved.specs.declared.statement.ResolvedCondition.{ResolvedCondition}
use Rattle.psm_resolved.specs.declared.statement.ResolvedCondition.TheVariants as conditions
use Rattle.psm_resolved.specs.declared.statement.ResolvedCursor.{ResolvedCursor}
use Rattle.psm_resolved.specs.declared.statement.ResolvedNumber.{ResolvedNumber}
use Rattle.psm_resolved.specs.declared.statement.ResolvedNumber.TheVariants as numbers
use Rattle.psm_resolved.specs.declared.statement.ResolvedSet.{ResolvedSet}
use Rattle.psm_resolved.specs.declared.statement.ResolvedSignal.{ResolvedSignal}
use Rattle.psm_resolved.specs.declared.statement.ResolvedSimple.{ResolvedSimple}
use Rattle.psm_resolved.specs.declared.statement.ResolvedSimple.TheVariants as simples
use Rattle.psm_resolved.specs.declared.statement.ResolvedWhere.{ResolvedWhere}
use Rattle.psm_code.specs.declared.code.Plan.{Plan}
use Rattle.psm_code.specs.declared.code.Plan.TheVariants as plans
use Rattle.psm_code.specs.declared.code.RawCode.{RawCode}
use Rattle.psm_code.specs.declared.code.RawRoutine.{RawRoutine}
use Rattle.psm_code.specs.declared.instruction.Instruction.{Instruction}
use Rattle.psm_code.specs.declared.instruction.Instruction.TheVariants as instruction
use Rattle.psm_simulation.specs.Changes.{PutsRows}
use Rattle.psm_simulation.specs.Cursors.{IsCursor, Sees}
use Rattle.psm_simulation.specs.Env.{Env, IfElse, Iterates, Leaves, Plain, Raising}
use Rattle.psm_simulation.specs.Expressions.{Puts}
use Rattle.psm_simulation.specs.Scheme.{IsDeclared, Simple, number_instruction, slots_given}
use Rattle.psm_simulation.specs.Scheme as stands
use Rattle.psm_exprgen.specs.declared.known.Known.{Known}
use Rattle.psm_exprgen.specs.Queries.{item_letters}
use Rattle.psm_exprgen.specs.Writing.{Begins, BeginsWith}
use Rattle.psm_exprgen.specs.Written.{Written, applied, here, letters_at, plain, puts, takes, with_query}
use Rattle.psm_exprgen.proofs.Counts.{here-applied, here-plain, here-puts, here-takes}
use Rattle.psm_exprgen.proofs.Growth.{begins-earlier, grows-puts, grows-query, grows-takes, grows-writes}
use Rattle.psm_codegen.specs.declared.enclosing.EnclosingBlock.{EnclosingBlock}
use Rattle.psm_codegen.specs.declared.enclosing.EnclosingBlock.TheVariants.{Loop, Block as WithinBlock, Rows}
use Rattle.psm_codegen.specs.Files.{known_of}
use Rattle.psm_codegen.specs.FunctionBuilder.{FunctionBuilder, at, iterates, leaves, with_code}
use Rattle.psm_codegen.specs.Simples.{CallArguments, Deletes, Signals, Updates, WritesSimple, changed, cleared, condition_number, declared_with, more_operands, number_op, procedure_number, retrieved, stored}
use Rattle.psm_codegen.specs.Simples as written
use Rattle.psm_codegen.specs.Standing.{ConditionFits, SetsFit, BlockScope, SignalFits, SimpleFits, WhereFits, is_among, outermost}
use Rattle.psm_codegen.proofs.GrowthSimples.{grows-call, grows-condition_items, grows-iterates, grows-leaves, grows-retrieved, grows-rows, grows-signals, grows-stored}
use Rattle.psm_codegen.proofs.Numbers.{known_functions, known_procedures}
use Rattle.psm_codegen.proofs.Placing.{Kept}
use Rattle.psm_codegen.proofs.Querying.{delete_at_stands, delete_stands, query_stands, update_at_stands, update_stands}
use Rattle.psm_codegen.proofs.Scoping.{AllCursors, Given, Seen, enclosing_of, labels_of, loops_of}
use Rattle.psm_codegen.proofs.Standing.{puts_written}
use Rattle.psm_codegen.proofs.StandingSimples.{call_stands, condition_items_stand, procedure_stands, rows_stand, signals_stand, statement_items_stand, stored_stands}
use Rattle.psm_codegen.proofs.There.{plain_there, raising_there, there_at}

-- ---- LEAVE and ITERATE

leaves_stand : {r : RawRoutine} (enclosing : List EnclosingBlock) (level context : ℕ) (w : Written) → is_among level (labels_of enclosing) ≡ true → Begins (leaves enclosing level context w) r → Leaves r (map enclosing_of enclosing) level (here w)
leaves_stand [] level context w e b = absurd (cc)
leaves_stand {r} (Loop l out again ∷ enclosing) level context w e b = by (nat_eq level l) e b (λ e b. leaves_stand enclosing level context w e b) where
  by : (t : Bool) → t || is_among level (labels_of enclosing) ≡ true → Begins (if t then plain context (instruction.Operation (op.Jump out)) w else leaves enclosing level context w) r
      → (is_among level (labels_of enclosing) ≡ true → Begins (leaves enclosing level context w) r → Leaves r (map enclosing_of enclosing) level (here w)) → IfElse t (Plain r (here w) (instruction.Operation (op.Jump out))) (Leaves r (map enclosing_of enclosing) level (here w))
  by true e b rec = plain_there context w b.lines
  by false e b rec = rec e b
leaves_stand {r} (WithinBlock l inner outer exit ∷ enclosing) level context w e b = by (nat_eq level l) e b (λ e b. leaves_stand enclosing level outer (plain context (instruction.Exit inner) w) e b) where
  left : Written
  left = plain context (instruction.Exit inner) w

  by : (t : Bool) → t || is_among level (labels_of enclosing) ≡ true → Begins (if t then plain context (instruction.Operation (op.Jump exit)) w else leaves enclosing level outer left) r
      → (is_among level (labels_of enclosing) ≡ true → Begins (leaves enclosing level outer left) r → Leaves r (map enclosing_of enclosing) level (here left))
      → IfElse t (Plain r (here w) (instruction.Operation (op.Jump exit))) (Plain r (here w) (instruction.Exit inner) × Leaves r (map enclosing_of enclosing) level (suc (here w)))
  by true e b rec = plain_there context w b.lines
  by false e b rec = (plain_there context w (begins-earlier (grows-leaves enclosing level outer left) b).lines, subst (Leaves r (map enclosing_of enclosing) level) (here-plain context (instruction.Exit inner) w) (rec e b))
leaves_stand {r} (Rows inner outer ∷ enclosing) level context w e b =
    let left = plain context (instruction.Exit inner) w in
    (plain_there context w (begins-earlier (grows-leaves enclosing level outer left) b).lines, subst (Leaves r (map enclosing_of enclosing) level) (here-plain context (instruction.Exit inner) w) (leaves_stand enclosing level outer left e b))

iterates_stand : {r : RawRoutine} (enclosing : List EnclosingBlock) (level context : ℕ) (w : Written) → is_among level (loops_of enclosing) ≡ true → Begins (iterates enclosing level context w) r → Iterates r (map enclosing_of enclosing) level (here w)
iterates_stand [] level context w e b = absurd (cc)
iterates_stand {r} (Loop l out again ∷ enclosing) level context w e b = by (nat_eq level l) e b (λ e b. iterates_stand enclosing level context w e b) where
  by : (t : Bool) → t || is_among level (loops_of enclosing) ≡ true → Begins (if t then plain context (instruction.Operation (op.Jump again)) w else iterates enclosing level context w) r
      → (is_among level (loops_of enclosing) ≡ true → Begins (iterates enclosing level context w) r → Iterates r (map enclosing_of enclosing) level (here w)) → IfElse t (Plain r (here w) (instruction.Operation (op.Jump again))) (Iterates r (map enclosing_of enclosing) level (here w))
  by true e b rec = plain_there context w b.lines
  by false e b rec = rec e b
iterates_stand {r} (WithinBlock l inner outer exit ∷ enclosing) level context w e b =
    let left = plain context (instruction.Exit inner) w in
    (plain_there context w (begins-earlier (grows-iterates enclosing level outer left) b).lines, subst (Iterates r (map enclosing_of enclosing) level) (here-plain context (instruction.Exit inner) w) (iterates_stand enclosing level outer left e b))
iterates_stand {r} (Rows inner outer ∷ enclosing) level context w e b =
    let left = plain context (instruction.Exit inner) w in
    (plain_there context w (begins-earlier (grows-iterates enclosing level outer left) b).lines, subst (Iterates r (map enclosing_of enclosing) level) (here-plain context (instruction.Exit inner) w) (iterates_stand enclosing level outer left e b))

-- ---- conditions

named-at : {A B : Type 0} (f : A → B) (names : List A) (more : List B) (n : ℕ) → n < length names → slice_get (map f names ++ more) n ≡ option_map f (slice_get names n)
named-at f [] more n h = absurd (omega (arith, h))
named-at f (x ∷ xs) more zero h = refl
named-at f (x ∷ xs) more (suc n) h = named-at f xs more n (omega (arith, h))

is-declared : {file : ResolvedFile} {code : RawCode} {routine : ResolvedRoutine} {r : RawRoutine} → Given file code routine r → (c : ResolvedCondition) (p : FunctionBuilder) → BeginsWith (declared_with c p.declared) r.handlers.declared → ConditionFits routine c
    → IsDeclared routine r c (condition_number c p.declared)
is-declared given (conditions.State s) p b f = there_at p.declared b
is-declared {routine = routine} given (conditions.Own n) p b f = (refl, ap (λ l. slice_get l n) given.conditions.is ∙ named-at (λ name. declares.Named name) routine.conditions given.conditions.more n f)

-- ---- cursors

found-cursor : {r : RawRoutine} (number : ℕ) (xs : List ResolvedCursor) (x : ResolvedCursor) → find (λ y. nat_eq y.number number) xs ≡ Some x → AllCursors r xs → IsCursor r x
found-cursor number [] x e a = absurd (cc)
found-cursor {r} number (y ∷ ys) x e a = by (nat_eq y.number number) e (λ f. found-cursor number ys x f a.1) where
  the : Option ResolvedCursor → ResolvedCursor
  the None = x
  the (Some z) = z

  by : (b : Bool) → cond b (Some y) (find (λ y. nat_eq y.number number) ys) ≡ Some x → (find (λ y. nat_eq y.number number) ys ≡ Some x → IsCursor r x) → IsCursor r x
  by true e rec = subst (IsCursor r) (ap the e) a.0
  by false e rec = rec e

sees : {r : RawRoutine} {env : Env} {enclosing : List EnclosingBlock} {block_scope : BlockScope} {number : ℕ} {x : ResolvedCursor} → Seen r env enclosing block_scope → find (λ y. nat_eq y.number number) block_scope.cursors ≡ Some x → Sees r env number x
sees {env = env} {number = number} {x = x} seen e =
    let f : find (λ y. nat_eq y.number number) env.cursors ≡ Some x = ap (find (λ y. nat_eq y.number number)) seen.cursors ∙ e in
    record { first = f; cursor = found-cursor number env.cursors x f seen.stand }

-- ---- GET DIAGNOSTICS

number-is : (number : ResolvedNumber) → instruction.Operation (number_op number) ≡ number_instruction number
number-is (numbers.Constant n) = refl
number-is (numbers.Variable slot) = refl

-- ---- plans

-- the plan has its number, and the line that carries it out is there
change-there : {r : RawRoutine} (context resume : ℕ) (plan : Plan) (count : ℕ) (p : FunctionBuilder) → Kept (changed context resume plan count p) r → resume ≡ at (changed context resume plan count p)
    → (slice_get r.plans (length p.plans) ≡ Some plan) × Raising r context resume (at p) (instruction.Data (length p.plans)) × (suc (at p) ≡ resume)
change-there context resume plan count p kept e = (there_at p.plans kept.plans, raising_there p.code kept.code.lines, sym (here-takes context resume (instruction.Data (length p.plans)) count p.code) ∙ sym e)

module _ (file : ResolvedFile) (code : RawCode) (routine : ResolvedRoutine) (r : RawRoutine) (given : Given file code routine r) (env : Env) (resume : ℕ) where
  abbrev known : Known
  known = known_of file routine

  abbrev context : ℕ
  context = env.context

  -- after CLEAR
  clear-line : (p : FunctionBuilder) → here (cleared context p) ≡ suc (at p)
  clear-line p = here-plain context instruction.Clear p.code

  clear-there : (p : FunctionBuilder) → Begins (cleared context p) r → Plain r (at p) instruction.Clear
  clear-there p b = plain_there context p.code b.lines

  -- after other lines
  after : (i : Instruction) {m n : ℕ} → m ≡ n → Raising r context resume m i → Raising r context resume n i
  after i e x = subst (λ n. Raising r context resume n i) e x

  -- the items of a row go into variables
  retrieved_stands : (slots : List ℕ) (w : Written) → Begins (retrieved context resume slots w) r → (end : ℕ) → end ≡ here (retrieved context resume slots w)
      → (mid : ℕ) × stands.Stores r context resume (λ slot. instruction.FetchStore slot) slots (here w) mid × Raising r context resume mid instruction.Warn × (suc mid ≡ end)
  retrieved_stands slots w b end e =
      let store : ℕ → Instruction = λ slot. instruction.FetchStore slot in
      let put = stored context resume store slots w in
      (here put, stored_stands context resume store slots w (begins-earlier (grows-takes context resume instruction.Warn 0 {w = put}) b), raising_there put b.lines, sym (here-takes context resume instruction.Warn 0 put) ∙ sym e)

  -- an operation on a cursor
  one-following : (i : Instruction) (p : FunctionBuilder) → Begins (takes context resume i 0 (cleared context p)) r → resume ≡ here (takes context resume i 0 (cleared context p))
      → Plain r (at p) instruction.Clear × Raising r context resume (suc (at p)) i × (suc (suc (at p)) ≡ resume)
  one-following i p b e = (
    clear-there p (begins-earlier (grows-takes context resume i 0 {w = cleared context p}) b),
    after i (clear-line p) (raising_there (cleared context p) b.lines),
    ap suc (sym (clear-line p)) ∙ sym (here-takes context resume i 0 (cleared context p)) ∙ sym e,
  )

  -- a plan that is carried out after CLEAR
  plan-following : (plan : Plan) (p : FunctionBuilder) → Kept (changed context resume plan 0 (with_code (cleared context p) p)) r → resume ≡ at (changed context resume plan 0 (with_code (cleared context p) p))
      → Plain r (at p) instruction.Clear × (slice_get r.plans (length p.plans) ≡ Some plan) × Raising r context resume (suc (at p)) (instruction.Data (length p.plans)) × (suc (suc (at p)) ≡ resume)
  plan-following plan p kept e =
      let there = change-there context resume plan 0 (with_code (cleared context p) p) kept e in
      (clear-there p (begins-earlier (grows-takes context resume (instruction.Data (length p.plans)) 0 {w = cleared context p}) kept.code), there.0, after (instruction.Data (length p.plans)) (clear-line p) there.1, ap suc (sym (clear-line p)) ∙ there.2)

  updates_stand : {enclosing : List EnclosingBlock} {block_scope : BlockScope} {table : ℕ} {sets : List ResolvedSet} {rows : ResolvedWhere} {plan : Plan} (p : FunctionBuilder) → Updates known table sets rows plan → Seen r env enclosing block_scope → SetsFit file routine table sets → WhereFits file routine block_scope table rows
      → Kept (changed context resume plan 0 (with_code (cleared context p) p)) r → resume ≡ at (changed context resume plan 0 (with_code (cleared context p) p)) → Simple file code routine r env resume (simples.Update table sets rows) (at p)
  updates_stand {table = table} {sets = sets} p (written.update_all {coded = coded} made) seen fit f kept e =
      let x = plan-following (plans.Update table coded None) p kept e in
      (length p.plans, coded, None, x.0, update_stands file code given.tables given.checks table known sets coded None None made fit tt, x.1, x.2, x.3)
  updates_stand {table = table} {sets = sets} p (written.update_where {e = t} {coded = coded} {test = test} made tested) seen fit f kept e =
      let x = plan-following (plans.Update table coded test) p kept e in
      (length p.plans, coded, test, x.0, update_stands file code given.tables given.checks table known sets coded (Some t) test made fit (tested.is f), x.1, x.2, x.3)
  updates_stand {table = table} {sets = sets} p (written.update_current {cursor = cursor} {coded = coded} made) seen fit f kept e =
      let x = plan-following (plans.UpdateAt cursor coded) p kept e in
      (length p.plans, coded, f.0, x.0, sees seen f.1, f.2, update_at_stands file code given.tables given.checks table known sets coded made fit, x.1, x.2, x.3)

  deletes_stand : {enclosing : List EnclosingBlock} {block_scope : BlockScope} {table : ℕ} {rows : ResolvedWhere} {plan : Plan} (p : FunctionBuilder) → Deletes known table rows plan → Seen r env enclosing block_scope → WhereFits file routine block_scope table rows
      → Kept (changed context resume plan 0 (with_code (cleared context p) p)) r → resume ≡ at (changed context resume plan 0 (with_code (cleared context p) p)) → Simple file code routine r env resume (simples.Delete table rows) (at p)
  deletes_stand {table = table} p written.delete_all seen f kept e =
      let x = plan-following (plans.Delete table None) p kept e in
      (length p.plans, None, x.0, delete_stands file code given.tables given.checks table known None None tt, x.1, x.2, x.3)
  deletes_stand {table = table} p (written.delete_where {e = t} {test = test} tested) seen f kept e =
      let x = plan-following (plans.Delete table test) p kept e in
      (length p.plans, test, x.0, delete_stands file code given.tables given.checks table known (Some t) test (tested.is f), x.1, x.2, x.3)
  deletes_stand {table = table} p (written.delete_current {cursor = cursor}) seen f kept e =
      let x = plan-following (plans.DeleteAt cursor) p kept e in
      (length p.plans, f.0, x.0, sees seen f.1, f.2, delete_at_stands file code given.tables given.checks table, x.1, x.2, x.3)

  -- a condition that is signalled
  signalled_stand : (plain with_message : ℕ → Instruction) (s : ResolvedSignal) (p : FunctionBuilder) {w : Written} → Signals known context resume (plain (condition_number s.condition p.declared)) (with_message (condition_number s.condition p.declared)) s.message (cleared context p) w
      → Kept (with_code w (record p { declared = declared_with s.condition p.declared })) r → SignalFits file routine s → resume ≡ here w
      → (n : ℕ) × Plain r (at p) instruction.Clear × IsDeclared routine r s.condition n × stands.Signals file code r context resume plain with_message n s.message (suc (at p)) resume
  signalled_stand plain with_message s p {w} m kept f e =
      let n = condition_number s.condition p.declared in
      let there = signals_stand file code r known context resume (known_functions file routine) plain with_message n m f.1 kept.code in (
        n,
        clear-there p (begins-earlier (grows-signals m) kept.code),
        is-declared given s.condition p kept.declared f.0,
        subst (λ i. stands.Signals file code r context resume plain with_message n s.message i resume) (clear-line p) (subst (λ i. stands.Signals file code r context resume plain with_message n s.message (here (cleared context p)) i) (sym e) there),
      )

  call_written : (procedure : ℕ) (args : List ResolvedArgument) (p : FunctionBuilder) {w : Written} → CallArguments known context resume (letters_at known.takes (procedure_number known procedure)) 0 args (cleared context p) w
      → Begins (stored context resume (λ slot. instruction.Store slot) (slots_given args) (puts context resume (instruction.Call (procedure_number known procedure)) (more_operands p w) (letters_at known.gives (procedure_number known procedure)) w)) r
      → resume ≡ here (stored context resume (λ slot. instruction.Store slot) (slots_given args) (puts context resume (instruction.Call (procedure_number known procedure)) (more_operands p w) (letters_at known.gives (procedure_number known procedure)) w))
      → SimpleFits file routine outermost (simples.Call procedure args) → Simple file code routine r env resume (simples.Call procedure args) (at p)
  call_written procedure args p {w} a b e f =
      let n = procedure_number known procedure in
      let store : ℕ → Instruction = λ slot. instruction.Store slot in
      let letters = letters_at known.gives n in
      let called = puts context resume (instruction.Call n) (more_operands p w) letters w in
      let following = begins-earlier (grows-stored context resume store (slots_given args) called) b in
      let read = begins-earlier (grows-puts context resume (instruction.Call n) (more_operands p w) letters {w = w}) following in (
        here w,
        n,
        clear-there p (begins-earlier (grows-call a) read),
        subst (λ i. stands.Arguments file code r context resume args i (here w)) (clear-line p) (call_stands file code r known context resume (known_functions file routine) a f.3 read),
        procedure_stands file known (known_procedures file routine) procedure args f.0 f.1 f.2,
        raising_there w following.lines,
        subst (λ i. stands.Stores r context resume store (slots_given args) i resume) (here-puts context resume (instruction.Call n) (more_operands p w) letters w)
            (subst (stands.Stores r context resume store (slots_given args) (here called)) (sym e) (stored_stands context resume store (slots_given args) called b)),
      )

  pub simple_stands : {enclosing : List EnclosingBlock} {block_scope : BlockScope} {s : ResolvedSimple} {p q : FunctionBuilder} → WritesSimple known context resume enclosing s p q → resume ≡ at q → Seen r env enclosing block_scope → Kept q r → SimpleFits file routine block_scope s
      → Simple file code routine r env resume s (at p)
  simple_stands (written.set {slot = slot} {e = t} {p = p} {w = w} x) e seen kept f =
      let read = begins-earlier (grows-takes context resume (instruction.Store slot) 1 {w = w}) kept.code in (
        here w,
        clear-there p (begins-earlier (grows-writes x) read),
        subst (λ n. Puts file code r context resume t n (here w)) (clear-line p) (puts_written file code r known context resume (known_functions file routine) x f read),
        raising_there w kept.code.lines,
        sym (here-takes context resume (instruction.Store slot) 1 w) ∙ sym e,
      )
  simple_stands (written.call {procedure = procedure} {args = args} {p = p} a) e seen kept f = call_written procedure args p a kept.code e f
  simple_stands (written.return {w = w} x) e seen kept f =
      (here w, puts_written file code r known context resume (known_functions file routine) x f (begins-earlier (grows-takes context resume instruction.ReturnValue 1 {w = w}) kept.code), raising_there w kept.code.lines, sym (here-takes context resume instruction.ReturnValue 1 w) ∙ sym e)
  simple_stands {enclosing = enclosing} (written.leave {level = level} {p = p}) e seen kept f = subst (λ a. Leaves r a level (at p)) (sym seen.frames) (leaves_stand enclosing level context p.code (ap (is_among level) seen.labels ∙ f) kept.code)
  simple_stands {enclosing = enclosing} (written.iterate {level = level} {p = p}) e seen kept f = subst (λ a. Iterates r a level (at p)) (sym seen.frames) (iterates_stand enclosing level context p.code (ap (is_among level) seen.loops ∙ f) kept.code)
  simple_stands (written.signal {s = s} {p = p} m) e seen kept f = signalled_stand (λ n. instruction.Signal n) (λ n. instruction.SignalMessage n) s p m kept f e
  simple_stands (written.resignal {p = p}) e seen kept f = one-following instruction.Resignal p kept.code e
  simple_stands (written.resignal_condition {s = s} {p = p} m) e seen kept f = signalled_stand (λ n. instruction.ResignalCondition n) (λ n. instruction.ResignalMessage n) s p m kept f e
  simple_stands (written.diagnostics_of_statement {is = []} {p = p}) e seen kept f = absurd f
  simple_stands (written.diagnostics_of_statement {area = area} {is = i ∷ is} {p = p}) e seen kept f = subst (stands.StatementItems r context resume area (i ∷ is) (at p)) (sym e) (statement_items_stand context resume area (i ∷ is) p.code kept.code)
  simple_stands (written.diagnostics_of_condition {area = area} {number = number} {is = []} {p = p}) e seen kept f = absurd f
  simple_stands (written.diagnostics_of_condition {area = area} {number = number} {is = i ∷ is} {p = p}) e seen kept f =
      let first = applied context resume (number_op number) 0 N p.code in (
        subst (Raising r context resume (at p)) (number-is number) (raising_there p.code (begins-earlier (grows-condition_items context resume area (i ∷ is) first) kept.code).lines),
        subst (λ n. stands.ConditionItems r context resume area i is n resume) (here-applied context resume (number_op number) 0 N p.code)
            (subst (stands.ConditionItems r context resume area i is (here first)) (sym e) (condition_items_stand context resume area i is first kept.code)),
      )
  simple_stands (written.select_into {query = query} {slots = slots} {p = p} {code = asked} m) e seen kept f =
      let n = length p.code.queries in
      let ready = with_query asked (cleared context p) in
      let got = puts context resume (instruction.Row n) 0 (item_letters known query) ready in
      let following = begins-earlier (grows-retrieved context resume slots got) kept.code in
      let before = begins-earlier (grows-puts context resume (instruction.Row n) 0 (item_letters known query) {w = ready}) following in
      let there = retrieved_stands slots got kept.code resume e in (
        n,
        there.0,
        clear-there p (begins-earlier (grows-query asked {w = cleared context p}) before),
        query_stands m f (there_at p.code.queries before.queries),
        after (instruction.Row n) (clear-line p) (raising_there ready following.lines),
        subst (λ i. stands.Stores r context resume (λ slot. instruction.FetchStore slot) slots i there.0) (here-puts context resume (instruction.Row n) 0 (item_letters known query) ready ∙ ap suc (clear-line p)) there.1,
        there.2,
        there.3,
      )
  simple_stands (written.insert {table = table} {columns = columns} {rows = rows} {p = p} {w = w} all) e seen kept f =
      let there = change-there context resume (plans.Insert table columns (length rows)) (more_operands p w) (with_code w p) kept e in
      let read = begins-earlier (grows-takes context resume (instruction.Data (length p.plans)) (more_operands p w) {w = w}) kept.code in (
        here w,
        length p.plans,
        clear-there p (begins-earlier (grows-rows all) read),
        subst (λ n. PutsRows file code r context resume (length columns) rows n (here w)) (clear-line p) (rows_stand file code r known context resume (known_functions file routine) (length columns) all f read),
        there.0,
        there.1,
        there.2,
      )
  simple_stands (written.insert_query {table = table} {columns = columns} {query = query} {p = p} {code = asked} m) e seen kept f =
      let ready = with_query asked (cleared context p) in
      let there = change-there context resume (plans.InsertQuery table columns (length p.code.queries)) 0 (with_code ready p) kept e in
      let before = begins-earlier (grows-takes context resume (instruction.Data (length p.plans)) 0 {w = ready}) kept.code in (
        length p.plans,
        length p.code.queries,
        clear-there p (begins-earlier (grows-query asked {w = cleared context p}) before),
        query_stands m f (there_at p.code.queries before.queries),
        there.0,
        after (instruction.Data (length p.plans)) (clear-line p) there.1,
        ap suc (sym (clear-line p)) ∙ there.2,
      )
  simple_stands (written.update {p = p} u) e seen kept f = updates_stand p u seen f.0 f.1 kept e
  simple_stands (written.delete {p = p} d) e seen kept f = deletes_stand p d seen f kept e
  simple_stands (written.open_ {cursor = cursor} {p = p}) e seen kept f = let x = one-following (instruction.Open cursor) p kept.code e in (f.0, x.0, sees seen f.1, x.1, x.2)
  simple_stands (written.fetch_ {cursor = cursor} {slots = slots} {p = p}) e seen kept f =
      let letters = letters_at p.letters cursor in
      let got = puts context resume (instruction.Fetch cursor) 0 letters (cleared context p) in
      let following = begins-earlier (grows-retrieved context resume slots got) kept.code in
      let there = retrieved_stands slots got kept.code resume e in (
        f.0,
        there.0,
        clear-there p (begins-earlier (grows-puts context resume (instruction.Fetch cursor) 0 letters {w = cleared context p}) following),
        sees seen f.1,
        after (instruction.Fetch cursor) (clear-line p) (raising_there (cleared context p) following.lines),
        subst (λ i. stands.Stores r context resume (λ slot. instruction.FetchStore slot) slots i there.0) (here-puts context resume (instruction.Fetch cursor) 0 letters (cleared context p) ∙ ap suc (clear-line p)) there.1,
        there.2,
        there.3,
      )
  simple_stands (written.close_ {cursor = cursor} {p = p}) e seen kept f = let x = one-following (instruction.Close cursor) p kept.code e in (f.0, x.0, sees seen f.1, x.1, x.2)
