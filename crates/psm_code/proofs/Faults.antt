-- What is known of well-formed code, line by line of its listing.
use Rattle.std.proofs.Common.{◌≡◌, ℕ, zero, suc, ◌+◌, Bool, true, false, ◌&&◌, List, [], ◌∷◌, ◌++◌, length, map, refl, ap, sym, subst, ◌∙◌, arith, Option, Some, None, length-append}
use Rattle.std.specs.Prelude.{not, reverse, slice_get}
use Rattle.std.specs.List.{flat_map, list_all}
use Rattle.psm_num.proofs.Literals.{and_first, and_second}
use Rattle.psm_exprcode.specs.declared.op.Letter.{Letter}
use Rattle.psm_exprcode.specs.WellFormed.{is_type, left_of}
use Rattle.psm_cond.specs.declared.handlers.Context.{Context}
use Rattle.psm_cond.specs.declared.handlers.Handler.{Handler}
use Rattle.psm_code.specs.declared.code.CodeTable.{CodeTable}
use Rattle.psm_code.specs.declared.code.RawCode.{RawCode}
use Rattle.psm_code.specs.declared.code.RawRoutine.{RawRoutine}
use Rattle.psm_code.specs.declared.instruction.Instruction.{Instruction}
use Rattle.psm_code.specs.declared.instruction.Instruction.TheVariants as instruction
use Rattle.psm_code.specs.declared.lines.CodeLine.{CodeLine}
use Rattle.psm_code.specs.declared.rule.CodeRule.{CodeRule}
use Rattle.psm_code.specs.declared.rule.CodeRule.TheVariants.{Range, Target, Stack, Resume, Turn, Place, Definition}
use Rattle.psm_code.specs.declared.rule.CodeRule.TheVariants.{Context as InContext}
use Rattle.psm_code.specs.Instructions.{arguments}
use Rattle.psm_code.specs.Parts.{handler_at, line_at, routine_at}
use Rattle.psm_code.specs.PlanRules.{cursor_fault, plan_faults, query_faults}
use Rattle.psm_code.specs.RoutineRules.{code_faults, context_fault, context_faults, declared_fault, first_fault, handler_fault, line_fault, line_faults, parameter_fault, routine_fault, routine_faults, type_fault}
use Rattle.psm_code.specs.RoutineRules as rules
use Rattle.psm_code.specs.Rules.{each_after, fault_in, first_of, is_some, there, unless, where_there}
use Rattle.psm_code.specs.TableRules.{are_in_turn, table_faults}

-- ---- lines without a fault

abbrev pub Clean : List (Option CodeRule) → Type 0
Clean [] = Unit {0}
Clean (None ∷ rs) = Clean rs
Clean (Some q ∷ rs) = ⊥

pub clean_of : (n : ℕ) (rs : List (Option CodeRule)) → fault_in n rs ≡ None → Clean rs
clean_of n [] e = tt
clean_of n (None ∷ rs) e = clean_of (suc n) rs e
clean_of n (Some q ∷ rs) e = absurd (cc)

pub none_of : (n : ℕ) (rs : List (Option CodeRule)) → Clean rs → fault_in n rs ≡ None
none_of n [] h = refl
none_of n (None ∷ rs) h = none_of (suc n) rs h
none_of n (Some q ∷ rs) h = absurd h

pub clean_head : (o : Option CodeRule) (rs : List (Option CodeRule)) → Clean (o ∷ rs) → o ≡ None
clean_head None rs h = refl
clean_head (Some q) rs h = absurd h

pub clean_tail : (o : Option CodeRule) (rs : List (Option CodeRule)) → Clean (o ∷ rs) → Clean rs
clean_tail None rs h = h
clean_tail (Some q) rs h = absurd h

pub clean_first : (a b : List (Option CodeRule)) → Clean (a ++ b) → Clean a
clean_first [] b h = tt
clean_first (None ∷ a) b h = clean_first a b h
clean_first (Some q ∷ a) b h = absurd h

pub clean_second : (a b : List (Option CodeRule)) → Clean (a ++ b) → Clean b
clean_second [] b h = h
clean_second (None ∷ a) b h = clean_second a b h
clean_second (Some q ∷ a) b h = absurd h

pub clean_flat : {A : Type 0} (f : A → List (Option CodeRule)) (xs : List A) (i : ℕ) (x : A) → Clean (flat_map f xs) → slice_get xs i ≡ Some x → Clean (f x)
clean_flat f [] i x h e = absurd (cc)
clean_flat f (y ∷ ys) zero x h e = let same : y ≡ x = cc in subst (λ z. Clean (f z)) same (clean_first (f y) (flat_map f ys) h)
clean_flat f (y ∷ ys) (suc i) x h e = clean_flat f ys i x (clean_second (f y) (flat_map f ys) h) e

pub clean_map : {A : Type 0} (f : A → Option CodeRule) (xs : List A) (i : ℕ) (x : A) → Clean (map f xs) → slice_get xs i ≡ Some x → f x ≡ None
clean_map f [] i x h e = absurd (cc)
clean_map f (y ∷ ys) zero x h e = let same : y ≡ x = cc in subst (λ z. f z ≡ None) same (clean_head (f y) (map f ys) h)
clean_map f (y ∷ ys) (suc i) x h e = clean_map f ys i x (clean_tail (f y) (map f ys) h) e

-- the items before one, and the lines of that
pub record Reached {A : Type 0} (f : List A → A → List (Option CodeRule)) (n : ℕ) (x : A) : Type 0 where
  pub before : List A
  pub long : length before ≡ n
  pub clean : Clean (f before x)

pub clean_each : {A : Type 0} (f : List A → A → List (Option CodeRule)) (before xs : List A) (i : ℕ) (x : A) → Clean (each_after f before xs) → slice_get xs i ≡ Some x → Reached f (length before + i) x
clean_each f before [] i x h e = absurd (cc)
clean_each f before (y ∷ ys) zero x h e = let same : y ≡ x = cc in record { before = before; long = omega arith; clean = subst (λ z. Clean (f before z)) same (clean_first (f before y) (each_after f (before ++ y ∷ []) ys) h) }
clean_each f before (y ∷ ys) (suc i) x h e =
    let r = clean_each f (before ++ y ∷ []) ys i x (clean_second (f before y) (each_after f (before ++ y ∷ []) ys) h) e in
    let long : length r.before ≡ length (before ++ y ∷ []) + i = r.long in
    record { before = r.before; long = omega (arith, long, length-append before (y ∷ [])); clean = r.clean }

-- of several rules of a line each holds
pub two_hold : (a b : Bool) (p q : CodeRule) → first_of (unless a p ∷ unless b q ∷ []) ≡ None → (a ≡ true) × (b ≡ true)
two_hold true true p q e = (refl, refl)
two_hold true false p q e = absurd (cc)
two_hold false b p q e = absurd (cc)

pub three_hold : (a b c : Bool) (p q s : CodeRule) → first_of (unless a p ∷ unless b q ∷ unless c s ∷ []) ≡ None → (a ≡ true) × (b ≡ true) × (c ≡ true)
three_hold true true true p q s e = (refl, refl, refl)
three_hold true true false p q s e = absurd (cc)
three_hold true false c p q s e = absurd (cc)
three_hold false b c p q s e = absurd (cc)

pub four_hold : (a b c d : Bool) (p q s t : CodeRule) → first_of (unless a p ∷ unless b q ∷ unless c s ∷ unless d t ∷ []) ≡ None → (a ≡ true) × (b ≡ true) × (c ≡ true) × (d ≡ true)
four_hold true true true true p q s t e = (refl, refl, refl, refl)
four_hold true true true false p q s t e = absurd (cc)
four_hold true true false d p q s t e = absurd (cc)
four_hold true false c d p q s t e = absurd (cc)
four_hold false b c d p q s t e = absurd (cc)

-- ---- lines

pub record WellFormedLine (code : RawCode) (r : RawRoutine) (at : ℕ) (l : CodeLine) : Type 0 where
  pub named : rules.names_there code r l.instruction ≡ true
  pub inside : rules.context_there r l.context ≡ true
  pub targets : rules.are_targets r at l ≡ true
  pub bare : rules.is_bare l ≡ true
  pub stack : rules.stack_follows code r at l ≡ true
  pub typed : rules.lacks_result code r (reverse l.stack) l.instruction ≡ false
  pub first : rules.is_first_well_formed at l ≡ true
  pub stands : rules.stands_well_formed r l l.instruction ≡ true
  pub contexts : rules.contexts_follow r at l ≡ true
  pub resumes : rules.resumes_well_formed r at l ≡ true
  pub place : rules.may_stand code r l.instruction ≡ true

seven_hold : (a b c d e f g : Bool) → first_of (unless a Range ∷ unless b Target ∷ unless c Stack ∷ unless d InContext ∷ unless e Resume ∷ unless f Turn ∷ unless g Place ∷ []) ≡ None
    → (a ≡ true) × (b ≡ true) × (c ≡ true) × (d ≡ true) × (e ≡ true) × (f ≡ true) × (g ≡ true)
seven_hold true true true true true true true h = (refl, refl, refl, refl, refl, refl, refl)
seven_hold false b c d e f g h = absurd (cc)
seven_hold true false c d e f g h = absurd (cc)
seven_hold true true false d e f g h = absurd (cc)
seven_hold true true true false e f g h = absurd (cc)
seven_hold true true true true false f g h = absurd (cc)
seven_hold true true true true true false g h = absurd (cc)
seven_hold true true true true true true false h = absurd (cc)

-- an instruction that returns a value stands in a function, and one that calls a function names one: they have types
abbrev pub HasTypes : RawCode → Type 0
HasTypes code = (n : ℕ) (q : RawRoutine) → routine_at code n ≡ Some q → rules.same_truth q.is_function (there q.returns) ≡ true

typed_there : (b c : Bool) → rules.same_truth b c ≡ true → b ≡ true → c ≡ true
typed_there true c h p = h
typed_there false c h p = absurd (cc)

has_result : (code : RawCode) (r : RawRoutine) (s : List Letter) (i : Instruction) → HasTypes code → rules.same_truth r.is_function (there r.returns) ≡ true → rules.may_stand code r i ≡ true → rules.lacks_result code r s i ≡ false
has_result code r s instruction.ReturnValue types own p = ap not (typed_there r.is_function (there r.returns) own p)
has_result code r s (instruction.FunctionCall n) types own p = callee (routine_at code n) (types n) p where
  callee : (o : Option RawRoutine) → ((q : RawRoutine) → o ≡ Some q → rules.same_truth q.is_function (there q.returns) ≡ true) → where_there o (λ q. q.is_function) ≡ true → rules.takes_untyped s o ≡ false
  callee None t p = refl
  callee (Some q) t p = ap (λ b. not b && there (left_of (arguments q) s)) (typed_there q.is_function (there q.returns) (t q refl) p)
has_result code r s i types own p = refl

pub well_formed_line : (code : RawCode) (r : RawRoutine) (at : ℕ) (l : CodeLine) → HasTypes code → rules.same_truth r.is_function (there r.returns) ≡ true → line_fault code r at l ≡ None → WellFormedLine code r at l
well_formed_line code r at l types own e =
    let inside = rules.context_there r l.context in
    let enclosing = rules.stands_well_formed r l l.instruction && rules.contexts_follow r at l in
    let h = seven_hold (inside && rules.names_there code r l.instruction) (rules.are_targets r at l) (rules.is_bare l && rules.stack_follows code r at l) (rules.is_first_well_formed at l && enclosing)
    (rules.resumes_well_formed r at l) (where_there (rules.jump_of l.instruction) (rules.uses_turn r at)) (rules.may_stand code r l.instruction) e in
    let rest = and_second (rules.is_first_well_formed at l) enclosing h.3 in
    record {
      named = and_second inside (rules.names_there code r l.instruction) h.0;
      inside = and_first inside (rules.names_there code r l.instruction) h.0;
      targets = h.1;
      bare = and_first (rules.is_bare l) (rules.stack_follows code r at l) h.2;
      stack = and_second (rules.is_bare l) (rules.stack_follows code r at l) h.2;
      first = and_first (rules.is_first_well_formed at l) enclosing h.3;
      stands = and_first (rules.stands_well_formed r l l.instruction) (rules.contexts_follow r at l) rest;
      contexts = and_second (rules.stands_well_formed r l l.instruction) (rules.contexts_follow r at l) rest;
      resumes = h.4;
      typed = has_result code r (reverse l.stack) l.instruction types own h.6;
      place = h.6;
    }

lines_at : (code : RawCode) (r : RawRoutine) (n : ℕ) (ls : List CodeLine) (i : ℕ) (l : CodeLine) → Clean (line_faults code r n ls) → slice_get ls i ≡ Some l → line_fault code r (n + i) l ≡ None
lines_at code r n [] i l h e = absurd (cc)
lines_at code r n (x ∷ ls) zero l h e =
    let same : x ≡ l = cc in
    let z : n ≡ n + 0 = omega arith in
    ap (λ j. line_fault code r (n + 0) j) (sym same) ∙ ap (λ j. line_fault code r j x) (sym z) ∙ clean_head (line_fault code r n x) (line_faults code r (suc n) ls) h
lines_at code r n (x ∷ ls) (suc i) l h e =
    let s : suc n + i ≡ n + suc i = omega arith in
    ap (λ j. line_fault code r j l) (sym s) ∙ lines_at code r (suc n) ls i l (clean_tail (line_fault code r n x) (line_faults code r (suc n) ls) h) e

contexts_at : (r : RawRoutine) (n : ℕ) (cs : List Context) (i : ℕ) (c : Context) → Clean (context_faults r n cs) → slice_get cs i ≡ Some c → context_fault r (n + i) c.parent c.kind ≡ None
contexts_at r n [] i c h e = absurd (cc)
contexts_at r n (x ∷ cs) zero c h e =
    let same : x ≡ c = cc in
    let z : n ≡ n + 0 = omega arith in
    ap (λ j. context_fault r (n + 0) j.parent j.kind) (sym same) ∙ ap (λ j. context_fault r j x.parent x.kind) (sym z) ∙ clean_head (context_fault r n x.parent x.kind) (context_faults r (suc n) cs) h
contexts_at r n (x ∷ cs) (suc i) c h e =
    let s : suc n + i ≡ n + suc i = omega arith in
    ap (λ j. context_fault r j c.parent c.kind) (sym s) ∙ contexts_at r (suc n) cs i c (clean_tail (context_fault r n x.parent x.kind) (context_faults r (suc n) cs) h) e

-- ---- routines

pub record WellFormedRoutineCode (code : RawCode) (r : RawRoutine) : Type 0 where
  pub before : List RawRoutine
  pub first : routine_fault before r ≡ None
  pub types : HasTypes code
  pub parameters : Clean (each_after (parameter_fault r) [] r.parameters)
  pub variables : Clean (map type_fault r.variables)
  pub queries : Clean (flat_map (query_faults code r) r.queries)
  pub cursors : Clean (map (cursor_fault r) r.cursors)
  pub plans : Clean (flat_map (plan_faults code r) r.plans)
  pub contexts : Clean (context_faults r 1 r.handlers.contexts)
  pub handlers : Clean (each_after (handler_fault r) [] r.handlers.handlers)
  pub lines : Clean (line_faults code r 0 r.lines)

well_formed_routine : (code : RawCode) (before : List RawRoutine) (r : RawRoutine) → HasTypes code → Clean (routine_faults code before r) → WellFormedRoutineCode code r
well_formed_routine code before r types h =
    let t1 = each_after (parameter_fault r) [] r.parameters in
    let t2 = t1 ++ map type_fault r.variables in
    let t3 = t2 ++ flat_map (query_faults code r) r.queries in
    let t4 = t3 ++ map (cursor_fault r) r.cursors in
    let t5 = t4 ++ flat_map (plan_faults code r) r.plans in
    let t6 = t5 ++ map declared_fault r.handlers.declared in
    let t7 = t6 ++ context_faults r 1 r.handlers.contexts in
    let t8 = t7 ++ each_after (handler_fault r) [] r.handlers.handlers in
    let h9 = clean_tail (routine_fault before r) (t8 ++ line_faults code r 0 r.lines) h in
    let h8 = clean_first t8 (line_faults code r 0 r.lines) h9 in
    let h7 = clean_first t7 (each_after (handler_fault r) [] r.handlers.handlers) h8 in
    let h6 = clean_first t6 (context_faults r 1 r.handlers.contexts) h7 in
    let h5 = clean_first t5 (map declared_fault r.handlers.declared) h6 in
    let h4 = clean_first t4 (flat_map (plan_faults code r) r.plans) h5 in
    let h3 = clean_first t3 (map (cursor_fault r) r.cursors) h4 in
    let h2 = clean_first t2 (flat_map (query_faults code r) r.queries) h3 in
    record {
      before = before;
      first = clean_head (routine_fault before r) (t8 ++ line_faults code r 0 r.lines) h;
      types = types;
      parameters = clean_first t1 (map type_fault r.variables) h2;
      variables = clean_second t1 (map type_fault r.variables) h2;
      queries = clean_second t2 (flat_map (query_faults code r) r.queries) h3;
      cursors = clean_second t3 (map (cursor_fault r) r.cursors) h4;
      plans = clean_second t4 (flat_map (plan_faults code r) r.plans) h5;
      contexts = clean_second t6 (context_faults r 1 r.handlers.contexts) h7;
      handlers = clean_second t7 (each_after (handler_fault r) [] r.handlers.handlers) h8;
      lines = clean_second t8 (line_faults code r 0 r.lines) h9;
    }

-- ---- code

abbrev head_fault : RawCode → Option CodeRule
head_fault code = unless (are_in_turn 0 (length code.tables) code.keys) Definition

abbrev tables_faults : RawCode → List (Option CodeRule)
tables_faults code = each_after (table_faults code.keys) [] code.tables

abbrev routines_faults : RawCode → List (Option CodeRule)
routines_faults code = each_after (routine_faults code) [] code.routines

code_clean : (code : RawCode) → first_fault code ≡ None → Clean (tables_faults code ++ routines_faults code)
code_clean code e = clean_tail (head_fault code) (tables_faults code ++ routines_faults code) (clean_of 1 (code_faults code) e)

passes : (b : Bool) (q : CodeRule) → unless b q ≡ None → b ≡ true
passes true q e = refl
passes false q e = absurd (cc)

pub keys_in_turn : (code : RawCode) → first_fault code ≡ None → are_in_turn 0 (length code.tables) code.keys ≡ true
keys_in_turn code e = passes (are_in_turn 0 (length code.tables) code.keys) Definition (clean_head (head_fault code) (tables_faults code ++ routines_faults code) (clean_of 1 (code_faults code) e))

pub tables_clean : (code : RawCode) → first_fault code ≡ None → Clean (tables_faults code)
tables_clean code e = clean_first (tables_faults code) (routines_faults code) (code_clean code e)

own_type : (before : List RawRoutine) (r : RawRoutine) → routine_fault before r ≡ None → rules.same_truth r.is_function (there r.returns) ≡ true
own_type before r h =
    let apart = list_all (rules.are_apart r) before in
    let t = three_hold (where_there r.returns is_type) (is_some r.lines) (apart && rules.same_truth r.is_function (there r.returns)) Range Target Definition h in
    and_second apart (rules.same_truth r.is_function (there r.returns)) t.2

has_types : (code : RawCode) → first_fault code ≡ None → HasTypes code
has_types code e n q g =
    let h = clean_each (routine_faults code) [] code.routines n q (clean_second (tables_faults code) (routines_faults code) (code_clean code e)) g in
    own_type h.before q (clean_head (routine_fault h.before q) _ h.clean)

pub routine_well_formed : (code : RawCode) (n : ℕ) (r : RawRoutine) → first_fault code ≡ None → routine_at code n ≡ Some r → WellFormedRoutineCode code r
routine_well_formed code n r e g =
    let h = clean_each (routine_faults code) [] code.routines n r (clean_second (tables_faults code) (routines_faults code) (code_clean code e)) g in
    well_formed_routine code h.before r (has_types code e) h.clean

pub table_well_formed : (code : RawCode) (n : ℕ) (t : CodeTable) → first_fault code ≡ None → slice_get code.tables n ≡ Some t → (before : List CodeTable) × Clean (table_faults code.keys before t)
table_well_formed code n t e g =
    let h = clean_each (table_faults code.keys) [] code.tables n t (tables_clean code e) g in
    (h.before, h.clean)

pub line_well_formed : (code : RawCode) (r : RawRoutine) (at : ℕ) (l : CodeLine) → WellFormedRoutineCode code r → line_at r at ≡ Some l → WellFormedLine code r at l
line_well_formed code r at l h g = let z : 0 + at ≡ at = omega arith in well_formed_line code r at l h.types (own_type h.before r h.first) (ap (λ j. line_fault code r j l) (sym z) ∙ lines_at code r 0 r.lines at l h.lines g)

pub context_well_formed : (code : RawCode) (r : RawRoutine) (i : ℕ) (c : Context) → WellFormedRoutineCode code r → slice_get r.handlers.contexts i ≡ Some c → context_fault r (suc i) c.parent c.kind ≡ None
context_well_formed code r i c h g = let s : 1 + i ≡ suc i = omega arith in ap (λ j. context_fault r j c.parent c.kind) (sym s) ∙ contexts_at r 1 r.handlers.contexts i c h.contexts g

pub handler_well_formed : (code : RawCode) (r : RawRoutine) (n : ℕ) (h : Handler) → WellFormedRoutineCode code r → handler_at r n ≡ Some h → Reached (handler_fault r) n h
handler_well_formed code r n h g e =
    let k = clean_each (handler_fault r) [] r.handlers.handlers n h g.handlers e in
    let z : 0 + n ≡ n = omega arith in
    record { before = k.before; long = k.long ∙ z; clean = k.clean }
