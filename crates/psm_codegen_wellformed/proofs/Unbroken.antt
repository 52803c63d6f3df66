-- Code that is written for an accepted file is well-formed, where the lines, conditions, contexts and handlers of its routines break none.
use Rattle.std.proofs.Common.{◌≡◌, ◌++◌, ℕ, suc, List, [], ◌∷◌, map, Some, None, refl}
use Rattle.std.specs.List.{flat_map}
use Rattle.std.specs.Prelude.{slice_get}
use Rattle.psm_resolved.specs.declared.file.ResolvedFile.{ResolvedFile}
use Rattle.psm_resolved.specs.declared.file.ResolvedRoutine.{ResolvedRoutine}
use Rattle.psm_code.specs.declared.code.RawCode.{RawCode}
use Rattle.psm_code.specs.declared.code.RawRoutine.{RawRoutine}
use Rattle.psm_code.specs.PlanRules.{cursor_fault, plan_faults, query_faults}
use Rattle.psm_code.specs.RoutineRules.{code_faults, context_faults, declared_fault, first_fault, handler_fault, line_faults, parameter_fault, routine_fault, routine_faults, type_fault}
use Rattle.psm_code.specs.Rules.{each_after}
use Rattle.psm_code.specs.TableRules.{table_faults}
use Rattle.psm_codegen.specs.Files.{FileWritten, RoutineWritten, RoutinesWritten, known_of}
use Rattle.psm_wellformed.specs.Files.{AreApart, WellFormedFile, WellFormedRoutine}
use Rattle.psm_typing.specs.TypingContext.{Each}
use Rattle.psm_codegen_wellformed.proofs.DataWellFormed.{data-well_formed}
use Rattle.psm_codegen_wellformed.proofs.Faultless.{Faultless, each-at, faultless-append, faultless-none}
use Rattle.psm_codegen_wellformed.proofs.HeadsWellFormed.{head-well_formed, parameters-well_formed, variables-well_formed}
use Rattle.psm_codegen_wellformed.proofs.KeysWellFormed.{keys-in_turn}
use Rattle.psm_codegen_wellformed.proofs.TablesWellFormed.{tables-well_formed}

-- no part of a routine after its own line breaks a rule
pub record Unbroken (code : RawCode) (r : RawRoutine) : Type 0 where
  pub parameters : Faultless (each_after (parameter_fault r) [] r.parameters)
  pub variables : Faultless (map type_fault r.variables)
  pub queries : Faultless (flat_map (query_faults code r) r.queries)
  pub cursors : Faultless (map (cursor_fault r) r.cursors)
  pub plans : Faultless (flat_map (plan_faults code r) r.plans)
  pub declared : Faultless (map declared_fault r.handlers.declared)
  pub contexts : Faultless (context_faults r 1 r.handlers.contexts)
  pub handlers : Faultless (each_after (handler_fault r) [] r.handlers.handlers)
  pub lines : Faultless (line_faults code r 0 r.lines)

routine-faultless : (code : RawCode) (before : List RawRoutine) (r : RawRoutine) → routine_fault before r ≡ None → Unbroken code r → Faultless (routine_faults code before r)
routine-faultless code before r h u =
    let t1 = each_after (parameter_fault r) [] r.parameters in
    let t2 = t1 ++ map type_fault r.variables in
    let t3 = t2 ++ flat_map (query_faults code r) r.queries in
    let t4 = t3 ++ map (cursor_fault r) r.cursors in
    let t5 = t4 ++ flat_map (plan_faults code r) r.plans in
    let t6 = t5 ++ map declared_fault r.handlers.declared in
    let t7 = t6 ++ context_faults r 1 r.handlers.contexts in
    let t8 = t7 ++ each_after (handler_fault r) [] r.handlers.handlers in
    let h2 = faultless-append t1 (map type_fault r.variables) u.parameters u.variables in
    let h3 = faultless-append t2 (flat_map (query_faults code r) r.queries) h2 u.queries in
    let h4 = faultless-append t3 (map (cursor_fault r) r.cursors) h3 u.cursors in
    let h5 = faultless-append t4 (flat_map (plan_faults code r) r.plans) h4 u.plans in
    let h6 = faultless-append t5 (map declared_fault r.handlers.declared) h5 u.declared in
    let h7 = faultless-append t6 (context_faults r 1 r.handlers.contexts) h6 u.contexts in
    let h8 = faultless-append t7 (each_after (handler_fault r) [] r.handlers.handlers) h7 u.handlers in
    (h, faultless-append t8 (line_faults code r 0 r.lines) h8 u.lines)

-- ---- routines, one after another

written-more : (file : ResolvedFile) (ts : List ResolvedRoutine) (us : List RawRoutine) (t : ResolvedRoutine) (u : RawRoutine) → RoutinesWritten file ts us → RoutineWritten (known_of file t) t u → RoutinesWritten file (ts ++ t ∷ []) (us ++ u ∷ [])
written-more file [] [] t u w h = (h, tt)
written-more file [] (y ∷ us) t u w h = absurd w
written-more file (x ∷ ts) [] t u w h = absurd w
written-more file (x ∷ ts) (y ∷ us) t u w h = (w.0, written-more file ts us t u w.1 h)

routines-from : (file : ResolvedFile) (code : RawCode) (done ts : List ResolvedRoutine) (before us : List RawRoutine) → RoutinesWritten file done before → RoutinesWritten file ts us → AreApart done ts → Each (WellFormedRoutine file) ts
    → ((n : ℕ) (routine : ResolvedRoutine) (r : RawRoutine) → slice_get ts n ≡ Some routine → slice_get us n ≡ Some r → RoutineWritten (known_of file routine) routine r → Unbroken code r) → Faultless (each_after (routine_faults code) before us)
routines-from file code done [] before [] d w a p each = tt
routines-from file code done [] before (u ∷ us) d w a p each = absurd w
routines-from file code done (t ∷ ts) before [] d w a p each = absurd w
routines-from file code done (t ∷ ts) before (u ∷ us) d w a p each =
    let first = routine-faultless code before u (head-well_formed file t u done before p.0 w.0 d a.0) (each 0 t u refl refl w.0) in
    let next = routines-from file code (done ++ t ∷ []) ts (before ++ u ∷ []) us (written-more file done before t u d w.0) w.1 a.1 p.1 (λ n routine r at there x. each (suc n) routine r at there x) in
    faultless-append (routine_faults code before u) (each_after (routine_faults code) (before ++ u ∷ []) us) first next

-- ---- code

-- each routine of code that is written for a file is such
abbrev pub OfRoutines : ResolvedFile → RawCode → (RawRoutine → Type 0) → Type 0
OfRoutines file code P = (n : ℕ) (routine : ResolvedRoutine) (r : RawRoutine) → slice_get file.routines n ≡ Some routine → slice_get code.routines n ≡ Some r → RoutineWritten (known_of file routine) routine r → P r

-- its conditions, contexts and handlers are well-formed
abbrev pub ContextsFaultless : RawRoutine → Type 0
ContextsFaultless r = Each (λ f. f ≡ None) (map declared_fault r.handlers.declared) × Each (λ f. f ≡ None) (context_faults r 1 r.handlers.contexts) × Each (λ f. f ≡ None) (each_after (handler_fault r) [] r.handlers.handlers)

pub none-broken : (file : ResolvedFile) (code : RawCode) → FileWritten file code → WellFormedFile file → OfRoutines file code (λ r. Each (λ f. f ≡ None) (line_faults code r 0 r.lines)) → OfRoutines file code ContextsFaultless → first_fault code ≡ None
none-broken file code made accepted lines contexts =
    let each : OfRoutines file code (Unbroken code) = λ n routine r at there w.
    let well_formed = each-at (WellFormedRoutine file) file.routines n routine accepted.routines at in
    let parts = data-well_formed file code routine r n made accepted at w in
    let enclosing = contexts n routine r at there w in
    record {
      parameters = parameters-well_formed file routine r well_formed w;
      variables = variables-well_formed file routine r well_formed w;
      queries = parts.0;
      cursors = parts.1;
      plans = parts.2;
      declared = enclosing.0;
      contexts = enclosing.1;
      handlers = enclosing.2;
      lines = lines n routine r at there w;
    } in
    let tables = tables-well_formed file code made accepted in
    let routines = routines-from file code [] file.routines [] code.routines tt made.routines accepted.apart accepted.routines each in
    faultless-none 1 (code_faults code) (keys-in_turn file code made accepted, faultless-append (each_after (table_faults code.keys) [] code.tables) (each_after (routine_faults code) [] code.routines) tables routines)
