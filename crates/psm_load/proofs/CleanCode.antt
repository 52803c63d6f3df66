-- Declared conditions and handlers of code that breaks no rule.
use Rattle.std.proofs.Common.{◌≡◌, true, ◌&&◌, List, [], ◌∷◌, ◌++◌, length, map, None}
use Rattle.std.specs.List.{flat_map, list_all}
use Rattle.psm_num.proofs.Literals.{and_first, and_second}
use Rattle.psm_cond.specs.declared.handlers.Declared.{Declared}
use Rattle.psm_cond.specs.declared.handlers.Handler.{Handler}
use Rattle.psm_code.specs.declared.code.RawCode.{RawCode}
use Rattle.psm_code.specs.declared.code.RawRoutine.{RawRoutine}
use Rattle.psm_code.specs.declared.rule.CodeRule.TheVariants.{Range, Target, Context, Definition}
use Rattle.psm_code.specs.Parts.{line_at}
use Rattle.psm_code.specs.PlanRules.{cursor_fault, plan_faults, query_faults}
use Rattle.psm_code.specs.RoutineRules.{are_new, code_faults, context_faults, context_there, declared_fault, first_fault, handler_fault, is_action_line, is_value_well_formed, line_faults, may_undo, parameter_fault, routine_fault, routine_faults, type_fault, value_there, values_in, values_of}
use Rattle.psm_code.specs.Rules.{each_after, first_of, is_there, unless, where_there}
use Rattle.psm_code.specs.TableRules.{are_in_turn, table_faults}
use Rattle.psm_code.proofs.Faults.{Clean, clean_first, clean_head, clean_of, clean_second, clean_tail, four_hold}
use Rattle.psm_load_line.specs.Heads.{EachIs}

abbrev pub HasValues : RawRoutine → Handler → Type 0
HasValues r h = list_all (is_value_well_formed r) (values_of h) ≡ true

-- each condition that a routine declares or that a handler is for is an SQLSTATE that isn't success, or has a name
pub record BreaksNoRule (r : RawRoutine) : Type 0 where
  pub declared : EachIs (λ d. declared_fault d ≡ None) r.handlers.declared
  pub handlers : EachIs (HasValues r) r.handlers.handlers

clean_declared : (ds : List Declared) → Clean (map declared_fault ds) → EachIs (λ d. declared_fault d ≡ None) ds
clean_declared [] h = tt
clean_declared (d ∷ ds) h = (clean_head (declared_fault d) (map declared_fault ds) h, clean_declared ds (clean_tail (declared_fault d) (map declared_fault ds) h))

clean_handler : (r : RawRoutine) (before : List Handler) (h : Handler) → Clean (handler_fault r before h) → HasValues r h
clean_handler r before h c =
    let there = context_there r h.context && list_all (value_there r) (values_of h) in
    let each = list_all (is_value_well_formed r) (values_of h) in
    let new = are_new (values_in h.context before) (values_of h) in
    let action = where_there (line_at r h.pc) (is_action_line r (length before)) in
    let holds = four_hold there (is_there r.lines h.pc) action (may_undo r h && (each && new)) Range Target Context Definition
    (clean_head (first_of (unless there Range ∷ unless (is_there r.lines h.pc) Target ∷ unless action Context ∷ unless (may_undo r h && (each && new)) Definition ∷ [])) [] c) in
    and_first each new (and_second (may_undo r h) (each && new) holds.3)

clean_handlers : (r : RawRoutine) (before hs : List Handler) → Clean (each_after (handler_fault r) before hs) → EachIs (HasValues r) hs
clean_handlers r before [] c = tt
clean_handlers r before (h ∷ hs) c =
    let others = each_after (handler_fault r) (before ++ h ∷ []) hs in
    (clean_handler r before h (clean_first (handler_fault r before h) others c), clean_handlers r (before ++ h ∷ []) hs (clean_second (handler_fault r before h) others c))

clean_routine : (code : RawCode) (before : List RawRoutine) (r : RawRoutine) → Clean (routine_faults code before r) → BreaksNoRule r
clean_routine code before r h =
    let t5 = each_after (parameter_fault r) [] r.parameters ++ map type_fault r.variables ++ flat_map (query_faults code r) r.queries ++ map (cursor_fault r) r.cursors ++ flat_map (plan_faults code r) r.plans in
    let t6 = t5 ++ map declared_fault r.handlers.declared in
    let t7 = t6 ++ context_faults r 1 r.handlers.contexts in
    let t8 = t7 ++ each_after (handler_fault r) [] r.handlers.handlers in
    let h9 = clean_tail (routine_fault before r) (t8 ++ line_faults code r 0 r.lines) h in
    let h8 = clean_first t8 (line_faults code r 0 r.lines) h9 in
    let h7 = clean_first t7 (each_after (handler_fault r) [] r.handlers.handlers) h8 in
    let h6 = clean_first t6 (context_faults r 1 r.handlers.contexts) h7 in
    record {
      declared = clean_declared r.handlers.declared (clean_second t5 (map declared_fault r.handlers.declared) h6);
      handlers = clean_handlers r [] r.handlers.handlers (clean_second t7 (each_after (handler_fault r) [] r.handlers.handlers) h8);
    }

clean_routines : (code : RawCode) (before rs : List RawRoutine) → Clean (each_after (routine_faults code) before rs) → EachIs BreaksNoRule rs
clean_routines code before [] c = tt
clean_routines code before (r ∷ rs) c =
    let others = each_after (routine_faults code) (before ++ r ∷ []) rs in
    (clean_routine code before r (clean_first (routine_faults code before r) others c), clean_routines code (before ++ r ∷ []) rs (clean_second (routine_faults code before r) others c))

pub clean_code : (code : RawCode) → first_fault code ≡ None → EachIs BreaksNoRule code.routines
clean_code code e =
    let tables = each_after (table_faults code.keys) [] code.tables in
    let routines = each_after (routine_faults code) [] code.routines in
    clean_routines code [] code.routines (clean_second tables routines (clean_tail (unless (are_in_turn 0 (length code.tables) code.keys) Definition) (tables ++ routines) (clean_of 1 (code_faults code) e)))
