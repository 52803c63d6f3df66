-- Routines and code are read as they are written, where the conditions that they name break no rule.
use Rattle.std.proofs.Common.{◌≡◌, ℕ, suc, List, [], ◌∷◌, ◌++◌, length, map, None, refl, sym, ap, ap₂, subst, ◌∙◌, append_assoc}
use Rattle.std.specs.List.{flat_map}
use Rattle.psm_value.specs.declared.sqltype.SqlType.{SqlType}
use Rattle.psm_cond.specs.Tables.{HandlerTable}
use Rattle.psm_cond.specs.declared.handlers.Declared.{Declared}
use Rattle.psm_cond.specs.declared.handlers.Handler.{Handler}
use Rattle.psm_exprcode.specs.declared.query.Query.{Query}
use Rattle.psm_code.specs.declared.code.CodeCursor.{CodeCursor}
use Rattle.psm_code.specs.declared.code.Parameter.{Parameter}
use Rattle.psm_code.specs.declared.code.Plan.{Plan}
use Rattle.psm_code.specs.declared.code.RawCode.{RawCode}
use Rattle.psm_code.specs.declared.code.RawRoutine.{RawRoutine}
use Rattle.psm_code.specs.RoutineRules.{declared_fault, first_fault}
use Rattle.psm_code.specs.TableRules.{are_in_turn}
use Rattle.psm_words.specs.Words.{FitsType}
use Rattle.psm_object.specs.Handlers.{condition_line, context_line, handler_line}
use Rattle.psm_object.specs.Instructions.{code_line}
use Rattle.psm_object.specs.Listing.{lines_of}
use Rattle.psm_object.specs.Plans.{plan_lines}
use Rattle.psm_object.specs.Queries.{cursor_line, query_lines}
use Rattle.psm_object.specs.Routines.{access_lines, handling_lines, parameter_line, routine_line, routine_lines, slot_line, variable_lines}
use Rattle.psm_object.specs.Tables.{tables_lines}
use Rattle.psm_load_line.specs.Forms.{HandlerHead}
use Rattle.psm_load_line.specs.Heads.{ConditionHead, EachIs, IsCodeLine, IsConditionHead, IsContext, IsCursor, IsHandlerHead, IsParameter, IsRoutineHead, condition_head_line, first_head_line, handler_head_line, routine_head_line}
use Rattle.psm_load_line.specs.RoutineForms.{ControlCounts, DataCounts, RoutineHead}
use Rattle.psm_load_line.specs.Said.{declared_of, handler_of}
use Rattle.psm_load_line.proofs.Forms.{AreTwo, handler_written}
use Rattle.psm_load_line.proofs.Instructions.{code_line_written}
use Rattle.psm_load_line.proofs.OtherForms.{condition_written, context_written, cursor_written, first_written, parameter_written, routine_written, slot_written}
use Rattle.psm_load.specs.Listed.{IsListed, IsListedCondition, IsListedHandler, IsListedPlan, IsListedQuery, IsListedRoutine, IsListedTable, routine_head, texts_of}
use Rattle.psm_load.specs.Stated.{access_by, code, condition, handler, handling_by, keys_of, routine, routine_of, tables_of, variables_by}
use Rattle.psm_load.specs.declared.tables.TableText.{TableText}
use Rattle.psm_load.proofs.Conditions.{condition_again, condition_fits, condition_head, condition_line_is, condition_said, handler_again, handler_fits, handler_head, handler_line_is, handler_said}
use Rattle.psm_load.proofs.DueLines.{head_is}
use Rattle.psm_load.proofs.Following.{Lines}
use Rattle.psm_load.proofs.CleanCode.{HasValues, BreaksNoRule, clean_code}
use Rattle.psm_load.proofs.Spelling.{Several, Spells, Valid, spells_as, spells_flat, spells_made, spells_map, spells_one, spells_then, spells_times}
use Rattle.psm_load.proofs.TableTexts.{keys_again, tables_again, text_lines, texts_again, texts_length, texts_lines, turn_again}
use Rattle.psm_load.proofs.WrittenParts.{length_map, spells_plan, spells_query, spells_table}

-- ---- conditions and handlers, by what their lines say

abbrev Conditions : Type 0
Conditions = (h : ConditionHead) × IsConditionHead h

abbrev condition_of : Conditions → Declared
condition_of t = declared_of t.0

abbrev condition_says : Conditions → Lines
condition_says t = condition_head_line t.0 ∷ []

spells_condition : Spells Conditions condition_of condition_says condition
spells_condition = spells_made _ (spells_one condition_written)

conditions_said : (ts : List Conditions) → EachIs (λ d. declared_fault d ≡ None) (map condition_of ts)
    → (flat_map condition_says ts ≡ map condition_line (map condition_of ts)) × EachIs IsListedCondition (map condition_of ts)
conditions_said [] h = (refl, tt)
conditions_said (t ∷ ts) h =
    let first = condition_said t.0 t.1 h.0 in
    let others = conditions_said ts h.1 in
    (ap₂ (λ l ls. l ∷ ls) first.0 others.0, (first.1, others.1))

conditions_again : (ds : List Declared) → EachIs IsListedCondition ds
    → (ts : List Conditions) × (length ts ≡ length ds) × (ds ≡ map condition_of ts) × (map condition_line ds ≡ flat_map condition_says ts)
conditions_again [] v = ([], refl, refl, refl)
conditions_again (d ∷ ds) v =
    let others = conditions_again ds v.1 in (
      (condition_head d, condition_fits d v.0) ∷ others.0,
      ap suc others.1,
      ap₂ (λ e es. e ∷ es) (condition_again d v.0) others.2,
      ap₂ (λ l ls. l ∷ ls) (condition_line_is d) others.3,
    )

abbrev Handlers : Type 0
Handlers = (h : HandlerHead) × IsHandlerHead h

abbrev handler_by : Handlers → Handler
handler_by t = handler_of t.0

abbrev handler_says : Handlers → Lines
handler_says t = handler_head_line t.0 ∷ []

spells_handler : Spells Handlers handler_by handler_says handler
spells_handler = spells_made _ (spells_one handler_written)

handlers_said : (r : RawRoutine) (ts : List Handlers) → EachIs (HasValues r) (map handler_by ts) → (flat_map handler_says ts ≡ map handler_line (map handler_by ts)) × EachIs IsListedHandler (map handler_by ts)
handlers_said r [] h = (refl, tt)
handlers_said r (t ∷ ts) h =
    let first = handler_said r t.0 t.1 h.0 in
    let others = handlers_said r ts h.1 in
    (ap₂ (λ l ls. l ∷ ls) first.0 others.0, (first.1, others.1))

handlers_again : (hs : List Handler) → EachIs IsListedHandler hs → (ts : List Handlers) × (length ts ≡ length hs) × (hs ≡ map handler_by ts) × (map handler_line hs ≡ flat_map handler_says ts)
handlers_again [] v = ([], refl, refl, refl)
handlers_again (h ∷ hs) v =
    let others = handlers_again hs v.1 in (
      (handler_head h, handler_fits h v.0) ∷ others.0,
      ap suc others.1,
      ap₂ (λ e es. e ∷ es) (handler_again h v.0) others.2,
      ap₂ (λ l ls. l ∷ ls) (handler_line_is h) others.3,
    )

-- ---- the parts of a routine

abbrev Variables : DataCounts → Type 0
Variables c = Valid IsParameter c.0 × Valid FitsType c.1.0

abbrev variables_of : (c : DataCounts) → Variables c → List Parameter × List SqlType
variables_of c t = (t.0.0, t.1.0)

spells_variables : (c : DataCounts) → Spells (Variables c) (variables_of c) (λ t. map parameter_line t.0.0 ++ map slot_line t.1.0) (variables_by c)
spells_variables c = spells_then (spells_map parameter_line c.0 (spells_one parameter_written)) (λ ps. spells_made _ (spells_map slot_line c.1.0 (spells_one slot_written)))

abbrev Accesses : DataCounts → Type 0
Accesses c = Valid IsListedQuery c.1.1.0 × (Valid IsCursor c.1.1.1.0 × Valid IsListedPlan c.1.1.1.1)

abbrev access_of : (c : DataCounts) → Accesses c → List Query × (List CodeCursor × List Plan)
access_of c t = (t.0.0, (t.1.0.0, t.1.1.0))

abbrev access_says : (c : DataCounts) → Accesses c → Lines
access_says c t = flat_map query_lines t.0.0 ++ map cursor_line t.1.0.0 ++ flat_map plan_lines t.1.1.0

spells_access : (c : DataCounts) → Spells (Accesses c) (access_of c) (access_says c) (access_by c)
spells_access c = spells_as
    (λ t. (t, refl, sym (append_assoc (flat_map query_lines t.0.0) (map cursor_line t.1.0.0) (flat_map plan_lines t.1.1.0))))
    (λ u. (u, refl, append_assoc (flat_map query_lines u.0.0) (map cursor_line u.1.0.0) (flat_map plan_lines u.1.1.0)))
    (spells_then (spells_flat query_lines c.1.1.0 spells_query) (λ qs. spells_then (spells_map cursor_line c.1.1.1.0 (spells_one cursor_written)) (λ cs. spells_made _ (spells_flat plan_lines c.1.1.1.1 spells_plan))))

abbrev Handlings : ControlCounts → Type 0
Handlings c = Several Conditions c.0 × (Valid IsContext c.1.0 × Several Handlers c.1.1.0)

abbrev handling_of : (c : ControlCounts) → Handlings c → HandlerTable
handling_of c t = record { declared = map condition_of t.0.0; contexts = t.1.0.0; handlers = map handler_by t.1.1.0 }

abbrev handling_says : (c : ControlCounts) → Handlings c → Lines
handling_says c t = flat_map condition_says t.0.0 ++ map context_line t.1.0.0 ++ flat_map handler_says t.1.1.0

spells_handling : (c : ControlCounts) → Spells (Handlings c) (handling_of c) (handling_says c) (handling_by c)
spells_handling c = spells_as
    (λ t. (t, refl, sym (append_assoc (flat_map condition_says t.0.0) (map context_line t.1.0.0) (flat_map handler_says t.1.1.0))))
    (λ u. (u, refl, append_assoc (flat_map condition_says u.0.0) (map context_line u.1.0.0) (flat_map handler_says u.1.1.0)))
    (spells_then (spells_times condition_of condition_says c.0 spells_condition) (λ ds. spells_then (spells_map context_line c.1.0 (spells_one context_written)) (λ cs. spells_made _ (spells_times handler_by handler_says c.1.1.0 spells_handler))))

-- ---- routines

abbrev Routines : Type 0
Routines = (h : (h : RoutineHead) × IsRoutineHead h) × (Variables h.0.1.1.0 × (Accesses h.0.1.1.0 × (Handlings h.0.1.1.1.0 × Valid IsCodeLine h.0.1.1.1.0.1.1.1)))

abbrev routine_by_trace : Routines → RawRoutine
routine_by_trace t = routine_of t.0.0 (variables_of t.0.0.1.1.0 t.1.0) (access_of t.0.0.1.1.0 t.1.1.0) (handling_of t.0.0.1.1.1.0 t.1.1.1.0) t.1.1.1.1.0

abbrev routine_says : Routines → Lines
routine_says t = routine_head_line t.0.0 ∷ ((map parameter_line t.1.0.0.0 ++ map slot_line t.1.0.1.0) ++ (access_says t.0.0.1.1.0 t.1.1.0 ++ (handling_says t.0.0.1.1.1.0 t.1.1.1.0 ++ map code_line t.1.1.1.1.0)))

spells_routine : Spells Routines routine_by_trace routine_says routine
spells_routine = spells_then (spells_one routine_written) (λ h. spells_then (spells_variables h.1.1.0) (λ vs. spells_then (spells_access h.1.1.0) (λ access. spells_then (spells_handling h.1.1.1.0) (λ hs. spells_made _ (spells_map code_line h.1.1.1.0.1.1.1 (spells_one code_line_written))))))

abbrev paired : {A B : Type 0} → A → B → A × B
paired a b = (a, b)

routine_counts : (t : Routines) → routine_head (routine_by_trace t) ≡ t.0.0
routine_counts t =
    let vs = t.1.0 in
    let a = t.1.1.0 in
    let h = t.1.1.1.0 in
    let kept : (routine_head (routine_by_trace t)).1.1.0 ≡ t.0.0.1.1.0 = ap₂ paired vs.0.1 (ap₂ paired vs.1.1 (ap₂ paired a.0.1 (ap₂ paired a.1.0.1 a.1.1.1))) in
    let control : (routine_head (routine_by_trace t)).1.1.1.0 ≡ t.0.0.1.1.1.0 =
    ap₂ paired (length_map condition_of h.0.0 ∙ h.0.1) (ap₂ paired h.1.0.1 (ap₂ paired (length_map handler_by h.1.1.0 ∙ h.1.1.1) t.1.1.1.1.1)) in
    ap₂ (λ (d : DataCounts) (c : ControlCounts). paired t.0.0.0 (paired t.0.0.1.0 (paired d (paired c t.0.0.1.1.1.1)))) kept control

-- the four groups after the line of a routine
regroup : (a b c d : Lines) → a ++ (b ++ (c ++ d)) ≡ ((a ++ b) ++ c) ++ d
regroup a b c d = sym (append_assoc a b (c ++ d)) ∙ sym (append_assoc (a ++ b) c d)

routine_said : (t : Routines) → BreaksNoRule (routine_by_trace t) → (routine_says t ≡ routine_lines (routine_by_trace t)) × IsListedRoutine (routine_by_trace t)
routine_said t s =
    let r = routine_by_trace t in
    let h = t.1.1.1.0 in
    let declared = conditions_said h.0.0 s.declared in
    let handlers = handlers_said r h.1.1.0 s.handlers in
    let head : routine_head r ≡ t.0.0 = routine_counts t in
    let handling : handling_says t.0.0.1.1.1.0 h ≡ handling_lines r = ap₂ (λ ds hs. ds ++ map context_line h.1.0.0 ++ hs) declared.0 handlers.0 in
    let first : routine_head_line t.0.0 ≡ routine_head_line (routine_head r) = ap routine_head_line (sym head) in (
      ap₂ (λ l hs. l ∷ (variable_lines r ++ (access_lines r ++ (hs ++ map code_line r.lines)))) (first ∙ sym (head_is r)) handling
          ∙ ap (λ ls. routine_line r ∷ ls) (regroup (variable_lines r) (access_lines r) (handling_lines r) (map code_line r.lines)),
      record {
        head = subst IsRoutineHead (sym head) t.0.1;
        parameters = t.1.0.0.2;
        variables = t.1.0.1.2;
        queries = t.1.1.0.0.2;
        cursors = t.1.1.0.1.0.2;
        plans = t.1.1.0.1.1.2;
        conditions = declared.1;
        contexts = h.1.0.2;
        handlers = handlers.1;
        lines = t.1.1.1.1.2;
      },
    )

abbrev with_handling : RawRoutine → List Declared → List Handler → RawRoutine
with_handling r ds hs = record r { handlers = record { declared = ds; contexts = r.handlers.contexts; handlers = hs } }

routine_again : (r : RawRoutine) → IsListedRoutine r → (t : Routines) × (r ≡ routine_by_trace t) × (routine_lines r ≡ routine_says t)
routine_again r v =
    let declared = conditions_again r.handlers.declared v.conditions in
    let handlers = handlers_again r.handlers.handlers v.handlers in
    let t : Routines = (
      (routine_head r, v.head),
      (
        ((r.parameters, refl, v.parameters), (r.variables, refl, v.variables)),
        (
          ((r.queries, refl, v.queries), ((r.cursors, refl, v.cursors), (r.plans, refl, v.plans))),
          (((declared.0, declared.1), ((r.handlers.contexts, refl, v.contexts), (handlers.0, handlers.1))), (r.lines, refl, v.lines)),
        ),
      ),
    ) in
    let handling : handling_lines r ≡ handling_says t.0.0.1.1.1.0 t.1.1.1.0 = ap₂ (λ ds hs. ds ++ map context_line r.handlers.contexts ++ hs) declared.3 handlers.3 in (
      t,
      ap₂ (with_handling r) declared.2 handlers.2,
      ap₂ (λ l ls. l ∷ ls) (head_is r) (sym (regroup (variable_lines r) (access_lines r) (handling_lines r) (map code_line r.lines)) ∙ ap (λ hs. variable_lines r ++ (access_lines r ++ (hs ++ map code_line r.lines))) handling),
    )

-- ---- code

abbrev pub Codes : Type 0
Codes = (h : (c : ℕ × ℕ) × AreTwo c) × (Valid IsListedTable h.0.0 × Several Routines h.0.1)

abbrev pub code_of : Codes → RawCode
code_of t = record { tables = tables_of t.1.0.0; keys = keys_of 0 t.1.0.0; routines = map routine_by_trace t.1.1.0 }

abbrev pub code_says : Codes → Lines
code_says t = first_head_line t.0.0 ∷ (flat_map text_lines t.1.0.0 ++ flat_map routine_says t.1.1.0)

pub spells_code : Spells Codes code_of code_says code
spells_code = spells_then (spells_one first_written) (λ c. spells_then (spells_made _ (spells_flat text_lines c.0 spells_table)) (λ ts. spells_made _ (spells_times routine_by_trace routine_says c.1 spells_routine)))

routines_said : (ts : List Routines) → EachIs BreaksNoRule (map routine_by_trace ts) → (flat_map routine_says ts ≡ flat_map routine_lines (map routine_by_trace ts)) × EachIs IsListedRoutine (map routine_by_trace ts)
routines_said [] s = (refl, tt)
routines_said (t ∷ ts) s =
    let first = routine_said t s.0 in
    let others = routines_said ts s.1 in
    (ap₂ (λ l ls. l ++ ls) first.0 others.0, (first.1, others.1))

routines_again : (rs : List RawRoutine) → EachIs IsListedRoutine rs → (ts : List Routines) × (length ts ≡ length rs) × (rs ≡ map routine_by_trace ts) × (flat_map routine_lines rs ≡ flat_map routine_says ts)
routines_again [] v = ([], refl, refl, refl)
routines_again (r ∷ rs) v =
    let first = routine_again r v.0 in
    let others = routines_again rs v.1 in
    (first.0 ∷ others.0, ap suc others.1, ap₂ (λ s ss. s ∷ ss) first.1 others.2, ap₂ (λ l ls. l ++ ls) first.2 others.3)

pub code_said : (t : Codes) → first_fault (code_of t) ≡ None → (code_says t ≡ lines_of (code_of t)) × IsListed (code_of t)
code_said t e =
    let routines = routines_said t.1.1.0 (clean_code (code_of t) e) in
    let texts = t.1.0.0 in
    let long : length (tables_of texts) ≡ length texts = length_map (λ (x : TableText). x.table) texts in
    let counts : (length (tables_of texts), length (map routine_by_trace t.1.1.0)) ≡ t.0.0 = ap₂ paired (long ∙ t.1.0.1) (length_map routine_by_trace t.1.1.0 ∙ t.1.1.1) in
    let tables : flat_map text_lines texts ≡ tables_lines (keys_of 0 texts) 0 (tables_of texts) = ap (flat_map text_lines) (sym (texts_again 0 texts)) ∙ texts_lines (keys_of 0 texts) 0 (tables_of texts) in (
      (λ i. first_head_line (sym counts i) ∷ (tables i ++ routines.0 i)),
      record {
        counts = subst AreTwo (sym counts) t.0.1;
        in_turn = ap (λ n. are_in_turn 0 n (keys_of 0 texts)) long ∙ turn_again texts;
        tables = subst (EachIs IsListedTable) (sym (texts_again 0 texts)) t.1.0.2;
        routines = routines.1;
      },
    )

pub code_again : (code : RawCode) → IsListed code → (t : Codes) × (code ≡ code_of t) × (lines_of code ≡ code_says t)
code_again code v =
    let routines = routines_again code.routines v.routines in
    let texts = texts_of code.keys 0 code.tables in
    let tables : code.tables ≡ tables_of texts = sym (tables_again code.keys 0 code.tables) in
    let keys : code.keys ≡ keys_of 0 texts = sym (keys_again code.keys code.tables v.in_turn) in
    let lines : tables_lines code.keys 0 code.tables ≡ flat_map text_lines texts = sym (texts_lines code.keys 0 code.tables) in (
      (((length code.tables, length code.routines), v.counts), ((texts, texts_length code.keys 0 code.tables, v.tables), (routines.0, routines.1))),
      (λ i. record { tables = tables i; keys = keys i; routines = routines.2 i }),
      ap₂ (λ ts ls. first_head_line (length code.tables, length code.routines) ∷ (ts ++ ls)) lines routines.3,
    )
