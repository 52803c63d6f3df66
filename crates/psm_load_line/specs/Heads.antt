-- The lines of a listing that count others, by what they say alone, and the values that a line can say.
use Rattle.std.specs.Prelude.{◌≡◌, ℕ, ◌≤◌, List, [], ◌∷◌, ◌++◌, codes, length, map, IsTrue, Ok, Option, Some, None}
use Rattle.std.specs.Str.{all_scalars}
use Rattle.psm_text.specs.Name.{name_of}
use Rattle.psm_cond.specs.declared.handlers.Context.{Context}
use Rattle.psm_cond.specs.declared.handlers.ContextKind.{ContextKind}
use Rattle.psm_cond.specs.declared.handlers.ContextKind.TheVariants as kinds
use Rattle.psm_table.specs.declared.definition.Column.{Column}
use Rattle.psm_exprcode.specs.declared.op.Op.{Op}
use Rattle.psm_exprcode.specs.declared.op.Op.TheVariants as op
use Rattle.psm_exprcode.specs.Kinds.{is_value}
use Rattle.psm_code.specs.declared.code.CodeCursor.{CodeCursor}
use Rattle.psm_code.specs.declared.code.CodeTable.{CodeTable}
use Rattle.psm_code.specs.declared.code.Parameter.{Parameter}
use Rattle.psm_code.specs.declared.instruction.Instruction.{Instruction}
use Rattle.psm_code.specs.declared.instruction.Instruction.TheVariants as instruction
use Rattle.psm_code.specs.declared.lines.CodeLine.{CodeLine}
use Rattle.psm_words.specs.Words.{number, quoted, state_word, type_word, FitsType, IsDatum, IsStateWord}
use Rattle.psm_object.specs.Handlers.{handler_kind_word}
use Rattle.psm_object.specs.Words.{flag, spaced}
use Rattle.psm_object.specs.Queries.{direction_word, function_word}
use Rattle.psm_object.specs.Routines.{routine_kind_word}
use Rattle.psm_load_line.specs.Forms.{HandlerHead, ItemHead, PlanHead, QueryHead, ReferenceWords, TableHead, ValueWord, Delete, DeleteAt, Function, Insert, InsertQuery, Named, NotFound, Rows, SqlException, SqlWarning, State, Update, UpdateAt, Value}
use Rattle.psm_load_line.specs.RoutineForms.{ControlCounts, DataCounts, RoutineHead}

-- ---- what a word can say

-- a number that is no part of a datum or of a type
abbrev pub IsIndex : ℕ → Type 0
IsIndex n = n ≤ 4294967295

-- the characters of a name
abbrev pub IsName : List ℕ → Type 0
IsName t = IsTrue (all_scalars t) × (name_of t ≡ Ok t)

abbrev pub EachIs : {A : Type 0} → (A → Type 0) → List A → Type 0
EachIs V [] = Unit {0}
EachIs V (a ∷ others) = V a × EachIs V others

-- ---- tables and expressions

-- of a table with its FOREIGN KEY constraints
abbrev pub table_head : {A : Type 0} → List A → CodeTable → TableHead
table_head own t = (t.definition.name, (length t.definition.columns, (length t.definition.unique, (length t.checks, length own))))

abbrev pub table_head_line : TableHead → List ℕ
table_head_line h = spaced (codes "TABLE" ∷ quoted h.0 ∷ number h.1.0 ∷ number h.1.1.0 ∷ number h.1.1.1.0 ∷ number h.1.1.1.1 ∷ [])

abbrev pub IsTableHead : TableHead → Type 0
IsTableHead h = IsName h.0 × (IsIndex h.1.0 × (IsIndex h.1.1.0 × (IsIndex h.1.1.1.0 × IsIndex h.1.1.1.1)))

abbrev pub expression_head_line : ℕ → List ℕ
expression_head_line m = spaced (codes "EXPR" ∷ number m ∷ [])

-- ---- plans

abbrev pub plan_name : PlanHead → List ℕ
plan_name (Insert table rows column columns) = codes "INSERT"
plan_name (InsertQuery table query column columns) = codes "INSERTQ"
plan_name (Update table sets has_test) = codes "UPDATE"
plan_name (Delete table has_test) = codes "DELETE"
plan_name (UpdateAt cursor sets) = codes "UPDATEAT"
plan_name (DeleteAt cursor) = codes "DELETEAT"

abbrev pub plan_details : PlanHead → List (List ℕ)
plan_details (Insert table rows column columns) = number table ∷ number rows ∷ map number (column ∷ columns)
plan_details (InsertQuery table query column columns) = number table ∷ number query ∷ map number (column ∷ columns)
plan_details (Update table sets has_test) = number table ∷ number sets ∷ flag has_test ∷ []
plan_details (Delete table has_test) = number table ∷ flag has_test ∷ []
plan_details (UpdateAt cursor sets) = number cursor ∷ number sets ∷ []
plan_details (DeleteAt cursor) = number cursor ∷ []

abbrev pub plan_head_line : PlanHead → List ℕ
plan_head_line p = spaced (codes "PLAN" ∷ plan_name p ∷ plan_details p)

abbrev pub IsPlanHead : PlanHead → Type 0
IsPlanHead (Insert table rows column columns) = (IsIndex table × IsIndex rows) × (IsIndex column × EachIs IsIndex columns)
IsPlanHead (InsertQuery table query column columns) = (IsIndex table × IsIndex query) × (IsIndex column × EachIs IsIndex columns)
IsPlanHead (Update table sets has_test) = IsIndex table × IsIndex sets
IsPlanHead (Delete table has_test) = IsIndex table
IsPlanHead (UpdateAt cursor sets) = IsIndex cursor × IsIndex sets
IsPlanHead (DeleteAt cursor) = IsIndex cursor

-- ---- handlers

abbrev pub value_head : ValueWord → List ℕ
value_head (Named n) = codes "N=" ++ number n
value_head (State t) = codes "S=" ++ state_word t
value_head SqlException = codes "X"
value_head SqlWarning = codes "W"
value_head NotFound = codes "F"

abbrev pub IsValueWord : ValueWord → Type 0
IsValueWord (Named n) = IsIndex n
IsValueWord (State t) = IsStateWord t
IsValueWord SqlException = Unit {0}
IsValueWord SqlWarning = Unit {0}
IsValueWord NotFound = Unit {0}

abbrev pub handler_head_line : HandlerHead → List ℕ
handler_head_line h = spaced (codes "HANDLER" ∷ number h.0.0 ∷ handler_kind_word h.0.1.0 ∷ number h.0.1.1 ∷ map value_head (h.1.0 ∷ h.1.1))

abbrev pub IsHandlerHead : HandlerHead → Type 0
IsHandlerHead h = (IsIndex h.0.0 × IsIndex h.0.1.1) × (IsValueWord h.1.0 × EachIs IsValueWord h.1.1)

-- ---- instructions

abbrev pub IsOperation : Op → Type 0
IsOperation (op.Constant k d) = IsTrue (is_value k) × IsDatum d
IsOperation (op.Variable i) = IsIndex i
IsOperation (op.Column i) = IsIndex i
IsOperation (op.Rescale s) = s ≤ 255
IsOperation (op.In n) = IsIndex n
IsOperation (op.Cast to) = FitsType to
IsOperation (op.Jump p) = IsIndex p
IsOperation (op.JumpUnlessTrue p) = IsIndex p
IsOperation (op.JumpUnlessNull p) = IsIndex p
IsOperation o = Unit {0}

abbrev pub IsInstruction : Instruction → Type 0
IsInstruction (instruction.Operation o) = IsOperation o
IsInstruction (instruction.Store slot) = IsIndex slot
IsInstruction (instruction.FetchStore slot) = IsIndex slot
IsInstruction (instruction.Enter c) = IsIndex c
IsInstruction (instruction.Exit c) = IsIndex c
IsInstruction (instruction.EndAction h) = IsIndex h
IsInstruction (instruction.Call n) = IsIndex n
IsInstruction (instruction.FunctionCall n) = IsIndex n
IsInstruction (instruction.Exists q) = IsIndex q
IsInstruction (instruction.Scalar q) = IsIndex q
IsInstruction (instruction.Row q) = IsIndex q
IsInstruction (instruction.Data p) = IsIndex p
IsInstruction (instruction.Open c) = IsIndex c
IsInstruction (instruction.Close c) = IsIndex c
IsInstruction (instruction.Fetch c) = IsIndex c
IsInstruction (instruction.Next c p) = IsIndex c × IsIndex p
IsInstruction (instruction.Signal n) = IsIndex n
IsInstruction (instruction.SignalMessage n) = IsIndex n
IsInstruction (instruction.ResignalCondition n) = IsIndex n
IsInstruction (instruction.ResignalMessage n) = IsIndex n
IsInstruction i = Unit {0}

abbrev pub IfThere : {A : Type 0} → (A → Type 0) → Option A → Type 0
IfThere V None = Unit {0}
IfThere V (Some a) = V a

abbrev pub IsCodeLine : CodeLine → Type 0
IsCodeLine l = IsIndex l.context × IfThere IsIndex l.resume × IsInstruction l.instruction

-- ---- the first line, queries, routines and declared conditions

abbrev pub first_head_line : ℕ × ℕ → List ℕ
first_head_line h = spaced (codes "PSM" ∷ codes "3" ∷ number h.0 ∷ number h.1 ∷ [])

abbrev pub query_head_line : QueryHead → List ℕ
query_head_line h = spaced (codes "QUERY" ∷ number h.0 ∷ direction_word h.1.0 ∷ number h.1.1.0 ∷ flag h.1.1.1 ∷ [])

abbrev pub IsQueryHead : QueryHead → Type 0
IsQueryHead h = IsIndex h.0 × IsIndex h.1.1.0

abbrev pub item_name : ItemHead → List ℕ
item_name Value = codes "ITEM"
item_name (Function f) = codes "AGG"
item_name Rows = codes "AGG"

abbrev pub item_details : ItemHead → List (List ℕ)
item_details Value = []
item_details (Function f) = function_word f ∷ []
item_details Rows = codes "COUNT*" ∷ []

abbrev pub item_head_line : ItemHead → List ℕ
item_head_line i = spaced (item_name i ∷ item_details i)

abbrev pub or_dash : {A : Type 0} → (A → List ℕ) → Option A → List ℕ
or_dash write None = codes "-"
or_dash write (Some a) = write a

abbrev pub routine_head_line : RoutineHead → List ℕ
routine_head_line h = spaced (
    codes "ROUTINE" ∷ routine_kind_word h.0 ∷ quoted h.1.0
    ∷ number h.1.1.0.0 ∷ number h.1.1.0.1.0 ∷ number h.1.1.0.1.1.0 ∷ number h.1.1.0.1.1.1.0 ∷ number h.1.1.0.1.1.1.1
    ∷ number h.1.1.1.0.0 ∷ number h.1.1.1.0.1.0 ∷ number h.1.1.1.0.1.1.0 ∷ number h.1.1.1.0.1.1.1
    ∷ or_dash type_word h.1.1.1.1 ∷ [])

abbrev pub AreDataCounts : DataCounts → Type 0
AreDataCounts c = IsIndex c.0 × (IsIndex c.1.0 × (IsIndex c.1.1.0 × (IsIndex c.1.1.1.0 × IsIndex c.1.1.1.1)))

abbrev pub AreControlCounts : ControlCounts → Type 0
AreControlCounts c = IsIndex c.0 × (IsIndex c.1.0 × (IsIndex c.1.1.0 × IsIndex c.1.1.1))

abbrev pub IsRoutineHead : RoutineHead → Type 0
IsRoutineHead h = IsName h.1.0 × (AreDataCounts h.1.1.0 × (AreControlCounts h.1.1.1.0 × IfThere FitsType h.1.1.1.1))

abbrev pub ConditionHead : Type 0
ConditionHead = List ℕ × Option (List ℕ)

abbrev pub condition_head_line : ConditionHead → List ℕ
condition_head_line h = spaced (codes "COND" ∷ state_word h.0 ∷ or_dash quoted h.1 ∷ [])

abbrev pub IsConditionHead : ConditionHead → Type 0
IsConditionHead h = IsStateWord h.0 × IfThere IsName h.1

-- ---- what lines that count no others can say

abbrev pub IsColumn : Column → Type 0
IsColumn c = IsName c.name × FitsType c.kind × IsDatum c.default

-- the numbers of columns, the first of which is there
abbrev pub AreColumns : ℕ × List ℕ → Type 0
AreColumns x = IsIndex x.0 × EachIs IsIndex x.1

-- the columns of a FOREIGN KEY constraint, and the table and the columns to which they refer
abbrev pub AreReferenceWords : ReferenceWords → Type 0
AreReferenceWords x = AreColumns x.0 × (IsIndex x.1.0 × AreColumns x.1.1)

abbrev pub IsParameter : Parameter → Type 0
IsParameter p = IsName p.name × FitsType p.kind

abbrev pub IsCursor : CodeCursor → Type 0
IsCursor c = IsName c.name × IsIndex c.query

abbrev pub IsContextKind : ContextKind → Type 0
IsContextKind (kinds.Block b) = IsIndex b.exit × EachIs IsIndex b.cursors
IsContextKind (kinds.Action handler) = IsIndex handler

abbrev pub IsContext : Context → Type 0
IsContext c = IsIndex c.parent × IsContextKind c.kind
