-- What a name means at a place.
use Rattle.std.specs.Prelude.{ℕ, suc, Bool, true, false, ◌&&◌, ◌||◌, Option, Some, None, List, [], ◌∷◌, if◌then◌else◌}
use Rattle.psm_scope.specs.Scopes.{Spelling, is_spelled, declared_in, Scope, Routine, Compound, Loop, For, Action}

-- ---- among names

-- what the first of that name is
abbrev pub named : {A : Type 0} → Spelling → List (Spelling × A) → Option A
named n [] = None
named n (p ∷ more) = if is_spelled n p.0 then Some p.1 else named n more

-- the index, counted from i, of the first of that name
abbrev pub index_named : {A : Type 0} → ℕ → Spelling → List (Spelling × A) → Option (ℕ × A)
index_named i n [] = None
index_named i n (p ∷ more) = if is_spelled n p.0 then Some (i, p.1) else index_named (suc i) n more

-- the first answer
abbrev pub or_else : {A : Type 0} → Option A → Option A → Option A
or_else (Some a) other = Some a
or_else None other = other

-- ---- variables, conditions and cursors: the innermost declaration counts

abbrev pub variable : {V C K : Type 0} → Spelling → List (Scope V C K) → Option V
variable n [] = None
variable n (f ∷ outer) = or_else (named n (declared_in f).variables) (variable n outer)

abbrev pub condition : {V C K : Type 0} → Spelling → List (Scope V C K) → Option C
condition n [] = None
condition n (f ∷ outer) = or_else (named n (declared_in f).conditions) (condition n outer)

abbrev pub cursor : {V C K : Type 0} → Spelling → List (Scope V C K) → Option K
cursor n [] = None
cursor n (f ∷ outer) = or_else (named n (declared_in f).cursors) (cursor n outer)

-- ---- labels

abbrev pub is_label : Spelling → Option Spelling → Bool
is_label l None = false
is_label l (Some label) = is_spelled l label

abbrev pub seen_label : Bool → Option Spelling → List (Spelling × Bool) → List (Spelling × Bool)
seen_label loops None more = more
seen_label loops (Some label) more = (label, loops) ∷ more

-- the labels that are seen, innermost first, each with whether it is a loop's; an action sees none from outside
abbrev pub labels : {V C K : Type 0} → List (Scope V C K) → List (Spelling × Bool)
labels [] = []
labels (Routine name d ∷ outer) = labels outer
labels (Compound label d ∷ outer) = seen_label false label (labels outer)
labels (Loop label ∷ outer) = seen_label true label (labels outer)
labels (For label name d ∷ outer) = seen_label true label (labels outer)
labels (Action ∷ outer) = []

-- ---- qualified names: q is the label of a compound statement, the name of a FOR statement or of the routine. In an action
-- the labels outside it aren't seen, but those names are. The innermost that is called q decides.

abbrev pub is_called : {V C K : Type 0} → Bool → Spelling → Scope V C K → Bool
is_called sees q (Routine name d) = is_spelled q name
is_called sees q (Compound label d) = sees && is_label q label
is_called sees q (Loop label) = false
is_called sees q (For label name d) = is_spelled q name
is_called sees q Action = false

-- whether the labels outside a scope are seen
abbrev pub sees_past : {V C K : Type 0} → Bool → Scope V C K → Bool
sees_past sees (Routine name d) = sees
sees_past sees (Compound label d) = sees
sees_past sees (Loop label) = sees
sees_past sees (For label name d) = sees
sees_past sees Action = false

abbrev pub variables_called : {V C K : Type 0} → Bool → Spelling → List (Scope V C K) → Option (List (Spelling × V))
variables_called sees q [] = None
variables_called sees q (f ∷ outer) = if is_called sees q f then Some (declared_in f).variables else variables_called (sees_past sees f) q outer

abbrev pub named_among : {A : Type 0} → Spelling → Option (List (Spelling × A)) → Option A
named_among n None = None
named_among n (Some declared) = named n declared

abbrev pub qualified : {V C K : Type 0} → Spelling → Spelling → List (Scope V C K) → Option V
qualified q n fs = named_among n (variables_called true q fs)

-- a name, or q.n, in a control expression
abbrev pub meant : {V C K : Type 0} → Spelling → Option Spelling → List (Scope V C K) → Option V
meant n None fs = variable n fs
meant q (Some n) fs = qualified q n fs

-- ---- row expressions: the columns of the table come first

-- the table of a row expression: its name, its alias and its columns; X is what is known of a column
pub record RowTable (X : Type 0) : Type 0 where
  pub name : Spelling
  pub alias : Option Spelling
  pub columns : List (Spelling × X)

pub data Meaning (V X : Type 0) : Type 0 where
  -- the column with that number
  Column : ℕ → X → Meaning V X
  Variable : V → Meaning V X

abbrev pub as_column : {V X : Type 0} → Option (ℕ × X) → Option (Meaning V X)
as_column None = None
as_column (Some p) = Some (Column p.0 p.1)

abbrev pub as_variable : {V X : Type 0} → Option V → Option (Meaning V X)
as_variable None = None
as_variable (Some v) = Some (Variable v)

-- whether q is the table's name or its alias
abbrev pub is_table : {X : Type 0} → Spelling → RowTable X → Bool
is_table q t = is_spelled q t.name || is_label q t.alias

abbrev pub column_meant : {X : Type 0} → Spelling → Option Spelling → RowTable X → Option (ℕ × X)
column_meant n None t = index_named 0 n t.columns
column_meant q (Some n) t = if is_table q t then index_named 0 n t.columns else None

-- a name, or q.n, in a row expression
abbrev pub meant_on_row : {V C K X : Type 0} → Spelling → Option Spelling → RowTable X → List (Scope V C K) → Option (Meaning V X)
meant_on_row first second t fs = or_else (as_column (column_meant first second t)) (as_variable (meant first second fs))
