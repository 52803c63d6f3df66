-- What look-up finds among names has the name, and what it finds in scopes is among what these declare.
use Rattle.std.proofs.Common.{◌≡◌, ◌+◌, ◌⊎◌, inl, inr, ℕ, suc, Bool, true, false, List, [], ◌∷◌, ◌++◌, length, Option, Some, None, option_map, is_some, refl, ap, sym, subst, if◌then◌else◌, arith}
use Rattle.std.specs.Prelude.{Contains, slice_get}
use Rattle.std.specs.Cmp.Lexicographic.{same_text}
use Rattle.std.proofs.lemmas.List.Elements.{Contains-append_left}
use Rattle.psm_value.specs.declared.sqltype.SqlType.{SqlType}
use Rattle.psm_scope.specs.Scopes.{Spelling, Declared, Scope, Routine, Compound, Loop, For, Action, is_spelled, declared_in}
use Rattle.psm_scope.specs.Lookup.{RowTable, named, index_named, named_among, or_else, is_label, is_called, is_table, sees_past, variables_called, meant, as_column, as_variable, column_meant, variable}
use Rattle.psm_scope.specs.Lookup as lookup
use Rattle.psm_scope.specs.KeptScopes.{declared_here, level, redeclared}
use Rattle.psm_rules.specs.BlockFaults.{declared_once, last_name}
use Rattle.psm_rules.specs.ExprFaults.{spelling}
use Rattle.psm_tree.specs.declared.name.Identifier.{Identifier}
use Rattle.psm_tree.specs.declared.name.Target.{Target}
use Rattle.psm_resolved.specs.declared.statement.ResolvedCondition.{ResolvedCondition}
use Rattle.psm_names.specs.Referents.{Null, Variable, Cursor, Condition, Block}
use Rattle.psm_names.specs.Occurrences as occurring
use Rattle.psm_names.specs.Occurrences.{EnclosingScopes, KnownVariable, Occurrence, name_meaning}
use Rattle.psm_names.specs.DeclaredNames.{IsBlock, IsCondition, IsCursor, IsMeant, IsNamed, IsVariable}

-- ---- by number

abbrev IsFrom : {A : Type 0} → ℕ → Spelling → List (Spelling × A) → Option (ℕ × A) → Type 0
IsFrom i n xs None = Unit {0}
IsFrom i n xs (Some p) = (j : ℕ) × (p.0 ≡ i + j) × (slice_get xs j ≡ Some (n, p.1))

from-next : {A : Type 0} (i : ℕ) (n : Spelling) (q : Spelling × A) (xs : List (Spelling × A)) (o : Option (ℕ × A)) → IsFrom (suc i) n xs o → IsFrom i n (q ∷ xs) o
from-next i n q xs None h = tt
from-next i n q xs (Some p) h = let e = h.1 in (suc h.0, omega (arith, e), h.2)

from-by : {A : Type 0} (i : ℕ) (n : Spelling) (q : Spelling × A) (xs : List (Spelling × A)) (b : Bool) → is_spelled n q.0 ≡ b → IsFrom (suc i) n xs (index_named (suc i) n xs)
    → IsFrom i n (q ∷ xs) (if b then Some (i, q.1) else index_named (suc i) n xs)
from-by i n q xs true e h = (0, omega arith, ap (λ m. Some (m, q.1)) (sym (same_text n q.0 (sym e))))
from-by i n q xs false e h = from-next i n q xs (index_named (suc i) n xs) h

index-from : {A : Type 0} (i : ℕ) (n : Spelling) (xs : List (Spelling × A)) → IsFrom i n xs (index_named i n xs)
index-from i n [] = tt
index-from i n (q ∷ xs) = from-by i n q xs (is_spelled n q.0) refl (index-from (suc i) n xs)

from-named : {A : Type 0} (n : Spelling) (xs : List (Spelling × A)) (o : Option (ℕ × A)) → IsFrom 0 n xs o → IsNamed n xs o
from-named n xs None h = tt
from-named n xs (Some p) h = let e = h.1 in let f : h.0 ≡ p.0 = omega (arith, e) in subst (λ k. slice_get xs k ≡ Some (n, p.1)) f h.2

pub index-named : {A : Type 0} (n : Spelling) (xs : List (Spelling × A)) → IsNamed n xs (index_named 0 n xs)
index-named n xs = from-named n xs (index_named 0 n xs) (index-from 0 n xs)

-- ---- by name

abbrev pub EachOf : {A : Type 0} → (Spelling → A → Type 0) → List (Spelling × A) → Type 0
EachOf P [] = Unit {0}
EachOf P (p ∷ ps) = P p.0 p.1 × EachOf P ps

abbrev Holds : {A : Type 0} → (A → Type 0) → Option A → Type 0
Holds P None = Unit {0}
Holds P (Some a) = P a

named-by : {A : Type 0} (P : Spelling → A → Type 0) (n : Spelling) (p : Spelling × A) (ps : List (Spelling × A)) (b : Bool) → is_spelled n p.0 ≡ b → P p.0 p.1 → Holds (P n) (named n ps) → Holds (P n) (if b then Some p.1 else named n ps)
named-by P n p ps true e h k = subst (λ m. P m p.1) (sym (same_text n p.0 (sym e))) h
named-by P n p ps false e h k = k

named-each : {A : Type 0} (P : Spelling → A → Type 0) (n : Spelling) (ps : List (Spelling × A)) → EachOf P ps → Holds (P n) (named n ps)
named-each P n [] h = tt
named-each P n (p ∷ ps) h = named-by P n p ps (is_spelled n p.0) refl h.0 (named-each P n ps h.1)

or-holds : {A : Type 0} (P : A → Type 0) (a b : Option A) → Holds P a → Holds P b → Holds P (or_else a b)
or-holds P (Some a) b h k = h
or-holds P None b h k = k

each-last : {A : Type 0} (P : Spelling → A → Type 0) (ps : List (Spelling × A)) (n : Spelling) (x : A) → EachOf P ps → P n x → EachOf P (ps ++ (n, x) ∷ [])
each-last P [] n x h k = (k, tt)
each-last P (p ∷ ps) n x h k = (h.0, each-last P ps n x h.1 k)

once-by : {A : Type 0} (P : Spelling → A → Type 0) (ps : List (Spelling × A)) (n : Spelling) (x : A) (b : Bool) → EachOf P ps → P n x → EachOf P (if b then ps else ps ++ (n, x) ∷ [])
once-by P ps n x true h k = h
once-by P ps n x false h k = each-last P ps n x h k

pub each-once : {A : Type 0} (P : Spelling → A → Type 0) (ps : List (Spelling × A)) (n : Spelling) (x : A) → EachOf P ps → P n x → EachOf P (declared_once ps n x)
each-once P ps n x h k = once-by P ps n x (is_some (named n ps)) h k

each-as : {A : Type 0} (P Q : Spelling → A → Type 0) → ((n : Spelling) (x : A) → P n x → Q n x) → (ps : List (Spelling × A)) → EachOf P ps → EachOf Q ps
each-as P Q f [] h = tt
each-as P Q f (p ∷ ps) h = (f p.0 p.1 h.0, each-as P Q f ps h.1)

-- ---- scopes whose declarations stand before

abbrev pub AsVariable : List Occurrence → Spelling → KnownVariable → Type 0
AsVariable before n v = Contains before (occurring.Declared (Some n) (Variable v.ordinal))

abbrev pub AsCondition : List Occurrence → Spelling → ResolvedCondition → Type 0
AsCondition before n c = Contains before (occurring.Declared (Some n) (Condition c)) ⊎ Contains before (occurring.Declared (Some n) Null)

abbrev pub AsCursor : List Occurrence → Spelling → ℕ → Type 0
AsCursor before n k = Contains before (occurring.Declared (Some n) (Cursor k))

abbrev AsBlock : List Occurrence → Spelling → ℕ → Type 0
AsBlock before l k = Contains before (occurring.Declared (Some l) (Block k))

pub record DeclaredIn (before : List Occurrence) (d : Declared KnownVariable ResolvedCondition ℕ) : Type 0 where
  pub variables : EachOf (AsVariable before) d.variables
  pub conditions : EachOf (AsCondition before) d.conditions
  pub cursors : EachOf (AsCursor before) d.cursors

-- the block that a label names begins before
abbrev pub LabelIn : List Occurrence → ℕ → Scope KnownVariable ResolvedCondition ℕ → Type 0
LabelIn before k (Routine name d) = Unit {0}
LabelIn before k (Compound label d) = Contains before (occurring.Declared label (Block k))
LabelIn before k (Loop label) = Contains before (occurring.Declared label (Block k))
LabelIn before k (For label name d) = Contains before (occurring.Declared label (Block k))
LabelIn before k Action = Unit {0}

abbrev pub ScopesIn : List Occurrence → EnclosingScopes → Type 0
ScopesIn before [] = Unit {0}
ScopesIn before (f ∷ outer) = DeclaredIn before (declared_in f) × LabelIn before (length outer) f × ScopesIn before outer

-- ---- more stands before

more-condition : (before more : List Occurrence) (n : Spelling) (c : ResolvedCondition) → AsCondition before n c → AsCondition (before ++ more) n c
more-condition before more n c (inl h) = inl (Contains-append_left before more (occurring.Declared (Some n) (Condition c)) h)
more-condition before more n c (inr h) = inr (Contains-append_left before more (occurring.Declared (Some n) Null) h)

more-declared : (before more : List Occurrence) (d : Declared KnownVariable ResolvedCondition ℕ) → DeclaredIn before d → DeclaredIn (before ++ more) d
more-declared before more d h = record {
  variables = each-as (AsVariable before) (AsVariable (before ++ more)) (λ n v k. Contains-append_left before more (occurring.Declared (Some n) (Variable v.ordinal)) k) d.variables h.variables;
  conditions = each-as (AsCondition before) (AsCondition (before ++ more)) (more-condition before more) d.conditions h.conditions;
  cursors = each-as (AsCursor before) (AsCursor (before ++ more)) (λ n c k. Contains-append_left before more (occurring.Declared (Some n) (Cursor c)) k) d.cursors h.cursors;
}

more-label : (before more : List Occurrence) (k : ℕ) (f : Scope KnownVariable ResolvedCondition ℕ) → LabelIn before k f → LabelIn (before ++ more) k f
more-label before more k (Routine name d) h = tt
more-label before more k (Compound label d) h = Contains-append_left before more (occurring.Declared label (Block k)) h
more-label before more k (Loop label) h = Contains-append_left before more (occurring.Declared label (Block k)) h
more-label before more k (For label name d) h = Contains-append_left before more (occurring.Declared label (Block k)) h
more-label before more k Action h = tt

pub more-scopes : (before more : List Occurrence) (scopes : EnclosingScopes) → ScopesIn before scopes → ScopesIn (before ++ more) scopes
more-scopes before more [] h = tt
more-scopes before more (f ∷ outer) h = (more-declared before more (declared_in f) h.0, more-label before more (length outer) f h.1, more-scopes before more outer h.2)

-- ---- a declaration more in the innermost scope

pub redeclared-in : (before : List Occurrence) (scopes : EnclosingScopes) (d : Declared KnownVariable ResolvedCondition ℕ) → (DeclaredIn before (declared_here scopes) → DeclaredIn before d) → ScopesIn before scopes → ScopesIn before (redeclared scopes d)
redeclared-in before [] d f h = tt
redeclared-in before (Routine name e ∷ outer) d f h = (f h.0, h.1, h.2)
redeclared-in before (Compound label e ∷ outer) d f h = (f h.0, h.1, h.2)
redeclared-in before (Loop label ∷ outer) d f h = h
redeclared-in before (For label name e ∷ outer) d f h = (f h.0, h.1, h.2)
redeclared-in before (Action ∷ outer) d f h = h

-- ---- look-up in scopes

variable-each : (before : List Occurrence) (n : Spelling) (scopes : EnclosingScopes) → ScopesIn before scopes → Holds (AsVariable before n) (variable n scopes)
variable-each before n [] h = tt
variable-each before n (f ∷ outer) h = or-holds (AsVariable before n) (named n (declared_in f).variables) (variable n outer) (named-each (AsVariable before) n (declared_in f).variables h.0.variables) (variable-each before n outer h.2)

condition-each : (before : List Occurrence) (n : Spelling) (scopes : EnclosingScopes) → ScopesIn before scopes → Holds (AsCondition before n) (lookup.condition n scopes)
condition-each before n [] h = tt
condition-each before n (f ∷ outer) h = or-holds (AsCondition before n) (named n (declared_in f).conditions) (lookup.condition n outer) (named-each (AsCondition before) n (declared_in f).conditions h.0.conditions) (condition-each before n outer h.2)

cursor-each : (before : List Occurrence) (n : Spelling) (scopes : EnclosingScopes) → ScopesIn before scopes → Holds (AsCursor before n) (lookup.cursor n scopes)
cursor-each before n [] h = tt
cursor-each before n (f ∷ outer) h = or-holds (AsCursor before n) (named n (declared_in f).cursors) (lookup.cursor n outer) (named-each (AsCursor before) n (declared_in f).cursors h.0.cursors) (cursor-each before n outer h.2)

called-by : (before : List Occurrence) (n : Spelling) (b : Bool) (vs : List (Spelling × KnownVariable)) (o : Option (List (Spelling × KnownVariable))) → EachOf (AsVariable before) vs → Holds (AsVariable before n) (named_among n o)
    → Holds (AsVariable before n) (named_among n (if b then Some vs else o))
called-by before n true vs o h k = named-each (AsVariable before) n vs h
called-by before n false vs o h k = k

called-each : (before : List Occurrence) (sees : Bool) (q n : Spelling) (scopes : EnclosingScopes) → ScopesIn before scopes → Holds (AsVariable before n) (named_among n (variables_called sees q scopes))
called-each before sees q n [] h = tt
called-each before sees q n (f ∷ outer) h = called-by before n (is_called sees q f) (declared_in f).variables (variables_called (sees_past sees f) q outer) h.0.variables (called-each before (sees_past sees f) q n outer h.2)

block-by : (before : List Occurrence) (l m : Spelling) (k : ℕ) (rest : Option ℕ) (loops b : Bool) → is_spelled l m ≡ b → Contains before (occurring.Declared (Some m) (Block k)) → Holds (AsBlock before l) rest
    → Holds (AsBlock before l) (or_else (option_map (λ x. k) (if b then Some loops else None)) rest)
block-by before l m k rest loops true e h j = subst (λ z. Contains before (occurring.Declared (Some z) (Block k))) (sym (same_text l m (sym e))) h
block-by before l m k rest loops false e h j = j

block-each : (before : List Occurrence) (l : Spelling) (label : Option Spelling) (k : ℕ) (rest : Option ℕ) (loops : Bool) → Contains before (occurring.Declared label (Block k)) → Holds (AsBlock before l) rest
    → Holds (AsBlock before l) (or_else (option_map (λ x. k) (if is_label l label then Some loops else None)) rest)
block-each before l None k rest loops h j = j
block-each before l (Some m) k rest loops h j = block-by before l m k rest loops (is_spelled l m) refl h j

level-each : (before : List Occurrence) (l : Spelling) (scopes : EnclosingScopes) → ScopesIn before scopes → Holds (AsBlock before l) (level l scopes)
level-each before l [] h = tt
level-each before l (Routine name d ∷ outer) h = level-each before l outer h.2
level-each before l (Compound label d ∷ outer) h = block-each before l label (length outer) (level l outer) false h.1 (level-each before l outer h.2)
level-each before l (Loop label ∷ outer) h = block-each before l label (length outer) (level l outer) true h.1 (level-each before l outer h.2)
level-each before l (For label name d ∷ outer) h = block-each before l label (length outer) (level l outer) true h.1 (level-each before l outer h.2)
level-each before l (Action ∷ outer) h = tt

-- ---- what an occurrence means

as-variable : (before : List Occurrence) (n : Spelling) (o : Option KnownVariable) → Holds (AsVariable before n) o → IsVariable before n o
as-variable before n None h = tt
as-variable before n (Some v) h = h

as-condition : (before : List Occurrence) (n : Spelling) (o : Option ResolvedCondition) → Holds (AsCondition before n) o → IsCondition before n o
as-condition before n None h = tt
as-condition before n (Some c) h = h

as-cursor : (before : List Occurrence) (n : Spelling) (o : Option ℕ) → Holds (AsCursor before n) o → IsCursor before n o
as-cursor before n None h = tt
as-cursor before n (Some k) h = h

as-block : (before : List Occurrence) (l : Spelling) (o : Option ℕ) → Holds (AsBlock before l) o → IsBlock before l o
as-block before l None h = tt
as-block before l (Some k) h = h

pub condition-is : (before : List Occurrence) (n : Spelling) (scopes : EnclosingScopes) → ScopesIn before scopes → IsCondition before n (lookup.condition n scopes)
condition-is before n scopes h = as-condition before n (lookup.condition n scopes) (condition-each before n scopes h)

pub cursor-is : (before : List Occurrence) (n : Spelling) (scopes : EnclosingScopes) → ScopesIn before scopes → IsCursor before n (lookup.cursor n scopes)
cursor-is before n scopes h = as-cursor before n (lookup.cursor n scopes) (cursor-each before n scopes h)

pub block-is : (before : List Occurrence) (l : Spelling) (scopes : EnclosingScopes) → ScopesIn before scopes → IsBlock before l (level l scopes)
block-is before l scopes h = as-block before l (level l scopes) (level-each before l scopes h)

meant-is : (before : List Occurrence) (first : Identifier) (second : Option Identifier) (scopes : EnclosingScopes) → ScopesIn before scopes → Holds (AsVariable before (last_name first second)) (meant first.name (spelling second) scopes)
meant-is before first None scopes h = variable-each before first.name scopes h
meant-is before first (Some n) scopes h = called-each before true first.name n.name scopes h

pub target-is : (before : List Occurrence) (t : Target) (scopes : EnclosingScopes) → ScopesIn before scopes → IsVariable before (last_name t.first t.second) (meant t.first.name (spelling t.second) scopes)
target-is before t scopes h = as-variable before (last_name t.first t.second) (meant t.first.name (spelling t.second) scopes) (meant-is before t.first t.second scopes h)

column-by : (n : Spelling) (columns : List (Spelling × Option SqlType)) (b : Bool) → IsNamed n columns (if b then index_named 0 n columns else None)
column-by n columns true = index-named n columns
column-by n columns false = tt

column-is : (first : Identifier) (second : Option Identifier) (row : RowTable (Option SqlType)) → IsNamed (last_name first second) row.columns (column_meant first.name (spelling second) row)
column-is first None row = index-named first.name row.columns
column-is first (Some n) row = column-by n.name row.columns (is_table first.name row)

as-meant : (before : List Occurrence) (n : Spelling) (row : Option (RowTable (Option SqlType))) (o : Option KnownVariable) → Holds (AsVariable before n) o → IsMeant before n row (as_variable o)
as-meant before n row None h = tt
as-meant before n row (Some v) h = h

on-row : (before : List Occurrence) (n : Spelling) (row : RowTable (Option SqlType)) (c : Option (ℕ × Option SqlType)) (o : Option KnownVariable) → IsNamed n row.columns c → Holds (AsVariable before n) o
    → IsMeant before n (Some row) (or_else (as_column c) (as_variable o))
on-row before n row None o h k = as-meant before n (Some row) o k
on-row before n row (Some c) o h k = h

pub name-is : (before : List Occurrence) (t : Target) (scopes : EnclosingScopes) (row : Option (RowTable (Option SqlType))) → ScopesIn before scopes → IsMeant before (last_name t.first t.second) row (name_meaning t scopes row)
name-is before t scopes None h = as-meant before (last_name t.first t.second) None (meant t.first.name (spelling t.second) scopes) (meant-is before t.first t.second scopes h)
name-is before t scopes (Some row) h = on-row before (last_name t.first t.second) row (column_meant t.first.name (spelling t.second) row) (meant t.first.name (spelling t.second) scopes) (column-is t.first t.second row) (meant-is before t.first t.second scopes h)
