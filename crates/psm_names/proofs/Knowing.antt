-- Look-up among what is known of declared names keeps what is made of it.
use Rattle.std.proofs.Common.{◌≡◌, ℕ, suc, Bool, true, false, List, [], ◌∷◌, ◌++◌, length, map, Option, Some, None, option_map, is_some, refl, ap, sym, ◌∙◌, if◌then◌else◌}
use Rattle.psm_value.specs.declared.sqltype.SqlType.{SqlType}
use Rattle.psm_scope.specs.Scopes.{Spelling, Scope, Routine, Compound, Loop, For, Action, is_spelled, declared_in}
use Rattle.psm_scope.specs.Lookup.{Meaning, RowTable, named, named_among, or_else, is_label, is_called, variables_called, qualified, meant, meant_on_row, as_column, as_variable, column_meant, variable}
use Rattle.psm_scope.specs.Lookup as lookup
use Rattle.psm_scope.specs.KeptScopes.{level}
use Rattle.psm_scope.specs.declared.known.Variable.{Variable}
use Rattle.psm_scope.specs.declared.known.DeclaredCondition.{DeclaredCondition}
use Rattle.psm_rules.specs.BlockFaults.{declared_once}
use Rattle.psm_rules.specs.ExprFaults.{spelling}
use Rattle.psm_tree.specs.declared.name.Target.{Target}
use Rattle.psm_resolve_expr.specs.ResolverScope.{Scopes, meant_in}
use Rattle.psm_names.specs.Occurrences.{KnownVariable, name_meaning}
use Rattle.psm_names.specs.Sites.{variable_known, condition_known, declared_known, scope_known, known}

-- ---- among names

or_else-map : {A B : Type 0} (f : A → B) (a b : Option A) → or_else (option_map f a) (option_map f b) ≡ option_map f (or_else a b)
or_else-map f (Some a) b = refl
or_else-map f None b = refl

named_by : {A B : Type 0} (f : A → B) (b : Bool) (x : A) (there : Option B) (here : Option A) → there ≡ option_map f here → (if b then Some (f x) else there) ≡ option_map f (if b then Some x else here)
named_by f true x there here e = refl
named_by f false x there here e = e

named-map : {A B : Type 0} (f : A → B) (n : Spelling) (xs : List (Spelling × A)) → named n (map (λ p. (p.0, f p.1)) xs) ≡ option_map f (named n xs)
named-map f n [] = refl
named-map f n (p ∷ more) = named_by f (is_spelled n p.0) p.1 (named n (map (λ q. (q.0, f q.1)) more)) (named n more) (named-map f n more)

is_some-map : {A B : Type 0} (f : A → B) (o : Option A) → is_some (option_map f o) ≡ is_some o
is_some-map f None = refl
is_some-map f (Some a) = refl

map-snoc : {A B : Type 0} (f : A → B) (xs : List A) (x : A) → map f xs ++ f x ∷ [] ≡ map f (xs ++ x ∷ [])
map-snoc f [] x = refl
map-snoc f (y ∷ ys) x = ap (λ l. f y ∷ l) (map-snoc f ys x)

abbrev pub renamed : {A B : Type 0} → (A → B) → List (Spelling × A) → List (Spelling × B)
renamed {A} {B} f xs = map {A = Spelling × A} {B = Spelling × B} (λ p. (p.0, f p.1)) xs

once_by : {A B : Type 0} (f : A → B) (xs : List (Spelling × A)) (n : Spelling) (x : A) (b : Bool) → renamed f (if b then xs else xs ++ (n, x) ∷ []) ≡ (if b then renamed f xs else renamed f xs ++ (n, f x) ∷ [])
once_by f xs n x true = refl
once_by {A} {B} f xs n x false = sym (map-snoc {A = Spelling × A} {B = Spelling × B} (λ p. (p.0, f p.1)) xs (n, x))

pub once-map : {A B : Type 0} (f : A → B) (xs : List (Spelling × A)) (n : Spelling) (x : A) → renamed f (declared_once xs n x) ≡ declared_once (renamed f xs) n (f x)
once-map f xs n x = once_by f xs n x (is_some (named n xs)) ∙ ap (λ b. if b then renamed f xs else renamed f xs ++ (n, f x) ∷ []) (sym (is_some-map f (named n xs)) ∙ ap is_some (sym (named-map f n xs)))

-- ---- look-up

in_known : (f : Scope Variable DeclaredCondition ℕ) → declared_in (scope_known f) ≡ declared_known (declared_in f)
in_known (Routine name d) = refl
in_known (Compound label d) = refl
in_known (Loop label) = refl
in_known (For label name d) = refl
in_known Action = refl

pub variable-known : (n : Spelling) (fs : Scopes) → variable n (known fs) ≡ option_map variable_known (variable n fs)
variable-known n [] = refl
variable-known n (f ∷ outer) =
    ap (λ d. or_else (named n d.variables) (variable n (known outer))) (in_known f)
    ∙ ap (λ a. or_else a (variable n (known outer))) (named-map variable_known n (declared_in f).variables)
    ∙ ap (or_else (option_map variable_known (named n (declared_in f).variables))) (variable-known n outer)
    ∙ or_else-map variable_known (named n (declared_in f).variables) (variable n outer)

pub condition-known : (n : Spelling) (fs : Scopes) → lookup.condition n (known fs) ≡ option_map condition_known (lookup.condition n fs)
condition-known n [] = refl
condition-known n (f ∷ outer) =
    ap (λ d. or_else (named n d.conditions) (lookup.condition n (known outer))) (in_known f)
    ∙ ap (λ a. or_else a (lookup.condition n (known outer))) (named-map condition_known n (declared_in f).conditions)
    ∙ ap (or_else (option_map condition_known (named n (declared_in f).conditions))) (condition-known n outer)
    ∙ or_else-map condition_known (named n (declared_in f).conditions) (lookup.condition n outer)

pub cursor-known : (n : Spelling) (fs : Scopes) → lookup.cursor n (known fs) ≡ lookup.cursor n fs
cursor-known n [] = refl
cursor-known n (f ∷ outer) = ap (λ d. or_else (named n d.cursors) (lookup.cursor n (known outer))) (in_known f) ∙ ap (or_else (named n (declared_in f).cursors)) (cursor-known n outer)

abbrev slots : List (Spelling × Variable) → List (Spelling × KnownVariable)
slots xs = map (λ p. (p.0, variable_known p.1)) xs

called_by : (b : Bool) (xs : List (Spelling × Variable)) (there : Option (List (Spelling × KnownVariable))) (here : Option (List (Spelling × Variable))) → there ≡ option_map slots here → (if b then Some (slots xs) else there) ≡ option_map slots (if b then Some xs else here)
called_by true xs there here e = refl
called_by false xs there here e = e

called-known : (sees : Bool) (q : Spelling) (fs : Scopes) → variables_called sees q (known fs) ≡ option_map slots (variables_called sees q fs)
called-known sees q [] = refl
called-known sees q (Routine name d ∷ outer) = called_by (is_spelled q name) d.variables (variables_called sees q (known outer)) (variables_called sees q outer) (called-known sees q outer)
called-known sees q (Compound label d ∷ outer) = called_by (is_called {V = Variable} {C = DeclaredCondition} {K = ℕ} sees q (Compound label d)) d.variables (variables_called sees q (known outer)) (variables_called sees q outer) (called-known sees q outer)
called-known sees q (Loop label ∷ outer) = called-known sees q outer
called-known sees q (For label name d ∷ outer) = called_by (is_spelled q name) d.variables (variables_called sees q (known outer)) (variables_called sees q outer) (called-known sees q outer)
called-known sees q (Action ∷ outer) = called-known false q outer

among-known : (n : Spelling) (o : Option (List (Spelling × Variable))) → named_among n (option_map slots o) ≡ option_map variable_known (named_among n o)
among-known n None = refl
among-known n (Some xs) = named-map variable_known n xs

pub meant-known : (first : Spelling) (second : Option Spelling) (fs : Scopes) → meant first second (known fs) ≡ option_map variable_known (meant first second fs)
meant-known first None fs = variable-known first fs
meant-known first (Some n) fs = ap (named_among n) (called-known true first fs) ∙ among-known n (variables_called true first fs)

-- ---- names in expressions

abbrev pub meaning_known : Meaning Variable (Option SqlType) → Meaning KnownVariable (Option SqlType)
meaning_known (lookup.Column i t) = lookup.Column i t
meaning_known (lookup.Variable v) = lookup.Variable (variable_known v)

as_variable-known : (o : Option Variable) → ◌≡◌ {A = Option (Meaning KnownVariable (Option SqlType))} (as_variable (option_map variable_known o)) (option_map meaning_known (as_variable o))
as_variable-known None = refl
as_variable-known (Some v) = refl

on_row-known : (c : Option (ℕ × Option SqlType)) (o : Option Variable) → ◌≡◌ {A = Option (Meaning KnownVariable (Option SqlType))} (or_else (as_column c) (as_variable (option_map variable_known o))) (option_map meaning_known (or_else (as_column c) (as_variable o)))
on_row-known None o = as_variable-known o
on_row-known (Some c) o = refl

pub name-known : (t : Target) (fs : Scopes) (row : Option (RowTable (Option SqlType))) → name_meaning t (known fs) row ≡ option_map meaning_known (meant_in fs row t)
name-known t fs None = ap as_variable (meant-known t.first.name (spelling t.second) fs) ∙ as_variable-known (meant t.first.name (spelling t.second) fs)
name-known t fs (Some row) =
    ap (λ o. or_else (as_column (column_meant t.first.name (spelling t.second) row)) (as_variable o)) (meant-known t.first.name (spelling t.second) fs)
    ∙ on_row-known (column_meant t.first.name (spelling t.second) row) (meant t.first.name (spelling t.second) fs)

-- ---- labels

many-known : (fs : Scopes) → length (known fs) ≡ length fs
many-known [] = refl
many-known (f ∷ outer) = ap suc (many-known outer)

pub levels-known : (fs : Scopes) → length (known fs) ≡ length fs
levels-known fs = many-known fs

level_by : (b : Bool) (m n : ℕ) (x y : Option ℕ) (loops : Bool) → m ≡ n → x ≡ y → or_else (option_map (λ l. m) (if b then Some loops else None)) x ≡ or_else (option_map (λ l. n) (if b then Some loops else None)) y
level_by true m n x y loops e f = ap (λ k. Some k) e
level_by false m n x y loops e f = f

pub level-known : (l : Spelling) (fs : Scopes) → level l (known fs) ≡ level l fs
level-known l [] = refl
level-known l (Routine name d ∷ outer) = level-known l outer
level-known l (Compound label d ∷ outer) = level_by (is_label l label) (length (known outer)) (length outer) (level l (known outer)) (level l outer) false (many-known outer) (level-known l outer)
level-known l (Loop label ∷ outer) = level_by (is_label l label) (length (known outer)) (length outer) (level l (known outer)) (level l outer) true (many-known outer) (level-known l outer)
level-known l (For label name d ∷ outer) = level_by (is_label l label) (length (known outer)) (length outer) (level l (known outer)) (level l outer) true (many-known outer) (level-known l outer)
level-known l (Action ∷ outer) = refl
