-- Which function a call means (ISO/IEC 9075-4:1996, subject routine determination).
use Rattle.std.specs.Prelude.{ℕ, suc, Bool, true, false, ◌&&◌, nat_eq, nat_le, List, [], ◌∷◌, slice_index_or, Result, Ok, Err, if◌then◌else◌}
use Rattle.std.specs.List.{filter, list_all}
use Rattle.std.specs.Cmp.Lexicographic.{pointwise}
use Rattle.psm_value.specs.declared.sqltype.SqlType.{SqlType}
use Rattle.psm_value.specs.declared.sqltype.SqlType.TheVariants as of_type
use Rattle.psm_scope.specs.declared.fault.ChoiceFault.{ChoiceFault}
use Rattle.psm_scope.specs.declared.fault.ChoiceFault.TheVariants.{NoRoutine, Ambiguous}
use Rattle.psm_scope.specs.declared.kinds.ArgKind.{ArgKind}
use Rattle.psm_scope.specs.declared.kinds.ArgKind.TheVariants.{SmallInt, Integer, Numeric, Char, VarChar, Null}

-- a function: its name and the kinds of its parameters
pub record Signature : Type 0 where
  pub name : List ℕ
  pub kinds : List ArgKind

-- ---- kinds

abbrev pub kind_of : SqlType → ArgKind
kind_of of_type.SmallInt = SmallInt
kind_of of_type.Integer = Integer
kind_of (of_type.Numeric p s) = Numeric
kind_of (of_type.Char n) = Char
kind_of (of_type.VarChar n) = VarChar

-- how high a kind stands among those of its family
abbrev pub rank : ArgKind → ℕ
rank SmallInt = 0
rank Integer = 1
rank Numeric = 2
rank Char = 0
rank VarChar = 1
rank Null = 0

abbrev pub is_number : ArgKind → Bool
is_number SmallInt = true
is_number Integer = true
is_number Numeric = true
is_number Char = false
is_number VarChar = false
is_number Null = false

abbrev pub is_text : ArgKind → Bool
is_text SmallInt = false
is_text Integer = false
is_text Numeric = false
is_text Char = true
is_text VarChar = true
is_text Null = false

-- whether an argument of the first kind goes to a parameter of the second: upwards in its family, and NULL to all
abbrev pub goes_to : ArgKind → ArgKind → Bool
goes_to SmallInt p = is_number p
goes_to Integer p = is_number p && nat_le 1 (rank p)
goes_to Numeric p = is_number p && nat_le 2 (rank p)
goes_to Char p = is_text p
goes_to VarChar p = is_text p && nat_le 1 (rank p)
goes_to Null p = true

-- whether the arguments go to the parameters, one for one
abbrev pub all_go : List ArgKind → List ArgKind → Bool
all_go [] [] = true
all_go [] (p ∷ ps) = false
all_go (a ∷ others) [] = false
all_go (a ∷ others) (p ∷ ps) = goes_to a p && all_go others ps

-- ---- candidates

-- a function with its number
abbrev pub Candidate : Type 0
Candidate = ℕ × List ArgKind

abbrev pub is_candidate : List ℕ → List ArgKind → Signature → Bool
is_candidate name args s = pointwise nat_eq name s.name && all_go args s.kinds

-- the functions, counted from n, that have the name and as many parameters as there are arguments, which go to them
abbrev pub candidates : ℕ → List ℕ → List ArgKind → List Signature → List Candidate
candidates n name args [] = []
candidates n name args (s ∷ others) = let more = candidates (suc n) name args others in
    if is_candidate name args s then (n, s.kinds) ∷ more else more

-- the rank of the parameter at an index
abbrev pub rank_in : ℕ → Candidate → ℕ
rank_in index c = rank (slice_index_or c.1 index Null)

-- those with the lowest kind at an index
abbrev pub lowest : ℕ → List Candidate → List Candidate
lowest index cs = filter (λ c. list_all (λ d. nat_le (rank_in index c) (rank_in index d)) cs) cs

-- NULL has no say
abbrev pub narrowed_by : ArgKind → ℕ → List Candidate → List Candidate
narrowed_by Null index cs = cs
narrowed_by a index cs = lowest index cs

-- for each argument from the left, those with the lowest kind at its index stay
abbrev pub narrowed : ℕ → List ArgKind → List Candidate → List Candidate
narrowed index [] cs = cs
narrowed index (a ∷ others) cs = narrowed (suc index) others (narrowed_by a index cs)

-- ---- the choice

abbrev pub only : List Candidate → Result ℕ ChoiceFault
only [] = Err NoRoutine
only (c ∷ []) = Ok c.0
only (c ∷ d ∷ more) = Err Ambiguous

-- the number of the function that a call means
abbrev pub chosen : List Signature → List ℕ → List ArgKind → Result ℕ ChoiceFault
chosen routines name args = only (narrowed 0 args (candidates 0 name args routines))
