-- The functions that have exactly the kinds of a call's arguments.
use Rattle.std.specs.Prelude.{ℕ, suc, Bool, true, false, ◌&&◌, nat_eq, List, [], ◌∷◌, Option, Some, None, Result, Ok, Err, if◌then◌else◌}
use Rattle.std.specs.Cmp.Lexicographic.{pointwise}
use Rattle.psm_scope.specs.declared.fault.ChoiceFault.{ChoiceFault}
use Rattle.psm_scope.specs.declared.fault.ChoiceFault.TheVariants.{Ambiguous}
use Rattle.psm_scope.specs.declared.index.Exact.{Exact}
use Rattle.psm_scope.specs.declared.kinds.ArgKind.{ArgKind}
use Rattle.psm_scope.specs.declared.kinds.ArgKind.TheVariants.{SmallInt, Integer, Numeric, Char, VarChar, Null}
use Rattle.psm_scope.specs.Choice.{Candidate, Signature}
use Rattle.psm_scope.specs.KindNumbers.{is_kind}
use Rattle.psm_scope.specs.Pass.{is_more}

-- whether an argument of a kind has a type
abbrev pub is_typed : ArgKind → Bool
is_typed SmallInt = true
is_typed Integer = true
is_typed Numeric = true
is_typed Char = true
is_typed VarChar = true
is_typed Null = false

abbrev pub is_exact : List ℕ → List ArgKind → Signature → Bool
is_exact name args s = pointwise nat_eq name s.name && pointwise is_kind args s.kinds

-- the functions, counted from n, that have the name and exactly these kinds
abbrev pub exact : ℕ → List ℕ → List ArgKind → List Signature → List Candidate
exact n name args [] = []
exact n name args (s ∷ others) = let more = exact (suc n) name args others in
    if is_exact name args s then (n, s.kinds) ∷ more else more

-- ---- what is kept of them: the first, and whether there is another one

abbrev pub exact_of : List Candidate → Option Exact
exact_of [] = None
exact_of (c ∷ cs) = Some (record { number = c.0; tied = is_more cs })

-- with one more after them
abbrev pub one_more : ℕ → Option Exact → Exact
one_more number None = record { number = number; tied = false }
one_more number (Some e) = record { number = e.number; tied = true }

-- the one, where it is alone
abbrev pub choice_of : Exact → Result ℕ ChoiceFault
choice_of e = if e.tied then Err Ambiguous else Ok e.number
