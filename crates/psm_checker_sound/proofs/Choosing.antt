-- The function that is chosen takes arguments of these kinds.
use Rattle.std.proofs.Common.{◌≡◌, ℕ, suc, ◌+◌, Bool, true, false, List, [], ◌∷◌, map, filter, Option, Some, refl, ap, sym, subst, arith}
use Rattle.std.specs.Prelude.{Result, Ok, IsTrue, if◌then◌else◌, slice_get}
use Rattle.std.specs.List.{list_all}
use Rattle.psm_value.specs.declared.sqltype.SqlType.{SqlType}
use Rattle.psm_exprcode.specs.WellFormed.{is_type}
use Rattle.psm_scope.proofs.Lists.{both}
use Rattle.psm_scope.specs.declared.kinds.ArgKind.{ArgKind}
use Rattle.psm_scope.specs.declared.kinds.ArgKind.TheVariants.{SmallInt, Integer, Numeric, Char, VarChar, Null}
use Rattle.psm_scope.specs.Choice.{Signature, Candidate, all_go, candidates, chosen, is_candidate, kind_of, lowest, narrowed, narrowed_by, only, rank_in}
use Rattle.psm_resolved.specs.declared.file.ResolvedRoutine.{ResolvedRoutine}
use Rattle.psm_typing.specs.TypingContext.{Each, taken_by}
use Rattle.psm_checker_sound.specs.Agreement.{AreFunctions, IsFunction}
use Rattle.std.specs.Cmp.Lexicographic.{pointwise}
use Rattle.std.specs.Prelude.{nat_eq, nat_le}

-- the function of a number, to the parameters of which arguments go
pub record IsCallee (args : List ArgKind) (results : List (Option SqlType)) (rs : List ResolvedRoutine) (i : ℕ) : Type 0 where
  pub type : SqlType
  pub routine : ResolvedRoutine
  pub result : slice_get results i ≡ Some (Some type)
  pub bounded : IsTrue (is_type type)
  pub there : slice_get rs i ≡ Some routine
  pub returned : routine.returns ≡ Some type
  pub goes : all_go args (map kind_of (taken_by routine.parameters)) ≡ true

abbrev Called : List ArgKind → List (Option SqlType) → List ResolvedRoutine → ℕ → Candidate → Type 0
Called args results rs n c = (i : ℕ) × (c.0 ≡ n + i) × IsCallee args results rs i

each_one : {A : Type 0} (P : A → Type 0) (c : A) (cs : List A) (b : Bool) → (b ≡ true → P c) → Each P cs → Each P (if b then c ∷ cs else cs)
each_one P c cs true p e = (p refl, e)
each_one P c cs false p e = e

each_map : {A : Type 0} (P Q : A → Type 0) → ((c : A) → P c → Q c) → (cs : List A) → Each P cs → Each Q cs
each_map P Q h [] e = tt
each_map P Q h (c ∷ cs) e = (h c e.0, each_map P Q h cs e.1)

each_filter : {A : Type 0} (P : A → Type 0) (p : A → Bool) (cs : List A) → Each P cs → Each P (filter p cs)
each_filter P p [] e = tt
each_filter P p (c ∷ cs) e = each_one P c (filter p cs) (p c) (λ is. e.0) (each_filter P p cs e.1)

callee_first : (name : List ℕ) (args : List ArgKind) (s : Signature) (result : Option SqlType) (results : List (Option SqlType)) (r : ResolvedRoutine) (rs : List ResolvedRoutine) → IsFunction s result r
    → is_candidate name args s ≡ true → IsCallee args (result ∷ results) (r ∷ rs) 0
callee_first name args s result results r rs f is = record {
  type = f.type;
  routine = r;
  result = ap (λ q. Some q) f.declared;
  bounded = f.bounded;
  there = refl;
  returned = f.returned;
  goes = subst (λ ks. all_go args ks ≡ true) f.kinds (both (pointwise nat_eq name s.name) (all_go args s.kinds) is).1;
}

callee_next : (args : List ArgKind) (result : Option SqlType) (results : List (Option SqlType)) (r : ResolvedRoutine) (rs : List ResolvedRoutine) (n : ℕ) (c : Candidate)
    → Called args results rs (suc n) c → Called args (result ∷ results) (r ∷ rs) n c
callee_next args result results r rs n c h = let k = h.2 in (suc h.0, omega (arith, h.1), record { type = k.type; routine = k.routine; result = k.result; bounded = k.bounded; there = k.there; returned = k.returned; goes = k.goes })

candidates_called : (n : ℕ) (name : List ℕ) (args : List ArgKind) (ss : List Signature) (results : List (Option SqlType)) (rs : List ResolvedRoutine) → AreFunctions ss results rs
    → Each (Called args results rs n) (candidates n name args ss)
candidates_called n name args [] results rs h = tt
candidates_called n name args (s ∷ ss) [] rs h = absurd h
candidates_called n name args (s ∷ ss) (result ∷ results) [] h = absurd h
candidates_called n name args (s ∷ ss) (result ∷ results) (r ∷ rs) h =
    each_one (Called args (result ∷ results) (r ∷ rs) n) (n, s.kinds) (candidates (suc n) name args ss) (is_candidate name args s)
    (λ is. (0, omega arith, callee_first name args s result results r rs h.0 is))
    (each_map (Called args results rs (suc n)) (Called args (result ∷ results) (r ∷ rs) n) (callee_next args result results r rs n) (candidates (suc n) name args ss) (candidates_called (suc n) name args ss results rs h.1))

lowest_each : (P : Candidate → Type 0) (place : ℕ) (cs : List Candidate) → Each P cs → Each P (lowest place cs)
lowest_each P place cs e = each_filter P (λ c. list_all (λ d. nat_le (rank_in place c) (rank_in place d)) cs) cs e

narrowed_by_each : (P : Candidate → Type 0) (a : ArgKind) (place : ℕ) (cs : List Candidate) → Each P cs → Each P (narrowed_by a place cs)
narrowed_by_each P SmallInt place cs e = lowest_each P place cs e
narrowed_by_each P Integer place cs e = lowest_each P place cs e
narrowed_by_each P Numeric place cs e = lowest_each P place cs e
narrowed_by_each P Char place cs e = lowest_each P place cs e
narrowed_by_each P VarChar place cs e = lowest_each P place cs e
narrowed_by_each P Null place cs e = e

narrowed_each : (P : Candidate → Type 0) (place : ℕ) (args : List ArgKind) (cs : List Candidate) → Each P cs → Each P (narrowed place args cs)
narrowed_each P place [] cs e = e
narrowed_each P place (a ∷ args) cs e = narrowed_each P (suc place) args (narrowed_by a place cs) (narrowed_by_each P a place cs e)

ok_same : {A B : Type 0} (a b : A) → ◌≡◌ {A = Result A B} (Ok a) (Ok b) → a ≡ b
ok_same a b e = cc

only_each : (P : ℕ → Type 0) (cs : List Candidate) (k : ℕ) → Each (λ c. P c.0) cs → only cs ≡ Ok k → P k
only_each P [] k e h = absurd cc
only_each P (c ∷ []) k e h = subst P (ok_same c.0 k h) e.0
only_each P (c ∷ d ∷ cs) k e h = absurd cc

from_start : (args : List ArgKind) (results : List (Option SqlType)) (rs : List ResolvedRoutine) (c : Candidate) → Called args results rs 0 c → IsCallee args results rs c.0
from_start args results rs c h = let e : c.0 ≡ h.0 = omega (arith, h.1) in subst (IsCallee args results rs) (sym e) h.2

pub chosen_called : (name : List ℕ) (args : List ArgKind) (ss : List Signature) (results : List (Option SqlType)) (rs : List ResolvedRoutine) (k : ℕ) → AreFunctions ss results rs → chosen ss name args ≡ Ok k
    → IsCallee args results rs k
chosen_called name args ss results rs k h is = only_each (IsCallee args results rs) (narrowed 0 args (candidates 0 name args ss)) k
    (narrowed_each (λ c. IsCallee args results rs c.0) 0 args (candidates 0 name args ss) (each_map (Called args results rs 0) (λ c. IsCallee args results rs c.0) (from_start args results rs) (candidates 0 name args ss) (candidates_called 0 name args ss results rs h))) is
