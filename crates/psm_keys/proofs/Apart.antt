-- Routines that can be distinguished, by their signatures.
use Rattle.std.proofs.Common.{◌≡◌, Bool, true, false, ◌&&◌, not, List, [], ◌∷◌, length, map, refl, ap, sym, ◌∙◌}
use Rattle.std.proofs.Math.Bool.{and-true}
use Rattle.std.specs.Prelude.{nat_eq, if◌then◌else◌}
use Rattle.std.specs.List.{list_all}
use Rattle.std.specs.Cmp.Lexicographic.{pointwise}
use Rattle.psm_value.specs.declared.sqltype.SqlType.{SqlType}
use Rattle.psm_value.specs.declared.sqltype.SqlType.TheVariants.{SmallInt, Integer, Numeric, Char, VarChar}
use Rattle.psm_code.specs.declared.code.Parameter.{Parameter}
use Rattle.psm_code.specs.declared.code.RawRoutine.{RawRoutine}
use Rattle.psm_code.specs.RoutineRules.{are_apart, are_distinct_of, are_same_kinds, is_same_kind, same_truth}
use Rattle.psm_code.specs.Rules.{is_same}
use Rattle.psm_keys.specs.Signature.{is_same_signature, kind_number, kind_numbers, signature_of}

same_kind : (t u : SqlType) → nat_eq (kind_number t) (kind_number u) ≡ is_same_kind t u
same_kind SmallInt SmallInt = refl
same_kind Integer Integer = refl
same_kind (Numeric p s) (Numeric q v) = refl
same_kind (Char n) (Char m) = refl
same_kind (VarChar n) (VarChar m) = refl
same_kind t u = refl

same_kinds : (ps qs : List Parameter) → pointwise nat_eq (kind_numbers ps) (kind_numbers qs) ≡ are_same_kinds ps qs
same_kinds [] [] = refl
same_kinds [] (q ∷ qs) = refl
same_kinds (p ∷ ps) [] = refl
same_kinds (p ∷ ps) (q ∷ qs) = ap (λ b. b && pointwise nat_eq (kind_numbers ps) (kind_numbers qs)) (same_kind p.kind q.kind) ∙ ap (λ b. is_same_kind p.kind q.kind && b) (same_kinds ps qs)

never : (b : Bool) → true ≡ not (b && false)
never true = refl
never false = refl

module _ (q r : RawRoutine) where
  shaped : Bool → Bool → Bool
  shaped f g = is_same q.name r.name && (same_truth f g && (nat_eq (if f then 0 else length q.parameters) (if g then 0 else length r.parameters)
      && pointwise nat_eq (if f then kind_numbers q.parameters else []) (if g then kind_numbers r.parameters else [])))

  apart_by : (f g : Bool) → are_distinct_of f g q r ≡ not (shaped f g)
  unfolding shaped
  apart_by true true = ap (λ b. not (is_same q.name r.name && b)) (sym (same_kinds q.parameters r.parameters))
  apart_by false false = ap (λ b. not (is_same q.name r.name && b)) (sym (and-true (nat_eq (length q.parameters) (length r.parameters))))
  apart_by true false = never (is_same q.name r.name)
  apart_by false true = never (is_same q.name r.name)

  apart_is : are_apart r q ≡ not (is_same_signature (signature_of q) (signature_of r))
  unfolding shaped
  apart_is = apart_by q.is_function r.is_function

-- routines can be distinguished from one more where none of their signatures is the same
pub all_apart : (r : RawRoutine) (qs : List RawRoutine) → list_all (are_apart r) qs ≡ list_all (λ s. not (is_same_signature s (signature_of r))) (map signature_of qs)
all_apart r [] = refl
all_apart r (q ∷ qs) = ap (λ b. b && list_all (are_apart r) qs) (apart_is q r) ∙ ap (λ b. not (is_same_signature (signature_of q) (signature_of r)) && b) (all_apart r qs)
