-- An operation does with operands that stand on others what it does with them alone, and leaves those others.
use Rattle.std.proofs.Common.{◌≡◌, ℕ, zero, suc, Bool, true, false, List, [], ◌∷◌, ◌++◌, length, drop, refl, ap, sym, subst, ◌∙◌, if◌then◌else◌, Option, Some, None, Result, Ok, Err}
use Rattle.std.specs.Prelude.{slice_get, reverse}
use Rattle.std.proofs.lemmas.List.{length-reverse}
use Rattle.std.specs.Bool.{IsTrue}
use Rattle.psm_value.specs.declared.datum.Datum.{Datum}
use Rattle.psm_value.specs.declared.fault.ValueFault.{ValueFault}
use Rattle.psm_value.specs.declared.fault.ValueFault.TheVariants.{Condition, Memory}
use Rattle.psm_value.specs.declared.truth.Truth.{Truth as Answer}
use Rattle.psm_value.specs.Truth.{is_certain}
use Rattle.psm_exprcode.specs.declared.op.Op.{Op}
use Rattle.psm_exprcode.specs.declared.op.Op.TheVariants as op
use Rattle.psm_exprcode.specs.declared.operand.Operand.{Operand}
use Rattle.psm_exprcode.specs.declared.operand.Operand.TheVariants.{Value, Truth}
use Rattle.psm_exprcode.specs.declared.operand.Next.{Next}
use Rattle.psm_exprcode.specs.declared.operand.Next.TheVariants.{FallThrough, Jump}
use Rattle.psm_exprcode.specs.Applied.{Applied, Went, Raised, Stuck, applied, nipped, on_many, on_truth, on_value, set_at, unless_true, with_named, with_truth, with_value}
use Rattle.psm_exprcode.specs.Comparison.{is_null}
use Rattle.psm_exprcode.specs.Fits.{Applies, Fits, Refuses, are_truths, are_values, finds, is_over_value}
use Rattle.psm_exprcode.specs.Operations.{taken}
use Rattle.psm_operands.specs.Stacked.{Falls, Stacked, above, below, callers_of, lowest, stacked}
use Rattle.psm_operands.proofs.Levels.{over, parts}

-- the same with other operands below
abbrev pub on_those : List Operand → Applied → Applied
on_those low (Went next os) = Went next (os ++ low)
on_those low (Raised state) = Raised state
on_those low Stuck = Stuck

-- an operation that takes n of these operands, and does the same over others
pub record Framed (o : Op) (os low : List Operand) (row vars : List Datum) : Type 0 where
  pub there : IsTrue (finds o (os ++ low))
  pub expected : applied o (os ++ low) row vars ≡ on_those low (applied o os row vars)
  pub gone : drop (taken o) (os ++ low) ≡ drop (taken o) os ++ low

module _ (low : List Operand) where
  -- ---- operands that are there

  values_there : (n : ℕ) (os : List Operand) → IsTrue (are_values n os) → IsTrue (are_values n (os ++ low))
  values_there zero os h = h
  values_there (suc n) [] h = absurd cc
  values_there (suc n) (Value a ∷ os) h = values_there n os h
  values_there (suc n) (Truth t ∷ os) h = absurd cc

  truths_there : (n : ℕ) (os : List Operand) → IsTrue (are_truths n os) → IsTrue (are_truths n (os ++ low))
  truths_there zero os h = h
  truths_there (suc n) [] h = absurd cc
  truths_there (suc n) (Value a ∷ os) h = absurd cc
  truths_there (suc n) (Truth t ∷ os) h = truths_there n os h

  over_there : (os : List Operand) → IsTrue (is_over_value os) → IsTrue (is_over_value (os ++ low))
  over_there [] h = absurd cc
  over_there (x ∷ os) h = values_there 1 os h

  values_gone : (n : ℕ) (os : List Operand) → IsTrue (are_values n os) → drop n (os ++ low) ≡ drop n os ++ low
  values_gone zero os h = refl
  values_gone (suc n) [] h = absurd cc
  values_gone (suc n) (Value a ∷ os) h = values_gone n os h
  values_gone (suc n) (Truth t ∷ os) h = absurd cc

  truths_gone : (n : ℕ) (os : List Operand) → IsTrue (are_truths n os) → drop n (os ++ low) ≡ drop n os ++ low
  truths_gone zero os h = refl
  truths_gone (suc n) [] h = absurd cc
  truths_gone (suc n) (Value a ∷ os) h = absurd cc
  truths_gone (suc n) (Truth t ∷ os) h = truths_gone n os h

  over_gone : (os : List Operand) → IsTrue (is_over_value os) → drop 2 (os ++ low) ≡ drop 2 os ++ low
  over_gone [] h = absurd cc
  over_gone (x ∷ os) h = values_gone 1 os h

  -- ---- what is put on them

  value_on : (os : List Operand) (d : Result Datum (List ℕ)) → with_value (os ++ low) d ≡ on_those low (with_value os d)
  value_on os (Ok d) = refl
  value_on os (Err state) = refl

  truth_on : (os : List Operand) (t : Result Answer (List ℕ)) → with_truth (os ++ low) t ≡ on_those low (with_truth os t)
  truth_on os (Ok t) = refl
  truth_on os (Err state) = refl

  named_on : (os : List Operand) (d : Option Datum) → with_named (os ++ low) d ≡ on_those low (with_named os d)
  named_on os (Some d) = refl
  named_on os None = refl

  -- ---- what is taken

  -- n values that are there are taken, and then it does the same
  by_value : (n : ℕ) (f : Datum → List Operand → Applied) → ((a : Datum) (os : List Operand) → IsTrue (are_values n os) → f a (os ++ low) ≡ on_those low (f a os))
      → (os : List Operand) → IsTrue (are_values (suc n) os) → on_value f (os ++ low) ≡ on_those low (on_value f os)
  by_value n f same [] h = absurd cc
  by_value n f same (Value a ∷ os) h = same a os h
  by_value n f same (Truth t ∷ os) h = absurd cc

  by_truth : (n : ℕ) (f : Answer → List Operand → Applied) → ((t : Answer) (os : List Operand) → IsTrue (are_truths n os) → f t (os ++ low) ≡ on_those low (f t os))
      → (os : List Operand) → IsTrue (are_truths (suc n) os) → on_truth f (os ++ low) ≡ on_those low (on_truth f os)
  by_truth n f same [] h = absurd cc
  by_truth n f same (Value a ∷ os) h = absurd cc
  by_truth n f same (Truth t ∷ os) h = same t os h

  by_two : (f : Datum → Datum → List Operand → Applied) → ((a b : Datum) (os : List Operand) → f a b (os ++ low) ≡ on_those low (f a b os))
      → (os : List Operand) → IsTrue (are_values 2 os) → on_value (λ b. on_value (λ a. f a b)) (os ++ low) ≡ on_those low (on_value (λ b. on_value (λ a. f a b)) os)
  by_two f same os h = by_value 1 (λ b. on_value (λ a. f a b)) (λ b rest k. by_value 0 (λ a. f a b) (λ a others l. same a b others) rest k) os h

  by_three : (f : Datum → Datum → Datum → List Operand → Applied) → ((a b c : Datum) (os : List Operand) → f a b c (os ++ low) ≡ on_those low (f a b c os))
      → (os : List Operand) → IsTrue (are_values 3 os)
      → on_value (λ c. on_value (λ b. on_value (λ a. f a b c))) (os ++ low) ≡ on_those low (on_value (λ c. on_value (λ b. on_value (λ a. f a b c))) os)
  by_three f same os h = by_value 2 (λ c. on_value (λ b. on_value (λ a. f a b c))) (λ c rest k. by_two (λ a b. f a b c) (λ a b others. same a b c others) rest k) os h

  by_many : (n : ℕ) (f : List Datum → List Operand → Applied) → ((bs : List Datum) (os : List Operand) → IsTrue (are_values 1 os) → f bs (os ++ low) ≡ on_those low (f bs os))
      → (os : List Operand) → IsTrue (are_values (suc n) os) → on_many n f (os ++ low) ≡ on_those low (on_many n f os)
  by_many zero f same os h = same [] os h
  by_many (suc n) f same os h = by_value (suc n) (λ b. on_many n (λ bs. f (b ∷ bs))) (λ b rest k. by_many n (λ bs. f (b ∷ bs)) (λ bs others l. same (b ∷ bs) others l) rest k) os h

  by_nip : (os : List Operand) → IsTrue (is_over_value os) → nipped (os ++ low) ≡ on_those low (nipped os)
  by_nip [] h = absurd cc
  by_nip (x ∷ os) h = by_value 0 (λ a rest. Went FallThrough (x ∷ rest)) (λ a rest k. refl) os h

  -- ---- jumps

  set_on : (p : ℕ) (a : Datum) (os : List Operand) (b : Bool) → is_null a ≡ b → set_at p a (os ++ low) ≡ on_those low (set_at p a os)
  set_on p a os true e = ap (λ c. if c then Went FallThrough (os ++ low) else Went (Jump p) (Value a ∷ os ++ low)) e ∙ ap (on_those low) (ap (λ c. if c then Went FallThrough os else Went (Jump p) (Value a ∷ os)) (sym e))
  set_on p a os false e = ap (λ c. if c then Went FallThrough (os ++ low) else Went (Jump p) (Value a ∷ os ++ low)) e ∙ ap (on_those low) (ap (λ c. if c then Went FallThrough os else Went (Jump p) (Value a ∷ os)) (sym e))

  unless_on : (p : ℕ) (t : Answer) (os : List Operand) (b : Bool) → is_certain t ≡ b → unless_true p t (os ++ low) ≡ on_those low (unless_true p t os)
  unless_on p t os true e = ap (λ c. if c then Went FallThrough (os ++ low) else Went (Jump p) (os ++ low)) e ∙ ap (on_those low) (ap (λ c. if c then Went FallThrough os else Went (Jump p) os) (sym e))
  unless_on p t os false e = ap (λ c. if c then Went FallThrough (os ++ low) else Went (Jump p) (os ++ low)) e ∙ ap (on_those low) (ap (λ c. if c then Went FallThrough os else Went (Jump p) os) (sym e))

  module _ (row vars : List Datum) where
    pub framed : (o : Op) (os : List Operand) → IsTrue (finds o os) → Framed o os low row vars
    framed (op.Constant k d) os h = record { there = h; expected = refl; gone = refl }
    framed (op.Variable i) os h = record { there = h; expected = named_on os (slice_get vars i); gone = refl }
    framed (op.Column i) os h = record { there = h; expected = named_on os (slice_get row i); gone = refl }
    framed op.Duplicate os h = record { there = values_there 1 os h; expected = by_value 0 (λ a rest. Went FallThrough (Value a ∷ Value a ∷ rest)) (λ a rest k. refl) os h; gone = refl }
    framed op.Drop os h = record { there = values_there 1 os h; expected = by_value 0 (λ a rest. Went FallThrough rest) (λ a rest k. refl) os h; gone = values_gone 1 os h }
    framed op.DropBelow os h = record { there = over_there os h; expected = by_nip os h; gone = over_gone os h }
    framed op.Negate os h = record { there = values_there 1 os h; expected = by_value 0 _ (λ a rest k. refl) os h; gone = values_gone 1 os h }
    framed op.Add os h = record { there = values_there 2 os h; expected = by_two _ (λ a b rest. value_on rest _) os h; gone = values_gone 2 os h }
    framed op.Subtract os h = record { there = values_there 2 os h; expected = by_two _ (λ a b rest. value_on rest _) os h; gone = values_gone 2 os h }
    framed op.Multiply os h = record { there = values_there 2 os h; expected = by_two _ (λ a b rest. value_on rest _) os h; gone = values_gone 2 os h }
    framed op.Divide os h = record { there = values_there 2 os h; expected = by_two _ (λ a b rest. value_on rest _) os h; gone = values_gone 2 os h }
    framed (op.Rescale s) os h = record { there = values_there 1 os h; expected = by_value 0 _ (λ a rest k. value_on rest _) os h; gone = values_gone 1 os h }
    framed op.Concatenate os h = record { there = values_there 2 os h; expected = by_two _ (λ a b rest. value_on rest _) os h; gone = values_gone 2 os h }
    framed op.CharacterLength os h = record { there = values_there 1 os h; expected = by_value 0 _ (λ a rest k. refl) os h; gone = values_gone 1 os h }
    framed op.Position os h = record { there = values_there 2 os h; expected = by_two _ (λ a b rest. refl) os h; gone = values_gone 2 os h }
    framed op.SubstringFrom os h = record { there = values_there 2 os h; expected = by_two _ (λ a b rest. value_on rest _) os h; gone = values_gone 2 os h }
    framed op.SubstringFromFor os h = record { there = values_there 3 os h; expected = by_three _ (λ a b c rest. value_on rest _) os h; gone = values_gone 3 os h }
    framed (op.Trim side) os h = record { there = values_there 1 os h; expected = by_value 0 _ (λ a rest k. refl) os h; gone = values_gone 1 os h }
    framed op.Upper os h = record { there = values_there 1 os h; expected = by_value 0 _ (λ a rest k. refl) os h; gone = values_gone 1 os h }
    framed op.Lower os h = record { there = values_there 1 os h; expected = by_value 0 _ (λ a rest k. refl) os h; gone = values_gone 1 os h }
    framed op.Equal os h = record { there = values_there 2 os h; expected = by_two _ (λ a b rest. refl) os h; gone = values_gone 2 os h }
    framed op.NotEqual os h = record { there = values_there 2 os h; expected = by_two _ (λ a b rest. refl) os h; gone = values_gone 2 os h }
    framed op.Less os h = record { there = values_there 2 os h; expected = by_two _ (λ a b rest. refl) os h; gone = values_gone 2 os h }
    framed op.LessOrEqual os h = record { there = values_there 2 os h; expected = by_two _ (λ a b rest. refl) os h; gone = values_gone 2 os h }
    framed op.Greater os h = record { there = values_there 2 os h; expected = by_two _ (λ a b rest. refl) os h; gone = values_gone 2 os h }
    framed op.GreaterOrEqual os h = record { there = values_there 2 os h; expected = by_two _ (λ a b rest. refl) os h; gone = values_gone 2 os h }
    framed op.And os h = record { there = truths_there 2 os h; expected = by_truth 1 _ (λ b rest k. by_truth 0 _ (λ a others l. refl) rest k) os h; gone = truths_gone 2 os h }
    framed op.Or os h = record { there = truths_there 2 os h; expected = by_truth 1 _ (λ b rest k. by_truth 0 _ (λ a others l. refl) rest k) os h; gone = truths_gone 2 os h }
    framed op.Not os h = record { there = truths_there 1 os h; expected = by_truth 0 _ (λ t rest k. refl) os h; gone = truths_gone 1 os h }
    framed op.IsNull os h = record { there = values_there 1 os h; expected = by_value 0 _ (λ a rest k. refl) os h; gone = values_gone 1 os h }
    framed op.Like os h = record { there = values_there 2 os h; expected = by_two _ (λ a b rest. truth_on rest _) os h; gone = values_gone 2 os h }
    framed op.LikeEscape os h = record { there = values_there 3 os h; expected = by_three _ (λ a b c rest. truth_on rest _) os h; gone = values_gone 3 os h }
    framed op.Between os h = record { there = values_there 3 os h; expected = by_three _ (λ a b c rest. refl) os h; gone = values_gone 3 os h }
    framed (op.In n) os h = record { there = values_there (suc n) os h; expected = by_many n _ (λ bs rest k. by_value 0 _ (λ a others l. refl) rest k) os h; gone = values_gone (suc n) os h }
    framed op.NullIf os h = record { there = values_there 2 os h; expected = by_two _ (λ a b rest. refl) os h; gone = values_gone 2 os h }
    framed (op.Cast to) os h = record { there = values_there 1 os h; expected = by_value 0 _ (λ a rest k. value_on rest _) os h; gone = values_gone 1 os h }
    framed (op.Jump p) os h = record { there = h; expected = refl; gone = refl }
    framed (op.JumpUnlessTrue p) os h = record { there = truths_there 1 os h; expected = by_truth 0 _ (λ t rest k. unless_on p t rest (is_certain t) refl) os h; gone = truths_gone 1 os h }
    framed (op.JumpUnlessNull p) os h = record { there = values_there 1 os h; expected = by_value 0 _ (λ a rest k. set_on p a rest (is_null a) refl) os h; gone = values_gone 1 os h }

-- ---- what the call says, of the operands that stand on others

went_on : (low : List Operand) (expected : Applied) (next : Next) (new : List Operand) → on_those low expected ≡ Went next new → (own : List Operand) × (expected ≡ Went next own) × (new ≡ own ++ low)
went_on low (Went n os) next new e = (os, ap (λ k. Went k os) (first e), sym (second e))
  where
    first : {n next : Next} {os new : List Operand} → Went n os ≡ Went next new → n ≡ next
    first e = cc

    second : {n next : Next} {os new : List Operand} → Went n os ≡ Went next new → os ≡ new
    second e = cc
went_on low (Raised s) next new e = absurd cc
went_on low Stuck next new e = absurd cc

raised_on : (low : List Operand) (expected : Applied) (state : List ℕ) → on_those low expected ≡ Raised state → expected ≡ Raised state
raised_on low (Went n os) state e = absurd cc
raised_on low (Raised s) state e = e
raised_on low Stuck state e = absurd cc

refuses_on : (low : List Operand) (expected : Applied) (fault : ValueFault) → Refuses (on_those low expected) fault → Refuses expected fault
refuses_on low expected (Condition state) h = raised_on low expected state h
refuses_on low expected Memory h = tt

refuses_as : (a b : Applied) (fault : ValueFault) → a ≡ b → Refuses a fault → Refuses b fault
refuses_as a b (Condition state) e h = sym e ∙ h
refuses_as a b Memory e h = tt

-- the operands that are left stand on the same others, and the call says what it says of those that it was given
record Left (n : ℕ) (own low : List Operand) (expected : Applied) (result : Result Next ValueFault) (new : List Operand) : Type 0 where
  pub left : List Operand
  pub stand : new ≡ left ++ low
  pub applies : Applies n own expected result left

left_by : (n : ℕ) (own low new : List Operand) (expected whole : Applied) (result : Result Next ValueFault) → whole ≡ on_those low expected → drop n (own ++ low) ≡ drop n own ++ low
    → Applies n (own ++ low) whole result new → Left n own low expected result new
left_by n own low new expected whole (Ok next) w d h = let x = went_on low expected next new (sym w ∙ h) in record { left = x.0; stand = x.2; applies = x.1 }
left_by n own low new expected whole (Err fault) w d h = record { left = drop n own; stand = h.1 ∙ d; applies = (refuses_on low expected fault (refuses_as whole (on_those low expected) fault w h.0), refl) }

-- an operation over the operands of an activation, which stand on those of the callers
module _ (o : Op) (row vars : List Datum) (bases : List ℕ) (operands : List Operand) (v : Stacked) (seen : stacked (reverse bases) (reverse operands) ≡ v) (falls : Falls (length operands) (reverse bases)) (needs : Fits o v.own row vars) where
  abbrev base : ℕ
  base = below (reverse bases)

  abbrev os : List Operand
  os = reverse operands

  abbrev own : List Operand
  own = above base os

  abbrev low : List Operand
  low = lowest base os

  frame : Framed o own low row vars
  frame = framed low row vars o own (subst (λ v. IsTrue (finds o v.own)) (sym seen) needs.0)

  pub fits : Fits o (reverse operands) row vars
  fits = (subst (λ all. IsTrue (finds o all)) (parts base os) frame.there, needs.1, needs.2)

  pub record Done (result : Result Next ValueFault) (new : List Operand) : Type 0 where
    pub expected : Applies (taken o) v.own (applied o v.own row vars) result (above (below (reverse bases)) (reverse new))
    pub same : callers_of (reverse bases) (reverse new) ≡ v.callers
    pub falls_now : Falls (length new) (reverse bases)

  pub done : (result : Result Next ValueFault) (new : List Operand) → Applies (taken o) (reverse operands) (applied o (reverse operands) row vars) result (reverse new) → Done result new
  done result new a =
      let x = left_by (taken o) own low (reverse new) (applied o own row vars) (applied o (own ++ low) row vars) result frame.expected frame.gone
      (subst (λ all. Applies (taken o) all (applied o all row vars) result (reverse new)) (sym (parts base os)) a) in
      let left = over (reverse bases) os (reverse new) x.left (subst (λ k. Falls k (reverse bases)) (sym (length-reverse operands)) falls) x.stand in
      record {
        expected = subst (λ v. Applies (taken o) v.own (applied o v.own row vars) result (above base (reverse new))) seen
            (subst (λ after. Applies (taken o) own (applied o own row vars) result after) (sym left.is_own) x.applies);
        same = left.same ∙ ap (λ v. v.callers) seen;
        falls_now = subst (λ k. Falls k (reverse bases)) (length-reverse new) left.falls;
      }
