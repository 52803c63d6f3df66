-- Where an operation goes on: ahead, or at the line to which its instruction jumps.
use Rattle.std.proofs.Common.{◌≡◌, ℕ, zero, suc, Bool, true, false, List, [], ◌∷◌, refl, Option, Some, None, Result, Ok, Err}
use Rattle.std.specs.Prelude.{slice_get, if◌then◌else◌}
use Rattle.psm_value.specs.declared.datum.Datum.{Datum}
use Rattle.psm_value.specs.declared.truth.Truth.{Truth as Answer}
use Rattle.psm_value.specs.Truth.{is_certain}
use Rattle.psm_exprcode.specs.declared.op.Op.{Op}
use Rattle.psm_exprcode.specs.declared.op.Op.TheVariants as op
use Rattle.psm_exprcode.specs.declared.operand.Operand.{Operand}
use Rattle.psm_exprcode.specs.declared.operand.Operand.TheVariants.{Value, Truth}
use Rattle.psm_exprcode.specs.declared.operand.Next.TheVariants.{FallThrough, Jump}
use Rattle.psm_exprcode.specs.Applied.{Applied, Went, Raised, Stuck, applied, nipped, on_many, on_three, on_truth, on_two, on_value, set_at, unless_true, with_named, with_truth, with_value}
use Rattle.psm_exprcode.specs.Comparison.{is_null}
use Rattle.psm_code.specs.declared.instruction.Instruction.TheVariants as instruction
use Rattle.psm_code.specs.RoutineRules.{jump_of}

-- a jump is to that line
abbrev pub GoesWithin : Option ℕ → Applied → Type 0
GoesWithin j (Went FallThrough os) = Unit {0}
GoesWithin j (Went (Jump p) os) = j ≡ Some p
GoesWithin j (Raised state) = Unit {0}
GoesWithin j Stuck = Unit {0}

module _ (j : Option ℕ) where
  one : (f : Datum → List Operand → Applied) (os : List Operand) → ((a : Datum) (below : List Operand) → GoesWithin j (f a below)) → GoesWithin j (on_value f os)
  one f [] h = tt
  one f (Value a ∷ below) h = h a below
  one f (Truth t ∷ below) h = tt

  two : (f : Datum → Datum → List Operand → Applied) (os : List Operand) → ((a b : Datum) (below : List Operand) → GoesWithin j (f a b below)) → GoesWithin j (on_two f os)
  two f os h = one (λ b. on_value (λ a. f a b)) os (λ b below. one (λ a. f a b) below (λ a us. h a b us))

  three : (f : Datum → Datum → Datum → List Operand → Applied) (os : List Operand) → ((a b c : Datum) (below : List Operand) → GoesWithin j (f a b c below)) → GoesWithin j (on_three f os)
  three f os h = one (λ c. on_two (λ a b. f a b c)) os (λ c below. two (λ a b. f a b c) below (λ a b us. h a b c us))

  truth : (f : Answer → List Operand → Applied) (os : List Operand) → ((t : Answer) (below : List Operand) → GoesWithin j (f t below)) → GoesWithin j (on_truth f os)
  truth f [] h = tt
  truth f (Value a ∷ below) h = tt
  truth f (Truth t ∷ below) h = h t below

  many : (n : ℕ) (f : List Datum → List Operand → Applied) (os : List Operand) → ((bs : List Datum) (below : List Operand) → GoesWithin j (f bs below)) → GoesWithin j (on_many n f os)
  many zero f os h = h [] os
  many (suc n) f os h = one (λ b. on_many n (λ bs. f (b ∷ bs))) os (λ b below. many n (λ bs. f (b ∷ bs)) below (λ bs us. h (b ∷ bs) us))

  named : (os : List Operand) (o : Option Datum) → GoesWithin j (with_named os o)
  named os None = tt
  named os (Some d) = tt

  valued : (below : List Operand) (d : Result Datum (List ℕ)) → GoesWithin j (with_value below d)
  valued below (Ok d) = tt
  valued below (Err state) = tt

  decided : (below : List Operand) (t : Result Answer (List ℕ)) → GoesWithin j (with_truth below t)
  decided below (Ok t) = tt
  decided below (Err state) = tt

  nips : (os : List Operand) → GoesWithin j (nipped os)
  nips [] = tt
  nips (x ∷ os) = one (λ a below. Went FallThrough (x ∷ below)) os (λ a below. tt)

sets : (p : ℕ) (a : Datum) (below : List Operand) → GoesWithin (Some p) (set_at p a below)
sets p a below = by (is_null a) where
  by : (t : Bool) → GoesWithin (Some p) (if t then Went FallThrough below else Went (Jump p) (Value a ∷ below))
  by true = tt
  by false = refl

jumps : (p : ℕ) (t : Answer) (below : List Operand) → GoesWithin (Some p) (unless_true p t below)
jumps p t below = by (is_certain t) where
  by : (t : Bool) → GoesWithin (Some p) (if t then Went FallThrough below else Went (Jump p) below)
  by true = tt
  by false = refl

pub goes_within : (o : Op) (os : List Operand) (row vars : List Datum) → GoesWithin (jump_of (instruction.Operation o)) (applied o os row vars)
goes_within (op.Constant k d) os row vars = tt
goes_within (op.Variable i) os row vars = named None os (slice_get vars i)
goes_within (op.Column i) os row vars = named None os (slice_get row i)
goes_within op.Duplicate os row vars = one None _ os (λ a below. tt)
goes_within op.Drop os row vars = one None _ os (λ a below. tt)
goes_within op.DropBelow os row vars = nips None os
goes_within op.Negate os row vars = one None _ os (λ a below. tt)
goes_within op.Add os row vars = two None _ os (λ a b below. valued None below _)
goes_within op.Subtract os row vars = two None _ os (λ a b below. valued None below _)
goes_within op.Multiply os row vars = two None _ os (λ a b below. valued None below _)
goes_within op.Divide os row vars = two None _ os (λ a b below. valued None below _)
goes_within (op.Rescale s) os row vars = one None _ os (λ a below. valued None below _)
goes_within op.Concatenate os row vars = two None _ os (λ a b below. valued None below _)
goes_within op.CharacterLength os row vars = one None _ os (λ a below. tt)
goes_within op.Position os row vars = two None _ os (λ a b below. tt)
goes_within op.SubstringFrom os row vars = two None _ os (λ a b below. valued None below _)
goes_within op.SubstringFromFor os row vars = three None _ os (λ a b c below. valued None below _)
goes_within (op.Trim side) os row vars = one None _ os (λ a below. tt)
goes_within op.Upper os row vars = one None _ os (λ a below. tt)
goes_within op.Lower os row vars = one None _ os (λ a below. tt)
goes_within op.Equal os row vars = two None _ os (λ a b below. tt)
goes_within op.NotEqual os row vars = two None _ os (λ a b below. tt)
goes_within op.Less os row vars = two None _ os (λ a b below. tt)
goes_within op.LessOrEqual os row vars = two None _ os (λ a b below. tt)
goes_within op.Greater os row vars = two None _ os (λ a b below. tt)
goes_within op.GreaterOrEqual os row vars = two None _ os (λ a b below. tt)
goes_within op.And os row vars = truth None _ os (λ b below. truth None _ below (λ a us. tt))
goes_within op.Or os row vars = truth None _ os (λ b below. truth None _ below (λ a us. tt))
goes_within op.Not os row vars = truth None _ os (λ t below. tt)
goes_within op.IsNull os row vars = one None _ os (λ a below. tt)
goes_within op.Like os row vars = two None _ os (λ a b below. decided None below _)
goes_within op.LikeEscape os row vars = three None _ os (λ a b c below. decided None below _)
goes_within op.Between os row vars = three None _ os (λ a b c below. tt)
goes_within (op.In n) os row vars = many None n _ os (λ bs below. one None _ below (λ a us. tt))
goes_within op.NullIf os row vars = two None _ os (λ a b below. tt)
goes_within (op.Cast to) os row vars = one None _ os (λ a below. valued None below _)
goes_within (op.Jump p) os row vars = refl
goes_within (op.JumpUnlessTrue p) os row vars = truth (Some p) _ os (λ t below. jumps p t below)
goes_within (op.JumpUnlessNull p) os row vars = one (Some p) _ os (λ a below. sets p a below)
