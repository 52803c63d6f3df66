-- Operations that raise no condition, whatever stands among the operands.
use Rattle.std.proofs.Common.{◌≡◌, ℕ, zero, suc, Bool, true, false, List, [], ◌∷◌, refl, subst, Option, Some, None}
use Rattle.std.specs.Prelude.{slice_get, if◌then◌else◌}
use Rattle.psm_value.specs.declared.datum.Datum.{Datum}
use Rattle.psm_value.specs.declared.truth.Truth.{Truth as Answer}
use Rattle.psm_value.specs.Truth.{is_certain}
use Rattle.psm_exprcode.specs.declared.op.Op.{Op}
use Rattle.psm_exprcode.specs.declared.op.Op.TheVariants as op
use Rattle.psm_exprcode.specs.declared.operand.Operand.{Operand}
use Rattle.psm_exprcode.specs.declared.operand.Operand.TheVariants.{Value, Truth}
use Rattle.psm_exprcode.specs.declared.operand.Next.TheVariants.{FallThrough, Jump}
use Rattle.psm_exprcode.specs.Applied.{Applied, Went, Raised, Stuck, applied, nipped, on_many, on_three, on_truth, on_two, on_value, set_at, unless_true, with_named}
use Rattle.psm_exprcode.specs.Comparison.{is_null}
use Rattle.psm_code.specs.Instructions.{operation_raises}

abbrev pub Quiet : Applied → Type 0
Quiet (Went next os) = Unit {0}
Quiet (Raised state) = ⊥
Quiet Stuck = Unit {0}

one : (f : Datum → List Operand → Applied) (os : List Operand) → ((a : Datum) (below : List Operand) → Quiet (f a below)) → Quiet (on_value f os)
one f [] h = tt
one f (Value a ∷ below) h = h a below
one f (Truth t ∷ below) h = tt

two : (f : Datum → Datum → List Operand → Applied) (os : List Operand) → ((a b : Datum) (below : List Operand) → Quiet (f a b below)) → Quiet (on_two f os)
two f os h = one (λ b. on_value (λ a. f a b)) os (λ b below. one (λ a. f a b) below (λ a us. h a b us))

three : (f : Datum → Datum → Datum → List Operand → Applied) (os : List Operand) → ((a b c : Datum) (below : List Operand) → Quiet (f a b c below)) → Quiet (on_three f os)
three f os h = one (λ c. on_two (λ a b. f a b c)) os (λ c below. two (λ a b. f a b c) below (λ a b us. h a b c us))

truth : (f : Answer → List Operand → Applied) (os : List Operand) → ((t : Answer) (below : List Operand) → Quiet (f t below)) → Quiet (on_truth f os)
truth f [] h = tt
truth f (Value a ∷ below) h = tt
truth f (Truth t ∷ below) h = h t below

many : (n : ℕ) (f : List Datum → List Operand → Applied) (os : List Operand) → ((bs : List Datum) (below : List Operand) → Quiet (f bs below)) → Quiet (on_many n f os)
many zero f os h = h [] os
many (suc n) f os h = one (λ b. on_many n (λ bs. f (b ∷ bs))) os (λ b below. many n (λ bs. f (b ∷ bs)) below (λ bs us. h (b ∷ bs) us))

named : (os : List Operand) (o : Option Datum) → Quiet (with_named os o)
named os None = tt
named os (Some d) = tt

nips : (os : List Operand) → Quiet (nipped os)
nips [] = tt
nips (x ∷ os) = one (λ a below. Went FallThrough (x ∷ below)) os (λ a below. tt)

sets : (p : ℕ) (a : Datum) (below : List Operand) → Quiet (set_at p a below)
sets p a below = by (is_null a) where
  by : (t : Bool) → Quiet (if t then Went FallThrough below else Went (Jump p) (Value a ∷ below))
  by true = tt
  by false = tt

jumps : (p : ℕ) (t : Answer) (below : List Operand) → Quiet (unless_true p t below)
jumps p t below = by (is_certain t) where
  by : (t : Bool) → Quiet (if t then Went FallThrough below else Went (Jump p) below)
  by true = tt
  by false = tt

op_quiet : (o : Op) (os : List Operand) (row vars : List Datum) → operation_raises o ≡ false → Quiet (applied o os row vars)
op_quiet (op.Constant k d) os row vars e = tt
op_quiet (op.Variable i) os row vars e = named os (slice_get vars i)
op_quiet (op.Column i) os row vars e = named os (slice_get row i)
op_quiet op.Duplicate os row vars e = one _ os (λ a below. tt)
op_quiet op.Drop os row vars e = one _ os (λ a below. tt)
op_quiet op.DropBelow os row vars e = nips os
op_quiet op.Negate os row vars e = one _ os (λ a below. tt)
op_quiet op.Add os row vars e = absurd (cc)
op_quiet op.Subtract os row vars e = absurd (cc)
op_quiet op.Multiply os row vars e = absurd (cc)
op_quiet op.Divide os row vars e = absurd (cc)
op_quiet (op.Rescale s) os row vars e = absurd (cc)
op_quiet op.Concatenate os row vars e = absurd (cc)
op_quiet op.CharacterLength os row vars e = one _ os (λ a below. tt)
op_quiet op.Position os row vars e = two _ os (λ a b below. tt)
op_quiet op.SubstringFrom os row vars e = absurd (cc)
op_quiet op.SubstringFromFor os row vars e = absurd (cc)
op_quiet (op.Trim side) os row vars e = one _ os (λ a below. tt)
op_quiet op.Upper os row vars e = one _ os (λ a below. tt)
op_quiet op.Lower os row vars e = one _ os (λ a below. tt)
op_quiet op.Equal os row vars e = two _ os (λ a b below. tt)
op_quiet op.NotEqual os row vars e = two _ os (λ a b below. tt)
op_quiet op.Less os row vars e = two _ os (λ a b below. tt)
op_quiet op.LessOrEqual os row vars e = two _ os (λ a b below. tt)
op_quiet op.Greater os row vars e = two _ os (λ a b below. tt)
op_quiet op.GreaterOrEqual os row vars e = two _ os (λ a b below. tt)
op_quiet op.And os row vars e = truth _ os (λ b below. truth _ below (λ a us. tt))
op_quiet op.Or os row vars e = truth _ os (λ b below. truth _ below (λ a us. tt))
op_quiet op.Not os row vars e = truth _ os (λ t below. tt)
op_quiet op.IsNull os row vars e = one _ os (λ a below. tt)
op_quiet op.Like os row vars e = absurd (cc)
op_quiet op.LikeEscape os row vars e = absurd (cc)
op_quiet op.Between os row vars e = three _ os (λ a b c below. tt)
op_quiet (op.In n) os row vars e = many n _ os (λ bs below. one _ below (λ a us. tt))
op_quiet op.NullIf os row vars e = two _ os (λ a b below. tt)
op_quiet (op.Cast to) os row vars e = absurd (cc)
op_quiet (op.Jump p) os row vars e = tt
op_quiet (op.JumpUnlessTrue p) os row vars e = truth _ os (λ t below. jumps p t below)
op_quiet (op.JumpUnlessNull p) os row vars e = one _ os (λ a below. sets p a below)

-- an operation that raises a condition is marked so
pub raised_marked : (o : Op) (os : List Operand) (row vars : List Datum) (state : List ℕ) → applied o os row vars ≡ Raised state → operation_raises o ≡ true
raised_marked o os row vars state e = by (operation_raises o) refl where
  by : (t : Bool) → operation_raises o ≡ t → t ≡ true
  by true q = refl
  by false q = absurd (subst Quiet e (op_quiet o os row vars q))
