-- Lines of operations that are written one after another are well-formed.
use Rattle.std.proofs.Common.{arith, ◌≡◌, ◌≤◌, ◌<◌, ℕ, suc, true, false, ◌++◌, not, List, [], ◌∷◌, drop, length, Option, Some, None, ap, refl, sym, ◌∙◌, subst₂, length-append}
use Rattle.std.specs.Prelude.{reverse}
use Rattle.std.proofs.Math.Seq.{drop-append_seam}
use Rattle.std.proofs.lemmas.Bool.{false≢true}
use Rattle.std.proofs.lemmas.List.{reverse-reverse}
use Rattle.psm_exprcode.specs.declared.op.Letter.{Letter}
use Rattle.psm_exprcode.specs.declared.op.Letter.TheVariants.{N, B}
use Rattle.psm_exprcode.specs.declared.op.Op.{Op}
use Rattle.psm_exprcode.specs.declared.op.Op.TheVariants as op
use Rattle.psm_exprcode.specs.Kinds.{is_value}
use Rattle.psm_exprcode.specs.Operations.{Effect, effect}
use Rattle.psm_exprcode.specs.Operations as operations
use Rattle.psm_code.specs.declared.code.RawCode.{RawCode}
use Rattle.psm_code.specs.declared.code.RawRoutine.{RawRoutine}
use Rattle.psm_code.specs.declared.instruction.Instruction.{Instruction}
use Rattle.psm_code.specs.declared.instruction.Instruction.TheVariants as instruction
use Rattle.psm_code.specs.declared.lines.CodeLine.{CodeLine}
use Rattle.psm_code.specs.Parts.{line_at}
use Rattle.psm_code.specs.Rules.{is_some}
use Rattle.psm_code.specs.RoutineRules.{context_after, context_there, jump_of, stands_alone, stands_well_formed}
use Rattle.psm_exprgen.specs.Written.{Written, all_applied, applied, here, puts, taken}
use Rattle.psm_exprgen.specs.Writing.{Begins, BeginsWith, Grows}
use Rattle.psm_exprgen.proofs.Counts.{here-puts}
use Rattle.psm_exprgen.proofs.Growth.{begins-earlier, grows-all_applied}
use Rattle.psm_codegen.proofs.There.{line_of, there_at}
use Rattle.psm_codegen_wellformed.specs.Frame.{Ends, Follows, Free}
use Rattle.psm_codegen_wellformed.proofs.Lines.{FallsThrough, Branches, Does, free-join, free-none, free-one, goes-fall_through, jumps-on, line-well_formed, never-fall_through, no-jump, or_first, resumes-following}

-- an instruction stands in any context, in which it goes on, and whatever operands there are
pub record Calm (r : RawRoutine) (i : Instruction) : Type 0 where
  pub stands : stands_alone i ≡ false
  pub right : (l : CodeLine) → stands_well_formed r l i ≡ true
  pub following : (l : CodeLine) → context_after r l i ≡ l.context

pub calm-operation : {r : RawRoutine} (o : Op) → Calm r (instruction.Operation o)
calm-operation o = record { stands = refl; right = λ l. refl; following = λ l. refl }

-- ---- lines that follow

pub follows-as : {r : RawRoutine} {n m context : ℕ} {s t : List Letter} → Follows r n context s → n ≡ m → s ≡ t → Follows r m context t
follows-as {r} {context = context} f p q = subst₂ (λ n s. Follows r n context s) p q f

pub line-starts : {r : RawRoutine} (context : ℕ) (resume : Option ℕ) (i : Instruction) (w : Written) → BeginsWith (w.lines ++ line_of context resume i w ∷ []) r.lines → Follows r (here w) context w.stack
line-starts context resume i w b = record { line = line_of context resume i w; there = there_at w.lines b; inside = refl; states = reverse-reverse w.stack }

pub all_applied-starts : {r : RawRoutine} (context resume count : ℕ) (k : Letter) (os : List Op) (w : Written) → Begins (all_applied context resume count k os w) r
    → Follows r (here (all_applied context resume count k os w)) context (all_applied context resume count k os w).stack → Follows r (here w) context w.stack
all_applied-starts context resume count k [] w b f = f
all_applied-starts context resume count k (o ∷ os) w b f = line-starts context (Some resume) (instruction.Operation o) w (begins-earlier (grows-all_applied context resume 1 k os (applied context resume o count k w)) b).lines

-- ---- letters

pub dropped : (taken rest s : List Letter) (count : ℕ) → length taken ≡ count → s ≡ taken ++ rest → drop count s ≡ rest
dropped taken rest s count n q = ap (drop count) q ∙ ap (λ m. drop m (taken ++ rest)) (sym n) ∙ drop-append_seam taken rest

-- an operation takes operands of these letters, the last one first, and puts one of that letter
pub record Makes (code : RawCode) (r : RawRoutine) (o : Op) (ks : List Letter) (k : Letter) : Type 0 where
  pub name : List ℕ
  pub does : Does code r (instruction.Operation o) (operations.plain name ks (k ∷ []))

-- the first of some operations does, and each other one takes what the one before it puts
abbrev pub AllMake : RawCode → RawRoutine → List Letter → List Op → Letter → Type 0
AllMake code r ks [] k = Unit {0}
AllMake code r ks (o ∷ os) k = Makes code r o ks k × AllMake code r (k ∷ []) os k

pub all_applied-stack : (code : RawCode) (r : RawRoutine) (context resume : ℕ) (ks rest : List Letter) (count : ℕ) (k : Letter) (os : List Op) (w : Written) → is_some os ≡ true → AllMake code r ks os k → length ks ≡ count
    → w.stack ≡ ks ++ rest → (all_applied context resume count k os w).stack ≡ k ∷ rest
all_applied-stack code r context resume ks rest count k [] w some all n q = absurd (false≢true some)
all_applied-stack code r context resume ks rest count k (o ∷ []) w some all n q = ap (λ s. k ∷ s) (dropped ks rest w.stack count n q)
all_applied-stack code r context resume ks rest count k (o ∷ p ∷ os) w some all n q =
    all_applied-stack code r context resume (k ∷ []) rest 1 k (p ∷ os) (applied context resume o count k w) refl all.1 refl (ap (λ s. k ∷ s) (dropped ks rest w.stack count n q))

-- none of them jumps
abbrev pub AllStay : List Op → Type 0
AllStay [] = Unit {0}
AllStay (o ∷ os) = (jump_of (instruction.Operation o) ≡ None) × AllStay os

-- what is written later stands after
pub grows-after : {w v : Written} → Grows w v → here w ≤ here v
grows-after {w} {v} g = omega (arith, ap length g.lines.is, length-append w.lines g.lines.more)

-- ---- lines that are free of faults

module _ {code : RawCode} {r : RawRoutine} {context resume : ℕ} (first : Follows r 0 0 []) (known : context_there r context ≡ true) (ends : Ends r resume context) where
  pub written-free : (i : Instruction) (e : Effect) (rest : List Letter) (w : Written) → BeginsWith (w.lines ++ line_of context (Some resume) i w ∷ []) r.lines → Does code r i e → Calm r i → w.stack ≡ e.takes ++ rest → here w < resume
      → FallsThrough r (here w) context i e.fall_through rest → Branches r (here w) context i e.branching rest → Free code r (here w) (suc (here w))
  written-free i e rest w b d calm s h fall_through branching =
      let l : CodeLine = line_of context (Some resume) i w in
      let there : line_at r (here w) ≡ Some l = there_at w.lines b in
      free-one l there (line-well_formed l e rest there first known d (or_first (not (stands_alone i)) (not (is_some (reverse w.stack))) (ap not calm.stands)) (calm.right l) (calm.following l) (reverse-reverse w.stack ∙ s)
      (resumes-following l refl refl h ends) fall_through branching)

  pub puts-free : (i : Instruction) (name : List ℕ) (ks letters rest : List Letter) (count : ℕ) (w : Written) → Begins (puts context resume i count letters w) r → Does code r i (operations.plain name ks letters) → Calm r i → jump_of i ≡ None
      → length ks ≡ count → w.stack ≡ ks ++ rest → here (puts context resume i count letters w) ≤ resume → Follows r (here (puts context resume i count letters w)) context (puts context resume i count letters w).stack
      → Free code r (here w) (here (puts context resume i count letters w))
  puts-free i name ks letters rest count w b d calm stays n s h f =
      let next = here-puts context resume i count letters w in
      let lines : Free code r (here w) (suc (here w)) = written-free i (operations.plain name ks letters) rest w b.lines d calm s (omega (arith, h, next))
      (goes-fall_through i (follows-as f next (ap (λ t. letters ++ t) (dropped ks rest w.stack count n s)))) (no-jump i stays) in
      subst₂ (λ m k. Free code r (here w) m) (sym next) (sym next) lines

  -- an operation that jumps nowhere
  pub applied-free : (o : Op) (ks rest : List Letter) (count : ℕ) (k : Letter) (w : Written) → Begins (applied context resume o count k w) r → Makes code r o ks k → jump_of (instruction.Operation o) ≡ None
      → length ks ≡ count → w.stack ≡ ks ++ rest → here (applied context resume o count k w) ≤ resume → Follows r (here (applied context resume o count k w)) context (applied context resume o count k w).stack
      → Free code r (here w) (here (applied context resume o count k w))
  applied-free o ks rest count k w b m stays n s h f = puts-free (instruction.Operation o) m.name ks (k ∷ []) rest count w b m.does (calm-operation o) stays n s h f

  -- ---- jumps

  pub jump-free : (p : ℕ) (w : Written) → BeginsWith (w.lines ++ line_of context (Some resume) (instruction.Operation (op.Jump p)) w ∷ []) r.lines → here w < p → here w < resume → Follows r p context w.stack
      → Free code r (here w) (suc (here w))
  jump-free p w b following h f = written-free (instruction.Operation (op.Jump p)) (effect (op.Jump p) B B) w.stack w b
      (record { names = refl; place = refl; fits = refl; value = N; other = B; is_value = refl; effect = refl }) (calm-operation (op.Jump p)) refl h (never-fall_through (instruction.Operation (op.Jump p)) refl) (jumps-on (instruction.Operation (op.Jump p)) refl following f)

  pub test-free : (p : ℕ) (rest : List Letter) (w : Written) → BeginsWith (w.lines ++ line_of context (Some resume) (instruction.Operation (op.JumpUnlessTrue p)) w ∷ []) r.lines → w.stack ≡ B ∷ rest → here w < p → here w < resume
      → Follows r (suc (here w)) context rest → Follows r p context rest → Free code r (here w) (suc (here w))
  test-free p rest w b s following h next f = written-free (instruction.Operation (op.JumpUnlessTrue p)) (effect (op.JumpUnlessTrue p) N B) rest w b
      (record { names = refl; place = refl; fits = refl; value = N; other = B; is_value = refl; effect = refl }) (calm-operation (op.JumpUnlessTrue p)) s h (goes-fall_through (instruction.Operation (op.JumpUnlessTrue p)) next)
      (jumps-on (instruction.Operation (op.JumpUnlessTrue p)) refl following f)

  pub unless_null-free : (p : ℕ) (k : Letter) (rest : List Letter) (w : Written) → is_value k ≡ true → BeginsWith (w.lines ++ line_of context (Some resume) (instruction.Operation (op.JumpUnlessNull p)) w ∷ []) r.lines → w.stack ≡ k ∷ rest
      → here w < p → here w < resume → Follows r (suc (here w)) context rest → Follows r p context (k ∷ rest) → Free code r (here w) (suc (here w))
  unless_null-free p k rest w v b s following h next f = written-free (instruction.Operation (op.JumpUnlessNull p)) (effect (op.JumpUnlessNull p) k B) rest w b
      (record { names = refl; place = refl; fits = refl; value = k; other = B; is_value = v; effect = refl }) (calm-operation (op.JumpUnlessNull p)) s h (goes-fall_through (instruction.Operation (op.JumpUnlessNull p)) next)
      (jumps-on (instruction.Operation (op.JumpUnlessNull p)) refl following f)

  -- ---- operations one after another

  pub all_applied-free : (ks rest : List Letter) (count : ℕ) (k : Letter) (os : List Op) (w : Written) → AllMake code r ks os k → AllStay os → length ks ≡ count → w.stack ≡ ks ++ rest → Begins (all_applied context resume count k os w) r
      → here (all_applied context resume count k os w) ≤ resume → Follows r (here (all_applied context resume count k os w)) context (all_applied context resume count k os w).stack
      → Free code r (here w) (here (all_applied context resume count k os w))
  all_applied-free ks rest count k [] w all stay n s b h f = free-none
  all_applied-free ks rest count k (o ∷ os) w all stay n s b h f =
      let next = applied context resume o count k w in
      let grows : Grows next (all_applied context resume 1 k os next) = grows-all_applied context resume 1 k os next in
      free-join
      (applied-free o ks rest count k w (begins-earlier grows b) all.0 stay.0 n s (omega (arith, h, grows-after grows)) (all_applied-starts context resume 1 k os next b f))
      (all_applied-free (k ∷ []) rest 1 k os next all.1 stay.1 refl (ap (λ t. k ∷ t) (dropped ks rest w.stack count n s)) b h f)
