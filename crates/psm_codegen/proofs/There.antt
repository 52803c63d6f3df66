-- Where lines and queries that are written stand in a routine that begins with them.
use Rattle.std.proofs.Common.{◌≡◌, ℕ, List, [], ◌∷◌, ◌++◌, Some, None, ap, refl, ◌∙◌, subst, length, slice_get, Option}
use Rattle.std.specs.Prelude.{reverse}
use Rattle.std.proofs.lemmas.List.{append_assoc}
use Rattle.psm_exprcode.specs.declared.op.Letter.{Letter}
use Rattle.psm_exprcode.specs.declared.op.Op.{Op}
use Rattle.psm_code.specs.declared.code.RawRoutine.{RawRoutine}
use Rattle.psm_code.specs.declared.instruction.Instruction.{Instruction}
use Rattle.psm_code.specs.declared.lines.CodeLine.{CodeLine}
use Rattle.psm_simulation.specs.Env.{Plain, Raising}
use Rattle.psm_simulation.specs.Expressions.{Operations}
use Rattle.psm_exprgen.specs.Written.{Written, all_applied, applied, here}
use Rattle.psm_exprgen.specs.Writing.{Begins, BeginsWith}
use Rattle.psm_exprgen.proofs.Counts.{here-applied}
use Rattle.psm_exprgen.proofs.Growth.{begins-earlier, grows-all_applied}

following : {A : Type 0} (xs : List A) (x : A) (more : List A) → slice_get (xs ++ x ∷ more) (length xs) ≡ Some x
following [] x more = refl
following (y ∷ xs) x more = following xs x more

pub there_at : {A : Type 0} {ys : List A} {x : A} (xs : List A) → BeginsWith (xs ++ x ∷ []) ys → slice_get ys (length xs) ≡ Some x
there_at {x = x} xs b = ap (λ l. slice_get l (length xs)) (b.is ∙ append_assoc xs (x ∷ []) b.more) ∙ following xs x b.more

-- a line with its instruction, after a condition of which the run goes on at the line resume
abbrev pub line_of : ℕ → Option ℕ → Instruction → Written → CodeLine
line_of context resume i w = record { context = context; resume = resume; stack = reverse w.stack; instruction = i }

pub raising_there : {context resume : ℕ} {i : Instruction} {r : RawRoutine} (w : Written) → BeginsWith (w.lines ++ line_of context (Some resume) i w ∷ []) r.lines → Raising r context resume (here w) i
raising_there w b = record { stack = reverse w.stack; there = there_at w.lines b }

pub plain_there : {i : Instruction} {r : RawRoutine} (context : ℕ) (w : Written) → BeginsWith (w.lines ++ line_of context None i w ∷ []) r.lines → Plain r (here w) i
plain_there context w b = record { context = context; stack = reverse w.stack; resume = None; there = there_at w.lines b }

pub operations_there : {r : RawRoutine} (context resume count : ℕ) (k : Letter) (os : List Op) (w : Written) → Begins (all_applied context resume count k os w) r
    → Operations r context resume os (here w) (here (all_applied context resume count k os w))
operations_there context resume count k [] w b = refl
operations_there {r} context resume count k (o ∷ os) w b =
    let next = applied context resume o count k w in
    let end = all_applied context resume 1 k os next in (
      raising_there w (begins-earlier (grows-all_applied context resume 1 k os next) b).lines,
      subst (λ n. Operations r context resume os n (here end)) (here-applied context resume o count k w) (operations_there context resume 1 k os next b),
    )
