-- Steps of what is written with labels.
use Rattle.std.proofs.Common.{◌≡◌, ℕ, List, [], ◌∷◌, length, None, ap, refl, sym, ◌∙◌}
use Rattle.psm_exprcode.specs.declared.op.Letter.{Letter}
use Rattle.psm_exprcode.specs.declared.op.Op.{Op}
use Rattle.psm_exprcode.specs.declared.query.Query.{Query}
use Rattle.psm_code.specs.declared.instruction.Instruction.{Instruction}
use Rattle.psm_code.specs.declared.instruction.Instruction.TheVariants as instruction
use Rattle.psm_exprgen.specs.Labels.{Drafted, patched, patched_instruction}
use Rattle.psm_exprgen.specs.Written.{Written, all_applied, applied, bound, here, plain, puts, takes, taken, with_label, with_query}
use Rattle.psm_exprgen.proofs.Drafts.{begins-same, one, scope, step}
use Rattle.psm_exprgen.proofs.Patches.{AllStill, Still, here-patched, patched-all_applied, patched-applied, patched-plain, patched-puts}

-- nothing is written
pub here_drafted : {R : (ℕ → ℕ) → Written → Written → Type 0} {w : Written} → ((σ : ℕ → ℕ) → R σ (patched σ w) (patched σ w)) → Drafted R w w
here_drafted f = record { labels = begins-same refl; is = λ σ r. f σ }

pub plain_drafted : (context : ℕ) (i : Instruction) {w v : Written} → v ≡ plain context i w → Drafted (λ σ x y. y ≡ plain context (patched_instruction σ i) x) w v
plain_drafted context i {w} h = step (λ σ. plain context (patched_instruction σ i)) (ap (λ z. z.labels) h) (λ σ. ap (patched σ) h ∙ patched-plain σ context i w)

pub puts_drafted : (context resume : ℕ) (i : Instruction) (count : ℕ) (letters : List Letter) {w v : Written} → v ≡ puts context resume i count letters w
    → Drafted (λ σ x y. y ≡ puts context (σ resume) (patched_instruction σ i) count letters x) w v
puts_drafted context resume i count letters {w} h =
    step (λ σ. puts context (σ resume) (patched_instruction σ i) count letters) (ap (λ z. z.labels) h) (λ σ. ap (patched σ) h ∙ patched-puts σ context resume i count letters w)

pub takes_drafted : (context resume : ℕ) (i : Instruction) (count : ℕ) {w v : Written} → v ≡ takes context resume i count w → Drafted (λ σ x y. y ≡ takes context (σ resume) (patched_instruction σ i) count x) w v
takes_drafted context resume i count h = puts_drafted context resume i count [] h

-- an operation that jumps
pub taken_drafted : (context resume : ℕ) (o : Op) {w v : Written} → v ≡ taken context resume o w → Drafted (λ σ x y. y ≡ takes context (σ resume) (patched_instruction σ (instruction.Operation o)) 1 x) w v
taken_drafted context resume o h = puts_drafted context resume (instruction.Operation o) 1 [] h

-- one that doesn't
pub applied_drafted : (context resume : ℕ) (o : Op) (count : ℕ) (k : Letter) {w v : Written} → Still o → v ≡ applied context resume o count k w → Drafted (λ σ x y. y ≡ applied context (σ resume) o count k x) w v
applied_drafted context resume o count k {w} s h = step (λ σ. applied context (σ resume) o count k) (ap (λ z. z.labels) h) (λ σ. ap (patched σ) h ∙ patched-applied σ context resume o count k w s)

all_labels : (context resume count : ℕ) (k : Letter) (os : List Op) (w : Written) → (all_applied context resume count k os w).labels ≡ w.labels
all_labels context resume count k [] w = refl
all_labels context resume count k (o ∷ os) w = all_labels context resume 1 k os (applied context resume o count k w)

pub all_applied_drafted : (context resume count : ℕ) (k : Letter) (os : List Op) {w v : Written} → AllStill os → v ≡ all_applied context resume count k os w → Drafted (λ σ x y. y ≡ all_applied context (σ resume) count k os x) w v
all_applied_drafted context resume count k os {w} s h =
    step (λ σ. all_applied context (σ resume) count k os) (ap (λ z. z.labels) h ∙ all_labels context resume count k os w) (λ σ. ap (patched σ) h ∙ patched-all_applied σ context resume count k os w s)

pub query_drafted : (code : Query) {w v : Written} → v ≡ with_query code w → Drafted (λ σ x y. y ≡ with_query code x) w v
query_drafted code h = step (λ σ. with_query code) (ap (λ z. z.labels) h) (λ σ. ap (patched σ) h)

-- a label that is bound to the line after what is written
pub scoped : {label : ℕ} {R : (ℕ → ℕ) → Written → Written → Type 0} {w l f v : Written} → label ≡ length w.labels → l ≡ with_label None w → Drafted R l f → v ≡ bound label f → Drafted (λ σ x y. R σ x y × (σ label ≡ here y)) w v
scoped {label} {R} {w} {l} {f} {v} n m a e =
    one (scope n (ap (λ z. z.labels) m) (λ σ. ap (patched σ) m) a (ap (λ z. z.labels) e) (λ σ. ap (patched σ) e))
    (λ σ s. (s.0, s.1 ∙ sym (here-patched σ f) ∙ ap here (sym (ap (patched σ) e))))
