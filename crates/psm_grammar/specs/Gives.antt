-- What functions of a parser answer.
use Rattle.std.specs.Prelude.{◌≡◌, ℕ, ◌+◌, List, length, Result, Ok, Err}
use Rattle.psm_grammar.specs.Language.{Lang}
use Rattle.psm_grammar.specs.Readers.{Wrong, TooDeep, Out}
use Rattle.psm_grammar.specs.Exact.{AtEnd, Good, Bad, Deep}
use Rattle.psm_grammar.specs.declared.halt.Halt.{Halt}
use Rattle.psm_grammar.specs.declared.halt.Halt.TheVariants as halt

-- where the reader stops
abbrev pub Halts : {T Y : Type 0} → Halt → Out T Y → Type 0
Halts {T} (halt.Syntax n) o = (rest : List T) × (o ≡ Err (Wrong rest)) × (n ≡ length rest)
Halts {T} (halt.Deep n) o = (rest : List T) × (o ≡ Err (TooDeep rest)) × (n ≡ length rest)
Halts halt.Memory o = Unit {0}

-- what the reader gives, seen by view, unless memory runs out
abbrev pub Gives : {T X Y : Type 0} → (X → Y × List T) → Result X Halt → Out T Y → Type 0
Gives view (Ok x) o = o ≡ Ok (view x)
Gives view (Err e) o = Halts e o

-- The value of the run of a language at the front of ts, seen by view, and the number of its tokens; or
-- where the run ends that has no value, or opens a level above the limit; unless memory runs out.
abbrev pub Answers : {T X Y : Type 0} → Lang T Y → ℕ → List T → (X → Y) → Result (X × ℕ) Halt → Type 0
Answers {T} L limit ts view (Ok x) = (rest : List T) × Good L AtEnd limit ts (view x.0) rest × (x.1 + length rest ≡ length ts)
Answers {T} L limit ts view (Err (halt.Syntax n)) = (rest : List T) × Bad L AtEnd limit ts rest × (n ≡ length rest)
Answers {T} L limit ts view (Err (halt.Deep n)) = (rest : List T) × Deep L AtEnd limit ts rest × (n ≡ length rest)
Answers L limit ts view (Err halt.Memory) = Unit {0}
