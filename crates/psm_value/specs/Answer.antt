-- What an operation on values answers.
use Rattle.std.specs.Prelude.{◌≡◌, ⊤, Result, Ok, Err}
use Rattle.psm_sqlstate.specs.declared.state.SqlState.{SqlState}
use Rattle.psm_value.specs.declared.fault.ValueFault.{ValueFault}
use Rattle.psm_value.specs.declared.fault.ValueFault.TheVariants.{Condition, Memory}

-- the answer is the one that is expected, unless memory runs out
abbrev pub Gives : {A : Type 0} → Result A SqlState → Result A ValueFault → Type 0
Gives expected (Ok d) = expected ≡ Ok d
Gives expected (Err (Condition state)) = expected ≡ Err state
Gives expected (Err Memory) = ⊤
