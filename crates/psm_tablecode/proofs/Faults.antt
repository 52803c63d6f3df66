-- The answer of a statement whose evaluation fails.
use Rattle.std.proofs.Common.{sym, subst, Result, Err}
use Rattle.psm_sqlstate.specs.declared.state.SqlState.{SqlState}
use Rattle.psm_cond.specs.declared.fault.DataFault.{DataFault}
use Rattle.psm_cond.specs.declared.fault.DataFault.TheVariants.{Raised, Memory}
use Rattle.psm_value.specs.Answer.{Gives}
use Rattle.psm_value.specs.declared.fault.ValueFault.{ValueFault}
use Rattle.psm_value.specs.declared.fault.ValueFault.TheVariants as value_fault
use Rattle.psm_tablecode.specs.Faults.{Answers, IsRaised, Reports}

pub answers_fault : {A : Type 0} (expected : Result A SqlState) (fault : ValueFault) (reported : DataFault) → Gives expected (Err fault) → Reports fault reported → Answers expected (Err reported)
answers_fault expected (value_fault.Condition s) (Raised c) g t = subst (λ d. IsRaised d c) (sym g) t
answers_fault expected (value_fault.Condition s) Memory g t = tt
answers_fault expected value_fault.Memory (Raised c) g t = absurd t
answers_fault expected value_fault.Memory Memory g t = tt
