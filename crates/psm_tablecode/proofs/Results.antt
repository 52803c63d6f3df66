-- Answers that are expected, and what follows from them.
use Rattle.std.proofs.Common.{◌≡◌, Some, refl, ap, ◌∙◌, Result, Ok, Err}
use Rattle.psm_sqlstate.specs.declared.state.SqlState.{SqlState}
use Rattle.psm_value.specs.Answer.{Gives}
use Rattle.psm_value.specs.declared.fault.ValueFault.{ValueFault}
use Rattle.psm_value.specs.declared.fault.ValueFault.TheVariants.{Condition, Memory}
use Rattle.psm_exprcode.specs.Evaluated.{Outcome, Evaluates}
use Rattle.psm_table.specs.Evaluator.{and_then, mapped}

pub mapped-same : {A : Type 0} (r : Result A SqlState) → mapped (λ a. a) r ≡ r
mapped-same (Ok a) = refl
mapped-same (Err s) = refl

pub mapped-mapped : {A B C : Type 0} (g : B → C) (f : A → B) (r : Result A SqlState) → mapped g (mapped f r) ≡ mapped (λ a. g (f a)) r
mapped-mapped g f (Ok a) = refl
mapped-mapped g f (Err s) = refl

pub mapped-err : {A B : Type 0} (f : A → B) (r : Result A SqlState) (s : SqlState) → mapped f r ≡ Err s → r ≡ Err s
mapped-err f (Ok a) s e = cc
mapped-err f (Err t) s e = let same : t ≡ s = cc in ap Err same

-- a fault of what is expected first is that of the whole
pub gives_first : {A B : Type 0} (r : Result A SqlState) (go : A → Result B SqlState) (fault : ValueFault) → Gives r (Err fault) → Gives (and_then r go) (Err fault)
gives_first r go (Condition s) e = ap (λ q. and_then q go) e
gives_first r go Memory e = tt

pub gives_mapped : {A B : Type 0} (f : A → B) (r : Result A SqlState) (fault : ValueFault) → Gives r (Err fault) → Gives (mapped f r) (Err fault)
gives_mapped f r (Condition s) e = ap (mapped f) e
gives_mapped f r Memory e = tt

pub gives_unmapped : {A B : Type 0} (f : A → B) (r : Result A SqlState) (fault : ValueFault) → Gives (mapped f r) (Err fault) → Gives r (Err fault)
gives_unmapped f r (Condition s) e = mapped-err f r s e
gives_unmapped f r Memory e = tt

pub gives_by : {A : Type 0} (r : Result A SqlState) (q : Result A SqlState) (a : Result A ValueFault) → r ≡ q → Gives q a → Gives r a
gives_by r q (Ok a) e g = e ∙ g
gives_by r q (Err (Condition s)) e g = e ∙ g
gives_by r q (Err Memory) e g = tt

-- a fault of an evaluation is expected
pub evaluates_fault : {A : Type 0} (f : Outcome → Result A SqlState) (expected : Outcome) (fault : ValueFault) → ((s : SqlState) → f (Some (Err s)) ≡ Err s) → Evaluates expected (Err fault) → Gives (f expected) (Err fault)
evaluates_fault f expected (Condition s) h e = ap f e ∙ h s
evaluates_fault f expected Memory h e = tt
