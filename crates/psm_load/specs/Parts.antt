-- How lines are read one after another: what the lines at the front stand for, and what follows them.
use Rattle.std.specs.Prelude.{ℕ, zero, suc, Bool, true, false, List, [], ◌∷◌, Option, Some, None, Result, Ok, Err}
use Rattle.psm_code.specs.declared.rule.CodeRule.{CodeRule}
use Rattle.psm_load_line.specs.Readers.{LineReader}

-- where reading stands: the number of the next line, and the first line that fits but stands for nothing that code holds, with the rule
-- that it breaks
pub record At : Type 0 where
  pub number : ℕ
  pub odd : Option (ℕ × CodeRule)

-- what the lines at the front stand for, and what follows them; or the number of the first line that isn't the one that is due, which is
-- that after the last one where it is missing
abbrev pub Part : Type 0 → Type 0
Part A = At → List (List ℕ) → Result (A × (At × List (List ℕ))) ℕ

-- ---- one line

abbrev pub first_odd : Option (ℕ × CodeRule) → ℕ → Option CodeRule → Option (ℕ × CodeRule)
first_odd (Some o) n rule = Some o
first_odd None n None = None
first_odd None n (Some rule) = Some (n, rule)

abbrev pub after_line : At → Option CodeRule → At
after_line at rule = record { number = suc at.number; odd = first_odd at.odd at.number rule }

abbrev pub taken : {A : Type 0} → At → (A → Option CodeRule) → List (List ℕ) → Option A → Result (A × (At × List (List ℕ))) ℕ
taken at breaks ls None = Err at.number
taken at breaks ls (Some a) = Ok (a, (after_line at (breaks a), ls))

-- a line, which may stand for nothing that code holds
abbrev pub noting : {A : Type 0} → (A → Option CodeRule) → LineReader A → Part A
noting breaks read at [] = Err at.number
noting breaks read at (l ∷ ls) = taken at breaks ls (read l)

abbrev pub one : {A : Type 0} → LineReader A → Part A
one read = noting (λ a. None) read

-- ---- several

abbrev pub given : {A : Type 0} → A → Part A
given a at ls = Ok (a, (at, ls))

abbrev pub and_then : {A B : Type 0} → Result (A × (At × List (List ℕ))) ℕ → (A → Part B) → Result (B × (At × List (List ℕ))) ℕ
and_then (Err n) next = Err n
and_then (Ok x) next = next x.0 x.1.0 x.1.1

infixl 10 ◌>>◌
-- what follows is read by what was read
abbrev pub ◌>>◌ : {A B : Type 0} → Part A → (A → Part B) → Part B
(p >> next) at ls = and_then (p at ls) next

abbrev pub times : {A : Type 0} → ℕ → Part A → Part (List A)
times zero p = given []
times (suc n) p = p >> λ a. times n p >> λ others. given (a ∷ others)

abbrev pub if_there : {A : Type 0} → Bool → Part A → Part (Option A)
if_there false p = given None
if_there true p = p >> λ a. given (Some a)
