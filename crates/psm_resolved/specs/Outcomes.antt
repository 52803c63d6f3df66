-- What is made of operands, from left to right: the first that is stuck or has a condition decides.
use Rattle.std.specs.Prelude.{ℕ, Bool, true, false, List, [], ◌∷◌, Option, Some, None, Result, Ok, Err, if◌then◌else◌}
use Rattle.psm_value.specs.declared.datum.Datum.{Datum}
use Rattle.psm_value.specs.declared.truth.Truth.{Truth as Answer}
use Rattle.psm_value.specs.Truth.{opposite, is_certain}
use Rattle.psm_exprcode.specs.declared.operand.Operand.{Operand}
use Rattle.psm_exprcode.specs.declared.operand.Operand.TheVariants.{Value, Truth}
use Rattle.psm_exprcode.specs.Comparison.{is_null}
use Rattle.psm_exprcode.specs.Evaluated.{Outcome}
use Rattle.psm_exprcode.specs.Values.{rescaled}

-- ---- a value or a truth value, or the SQLSTATE of a condition, as an outcome

abbrev pub valued : Result Datum (List ℕ) → Outcome
valued (Ok d) = Some (Ok (Value d))
valued (Err state) = Some (Err state)

abbrev pub decided : Result Answer (List ℕ) → Outcome
decided (Ok t) = Some (Ok (Truth t))
decided (Err state) = Some (Err state)

-- the value that there is, if there is one
abbrev pub named : Option Datum → Outcome
named None = None
named (Some d) = Some (Ok (Value d))

-- ---- operands that are there

-- what is made of the operand
abbrev pub with_operand : Outcome → (Operand → Outcome) → Outcome
with_operand None go = None
with_operand (Some (Err state)) go = Some (Err state)
with_operand (Some (Ok x)) go = go x

-- what is made of all operands
abbrev pub with_operands : List Outcome → (List Operand → Outcome) → Outcome
with_operands [] go = go []
with_operands (a ∷ others) go = with_operand a (λ x. with_operands others (λ xs. go (x ∷ xs)))

-- a value, a truth value, or values alone; nothing is made of others
abbrev pub on_value : (Datum → Outcome) → Operand → Outcome
on_value f (Value a) = f a
on_value f (Truth t) = None

abbrev pub on_truth : (Answer → Outcome) → Operand → Outcome
on_truth f (Value a) = None
on_truth f (Truth t) = f t

abbrev pub on_values : (List Datum → Outcome) → List Operand → Outcome
on_values f [] = f []
on_values f (x ∷ xs) = on_value (λ a. on_values (λ others. f (a ∷ others)) xs) x

-- ---- operations, the left operand first

abbrev pub of_one : (Datum → Outcome) → Outcome → Outcome
of_one f a = with_operand a (on_value f)

abbrev pub of_two : (Datum → Datum → Outcome) → Outcome → Outcome → Outcome
of_two f a b = with_operand a (λ x. with_operand b (λ y. on_value (λ c. on_value (f c) y) x))

abbrev pub of_three : (Datum → Datum → Datum → Outcome) → Outcome → Outcome → Outcome → Outcome
of_three f a b c = with_operand a (λ x. with_operand b (λ y. with_operand c (λ z. on_value (λ d. on_value (λ e. on_value (f d e) z) y) x)))

abbrev pub of_truth : (Answer → Answer) → Outcome → Outcome
of_truth f a = with_operand a (on_truth (λ t. decided (Ok (f t))))

abbrev pub of_truths : (Answer → Answer → Answer) → Outcome → Outcome → Outcome
of_truths f a b = with_operand a (λ x. with_operand b (λ y. on_truth (λ t. on_truth (λ u. decided (Ok (f t u))) y) x))

-- a value, and then some others
abbrev pub of_others : (Datum → List Datum → Outcome) → Outcome → List Outcome → Outcome
of_others f a others = with_operand a (λ x. with_operands others (λ xs. on_value (λ c. on_values (f c) xs) x))

-- a condition, or with NOT before it
abbrev pub perhaps_not : Bool → Outcome → Outcome
perhaps_not false a = a
perhaps_not true a = of_truth opposite a

-- ---- choices

-- the first of these outcomes whose test is true; the tests after it and the other outcomes aren't evaluated
abbrev pub chosen : List (Outcome × Outcome) → Outcome → Outcome
chosen [] otherwise = otherwise
chosen (w ∷ others) otherwise = with_operand w.0 (on_truth (λ t. if is_certain t then w.1 else chosen others otherwise))

-- the first value that isn't null, or the last one
abbrev pub first_set : Outcome → List Outcome → Outcome
first_set a [] = a
first_set a (b ∷ others) = of_one (λ d. if is_null d then first_set b others else valued (Ok d)) a

-- a number at that scale, where there is one
abbrev pub at_scale : Option ℕ → Outcome → Outcome
at_scale None a = a
at_scale (Some s) a = of_one (λ d. valued (rescaled s d)) a
