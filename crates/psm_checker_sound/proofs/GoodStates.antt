-- An SQLSTATE that is not at fault is one of a condition.
use Rattle.std.proofs.Common.{◌≡◌, ℕ, Bool, true, false, not, nat_eq, ◌||◌, List, Some, None, take, codes, refl, ap}
use Rattle.std.specs.Prelude.{if◌then◌else◌}
use Rattle.std.specs.Cmp.Lexicographic.{pointwise}
use Rattle.psm_sqlstate.specs.declared.kind.Kind.TheVariants.{Success, Warning, NotFound, Exception}
use Rattle.psm_code.specs.RoutineRules as rules
use Rattle.psm_code.specs.RoutineRules.{is_condition}
use Rattle.psm_rules.specs.declared.rule.Rule.TheVariants as rule
use Rattle.psm_rules.specs.Faults.{breaks_if}
use Rattle.psm_rules.specs.StatementFaults.{good_state, is_bad_state, is_state, is_success, state_fault}
use Rattle.psm_tree.specs.declared.types.State.{State}

either_false : (a b : Bool) → (a || b) ≡ false → b ≡ false
either_false true b h = absurd cc
either_false false b h = h

class_of : (a b c : Bool) → a ≡ false → not (rules.is_success (if a then Success else if b then Warning else if c then NotFound else Exception)) ≡ true
class_of true b c h = absurd cc
class_of false true c h = refl
class_of false false true h = refl
class_of false false false h = refl

condition_of : (s : List ℕ) → is_success s ≡ false → is_condition s ≡ true
condition_of s h = class_of (pointwise nat_eq (take 2 s) (codes "00")) (pointwise nat_eq (take 2 s) (codes "01")) (pointwise nat_eq (take 2 s) (codes "02")) h

abbrev pub IsGoodText : List ℕ → Type 0
IsGoodText s = (good_state s ≡ Some s) × (is_condition s ≡ true)

good_by : (s : State) (b : Bool) → is_bad_state s.text ≡ b → breaks_if b rule.BadSqlState s.«at» ≡ None → IsGoodText s.text
good_by s true is none = absurd cc
good_by s false is none = (ap (λ b. if b then None else Some s.text) is, condition_of s.text (either_false (not (is_state s.text)) (is_success s.text) is))

pub state_good : (s : State) → state_fault s ≡ None → IsGoodText s.text
state_good s none = good_by s (is_bad_state s.text) refl none
