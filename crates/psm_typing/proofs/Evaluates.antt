-- What operations on operands of letters end in: an operand of a letter, or a condition.
use Rattle.std.proofs.Common.{◌≡◌, ℕ, Bool, true, false, List, [], ◌∷◌, Some, None, Result, Ok, Err, refl}
use Rattle.psm_value.specs.declared.datum.Datum.{Datum}
use Rattle.psm_value.specs.declared.truth.Truth.{Truth as Answer}
use Rattle.psm_value.specs.Truth.{opposite}
use Rattle.psm_exprcode.specs.declared.op.Letter.{Letter}
use Rattle.psm_exprcode.specs.declared.op.Letter.TheVariants.{N, T, B}
use Rattle.psm_exprcode.specs.declared.operand.Operand.{Operand}
use Rattle.psm_exprcode.specs.declared.operand.Operand.TheVariants.{Value, Truth}
use Rattle.psm_exprcode.specs.Evaluated.{Outcome}
use Rattle.psm_exprcode.specs.Kinds.{has_letter, is_of, is_truths, is_value}
use Rattle.psm_exprcode.proofs.Standing.{gives}
use Rattle.psm_resolved.specs.Outcomes.{decided, of_one, of_others, of_three, of_truth, of_truths, of_two, on_values, perhaps_not, valued, with_operands}

-- an operand of the letter or a condition
abbrev pub Evaluates : Letter → Outcome → Type 0
Evaluates k None = ⊥
Evaluates k (Some (Err s)) = Unit {0}
Evaluates k (Some (Ok x)) = is_of k x ≡ true

-- a value or a condition
abbrev pub Valued : Outcome → Type 0
Valued None = ⊥
Valued (Some (Err s)) = Unit {0}
Valued (Some (Ok (Value d))) = Unit {0}
Valued (Some (Ok (Truth t))) = ⊥

-- ---- operands of letters

pub no_truth : (k : Letter) → is_value k ≡ true → is_truths k ≡ true → ⊥
no_truth N v h = cc
no_truth T v h = cc
no_truth B v h = cc

pub no_value : (d : Datum) → has_letter B d ≡ true → ⊥
no_value d h = cc

pub evaluates-valued : (k : Letter) (a : Outcome) → is_value k ≡ true → Evaluates k a → Valued a
evaluates-valued k None v h = h
evaluates-valued k (Some (Err s)) v h = tt
evaluates-valued k (Some (Ok (Value d))) v h = tt
evaluates-valued k (Some (Ok (Truth t))) v h = no_truth k v h

pub evaluates-gives : (k : Letter) (r : Result Datum (List ℕ)) → gives k r ≡ true → Evaluates k (valued r)
evaluates-gives k (Ok d) h = h
evaluates-gives k (Err s) h = tt

pub evaluates-decided : (r : Result Answer (List ℕ)) → Evaluates B (decided r)
evaluates-decided (Ok t) = refl
evaluates-decided (Err s) = tt

-- ---- operations

pub evaluates-one : (k : Letter) (f : Datum → Outcome) (a : Outcome) → Valued a → ((d : Datum) → Evaluates k (f d)) → Evaluates k (of_one f a)
evaluates-one k f None v h = v
evaluates-one k f (Some (Err s)) v h = tt
evaluates-one k f (Some (Ok (Value d))) v h = h d
evaluates-one k f (Some (Ok (Truth t))) v h = absurd v

pub evaluates-two : (k : Letter) (f : Datum → Datum → Outcome) (a b : Outcome) → Valued a → Valued b → ((d e : Datum) → Evaluates k (f d e)) → Evaluates k (of_two f a b)
evaluates-two k f None b v w h = v
evaluates-two k f (Some (Err s)) b v w h = tt
evaluates-two k f (Some (Ok (Value d))) None v w h = w
evaluates-two k f (Some (Ok (Value d))) (Some (Err s)) v w h = tt
evaluates-two k f (Some (Ok (Value d))) (Some (Ok (Value e))) v w h = h d e
evaluates-two k f (Some (Ok (Value d))) (Some (Ok (Truth t))) v w h = absurd w
evaluates-two k f (Some (Ok (Truth t))) b v w h = absurd v

-- the first value is of the letter of what is made of both
pub evaluates-first : (k : Letter) (f : Datum → Datum → Outcome) (a b : Outcome) → is_value k ≡ true → Evaluates k a → Valued b → ((d e : Datum) → has_letter k d ≡ true → Evaluates k (f d e)) → Evaluates k (of_two f a b)
evaluates-first k f None b v h w g = h
evaluates-first k f (Some (Err s)) b v h w g = tt
evaluates-first k f (Some (Ok (Value d))) None v h w g = w
evaluates-first k f (Some (Ok (Value d))) (Some (Err s)) v h w g = tt
evaluates-first k f (Some (Ok (Value d))) (Some (Ok (Value e))) v h w g = g d e h
evaluates-first k f (Some (Ok (Value d))) (Some (Ok (Truth t))) v h w g = absurd w
evaluates-first k f (Some (Ok (Truth t))) b v h w g = absurd (no_truth k v h)

pub evaluates-three : (k : Letter) (f : Datum → Datum → Datum → Outcome) (a b c : Outcome) → Valued a → Valued b → Valued c → ((d e g : Datum) → Evaluates k (f d e g)) → Evaluates k (of_three f a b c)
evaluates-three k f None b c u v w h = u
evaluates-three k f (Some (Err s)) b c u v w h = tt
evaluates-three k f (Some (Ok (Truth t))) b c u v w h = absurd u
evaluates-three k f (Some (Ok (Value d))) None c u v w h = v
evaluates-three k f (Some (Ok (Value d))) (Some (Err s)) c u v w h = tt
evaluates-three k f (Some (Ok (Value d))) (Some (Ok (Truth t))) c u v w h = absurd v
evaluates-three k f (Some (Ok (Value d))) (Some (Ok (Value e))) None u v w h = w
evaluates-three k f (Some (Ok (Value d))) (Some (Ok (Value e))) (Some (Err s)) u v w h = tt
evaluates-three k f (Some (Ok (Value d))) (Some (Ok (Value e))) (Some (Ok (Value g))) u v w h = h d e g
evaluates-three k f (Some (Ok (Value d))) (Some (Ok (Value e))) (Some (Ok (Truth t))) u v w h = absurd w

pub evaluates-truth : (f : Answer → Answer) (a : Outcome) → Evaluates B a → Evaluates B (of_truth f a)
evaluates-truth f None h = h
evaluates-truth f (Some (Err s)) h = tt
evaluates-truth f (Some (Ok (Value d))) h = absurd (no_value d h)
evaluates-truth f (Some (Ok (Truth t))) h = refl

pub evaluates-truths : (f : Answer → Answer → Answer) (a b : Outcome) → Evaluates B a → Evaluates B b → Evaluates B (of_truths f a b)
evaluates-truths f None b h k = h
evaluates-truths f (Some (Err s)) b h k = tt
evaluates-truths f (Some (Ok (Value d))) b h k = absurd (no_value d h)
evaluates-truths f (Some (Ok (Truth t))) None h k = k
evaluates-truths f (Some (Ok (Truth t))) (Some (Err s)) h k = tt
evaluates-truths f (Some (Ok (Truth t))) (Some (Ok (Value d))) h k = absurd (no_value d k)
evaluates-truths f (Some (Ok (Truth t))) (Some (Ok (Truth u))) h k = refl

pub evaluates-not : (negated : Bool) (a : Outcome) → Evaluates B a → Evaluates B (perhaps_not negated a)
evaluates-not false a h = h
evaluates-not true a h = evaluates-truth opposite a h

-- ---- a value and some others

abbrev pub AllValued : List Outcome → Type 0
AllValued [] = Unit {0}
AllValued (a ∷ others) = Valued a × AllValued others

-- operands that are all values
abbrev AreValues : List Operand → Type 0
AreValues [] = Unit {0}
AreValues (Value d ∷ xs) = AreValues xs
AreValues (Truth t ∷ xs) = ⊥

values_come : (k : Letter) (f : List Datum → Outcome) (xs : List Operand) → AreValues xs → ((ds : List Datum) → Evaluates k (f ds)) → Evaluates k (on_values f xs)
values_come k f [] v h = h []
values_come k f (Value d ∷ xs) v h = values_come k (λ ds. f (d ∷ ds)) xs v (λ ds. h (d ∷ ds))
values_come k f (Truth t ∷ xs) v h = absurd v

operands_come : (k : Letter) (go : List Operand → Outcome) (others : List Outcome) → AllValued others → ((xs : List Operand) → AreValues xs → Evaluates k (go xs)) → Evaluates k (with_operands others go)
operands_come k go [] v h = h [] tt
operands_come k go (None ∷ others) v h = v.0
operands_come k go (Some (Err s) ∷ others) v h = tt
operands_come k go (Some (Ok (Value d)) ∷ others) v h = operands_come k (λ xs. go (Value d ∷ xs)) others v.1 (λ xs w. h (Value d ∷ xs) w)
operands_come k go (Some (Ok (Truth t)) ∷ others) v h = absurd v.0

pub evaluates-others : (k : Letter) (f : Datum → List Datum → Outcome) (a : Outcome) (others : List Outcome) → Valued a → AllValued others → ((d : Datum) (ds : List Datum) → Evaluates k (f d ds)) → Evaluates k (of_others f a others)
evaluates-others k f None others v w h = v
evaluates-others k f (Some (Err s)) others v w h = tt
evaluates-others k f (Some (Ok (Value d))) others v w h = operands_come k (λ xs. on_values (f d) xs) others w (λ xs u. values_come k (f d) xs u (h d))
evaluates-others k f (Some (Ok (Truth t))) others v w h = absurd v
