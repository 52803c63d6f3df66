-- Letters that are taken off a stack of letters.
use Rattle.std.proofs.Common.{◌≡◌, ℕ, zero, suc, ◌-◌, ◌<◌, Bool, true, false, ◌&&◌, List, [], ◌∷◌, ◌++◌, length, refl, ap, sym, ◌∙◌, arith, Some, None}
use Rattle.std.specs.Prelude.{replicate, option_and_then, if◌then◌else◌}
use Rattle.psm_exprcode.specs.declared.op.Letter.{Letter}
use Rattle.psm_exprcode.specs.declared.op.Letter.TheVariants.{N, T, B}
use Rattle.psm_exprcode.specs.Kinds.{is_letter}
use Rattle.psm_exprcode.specs.Stacks.{stack_at}
use Rattle.psm_exprcode.specs.WellFormed.{same_stack, left_of}

pub is_letter-self : (k : Letter) → is_letter k k ≡ true
is_letter-self N = refl
is_letter-self T = refl
is_letter-self B = refl

pub is_letter-same : (k l : Letter) → is_letter k l ≡ true → k ≡ l
is_letter-same N N h = refl
is_letter-same N T h = absurd (cc)
is_letter-same N B h = absurd (cc)
is_letter-same T N h = absurd (cc)
is_letter-same T T h = refl
is_letter-same T B h = absurd (cc)
is_letter-same B N h = absurd (cc)
is_letter-same B T h = absurd (cc)
is_letter-same B B h = refl

pub same_stack-self : (s : List Letter) → same_stack s s ≡ true
same_stack-self [] = refl
same_stack-self (k ∷ s) = ap (λ b. b && same_stack s s) (is_letter-self k) ∙ same_stack-self s

-- ---- two stacks that are gone down together

pub record Comparing (stacks : List (List Letter)) (stack other left right : ℕ) : Type 0 where
  pub left_there : left < length stacks
  pub right_there : right < length stacks
  pub same : same_stack (stack_at stacks left) (stack_at stacks right) ≡ same_stack (stack_at stacks stack) (stack_at stacks other)

pub comparing_all : (stacks : List (List Letter)) (stack other left right : ℕ) → Comparing stacks stack other left right → left ≡ right → true ≡ same_stack (stack_at stacks stack) (stack_at stacks other)
comparing_all stacks stack other left right h e =
    sym (same_stack-self (stack_at stacks left)) ∙ ap (λ n. same_stack (stack_at stacks left) (stack_at stacks n)) e ∙ h.same

-- ---- letters off

-- one letter off
pub left_step : (n : ℕ) (k l : Letter) (s below : List Letter) → 0 < n → s ≡ l ∷ below → l ≡ k → left_of (replicate n k) s ≡ left_of (replicate (n - 1) k) below
left_step zero k l s below p e h = absurd (omega arith)
left_step (suc n) k l s below p e h =
    let less : n ≡ suc n - 1 = omega arith in
    ap (left_of (replicate (suc n) k)) e ∙ ap (λ j. left_of (replicate (suc n) k) (j ∷ below)) h
    ∙ ap (λ b. if b then left_of (replicate n k) below else None) (is_letter-self k) ∙ ap (λ m. left_of (replicate m k) below) less

-- some letters, and then those below them
pub left_of-append : (a b s : List Letter) → left_of (a ++ b) s ≡ option_and_then (left_of b) (left_of a s)
left_of-append [] b s = refl
left_of-append (k ∷ a) b [] = refl
left_of-append (k ∷ a) b (l ∷ s) = by (is_letter k l) (left_of-append a b s) where
  by : (t : Bool) → left_of (a ++ b) s ≡ option_and_then (left_of b) (left_of a s) → (if t then left_of (a ++ b) s else None) ≡ option_and_then (left_of b) (if t then left_of a s else None)
  by true more = more
  by false more = refl

-- what is left, with what was taken
pub left_of-some : (a s t : List Letter) → left_of a s ≡ Some t → s ≡ a ++ t
left_of-some [] s t h = let e : s ≡ t = cc in e
left_of-some (k ∷ a) [] t h = absurd (cc)
left_of-some (k ∷ a) (l ∷ s) t h = by (is_letter k l) refl h (λ g. left_of-some a s t g) where
  by : (b : Bool) → is_letter k l ≡ b → (if b then left_of a s else None) ≡ Some t → (left_of a s ≡ Some t → s ≡ a ++ t) → l ∷ s ≡ (k ∷ a) ++ t
  by true e g more = ap (λ j. j ∷ s) (sym (is_letter-same k l e)) ∙ ap (λ u. k ∷ u) (more g)
  by false e g more = absurd (cc)

pub left_below_some : (a b s t : List Letter) → left_of a s ≡ Some t → left_of (a ++ b) s ≡ left_of b t
left_below_some a b s t h = left_of-append a b s ∙ ap (option_and_then (left_of b)) h

pub left_below_none : (a b s : List Letter) → left_of a s ≡ None → left_of (a ++ b) s ≡ None
left_below_none a b s h = left_of-append a b s ∙ ap (option_and_then (left_of b)) h

-- letters on a stack are those of another where the stack is what is left of the other
pub same_on_some : (a s t rest : List Letter) → left_of a t ≡ Some rest → same_stack (a ++ s) t ≡ same_stack s rest
same_on_some [] s t rest h = let e : t ≡ rest = cc in ap (same_stack s) e
same_on_some (k ∷ a) s [] rest h = absurd (cc)
same_on_some (k ∷ a) s (l ∷ t) rest h = by (is_letter k l) refl h (λ g. same_on_some a s t rest g) where
  by : (b : Bool) → is_letter k l ≡ b → (if b then left_of a t else None) ≡ Some rest → (left_of a t ≡ Some rest → same_stack (a ++ s) t ≡ same_stack s rest)
      → (is_letter k l && same_stack (a ++ s) t) ≡ same_stack s rest
  by true e g more = ap (λ c. c && same_stack (a ++ s) t) e ∙ more g
  by false e g more = absurd (cc)

pub same_on_none : (a s t : List Letter) → left_of a t ≡ None → same_stack (a ++ s) t ≡ false
same_on_none [] s t h = absurd (cc)
same_on_none (k ∷ a) s [] h = refl
same_on_none (k ∷ a) s (l ∷ t) h = by (is_letter k l) refl h (λ g. same_on_none a s t g) where
  by : (b : Bool) → is_letter k l ≡ b → (if b then left_of a t else None) ≡ None → (left_of a t ≡ None → same_stack (a ++ s) t ≡ false)
      → (is_letter k l && same_stack (a ++ s) t) ≡ false
  by true e g more = ap (λ c. c && same_stack (a ++ s) t) e ∙ more g
  by false e g more = ap (λ c. c && same_stack (a ++ s) t) e
