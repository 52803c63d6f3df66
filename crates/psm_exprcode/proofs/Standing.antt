-- Operands of letters, and what an operation makes of them.
use Rattle.std.proofs.Common.{◌≡◌, ℕ, zero, suc, Bool, true, false, ◌&&◌, List, [], ◌∷◌, ◌++◌, length, refl, ap, ◌∙◌, Option, Some, None, Result, Ok, Err}
use Rattle.std.specs.Prelude.{replicate}
use Rattle.std.specs.List.{list_all}
use Rattle.psm_num.proofs.Literals.{and_first, and_second}
use Rattle.psm_value.specs.declared.datum.Datum.{Datum}
use Rattle.psm_value.specs.declared.truth.Truth.{Truth as Answer}
use Rattle.psm_exprcode.specs.declared.op.Letter.{Letter}
use Rattle.psm_exprcode.specs.declared.op.Letter.TheVariants.{N, T, B}
use Rattle.psm_exprcode.specs.declared.operand.Operand.{Operand}
use Rattle.psm_exprcode.specs.declared.operand.Operand.TheVariants.{Value, Truth}
use Rattle.psm_exprcode.specs.declared.operand.Next.TheVariants.{FallThrough, Jump}
use Rattle.psm_exprcode.specs.Applied.{Applied, Went, Raised, Stuck, with_value, with_truth, with_named, on_value, on_two, on_three, on_truth, on_many}
use Rattle.psm_exprcode.specs.Fits.{are_values, are_truths}
use Rattle.psm_exprcode.specs.Kinds.{is_value, has_letter, is_of, have}

pub both_true : (a b : Bool) → a ≡ true → b ≡ true → (a && b) ≡ true
both_true a b p q = ap (λ c. c && b) p ∙ q

-- ---- what is put

-- whether a value that is there is of the letter
abbrev pub gives : Letter → Result Datum (List ℕ) → Bool
gives k (Ok d) = has_letter k d
gives k (Err state) = true

abbrev pub IsAhead : Option (List Letter) → List Letter → List Operand → Type 0
IsAhead None rest os = ⊥
IsAhead (Some puts) rest os = have (puts ++ rest) os ≡ true

abbrev pub IsAway : Option (ℕ × List Letter) → ℕ → List Letter → List Operand → Type 0
IsAway None p rest os = ⊥
IsAway (Some jump) p rest os = (p ≡ jump.0) × (have (jump.1 ++ rest) os ≡ true)

-- an operation goes on with the operands that the table says on those below, or raises a condition
abbrev pub Leads : Option (List Letter) → Option (ℕ × List Letter) → List Letter → Applied → Type 0
Leads fall_through branching rest (Went FallThrough os) = IsAhead fall_through rest os
Leads fall_through branching rest (Went (Jump p) os) = IsAway branching p rest os
Leads fall_through branching rest (Raised state) = Unit {0}
Leads fall_through branching rest Stuck = ⊥

pub value_puts : (k : Letter) (rest : List Letter) (below : List Operand) (r : Result Datum (List ℕ)) → gives k r ≡ true → have rest below ≡ true
    → Leads (Some (k ∷ [])) None rest (with_value below r)
value_puts k rest below (Ok d) g h = both_true (has_letter k d) (have rest below) g h
value_puts k rest below (Err state) g h = tt

pub truth_puts : (rest : List Letter) (below : List Operand) (r : Result Answer (List ℕ)) → have rest below ≡ true → Leads (Some (B ∷ [])) None rest (with_truth below r)
truth_puts rest below (Ok t) h = h
truth_puts rest below (Err state) h = tt

-- whether a value is there and of the letter
abbrev pub is_in : Letter → Option Datum → Bool
is_in k None = false
is_in k (Some d) = has_letter k d

pub named_puts : (k : Letter) (rest : List Letter) (os : List Operand) (found : Option Datum) → is_in k found ≡ true → have rest os ≡ true
    → Leads (Some (k ∷ [])) None rest (with_named os found)
named_puts k rest os None g h = absurd (cc)
named_puts k rest os (Some d) g h = both_true (has_letter k d) (have rest os) g h

-- ---- what is taken

pub on_value-leads : (P : Applied → Type 0) (k : Letter) (s : List Letter) (os : List Operand) (f : Datum → List Operand → Applied) → is_value k ≡ true → have (k ∷ s) os ≡ true
    → ((a : Datum) (below : List Operand) → has_letter k a ≡ true → have s below ≡ true → P (f a below)) → P (on_value f os)
on_value-leads P k s [] f v h g = absurd (cc)
on_value-leads P k s (Value a ∷ below) f v h g = g a below (and_first (has_letter k a) (have s below) h) (and_second (has_letter k a) (have s below) h)
on_value-leads P N s (Truth t ∷ below) f v h g = absurd (cc)
on_value-leads P T s (Truth t ∷ below) f v h g = absurd (cc)
on_value-leads P B s (Truth t ∷ below) f v h g = absurd (cc)

pub on_two-leads : (P : Applied → Type 0) (k l : Letter) (s : List Letter) (os : List Operand) (f : Datum → Datum → List Operand → Applied) → is_value k ≡ true → is_value l ≡ true
    → have (l ∷ k ∷ s) os ≡ true → ((a b : Datum) (below : List Operand) → has_letter k a ≡ true → have s below ≡ true → P (f a b below)) → P (on_two f os)
on_two-leads P k l s os f v w h g =
    on_value-leads P l (k ∷ s) os (λ b. on_value (λ a. f a b)) w h (λ b u hb i. on_value-leads P k s u (λ a. f a b) v i (λ a below ha j. g a b below ha j))

pub on_three-leads : (P : Applied → Type 0) (k l m : Letter) (s : List Letter) (os : List Operand) (f : Datum → Datum → Datum → List Operand → Applied) → is_value k ≡ true → is_value l ≡ true → is_value m ≡ true
    → have (m ∷ l ∷ k ∷ s) os ≡ true → ((a b c : Datum) (below : List Operand) → have s below ≡ true → P (f a b c below)) → P (on_three f os)
on_three-leads P k l m s os f v w x h g =
    on_value-leads P m (l ∷ k ∷ s) os (λ c. on_two (λ a b. f a b c)) x h (λ c u hc i. on_two-leads P k l s u (λ a b. f a b c) v w i (λ a b below ha j. g a b c below j))

pub on_truth-leads : (P : Applied → Type 0) (s : List Letter) (os : List Operand) (f : Answer → List Operand → Applied) → have (B ∷ s) os ≡ true
    → ((t : Answer) (below : List Operand) → have s below ≡ true → P (f t below)) → P (on_truth f os)
on_truth-leads P s [] f h g = absurd (cc)
on_truth-leads P s (Value a ∷ below) f h g = absurd (cc)
on_truth-leads P s (Truth t ∷ below) f h g = g t below h

pub on_many-leads : (P : Applied → Type 0) (n : ℕ) (k : Letter) (s : List Letter) (os : List Operand) (f : List Datum → List Operand → Applied) → is_value k ≡ true → have (replicate n k ++ s) os ≡ true
    → ((bs : List Datum) (below : List Operand) → have s below ≡ true → P (f bs below)) → P (on_many n f os)
on_many-leads P zero k s os f v h g = g [] os h
on_many-leads P (suc n) k s os f v h g =
    on_value-leads P k (replicate n k ++ s) os (λ b. on_many n (λ bs. f (b ∷ bs))) v h (λ b u hb i. on_many-leads P n k s u (λ bs. f (b ∷ bs)) v i (λ bs below j. g (b ∷ bs) below j))

-- ---- values and truth values among the operands that are there

value_first : (k : Letter) (o : Operand) → is_value k ≡ true → is_of k o ≡ true → (a : Datum) × (o ≡ Value a)
value_first k (Value a) v h = (a, refl)
value_first N (Truth t) v h = absurd (cc)
value_first T (Truth t) v h = absurd (cc)
value_first B (Truth t) v h = absurd (cc)

-- operands of n letters of values are n values
pub on-values : (s rest : List Letter) (os : List Operand) → list_all is_value s ≡ true → have (s ++ rest) os ≡ true → are_values (length s) os ≡ true
on-values [] rest os v h = refl
on-values (k ∷ s) rest [] v h = absurd (cc)
on-values (k ∷ s) rest (o ∷ os) v h =
    let f = value_first k o (and_first (is_value k) (list_all is_value s) v) (and_first (is_of k o) (have (s ++ rest) os) h) in
    ap (λ p. are_values (suc (length s)) (p ∷ os)) f.1 ∙ on-values s rest os (and_second (is_value k) (list_all is_value s) v) (and_second (is_of k o) (have (s ++ rest) os) h)

pub on-many : (n : ℕ) (k : Letter) (rest : List Letter) (os : List Operand) → is_value k ≡ true → have (replicate n k ++ (k ∷ rest)) os ≡ true → are_values (suc n) os ≡ true
on-many zero k rest os v h = on-values (k ∷ []) rest os (both_true (is_value k) true v refl) h
on-many (suc n) k rest [] v h = absurd (cc)
on-many (suc n) k rest (o ∷ os) v h =
    let f = value_first k o v (and_first (is_of k o) (have (replicate n k ++ (k ∷ rest)) os) h) in
    ap (λ p. are_values (suc (suc n)) (p ∷ os)) f.1 ∙ on-many n k rest os v (and_second (is_of k o) (have (replicate n k ++ (k ∷ rest)) os) h)

pub on-one_truth : (rest : List Letter) (os : List Operand) → have (B ∷ rest) os ≡ true → are_truths 1 os ≡ true
on-one_truth rest [] h = absurd (cc)
on-one_truth rest (Value a ∷ os) h = absurd (cc)
on-one_truth rest (Truth t ∷ os) h = refl

pub on-two_truths : (rest : List Letter) (os : List Operand) → have (B ∷ B ∷ rest) os ≡ true → are_truths 2 os ≡ true
on-two_truths rest [] h = absurd (cc)
on-two_truths rest (Value a ∷ os) h = absurd (cc)
on-two_truths rest (Truth t ∷ os) h = on-one_truth rest os h
