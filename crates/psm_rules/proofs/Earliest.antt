-- Of two faults the earlier comes first, in whatever order and however grouped they are asked.
use Rattle.std.proofs.Common.{ℕ, ◌≡◌, ◌<◌, ◌≤◌, Bool, true, false, nat_lt, nat_eq, ◌&&◌, ◌||◌, ◌⊎◌, inl, inr, Option, Some, None, List, [], ◌∷◌, ◌++◌, get_or, refl, sym, ◌∙◌, ap, if◌then◌else◌, arith}
use Rattle.std.proofs.lemmas.Bool.Decides.{nat_tests}
use Rattle.psm_rules.specs.declared.fault.Fault.{Fault}
use Rattle.psm_rules.specs.declared.rule.Rule.{Rule}
use Rattle.psm_rules.specs.declared.rule.Rule.TheVariants as rule
use Rattle.psm_rules.specs.Faults.{precedes, earlier, first_from, first_of}
use Rattle.psm_rules.specs.Texts.{number_of}

-- ---- a rule is given by its number

rules : List Rule
rules = rule.TableRepeated ∷ rule.TableRepeated ∷ rule.ColumnRepeated ∷ rule.UnknownColumn ∷ rule.NotOnePrimaryKey ∷ rule.TypeOutOfRange ∷ rule.TooManyColumns ∷ rule.ConstantDoesNotFit ∷ rule.TableRepeated ∷ rule.TableRepeated ∷ rule.ProcedureRepeated ∷ rule.FunctionsNotDistinct ∷ rule.ParameterRepeated ∷ rule.ModeNotAllowed ∷ rule.FunctionWithoutReturn ∷ rule.ReturnOutsideFunction ∷ rule.NotAllowedInFunction ∷ rule.LabelRepeated ∷ rule.EndLabelDiffers ∷ rule.UnknownLabel ∷ rule.DeclarationRepeated ∷ rule.UnknownName ∷ rule.UnknownTable ∷ rule.UnknownCondition ∷ rule.UnknownCursor ∷ rule.UnknownProcedure ∷ rule.NoFunction ∷ rule.AmbiguousFunction ∷ rule.NotAssignable ∷ rule.Misplaced ∷ rule.FamiliesMixed ∷ rule.ScaleAboveMost ∷ rule.CountsDiffer ∷ rule.NotAllowedOnRow ∷ rule.SetFunctionMisplaced ∷ rule.OrderIsNotKey ∷ rule.CursorNotUpdatable ∷ rule.CursorOfFor ∷ rule.UndoNeedsAtomic ∷ rule.ConditionValueRepeated ∷ rule.BadSqlState ∷ rule.ItemNeedsName ∷ rule.NullWithoutType ∷ rule.ArgumentMisfitsMode ∷ rule.CharacteristicRepeated ∷ rule.KeyDoesNotMatch ∷ []

abbrev rule_of : ℕ → Rule
rule_of n = get_or rules n rule.TableRepeated

rule_at : (r : Rule) → rule_of (number_of r) ≡ r
unfolding rules
rule_at rule.TableRepeated = refl
rule_at rule.ColumnRepeated = refl
rule_at rule.UnknownColumn = refl
rule_at rule.NotOnePrimaryKey = refl
rule_at rule.TypeOutOfRange = refl
rule_at rule.TooManyColumns = refl
rule_at rule.ConstantDoesNotFit = refl
rule_at rule.ProcedureRepeated = refl
rule_at rule.FunctionsNotDistinct = refl
rule_at rule.ParameterRepeated = refl
rule_at rule.ModeNotAllowed = refl
rule_at rule.FunctionWithoutReturn = refl
rule_at rule.ReturnOutsideFunction = refl
rule_at rule.NotAllowedInFunction = refl
rule_at rule.LabelRepeated = refl
rule_at rule.EndLabelDiffers = refl
rule_at rule.UnknownLabel = refl
rule_at rule.DeclarationRepeated = refl
rule_at rule.UnknownName = refl
rule_at rule.UnknownTable = refl
rule_at rule.UnknownCondition = refl
rule_at rule.UnknownCursor = refl
rule_at rule.UnknownProcedure = refl
rule_at rule.NoFunction = refl
rule_at rule.AmbiguousFunction = refl
rule_at rule.NotAssignable = refl
rule_at rule.Misplaced = refl
rule_at rule.FamiliesMixed = refl
rule_at rule.ScaleAboveMost = refl
rule_at rule.CountsDiffer = refl
rule_at rule.NotAllowedOnRow = refl
rule_at rule.SetFunctionMisplaced = refl
rule_at rule.OrderIsNotKey = refl
rule_at rule.CursorNotUpdatable = refl
rule_at rule.CursorOfFor = refl
rule_at rule.UndoNeedsAtomic = refl
rule_at rule.ConditionValueRepeated = refl
rule_at rule.BadSqlState = refl
rule_at rule.ItemNeedsName = refl
rule_at rule.NullWithoutType = refl
rule_at rule.ArgumentMisfitsMode = refl
rule_at rule.CharacteristicRepeated = refl
rule_at rule.KeyDoesNotMatch = refl

pub number_decides : (a b : Rule) → number_of a ≡ number_of b → a ≡ b
number_decides a b e = sym (rule_at a) ∙ ap rule_of e ∙ rule_at b

fault_same : (a b : Fault) → a.place.line ≡ b.place.line → a.place.column ≡ b.place.column → a.rule ≡ b.rule → a ≡ b
fault_same a b p q r =
    ap (λ l. let f : Fault = record { place = record { line = l; column = a.place.column }; rule = a.rule } in f) p
    ∙ ap (λ c. let f : Fault = record { place = record { line = b.place.line; column = c }; rule = a.rule } in f) q
    ∙ ap (λ u. let f : Fault = record { place = b.place; rule = u } in f) r

-- ---- what the order decides, over plain numbers

abbrev ahead : ℕ → ℕ → ℕ → ℕ → ℕ → ℕ → Bool
ahead l c n m d k = nat_lt l m || (nat_eq l m && (nat_lt c d || (nat_eq c d && nat_lt n k)))

abbrev Ahead : ℕ → ℕ → ℕ → ℕ → ℕ → ℕ → Type 0
Ahead l c n m d k = (l < m) ⊎ ((l ≡ m) × ((c < d) ⊎ ((c ≡ d) × (n < k))))

abbrev After : ℕ → ℕ → ℕ → ℕ → ℕ → ℕ → Type 0
After l c n m d k = (m < l) ⊎ ((l ≡ m) × ((d < c) ⊎ ((c ≡ d) × (k ≤ n))))

ahead_decides : (l c n m d k : ℕ) → ((ahead l c n m d k ≡ true) × Ahead l c n m d k) ⊎ ((ahead l c n m d k ≡ false) × After l c n m d k)
ahead_decides l c n m d k = grind (arith, nat_tests)

trans : (l c n m d k o e j : ℕ) → Ahead l c n m d k → Ahead m d k o e j → After l c n o e j → ⊥
trans l c n m d k o e j p q r = omega arith

after_trans : (l c n m d k o e j : ℕ) → After l c n m d k → After m d k o e j → Ahead l c n o e j → ⊥
after_trans l c n m d k o e j p q r = omega arith

not_both : (l c n m d k : ℕ) → Ahead l c n m d k → Ahead m d k l c n → ⊥
not_both l c n m d k p q = omega arith

same_line : (l c n m d k : ℕ) → After l c n m d k → After m d k l c n → (l ≡ m) × (c ≡ d) × (n ≡ k)
same_line l c n m d k p q = (omega arith, omega arith, omega arith)

decides : (a b : Fault) → ((precedes a b ≡ true) × Ahead a.place.line a.place.column (number_of a.rule) b.place.line b.place.column (number_of b.rule))
    ⊎ ((precedes a b ≡ false) × After a.place.line a.place.column (number_of a.rule) b.place.line b.place.column (number_of b.rule))
decides a b = ahead_decides a.place.line a.place.column (number_of a.rule) b.place.line b.place.column (number_of b.rule)

-- ---- the laws

pub earlier_none : (f : Option Fault) → earlier f None ≡ f
earlier_none None = refl
earlier_none (Some a) = refl

kept : (t : Bool) (a b : Fault) → t ≡ false → Some (if t then b else a) ≡ Some a
kept t a b e = ap (λ u. Some (if u then b else a)) e

taken : (t : Bool) (a b : Fault) → t ≡ true → Some (if t then b else a) ≡ Some b
taken t a b e = ap (λ u. Some (if u then b else a)) e

-- where neither is ahead they are one
same_place : (a b : Fault) → precedes b a ≡ false → precedes a b ≡ false → a ≡ b
same_place a b e h =
    elim (decides b a) as (λ _. a ≡ b) [
      | inl x ↦ cc
      | inr x ↦ elim (decides a b) as (λ _. a ≡ b) [
        | inl y ↦ cc
        | inr y ↦ let s = same_line a.place.line a.place.column (number_of a.rule) b.place.line b.place.column (number_of b.rule) y.1 x.1 in
            fault_same a b s.0 s.1 (number_decides a.rule b.rule s.2)
      ]
    ]

not_both_ahead : (a b : Fault) → precedes b a ≡ true → precedes a b ≡ true → ⊥
not_both_ahead a b e h =
    elim (decides b a) as (λ _. ⊥) [
      | inl x ↦ elim (decides a b) as (λ _. ⊥) [
        | inl y ↦ not_both a.place.line a.place.column (number_of a.rule) b.place.line b.place.column (number_of b.rule) y.1 x.1
        | inr y ↦ cc
      ]
      | inr x ↦ cc
    ]

precedes-trans : (a b c : Fault) → precedes a b ≡ true → precedes b c ≡ true → precedes a c ≡ true
precedes-trans a b c e h =
    elim (decides a b) as (λ _. precedes a c ≡ true) [
      | inl x ↦ elim (decides b c) as (λ _. precedes a c ≡ true) [
        | inl y ↦ elim (decides a c) as (λ _. precedes a c ≡ true) [
          | inl z ↦ z.0
          | inr z ↦ absurd (trans a.place.line a.place.column (number_of a.rule) b.place.line b.place.column (number_of b.rule) c.place.line c.place.column (number_of c.rule) x.1 y.1 z.1)
        ]
        | inr y ↦ cc
      ]
      | inr x ↦ cc
    ]

following-trans : (a b c : Fault) → precedes a b ≡ false → precedes b c ≡ false → precedes a c ≡ false
following-trans a b c e h =
    elim (decides a b) as (λ _. precedes a c ≡ false) [
      | inl x ↦ cc
      | inr x ↦ elim (decides b c) as (λ _. precedes a c ≡ false) [
        | inl y ↦ cc
        | inr y ↦ elim (decides a c) as (λ _. precedes a c ≡ false) [
          | inl z ↦ absurd (after_trans a.place.line a.place.column (number_of a.rule) b.place.line b.place.column (number_of b.rule) c.place.line c.place.column (number_of c.rule) x.1 y.1 z.1)
          | inr z ↦ z.0
        ]
      ]
    ]

commuted : (a b : Fault) (p q : Bool) → precedes b a ≡ p → precedes a b ≡ q → earlier (Some a) (Some b) ≡ earlier (Some b) (Some a)
commuted a b true true e h = absurd (not_both_ahead a b e h)
commuted a b true false e h = taken (precedes b a) a b e ∙ sym (kept (precedes a b) b a h)
commuted a b false true e h = kept (precedes b a) a b e ∙ sym (taken (precedes a b) b a h)
commuted a b false false e h = kept (precedes b a) a b e ∙ ap (λ f. Some f) (same_place a b e h) ∙ sym (kept (precedes a b) b a h)

pub earlier_comm : (f g : Option Fault) → earlier f g ≡ earlier g f
earlier_comm None None = refl
earlier_comm None (Some b) = refl
earlier_comm (Some a) None = refl
earlier_comm (Some a) (Some b) = commuted a b (precedes b a) (precedes a b) refl refl

grouped_at : (a b c : Fault) (p q : Bool) → precedes b a ≡ p → precedes c b ≡ q
    → earlier (Some (if p then b else a)) (Some c) ≡ earlier (Some a) (Some (if q then c else b))
grouped_at a b c true true e h = taken (precedes c b) b c h ∙ sym (taken (precedes c a) a c (precedes-trans c b a h e))
grouped_at a b c true false e h = kept (precedes c b) b c h ∙ sym (taken (precedes b a) a b e)
grouped_at a b c false true e h = refl
grouped_at a b c false false e h = kept (precedes c a) a c (following-trans c b a h e) ∙ sym (kept (precedes b a) a b e)

pub earlier_assoc : (f g h : Option Fault) → earlier (earlier f g) h ≡ earlier f (earlier g h)
earlier_assoc None g h = refl
earlier_assoc (Some a) None h = refl
earlier_assoc (Some a) (Some b) None = refl
earlier_assoc (Some a) (Some b) (Some c) = grouped_at a b c (precedes b a) (precedes c b) refl refl

pub first_from_earlier : (f : Option Fault) (xs : List (Option Fault)) → first_from f xs ≡ earlier f (first_of xs)
first_from_earlier f [] = sym (earlier_none f)
first_from_earlier f (x ∷ xs) = first_from_earlier (earlier f x) xs ∙ earlier_assoc f x (first_of xs) ∙ ap (λ g. earlier f g) (sym (first_from_earlier x xs))

pub first_of_cons : (f : Option Fault) (xs : List (Option Fault)) → first_of (f ∷ xs) ≡ earlier f (first_of xs)
first_of_cons f xs = first_from_earlier f xs

pub first_from_append : (f : Option Fault) (xs ys : List (Option Fault)) → first_from f (xs ++ ys) ≡ first_from (first_from f xs) ys
first_from_append f [] ys = refl
first_from_append f (x ∷ xs) ys = first_from_append (earlier f x) xs ys

pub first_of_append : (xs ys : List (Option Fault)) → first_of (xs ++ ys) ≡ earlier (first_of xs) (first_of ys)
first_of_append xs ys = first_from_append None xs ys ∙ first_from_earlier (first_of xs) ys

pub first_from_swap : (f g : Option Fault) (xs : List (Option Fault)) → first_from (earlier f g) xs ≡ earlier f (first_from g xs)
first_from_swap f g xs = first_from_earlier (earlier f g) xs ∙ earlier_assoc f g (first_of xs) ∙ ap (λ h. earlier f h) (sym (first_from_earlier g xs))

-- the faults of two lists one after the other, after one before them
pub first_from_joined : (f : Option Fault) (xs ys : List (Option Fault)) → first_from f (xs ++ ys) ≡ earlier (first_from f xs) (first_of ys)
first_from_joined f xs ys = first_from_append f xs ys ∙ first_from_earlier (first_from f xs) ys
