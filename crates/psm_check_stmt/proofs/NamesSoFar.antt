-- A name more after the names so far.
use Rattle.std.proofs.Common.{◌≡◌, Bool, true, false, ◌||◌, List, [], ◌∷◌, ◌++◌, refl, sym, ◌∙◌, ap, is_some, not}
use Rattle.std.specs.Prelude.{Option, Some, None, Ok, if◌then◌else◌}
use Rattle.std.specs.List.{list_any}
use Rattle.std.specs.Cmp.Lexicographic.{same_text}
use Rattle.psm_scope.specs.Scopes.{Spelling, is_spelled}
use Rattle.psm_scope.specs.Lookup.{named}
use Rattle.psm_scope.specs.Names.{Adds}
use Rattle.psm_tree.specs.declared.name.Identifier.{Identifier}
use Rattle.psm_rules.specs.declared.fault.Fault.{Fault}
use Rattle.psm_rules.specs.declared.rule.Rule.{Rule}
use Rattle.psm_rules.specs.Faults.{breaks_if, earlier, first_from}
use Rattle.psm_rules.specs.StatementFaults.{repeated, repeated_from}
use Rattle.psm_check_stmt.specs.Listed.{AreSeen}

-- whether a name is among some
abbrev among : Spelling → List Identifier → Bool
among n names = list_any (λ i. is_spelled n i.name) names

-- ---- choices

or_none : (a : Bool) → a ≡ (a || false)
or_none true = refl
or_none false = refl

or_all : (a : Bool) → (a || true) ≡ true
or_all true = refl
or_all false = refl

or_grouped : (a b c : Bool) → (a || (b || c)) ≡ ((a || b) || c)
or_grouped true b c = refl
or_grouped false b c = refl

or_turned : (a b c : Bool) → ((a || b) || c) ≡ (b || (a || c))
or_turned true true c = refl
or_turned true false c = refl
or_turned false true c = refl
or_turned false false c = refl

-- ---- the names that are seen

among_last : (n : Spelling) (names : List Identifier) (i : Identifier) → among n (names ++ i ∷ []) ≡ (among n names || is_spelled n i.name)
among_last n [] i = sym (or_none (is_spelled n i.name))
among_last n (m ∷ ms) i = ap (λ b. is_spelled n m.name || b) (among_last n ms i) ∙ or_grouped (is_spelled n m.name) (among n ms) (is_spelled n i.name)

named_last : {A : Type 0} (n : Spelling) (known : List (Spelling × A)) (m : Spelling) (x : A) → is_some (named n (known ++ (m, x) ∷ [])) ≡ (is_some (named n known) || is_spelled n m)
named_last {A} n [] m x = by (is_spelled n m)
  where
    by : (b : Bool) → is_some (if b then Some x else None) ≡ b
    by true = refl
    by false = refl
named_last {A} n (p ∷ more) m x = by (is_spelled n p.0) (named_last n more m x)
  where
    by : (b : Bool) → is_some (named n (more ++ (m, x) ∷ [])) ≡ (is_some (named n more) || is_spelled n m)
        → is_some (if b then Some p.1 else named n (more ++ (m, x) ∷ [])) ≡ (is_some (if b then Some p.1 else named n more) || is_spelled n m)
    by true e = refl
    by false e = e

-- a name that wasn't seen
pub seen_new : {A : Type 0} (old new : List (Spelling × A)) (x : A) (names : List Identifier) (i : Identifier)
    → AreSeen old names → new ≡ old ++ (i.name, x) ∷ [] → AreSeen new (names ++ i ∷ [])
seen_new {A} old new x names i seen e n = ap (λ l. is_some (named n l)) e ∙ named_last n old i.name x ∙ ap (λ b. b || is_spelled n i.name) (seen n) ∙ sym (among_last n names i)

-- a name that was
pub seen_again : {A : Type 0} (old new : List (Spelling × A)) (names : List Identifier) (i : Identifier)
    → AreSeen old names → is_some (named i.name old) ≡ true → new ≡ old → AreSeen new (names ++ i ∷ [])
seen_again {A} old new names i seen there e n = ap (λ l. is_some (named n l)) e ∙ seen n ∙ by (is_spelled n i.name) refl ∙ sym (among_last n names i)
  where
    by : (b : Bool) → is_spelled n i.name ≡ b → among n names ≡ (among n names || b)
    by true h = ap (λ m. among m names) (same_text n i.name (sym h)) ∙ sym (seen i.name) ∙ there ∙ sym (or_all (among n names))
    by false h = or_none (among n names)

pub seen_same : {A : Type 0} (old new : List (Spelling × A)) (names : List Identifier) → AreSeen old names → new ≡ old → AreSeen new names
seen_same old new names seen e n = ap (λ l. is_some (named n l)) e ∙ seen n

-- ---- what an addition says

-- whether it was seen, and what is seen now
pub added_to : {A : Type 0} (added : Bool) (old new : List (Spelling × A)) (x : A) (names : List Identifier) (i : Identifier)
    → AreSeen old names → Adds i.name x old new (Ok added) → (is_some (named i.name old) ≡ not added) × AreSeen new (names ++ i ∷ [])
added_to true old new x names i seen a = (ap is_some a.0, seen_new old new x names i seen a.1)
added_to false old new x names i seen a = (a.0, seen_again old new names i seen a.0 a.1)

-- ---- the fault of a name more

module _ (rule : Rule) (i : Identifier) where
  last_from : (f : Option Fault) (before : List Spelling) (names : List Identifier)
      → first_from f (repeated_from rule before (names ++ i ∷ []))
      ≡ earlier (first_from f (repeated_from rule before names)) (breaks_if (list_any (is_spelled i.name) before || among i.name names) rule i.place)
  last_from f before [] = ap (λ b. earlier f (breaks_if b rule i.place)) (or_none (list_any (is_spelled i.name) before))
  last_from f before (m ∷ ms) =
      last_from (earlier f (breaks_if (list_any (is_spelled m.name) before) rule m.place)) (m.name ∷ before) ms
      ∙ ap (λ b. earlier (first_from f (repeated_from rule before (m ∷ ms))) (breaks_if b rule i.place)) (or_turned (is_spelled i.name m.name) (list_any (is_spelled i.name) before) (among i.name ms))

  pub repeated_last : (names : List Identifier) → repeated rule (names ++ i ∷ []) ≡ earlier (repeated rule names) (breaks_if (among i.name names) rule i.place)
  repeated_last names = last_from None [] names

  -- the fault so far, with that of a name that was added or not
  pub repeated_with : {A : Type 0} (added : Bool) (seen : List (Spelling × A)) (names : List Identifier) (so_far fault new : Option Fault)
      → AreSeen seen names → is_some (named i.name seen) ≡ not added → so_far ≡ repeated rule names
      → fault ≡ breaks_if (not added) rule i.place → new ≡ earlier so_far fault → new ≡ repeated rule (names ++ i ∷ [])
  repeated_with added seen names so_far fault new are there e f g =
      g ∙ ap (λ a. earlier a fault) e ∙ ap (λ b. earlier (repeated rule names) b) (f ∙ ap (λ b. breaks_if b rule i.place) (sym there ∙ are i.name)) ∙ sym (repeated_last names)
