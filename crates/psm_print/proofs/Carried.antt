-- Grammars whose values forget their places where their tokens do, and the ways to make them of one another.
use Rattle.std.proofs.Common.{◌≡◌, ℕ, List, map, option_map, refl}
use Rattle.psm_list.specs.Several.{several_map}
use Rattle.psm_token.specs.declared.place.Place.{Place}
use Rattle.psm_token.specs.declared.token.Token.{Token}
use Rattle.psm_token.specs.declared.token.Placed.{Placed}
use Rattle.psm_grammar.specs.Language.{Test}
use Rattle.psm_grammar.specs.Grammar.{token, level, next, nothing, seq, or, ahead, many, image}
use Rattle.psm_grammar.specs.Forms.{optional, after_token, before_token}
use Rattle.psm_grammar.specs.Places.{Carries}
use Rattle.psm_tree.specs.Tests.{At, at, place_of, name}
use Rattle.psm_tree.specs.Parts.{Part, V}
use Rattle.psm_tree.specs.ExprValues.{pair, triple, several, cons}
use Rattle.psm_tree.specs.ExprGrammar.{Gram, within_parens}
use Rattle.psm_print.specs.WithoutPositions.{origin, without_positions}
use Rattle.psm_print.specs.ExprWithoutPositions.{name_without_positions}
use Rattle.psm_print.proofs.ValuesWithoutPositions.{both, place_without_positions, at_without_positions, part_without_positions}

-- what tokens without places say by this part is what the tokens say, without its places, which h forgets
pub record Carried {X : Type 0} (h : X → X) (g : Gram X) : Type 0 where
  pub holds : Carries without_positions part_without_positions h g

-- ---- tokens

pub carried_token : {A : Type 0} {a : A → A} {test : Test Placed A} → ((t : Placed) → test.value (without_positions t) ≡ a (test.value t)) → Carried a (token test)
carried_token e = record { holds = λ t k. e t }

pub carried_place : {kinds : List ℕ} {example : Placed} → Carried place_without_positions (token (record { kinds = kinds; value = place_of; example = example }))
carried_place = record { holds = λ t k. refl }

pub carried_at : {A : Type 0} (f : Token → A) {kinds : List ℕ} {example : Placed} → Carried at_without_positions (token (record { kinds = kinds; value = at f; example = example }))
carried_at f = record { holds = λ t k. refl }

pub carried_name : Carried name_without_positions (token name)
carried_name = record { holds = λ t k. refl }

-- ---- parts after a token of their own

pub carried_level : {Z : Type 0} {n : Part} {kinds : List ℕ} {example : Placed} {f : Place → V n → Z} {h : Z → Z} → ((x : Place) (y : V n) → f origin (part_without_positions n y) ≡ h (f x y)) → Carried h (level n (record { kinds = kinds; value = place_of; example = example }) f)
carried_level e = record { holds = (place_without_positions, λ t k. refl, e) }

pub carried_level_at : {A Z : Type 0} {n : Part} (g : Token → A) {kinds : List ℕ} {example : Placed} {f : At A → V n → Z} {h : Z → Z} → ((x : At A) (y : V n) → f (at_without_positions x) (part_without_positions n y) ≡ h (f x y)) → Carried h (level n (record { kinds = kinds; value = at g; example = example }) f)
carried_level_at g e = record { holds = (at_without_positions, λ t k. refl, e) }

pub carried_next : {Z : Type 0} {n : Part} {kinds : List ℕ} {example : Placed} {f : Place → V n → Z} {h : Z → Z} → ((x : Place) (y : V n) → f origin (part_without_positions n y) ≡ h (f x y)) → Carried h (next n (record { kinds = kinds; value = place_of; example = example }) f)
carried_next e = record { holds = (place_without_positions, λ t k. refl, e) }

-- ---- what is made of other parts

pub carried_nothing : {X : Type 0} {x : X} {h : X → X} → x ≡ h x → Carried h (nothing x)
carried_nothing e = record { holds = e }

pub carried_seq : {X Y Z : Type 0} {f : X → Y → Z} {p : Gram X} {q : Gram Y} {a : X → X} {b : Y → Y} {h : Z → Z} → Carried a p → Carried b q → ((x : X) (y : Y) → f (a x) (b y) ≡ h (f x y)) → Carried h (seq f p q)
carried_seq {a} {b} c d e = record { holds = (a, b, c.holds, d.holds, e) }

pub carried_or : {X : Type 0} {p q : Gram X} {h : X → X} → Carried h p → Carried h q → Carried h (or p q)
carried_or c d = record { holds = (c.holds, d.holds) }

pub carried_ahead : {X : Type 0} {ones twos : List ℕ} {p q : Gram X} {h : X → X} → Carried h p → Carried h q → Carried h (ahead ones twos p q)
carried_ahead c d = record { holds = (c.holds, d.holds) }

pub carried_many : {X : Type 0} {p : Gram X} {a : X → X} → Carried a p → Carried (map a) (many p)
carried_many {a} c = record { holds = (a, c.holds, λ xs. refl) }

pub carried_image : {X Y : Type 0} {f : X → Y} {p : Gram X} {a : X → X} {h : Y → Y} → Carried a p → ((x : X) → f (a x) ≡ h (f x)) → Carried h (image f p)
carried_image {a} c e = record { holds = (a, c.holds, e) }

pub carried_pair : {X Y : Type 0} {p : Gram X} {q : Gram Y} {a : X → X} {b : Y → Y} → Carried a p → Carried b q → Carried (both a b) (seq pair p q)
carried_pair {a} {b} c d = record { holds = (a, b, c.holds, d.holds, λ x y. refl) }

pub carried_triple : {X Y Z : Type 0} {p : Gram X} {q : Gram (Y × Z)} {a : X → X} {h : Y × Z → Y × Z} → Carried a p → Carried h q → Carried (λ x. (a x.0, (h (x.1, x.2)).0, (h (x.1, x.2)).1)) (seq triple p q)
carried_triple {a} {h} c d = record { holds = (a, h, c.holds, d.holds, λ x y. refl) }

pub carried_several : {X : Type 0} {p q : Gram X} {a : X → X} → Carried a p → Carried a q → Carried (several_map a) (seq several p (many q))
carried_several {a} c d = record { holds = (a, map a, c.holds, (a, d.holds, λ xs. refl), λ x y. refl) }

pub carried_cons : {X : Type 0} {p : Gram X} {q : Gram (List X)} {a : X → X} → Carried a p → Carried (map a) q → Carried (map a) (seq cons p q)
carried_cons {a} c d = record { holds = (a, map a, c.holds, d.holds, λ x y. refl) }

pub carried_optional : {X : Type 0} {p : Gram X} {a : X → X} → Carried a p → Carried (option_map a) (optional p)
carried_optional {a} c = record { holds = ((a, c.holds, λ x. refl), refl) }

-- after, and before, a token that has no value
pub carried_after : {X : Type 0} {kinds : List ℕ} {example : Placed} {p : Gram X} {h : X → X} → Carried h p → Carried h (after_token (record { kinds = kinds; value = place_of; example = example }) p)
carried_after {h} c = record { holds = (place_without_positions, h, (λ t k. refl), c.holds, λ x y. refl) }

pub carried_before : {X : Type 0} {kinds : List ℕ} {example : Placed} {p : Gram X} {h : X → X} → Carried h p → Carried h (before_token p (record { kinds = kinds; value = place_of; example = example }))
carried_before {h} c = record { holds = (h, place_without_positions, c.holds, (λ t k. refl), λ x y. refl) }

pub carried_within : {X : Type 0} {p : Gram X} {h : X → X} → Carried h p → Carried h (within_parens p)
carried_within c = carried_after (carried_before c)
