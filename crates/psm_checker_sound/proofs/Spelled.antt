-- NULL stands in each part of the grammar of expressions and of queries where it may stand.
use Rattle.std.proofs.Common.{Bool, true, List, [], ◌∷◌, map, Option, Some, None, refl, sym, subst}
use Rattle.std.specs.Prelude.{IsTrue, nat_le}
use Rattle.std.specs.List.{list_all}
use Rattle.psm_token.specs.declared.place.Place.{Place}
use Rattle.psm_token.specs.declared.token.Placed.{Placed}
use Rattle.psm_token.specs.declared.token.Token.{Token as OneToken}
use Rattle.psm_token.specs.declared.token.Token.TheVariants as tokens
use Rattle.psm_grammar.specs.Language.{Test}
use Rattle.psm_grammar.specs.Grammar.{token, seq, many}
use Rattle.psm_grammar.specs.Forms.{optional, after_token}
use Rattle.psm_scope.proofs.Lists.{both}
use Rattle.psm_tree.specs.Tests.{number, number_of}
use Rattle.psm_tree.specs.ExprGrammar
use Rattle.psm_tree.specs.ExprGrammar.{Gram, within_parens}
use Rattle.psm_tree.specs.ExprValues as values
use Rattle.psm_tree.specs.declared.expr.Expr.{Expr}
use Rattle.psm_tree.specs.declared.expr.Pick.TheVariants as picked
use Rattle.psm_checker_sound.specs.Stands.{are_operands, are_small, as_operand, as_source, is_small, chain_link_stands, pick_stands, select_stands, stands, when_stands}
use Rattle.psm_checker_sound.proofs.StandingForms.{AllSourced, AllStood, CasesStood, InsideStood, ItemStood, ChainLinksStood, OptionSourced, OptionStood, PicksStood, RestStood, Stood, TestStood, ThreeStood, WhenStood, all-stood, all_true, are_all, case-stood, cast-stood, operator_chain_of-stood, coalesce-stood, enclosed-stood, exists-stood, function-stood, joined-stood, chain_link-stood, named-stood, not-stood, null-sourced, nullif-stood, number-stood, operand_sourced, pick-stood, position-stood, predicate-stood, select-stood, signed-stood, substring-stood, text-stood, trim-stood, when-stood}
use Rattle.psm_checker_sound.proofs.Saying.{Says, anything, says_ahead, says_before, says_after, says_each, says_image, says_level, says_nothing, says_optional, says_or, says_seq, says_weaker, says_within}
use Rattle.psm_checker_sound.specs.Simples.{Sourced}
use Rattle.psm_typing.specs.TypingContext.{Each}

-- ---- lists of expressions, as what is claimed of each of them

listed_operands : (es : List Expr) → Each Stood es → AllStood es
listed_operands [] h = refl
listed_operands (e ∷ es) h = all_true (as_operand (stands e)) (are_operands (map stands es)) h.0 (listed_operands es h.1)

listed_sources : (es : List Expr) → Each Sourced es → AllSourced es
listed_sources [] h = refl
listed_sources (e ∷ es) h = all_true (as_source (stands e)) (list_all as_source (map stands es)) h.0 (listed_sources es h.1)

-- and as tests of each
listed_tests : {X : Type 0} (test : X → Bool) (xs : List X) → Each (λ x. IsTrue (test x)) xs → IsTrue (are_all (map test xs))
listed_tests test [] h = refl
listed_tests test (x ∷ xs) h = all_true (test x) (are_all (map test xs)) h.0 (listed_tests test xs h.1)

says_many : {X : Type 0} {p : Gram X} (test : X → Bool) → Says (λ x. IsTrue (test x)) p → Says (λ xs. IsTrue (are_all (map test xs))) (many p)
says_many test a = says_weaker (says_each a) (listed_tests test)

many_operands : {p : Gram Expr} → Says Stood p → Says AllStood (many p)
many_operands a = says_weaker (says_each a) listed_operands

many_sources : {p : Gram Expr} → Says Sourced p → Says AllSourced (many p)
many_sources a = says_weaker (says_each a) listed_sources

several_sources : (first : Expr) (rest : List Expr) → Sourced first → AllSourced rest → AllSourced (first ∷ rest)
several_sources first rest h k = all_true (as_source (stands first)) (list_all as_source (map stands rest)) h k

several_operands : (first : Expr) (rest : List Expr) → Stood first → AllStood rest → AllStood (first ∷ rest)
several_operands first rest h k = all_true (as_operand (stands first)) (are_operands (map stands rest)) h k

pub optional_operand : {p : Gram Expr} → Says Stood p → Says OptionStood (optional p)
optional_operand a = says_optional a refl

optional_source : {p : Gram Expr} → Says Sourced p → Says OptionSourced (optional p)
optional_source a = says_optional a refl

-- ---- the parts of the grammar of expressions

small_number : (t : OneToken) → IsTrue (is_small t) → IsTrue (nat_le (number_of t).scale 18)
small_number (tokens.Number n) h = h
small_number (tokens.Word x) h = refl
small_number (tokens.Name x) h = refl
small_number (tokens.Text x) h = refl
small_number (tokens.Sign x) h = refl

pub number-says : Says (λ n. IsTrue (nat_le n.value.scale 18)) (token number)
number-says = record {
  says = λ inner same i s d w x small l.
      let first = both (is_small l.at.token) true (subst (λ w. IsTrue (are_small w)) l.whole small) in
      subst (λ n. IsTrue (nat_le n.value.scale 18)) (sym l.made) (small_number l.at.token first.0);
}

pub name_rest-says : Says RestStood ExprGrammar.name_rest
unfolding ExprGrammar.all_expressions
name_rest-says = says_or (says_image anything (λ x h. tt)) (says_or (says_level (λ a y h. h)) (says_nothing tt))

pub named-says : Says Stood ExprGrammar.named_primary
unfolding ExprGrammar.all_expressions
named-says = says_seq anything name_rest-says (λ x y h k. named-stood x y k)

pub worded-says : Says Stood ExprGrammar.worded_primary
unfolding ExprGrammar.all_expressions
worded-says = says_or (says_level exists-stood)
    (says_or (says_level case-stood)
    (says_or (says_level cast-stood)
    (says_or (says_level coalesce-stood)
    (says_or (says_level nullif-stood)
    (says_or (says_level position-stood)
    (says_or (says_level substring-stood)
    (says_or (says_level trim-stood)
    (says_level function-stood))))))))

pub primary-says : Says Stood ExprGrammar.primary
unfolding ExprGrammar.all_expressions
primary-says = says_or (says_image number-says number-stood) (says_or (says_image anything (λ x h. text-stood x)) (says_or named-says (says_or (says_level enclosed-stood) worded-says)))

pub factor-says : Says Stood ExprGrammar.factor
unfolding ExprGrammar.all_expressions
factor-says = says_or (says_seq anything primary-says (λ sign operand h k. signed-stood sign.place sign.value operand k)) primary-says

pub next_factors-says : Says ChainLinksStood ExprGrammar.next_factors
unfolding ExprGrammar.all_expressions
next_factors-says = says_many chain_link_stands (says_seq anything factor-says (λ operator operand h k. chain_link-stood operator operand k))

pub term-says : Says Stood ExprGrammar.term
unfolding ExprGrammar.all_expressions
term-says = says_seq factor-says next_factors-says operator_chain_of-stood

pub next_terms-says : Says ChainLinksStood ExprGrammar.next_terms
unfolding ExprGrammar.all_expressions
next_terms-says = says_many chain_link_stands (says_seq anything term-says (λ operator operand h k. chain_link-stood operator operand k))

pub sum-says : Says Stood ExprGrammar.sum
unfolding ExprGrammar.all_expressions
sum-says = says_seq term-says next_terms-says operator_chain_of-stood

-- ---- conditions

abbrev pub BothStood : Expr × Expr → Type 0
BothStood p = Stood p.0 × Stood p.1

pub between-says : Says BothStood ExprGrammar.between
unfolding ExprGrammar.all_expressions
between-says = says_after (says_seq sum-says (says_after sum-says) (λ low high h k. (h, k)))

pub in-says : Says (λ es. AllStood (es.first ∷ es.rest)) ExprGrammar.in_list
unfolding ExprGrammar.all_expressions
in-says = says_after (says_within (says_seq sum-says (many_operands (says_after sum-says)) several_operands))

pub like-says : Says (λ p. Stood p.0 × OptionStood p.1) ExprGrammar.like
unfolding ExprGrammar.all_expressions
like-says = says_after (says_seq sum-says (optional_operand (says_after sum-says)) (λ pattern escape h k. (h, k)))

pub null_of-stood : (negated : Option Place) (place : Place) → TestStood (values.null_of negated place)
null_of-stood None place = tt
null_of-stood (Some not) place = tt

pub negatable-says : Says TestStood ExprGrammar.negatable
unfolding ExprGrammar.all_expressions
negatable-says = says_or (says_image between-says (λ p h. h)) (says_or (says_image in-says (λ es h. h)) (says_image like-says (λ p h. h)))

pub predicate_rest-says : Says TestStood ExprGrammar.predicate_rest
unfolding ExprGrammar.all_expressions
predicate_rest-says = says_or (says_seq anything sum-says (λ operator right h k. k))
    (says_or (says_after (says_seq anything anything (λ negated place h k. null_of-stood negated place)))
    (says_or (says_after negatable-says)
    (says_or (says_image between-says (λ p h. h))
    (says_or (says_image in-says (λ es h. h))
    (says_or (says_image like-says (λ p h. h))
    (says_nothing tt))))))

pub predicate-says : Says Stood ExprGrammar.predicate
unfolding ExprGrammar.all_expressions
predicate-says = says_seq sum-says predicate_rest-says predicate-stood

pub negation-says : Says Stood ExprGrammar.negation
unfolding ExprGrammar.all_expressions
negation-says = says_or (says_seq anything predicate-says (λ place e h k. not-stood place e k)) predicate-says

pub conjunction-says : Says Stood ExprGrammar.conjunction
unfolding ExprGrammar.all_expressions
conjunction-says = says_seq negation-says (many_operands (says_after negation-says)) (λ first rest h k. joined-stood _ first rest h k)

pub expr-says : Says Stood ExprGrammar.expr
unfolding ExprGrammar.all_expressions
expr-says = says_seq conjunction-says (many_operands (says_after conjunction-says)) (λ first rest h k. joined-stood _ first rest h k)

pub source-says : Says Sourced ExprGrammar.source
unfolding ExprGrammar.all_expressions
source-says = says_or (says_image anything (λ place h. null-sourced place)) (says_weaker expr-says operand_sourced)

pub next_sources-says : Says AllSourced ExprGrammar.next_sources
unfolding ExprGrammar.all_expressions
next_sources-says = many_sources (says_after source-says)

pub sources-says : Says (λ es. AllSourced (es.first ∷ es.rest)) ExprGrammar.sources
unfolding ExprGrammar.all_expressions
sources-says = says_seq source-says next_sources-says several_sources

-- ---- queries

pub count_of-stood : (place : Place) (argument : Option Expr) → OptionStood argument → ItemStood (values.count_of place argument)
count_of-stood place None h = tt
count_of-stood place (Some argument) h = h

pub counted-says : Says OptionStood ExprGrammar.counted
unfolding ExprGrammar.all_expressions
counted-says = says_or (says_image anything (λ place h. refl)) (says_image expr-says (λ e h. h))

pub item-says : Says ItemStood ExprGrammar.item
unfolding ExprGrammar.all_expressions
item-says = says_or (says_seq anything (says_within counted-says) (λ place argument h k. count_of-stood place argument k))
    (says_or (says_seq anything (says_within expr-says) (λ function argument h k. k))
    (says_image expr-says (λ e h. h)))

pub pick-says : Says (λ p. IsTrue (pick_stands p)) ExprGrammar.pick
unfolding ExprGrammar.all_expressions
pick-says = says_seq item-says anything (λ item alias h k. pick-stood item alias h)

pub picks-says : Says PicksStood ExprGrammar.picks
unfolding ExprGrammar.all_expressions
picks-says = says_or (says_image anything (λ place h. all_true (pick_stands (picked.All place)) true (all-stood place) refl))
    (says_seq pick-says (says_many pick_stands (says_after pick-says)) (λ first rest h k. all_true (pick_stands first) (are_all (map pick_stands rest)) h k))

pub from-says : Says (λ f. OptionStood f.condition) ExprGrammar.from_table
unfolding ExprGrammar.all_expressions
from-says = says_seq anything (says_seq {Q = λ p. OptionStood p.1} anything (optional_operand (says_after expr-says)) (λ alias test h k. k)) (λ table p h k. k)

pub select-says : Says (λ q. IsTrue (select_stands q)) ExprGrammar.select
unfolding ExprGrammar.all_expressions
select-says = says_seq anything (says_seq {Q = λ p. PicksStood p.0 × OptionStood p.1.condition} picks-says (says_after from-says) (λ picks from h k. (h, k))) (λ place p h k. select-stood place p k)

-- ---- what stands after a token that opens a level

pub inside-says : Says InsideStood ExprGrammar.enclosed
unfolding ExprGrammar.all_expressions
inside-says = says_or (says_before (says_image select-says (λ query h. h))) (says_before (says_image expr-says (λ e h. h)))

pub arguments-says : Says AllSourced ExprGrammar.arguments
unfolding ExprGrammar.all_expressions
arguments-says = says_or (says_image anything (λ place h. refl)) (says_before (says_seq source-says next_sources-says several_sources))

pub when-says : Says WhenStood ExprGrammar.when
unfolding ExprGrammar.all_expressions
when-says = says_after (says_seq expr-says (says_after source-says) when-stood)

abbrev pub WhensStood : values.Whens → Type 0
WhensStood ws = IsTrue (are_all (map when_stands (ws.whens.first ∷ ws.whens.rest))) × OptionSourced ws.otherwise

pub all_whens-says : Says (λ ws. IsTrue (are_all (map when_stands (ws.first ∷ ws.rest)))) ExprGrammar.all_whens
unfolding ExprGrammar.all_expressions
all_whens-says = says_seq when-says (says_many when_stands when-says) (λ first rest h k. all_true (when_stands first) (are_all (map when_stands rest)) h k)

pub whens-says : Says WhensStood ExprGrammar.whens
unfolding ExprGrammar.all_expressions
whens-says = says_seq all_whens-says (says_before (optional_source (says_after source-says))) (λ whens otherwise h k. (h, k))

pub cases-says : Says CasesStood ExprGrammar.case_rest
unfolding ExprGrammar.all_expressions
cases-says = says_or (says_image whens-says (λ ws h. (refl, h.0, h.1))) (says_seq expr-says whens-says (λ operand ws h k. (h, k.0, k.1)))

pub two-says : {p q : Gram Expr} {A : Type 0} {test : Test Placed A} → Says Stood p → Says Stood q → Says BothStood (within_parens (seq values.pair p (after_token test q)))
two-says a b = says_within (says_seq a (says_after b) (λ x y h k. (h, k)))

pub substring-says : Says ThreeStood ExprGrammar.substring_rest
unfolding ExprGrammar.all_expressions
substring-says = says_within (says_seq expr-says (says_after (says_seq {Q = λ p. Stood p.0 × OptionStood p.1} expr-says (optional_operand (says_after expr-says)) (λ from length h k. (h, k)))) (λ text p h k. (h, k.0, k.1)))

pub trim-says : Says (λ p. Stood p.1) ExprGrammar.trim_rest
unfolding ExprGrammar.all_expressions
trim-says = says_after (says_ahead (says_before (says_seq anything (says_after expr-says) (λ side text h k. k))) (says_before (says_image expr-says (λ text h. h))))

pub cast-says : Says (λ p. Sourced p.0) ExprGrammar.cast_rest
unfolding ExprGrammar.all_expressions
cast-says = says_within (says_seq source-says anything (λ source to h k. h))

pub exists-says : Says (λ q. IsTrue (select_stands q)) ExprGrammar.exists_rest
unfolding ExprGrammar.all_expressions
exists-says = says_within select-says

pub coalesced-says : Says (λ es. AllSourced (es.first ∷ es.rest)) ExprGrammar.coalesce_rest
unfolding ExprGrammar.all_expressions
coalesced-says = says_within sources-says

pub null_if-says : Says BothStood ExprGrammar.nullif_rest
unfolding ExprGrammar.all_expressions
null_if-says = two-says expr-says expr-says

pub function-says : Says Stood ExprGrammar.function_rest
unfolding ExprGrammar.all_expressions
function-says = says_within expr-says

pub position-says : Says BothStood ExprGrammar.position_rest
unfolding ExprGrammar.all_expressions
position-says = two-says sum-says sum-says
