-- Expressions and queries are read by their first tokens, part by part.
use Rattle.std.proofs.Common.{ℕ, List, [], ◌∷◌, ◌++◌, Option, Some, None, refl}
use Rattle.psm_token.specs.declared.word.Word.TheVariants as w
use Rattle.psm_token.specs.declared.sign.Sign.TheVariants as s
use Rattle.psm_grammar.specs.Grammar.{Grammar}
use Rattle.psm_grammar.proofs.Fitting.{Fit, fit_fewer, fit_token, fit_nothing, fit_seq, fit_or, fit_ahead, fit_many, fit_image}
use Rattle.psm_token.specs.Words.{word_kind}
use Rattle.psm_token.specs.Signs.{sign_kind}
use Rattle.psm_token.specs.Kinds.{kinds_of, kind}
use Rattle.psm_tree.specs.Tests.{name_kinds, comparison, sum_operator, term_operator}
use Rattle.psm_tree.specs.Parts.{Part, V, HandlerRest}
use Rattle.psm_tree.specs.ExprGrammar

-- what may follow each part: anything, where it ends in a token of its own; a semicolon after a handler
abbrev pub after : Part → Option (List ℕ)
after HandlerRest = Some (sign_kind s.Semicolon ∷ [])
after _ = None

abbrev Fits : {X : Type 0} → List ℕ → Grammar kind V X → Type 0
Fits follow g = Fit after follow g

-- ---- what may stand after the parts of an expression

abbrev pub after_expr : List ℕ
after_expr = sign_kind s.RightParen ∷ sign_kind s.Comma ∷ sign_kind s.Semicolon
    ∷ kinds_of (w.As ∷ w.From ∷ w.For ∷ w.Into ∷ w.Then ∷ w.Do ∷ w.End ∷ w.When ∷ w.Else ∷ w.Where ∷ w.Order ∷ []) ++ name_kinds

abbrev after_conjunction : List ℕ
after_conjunction = word_kind w.Or ∷ after_expr

abbrev after_negation : List ℕ
after_negation = word_kind w.And ∷ after_conjunction

abbrev pub after_sum : List ℕ
after_sum = comparison.kinds ++ kinds_of (w.Is ∷ w.Not ∷ w.Between ∷ w.In ∷ w.Like ∷ w.Escape ∷ []) ++ after_negation

abbrev after_term : List ℕ
after_term = sum_operator.kinds ++ after_sum

abbrev after_factor : List ℕ
after_factor = term_operator.kinds ++ after_term

-- what may stand after an item of a query, and after a query
abbrev after_item : List ℕ
after_item = sign_kind s.Comma ∷ kinds_of (w.As ∷ w.From ∷ w.Into ∷ []) ++ name_kinds

abbrev pub after_picks : List ℕ
after_picks = kinds_of (w.From ∷ w.Into ∷ [])

abbrev pub after_select : List ℕ
after_select = sign_kind s.RightParen ∷ sign_kind s.Semicolon ∷ kinds_of (w.Order ∷ w.For ∷ w.Do ∷ [])

-- ---- values

primary_fit : Fits after_factor ExprGrammar.primary
unfolding ExprGrammar.all_expressions
primary_fit = record { holds = refl }

factor_fit : Fits after_factor ExprGrammar.factor
unfolding ExprGrammar.all_expressions
factor_fit = fit_or refl refl (fit_seq (fit_token refl) primary_fit) primary_fit

next_factors_fit : Fits after_term ExprGrammar.next_factors
unfolding ExprGrammar.all_expressions
next_factors_fit = fit_many refl refl (fit_seq (fit_token refl) factor_fit)

term_fit : Fits after_term ExprGrammar.term
unfolding ExprGrammar.all_expressions
term_fit = fit_seq factor_fit next_factors_fit

next_terms_fit : Fits after_sum ExprGrammar.next_terms
unfolding ExprGrammar.all_expressions
next_terms_fit = fit_many refl refl (fit_seq (fit_token refl) term_fit)

pub sum_fit : Fits after_sum ExprGrammar.sum
unfolding ExprGrammar.all_expressions
sum_fit = fit_seq term_fit next_terms_fit

-- ---- conditions

between_fit : Fits after_negation ExprGrammar.between
unfolding ExprGrammar.all_expressions
between_fit = fit_seq (fit_token refl) (fit_seq (fit_fewer refl sum_fit) (fit_seq (fit_token refl) (fit_fewer refl sum_fit)))

next_sums_fit : Fits (sign_kind s.RightParen ∷ []) ExprGrammar.next_sums
unfolding ExprGrammar.all_expressions
next_sums_fit = fit_many refl refl (fit_seq (fit_token refl) (fit_fewer refl sum_fit))

in_list_fit : Fits after_negation ExprGrammar.in_list
unfolding ExprGrammar.all_expressions
in_list_fit = fit_seq (fit_token refl) (fit_seq (fit_token refl) (fit_seq (fit_seq (fit_fewer refl sum_fit) next_sums_fit) (fit_token refl)))

escape_fit : Fits after_negation ExprGrammar.escape
unfolding ExprGrammar.all_expressions
escape_fit = fit_seq (fit_token refl) (fit_fewer refl sum_fit)

like_fit : Fits after_negation ExprGrammar.like
unfolding ExprGrammar.all_expressions
like_fit = fit_seq (fit_token refl) (fit_seq (fit_fewer refl sum_fit) (fit_or refl refl (fit_image escape_fit) fit_nothing))

negated_test_fit : Fits after_negation ExprGrammar.negated_test
unfolding ExprGrammar.all_expressions
negated_test_fit = fit_seq (fit_token refl) (fit_or refl refl (fit_image between_fit) (fit_or refl refl (fit_image in_list_fit) (fit_image like_fit)))

predicate_rest_fit : Fits after_negation ExprGrammar.predicate_rest
unfolding ExprGrammar.all_expressions
predicate_rest_fit = fit_or refl refl (fit_seq (fit_token refl) (fit_fewer refl sum_fit))
    (fit_or refl refl (record { holds = refl })
    (fit_or refl refl negated_test_fit
    (fit_or refl refl (fit_image between_fit)
    (fit_or refl refl (fit_image in_list_fit)
    (fit_or refl refl (fit_image like_fit) fit_nothing)))))

predicate_fit : Fits after_negation ExprGrammar.predicate
unfolding ExprGrammar.all_expressions
predicate_fit = fit_seq (fit_fewer refl sum_fit) predicate_rest_fit

negation_fit : Fits after_negation ExprGrammar.negation
unfolding ExprGrammar.all_expressions
negation_fit = fit_or refl refl (fit_seq (fit_token refl) predicate_fit) predicate_fit

next_negations_fit : Fits after_conjunction ExprGrammar.next_negations
unfolding ExprGrammar.all_expressions
next_negations_fit = fit_many refl refl (fit_seq (fit_token refl) negation_fit)

conjunction_fit : Fits after_conjunction ExprGrammar.conjunction
unfolding ExprGrammar.all_expressions
conjunction_fit = fit_seq negation_fit next_negations_fit

next_conjunctions_fit : Fits after_expr ExprGrammar.next_conjunctions
unfolding ExprGrammar.all_expressions
next_conjunctions_fit = fit_many refl refl (fit_seq (fit_token refl) conjunction_fit)

pub expr_fit : Fits after_expr ExprGrammar.expr
unfolding ExprGrammar.all_expressions
expr_fit = fit_seq conjunction_fit next_conjunctions_fit

-- ---- sources

pub source_fit : Fits after_expr ExprGrammar.source
unfolding ExprGrammar.all_expressions
source_fit = fit_or refl refl (fit_image (fit_token refl)) expr_fit

next_sources_fit : Fits (sign_kind s.RightParen ∷ []) ExprGrammar.next_sources
unfolding ExprGrammar.all_expressions
next_sources_fit = fit_many refl refl (fit_seq (fit_token refl) (fit_fewer refl source_fit))

pub sources_fit : Fits (sign_kind s.RightParen ∷ []) ExprGrammar.sources
unfolding ExprGrammar.all_expressions
sources_fit = fit_seq (fit_fewer refl source_fit) next_sources_fit

-- ---- queries

counted_fit : Fits (sign_kind s.RightParen ∷ []) ExprGrammar.counted
unfolding ExprGrammar.all_expressions
counted_fit = fit_or refl refl (fit_image (fit_token refl)) (fit_image (fit_fewer refl expr_fit))

-- what stands in parentheses, whatever follows them
pub parens_fit : {X : Type 0} {p : Grammar kind V X} (follow : List ℕ) → Fits (sign_kind s.RightParen ∷ []) p → Fits follow (ExprGrammar.within_parens p)
unfolding ExprGrammar.all_expressions
parens_fit follow p = fit_seq (fit_token refl) (fit_seq p (fit_token refl))

item_fit : Fits after_item ExprGrammar.item
unfolding ExprGrammar.all_expressions
item_fit = fit_or refl refl (fit_seq (fit_token refl) (parens_fit after_item counted_fit))
    (fit_or refl refl (fit_seq (fit_token refl) (parens_fit after_item (fit_fewer refl expr_fit)))
    (fit_image (fit_fewer refl expr_fit)))

pick_fit : Fits (sign_kind s.Comma ∷ after_picks) ExprGrammar.pick
unfolding ExprGrammar.all_expressions
pick_fit = fit_seq (fit_fewer refl item_fit) (record { holds = refl })

pub picks_fit : Fits after_picks ExprGrammar.picks
unfolding ExprGrammar.all_expressions
picks_fit = fit_or refl refl (fit_image (fit_token refl)) (fit_seq pick_fit (fit_many refl refl (fit_seq (fit_token refl) pick_fit)))

pub from_fit : Fits after_select ExprGrammar.from_table
unfolding ExprGrammar.all_expressions
from_fit = fit_seq (fit_token refl) (fit_seq (record { holds = refl }) (fit_or refl refl (fit_image (fit_seq (fit_token refl) (fit_fewer refl expr_fit))) fit_nothing))

pub select_fit : Fits after_select ExprGrammar.select
unfolding ExprGrammar.all_expressions
select_fit = fit_seq (fit_token refl) (fit_seq (fit_fewer refl picks_fit) (fit_seq (fit_token refl) from_fit))

-- ---- what stands after a token that opens a level

pub enclosed_fit : (follow : List ℕ) → Fits follow ExprGrammar.enclosed
unfolding ExprGrammar.all_expressions
enclosed_fit follow = fit_or refl refl (fit_seq (fit_image (fit_fewer refl select_fit)) (fit_token refl)) (fit_seq (fit_image (fit_fewer refl expr_fit)) (fit_token refl))

pub arguments_fit : (follow : List ℕ) → Fits follow ExprGrammar.arguments
unfolding ExprGrammar.all_expressions
arguments_fit follow = fit_or refl refl (fit_image (fit_token refl)) (fit_seq (fit_seq (fit_fewer refl source_fit) next_sources_fit) (fit_token refl))

pub exists_fit : (follow : List ℕ) → Fits follow ExprGrammar.exists_rest
unfolding ExprGrammar.all_expressions
exists_fit follow = parens_fit follow (fit_fewer refl select_fit)

when_fit : Fits (kinds_of (w.When ∷ w.Else ∷ w.End ∷ [])) ExprGrammar.when
unfolding ExprGrammar.all_expressions
when_fit = fit_seq (fit_token refl) (fit_seq (fit_fewer refl expr_fit) (fit_seq (fit_token refl) (fit_fewer refl source_fit)))

otherwise_fit : Fits (word_kind w.End ∷ []) ExprGrammar.otherwise
unfolding ExprGrammar.all_expressions
otherwise_fit = fit_seq (fit_token refl) (fit_fewer refl source_fit)

whens_fit : (follow : List ℕ) → Fits follow ExprGrammar.whens
unfolding ExprGrammar.all_expressions
whens_fit follow = fit_seq (fit_seq when_fit (fit_many refl refl when_fit)) (fit_seq (fit_or refl refl (fit_image otherwise_fit) fit_nothing) (fit_token refl))

pub case_fit : (follow : List ℕ) → Fits follow ExprGrammar.case_rest
unfolding ExprGrammar.all_expressions
case_fit follow = fit_or refl refl (fit_image (whens_fit follow)) (fit_seq (fit_fewer refl expr_fit) (whens_fit follow))

pub cast_fit : (follow : List ℕ) → Fits follow ExprGrammar.cast_rest
unfolding ExprGrammar.all_expressions
cast_fit follow = parens_fit follow (fit_seq (fit_fewer refl source_fit) (fit_seq (fit_token refl) (record { holds = refl })))

pub coalesce_fit : (follow : List ℕ) → Fits follow ExprGrammar.coalesce_rest
unfolding ExprGrammar.all_expressions
coalesce_fit follow = parens_fit follow sources_fit

pub nullif_fit : (follow : List ℕ) → Fits follow ExprGrammar.nullif_rest
unfolding ExprGrammar.all_expressions
nullif_fit follow = parens_fit follow (fit_seq (fit_fewer refl expr_fit) (fit_seq (fit_token refl) (fit_fewer refl expr_fit)))

pub function_fit : (follow : List ℕ) → Fits follow ExprGrammar.function_rest
unfolding ExprGrammar.all_expressions
function_fit follow = parens_fit follow (fit_fewer refl expr_fit)

pub position_fit : (follow : List ℕ) → Fits follow ExprGrammar.position_rest
unfolding ExprGrammar.all_expressions
position_fit follow = parens_fit follow (fit_seq (fit_fewer refl sum_fit) (fit_seq (fit_token refl) (fit_fewer refl sum_fit)))

for_length_fit : Fits (sign_kind s.RightParen ∷ []) ExprGrammar.for_length
unfolding ExprGrammar.all_expressions
for_length_fit = fit_seq (fit_token refl) (fit_fewer refl expr_fit)

pub substring_fit : (follow : List ℕ) → Fits follow ExprGrammar.substring_rest
unfolding ExprGrammar.all_expressions
substring_fit follow = parens_fit follow (fit_seq (fit_fewer refl expr_fit) (fit_seq (fit_token refl) (fit_seq (fit_fewer refl expr_fit) (fit_or refl refl (fit_image for_length_fit) fit_nothing))))

sided_fit : Fits (sign_kind s.RightParen ∷ []) ExprGrammar.sided
unfolding ExprGrammar.all_expressions
sided_fit = fit_seq (fit_token refl) (fit_seq (fit_token refl) (fit_fewer refl expr_fit))

pub trim_fit : (follow : List ℕ) → Fits follow ExprGrammar.trim_rest
unfolding ExprGrammar.all_expressions
trim_fit follow = fit_seq (fit_token refl) (fit_ahead refl (fit_seq sided_fit (fit_token refl)) (fit_seq (fit_image (fit_fewer refl expr_fit)) (fit_token refl)))
