-- The levels that are left, and then who calls whom.
use Rattle.std.proofs.Common.{ℕ, ◌+◌, ◌*◌, ◌-◌}
use Rattle.psm_tree.specs.ExprGrammar.{next_factor, next_term, next_sum, next_negation, next_conjunction, next_source, when, next_pick}
use Rattle.psm_tree.specs.Readers.{Repeating}
use Rattle.psm_parse_expr.proofs.+expressions.Given as goal

abbrev pub decreases-primary::named_primary : goal.decreases-primary::named_primary
decreases-primary::named_primary l = 40 * l.levels + 0

abbrev pub decreases-primary::enclosed : goal.decreases-primary::enclosed
decreases-primary::enclosed l = 40 * l.levels + 0

abbrev pub decreases-function::exists : goal.decreases-function::exists
decreases-function::exists l = 40 * l.levels + 0

abbrev pub decreases-function::cast : goal.decreases-function::cast
decreases-function::cast l = 40 * l.levels + 0

abbrev pub decreases-function::coalesce : goal.decreases-function::coalesce
decreases-function::coalesce l = 40 * l.levels + 0

abbrev pub decreases-function::nullif : goal.decreases-function::nullif
decreases-function::nullif l = 40 * l.levels + 0

abbrev pub decreases-function::position : goal.decreases-function::position
decreases-function::position l = 40 * l.levels + 0

abbrev pub decreases-function::substring : goal.decreases-function::substring
decreases-function::substring l = 40 * l.levels + 0

abbrev pub decreases-function::trim : goal.decreases-function::trim
decreases-function::trim l = 40 * l.levels + 0

abbrev pub decreases-function::function : goal.decreases-function::function
decreases-function::function l = 40 * l.levels + 0

abbrev pub decreases-case::case : goal.decreases-case::case
decreases-case::case l = 40 * l.levels + 0

abbrev pub decreases-function::worded_primary : goal.decreases-function::worded_primary
decreases-function::worded_primary l = 40 * l.levels + 1

abbrev pub decreases-primary::primary : goal.decreases-primary::primary
decreases-primary::primary l = 40 * l.levels + 2

abbrev pub decreases-value::factor : goal.decreases-value::factor
decreases-value::factor l = 40 * l.levels + 3

abbrev pub decreases-value::next_factor : goal.decreases-value::next_factor
decreases-value::next_factor l = 40 * l.levels + 4

abbrev pub decreases-value::next_factors : goal.decreases-value::next_factors
decreases-value::next_factors l = 40 * l.levels + 5

abbrev pub invariant-value::next_factors-loop-turn : goal.invariant-value::next_factors-loop-turn
invariant-value::next_factors-loop-turn l = Repeating l.levels next_factor l.initial.tokens.rest.now l.chain_links.items (l._turn-end - l._turn) l.tokens.rest.now

abbrev pub decreases-value::term : goal.decreases-value::term
decreases-value::term l = 40 * l.levels + 6

abbrev pub decreases-value::next_term : goal.decreases-value::next_term
decreases-value::next_term l = 40 * l.levels + 7

abbrev pub decreases-value::next_terms : goal.decreases-value::next_terms
decreases-value::next_terms l = 40 * l.levels + 8

abbrev pub invariant-value::next_terms-loop-turn : goal.invariant-value::next_terms-loop-turn
invariant-value::next_terms-loop-turn l = Repeating l.levels next_term l.initial.tokens.rest.now l.chain_links.items (l._turn-end - l._turn) l.tokens.rest.now

abbrev pub decreases-value::sum : goal.decreases-value::sum
decreases-value::sum l = 40 * l.levels + 9

abbrev pub decreases-predicate::between : goal.decreases-predicate::between
decreases-predicate::between l = 40 * l.levels + 10

abbrev pub decreases-predicate::next_sum : goal.decreases-predicate::next_sum
decreases-predicate::next_sum l = 40 * l.levels + 10

abbrev pub decreases-predicate::next_sums : goal.decreases-predicate::next_sums
decreases-predicate::next_sums l = 40 * l.levels + 11

abbrev pub invariant-predicate::next_sums-loop-turn : goal.invariant-predicate::next_sums-loop-turn
invariant-predicate::next_sums-loop-turn l = Repeating l.levels next_sum l.initial.tokens.rest.now l.sums.items (l._turn-end - l._turn) l.tokens.rest.now

abbrev pub decreases-predicate::in_list : goal.decreases-predicate::in_list
decreases-predicate::in_list l = 40 * l.levels + 12

abbrev pub decreases-predicate::perhaps_escape : goal.decreases-predicate::perhaps_escape
decreases-predicate::perhaps_escape l = 40 * l.levels + 10

abbrev pub decreases-predicate::like : goal.decreases-predicate::like
decreases-predicate::like l = 40 * l.levels + 11

abbrev pub decreases-predicate::compare : goal.decreases-predicate::compare
decreases-predicate::compare l = 40 * l.levels + 10

abbrev pub decreases-predicate::negatable : goal.decreases-predicate::negatable
decreases-predicate::negatable l = 40 * l.levels + 13

abbrev pub decreases-predicate::negated_test : goal.decreases-predicate::negated_test
decreases-predicate::negated_test l = 40 * l.levels + 14

abbrev pub decreases-predicate::predicate_rest : goal.decreases-predicate::predicate_rest
decreases-predicate::predicate_rest l = 40 * l.levels + 15

abbrev pub decreases-predicate::predicate : goal.decreases-predicate::predicate
decreases-predicate::predicate l = 40 * l.levels + 16

abbrev pub decreases-condition::negation : goal.decreases-condition::negation
decreases-condition::negation l = 40 * l.levels + 17

abbrev pub decreases-condition::next_negation : goal.decreases-condition::next_negation
decreases-condition::next_negation l = 40 * l.levels + 18

abbrev pub decreases-condition::next_negations : goal.decreases-condition::next_negations
decreases-condition::next_negations l = 40 * l.levels + 19

abbrev pub invariant-condition::next_negations-loop-turn : goal.invariant-condition::next_negations-loop-turn
invariant-condition::next_negations-loop-turn l = Repeating l.levels next_negation l.initial.tokens.rest.now l.operands.items (l._turn-end - l._turn) l.tokens.rest.now

abbrev pub decreases-condition::conjunction : goal.decreases-condition::conjunction
decreases-condition::conjunction l = 40 * l.levels + 20

abbrev pub decreases-condition::next_conjunction : goal.decreases-condition::next_conjunction
decreases-condition::next_conjunction l = 40 * l.levels + 21

abbrev pub decreases-condition::next_conjunctions : goal.decreases-condition::next_conjunctions
decreases-condition::next_conjunctions l = 40 * l.levels + 22

abbrev pub invariant-condition::next_conjunctions-loop-turn : goal.invariant-condition::next_conjunctions-loop-turn
invariant-condition::next_conjunctions-loop-turn l = Repeating l.levels next_conjunction l.initial.tokens.rest.now l.operands.items (l._turn-end - l._turn) l.tokens.rest.now

abbrev pub decreases-condition::expr : goal.decreases-condition::expr
decreases-condition::expr l = 40 * l.levels + 23

abbrev pub decreases-function::perhaps_length : goal.decreases-function::perhaps_length
decreases-function::perhaps_length l = 40 * l.levels + 24

abbrev pub decreases-function::trimmed : goal.decreases-function::trimmed
decreases-function::trimmed l = 40 * l.levels + 24

abbrev pub decreases-argument::source : goal.decreases-argument::source
decreases-argument::source l = 40 * l.levels + 24

abbrev pub decreases-argument::next_source : goal.decreases-argument::next_source
decreases-argument::next_source l = 40 * l.levels + 25

abbrev pub decreases-argument::next_sources : goal.decreases-argument::next_sources
decreases-argument::next_sources l = 40 * l.levels + 26

abbrev pub invariant-argument::next_sources-loop-turn : goal.invariant-argument::next_sources-loop-turn
invariant-argument::next_sources-loop-turn l = Repeating l.levels next_source l.initial.tokens.rest.now l.sources.items (l._turn-end - l._turn) l.tokens.rest.now

abbrev pub decreases-argument::sources : goal.decreases-argument::sources
decreases-argument::sources l = 40 * l.levels + 27

abbrev pub decreases-argument::arguments : goal.decreases-argument::arguments
decreases-argument::arguments l = 40 * l.levels + 27

abbrev pub decreases-case::when : goal.decreases-case::when
decreases-case::when l = 40 * l.levels + 25

abbrev pub decreases-case::next_whens : goal.decreases-case::next_whens
decreases-case::next_whens l = 40 * l.levels + 26

abbrev pub invariant-case::next_whens-loop-turn : goal.invariant-case::next_whens-loop-turn
invariant-case::next_whens-loop-turn l = Repeating l.levels when l.initial.tokens.rest.now l.whens.items (l._turn-end - l._turn) l.tokens.rest.now

abbrev pub decreases-case::all_whens : goal.decreases-case::all_whens
decreases-case::all_whens l = 40 * l.levels + 27

abbrev pub decreases-case::perhaps_otherwise : goal.decreases-case::perhaps_otherwise
decreases-case::perhaps_otherwise l = 40 * l.levels + 25

abbrev pub decreases-case::whens : goal.decreases-case::whens
decreases-case::whens l = 40 * l.levels + 28

abbrev pub decreases-case::case_rest : goal.decreases-case::case_rest
decreases-case::case_rest l = 40 * l.levels + 29

abbrev pub decreases-query::counted : goal.decreases-query::counted
decreases-query::counted l = 40 * l.levels + 24

abbrev pub decreases-query::count : goal.decreases-query::count
decreases-query::count l = 40 * l.levels + 25

abbrev pub decreases-query::aggregate : goal.decreases-query::aggregate
decreases-query::aggregate l = 40 * l.levels + 24

abbrev pub decreases-query::item : goal.decreases-query::item
decreases-query::item l = 40 * l.levels + 26

abbrev pub decreases-query::pick : goal.decreases-query::pick
decreases-query::pick l = 40 * l.levels + 27

abbrev pub decreases-query::next_pick : goal.decreases-query::next_pick
decreases-query::next_pick l = 40 * l.levels + 28

abbrev pub decreases-query::next_picks : goal.decreases-query::next_picks
decreases-query::next_picks l = 40 * l.levels + 29

abbrev pub invariant-query::next_picks-loop-turn : goal.invariant-query::next_picks-loop-turn
invariant-query::next_picks-loop-turn l = Repeating l.levels next_pick l.initial.tokens.rest.now l.picks.items (l._turn-end - l._turn) l.tokens.rest.now

abbrev pub decreases-query::picks : goal.decreases-query::picks
decreases-query::picks l = 40 * l.levels + 30

abbrev pub decreases-query::perhaps_condition : goal.decreases-query::perhaps_condition
decreases-query::perhaps_condition l = 40 * l.levels + 24

abbrev pub decreases-query::from_table : goal.decreases-query::from_table
decreases-query::from_table l = 40 * l.levels + 25

abbrev pub decreases-query::select : goal.decreases-query::select
decreases-query::select l = 40 * l.levels + 31
