-- The levels that are left, and then who calls whom.
use Rattle.std.proofs.Common.{◌+◌, ◌*◌, ◌-◌}
use Rattle.psm_tree.specs.StatementGrammar.{ended_statement, elseif_branch, when_branch}
use Rattle.psm_tree.specs.Readers.{Repeating}
use Rattle.psm_parse_stmt.specs.Declaring.{Declaring}
use Rattle.psm_parse_stmt.proofs.+statements.Given as goal

abbrev pub decreases-compound::block : goal.decreases-compound::block
decreases-compound::block l = 20 * l.levels + 1

abbrev pub decreases-compound::compound_block : goal.decreases-compound::compound_block
decreases-compound::compound_block l = 20 * l.levels + 0

abbrev pub decreases-compound::begin_rest : goal.decreases-compound::begin_rest
decreases-compound::begin_rest l = 20 * l.levels + 9

abbrev pub decreases-compound::body : goal.decreases-compound::body
decreases-compound::body l = 20 * l.levels + 8

abbrev pub decreases-compound::statements_end : goal.decreases-compound::statements_end
decreases-compound::statements_end l = 20 * l.levels + 7

abbrev pub decreases-loops::loop_rest : goal.decreases-loops::loop_rest
decreases-loops::loop_rest l = 20 * l.levels + 8

abbrev pub decreases-loops::loop_block : goal.decreases-loops::loop_block
decreases-loops::loop_block l = 20 * l.levels + 0

abbrev pub decreases-loops::while_body : goal.decreases-loops::while_body
decreases-loops::while_body l = 20 * l.levels + 8

abbrev pub decreases-loops::while_rest : goal.decreases-loops::while_rest
decreases-loops::while_rest l = 20 * l.levels + 9

abbrev pub decreases-loops::while_block : goal.decreases-loops::while_block
decreases-loops::while_block l = 20 * l.levels + 0

abbrev pub decreases-loops::repeat_rest : goal.decreases-loops::repeat_rest
decreases-loops::repeat_rest l = 20 * l.levels + 8

abbrev pub decreases-loops::repeat_block : goal.decreases-loops::repeat_block
decreases-loops::repeat_block l = 20 * l.levels + 0

abbrev pub decreases-loops::for_body : goal.decreases-loops::for_body
decreases-loops::for_body l = 20 * l.levels + 8

abbrev pub decreases-loops::for_rest : goal.decreases-loops::for_rest
decreases-loops::for_rest l = 20 * l.levels + 9

abbrev pub decreases-loops::for_block : goal.decreases-loops::for_block
decreases-loops::for_block l = 20 * l.levels + 0

abbrev pub decreases-statements::statement : goal.decreases-statements::statement
decreases-statements::statement l = 20 * l.levels + 4

abbrev pub decreases-statements::unlabelled_statement : goal.decreases-statements::unlabelled_statement
decreases-statements::unlabelled_statement l = 20 * l.levels + 2

abbrev pub decreases-statements::labelled_block : goal.decreases-statements::labelled_block
decreases-statements::labelled_block l = 20 * l.levels + 2

abbrev pub decreases-statements::labelled_statement : goal.decreases-statements::labelled_statement
decreases-statements::labelled_statement l = 20 * l.levels + 3

abbrev pub decreases-statements::ended_statement : goal.decreases-statements::ended_statement
decreases-statements::ended_statement l = 20 * l.levels + 5

abbrev pub decreases-statements::ended_statements : goal.decreases-statements::ended_statements
decreases-statements::ended_statements l = 20 * l.levels + 6

abbrev pub decreases-statements::statements : goal.decreases-statements::statements
decreases-statements::statements l = 20 * l.levels + 7

abbrev pub decreases-branch::branch : goal.decreases-branch::branch
decreases-branch::branch l = 20 * l.levels + 8

abbrev pub decreases-branch::otherwise_statements : goal.decreases-branch::otherwise_statements
decreases-branch::otherwise_statements l = 20 * l.levels + 8

abbrev pub decreases-branch::perhaps_otherwise : goal.decreases-branch::perhaps_otherwise
decreases-branch::perhaps_otherwise l = 20 * l.levels + 9

abbrev pub decreases-branch::elseif_branch : goal.decreases-branch::elseif_branch
decreases-branch::elseif_branch l = 20 * l.levels + 9

abbrev pub decreases-branch::elseif_branches : goal.decreases-branch::elseif_branches
decreases-branch::elseif_branches l = 20 * l.levels + 10

abbrev pub decreases-branch::if_branches : goal.decreases-branch::if_branches
decreases-branch::if_branches l = 20 * l.levels + 11

abbrev pub decreases-branch::if_end : goal.decreases-branch::if_end
decreases-branch::if_end l = 20 * l.levels + 10

abbrev pub decreases-branch::if_rest : goal.decreases-branch::if_rest
decreases-branch::if_rest l = 20 * l.levels + 12

abbrev pub decreases-branch::if_statement : goal.decreases-branch::if_statement
decreases-branch::if_statement l = 20 * l.levels + 0

abbrev pub decreases-branch::when_branch : goal.decreases-branch::when_branch
decreases-branch::when_branch l = 20 * l.levels + 9

abbrev pub decreases-branch::when_branches : goal.decreases-branch::when_branches
decreases-branch::when_branches l = 20 * l.levels + 10

abbrev pub decreases-branch::all_when_branches : goal.decreases-branch::all_when_branches
decreases-branch::all_when_branches l = 20 * l.levels + 11

abbrev pub decreases-branch::case_end : goal.decreases-branch::case_end
decreases-branch::case_end l = 20 * l.levels + 10

abbrev pub decreases-branch::case_branches : goal.decreases-branch::case_branches
decreases-branch::case_branches l = 20 * l.levels + 12

abbrev pub decreases-branch::case_statement_rest : goal.decreases-branch::case_statement_rest
decreases-branch::case_statement_rest l = 20 * l.levels + 13

abbrev pub decreases-branch::case_statement : goal.decreases-branch::case_statement
decreases-branch::case_statement l = 20 * l.levels + 0

abbrev pub decreases-declare::declarations : goal.decreases-declare::declarations
decreases-declare::declarations l = 20 * l.levels + 3

abbrev pub decreases-declare::declaration : goal.decreases-declare::declaration
decreases-declare::declaration l = 20 * l.levels + 2

abbrev pub decreases-declare::declared : goal.decreases-declare::declared
decreases-declare::declared l = 20 * l.levels + 1

abbrev pub decreases-declare::handler : goal.decreases-declare::handler
decreases-declare::handler l = 20 * l.levels + 0

abbrev pub decreases-declare::handler_rest : goal.decreases-declare::handler_rest
decreases-declare::handler_rest l = 20 * l.levels + 5

abbrev pub invariant-statements::ended_statements-loop-turn : goal.invariant-statements::ended_statements-loop-turn
invariant-statements::ended_statements-loop-turn l = Repeating l.levels ended_statement l.initial.tokens.rest.now l.statements.items (l._turn-end - l._turn) l.tokens.rest.now

abbrev pub invariant-branch::elseif_branches-loop-turn : goal.invariant-branch::elseif_branches-loop-turn
invariant-branch::elseif_branches-loop-turn l = Repeating l.levels elseif_branch l.initial.tokens.rest.now l.branches.items (l._turn-end - l._turn) l.tokens.rest.now

abbrev pub invariant-branch::when_branches-loop-turn : goal.invariant-branch::when_branches-loop-turn
invariant-branch::when_branches-loop-turn l = Repeating l.levels when_branch l.initial.tokens.rest.now l.branches.items (l._turn-end - l._turn) l.tokens.rest.now

abbrev pub invariant-declare::declarations-loop-turn : goal.invariant-declare::declarations-loop-turn
invariant-declare::declarations-loop-turn l = Declaring l.levels l.initial.tokens.rest.now l.stage l.heads (l._turn-end - l._turn) l.tokens.rest.now
