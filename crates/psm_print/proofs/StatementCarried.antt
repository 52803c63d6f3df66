-- Statements forget their places where their tokens do, part by part.
use Rattle.std.proofs.Common.{◌≡◌, Option, Some, None, map, option_map, refl, sym, ap}
use denote.Hole.Carrier
use Rattle.psm_list.specs.Several.{Several, several_map}
use Rattle.psm_token.specs.declared.place.Place.{Place}
use Rattle.psm_grammar.specs.Forms.{optional}
use Rattle.psm_tree.specs.Tests.{number_of, characters_of, statement_item_of, condition_item_of}
use Rattle.psm_tree.specs.Parts.{Statements, Branches}
use Rattle.psm_tree.specs.StatementValues.{labelled, unlabelled, simple_statement, if_of, case_statement_of, branches_of, branch_of}
use Rattle.psm_tree.specs.StatementGrammar
use Rattle.psm_tree.specs.declared.name.Identifier.{Identifier}
use Rattle.psm_tree.specs.declared.expr.Expr.{Expr}
use Rattle.psm_tree.specs.declared.statement.Statement.{roll-Statement}
use Rattle.psm_tree.specs.declared.statement.Block.{Block, roll-Block}
use Rattle.psm_tree.specs.declared.statement.Block.TheOpen as layers
use Rattle.psm_tree.specs.declared.statement.Branch.{Branch}
use Rattle.psm_tree.specs.declared.statement.Simple.{Simple}
use Rattle.psm_tree.specs.declared.statement.Simple.TheVariants as simples
use Rattle.psm_print.specs.WithoutPositions.{origin}
use Rattle.psm_print.specs.ExprWithoutPositions.{state_without_positions, expr_without_positions, name_without_positions, targets_without_positions}
use Rattle.psm_print.specs.StatementWithoutPositions
use Rattle.psm_print.specs.StatementWithoutPositions.{ordered_query_without_positions, order_without_positions, order_column_without_positions, signalled_without_positions, where_without_positions, values_without_positions, insert_source_without_positions, assignment_without_positions, statement_info_without_positions, condition_info_without_positions, diagnostics_without_positions, simple_without_positions, block_without_positions, statement_without_positions, branch_without_positions}
use Rattle.psm_print.proofs.ValuesWithoutPositions.{same, both, statements_without_positions, branches_without_positions}
use Rattle.psm_print.proofs.PlacelessEquations.{block_rolled, statement_rolled, branch_rolled}
use Rattle.psm_print.proofs.Carried.{Carried, carried_place, carried_at, carried_name, carried_level, carried_nothing, carried_seq, carried_or, carried_ahead, carried_many, carried_image, carried_pair, carried_triple, carried_several, carried_optional, carried_after, carried_before}
use Rattle.psm_print.proofs.ExprCarried.{target_carried, names_in_parens_carried, targets_carried, expr_carried, source_carried, sources_carried, picks_carried, from_table_carried, select_carried, select_made, arguments_carried}

-- ---- parts of statements

pub state_carried : Carried state_without_positions StatementGrammar.state
unfolding StatementGrammar.all_statements
state_carried = carried_seq carried_place (carried_or (carried_after (carried_at characters_of)) (carried_at characters_of)) (λ x y. refl)

direction_carried : Carried same StatementGrammar.direction
unfolding StatementGrammar.all_statements
direction_carried = carried_or (carried_image carried_place (λ x. refl))
    (carried_or (carried_image carried_place (λ x. refl))
    (carried_nothing refl))

column_order_carried : Carried order_column_without_positions StatementGrammar.column_order
unfolding StatementGrammar.all_statements
column_order_carried = carried_seq carried_name direction_carried (λ x y. refl)

order_carried : Carried order_without_positions StatementGrammar.order
unfolding StatementGrammar.all_statements
order_carried = carried_seq carried_place (carried_after (carried_several column_order_carried (carried_after column_order_carried))) (λ x y. refl)

pub ordered_select_carried : Carried ordered_query_without_positions StatementGrammar.ordered_select
unfolding StatementGrammar.all_statements
ordered_select_carried = carried_seq select_carried (carried_optional order_carried) (λ x y. refl)

message_carried : Carried expr_without_positions StatementGrammar.message
unfolding StatementGrammar.all_statements
message_carried = carried_after (carried_after (carried_after expr_carried))

state_signalled_carried : Carried signalled_without_positions StatementGrammar.state_signalled
unfolding StatementGrammar.all_statements
state_signalled_carried = carried_seq (carried_image {h = StatementWithoutPositions.condition_without_positions} state_carried (λ x. refl)) (carried_optional message_carried) (λ x y. refl)

name_signalled_carried : Carried signalled_without_positions StatementGrammar.name_signalled
unfolding StatementGrammar.all_statements
name_signalled_carried = carried_seq (carried_image {h = StatementWithoutPositions.condition_without_positions} carried_name (λ x. refl)) (carried_optional message_carried) (λ x y. refl)

where_carried : Carried where_without_positions StatementGrammar.where_part
unfolding StatementGrammar.all_statements
where_carried = carried_after (carried_or (carried_after (carried_after (carried_image carried_name (λ x. refl)))) (carried_image expr_carried (λ x. refl)))

values_carried : Carried values_without_positions StatementGrammar.values
unfolding StatementGrammar.all_statements
values_carried = carried_seq carried_place (carried_before sources_carried) (λ x y. refl)

insert_source_carried : Carried insert_source_without_positions StatementGrammar.insert_source
unfolding StatementGrammar.all_statements
insert_source_carried = carried_or (carried_after (carried_image (carried_several values_carried (carried_after values_carried)) (λ x. refl))) (carried_image select_carried (λ x. refl))

assignment_carried : Carried assignment_without_positions StatementGrammar.assignment
unfolding StatementGrammar.all_statements
assignment_carried = carried_seq carried_name (carried_after source_carried) (λ x y. refl)

-- ---- GET DIAGNOSTICS

statement_info_carried : Carried statement_info_without_positions StatementGrammar.statement_info
unfolding StatementGrammar.all_statements
statement_info_carried = carried_seq target_carried (carried_after (carried_at statement_item_of)) (λ x y. refl)

condition_info_carried : Carried condition_info_without_positions StatementGrammar.condition_info
unfolding StatementGrammar.all_statements
condition_info_carried = carried_seq target_carried (carried_after (carried_at condition_item_of)) (λ x y. refl)

condition_number_carried : Carried StatementWithoutPositions.condition_number_without_positions StatementGrammar.condition_number
unfolding StatementGrammar.all_statements
condition_number_carried = carried_or (carried_image (carried_at number_of) (λ x. refl)) (carried_image target_carried (λ x. refl))

diagnostics_carried : Carried diagnostics_without_positions StatementGrammar.diagnostics
unfolding StatementGrammar.all_statements
diagnostics_carried = carried_or (carried_after (carried_seq condition_number_carried (carried_several condition_info_carried (carried_after condition_info_carried)) (λ x y. refl)))
    (carried_image (carried_several statement_info_carried (carried_after statement_info_carried)) (λ x. refl))

area_carried : Carried same StatementGrammar.diagnostics_area
unfolding StatementGrammar.all_statements
area_carried = carried_or (carried_image carried_place (λ x. refl))
    (carried_or (carried_image carried_place (λ x. refl))
    (carried_nothing refl))

-- ---- simple statements

resignalled_carried : Carried (option_map signalled_without_positions) StatementGrammar.resignalled
unfolding StatementGrammar.all_statements
resignalled_carried = carried_or (carried_image state_signalled_carried (λ x. refl))
    (carried_or (carried_image name_signalled_carried (λ x. refl))
    (carried_nothing refl))

into_targets_carried : Carried targets_without_positions StatementGrammar.into_targets
unfolding StatementGrammar.all_statements
into_targets_carried = carried_after targets_carried

select_statement_carried : Carried simple_without_positions StatementGrammar.select_statement
unfolding StatementGrammar.all_statements
select_statement_carried = carried_seq carried_place (carried_triple picks_carried (carried_pair into_targets_carried (carried_after from_table_carried)))
    (λ x y. ap (λ query. simples.SelectInto query (targets_without_positions y.1)) (select_made x y.0 y.2.table y.2.alias y.2.condition))

insert_statement_carried : Carried simple_without_positions StatementGrammar.insert_statement
unfolding StatementGrammar.all_statements
insert_statement_carried = carried_seq carried_place (carried_after (carried_triple carried_name (carried_pair (carried_optional names_in_parens_carried) insert_source_carried))) (λ x y. refl)

update_statement_carried : Carried simple_without_positions StatementGrammar.update_statement
unfolding StatementGrammar.all_statements
update_statement_carried = carried_seq carried_place (carried_triple carried_name (carried_pair (carried_after (carried_several assignment_carried (carried_after assignment_carried))) (carried_optional where_carried))) (λ x y. refl)

delete_statement_carried : Carried simple_without_positions StatementGrammar.delete_statement
unfolding StatementGrammar.all_statements
delete_statement_carried = carried_seq carried_place (carried_after (carried_pair carried_name (carried_optional where_carried))) (λ x y. refl)

fetched_carried : Carried (both name_without_positions targets_without_positions) StatementGrammar.fetched
unfolding StatementGrammar.all_statements
fetched_carried = carried_pair carried_name into_targets_carried

fetch_statement_carried : Carried simple_without_positions StatementGrammar.fetch_statement
unfolding StatementGrammar.all_statements
fetch_statement_carried = carried_seq carried_place (carried_or (carried_after fetched_carried) (carried_ahead (carried_after (carried_after fetched_carried)) fetched_carried)) (λ x y. refl)

data_statement_carried : Carried simple_without_positions StatementGrammar.data_statement
unfolding StatementGrammar.all_statements
data_statement_carried = carried_or select_statement_carried
    (carried_or insert_statement_carried
    (carried_or update_statement_carried
    (carried_or delete_statement_carried
    (carried_or (carried_seq carried_place carried_name (λ x y. refl))
    (carried_or fetch_statement_carried
    (carried_seq carried_place carried_name (λ x y. refl)))))))

simple_carried : Carried simple_without_positions StatementGrammar.simple
unfolding StatementGrammar.all_statements
simple_carried = carried_or (carried_seq carried_place (carried_pair target_carried (carried_after source_carried)) (λ x y. refl))
    (carried_or (carried_seq carried_place (carried_pair carried_name (carried_after arguments_carried)) (λ x y. refl))
    (carried_or (carried_seq carried_place source_carried (λ x y. refl))
    (carried_or (carried_seq carried_place carried_name (λ x y. refl))
    (carried_or (carried_seq carried_place carried_name (λ x y. refl))
    (carried_or (carried_seq carried_place (carried_or state_signalled_carried name_signalled_carried) (λ x y. refl))
    (carried_or (carried_seq carried_place resignalled_carried (λ x y. refl))
    (carried_or (carried_seq carried_place (carried_pair area_carried (carried_after diagnostics_carried)) (λ x y. refl))
    data_statement_carried)))))))

-- ---- statements

block_carried : Carried block_without_positions StatementGrammar.block
unfolding roll-Block Carrier.roll StatementGrammar.all_statements
block_carried = carried_or (carried_level (λ x y. sym (block_rolled (layers.Compound x y.0 y.1.declarations y.1.cursors y.1.handlers y.1.statements))))
    (carried_or (carried_level (λ x y. sym (block_rolled (layers.Loop x y))))
    (carried_or (carried_level (λ x y. sym (block_rolled (layers.While x y.0 y.1))))
    (carried_or (carried_level (λ x y. sym (block_rolled (layers.Repeat x y.0 y.1))))
    (carried_level (λ x y. sym (block_rolled (layers.For x y.head y.statements)))))))

labelled_made : (start : Identifier) (p : Block × Option Identifier) → labelled (name_without_positions start) (both block_without_positions (option_map name_without_positions) p) ≡ statement_without_positions (labelled start p)
unfolding roll-Statement Carrier.roll
labelled_made start p = sym (statement_rolled (layers.Block (Some (record { start = start; end = p.1 })) p.0))

unlabelled_made : (block : Block) → unlabelled (block_without_positions block) ≡ statement_without_positions (unlabelled block)
unfolding roll-Statement Carrier.roll
unlabelled_made block = sym (statement_rolled (layers.Block None block))

labelled_carried : Carried statement_without_positions StatementGrammar.labelled_statement
unfolding StatementGrammar.all_statements
labelled_carried = carried_seq carried_name (carried_after (carried_pair block_carried (carried_optional carried_name))) labelled_made

if_made : (place : Place) (b : Branches) → if_of origin (branches_without_positions b) ≡ statement_without_positions (if_of place b)
unfolding roll-Statement Carrier.roll
if_made place b = sym (statement_rolled (layers.If place b.branches b.otherwise))

case_made : (place : Place) (p : Option Expr × Branches) → case_statement_of origin (both (option_map expr_without_positions) branches_without_positions p) ≡ statement_without_positions (case_statement_of place p)
unfolding roll-Statement Carrier.roll
case_made place p = sym (statement_rolled (layers.Case place p.0 p.1.branches p.1.otherwise))

simple_made : (simple : Simple) → simple_statement (simple_without_positions simple) ≡ statement_without_positions (simple_statement simple)
unfolding roll-Statement Carrier.roll
simple_made simple = sym (statement_rolled (layers.Simple simple))

pub statement_carried : Carried statement_without_positions StatementGrammar.statement
unfolding StatementGrammar.all_statements
statement_carried = carried_or labelled_carried
    (carried_or (carried_level if_made)
    (carried_or (carried_level case_made)
    (carried_or (carried_image block_carried unlabelled_made)
    (carried_image simple_carried simple_made))))

pub ended_statements_carried : Carried (map statement_without_positions) StatementGrammar.ended_statements
unfolding StatementGrammar.all_statements
ended_statements_carried = carried_many (carried_before statement_carried)

pub statements_carried : Carried statements_without_positions StatementGrammar.statements
unfolding StatementGrammar.all_statements
statements_carried = carried_several (carried_before statement_carried) (carried_before statement_carried)

-- ---- IF and CASE

branch_made : (test : Expr) (s : Statements) → branch_of (expr_without_positions test) (statements_without_positions s) ≡ branch_without_positions (branch_of test s)
branch_made test s = sym (branch_rolled (record { test = test; statements = s }))

branch_carried : Carried branch_without_positions StatementGrammar.branch
unfolding StatementGrammar.all_statements
branch_carried = carried_seq expr_carried (carried_after statements_carried) branch_made

otherwise_carried : Carried (option_map statements_without_positions) (optional StatementGrammar.otherwise_statements)
unfolding StatementGrammar.all_statements
otherwise_carried = carried_optional (carried_after statements_carried)

branches_made : (branches : Several Branch) (otherwise : Option Statements) → branches_of (several_map branch_without_positions branches) (option_map statements_without_positions otherwise) ≡ branches_without_positions (branches_of branches otherwise)
branches_made branches None = refl
branches_made branches (Some s) = refl

pub if_carried : Carried branches_without_positions StatementGrammar.if_rest
unfolding StatementGrammar.all_statements
if_carried = carried_seq (carried_several branch_carried (carried_after branch_carried)) (carried_before (carried_before otherwise_carried)) branches_made

case_branches_carried : Carried branches_without_positions StatementGrammar.case_branches
unfolding StatementGrammar.all_statements
case_branches_carried = carried_seq (carried_several (carried_after branch_carried) (carried_after branch_carried)) (carried_before (carried_before otherwise_carried)) branches_made

pub case_carried : Carried (both (option_map expr_without_positions) branches_without_positions) StatementGrammar.case_statement_rest
unfolding StatementGrammar.all_statements
case_carried = carried_or (carried_image case_branches_carried (λ x. refl)) (carried_seq expr_carried case_branches_carried (λ x y. refl))
