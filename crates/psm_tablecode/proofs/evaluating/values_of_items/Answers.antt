use Rattle.std.proofs.Common.{List, sym, subst}
use Rattle.std.specs.Prelude.{map, All}
use Rattle.psm_value.specs.Answer.{Gives}
use Rattle.psm_exprcode.specs.declared.aggregate.Aggregate.{Aggregate}
use Rattle.psm_exprcode.specs.declared.items.Items.{Items}
use Rattle.psm_exprcode.specs.declared.op.Line.{Line}
use Rattle.psm_table.specs.Evaluator.{collected}
use Rattle.psm_table.specs.Queries.{operand_of, operands_of}
use Rattle.psm_tablecode.specs.Codes.{over, set_of}
use Rattle.psm_tablecode.specs.Rows.{values_for}
use Rattle.psm_tablecode.specs.TypeChecks.{Runs, RunItems}
use Rattle.psm_tablecode.proofs.Collecting.{collected-map}
use Rattle.psm_tablecode.proofs.Results.{gives_by}
use Rattle.psm_tablecode.proofs.evaluating.values_of_items.Goals as goal

pub values-requires : goal.values-requires
values-requires c =
    subst (λ (codes : List (List Line)). All (Runs c.args.row.now c.args.vars.now) codes) (sym c.items.ensures)
    (subst (λ (items : Items). RunItems c.args.row.now c.args.vars.now items) c.in-Rows.is c.requires)

pub returns-in-Sets : goal.returns-in-Sets
returns-in-Sets c =
    let take = λ (a : Aggregate). operand_of (over c.args.vars.now) a.operand c.args.row.now in
    let read : Gives (collected take c.in-Sets.sets) c.operands.result = subst (λ (sets : List Aggregate). Gives (collected take sets) c.operands.result) c.items-in-Sets.ensures c.operands.ensures in
    subst (λ (items : Items). Gives (values_for c.args.vars.now items c.args.row.now) c.operands.result) (sym c.in-Sets.is)
    (gives_by (operands_of (over c.args.vars.now) (map set_of c.in-Sets.sets) c.args.row.now) (collected take c.in-Sets.sets) c.operands.result
    (collected-map (λ a. operand_of (over c.args.vars.now) a.operand c.args.row.now) set_of c.in-Sets.sets) read)
