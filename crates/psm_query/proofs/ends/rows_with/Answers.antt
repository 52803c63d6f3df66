use Rattle.std.proofs.Common.{ap, refl, ◌∙◌, true, false}
use Rattle.psm_table.specs.Queries.{in_walk}
use Rattle.psm_table.specs.declared.cut.Cut.{Cut}
use Rattle.psm_query.proofs.EndLaws.{all_begin, between_cuts}
use Rattle.psm_query.proofs.ends.rows_with.Goals as goal

pub returns-then-is_empty : goal.returns-then-is_empty
returns-then-is_empty c = record {
  rows = c.rows.ensures.rows ∙ ap (in_walk c.args.downward) (all_begin c.args.table.now.contents.def.key c.args.firsts.now c.args.table.now.contents.rows c.is_empty.result c.is_empty.ensures c.if-is_empty.true);
}

pub returns : goal.returns
returns c =
    let low : Cut = record { values = c.args.firsts; is_after = false } in
    let high : Cut = record { values = c.args.firsts; is_after = true } in
    record {
      rows = c.rows_between.ensures.rows ∙ ap (in_walk c.args.downward) (between_cuts c.args.table.now.contents.def.key c.args.firsts.now low high c.args.table.now.contents.rows refl refl refl refl);
    }
