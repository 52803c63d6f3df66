use Rattle.value_rows.proofs.code.evaluated.Goals as goal

pub eval-requires : goal.eval-requires
eval-requires c = (
  c.args.end,
  record {
    columns = c.args.kinds.now;
    variables = c.args.kinds.now;
    fits = c.requires.fits;
    row_kinds = c.requires.row;
    variable_kinds = c.requires.vars;
  },
)
