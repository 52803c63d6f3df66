use Rattle.std.proofs.Common.{sym, subst}
use Rattle.std.specs.Prelude.{slice_index_or}
use Rattle.psm_table.specs.declared.definition.TableDef.{TableDef}
use Rattle.psm_dml.specs.TypeChecks.{Assigns}
use Rattle.psm_dml.proofs.planning.made_of.Goals as goal

pub set_row-requires-clause-sets : goal.set_row-requires-clause-sets
set_row-requires-clause-sets c = λ k d l.
    subst (λ (def : TableDef). Assigns def c.args.row.now c.args.vars.now (slice_index_or c.args.sets.now k d)) (sym c.def.ensures.value) (c.requires.sets k d l)
