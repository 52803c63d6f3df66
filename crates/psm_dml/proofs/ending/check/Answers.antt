use Rattle.std.proofs.Common.{ℕ, [], List, get_or, refl, ap, subst, ◌∙◌, Err}
use Rattle.psm_table.specs.Changing.{in_order, rows_pass}
use Rattle.psm_tablecode.specs.Codes.{over}
use Rattle.psm_tablecode.specs.TypeChecks.{letters_of}
use Rattle.psm_tablecode.proofs.Fitting.{family_letters, truths_run}
use Rattle.psm_table.specs.declared.definition.TableDef.{TableDef}
use Rattle.psm_dml.specs.Ends.{Passes}
use Rattle.psm_dml.proofs.Finished.{passes_raised}
use Rattle.psm_dml.proofs.ending.check.Goals as goal

pub judge-requires-clause-runs : goal.judge-requires-clause-runs
judge-requires-clause-runs c = λ k d l.
    let whole = c.requires.rows k d l in
    truths_run (letters_of c.args.table.now.contents.def) [] (get_or c.args.rows.now k d) [] (family_letters c.args.table.now.contents.def (get_or c.args.rows.now k d) whole.long whole.families) refl c.args.checks.now c.requires.type_checks

pub returns-in-Err-clause-passes : goal.returns-in-Err-clause-passes
returns-in-Err-clause-passes c =
    subst (λ (key : List ℕ). Passes c.args.table.now.contents.def (rows_pass (over []) c.args.checks.now (in_order key c.args.rows.now)) (Err c.raised.result)) (c.items.ensures ∙ ap (λ (d : TableDef). d.key) c.def.ensures.value)
    (passes_raised c.args.table.now.contents.def (rows_pass (over []) c.args.checks.now (in_order c.items.result.now c.args.rows.now)) c.in-Err.fault c.raised.result c.in-Err.ensures c.raised.ensures)
