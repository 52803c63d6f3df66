use Rattle.std.proofs.Common.{◌∙◌, ◌∷◌, [], ◌++◌, ap}
use Rattle.psm_segstack.specs.Stack.{Stack}
use Rattle.psm_undostore.specs.declared.entry.Entry.{Entry}
use Rattle.psm_undostore.specs.declared.entry.Change.TheVariants.{Changed}
use Rattle.psm_undostore.proofs.Led.{changed_leads}
use Rattle.psm_undostore.proofs.journaled.change_row.Goals as goal

pub returns-in-Ok-clause-entry : goal.returns-in-Ok-clause-entry
returns-in-Ok-clause-entry g c = (
  Changed c.in-Ok.was,
  ap (λ (s : Stack Entry). s.items) c.push.ensures ∙ (λ i. c.reserve.ensures.items i ++ c.of.ensures i ∷ []),
  changed_leads c.args.table.now c.swap.new.self c.args.row c.in-Ok.was c.def-def.ensures.table c.in-Ok.ensures.fits c.in-Ok.ensures.answer.0
      c.in-Ok.ensures.answer.1 c.in-Ok.ensures.kept c.swap.ensures.keeps,
)
