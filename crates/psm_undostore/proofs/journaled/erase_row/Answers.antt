use Rattle.std.proofs.Common.{◌∙◌, ◌∷◌, [], ◌++◌, ap}
use Rattle.psm_segstack.specs.Stack.{Stack}
use Rattle.psm_undostore.specs.declared.entry.Entry.{Entry}
use Rattle.psm_undostore.specs.declared.entry.Change.TheVariants.{Erased}
use Rattle.psm_undostore.proofs.Led.{erased_leads}
use Rattle.psm_undostore.proofs.journaled.erase_row.Goals as goal

pub returns-in-Some-clause-entry : goal.returns-in-Some-clause-entry
returns-in-Some-clause-entry g c = (
  Erased c.in-Some.row,
  ap (λ (s : Stack Entry). s.items) c.push.ensures ∙ (λ i. c.reserve.ensures.items i ++ c.of.ensures i ∷ []),
  erased_leads c.args.table.now c.hide.new.self c.args.key.now c.in-Some.row c.def-def.ensures.table c.in-Some.ensures.fits c.in-Some.ensures.row
      c.hide.ensures.rows c.in-Some.ensures.kept c.hide.ensures.keeps,
)
