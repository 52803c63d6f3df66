use Rattle.std.proofs.Common.{◌∙◌, ◌∷◌, [], ◌++◌, ap}
use Rattle.psm_segstack.specs.Stack.{Stack}
use Rattle.psm_undostore.specs.declared.entry.Entry.{Entry}
use Rattle.psm_undostore.specs.declared.entry.Change.TheVariants.{Inserted}
use Rattle.psm_undostore.proofs.Led.{inserted_leads}
use Rattle.psm_undostore.proofs.journaled.insert_row.Goals as goal

pub returns-clause-entry : goal.returns-clause-entry
returns-clause-entry g c = (
  Inserted c.in_ok-key.key,
  ap (λ (s : Stack Entry). s.items) c.push.ensures ∙ (λ i. c.reserve.ensures.items i ++ c.of.ensures i ∷ []),
  inserted_leads c.args.table.now c.insert.new.self c.args.row c.in_ok-key.key c.def-def.ensures.table c.in_ok-key.ensures.value c.in_ok-key.ensures.fits
      c.in_ok-insert.ensures.answer.1 c.in_ok-insert.ensures.answer.2 c.insert.ensures.keeps,
)
