use Rattle.psm_codegen.proofs.ChangeForms.{sets_made}
use Rattle.psm_codegen.proofs.changes.sets_code.Goals as goal

pub returns : goal.returns
returns c = sets_made c.args.known.now c.args.table c.args.sets.now c.columns_at.result.now c.items.result.now c.sets_of.result c.columns_at.ensures c.items.ensures c.sets_of.ensures.value c.sets_of.ensures.fits
