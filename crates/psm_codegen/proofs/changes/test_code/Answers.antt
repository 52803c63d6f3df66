use Rattle.psm_codegen.proofs.ChangeForms.{test_made}
use Rattle.psm_codegen.proofs.changes.test_code.Goals as goal

pub returns : goal.returns
returns c = test_made c.args.known.now c.args.table c.args.e.now c.columns_at.result.now c.items.result.now c.test.result c.columns_at.ensures c.items.ensures c.test.ensures.value c.test.ensures.fits
