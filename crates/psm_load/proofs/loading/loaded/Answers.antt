use Rattle.psm_load.proofs.Loaded.{judged_loads}
use Rattle.psm_load.proofs.loading.loaded.Goals as goal

pub returns-in-Ok : goal.returns-in-Ok
returns-in-Ok c = judged_loads c.args.text.now (record { code = c.in-Ok.code; odd = c.in-Ok.odd }) c.judged.result c.a_text_stands_for_the_code_that_it_lists.ensures.takes c.in-Ok.ensures.stated c.judged.ensures
