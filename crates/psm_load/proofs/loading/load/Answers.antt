use Rattle.psm_load.proofs.Loaded.{loads_code, loads_fault}
use Rattle.psm_load.proofs.loading.load.Goals as goal

pub returns : goal.returns
returns c = record {
  loads = c.loaded.ensures;
  only = loads_code c.args.text.now c.loaded.result c.loaded.ensures c.texts_are_one_thing.ensures.code c.texts_are_one_thing.ensures.exclusive;
  only_fault = loads_fault c.args.text.now c.loaded.result c.loaded.ensures c.texts_are_one_thing.ensures.exclusive c.texts_are_one_thing.ensures.fault;
}
