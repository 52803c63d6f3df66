-- What contracts see of a handler table.
use Rattle.std.specs.Prelude.{List}
use Rattle.psm_cond.specs.declared.handlers.Context.{Context}
use Rattle.psm_cond.specs.declared.handlers.Declared.{Declared}
use Rattle.psm_cond.specs.declared.handlers.Handler.{Handler}

-- the declared conditions, the contexts and the handlers of one routine
pub record HandlerTable : Type 0 where
  pub declared : List Declared
  pub contexts : List Context
  pub handlers : List Handler
