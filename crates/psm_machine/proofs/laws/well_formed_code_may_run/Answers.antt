use Rattle.psm_machine.proofs.CodeGuarantees.{may_ask, may_do, may_move, may_open}
use Rattle.psm_machine.proofs.laws.well_formed_code_may_run.Goals as goal

pub returns : goal.returns
returns c = record {
  asks = λ code r tables vars cursors h n. may_ask code r tables vars cursors h n;
  opens = λ code r tables vars cursors h n. may_open code r tables vars cursors h n;
  moves = λ code r tables vars cursors h n. may_move code r tables vars cursors h n;
  does = λ code r tables vars cursors h n. may_do code r tables vars cursors h n;
}
