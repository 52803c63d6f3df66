use Rattle.std.proofs.Common.{ap, sym, ◌∙◌}
use Rattle.psm_table.proofs.Ordered.{in_order-ascending, in_order-last, in_order-ordered, placed_after, put-put_in}
use Rattle.psm_table.proofs.laws.order_of_rows.Goals as goal

pub returns-clause-ordered : goal.returns-clause-ordered
returns-clause-ordered c = in_order-ordered

pub returns-clause-ascending : goal.returns-clause-ascending
returns-clause-ascending c = in_order-ascending

pub returns-clause-last : goal.returns-clause-last
returns-clause-last c = λ key rows row up none. in_order-last key rows row ∙ ap (placed_after key row) (in_order-ascending key rows up) ∙ sym (put-put_in key row rows up none)
