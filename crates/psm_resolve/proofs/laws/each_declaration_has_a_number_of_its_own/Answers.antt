use Rattle.psm_resolve.proofs.EachOwn.{each-own, own-conditions}
use Rattle.psm_resolve.proofs.laws.each_declaration_has_a_number_of_its_own.Goals as goal

pub returns : goal.returns
returns c = record { variables_and_cursors = each-own; conditions = own-conditions }
