use Rattle.std.proofs.Common.{◌≡◌, true}
use Rattle.psm_value.proofs.Literals.{number_of-no_literal}
use Rattle.psm_num.proofs.Literals.{number_of-spelled}
use Rattle.psm_value.specs.Cast.{trimmed}
use Rattle.psm_value.specs.SqlType.{is_number_type}
use Rattle.psm_value.proofs.casting.cast_reads_literals.Goals as goal

pub returns-clause-literal : goal.returns-clause-literal
returns-clause-literal c to t l h s =
    let e : is_number_type to ≡ true = h in
    rw (e, number_of-spelled (trimmed t) l s)

pub returns-clause-no_literal : goal.returns-clause-no_literal
returns-clause-no_literal c to t h none =
    let e : is_number_type to ≡ true = h in
    rw (e, number_of-no_literal (trimmed t) none)
