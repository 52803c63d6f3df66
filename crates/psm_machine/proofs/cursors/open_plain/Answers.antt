use Rattle.std.proofs.Common.{ap, sym, ◌∙◌}
use Rattle.psm_table.specs.Cursors.{Plain, before_first}
use Rattle.psm_code.specs.State.{with_cursor}
use Rattle.psm_code.specs.Steps.{change}
use Rattle.psm_unwind.specs.View.{machine_of}
use Rattle.psm_machine.proofs.cursors.open_plain.Goals as goal

pub returns-clause-expected : goal.returns-clause-expected
returns-clause-expected c = λ query tables at.
    ap (λ x. change (with_cursor c.args.number x) (machine_of tables at c.args.run.now)) (sym (c.in_ok-cursor.ensures ∙ ap (λ vars. Plain before_first vars) c.as_slice.ensures.value)) ∙ c.set_cursor.ensures.expected tables at
