use Rattle.std.proofs.Common.{ap, sym, subst, ◌∙◌}
use Rattle.std.specs.Option.{option_copied}
use Rattle.psm_table.specs.Key.{AreColumnsOf}
use Rattle.psm_table.specs.PairPosition.{probe_key}
use Rattle.psm_table.proofs.Rivals.{row-live, Row}
use Rattle.psm_table.proofs.index.is_rival_at.Goals as goal

pub rivals-requires-clause-exist : goal.rivals-requires-clause-exist
rivals-requires-clause-exist c =
    subst (λ (r : Row). AreColumnsOf r c.args.def.now.key) (sym c.values.ensures)
    (row-live (λ r. AreColumnsOf r c.args.def.now.key) (probe_key c.args.key) c.args.rows.now.pairs c.in-Some.other.now
    (sym c.row_at.ensures ∙ ap option_copied c.in-Some.is) c.requires.rows)
