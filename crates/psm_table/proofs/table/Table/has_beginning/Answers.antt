use Rattle.std.proofs.Common.{◌≡◌, length, take, ap, sym, subst, ◌∙◌, Some, true, false}
use Rattle.std.specs.Prelude.{is_some, slice_get}
use Rattle.psm_table.specs.Held.{live_rows}
use Rattle.psm_table.specs.Keyed.{has_values}
use Rattle.psm_table.specs.State.{State}
use Rattle.psm_table.proofs.Beginnings.{beginning_found, next_some}
use Rattle.psm_table.proofs.Lefts.{rows-between}
use Rattle.psm_table.proofs.table.Table.has_beginning.Goals as goal

pub returns : goal.returns
returns c =
    let begin : take (length c.args.columns.now) c.self.inside.def.key ≡ c.args.columns.now =
    subst (λ (s : State). take (length c.args.columns.now) s.contents.def.key ≡ c.args.columns.now) (sym c.self.view_is) c.requires.begin in
    c.is_some.ensures ∙ next_some c.next.result c.between-found.result c.next.new.self c.next.ensures
    ∙ ap (λ l. is_some (slice_get l 0)) (c.between-found.ensures ∙ sym (rows-between c.self.inside.def.key (Some (record { values = c.args.values; is_after = false })) (Some (record { values = c.args.values; is_after = true })) c.self.inside.rows.pairs c.self.invariant.0.keyed))
    ∙ beginning_found c.self.inside.def c.args.columns.now c.args.values.now begin c.requires.long c.requires.filled (live_rows c.self.inside.rows.pairs) c.self.invariant.0.table.fit
    ∙ ap (λ (s : State). has_values c.args.columns.now c.args.values.now s.contents.rows) c.self.view_is
