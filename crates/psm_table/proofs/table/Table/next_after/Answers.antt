use Rattle.std.proofs.Common.{◌≡◌, Some, ap, sym, subst, ◌∙◌}
use Rattle.std.specs.Prelude.{IfSome}
use Rattle.std.specs.Option.{option_copied}
use Rattle.psm_table.specs.Definition.{IsRow}
use Rattle.psm_table.specs.State.{State}
use Rattle.std.specs.Prelude.{slice_get}
use Rattle.std.specs.Ordering.{is_gt}
use Rattle.std.proofs.lemmas.List.Elements.{All-filter}
use Rattle.psm_table.specs.Held.{live_rows}
use Rattle.psm_table.specs.Key.{row_order}
use Rattle.psm_table.specs.Map.{pairs_above}
use Rattle.psm_table.specs.Rows.{row_after, rows_above}
use Rattle.psm_table.proofs.Holds.{listed_fits}
use Rattle.psm_table.proofs.Lives.{rows-above}
use Rattle.psm_table.proofs.table.Table.next_after.Goals as goal

pub returns-in-Some-clause-row : goal.returns-in-Some-clause-row
returns-in-Some-clause-row c =
    let read : option_copied c.row_after.result ≡ slice_get (rows_above c.self.inside.def.key c.in-Some.key.now (live_rows c.self.inside.rows.pairs)) 0 =
    c.row_after.ensures ∙ ap (λ k. slice_get (live_rows (pairs_above k c.self.inside.rows.pairs)) 0) c.values.ensures
    ∙ ap (λ l. slice_get l 0) (sym (rows-above c.self.inside.def.key c.in-Some.key.now c.self.inside.rows.pairs c.self.invariant.0.keyed)) in
    read ∙ ap (λ (s : State). row_after s.contents.def.key (Some c.in-Some.key.now) s.contents.rows) c.self.view_is
    ∙ sym (ap (λ o. row_after c.args.self.now.contents.def.key (option_copied o) c.args.self.now.contents.rows) c.in-Some.is)

pub returns-in-Some-clause-fits : goal.returns-in-Some-clause-fits
returns-in-Some-clause-fits c =
    let read : option_copied c.row_after.result ≡ slice_get (rows_above c.self.inside.def.key c.in-Some.key.now (live_rows c.self.inside.rows.pairs)) 0 =
    c.row_after.ensures ∙ ap (λ k. slice_get (live_rows (pairs_above k c.self.inside.rows.pairs)) 0) c.values.ensures
    ∙ ap (λ l. slice_get l 0) (sym (rows-above c.self.inside.def.key c.in-Some.key.now c.self.inside.rows.pairs c.self.invariant.0.keyed)) in
    subst (λ d. IfSome c.row_after.result (λ x. IsRow d x.now)) (ap (λ (s : State). s.contents.def) c.self.view_is)
    (listed_fits (IsRow c.self.inside.def) (rows_above c.self.inside.def.key c.in-Some.key.now (live_rows c.self.inside.rows.pairs)) 0 c.row_after.result
    (All-filter (λ r. is_gt (row_order c.self.inside.def.key c.in-Some.key.now r)) (IsRow c.self.inside.def) (live_rows c.self.inside.rows.pairs) c.self.invariant.0.table.fit) read)

pub returns-in-None-clause-fits : goal.returns-in-None-clause-fits
returns-in-None-clause-fits c =
    subst (λ d. IfSome c.row_after-in-None.result (λ x. IsRow d x.now)) (ap (λ (s : State). s.contents.def) c.self.view_is)
    (listed_fits (IsRow c.self.inside.def) (live_rows c.self.inside.rows.pairs) 0 c.row_after-in-None.result c.self.invariant.0.table.fit c.row_after-in-None.ensures)
