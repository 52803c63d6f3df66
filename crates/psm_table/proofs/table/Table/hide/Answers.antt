use Rattle.std.proofs.Common.{◌≡◌, arith, Some, None, refl, ap, sym, subst, ◌∙◌}
use Rattle.psm_table.specs.Definition.{IsRow}
use Rattle.psm_table.specs.Held.{row_of, state_of}
use Rattle.psm_table.specs.Map.{with_value}
use Rattle.psm_table.specs.State.{State, StillKeeps}
use Rattle.psm_table.specs.Table.{keyed, without_row}
use Rattle.psm_table.proofs.Holds.{counted-hidden, counted-same, contents-hidden, contents-taken, held-hidden, held-same, if_none, its_row, keeps-hidden, keeps-same, kept-hidden, some_live, state-same, with_value-none}
use Rattle.psm_table.proofs.Tables.{held-find}
use Rattle.psm_table.proofs.table.Table.hide.Goals as goal

pub invariant_of-self : goal.invariant_of-self
invariant_of-self g c =
    let e : c.take_row.new.self.pairs ≡ with_value c.args.key.now None c.self.inside.rows.pairs = c.take_row.ensures.pairs ∙ ap (λ k. with_value k None c.self.inside.rows.pairs) c.values.ensures in
    let none : row_of c.args.key.now c.self.inside.rows.pairs ≡ None = ap (λ k. row_of k c.self.inside.rows.pairs) (sym c.values.ensures) ∙ sym c.in_err-row.ensures.row in
    let same : c.take_row.new.self.pairs ≡ c.self.inside.rows.pairs = e ∙ with_value-none c.args.key.now c.self.inside.rows.pairs c.self.invariant.0.order none in (
      held-same c.self.inside.def c.self.inside.lists.items c.self.inside.rows c.take_row.new.self c.self.inside.live c.self.inside.indexes.items c.self.inside.indexes.items same refl refl c.self.invariant.0,
      counted-same (state_of c.self.inside.def c.self.inside.lists.items c.self.inside.rows c.self.inside.indexes.items) (state_of c.self.inside.def c.self.inside.lists.items c.take_row.new.self c.self.inside.indexes.items) c.self.inside.left
          (state-same c.self.inside.def c.self.inside.lists.items c.self.inside.rows c.take_row.new.self c.self.inside.indexes.items c.self.inside.indexes.items same refl) c.self.invariant.1,
    )

pub returns-in_err-row-clause-row : goal.returns-in_err-row-clause-row
returns-in_err-row-clause-row g c =
    let none : row_of c.args.key.now c.self.inside.rows.pairs ≡ None = ap (λ k. row_of k c.self.inside.rows.pairs) (sym c.values.ensures) ∙ sym c.in_err-row.ensures.row in
    c.from_residual.ensures ∙ sym none ∙ held-find c.self.inside.def c.self.inside.lists.items c.self.inside.rows c.self.inside.live c.self.inside.indexes.items c.self.invariant.0 c.args.key.now ∙ ap (λ (s : State). keyed s.contents c.args.key.now) c.self.view_is

pub returns-in_err-row-clause-rows : goal.returns-in_err-row-clause-rows
returns-in_err-row-clause-rows g c =
    let e : c.take_row.new.self.pairs ≡ with_value c.args.key.now None c.self.inside.rows.pairs = c.take_row.ensures.pairs ∙ ap (λ k. with_value k None c.self.inside.rows.pairs) c.values.ensures in
    contents-taken c.self.inside.def c.self.inside.lists.items c.self.inside.rows c.take_row.new.self c.self.inside.live c.self.inside.indexes.items c.self.invariant.0 c.args.key.now e ∙ ap (λ (s : State). without_row c.args.key.now s.contents) c.self.view_is

pub returns-in_err-row-clause-none : goal.returns-in_err-row-clause-none
returns-in_err-row-clause-none g c =
    let e : c.take_row.new.self.pairs ≡ with_value c.args.key.now None c.self.inside.rows.pairs = c.take_row.ensures.pairs ∙ ap (λ k. with_value k None c.self.inside.rows.pairs) c.values.ensures in
    let none : row_of c.args.key.now c.self.inside.rows.pairs ≡ None = ap (λ k. row_of k c.self.inside.rows.pairs) (sym c.values.ensures) ∙ sym c.in_err-row.ensures.row in
    let same : c.take_row.new.self.pairs ≡ c.self.inside.rows.pairs = e ∙ with_value-none c.args.key.now c.self.inside.rows.pairs c.self.invariant.0.order none in
    if_none c.from_residual.result (state_of c.self.inside.def c.self.inside.lists.items c.take_row.new.self c.self.inside.indexes.items ≡ c.args.self.now) (state-same c.self.inside.def c.self.inside.lists.items c.self.inside.rows c.take_row.new.self c.self.inside.indexes.items c.self.inside.indexes.items same refl ∙ c.self.view_is)

pub returns-in_err-row-clause-keeps : goal.returns-in_err-row-clause-keeps
returns-in_err-row-clause-keeps g c =
    let e : c.take_row.new.self.pairs ≡ with_value c.args.key.now None c.self.inside.rows.pairs = c.take_row.ensures.pairs ∙ ap (λ k. with_value k None c.self.inside.rows.pairs) c.values.ensures in
    let none : row_of c.args.key.now c.self.inside.rows.pairs ≡ None = ap (λ k. row_of k c.self.inside.rows.pairs) (sym c.values.ensures) ∙ sym c.in_err-row.ensures.row in
    let same : c.take_row.new.self.pairs ≡ c.self.inside.rows.pairs = e ∙ with_value-none c.args.key.now c.self.inside.rows.pairs c.self.invariant.0.order none in
    keeps-same c.args.self.now (state_of c.self.inside.def c.self.inside.lists.items c.take_row.new.self c.self.inside.indexes.items) (state-same c.self.inside.def c.self.inside.lists.items c.self.inside.rows c.take_row.new.self c.self.inside.indexes.items c.self.inside.indexes.items same refl ∙ c.self.view_is)

pub overflow_sub-self : goal.overflow_sub-self
overflow_sub-self g c =
    let e : c.take_row.new.self.pairs ≡ with_value c.args.key.now None c.self.inside.rows.pairs = c.take_row.ensures.pairs ∙ ap (λ k. with_value k None c.self.inside.rows.pairs) c.values.ensures in
    let some : row_of c.args.key.now c.self.inside.rows.pairs ≡ Some c.in_ok-row.row = ap (λ k. row_of k c.self.inside.rows.pairs) (sym c.values.ensures) ∙ sym c.in_ok-row.ensures.row in
    some_live c.self.inside.def c.self.inside.lists.items c.self.inside.rows c.self.inside.live c.self.inside.indexes.items c.self.invariant.0 c.args.key.now c.in_ok-row.row c.take_row.new.self some e c.take_row.ensures.ordered

pub invariant_of-self-2 : goal.invariant_of-self-2
invariant_of-self-2 g c =
    let e : c.take_row.new.self.pairs ≡ with_value c.args.key.now None c.self.inside.rows.pairs = c.take_row.ensures.pairs ∙ ap (λ k. with_value k None c.self.inside.rows.pairs) c.values.ensures in
    let some : row_of c.args.key.now c.self.inside.rows.pairs ≡ Some c.in_ok-row.row = ap (λ k. row_of k c.self.inside.rows.pairs) (sym c.values.ensures) ∙ sym c.in_ok-row.ensures.row in (
      held-hidden c.self.inside.def c.self.inside.lists.items c.self.inside.rows c.self.inside.live c.self.inside.indexes.items c.self.invariant.0 c.args.key.now c.in_ok-row.row c.take_row.new.self some e c.take_row.ensures.ordered,
      counted-hidden c.self.inside.def c.self.inside.lists.items c.self.inside.rows c.self.inside.live c.self.inside.indexes.items c.self.invariant.0 c.args.key.now c.in_ok-row.row c.take_row.new.self some e c.take_row.ensures.ordered
          c.self.inside.left c.saturating_add-self-inside.result (λ l. omega (arith, l, c.saturating_add-self-inside.ensures)) c.self.invariant.1,
    )

pub returns-clause-row : goal.returns-clause-row
returns-clause-row g c =
    let some : row_of c.args.key.now c.self.inside.rows.pairs ≡ Some c.in_ok-row.row = ap (λ k. row_of k c.self.inside.rows.pairs) (sym c.values.ensures) ∙ sym c.in_ok-row.ensures.row in
    sym some ∙ held-find c.self.inside.def c.self.inside.lists.items c.self.inside.rows c.self.inside.live c.self.inside.indexes.items c.self.invariant.0 c.args.key.now ∙ ap (λ (s : State). keyed s.contents c.args.key.now) c.self.view_is

pub returns-clause-fits : goal.returns-clause-fits
returns-clause-fits g c =
    let some : row_of c.args.key.now c.self.inside.rows.pairs ≡ Some c.in_ok-row.row = ap (λ k. row_of k c.self.inside.rows.pairs) (sym c.values.ensures) ∙ sym c.in_ok-row.ensures.row in
    subst (λ d. IsRow d c.in_ok-row.row) (ap (λ (s : State). s.contents.def) c.self.view_is) (its_row c.self.inside.def c.self.inside.lists.items c.self.inside.rows c.self.inside.live c.self.inside.indexes.items c.self.invariant.0 c.args.key.now c.in_ok-row.row some)

pub returns-clause-rows : goal.returns-clause-rows
returns-clause-rows g c =
    let e : c.take_row.new.self.pairs ≡ with_value c.args.key.now None c.self.inside.rows.pairs = c.take_row.ensures.pairs ∙ ap (λ k. with_value k None c.self.inside.rows.pairs) c.values.ensures in
    let some : row_of c.args.key.now c.self.inside.rows.pairs ≡ Some c.in_ok-row.row = ap (λ k. row_of k c.self.inside.rows.pairs) (sym c.values.ensures) ∙ sym c.in_ok-row.ensures.row in
    contents-hidden c.self.inside.def c.self.inside.lists.items c.self.inside.rows c.self.inside.live c.self.inside.indexes.items c.self.invariant.0 c.args.key.now c.in_ok-row.row c.take_row.new.self some e c.take_row.ensures.ordered ∙ ap (λ (s : State). without_row c.args.key.now s.contents) c.self.view_is

pub returns-clause-kept : goal.returns-clause-kept
returns-clause-kept g c =
    let e : c.take_row.new.self.pairs ≡ with_value c.args.key.now None c.self.inside.rows.pairs = c.take_row.ensures.pairs ∙ ap (λ k. with_value k None c.self.inside.rows.pairs) c.values.ensures in
    let some : row_of c.args.key.now c.self.inside.rows.pairs ≡ Some c.in_ok-row.row = ap (λ k. row_of k c.self.inside.rows.pairs) (sym c.values.ensures) ∙ sym c.in_ok-row.ensures.row in
    kept-hidden c.self.inside.def c.self.inside.lists.items c.self.inside.rows c.self.inside.live c.self.inside.indexes.items c.self.invariant.0 c.args.key.now c.in_ok-row.row c.take_row.new.self some e c.take_row.ensures.ordered

pub returns-clause-keeps : goal.returns-clause-keeps
returns-clause-keeps g c =
    let e : c.take_row.new.self.pairs ≡ with_value c.args.key.now None c.self.inside.rows.pairs = c.take_row.ensures.pairs ∙ ap (λ k. with_value k None c.self.inside.rows.pairs) c.values.ensures in
    let some : row_of c.args.key.now c.self.inside.rows.pairs ≡ Some c.in_ok-row.row = ap (λ k. row_of k c.self.inside.rows.pairs) (sym c.values.ensures) ∙ sym c.in_ok-row.ensures.row in
    subst (λ s. StillKeeps s (state_of c.self.inside.def c.self.inside.lists.items c.take_row.new.self c.self.inside.indexes.items)) c.self.view_is (keeps-hidden c.self.inside.def c.self.inside.lists.items c.self.inside.rows c.self.inside.live c.self.inside.indexes.items c.self.invariant.0 c.args.key.now c.in_ok-row.row c.take_row.new.self some e c.take_row.ensures.ordered)
