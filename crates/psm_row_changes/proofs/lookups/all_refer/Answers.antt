use Rattle.std.proofs.Common.{◌∷◌, ◌&&◌, List, ap, sym, subst, ◌∙◌}
use Rattle.std.specs.Prelude.{All}
use Rattle.std.specs.List.{list_all}
use Rattle.std.proofs.lemmas.List.Elements.{All-head, All-tail}
use Rattle.psm_value.specs.declared.datum.Datum.{Datum}
use Rattle.psm_table.specs.Key.{AreColumnsOf}
use Rattle.psm_table.specs.Keyed.{is_referred}
use Rattle.psm_row_changes.proofs.lookups.all_refer.Goals as goal

pub refers_to-requires-clause-columns : goal.refers_to-requires-clause-columns
refers_to-requires-clause-columns c =
    let fit : All (λ (r : List Datum). AreColumnsOf r c.args.key.now.columns) (c.in-Some.row.now ∷ c.next.new.self) = subst (All (λ r. AreColumnsOf r c.args.key.now.columns)) c.in-Some.ensures c.rows.invariant.columns in
    subst (λ (r : List Datum). AreColumnsOf r c.args.key.now.columns) (sym c.values.ensures) (All-head (λ r. AreColumnsOf r c.args.key.now.columns) c.in-Some.row.now c.next.new.self fit)

pub rows-preserved : goal.rows-preserved
rows-preserved c =
    let p = is_referred c.args.key.now.columns c.args.key.now.target c.args.table.now.contents.rows in
    let fit : All (λ (r : List Datum). AreColumnsOf r c.args.key.now.columns) (c.in-Some.row.now ∷ c.next.new.self) = subst (All (λ r. AreColumnsOf r c.args.key.now.columns)) c.in-Some.ensures c.rows.invariant.columns in
    record {
      same = c.rows.invariant.same ∙ ap (list_all p) c.in-Some.ensures
          ∙ ap (λ b. b && list_all p c.next.new.self) (ap p (sym c.values.ensures) ∙ sym c.in_ok-refers_to.ensures ∙ c.if-not-branch.false);
      columns = All-tail (λ r. AreColumnsOf r c.args.key.now.columns) c.in-Some.row.now c.next.new.self fit;
    }
