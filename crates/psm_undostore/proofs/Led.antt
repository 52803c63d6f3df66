-- Changes that lead a table from one state to another.
use Rattle.std.proofs.Common.{◌≡◌, List, ap, sym, subst, ◌∙◌, Some, None}
use Rattle.std.specs.Prelude.{unwrap_or}
use Rattle.psm_value.specs.declared.datum.Datum.{Datum}
use Rattle.psm_table.specs.declared.definition.TableDef.{TableDef}
use Rattle.psm_table.specs.Definition.{IsRow, IsKey}
use Rattle.psm_table.specs.Key.{values_at}
use Rattle.psm_table.specs.State.{State, KeepsRow, StillKeeps}
use Rattle.psm_table.specs.Table.{Contents, IsTable, keyed, namesake, with_row, without_row}
use Rattle.psm_undostore.specs.declared.entry.Change.TheVariants.{Inserted, Erased, Changed}
use Rattle.psm_undostore.specs.Journal.{Leads}
use Rattle.psm_table.proofs.Undo.{hidden-inserted, revived-hidden, revived-swapped}

inner : (x y : List Datum) → Some x ≡ Some y → x ≡ y
inner x y e = ap (λ o. unwrap_or o x) e

pub inserted_leads : (old new : State) (row key : List Datum) → IsTable old.contents → key ≡ values_at old.contents.def.key row → IsKey old.contents.def key →
    namesake old.contents row ≡ None → new.contents ≡ with_row old.contents row → StillKeeps old new → Leads (Inserted key) old new
inserted_leads old new row key good is fits none e keeps =
    let def : new.contents.def ≡ old.contents.def = ap (λ (t : Contents). t.def) e in record {
      back = ap (without_row key) e ∙ ap (λ k. without_row k (with_row old.contents row)) is ∙ hidden-inserted old.contents row good none;
      def = def;
      keeps = keeps;
      can = record {
        key = λ x p. subst (IsKey new.contents.def) (inner key x p) (subst (λ (d : TableDef). IsKey d key) (sym def) fits);
        fits = λ x p. cc;
        kept = λ x p. cc;
      };
      table = good;
    }

pub erased_leads : (old new : State) (key row : List Datum) → IsTable old.contents → IsRow old.contents.def row → Some row ≡ keyed old.contents key →
    new.contents ≡ without_row key old.contents → KeepsRow new row → StillKeeps old new → Leads (Erased row) old new
erased_leads old new key row good fits there e kept keeps =
    let def : new.contents.def ≡ old.contents.def = ap (λ (t : Contents). t.def) e in record {
      back = ap (λ (t : Contents). with_row t row) e ∙ revived-hidden old.contents key row good (sym there);
      def = def;
      keeps = keeps;
      can = record {
        key = λ x p. cc;
        fits = λ x p. subst (IsRow new.contents.def) (inner row x p) (subst (λ (d : TableDef). IsRow d row) (sym def) fits);
        kept = λ x p. subst (KeepsRow new) (inner row x p) kept;
      };
      table = good;
    }

pub changed_leads : (old new : State) (row was : List Datum) → IsTable old.contents → IsRow old.contents.def was → namesake old.contents row ≡ Some was →
    new.contents ≡ with_row old.contents row → KeepsRow new was → StillKeeps old new → Leads (Changed was) old new
changed_leads old new row was good fits there e kept keeps =
    let def : new.contents.def ≡ old.contents.def = ap (λ (t : Contents). t.def) e in record {
      back = ap (λ (t : Contents). with_row t was) e ∙ revived-swapped old.contents row was good there;
      def = def;
      keeps = keeps;
      can = record {
        key = λ x p. cc;
        fits = λ x p. subst (IsRow new.contents.def) (inner was x p) (subst (λ (d : TableDef). IsRow d was) (sym def) fits);
        kept = λ x p. subst (KeepsRow new) (inner was x p) kept;
      };
      table = good;
    }
