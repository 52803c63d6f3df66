-- Assignments that fit a table may be made over each of its rows.
use Rattle.std.proofs.Common.{◌≡◌, List, length, get_or, true, ◌∙◌, arith}
use Rattle.std.specs.Prelude.{All, nat_lt}
use Rattle.std.proofs.lemmas.Bool.{ltb-true}
use Rattle.std.proofs.lemmas.List.{length-map}
use Rattle.std.proofs.lemmas.List.Sums.{AllPass-from_list_all}
use Rattle.psm_value.specs.declared.datum.Datum.{Datum}
use Rattle.psm_exprcode.specs.declared.set_item.SetItem.{SetItem}
use Rattle.psm_exprcode.specs.Kinds.{letter_of}
use Rattle.psm_table.specs.declared.definition.TableDef.{TableDef}
use Rattle.psm_table.specs.Definition.{kinds_of, IsRow}
use Rattle.psm_table.proofs.Rules.{first_true, second_true}
use Rattle.psm_tablecode.specs.TypeChecks.{gives_value, letters_of}
use Rattle.psm_tablecode.proofs.Fitting.{row_letters, value_runs}
use Rattle.psm_dml.specs.TypeChecks.{fits_set, Assigns, SetsTypeCheck}

letters_long : (def : TableDef) → length (letters_of def) ≡ length def.columns
letters_long def = length-map (kinds_of def.columns) letter_of ∙ length-map def.columns (λ c. c.kind)

module _ (sets : List SetItem) (vars : List Datum) (def : TableDef) (row : List Datum) (h : SetsTypeCheck sets vars def) (fits : IsRow def row) where
  assigns : (s : SetItem) → fits_set (letters_of def) h.variables s ≡ true → Assigns def row vars s
  assigns s e = record {
    column = omega (arith, ltb-true s.column (length (letters_of def)) (first_true (nat_lt s.column (length (letters_of def))) (gives_value (letters_of def) h.variables s.source) e), letters_long def);
    runs = value_runs (letters_of def) h.variables row vars (row_letters def row fits) h.kinds s.source (second_true (nat_lt s.column (length (letters_of def))) (gives_value (letters_of def) h.variables s.source) e);
  }

  pub assign : All (Assigns def row vars) sets
  assign = λ k d l. assigns (get_or sets k d) (AllPass-from_list_all (fits_set (letters_of def) h.variables) sets h.fits k d l)
