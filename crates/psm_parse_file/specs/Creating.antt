-- The tables of a module file, each at the CREATE before it.
use Rattle.std.specs.Prelude.{◌≡◌, ℕ, List}
use Rattle.psm_token.specs.declared.place.Place.{Place}
use Rattle.psm_token.specs.declared.token.Placed.{Placed}
use Rattle.psm_grammar.specs.Readers.{Reader, made}
use Rattle.psm_tree.specs.FileGrammar.{created_table, created_tables}
use Rattle.psm_tree.specs.FileValues.{TableRest, tables_from, last_place}
use Rattle.psm_tree.specs.Readers.{reading, Repeating}
use Rattle.psm_tree.specs.declared.file.TableTree.{TableTree}

-- the tables after a CREATE at the place, and the place of the last CREATE
abbrev pub placed_tables : Place → List (TableRest × Place) → List TableTree × Place
placed_tables place ts = (tables_from place ts, last_place place ts)

unfoldable pub tables_reading : ℕ → Place → Reader Placed (List TableTree × Place)
tables_reading levels place = made (placed_tables place) (reading levels created_tables)

-- what the loop over the tables keeps: those that were read in n turns are these, up to this last CREATE
pub record Creating (levels : ℕ) (place : Place) (start : List Placed) (tables : List TableTree) (last : Place) (turns : ℕ) (rest : List Placed) : Type 0 where
  pub read : List (TableRest × Place)
  pub repeating : Repeating levels created_table start read turns rest
  pub tables_so : tables ≡ tables_from place read
  pub last_so : last ≡ last_place place read
