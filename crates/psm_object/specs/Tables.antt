-- The lines of a table:
--
--     TABLE name columns uniques checks keys
--     COL name type 0|1 datum        columns times; 1 is NOT NULL, and the datum is the DEFAULT
--     KEY i {i}
--     UNI i {i}                      uniques times
--     REF i {i} TO table j {j}       keys times
--     EXPR m                         checks times, each with its lines
--
-- A line REF has a FOREIGN KEY constraint: its columns, and the table and the columns to which they refer.
--
-- `CREATE TABLE t (a INTEGER PRIMARY KEY, b VARCHAR(9) DEFAULT 'it''s')` is
--
--     TABLE 'T' 2 0 0 0
--     COL 'A' INTEGER 1 NULL
--     COL 'B' VARCHAR(9) 0 'it\{27}s'
--     KEY 0
use Rattle.std.specs.Prelude.{ℕ, suc, List, [], ◌∷◌, ◌++◌, codes, length, map}
use Rattle.std.specs.List.{flat_map}
use Rattle.psm_table.specs.declared.definition.Column.{Column}
use Rattle.psm_table.specs.declared.definition.ForeignKey.{ForeignKey}
use Rattle.psm_code.specs.declared.code.CodeTable.{CodeTable}
use Rattle.psm_code.specs.TableRules.{keys_from}
use Rattle.psm_words.specs.Words.{datum_word, number, quoted, type_word}
use Rattle.psm_object.specs.Expressions.{expression_lines}
use Rattle.psm_object.specs.Words.{count, flag, numbers, spaced}

-- of a table with n FOREIGN KEY constraints
abbrev pub table_line : ℕ → CodeTable → List ℕ
table_line keys t = spaced (codes "TABLE" ∷ quoted t.definition.name ∷ count t.definition.columns ∷ count t.definition.unique ∷ count t.checks ∷ number keys ∷ [])

abbrev pub column_line : Column → List ℕ
column_line c = spaced (codes "COL" ∷ quoted c.name ∷ type_word c.kind ∷ flag c.not_null ∷ datum_word c.default ∷ [])

abbrev pub key_line : List ℕ → List ℕ
key_line columns = spaced (codes "KEY" ∷ numbers columns)

abbrev pub unique_line : List ℕ → List ℕ
unique_line columns = spaced (codes "UNI" ∷ numbers columns)

-- to which table and columns a FOREIGN KEY constraint refers
abbrev pub referred_words : ForeignKey → List (List ℕ)
referred_words key = codes "TO" ∷ number key.to ∷ numbers key.target

abbrev pub reference_line : ForeignKey → List ℕ
reference_line key = spaced (codes "REF" ∷ (numbers key.columns ++ referred_words key))

-- the lines of a table with its constraints
abbrev pub table_lines : List ForeignKey → CodeTable → List (List ℕ)
table_lines own t =
    table_line (length own) t
    ∷ map column_line t.definition.columns
    ++ key_line t.definition.key
    ∷ map unique_line t.definition.unique
    ++ map reference_line own
    ++ flat_map expression_lines t.checks

-- those of tables, of which the first has that number
abbrev pub tables_lines : List ForeignKey → ℕ → List CodeTable → List (List ℕ)
tables_lines keys n [] = []
tables_lines keys n (t ∷ ts) = table_lines (keys_from keys n) t ++ tables_lines keys (suc n) ts
