-- The tables with which a session over code begins: one without rows for each of the code, which are those of the module file.
use Rattle.std.proofs.Common.{◌≡◌, ℕ, zero, suc, true, ◌&&◌, List, [], ◌∷◌, map, refl, sym, ap, ◌∙◌, subst}
use Rattle.std.specs.List.{list_all}
use Rattle.std.specs.Prelude.{All}
use Rattle.std.proofs.lemmas.List.Elements.{All-nil}
use Rattle.psm_table.specs.declared.definition.ForeignKey.{ForeignKey}
use Rattle.psm_table.specs.declared.definition.TableDef.{TableDef}
use Rattle.psm_table.specs.Definition.{IsDefinition, IsRow}
use Rattle.psm_table.specs.Keyed.{are_keyed, is_referred, rows_at, rows_in}
use Rattle.psm_table.specs.Table.{Contents, empty_table}
use Rattle.psm_resolved.specs.declared.file.ResolvedFile.{ResolvedFile}
use Rattle.psm_resolved.specs.declared.file.ResolvedTable.{ResolvedTable}
use Rattle.psm_meaning.specs.Session as meaning
use Rattle.psm_code.specs.declared.code.CodeTable.{CodeTable}
use Rattle.psm_code.specs.declared.code.RawCode.{RawCode}
use Rattle.psm_code.specs.MachineInvariant.{AreKept, AreLawful}
use Rattle.psm_exprgen.specs.Queries.{TablesMade}
use Rattle.psm_codegen.specs.Files.{FileWritten}
use Rattle.psm_wellformed.proofs.Definitions.{file-definitions}
use Rattle.psm_wellformed.specs.Files.{WellFormedFile}
use Rattle.psm_build.specs.Outcome.{definitions, empty_tables}

-- no row breaks a rule
tables_kept : (ts : List CodeTable) → AreKept ts (map empty_table (map (λ t. t.definition) ts))
tables_kept [] = tt
tables_kept (t ∷ ts) = (record { same = refl; rows = All-nil (IsRow t.definition); legal = record { stored = refl; pass = refl; rules = refl } }, tables_kept ts)

-- no row refers to one that isn't there
empty_at : (ts : List CodeTable) (n : ℕ) → rows_at (rows_in (map empty_table (map (λ t. t.definition) ts))) n ≡ []
empty_at [] n = refl
empty_at (t ∷ ts) zero = refl
empty_at (t ∷ ts) (suc n) = empty_at ts n

empty_keyed : (keys : List ForeignKey) (ts : List CodeTable) → are_keyed keys (rows_in (map empty_table (map (λ t. t.definition) ts))) ≡ true
empty_keyed [] ts = refl
empty_keyed (key ∷ keys) ts =
    let tables = rows_in (map empty_table (map (λ t. t.definition) ts)) in
    ap (λ b. b && are_keyed keys tables) (ap (list_all (is_referred key.columns key.target (rows_at tables key.to))) (empty_at ts key.from)) ∙ empty_keyed keys ts

pub empty_tables_kept : (code : RawCode) → AreLawful code (empty_tables code)
empty_tables_kept code = record { kept = tables_kept code.tables; keyed = empty_keyed code.keys code.tables }

-- ---- those of the file

same_definitions : (ts : List ResolvedTable) (us : List CodeTable) → TablesMade ts us → map (λ u. u.definition) us ≡ map (λ t. t.definition) ts
same_definitions [] [] h = refl
same_definitions [] (u ∷ us) h = absurd h
same_definitions (t ∷ ts) [] h = absurd h
same_definitions (t ∷ ts) (u ∷ us) h = ap (λ (d : TableDef). d ∷ map (λ u. u.definition) us) h.0.definition ∙ ap (λ (ds : List TableDef). t.definition ∷ ds) (same_definitions ts us h.1)

pub written_definitions : (file : ResolvedFile) (code : RawCode) → FileWritten file code → definitions code ≡ map (λ t. t.definition) file.tables
written_definitions file code h = same_definitions file.tables code.tables h.tables

pub code_definitions : (file : ResolvedFile) (code : RawCode) → FileWritten file code → WellFormedFile file → All IsDefinition (definitions code)
code_definitions file code written well_formed = subst (All IsDefinition) (sym (written_definitions file code written)) (file-definitions file well_formed)

empty_each : (ts : List ResolvedTable) → map empty_table (map (λ t. t.definition) ts) ≡ map (λ t. empty_table t.definition) ts
empty_each [] = refl
empty_each (t ∷ ts) = ap (λ (cs : List Contents). empty_table t.definition ∷ cs) (empty_each ts)

pub same_empty_tables : (file : ResolvedFile) (code : RawCode) → FileWritten file code → empty_tables code ≡ meaning.empty_tables file
same_empty_tables file code written = ap (map empty_table) (written_definitions file code written) ∙ empty_each file.tables
