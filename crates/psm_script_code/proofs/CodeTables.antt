-- The tables of well-formed code, without their CHECKs, are the well-formed tables of a file, and their definitions are definitions of
-- tables.
use Rattle.std.proofs.Common.{◌≡◌, ℕ, Bool, true, false, ◌&&◌, ◌||◌, not, List, [], ◌∷◌, ◌++◌, length, map, Option, None, refl, sym, ◌∙◌}
use Rattle.std.specs.List.{flat_map, list_all}
use Rattle.std.specs.Prelude.{All}
use Rattle.std.proofs.lemmas.List.Elements.{All-cons, All-nil}
use Rattle.std.proofs.lemmas.List.Folds.{list_all-append}
use Rattle.psm_exprcode.specs.declared.op.Letter.TheVariants.{B}
use Rattle.psm_exprcode.specs.Kinds.{is_letter}
use Rattle.psm_table.specs.Definition.{IsDefinition}
use Rattle.psm_table.specs.declared.definition.ForeignKey.{ForeignKey}
use Rattle.psm_code.proofs.Faults.{Clean, clean_first, clean_head, clean_of, clean_second, clean_tail}
use Rattle.psm_code.specs.declared.code.CodeTable.{CodeTable}
use Rattle.psm_code.specs.declared.code.RawCode.{RawCode}
use Rattle.psm_code.specs.declared.rule.CodeRule.{CodeRule}
use Rattle.psm_code.specs.declared.rule.CodeRule.TheVariants.{Definition}
use Rattle.psm_code.specs.Instructions.{column_letters}
use Rattle.psm_code.specs.RoutineRules.{code_faults, first_fault, routine_faults}
use Rattle.psm_code.specs.Rules.{each_after, is_same, unless}
use Rattle.psm_code.specs.TableRules.{are_in_turn, column_fault, expr_faults, foreign_key_fault, key_fault, keys_from, name_fault, table_faults, unique_fault}
use Rattle.psm_resolved.specs.declared.file.ResolvedFile.{ResolvedFile}
use Rattle.psm_resolved.specs.declared.file.ResolvedTable.{ResolvedTable}
use Rattle.psm_tree.specs.declared.script.ScriptTree.{ScriptTree}
use Rattle.psm_typing.specs.TypingContext.{Each}
use Rattle.psm_wellformed.proofs.Definitions.{definition-of}
use Rattle.psm_wellformed.specs.Files.{NoFault, WellFormedTable, are_new_names, is_name_among}
use Rattle.psm_checker_sound.specs.ScriptsStand.{ScriptStands}
use Rattle.psm_check_script.specs.Checked.{script_of}
use Rattle.psm_check_script.specs.Known.{known_of}
use Rattle.psm_check_script.specs.ScriptFaults.{script_fault}
use Rattle.psm_session.specs.declared.command.ScriptCommand.{ScriptCommand}
use Rattle.psm_session.specs.Ends.{FitsCommand}
use Rattle.psm_script_code.specs.Made.{CommandsMade}
use Rattle.psm_script_code.specs.WellFormed.{AsksTables}
use Rattle.psm_script_code.proofs.Fits.{accepted_ask, accepted_fit}
use Rattle.psm_script_code.proofs.Heads.{SameTables}
use Rattle.psm_script_code.proofs.Tables.{WellFormedTables}

-- ---- the file

abbrev definition_alone : CodeTable → ResolvedTable
definition_alone u = record { definition = u.definition; checks = [] }

abbrev definitions_alone : RawCode → ResolvedFile
definitions_alone code = record { tables = map definition_alone code.tables; keys = code.keys; routines = [] }

same_definitions : (us : List CodeTable) → SameTables (map definition_alone us) us
same_definitions [] = tt
same_definitions (u ∷ us) = (refl, same_definitions us)

-- ---- a table without a fault

each_clean : (rs : List (Option CodeRule)) → Clean rs → Each NoFault rs
each_clean [] h = tt
each_clean (r ∷ rs) h = (clean_head r rs h, each_clean rs (clean_tail r rs h))

each_mapped : {A : Type 0} (f : A → Option CodeRule) (xs : List A) → Clean (map f xs) → Each (λ x. NoFault (f x)) xs
each_mapped f [] h = tt
each_mapped f (x ∷ xs) h = (clean_head (f x) (map f xs) h, each_mapped f xs (clean_tail (f x) (map f xs) h))

well_formed_table : (some : List ForeignKey) (before : List CodeTable) (u : CodeTable) → Clean (table_faults some before u) → WellFormedTable (definition_alone u)
well_formed_table some before u h =
    let columns = name_fault before u ∷ each_after column_fault [] u.definition.columns in
    let keys = key_fault u.definition ∷ map (unique_fault u.definition) u.definition.unique in
    let foreign = map (foreign_key_fault before u) (keys_from some (length before)) in
    let unchecked = clean_first ((columns ++ keys) ++ foreign) (flat_map (expr_faults (column_letters u) [] (is_letter B)) u.checks) h in
    let definition = clean_first (columns ++ keys) foreign unchecked in
    let keyed = clean_second columns keys definition in
    record {
      columns = each_clean (each_after column_fault [] u.definition.columns) (clean_tail (name_fault before u) (each_after column_fault [] u.definition.columns) (clean_first columns keys definition));
      key = clean_head (key_fault u.definition) (map (unique_fault u.definition) u.definition.unique) keyed;
      unique = each_mapped (unique_fault u.definition) u.definition.unique (clean_tail (key_fault u.definition) (map (unique_fault u.definition) u.definition.unique) keyed);
      checks = refl;
    }

-- ---- no two of one name

is_kept : (b : Bool) (q : CodeRule) → unless b q ≡ None → b ≡ true
is_kept true q e = refl
is_kept false q e = absurd cc

-- the names are those of the tables before
abbrev Names : List (List ℕ) → List CodeTable → Type 0
Names names before = (n : List ℕ) → not (is_name_among n names) ≡ list_all (λ u. not (is_same u.definition.name n)) before

more_names : (names : List (List ℕ)) (before : List CodeTable) (u : CodeTable) → Names names before → Names (u.definition.name ∷ names) (before ++ u ∷ [])
more_names names before u h n =
    by (is_same u.definition.name n) (is_name_among n names) (list_all (λ u. not (is_same u.definition.name n)) before) (h n)
    ∙ sym (list_all-append (λ u. not (is_same u.definition.name n)) before (u ∷ []))
  where
    by : (a b c : Bool) → not b ≡ c → not (a || b) ≡ (c && (not a && true))
    by true b true e = refl
    by true b false e = refl
    by false true true e = absurd cc
    by false true false e = refl
    by false false true e = refl
    by false false false e = absurd cc

two_true : (a b : Bool) → a ≡ true → b ≡ true → (a && b) ≡ true
two_true true b e f = f
two_true false b e f = absurd cc

new_names : (some : List ForeignKey) (names : List (List ℕ)) (before us : List CodeTable) → Names names before → Clean (each_after (table_faults some) before us) → are_new_names names (map (λ t. t.definition.name) (map definition_alone us)) ≡ true
new_names some names before [] h clean = refl
new_names some names before (u ∷ us) h clean =
    let n = u.definition.name in
    let first = clean_first (table_faults some before u) (each_after (table_faults some) (before ++ u ∷ []) us) clean in
    let others = clean_second (table_faults some before u) (each_after (table_faults some) (before ++ u ∷ []) us) clean in
    let apart = is_kept (list_all (λ x. not (is_same x.definition.name n)) before) Definition (clean_head (name_fault before u) _ first) in
    two_true (not (is_name_among n names)) (are_new_names (n ∷ names) (map (λ t. t.definition.name) (map definition_alone us)))
    (h n ∙ apart) (new_names some (n ∷ names) (before ++ u ∷ []) us (more_names names before u h) others)

-- ---- code

tables_clean : (code : RawCode) → first_fault code ≡ None → Clean (each_after (table_faults code.keys) [] code.tables)
tables_clean code none =
    let tables = each_after (table_faults code.keys) [] code.tables in
    let turns = unless (are_in_turn 0 (length code.tables) code.keys) Definition in
    clean_tail turns tables (clean_first (turns ∷ tables) (each_after (routine_faults code) [] code.routines) (clean_of 1 (code_faults code) none))

each_table : (some : List ForeignKey) (before us : List CodeTable) → Clean (each_after (table_faults some) before us) → Each WellFormedTable (map definition_alone us)
each_table some before [] clean = tt
each_table some before (u ∷ us) clean = (
  well_formed_table some before u (clean_first (table_faults some before u) (each_after (table_faults some) (before ++ u ∷ []) us) clean),
  each_table some (before ++ u ∷ []) us (clean_second (table_faults some before u) (each_after (table_faults some) (before ++ u ∷ []) us) clean),
)

well_formed_tables : (code : RawCode) → first_fault code ≡ None → WellFormedTables (definitions_alone code)
well_formed_tables code none = record { names = new_names code.keys [] [] code.tables (λ n. refl) (tables_clean code none); tables = each_table code.keys [] code.tables (tables_clean code none) }

pub commands_fit_code : (code : RawCode) → first_fault code ≡ None → (s : ScriptTree) → ScriptStands s → script_fault (known_of code) s ≡ None
    → (commands : List ScriptCommand) → CommandsMade code (script_of (known_of code) s) commands → All (FitsCommand code) commands
commands_fit_code code well_formed = accepted_fit (definitions_alone code) code (same_definitions code.tables) (well_formed_tables code well_formed)

-- and the query of each SELECT is of letters
pub commands_ask_code : (code : RawCode) → first_fault code ≡ None → (s : ScriptTree) → ScriptStands s → script_fault (known_of code) s ≡ None → Each (AsksTables code) (script_of (known_of code) s)
commands_ask_code code well_formed = accepted_ask (definitions_alone code) code (same_definitions code.tables) (well_formed_tables code well_formed)

all_definitions : (us : List CodeTable) → Each WellFormedTable (map definition_alone us) → All IsDefinition (map (λ u. u.definition) us)
all_definitions [] h = All-nil IsDefinition
all_definitions (u ∷ us) h = All-cons IsDefinition u.definition (map (λ u. u.definition) us) (definition-of (definition_alone u) h.0) (all_definitions us h.1)

pub code_definitions : (code : RawCode) → first_fault code ≡ None → All IsDefinition (map (λ t. t.definition) code.tables)
code_definitions code well_formed = all_definitions code.tables (well_formed_tables code well_formed).tables
