-- The tables of an accepted file are well-formed in code.
use Rattle.std.proofs.Common.{◌≡◌, ◌++◌, ℕ, true, not, List, [], ◌∷◌, length, map, Option, None, ap, append_assoc, refl, sym, subst, ◌∙◌}
use Rattle.std.specs.List.{flat_map, list_all}
use Rattle.psm_num.proofs.Literals.{and_first, and_second}
use Rattle.psm_exprcode.specs.declared.op.Letter.{Letter}
use Rattle.psm_exprcode.specs.declared.op.Letter.TheVariants.{B}
use Rattle.psm_exprcode.specs.declared.op.Line.{Line}
use Rattle.psm_exprcode.specs.Kinds.{is_letter, letter_of}
use Rattle.psm_resolved.specs.declared.file.ResolvedFile.{ResolvedFile}
use Rattle.psm_resolved.specs.declared.file.ResolvedTable.{ResolvedTable}
use Rattle.psm_table.specs.Definition.{kinds_of}
use Rattle.psm_table.specs.declared.definition.ForeignKey.{ForeignKey}
use Rattle.psm_table.specs.declared.definition.TableDef.{TableDef}
use Rattle.psm_code.specs.declared.code.CodeTable.{CodeTable}
use Rattle.psm_code.specs.declared.code.RawCode.{RawCode}
use Rattle.psm_code.specs.declared.rule.CodeRule.{CodeRule}
use Rattle.psm_code.specs.declared.rule.CodeRule.TheVariants.{Definition}
use Rattle.psm_code.specs.Rules.{each_after, is_same}
use Rattle.psm_code.specs.TableRules.{column_fault, expr_faults, foreign_key_fault, key_fault, keys_from, name_fault, table_faults, unique_fault}
use Rattle.psm_exprgen.specs.Queries.{ChecksFit, TableMade, TablesMade}
use Rattle.psm_codegen.specs.Files.{FileWritten}
use Rattle.psm_wellformed.specs.Files.{WellFormedFile, WellFormedTable, are_new_names, is_name_among}
use Rattle.psm_typing.specs.TypingContext.{Each}
use Rattle.psm_codegen_wellformed.proofs.Faultless.{Faultless, faultless-append, faultless-map}
use Rattle.psm_codegen_wellformed.proofs.KeysWellFormed.{FitsTables, code-keys-fit, keys-faultless}
use Rattle.psm_codegen_wellformed.proofs.Names.{Covers, covers-more}
use Rattle.psm_codegen_wellformed.proofs.RowLines.{fit-faultless, none_unless}

-- a CHECK is a condition over the columns
checks-faultless : (columns : List Letter) (cs : List (List Line)) → ChecksFit columns cs → Faultless (flat_map (expr_faults columns [] (is_letter B)) cs)
checks-faultless columns [] h = tt
checks-faultless columns (c ∷ cs) h =
    faultless-append (expr_faults columns [] (is_letter B) c) (flat_map (expr_faults columns [] (is_letter B)) cs) (fit-faultless columns [] (is_letter B) c B h.0 refl) (checks-faultless columns cs h.1)

-- what stands after the line of a table
rest-faultless : (t : ResolvedTable) (u : CodeTable) → TableMade t u → WellFormedTable t → (foreign : List (Option CodeRule)) → Faultless foreign → (d : TableDef) → d ≡ t.definition
    → Faultless (each_after column_fault [] d.columns ++ key_fault d ∷ map (unique_fault d) d.unique ++ foreign ++ flat_map (expr_faults (map letter_of (kinds_of d.columns)) [] (is_letter B)) u.checks)
rest-faultless t u m p foreign f d q =
    let letters = map letter_of (kinds_of t.definition.columns) in
    let checks = flat_map (expr_faults letters [] (is_letter B)) u.checks in
    let lists = map (unique_fault t.definition) t.definition.unique in
    let columns = each_after column_fault [] t.definition.columns in
    let keys = faultless-append columns (key_fault t.definition ∷ lists) p.columns (p.key, faultless-map (unique_fault t.definition) t.definition.unique p.unique) in
    let rest : TableDef → List (Option CodeRule) = λ d.
    each_after column_fault [] d.columns ++ key_fault d ∷ map (unique_fault d) d.unique ++ foreign ++ flat_map (expr_faults (map letter_of (kinds_of d.columns)) [] (is_letter B)) u.checks in
    let own = columns ++ key_fault t.definition ∷ lists in
    subst (λ d. Faultless (rest d)) (sym q) (faultless-append (own ++ foreign) checks (faultless-append own foreign keys f) (checks-faultless letters u.checks m.checks_fit))

tables-from : (some : List ForeignKey) (before : List CodeTable) (names : List (List ℕ)) (ts : List ResolvedTable) (us : List CodeTable) → TablesMade ts us → Each WellFormedTable ts → Each (FitsTables (before ++ us)) some
    → Covers (λ u. u.definition.name) names before → are_new_names names (map (λ t. t.definition.name) ts) ≡ true → Faultless (each_after (table_faults some) before us)
tables-from some before names [] [] m p f c n = tt
tables-from some before names [] (u ∷ us) m p f c n = absurd m
tables-from some before names (t ∷ ts) [] m p f c n = absurd m
tables-from some before names (t ∷ ts) (u ∷ us) m p f c n =
    let name = t.definition.name in
    let mine = not (is_name_among name names) in
    let others = are_new_names (name ∷ names) (map (λ x. x.definition.name) ts) in
    let same : u.definition.name ≡ name = ap (λ d. d.name) m.0.definition in
    let new : list_all (λ v. not (is_same v.definition.name u.definition.name)) before ≡ true = ap (λ k. list_all (λ v. not (is_same v.definition.name k)) before) same ∙ c name (and_first mine others n) in
    let first : name_fault before u ≡ None = none_unless (list_all (λ v. not (is_same v.definition.name u.definition.name)) before) Definition new in
    let later = subst (λ all. Each (FitsTables all) some) (sym (append_assoc before (u ∷ []) us)) f in
    let next = tables-from some (before ++ u ∷ []) (name ∷ names) ts us m.1 p.1 later (covers-more (λ v. v.definition.name) names before u name c same) (and_second mine others n) in
    let foreign = map (foreign_key_fault before u) (keys_from some (length before)) in
    let rest = rest-faultless t u m.0 p.0 foreign (keys-faultless before us u some f) u.definition m.0.definition in
    faultless-append (table_faults some before u) (each_after (table_faults some) (before ++ u ∷ []) us) (first, rest) next

pub tables-well_formed : (file : ResolvedFile) (code : RawCode) → FileWritten file code → WellFormedFile file → Each (λ f. f ≡ None) (each_after (table_faults code.keys) [] code.tables)
tables-well_formed file code made accepted = tables-from code.keys [] [] file.tables code.tables made.tables accepted.tables (code-keys-fit file code made accepted) (λ n h. refl) accepted.names
