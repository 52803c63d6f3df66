-- Tables and their columns in the code.
use Rattle.std.proofs.Common.{◌≡◌, ℕ, true, List, [], ◌∷◌, map, sym, Option, Some, None, ap, refl, ◌∙◌}
use Rattle.std.specs.Prelude.{slice_get}
use Rattle.psm_exprcode.specs.declared.op.Letter.{Letter}
use Rattle.psm_exprcode.specs.Kinds.{letter_of}
use Rattle.psm_resolved.specs.declared.file.ResolvedTable.{ResolvedTable}
use Rattle.psm_table.specs.Definition.{kinds_of}
use Rattle.psm_code.specs.declared.code.RawCode.{RawCode}
use Rattle.psm_code.specs.declared.code.RawRoutine.{RawRoutine}
use Rattle.psm_code.specs.Instructions.{columns_at, columns_of_table, with_letter}
use Rattle.psm_code.specs.Instructions as code_letters
use Rattle.psm_code.specs.PlanRules.{columns_there}
use Rattle.psm_code.specs.Rules.{is_there, there, where_there}
use Rattle.psm_code.specs.TableRules.{are_there}
use Rattle.psm_exprgen.specs.declared.known.Known.{Known}
use Rattle.psm_exprgen.specs.Written.{letter_at, letters_at}
use Rattle.psm_codegen.specs.Simples.{letters_of_columns}
use Rattle.psm_typing.specs.TypingContext.{TypingContext}
use Rattle.psm_codegen_wellformed.proofs.KnownAll.{columns-letters as known-letters}
use Rattle.psm_codegen_wellformed.proofs.Lines.{both}
use Rattle.psm_codegen_wellformed.proofs.QueriesWellFormed.{Holds, IsTable}

with-none : (o : Option Letter) (k : Letter) → with_letter o (Some []) ≡ Some (k ∷ []) → o ≡ Some k
with-none None k h = absurd (cc)
with-none (Some l) k h = let same : l ≡ k = cc in ap Some same

-- ---- a table of the file

module _ {e : TypingContext} {known : Known} {code : RawCode} {r : RawRoutine} (holds : Holds e known code r) (table : ℕ) (t : ResolvedTable) (at : slice_get e.file.tables table ≡ Some t) where
  is : IsTable code table t
  is = holds.tables table t at

  pub table-there : is_there code.tables table ≡ true
  table-there = ap there is.there

  pub column-there : (n : ℕ) → is_there t.definition.columns n ≡ true → where_there (slice_get code.tables table) (λ u. is_there u.definition.columns n) ≡ true
  column-there n h = ap (λ o. where_there o (λ u. is_there u.definition.columns n)) is.there ∙ ap (λ d. is_there d.columns n) is.same ∙ h

  pub all-columns-there : (ns : List ℕ) → are_there t.definition.columns ns ≡ true → columns_there code table ns ≡ true
  all-columns-there ns h = ap (λ o. where_there o (λ u. are_there u.definition.columns ns)) is.there ∙ ap (λ d. are_there d.columns ns) is.same ∙ h

  columns-are : columns_at code table ≡ map letter_of (kinds_of t.definition.columns)
  columns-are = ap columns_of_table is.there ∙ ap (λ d. map letter_of (kinds_of d.columns)) is.same

  -- its letters are known
  pub columns-letters : (ns : List ℕ) → are_there t.definition.columns ns ≡ true → code_letters.letters_at (columns_at code table) ns ≡ Some (letters_of_columns known table ns)
  columns-letters ns h = ap (λ ls. code_letters.letters_at ls ns) columns-are ∙ known-letters known table t.definition.columns (sym (holds.knows.columns table) ∙ columns-are) ns h

  pub column-letter : (n : ℕ) → is_there t.definition.columns n ≡ true → slice_get (columns_at code table) n ≡ Some (letter_at (letters_at known.columns table) n)
  column-letter n h = with-none (slice_get (columns_at code table) n) (letter_at (letters_at known.columns table) n) (columns-letters (n ∷ []) (both h refl))
