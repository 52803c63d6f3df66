-- The FOREIGN KEY constraints of an accepted file are well-formed in code.
use Rattle.std.proofs.Common.{arith, ◌≡◌, ◌≤◌, ℕ, zero, suc, Bool, true, false, nat_eq, if◌then◌else◌, List, [], ◌∷◌, ◌++◌, length, map, slice_get, Some, None, ap, eqb-true, refl, sym, subst, ◌∙◌}
use Rattle.std.proofs.lemmas.Option.{same_Some}
use Rattle.psm_resolved.specs.declared.file.ResolvedFile.{ResolvedFile}
use Rattle.psm_resolved.specs.declared.file.ResolvedTable.{ResolvedTable}
use Rattle.psm_table.specs.declared.definition.ForeignKey.{ForeignKey}
use Rattle.psm_code.specs.declared.code.CodeTable.{CodeTable}
use Rattle.psm_code.specs.declared.code.RawCode.{RawCode}
use Rattle.psm_code.specs.declared.rule.CodeRule.TheVariants.{Definition}
use Rattle.psm_code.specs.Rules.{unless}
use Rattle.psm_code.specs.TableRules.{are_in_turn, foreign_key_fault, foreign_key_to, keys_from, pair_fault}
use Rattle.psm_exprgen.specs.Queries.{TablesMade}
use Rattle.psm_codegen.specs.Files.{FileWritten}
use Rattle.psm_wellformed.specs.Files.{WellFormedFile, WellFormedKey}
use Rattle.psm_typing.specs.TypingContext.{Each}
use Rattle.psm_codegen_wellformed.proofs.Faultless.{Faultless}
use Rattle.psm_codegen_wellformed.proofs.RowLines.{none_unless}

-- ---- in the tables of the code

-- a constraint fits tables of code, as it does those of a file
pub record FitsTables (us : List CodeTable) (key : ForeignKey) : Type 0 where
  pub from : CodeTable
  pub to : CodeTable
  pub from_there : slice_get us key.from ≡ Some from
  pub to_there : slice_get us key.to ≡ Some to
  pub before : key.to ≤ key.from
  pub fits : pair_fault from.definition key to.definition ≡ None

made-at : (ts : List ResolvedTable) (us : List CodeTable) (n : ℕ) (t : ResolvedTable) → TablesMade ts us → slice_get ts n ≡ Some t → (u : CodeTable) × (slice_get us n ≡ Some u) × (u.definition ≡ t.definition)
made-at [] [] n t m e = absurd (cc)
made-at [] (u ∷ us) n t m e = absurd m
made-at (x ∷ ts) [] n t m e = absurd m
made-at (x ∷ ts) (u ∷ us) zero t m e = (u, refl, m.0.definition ∙ ap (λ y. y.definition) (same_Some x t e))
made-at (x ∷ ts) (u ∷ us) (suc n) t m e = made-at ts us n t m.1 e

key-fits : (ts : List ResolvedTable) (us : List CodeTable) → TablesMade ts us → (key : ForeignKey) → WellFormedKey ts key → FitsTables us key
key-fits ts us m key k =
    let from = made-at ts us key.from k.from m k.from_there in
    let to = made-at ts us key.to k.to m k.to_there in
    record {
      from = from.0;
      to = to.0;
      from_there = from.1;
      to_there = to.1;
      before = k.before;
      fits = ap (λ d. pair_fault d key to.0.definition) from.2 ∙ ap (λ d. pair_fault k.from.definition key d) to.2 ∙ k.fits;
    }

keys-fit : (ts : List ResolvedTable) (us : List CodeTable) → TablesMade ts us → (keys : List ForeignKey) → Each (WellFormedKey ts) keys → Each (FitsTables us) keys
keys-fit ts us m [] h = tt
keys-fit ts us m (key ∷ keys) h = (key-fits ts us m key h.0, keys-fit ts us m keys h.1)

pub code-keys-fit : (file : ResolvedFile) (code : RawCode) → FileWritten file code → WellFormedFile file → Each (FitsTables code.tables) code.keys
code-keys-fit file code made accepted = subst (Each (FitsTables code.tables)) (sym made.keys) (keys-fit file.tables code.tables made.tables file.keys accepted.keys)

-- ---- those of a table, after its UNIQUE lists

table-here : (before us : List CodeTable) (u : CodeTable) → slice_get (before ++ u ∷ us) (length before) ≡ Some u
table-here [] us u = refl
table-here (b ∷ before) us u = table-here before us u

-- the tables up to one of them are the same whatever follows
same-up_to : (before us : List CodeTable) (u : CodeTable) (n : ℕ) → n ≤ length before → slice_get (before ++ u ∷ us) n ≡ slice_get (before ++ u ∷ []) n
same-up_to [] us u zero h = refl
same-up_to [] us u (suc n) h = absurd (omega (arith, h))
same-up_to (b ∷ before) us u zero h = refl
same-up_to (b ∷ before) us u (suc n) h = same-up_to before us u n (omega (arith, h))

key-faultless : (before us : List CodeTable) (u : CodeTable) (key : ForeignKey) → FitsTables (before ++ u ∷ us) key → key.from ≡ length before → foreign_key_fault before u key ≡ None
key-faultless before us u key f e =
    let same : f.from ≡ u = same_Some f.from u (sym f.from_there ∙ ap (slice_get (before ++ u ∷ us)) e ∙ table-here before us u) in
    let there : slice_get (before ++ u ∷ []) key.to ≡ Some f.to = sym (same-up_to before us u key.to (subst (λ n. key.to ≤ n) e f.before)) ∙ f.to_there in
    ap (foreign_key_to u.definition key) there ∙ ap (λ x. pair_fault x.definition key f.to.definition) (sym same) ∙ f.fits

pub keys-faultless : (before us : List CodeTable) (u : CodeTable) (keys : List ForeignKey) → Each (FitsTables (before ++ u ∷ us)) keys → Faultless (map (foreign_key_fault before u) (keys_from keys (length before)))
keys-faultless before us u [] h = tt
keys-faultless before us u (key ∷ keys) h = by (nat_eq key.from (length before)) refl (keys-faultless before us u keys h.1)
  where
    by : (b : Bool) → nat_eq key.from (length before) ≡ b → Faultless (map (foreign_key_fault before u) (keys_from keys (length before)))
        → Faultless (map (foreign_key_fault before u) (if b then key ∷ keys_from keys (length before) else keys_from keys (length before)))
    by true e others = (key-faultless before us u key h.0 (eqb-true key.from (length before) e), others)
    by false e others = others

-- ---- in turn

as-many : (ts : List ResolvedTable) (us : List CodeTable) → TablesMade ts us → length us ≡ length ts
as-many [] [] m = refl
as-many [] (u ∷ us) m = absurd m
as-many (t ∷ ts) [] m = absurd m
as-many (t ∷ ts) (u ∷ us) m = ap suc (as-many ts us m.1)

pub keys-in_turn : (file : ResolvedFile) (code : RawCode) → FileWritten file code → WellFormedFile file → unless (are_in_turn 0 (length code.tables) code.keys) Definition ≡ None
keys-in_turn file code made accepted =
    none_unless (are_in_turn 0 (length code.tables) code.keys) Definition
    (ap (λ n. are_in_turn 0 n code.keys) (as-many file.tables code.tables made.tables) ∙ ap (are_in_turn 0 (length file.tables)) made.keys ∙ accepted.turns)
