-- The bytes of a file are a file, or have a first fault.
use Rattle.std.proofs.Common.{◌≡◌, ◌≢◌, ℕ, ◌⊎◌, List, Option, Some, None, Err, refl, inl, inr}
use Rattle.psm_token.specs.declared.fault.LexFault.{LexFault}
use Rattle.psm_token.specs.declared.fault.LexFault.TheVariants as lex
use Rattle.psm_token.specs.Listed.{Tokens}
use Rattle.psm_token.specs.Spells.{Spells, IsFirstFault}
use Rattle.psm_grammar.specs.Grammar.{Spells as Derives}
use Rattle.psm_grammar.proofs.Fitting.{Fit}
use Rattle.psm_tree.specs.ExprGrammar.{Gram}
use Rattle.psm_tree.specs.Productions.{productions}
use Rattle.psm_tree.specs.Reading.{ReadsAll}
use Rattle.psm_tree.specs.declared.fault.ParseFault.{ParseFault}
use Rattle.psm_tree.specs.declared.fault.ParseFault.TheVariants as parse
use Rattle.psm_tree.specs.declared.file.FileTree.{FileTree}
use Rattle.psm_tree.specs.declared.script.ScriptTree.{ScriptTree}
use Rattle.psm_tree.proofs.ExprFits.{after}
use Rattle.psm_tree.proofs.FileFits.{file_fit, script_fit}
use Rattle.psm_total.specs.Total.{TokensOrFault, TreeOrFault}
use Rattle.psm_total.proofs.Files.{bytes_read, first_fault_known}
use Rattle.psm_total.proofs.Trees.{tree_read}
use Rattle.psm_rules.specs.FileFaults.{file_fault}
use Rattle.psm_rules.specs.declared.fault.Fault.{Fault as RuleFault}
use Rattle.psm_check_script.specs.Known.{Known}
use Rattle.psm_check_script.specs.ScriptFaults.{script_fault}
use Rattle.psm_faults.specs.Source.{module_files, scripts, IsTreeOf, IsTokenFault, IsTreeFault, IsFaultAt, IsRuleFault, IsAccepted, IsAcceptedScript, IsScriptRuleFault}
use Rattle.psm_faults.specs.declared.fault.Fault.TheVariants as faults
use Rattle.psm_faults.specs.declared.fault.BuildFault.TheVariants.{Refused}
use Rattle.psm_build.specs.Program.{IsModuleFile, IsModuleFault, IsScriptFile, IsScriptFault, known_over}
use Rattle.psm_build.specs.Once.{HasFault, Total}

-- ---- tokens and trees

-- a fault of the tokens is reported
token_fault : (bytes : List ℕ) (f : LexFault) → IsFirstFault bytes f → f ≢ lex.Memory → HasFault (λ l c x. IsTokenFault bytes (Refused l c x))
token_fault bytes (lex.BadUtf8 p) h n = (p.line, p.column, faults.BadUtf8, record { fault = lex.BadUtf8 p; first = h; reported_is = refl })
token_fault bytes (lex.BadChar p) h n = (p.line, p.column, faults.BadChar, record { fault = lex.BadChar p; first = h; reported_is = refl })
token_fault bytes (lex.OpenText p) h n = (p.line, p.column, faults.OpenText, record { fault = lex.OpenText p; first = h; reported_is = refl })
token_fault bytes (lex.OpenName p) h n = (p.line, p.column, faults.OpenName, record { fault = lex.OpenName p; first = h; reported_is = refl })
token_fault bytes (lex.LongText p) h n = (p.line, p.column, faults.LongText, record { fault = lex.LongText p; first = h; reported_is = refl })
token_fault bytes (lex.LongNumber p) h n = (p.line, p.column, faults.LongNumber, record { fault = lex.LongNumber p; first = h; reported_is = refl })
token_fault bytes (lex.LongName p) h n = (p.line, p.column, faults.LongName, record { fault = lex.LongName p; first = h; reported_is = refl })
token_fault bytes (lex.ManyTokens p) h n = (p.line, p.column, faults.ManyTokens, record { fault = lex.ManyTokens p; first = h; reported_is = refl })
token_fault bytes lex.Memory h n = absurd (n refl)

module _ {Y : Type 0} {g : Gram Y} {follow : List ℕ} (fit : Fit after follow g) (bytes : List ℕ) where
  -- a fault of the tree is reported
  tree_fault : (tokens : Tokens) (f : ParseFault) → Spells bytes tokens → f ≢ parse.Memory → ReadsAll {X = Y} (Derives productions 0 g) (λ y. y) tokens (Err f)
      → HasFault (λ l c x. IsTreeFault (Derives productions 0 g) bytes (Refused l c x))
  tree_fault tokens (parse.Syntax p) s n h = (p.line, p.column, faults.Syntax, record { tokens = tokens; spelled = s; fault = parse.Syntax p; fault_is = h; reported_is = refl })
  tree_fault tokens (parse.Deep p) s n h = (p.line, p.column, faults.Deep, record { tokens = tokens; spelled = s; fault = parse.Deep p; fault_is = h; reported_is = refl })
  tree_fault tokens parse.Memory s n h = absurd (n refl)

  -- a tree of the bytes, or their fault before one is looked at
  abbrev pub TreeOrFaultAt : Type 0
  TreeOrFaultAt = ((y : Y) × IsTreeOf (Derives productions 0 g) bytes y) ⊎ HasFault (IsFaultAt (Derives productions 0 g) bytes)

  pub tree_total : TreeOrFaultAt
  tree_total = by (bytes_read bytes)
    where
      with_tokens : (tokens : Tokens) → Spells bytes tokens → TreeOrFault (Derives productions 0 g) tokens → TreeOrFaultAt
      with_tokens tokens s (inl r) = inl (r.0, record { tokens = tokens; spelled = s; tree_is = r.1 })
      with_tokens tokens s (inr f) = let t = tree_fault tokens f.0 s f.1 f.2 in inr (t.0, t.1, t.2, inr t.3)

      by : TokensOrFault bytes → TreeOrFaultAt
      by (inl t) = with_tokens t.0 t.1 (tree_read fit t.0)
      by (inr f) = let t = token_fault bytes f.0 f.1 (first_fault_known bytes f.0 f.1) in inr (t.0, t.1, t.2, inl t.3)

-- ---- module files

-- a tree is accepted, or its first fault is reported
tree_checked : (ms : List ℕ) (tree : FileTree) → IsTreeOf module_files ms tree → IsAccepted tree ⊎ HasFault (λ l c x. IsRuleFault ms (Refused l c x))
tree_checked ms tree is = by (file_fault tree) refl
  where
    by : (o : Option RuleFault) → file_fault tree ≡ o → IsAccepted tree ⊎ HasFault (λ l c x. IsRuleFault ms (Refused l c x))
    by None e = inl e
    by (Some f) e = inr (f.place.line, f.place.column, faults.Broken f.rule, record { tree = tree; tree_is = is; breaks = record { fault = f; first = e; reported_is = refl } })

pub module_total : (ms : List ℕ) → Total (IsModuleFile ms) (IsModuleFault ms)
module_total ms = by (tree_total file_fit ms)
  where
    with_tree : (tree : FileTree) (is : IsTreeOf module_files ms tree) → IsAccepted tree ⊎ HasFault (λ l c x. IsRuleFault ms (Refused l c x)) → Total (IsModuleFile ms) (IsModuleFault ms)
    with_tree tree is (inl a) = inl (record { tree = tree; tree_is = is; accepted = a })
    with_tree tree is (inr f) = inr (f.0, f.1, f.2, inr f.3)

    by : ((tree : FileTree) × IsTreeOf module_files ms tree) ⊎ HasFault (IsFaultAt module_files ms) → Total (IsModuleFile ms) (IsModuleFault ms)
    by (inl t) = with_tree t.0 t.1 (tree_checked ms t.0 t.1)
    by (inr f) = inr (f.0, f.1, f.2, inl f.3)

-- ---- scripts over a module file

-- over what a script may name, its tree is accepted, or its first fault is reported
pub script_checked : (known : Known) (ss : List ℕ) (tree : ScriptTree) → IsTreeOf scripts ss tree → IsAcceptedScript known tree ⊎ HasFault (λ l c x. IsScriptRuleFault known ss (Refused l c x))
script_checked known ss tree is = by (script_fault known tree) refl
  where
    by : (o : Option RuleFault) → script_fault known tree ≡ o → IsAcceptedScript known tree ⊎ HasFault (λ l c x. IsScriptRuleFault known ss (Refused l c x))
    by None e = inl e
    by (Some f) e = inr (f.place.line, f.place.column, faults.Broken f.rule, record { tree = tree; tree_is = is; breaks = record { fault = f; first = e; reported_is = refl } })

pub script_total : (ms ss : List ℕ) → IsModuleFile ms → Total (IsScriptFile ms ss) (IsScriptFault ms ss)
script_total ms ss over = by (tree_total script_fit ss)
  where
    with_tree : (tree : ScriptTree) (is : IsTreeOf scripts ss tree) → IsAcceptedScript (known_over over) tree ⊎ HasFault (λ l c x. IsScriptRuleFault (known_over over) ss (Refused l c x))
        → Total (IsScriptFile ms ss) (IsScriptFault ms ss)
    with_tree tree is (inl a) = inl (record { over = over; tree = tree; tree_is = is; accepted = a })
    with_tree tree is (inr f) = inr (f.0, f.1, f.2, record { over = over; fault_is = inr f.3 })

    by : ((tree : ScriptTree) × IsTreeOf scripts ss tree) ⊎ HasFault (IsFaultAt scripts ss) → Total (IsScriptFile ms ss) (IsScriptFault ms ss)
    by (inl t) = with_tree t.0 t.1 (script_checked (known_over over) ss t.0 t.1)
    by (inr f) = inr (f.0, f.1, f.2, record { over = over; fault_is = inl f.3 })
