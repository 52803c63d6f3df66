-- The bytes of a file are at most one thing, and two files end in one session at most.
use Rattle.std.proofs.Common.{◌≡◌, ◌⊎◌, ℕ, List, Option, Some, None, sym, ap, ◌∙◌, subst, inl, inr}
use Rattle.psm_tree.proofs.FileFits.{file_fit, script_fit}
use Rattle.psm_tree.specs.declared.file.FileTree.{FileTree}
use Rattle.psm_tree.specs.declared.script.ScriptTree.{ScriptTree}
use Rattle.psm_rules.specs.FileFaults.{file_fault}
use Rattle.psm_rules.specs.declared.fault.Fault.{Fault as RuleFault}
use Rattle.psm_resolve.specs.Files.{resolved_file}
use Rattle.psm_meaning.specs.Fuel as fuel_of_files
use Rattle.psm_meaning.specs.Session.{Session}
use Rattle.psm_check_script.specs.Checked.{script_of}
use Rattle.psm_check_script.specs.Known.{Known}
use Rattle.psm_check_script.specs.ScriptFaults.{script_fault}
use Rattle.psm_script_code.specs.FileKnown.{known_of_file}
use Rattle.psm_faults.specs.Reported.{reported_of_rule}
use Rattle.psm_faults.specs.Source.{module_files, scripts, IsTreeOf, IsFaultAt, IsRuleFault, IsAccepted, IsAcceptedScript, IsScriptRuleFault}
use Rattle.psm_faults.specs.declared.fault.Fault.{Fault}
use Rattle.psm_faults.specs.declared.fault.BuildFault.{BuildFault}
use Rattle.psm_faults.specs.declared.fault.BuildFault.TheVariants.{Refused}
use Rattle.psm_build.specs.Program.{IsModuleFile, IsModuleFault, IsScriptFile, IsScriptFault, EndsIn, known_over}
use Rattle.psm_build.specs.Once.{Exclusive}
use Rattle.psm_build.proofs.Sources.{tree_once, tree_excludes, fault_once}

-- ---- first faults

some_none : (f : RuleFault) → ◌≡◌ {A = Option RuleFault} None (Some f) → ⊥
some_none f e = cc

fault_or : RuleFault → Option RuleFault → RuleFault
fault_or f None = f
fault_or f (Some g) = g

same_fault : (f g : RuleFault) → Some f ≡ Some g → f ≡ g
unfolding fault_or
same_fault f g e = ap (fault_or f) e

-- ---- module files

-- an accepted tree breaks no rule
rule_excludes : (bytes : List ℕ) (tree : FileTree) (reported : BuildFault) → IsTreeOf module_files bytes tree → IsAccepted tree → IsRuleFault bytes reported → ⊥
rule_excludes bytes tree reported is accepted h =
    some_none h.breaks.fault (sym (subst IsAccepted (tree_once file_fit bytes tree h.tree is h.tree_is) accepted) ∙ h.breaks.first)

-- two broken rules are one
rule_once : (bytes : List ℕ) (a b : BuildFault) → IsRuleFault bytes a → IsRuleFault bytes b → a ≡ b
rule_once bytes a b h k =
    let trees : h.tree ≡ k.tree = tree_once file_fit bytes h.tree k.tree h.tree_is k.tree_is in
    let faults : h.breaks.fault ≡ k.breaks.fault = same_fault h.breaks.fault k.breaks.fault (sym h.breaks.first ∙ ap file_fault trees ∙ k.breaks.first) in
    sym h.breaks.reported_is ∙ ap reported_of_rule faults ∙ k.breaks.reported_is

module_fault_once : (bytes : List ℕ) (l c l' c' : ℕ) (f f' : Fault) → IsModuleFault bytes l c f → IsModuleFault bytes l' c' f' → Refused l c f ≡ Refused l' c' f'
module_fault_once bytes l c l' c' f f' (inl h) (inl k) = fault_once file_fit bytes l c l' c' f f' h k
module_fault_once bytes l c l' c' f f' (inl h) (inr k) = absurd (tree_excludes file_fit bytes l c f k.tree k.tree_is h)
module_fault_once bytes l c l' c' f f' (inr h) (inl k) = absurd (tree_excludes file_fit bytes l' c' f' h.tree h.tree_is k)
module_fault_once bytes l c l' c' f f' (inr h) (inr k) = rule_once bytes (Refused l c f) (Refused l' c' f') h k

-- a file with an accepted tree has no fault
accepted_excludes : (bytes : List ℕ) (tree : FileTree) (l c : ℕ) (f : Fault) → IsTreeOf module_files bytes tree → IsAccepted tree → IsModuleFault bytes l c f → ⊥
accepted_excludes bytes tree l c f is accepted (inl h) = tree_excludes file_fit bytes l c f tree is h
accepted_excludes bytes tree l c f is accepted (inr h) = rule_excludes bytes tree (Refused l c f) is accepted h

pub module_exclusive : (bytes : List ℕ) → Exclusive (IsModuleFile bytes) (IsModuleFault bytes)
module_exclusive bytes = record {
  file_or_fault = λ l c f p h. accepted_excludes bytes p.tree l c f p.tree_is p.accepted h;
  one_fault = λ l c l' c' f f' p q. module_fault_once bytes l c l' c' f f' p q;
}

-- ---- scripts over a module file

module_once : (bytes : List ℕ) (p q : IsModuleFile bytes) → p.tree ≡ q.tree
module_once bytes p q = tree_once file_fit bytes p.tree q.tree p.tree_is q.tree_is

-- a script may name the same over it, however it is known to be one
pub known_once : (bytes : List ℕ) (p q : IsModuleFile bytes) → known_over p ≡ known_over q
known_once bytes p q = ap (λ (t : FileTree). known_of_file (resolved_file t)) (module_once bytes p q)

script_rule_excludes : (known : Known) (bytes : List ℕ) (tree : ScriptTree) (reported : BuildFault) → IsTreeOf scripts bytes tree → IsAcceptedScript known tree → IsScriptRuleFault known bytes reported → ⊥
script_rule_excludes known bytes tree reported is accepted h =
    some_none h.breaks.fault (sym (subst (IsAcceptedScript known) (tree_once script_fit bytes tree h.tree is h.tree_is) accepted) ∙ h.breaks.first)

script_rule_once : (known : Known) (bytes : List ℕ) (a b : BuildFault) → IsScriptRuleFault known bytes a → IsScriptRuleFault known bytes b → a ≡ b
script_rule_once known bytes a b h k =
    let trees : h.tree ≡ k.tree = tree_once script_fit bytes h.tree k.tree h.tree_is k.tree_is in
    let faults : h.breaks.fault ≡ k.breaks.fault = same_fault h.breaks.fault k.breaks.fault (sym h.breaks.first ∙ ap (script_fault known) trees ∙ k.breaks.first) in
    sym h.breaks.reported_is ∙ ap reported_of_rule faults ∙ k.breaks.reported_is

-- a fault of a script over what it may name
abbrev pub IsFaultOver : Known → List ℕ → ℕ → ℕ → Fault → Type 0
IsFaultOver known bytes l c f = IsFaultAt scripts bytes l c f ⊎ IsScriptRuleFault known bytes (Refused l c f)

pub script_fault_once : (known : Known) (bytes : List ℕ) (l c l' c' : ℕ) (f f' : Fault) → IsFaultOver known bytes l c f → IsFaultOver known bytes l' c' f' → Refused l c f ≡ Refused l' c' f'
script_fault_once known bytes l c l' c' f f' (inl h) (inl k) = fault_once script_fit bytes l c l' c' f f' h k
script_fault_once known bytes l c l' c' f f' (inl h) (inr k) = absurd (tree_excludes script_fit bytes l c f k.tree k.tree_is h)
script_fault_once known bytes l c l' c' f f' (inr h) (inl k) = absurd (tree_excludes script_fit bytes l' c' f' h.tree h.tree_is k)
script_fault_once known bytes l c l' c' f f' (inr h) (inr k) = script_rule_once known bytes (Refused l c f) (Refused l' c' f') h k

pub script_excludes : (known : Known) (bytes : List ℕ) (tree : ScriptTree) (l c : ℕ) (f : Fault) → IsTreeOf scripts bytes tree → IsAcceptedScript known tree → IsFaultOver known bytes l c f → ⊥
script_excludes known bytes tree l c f is accepted (inl h) = tree_excludes script_fit bytes l c f tree is h
script_excludes known bytes tree l c f is accepted (inr h) = script_rule_excludes known bytes tree (Refused l c f) is accepted h

-- the fault over the same module file, known in another way
fault_moved : (ms ss : List ℕ) (p : IsModuleFile ms) (l c : ℕ) (f : Fault) → (h : IsScriptFault ms ss l c f) → IsFaultOver (known_over p) ss l c f
fault_moved ms ss p l c f h = subst (λ (k : Known). IsFaultOver k ss l c f) (known_once ms h.over p) h.fault_is

pub script_exclusive : (ms ss : List ℕ) → Exclusive (IsScriptFile ms ss) (IsScriptFault ms ss)
script_exclusive ms ss = record {
  file_or_fault = λ l c f p h. script_excludes (known_over p.over) ss p.tree l c f p.tree_is p.accepted (fault_moved ms ss p.over l c f h);
  one_fault = λ l c l' c' f f' p q. script_fault_once (known_over p.over) ss l c l' c' f f' p.fault_is (fault_moved ms ss p.over l' c' f' q);
}

-- ---- both

-- the session of two trees
abbrev session_of_trees : FileTree → ScriptTree → ℕ → Session
session_of_trees file script turns = fuel_of_files.session (resolved_file file) (script_of (known_of_file (resolved_file file)) script) turns

pub ends_in_once : (ms ss : List ℕ) (turns : ℕ) (a b : Session) → EndsIn ms ss turns a → EndsIn ms ss turns b → a ≡ b
ends_in_once ms ss turns a b x y =
    let files : x.script.over.tree ≡ y.script.over.tree = module_once ms x.script.over y.script.over in
    let trees : x.script.tree ≡ y.script.tree = tree_once script_fit ss x.script.tree y.script.tree x.script.tree_is y.script.tree_is in
    x.session_is ∙ ap (λ (t : FileTree). session_of_trees t x.script.tree turns) files ∙ ap (λ (t : ScriptTree). session_of_trees y.script.over.tree t turns) trees ∙ sym y.session_is
