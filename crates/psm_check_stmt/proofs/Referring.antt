-- Tables one by one, each with those that it can refer to.
use Rattle.std.proofs.Common.{◌≡◌, ◌<◌, ◌+◌, ℕ, length, drop, get_or, List, sym, ap, ◌∙◌}
use Rattle.std.specs.Prelude.{Option}
use Rattle.psm_tree.specs.declared.file.TableTree.{TableTree}
use Rattle.psm_rules.specs.declared.fault.Fault.{Fault}
use Rattle.psm_rules.specs.Faults.{earlier, first_from}
use Rattle.psm_rules.specs.FileFaults.{Referable, references_fault, references_faults, with_referred}
use Rattle.psm_check_stmt.proofs.WalkSteps.{drop_next}

pub table-next : (ts : List TableTree) (i : ℕ) (t : TableTree) (known more : Referable) (fault own next all : Option Fault) → i < length ts → t ≡ get_or ts i t → more ≡ with_referred known t → own ≡ references_fault more t
    → next ≡ earlier fault own → first_from fault (references_faults known (drop i ts)) ≡ all → first_from next (references_faults more (drop (i + 1) ts)) ≡ all
table-next ts i t known more fault own next all lt is k o n h =
    let rest : List TableTree = drop (i + 1) ts in
    ap (λ f. first_from f (references_faults more rest)) (n ∙ ap (earlier fault) o)
    ∙ ap (λ w. first_from (earlier fault (references_fault w t)) (references_faults w rest)) k
    ∙ ap (λ ys. first_from fault (references_faults known ys)) (sym (drop_next ts i t lt is))
    ∙ h
