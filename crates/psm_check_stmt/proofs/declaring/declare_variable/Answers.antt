use Rattle.std.proofs.Common.{refl, subst}
use Rattle.psm_scope.specs.KeptScopes.{Declares, the_variables}
use Rattle.psm_scope.specs.declared.known.Variable.{Variable}
use Rattle.psm_rules.specs.BlockFaults.{local_variable}
use Rattle.psm_rules.proofs.Innermost.{declares_new, declares_once, declares_open}
use Rattle.psm_check_stmt.proofs.declaring.declare_variable.Goals as goal

pub returns : goal.returns
returns c =
    let n = c.args.name.now in
    let x = local_variable c.args.kind in
    let old = c.args.scopes.now in
    let new = c.declare_variable.new.self in
    let r = c.declare_variable.result in
    let d = subst (λ (x : Variable). Declares the_variables n x old new r) c.local_variable.ensures c.declare_variable.ensures in
    record {
      is_new = declares_new the_variables (λ d. refl) n x old new r d;
      scopes = declares_once the_variables (λ d. refl) n x old new r d;
      «open» = declares_open the_variables (λ d. refl) n x old new r c.requires d;
    }
