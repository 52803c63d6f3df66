use Rattle.std.proofs.Common.{refl}
use Rattle.psm_scope.specs.KeptScopes.{the_conditions}
use Rattle.psm_rules.proofs.Innermost.{declares_once, declares_open}
use Rattle.psm_check_stmt.proofs.declaring.declare_condition.Goals as goal

pub returns : goal.returns
returns c =
    let n = c.args.name.now in
    let old = c.args.scopes.now in
    let new = c.declare_condition.new.self in
    let r = c.declare_condition.result in
    record {
      scopes = declares_once the_conditions (λ d. refl) n (record { number = 0; state = c.args.state }) old new r c.declare_condition.ensures;
      «open» = declares_open the_conditions (λ d. refl) n (record { number = 0; state = c.args.state }) old new r c.requires c.declare_condition.ensures;
    }
