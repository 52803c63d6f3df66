use Rattle.std.proofs.Common.{refl}
use Rattle.psm_scope.specs.KeptScopes.{the_cursors}
use Rattle.psm_rules.proofs.Innermost.{declares_once, declares_open}
use Rattle.psm_check_stmt.proofs.declaring.declare_cursor.Goals as goal

pub returns : goal.returns
returns c =
    let n = c.args.name.now in
    let old = c.args.scopes.now in
    let new = c.declare_cursor.new.self in
    let r = c.declare_cursor.result in
    record {
      scopes = declares_once the_cursors (λ d. refl) n c.args.known old new r c.declare_cursor.ensures;
      «open» = declares_open the_cursors (λ d. refl) n c.args.known old new r c.requires c.declare_cursor.ensures;
    }
