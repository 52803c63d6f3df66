-- Lists of columns as they are kept.
use Rattle.std.specs.Prelude.{List, map}
use Rattle.psm_scope.specs.Scopes.{Spelling}
use Rattle.psm_scope.specs.declared.key.NameKey.{NameKey}
use Rattle.psm_check_stmt.specs.declared.key_lists.ListKey.{ListKey}

abbrev pub spelled : List NameKey → List Spelling
spelled ns = map (λ n. n.name.now) ns

abbrev pub listed : ListKey → List Spelling
listed l = spelled l.names.items
