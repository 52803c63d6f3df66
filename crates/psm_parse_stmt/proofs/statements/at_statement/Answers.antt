use Rattle.std.proofs.Common.{sym, ◌∙◌}
use Rattle.psm_token.specs.Kinds.{kind, kinds_of}
use Rattle.psm_tree.specs.FirstWords.{statement_words}
use Rattle.psm_tree.specs.Tests.{name_kinds}
use Rattle.psm_parse_stmt.proofs.Fronts.{starts_after}
use Rattle.psm_parse_stmt.proofs.statements.at_statement.Goals as goal

pub returns-else-at_name : goal.returns-else-at_name
returns-else-at_name c =
    c.at_one_of.ensures ∙ sym (starts_after kind name_kinds (kinds_of statement_words) c.args.tokens.now.rest.now (sym c.at_name.ensures ∙ c.if-at_name.false))
