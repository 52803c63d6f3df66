-- Clauses of productions, each of which a function of its own reads.
use Rattle.std.specs.Prelude.{List}
use Rattle.psm_token.specs.declared.word.Word.TheVariants as w
use Rattle.psm_grammar.specs.Grammar.{seq, token}
use Rattle.psm_grammar.specs.Forms.{after_token}
use Rattle.psm_tree.specs.Tests.{word}
use Rattle.psm_tree.specs.ExprGrammar.{Gram, names_in_parens}
use Rattle.psm_tree.specs.ExprValues.{pair}
use Rattle.psm_tree.specs.FileGrammar.{references, returned}
use Rattle.psm_tree.specs.FileValues.{foreign_key}
use Rattle.psm_tree.specs.declared.types.DataType.{DataType}
use Rattle.psm_tree.specs.declared.statement.Statement.{Statement}
use Rattle.psm_tree.specs.declared.file.TableRule.{TableRule}
use Rattle.psm_tree.specs.declared.file.Characteristic.{Characteristic}

-- FOREIGN KEY names references
abbrev pub foreign_key_rule : Gram TableRule
foreign_key_rule = seq foreign_key (token (word w.Foreign)) (after_token (word w.Key) (seq pair names_in_parens references))

-- RETURNS type {characteristic} statement
abbrev pub returns_clause : Gram (DataType × (List Characteristic × Statement))
returns_clause = after_token (word w.Returns) returned
