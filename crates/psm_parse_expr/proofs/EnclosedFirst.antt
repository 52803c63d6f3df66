-- The kind of token that a query in parentheses begins with.
use Rattle.std.proofs.Common.{◌≡◌, [], ◌∷◌, refl}
use Rattle.psm_token.specs.declared.word.Word.TheVariants as w
use Rattle.psm_token.specs.Words.{word_kind}
use Rattle.psm_grammar.specs.Grammar.{image}
use Rattle.psm_grammar.specs.Readers.{first}
use Rattle.psm_tree.specs.Parts.{Query}
use Rattle.psm_tree.specs.ExprGrammar.{closed, select, all_expressions}

pub first_closed_select : first (closed (image Query select)) ≡ word_kind w.Select ∷ []
unfolding all_expressions
first_closed_select = refl
