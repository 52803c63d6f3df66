-- What ends a statement: END, and a word that says which.
use Rattle.std.specs.Prelude.{Ok}
use Rattle.psm_token.specs.declared.token.Placed.{Placed}
use Rattle.psm_token.specs.declared.word.Word.{Word}
use Rattle.psm_token.specs.declared.word.Word.TheVariants as w
use Rattle.psm_token.specs.Kinds.{kind}
use Rattle.psm_grammar.specs.Language.{Test}
use Rattle.psm_grammar.specs.Readers.{Reader, and_then, one}
use Rattle.psm_tree.specs.Tests.{word}

-- two tokens that have no value
unfoldable pub two : {A B : Type 0} → Test Placed A → Test Placed B → Reader Placed (Unit {0})
two test next ts = and_then (one kind test ts) (λ a rest. and_then (one kind next rest) (λ b end. Ok (tt, end)))

abbrev pub ended : Word → Reader Placed (Unit {0})
ended second = two (word w.End) (word second)
