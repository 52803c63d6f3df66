-- The parts of statements that open a level of nesting.
use Rattle.psm_token.specs.declared.word.Word.TheVariants as w
use Rattle.psm_grammar.specs.Grammar.{level, image}
use Rattle.psm_tree.specs.Tests.{word}
use Rattle.psm_tree.specs.Parts.{BeginRest, LoopRest, WhileRest, RepeatRest, ForRest}
use Rattle.psm_tree.specs.ExprGrammar.{Gram}
use Rattle.psm_tree.specs.StatementGrammar.{block}
use Rattle.psm_tree.specs.StatementValues.{compound_of, loop_of, while_of, repeat_of, for_of, unlabelled}
use Rattle.psm_tree.specs.declared.statement.Block.{Block}
use Rattle.psm_tree.specs.declared.statement.Statement.{Statement}

-- BEGIN .. END
abbrev pub compound_block : Gram Block
compound_block = level BeginRest (word w.Begin) compound_of

-- LOOP .. END LOOP
abbrev pub loop_block : Gram Block
loop_block = level LoopRest (word w.Loop) loop_of

-- WHILE .. END WHILE
abbrev pub while_block : Gram Block
while_block = level WhileRest (word w.While) while_of

-- REPEAT .. END REPEAT
abbrev pub repeat_block : Gram Block
repeat_block = level RepeatRest (word w.Repeat) repeat_of

-- FOR .. END FOR
abbrev pub for_block : Gram Block
for_block = level ForRest (word w.For) for_of

-- a block that has no label
abbrev pub unlabelled_block : Gram Statement
unlabelled_block = image unlabelled block
