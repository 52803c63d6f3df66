use Rattle.std.proofs.Common.{refl}
use Rattle.psm_grammar.specs.Plain.{grammar, grammars}
use Rattle.psm_grammar.proofs.Whole.{reads_run, only_answer}
use Rattle.psm_grammar.proofs.Unique.{one_tree}
use Rattle.psm_grammar.proofs.laws.grammar_laws.Goals as goal

pub returns-clause-exact : goal.returns-clause-exact
returns-clause-exact c prods after height r p follow fit d n ts = reads_run (grammars prods) after height r n d _ refl (grammar p) follow fit ts

pub returns-clause-only : goal.returns-clause-only
returns-clause-only c prods after height r p follow fit d n ts o h = only_answer (grammars prods) after height r n d _ refl (grammar p) follow fit ts o h

pub returns-clause-one_tree : goal.returns-clause-one_tree
returns-clause-one_tree c prods after height r p follow fit d w v x y = one_tree (grammars prods) after height r d (grammar p) follow fit w v x y
