use Rattle.psm_code.specs.Instructions.{instruction_effect}
use Rattle.psm_object.specs.Instructions.{mnemonic}
use Rattle.psm_object.proofs.Mnemonics.{is_named, named}
use Rattle.psm_object.proofs.laws.mnemonics_are_those_of_the_table.Goals as goal

pub returns : goal.returns
returns c = λ code r i k x e h. is_named (mnemonic i) (instruction_effect code r i k x) e (named code r i k x) h
