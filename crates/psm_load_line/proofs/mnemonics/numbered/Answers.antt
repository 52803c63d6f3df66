use Rattle.std.proofs.Common.{ℕ, sym, ap}
use Rattle.std.specs.Prelude.{option_map}
use Rattle.psm_code.specs.declared.instruction.Instruction.{Instruction}
use Rattle.psm_load_line.specs.Groups.{numbered_instructions}
use Rattle.psm_load_line.proofs.Entries.{none_chosen}
use Rattle.psm_load_line.proofs.Spelled.{◌&◌}
use Rattle.psm_load_line.proofs.mnemonics.numbered.Goals as goal

pub returns-in_default : goal.returns-in_default
unfolding numbered_instructions
returns-in_default c =
    let d = c.in_default in
    ap (option_map (λ (make : ℕ → Instruction). make c.args.n)) (sym (none_chosen numbered_instructions c.args.word.now (d.not-VAR & d.not-COL & d.not-IN & d.not-JMP & d.not-JNOT & d.not-JSET & d.not-STORE & d.not-FSTORE & d.not-ENTER & d.not-EXIT & d.not-ENDACT & d.not-CALL & d.not-FCALL & d.not-EXISTS & d.not-SCALAR & d.not-ROW & d.not-DATA & d.not-OPEN & d.not-CLOSE & d.not-FETCH & d.not-SIG & d.not-SIGM & d.not-RESIGC & d.not-RESIGM & tt)))
