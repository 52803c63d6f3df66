use Rattle.std.proofs.Common.{ℕ, List, Option, sym, ap, ◌∙◌}
use Rattle.std.specs.Prelude.{option_map}
use Rattle.psm_code.specs.declared.instruction.Instruction.{Instruction}
use Rattle.psm_words.specs.Reading.{◌>>=◌}
use Rattle.psm_load_line.specs.Groups.{detailed_instructions, numbered_instructions}
use Rattle.psm_load_line.specs.Readers.{chosen}
use Rattle.psm_load_line.proofs.Grouped.{followed_numbered}
use Rattle.psm_load_line.proofs.Spelled.{◌&◌}
use Rattle.psm_load_line.proofs.mnemonics.followed.Goals as goal

abbrev made_of : List ℕ → Option ℕ → Option Instruction
made_of w o = o >>= λ n. option_map (λ make. make n) (chosen numbered_instructions w)

pub returns-in_err-last_index-in_default : goal.returns-in_err-last_index-in_default
unfolding detailed_instructions
returns-in_err-last_index-in_default c =
    let d = c.in_default in
    let e = followed_numbered c.args.word.now c.args.rest.now (d.not-SCALE & d.not-TRIM & d.not-CAST & d.not-NEXT & d.not-GETS & d.not-GETC & d.not-SGETS & d.not-SGETC & tt) in
    c.from_residual-in_err-last_index-in_default.ensures ∙ ap (made_of c.args.word.now) (sym c.in_err-last_index-in_default.was ∙ c.last_index.ensures) ∙ sym e

pub returns-in_ok-last_index-in_default : goal.returns-in_ok-last_index-in_default
unfolding detailed_instructions
returns-in_ok-last_index-in_default c =
    let d = c.in_default in
    let e = followed_numbered c.args.word.now c.args.rest.now (d.not-SCALE & d.not-TRIM & d.not-CAST & d.not-NEXT & d.not-GETS & d.not-GETC & d.not-SGETS & d.not-SGETC & tt) in
    c.numbered.ensures ∙ ap (made_of c.args.word.now) (sym c.in_ok-last_index-in_default.was ∙ c.last_index.ensures) ∙ sym e
