use Rattle.std.proofs.Common.{◌≡◌, Ok, sym, subst, ◌∙◌}
use Rattle.psm_load.specs.Left.{Left}
use Rattle.psm_load.specs.Stated.{code}
use Rattle.psm_load.proofs.Loaded.{numbered}
use Rattle.psm_load.proofs.loading.stated.Goals as goal

pub returns-in-None-clause-within : goal.returns-in-None-clause-within
returns-in-None-clause-within c = λ o.
    numbered c.args.text.now c.in_ok-code.code c.code.new.lines.at c.code.new.lines.lines
    (subst (λ (s : Left). code s.at s.lines ≡ Ok (c.in_ok-code.code, (c.code.new.lines.at, c.code.new.lines.lines))) c.of-lines.ensures c.in_ok-code.ensures)
    c.odd.ensures.within (c.rules_count_the_lines_of_a_listing.ensures c.in_ok-code.code) (sym c.odd.ensures.odd ∙ o)
