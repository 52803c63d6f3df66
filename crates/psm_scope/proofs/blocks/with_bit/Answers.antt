use Rattle.std.proofs.Common.{sym, ◌∙◌}
use Rattle.std.specs.Int.RustNames.{bit_or}
use Rattle.psm_scope.proofs.Sets.{with_member, without_member}
use Rattle.psm_scope.proofs.blocks.with_bit.Goals as goal

pub returns-then-is_member : goal.returns-then-is_member
returns-then-is_member c = λ test cs one few at is same. (λ i. bit_or (same i) (at i)) ∙ with_member test cs one (sym is ∙ c.if-is_member.true)

pub returns-else-is_member : goal.returns-else-is_member
returns-else-is_member c = λ test cs one few at is same. same ∙ without_member test cs one (sym is ∙ c.if-is_member.false)
