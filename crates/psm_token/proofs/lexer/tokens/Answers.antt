use Rattle.psm_token.proofs.Once.{answers_tokens, answers_fault}
use Rattle.psm_token.proofs.lexer.tokens.Goals as goal

pub returns-in-Ok-clause-only : goal.returns-in-Ok-clause-only
returns-in-Ok-clause-only c = answers_tokens c.in-Ok.text.now c.args.bytes.now c.text_tokens.result c.in-Ok.ensures.cases.0 c.text_tokens.ensures.ok c.text_tokens.ensures.fault

pub returns-in-Ok-clause-only_fault : goal.returns-in-Ok-clause-only_fault
returns-in-Ok-clause-only_fault c = answers_fault c.in-Ok.text.now c.args.bytes.now c.text_tokens.result c.in-Ok.ensures.cases.0 c.text_tokens.ensures.ok c.text_tokens.ensures.fault
