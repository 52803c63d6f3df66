use Rattle.std.proofs.Common.{◌≡◌, ◌∷◌, take}
use Rattle.psm_exprgen.specs.Exprs.{Arguments, Compares, Firsts, Joins, ChainLinks, Whens, WritesAll}
use Rattle.psm_exprgen.specs.Labels.{Drafted}
use Rattle.psm_exprgen.proofs.exprs.+writing.Given as goal

abbrev pub invariant-joined-loop-operand : goal.invariant-joined-loop-operand
invariant-joined-loop-operand l = Drafted (λ σ. Joins l.emit_context.known.now l.emit_context.context (σ l.emit_context.resume) l.logical_operator (take l.operand-index l.operand-items)) l.fn.out l.out

abbrev pub invariant-linked-loop-chain_link : goal.invariant-linked-loop-chain_link
invariant-linked-loop-chain_link l = Drafted (λ σ. ChainLinks l.emit_context.known.now l.emit_context.context (σ l.emit_context.resume) (take l.chain_link-index l.chain_link-items)) l.fn.out l.out

abbrev pub invariant-several-loop-item : goal.invariant-several-loop-item
invariant-several-loop-item l = Drafted (λ σ. WritesAll l.emit_context.known.now l.emit_context.context (σ l.emit_context.resume) (l.list.first ∷ take l.item-index l.item-items)) l.fn.out l.out

abbrev pub invariant-arguments-loop-item : goal.invariant-arguments-loop-item
invariant-arguments-loop-item l = (l.index ≡ l.item-index) × Drafted (λ σ. Arguments l.emit_context.known.now l.emit_context.context (σ l.emit_context.resume) l.letters 0 (take l.item-index l.item-items)) l.fn.out l.out

abbrev pub invariant-firsts-loop-value : goal.invariant-firsts-loop-value
invariant-firsts-loop-value l = Drafted (λ σ. Firsts l.emit_context.known.now l.emit_context.context (σ l.emit_context.resume) l.letter (σ l.end) l.values.first (take l.value-index l.value-items)) l.fn.out l.out

abbrev pub invariant-searched-loop-when : goal.invariant-searched-loop-when
invariant-searched-loop-when l = Drafted (λ σ. Whens l.emit_context.known.now l.emit_context.context (σ l.emit_context.resume) l.letter (σ l.end) (l.whens.first ∷ take l.when-index l.when-items)) l.fn.out l.out

abbrev pub invariant-compared-loop-when : goal.invariant-compared-loop-when
invariant-compared-loop-when l = Drafted (λ σ. Compares l.emit_context.known.now l.emit_context.context (σ l.emit_context.resume) l.letter (σ l.end) (l.whens.first ∷ take l.when-index l.when-items)) l.fn.out l.out
