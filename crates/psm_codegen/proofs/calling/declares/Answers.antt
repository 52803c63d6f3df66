use Rattle.psm_codegen.specs.Simples.{Declares, no_declaration}
use Rattle.psm_codegen.proofs.DraftLists.{all_left, next_left, none_left}
use Rattle.psm_codegen.proofs.calling.declares.Goals as goal

pub loop-declaration-init : goal.loop-declaration-init
loop-declaration-init c = all_left (λ σ. Declares c.args.emit_context.known.now c.args.emit_context.context (σ c.args.emit_context.resume)) c.items-declaration-items.result.now c.args.list.now c.items-declaration-items.ensures

pub loop-declaration-preserved : goal.loop-declaration-preserved
loop-declaration-preserved c = next_left (λ σ. Declares c.args.emit_context.known.now c.args.emit_context.context (σ c.args.emit_context.resume)) (λ σ. Declares c.args.emit_context.known.now c.args.emit_context.context (σ c.args.emit_context.resume)) (λ σ. Declares c.args.emit_context.known.now c.args.emit_context.context (σ c.args.emit_context.resume) c.args.list.now) c.items-declaration-items.result.now c.loop-declaration.declaration-index c.declaration-item.result c.get.result.now c.loop-declaration-test.true c.declaration-item.is c.get.ensures c.loop-declaration.invariant c.in_ok-declare.ensures

pub returns : goal.returns
returns c = none_left (λ σ. Declares c.args.emit_context.known.now c.args.emit_context.context (σ c.args.emit_context.resume)) (λ σ. Declares c.args.emit_context.known.now c.args.emit_context.context (σ c.args.emit_context.resume) c.args.list.now) c.items-declaration-items.result.now c.loop-declaration.declaration-index c.loop-declaration-test.false c.loop-declaration.invariant (λ σ q. no_declaration)
