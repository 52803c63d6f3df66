use Rattle.std.proofs.Common.{arith, refl}
use Rattle.psm_codegen.specs.Simples.{CallArguments, no_argument}
use Rattle.psm_codegen.proofs.DraftLists.{all_left, next_left, none_left}
use Rattle.psm_codegen.proofs.calling.call_arguments.Goals as goal

pub loop-argument-init : goal.loop-argument-init
loop-argument-init c = record { near = omega arith; written = all_left (λ σ. CallArguments c.args.emit_context.known.now c.args.emit_context.context (σ c.args.emit_context.resume) c.args.letters.now 0) c.items-argument-items.result.now c.args.list.now c.items-argument-items.ensures }

pub loop-argument-preserved : goal.loop-argument-preserved
loop-argument-preserved c = record {
  near = omega (arith, c.loop-argument.invariant.near, c.in_ok-index.ensures.near);
  written = next_left (λ σ. CallArguments c.args.emit_context.known.now c.args.emit_context.context (σ c.args.emit_context.resume) c.args.letters.now c.loop-argument.index) (λ σ. CallArguments c.args.emit_context.known.now c.args.emit_context.context (σ c.args.emit_context.resume) c.args.letters.now c.in_ok-index.index) (λ σ. CallArguments c.args.emit_context.known.now c.args.emit_context.context (σ c.args.emit_context.resume) c.args.letters.now 0 c.args.list.now)
      c.items-argument-items.result.now c.loop-argument.argument-index c.argument-item.result c.argument-item.result c.loop-argument-test.true c.argument-item.is refl c.loop-argument.invariant.written c.in_ok-index.ensures.written;
}

pub returns : goal.returns
returns c = none_left (λ σ. CallArguments c.args.emit_context.known.now c.args.emit_context.context (σ c.args.emit_context.resume) c.args.letters.now c.loop-argument.index) (λ σ. CallArguments c.args.emit_context.known.now c.args.emit_context.context (σ c.args.emit_context.resume) c.args.letters.now 0 c.args.list.now) c.items-argument-items.result.now c.loop-argument.argument-index c.loop-argument-test.false c.loop-argument.invariant.written (λ σ q. no_argument)
