use Rattle.std.proofs.Common.{refl}
use Rattle.psm_exprgen.proofs.Drafts.{one}
use Rattle.psm_codegen.specs.Simples.{WritesRows, no_row}
use Rattle.psm_codegen.proofs.CallForms.{row_written}
use Rattle.psm_codegen.proofs.DraftLists.{all_left, next_left, none_left}
use Rattle.psm_codegen.proofs.calling.rows.Goals as goal

pub loop-row-init : goal.loop-row-init
loop-row-init c = all_left (λ σ. WritesRows c.args.emit_context.known.now c.args.emit_context.context (σ c.args.emit_context.resume) c.args.letters.now) c.items-row-items.result.now c.args.list.now c.items-row-items.ensures

pub loop-row-preserved : goal.loop-row-preserved
loop-row-preserved c = next_left (λ σ. WritesRows c.args.emit_context.known.now c.args.emit_context.context (σ c.args.emit_context.resume) c.args.letters.now) (λ σ. WritesRows c.args.emit_context.known.now c.args.emit_context.context (σ c.args.emit_context.resume) c.args.letters.now) (λ σ. WritesRows c.args.emit_context.known.now c.args.emit_context.context (σ c.args.emit_context.resume) c.args.letters.now c.args.list.now) c.items-row-items.result.now c.loop-row.row-index c.row-item.result c.row-item.result c.loop-row-test.true c.row-item.is refl c.loop-row.invariant (one c.in_ok-arguments.ensures (λ σ x. row_written x))

pub returns : goal.returns
returns c = none_left (λ σ. WritesRows c.args.emit_context.known.now c.args.emit_context.context (σ c.args.emit_context.resume) c.args.letters.now) (λ σ. WritesRows c.args.emit_context.known.now c.args.emit_context.context (σ c.args.emit_context.resume) c.args.letters.now c.args.list.now) c.items-row-items.result.now c.loop-row.row-index c.loop-row-test.false c.loop-row.invariant (λ σ q. no_row)
