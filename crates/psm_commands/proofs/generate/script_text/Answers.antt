use Rattle.std.proofs.Common.{◌≡◌, ◌≤◌, ◌++◌, length, ap, sym, subst, ◌∙◌, arith}
use Rattle.std.specs.Prelude.{codes}
use Rattle.psm_files.specs.Fetches.{most_bytes}
use Rattle.psm_commands.specs.Generated.{generated_calls}
use Rattle.psm_commands.proofs.Generating.{script_short}
use Rattle.psm_commands.proofs.generate.script_text.Goals as goal

pub returns-clause-text : goal.returns-clause-text
returns-clause-text c =
    let all : c.loop-call.call ≡ c.args.calls = omega (arith, c.loop-call-test.false, c.loop-call.auto.call-end) in
    c.in_ok-extend_from_slice.ensures.items ∙ ap (λ text. text ++ codes "SELECT COUNT(*), SUM(v) FROM t;\n") (c.loop-call.invariant ∙ ap generated_calls all)

pub returns-clause-short : goal.returns-clause-short
returns-clause-short c =
    let all : c.loop-call.call ≡ c.args.calls = omega (arith, c.loop-call-test.false, c.loop-call.auto.call-end) in
    subst (λ text. length text ≤ most_bytes) (sym (c.in_ok-extend_from_slice.ensures.items ∙ ap (λ text. text ++ codes "SELECT COUNT(*), SUM(v) FROM t;\n") (c.loop-call.invariant ∙ ap generated_calls all)))
    (script_short c.args.calls c.requires)
