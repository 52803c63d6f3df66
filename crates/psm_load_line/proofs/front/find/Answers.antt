use Rattle.std.proofs.Common.{ℕ, List, refl, sym, ap, ◌∙◌, arith}
use Rattle.std.specs.Prelude.{nat_eq}
use Rattle.std.specs.Cmp.Lexicographic.{pointwise}
use Rattle.psm_load_line.proofs.Entries.{comes_to, goes_by, none_left}
use Rattle.psm_load_line.proofs.front.find.Goals as goal

pub loop-name-init : goal.loop-name-init
loop-name-init g c = refl

pub returns-then-eq : goal.returns-then-eq
returns-then-eq g c =
    let same = ap (λ (name : List ℕ). pointwise nat_eq name c.args.word.now) (sym c.as_bytes.ensures.value) ∙ sym c.eq.ensures ∙ c.if-eq.true in
    sym (c.loop-name.invariant ∙ comes_to c.args.entries.now c.args.word.now c.loop-name.name-index c.loop-name-item.result c.loop-name-test.true c.loop-name-item.is same)

pub loop-name-preserved : goal.loop-name-preserved
loop-name-preserved g c =
    let other = ap (λ (name : List ℕ). pointwise nat_eq name c.args.word.now) (sym c.as_bytes.ensures.value) ∙ sym c.eq.ensures ∙ c.if-eq.false in
    c.loop-name.invariant ∙ goes_by c.args.entries.now c.args.word.now c.loop-name.name-index c.loop-name-item.result c.loop-name-test.true c.loop-name-item.is other

pub returns : goal.returns
returns g c = sym (c.loop-name.invariant ∙ none_left c.args.entries.now c.args.word.now c.loop-name.name-index (omega arith))
