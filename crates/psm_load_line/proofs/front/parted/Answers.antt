use Rattle.std.proofs.Common.{◌≡◌, ◌∙◌, ◌-◌, ◌<◌, ap, arith, drop, length, sym, take, true, false, Some}
use Rattle.std.specs.Prelude.{nat_eq}
use Rattle.std.specs.List.{starts_with}
use Rattle.std.proofs.lemmas.List.{take_all, length-drop}
use Rattle.psm_load_line.proofs.Parted.{parted_here, parted_next}
use Rattle.psm_load_line.proofs.front.parted.Goals as goal

pub returns-then-starts_with : goal.returns-then-starts_with
returns-then-starts_with c =
    let text = c.args.text.now in
    let at = c.loop-at.at in
    let within : at < length text = omega arith in
    let long : length (drop at text) ≡ length text - at = length-drop at text in
    let rest : take (length text - at) (drop at text) ≡ drop at text = take_all (length text - at) (drop at text) (omega (arith, long)) in
    let stands : starts_with nat_eq (drop at text) c.args.word.now ≡ true = ap (λ s. starts_with nat_eq s c.args.word.now) (sym rest) ∙ sym c.starts_with.ensures.value ∙ c.if-starts_with.true in
    ap (λ s. Some (take at text, s)) rest ∙ sym (parted_here c.args.word.now text at within stands c.loop-at.invariant)

pub loop-at-preserved : goal.loop-at-preserved
loop-at-preserved c =
    let text = c.args.text.now in
    let at = c.loop-at.at in
    let within : at < length text = omega arith in
    let long : length (drop at text) ≡ length text - at = length-drop at text in
    let rest : take (length text - at) (drop at text) ≡ drop at text = take_all (length text - at) (drop at text) (omega (arith, long)) in
    let stands : starts_with nat_eq (drop at text) c.args.word.now ≡ false = ap (λ s. starts_with nat_eq s c.args.word.now) (sym rest) ∙ sym c.starts_with.ensures.value ∙ c.if-starts_with.false in
    parted_next c.args.word.now text at within stands c.loop-at.invariant
