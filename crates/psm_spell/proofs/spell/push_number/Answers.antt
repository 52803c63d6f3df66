use Rattle.std.proofs.Common.{◌∙◌, ap, sym, string_bytes}
use Rattle.std.specs.Str.{chars}
use Rattle.psm_spell.proofs.Pushing.{fraction_chars, whole_chars, fraction_long, pushed_same}
use Rattle.psm_spell.proofs.spell.push_number.Goals as goal

pub range_from-requires : goal.range_from-requires
range_from-requires c = λ _. fraction_long c.args.number c.is_fraction.ensures.digits c.as_str.result.now (c.as_str.ensures.value ∙ c.in_ok-printed.ensures)
    (sym c.is_fraction.ensures.value ∙ c.if-is_fraction.true)

pub returns-then-is_fraction : goal.returns-then-is_fraction
returns-then-is_fraction c = pushed_same c.push_str.result (chars (string_bytes c.args.text.now)) (chars (string_bytes c.push_str.new.text)) (chars c.range_from.result.now) _ c.push_str.ensures
    (ap chars c.range_from.ensures.value ∙ fraction_chars c.args.number c.is_fraction.ensures.digits c.as_str.result.now (c.as_str.ensures.value ∙ c.in_ok-printed.ensures)
    (sym c.is_fraction.ensures.value ∙ c.if-is_fraction.true))

pub returns : goal.returns
returns c = pushed_same c.push_str-else-is_fraction.result (chars (string_bytes c.args.text.now)) (chars (string_bytes c.push_str-else-is_fraction.new.text)) (chars c.as_str-else-is_fraction.result.now) _
    c.push_str-else-is_fraction.ensures
    (whole_chars c.args.number c.is_fraction.ensures.digits c.as_str-else-is_fraction.result.now (c.as_str-else-is_fraction.ensures.value ∙ c.in_ok-printed.ensures)
    (sym c.is_fraction.ensures.value ∙ c.if-is_fraction.false))
