use Rattle.std.proofs.Common.{length, refl, ap, sym, ◌∙◌, Some}
use Rattle.std.specs.Cmp.Lexicographic.{same_text}
use Rattle.std.proofs.lemmas.Option.{slice_get_read}
use Rattle.psm_table.proofs.referred.list_of.Goals as goal

pub returns-then-eq : goal.returns-then-eq
returns-then-eq c =
    slice_get_read c.args.lists.now (length c.args.lists.now) c.loop-i.i c.index-lists-i.result refl c.loop-i-test.true c.index-lists-i.is
    ∙ ap Some (sym c.items.ensures ∙ same_text c.items.result.now c.args.columns.now (sym c.if-eq.true ∙ c.eq.ensures))
