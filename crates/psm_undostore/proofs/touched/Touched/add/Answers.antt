use Rattle.std.proofs.Common.{◌≡◌, ◌∙◌, ◌<◌, ap, arith, false, length, sym}
use Rattle.std.proofs.lemmas.List.{get_or_read}
use Rattle.psm_undostore.specs.Touched.{is_touched}
use Rattle.psm_undostore.proofs.Settled.{added_listed, added_once}
use Rattle.psm_undostore.proofs.touched.Touched.add.Goals as goal

pub invariant_of-self-2 : goal.invariant_of-self-2
invariant_of-self-2 c =
    let inside : c.args.t < length c.self.inside.is_touched.items = omega (arith, c.requires, ap length c.self.view_is) in
    let untouched : is_touched c.self.inside.is_touched.items c.args.t ≡ false =
    sym (get_or_read c.self.inside.is_touched.items c.args.t c.index.result.now inside c.index.ensures false) ∙ c.if-index.false in (
      added_listed c.self.inside.is_touched.items c.args.t inside c.self.inside.numbers.items c.push.new.self.items c.in_ok-push.ensures.items c.self.invariant.0,
      added_once c.self.inside.is_touched.items c.args.t inside c.self.inside.numbers.items c.push.new.self.items c.in_ok-push.ensures.items untouched c.self.invariant.1,
    )
