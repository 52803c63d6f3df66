use Rattle.std.proofs.Common.{◌∙◌}
use Rattle.std.specs.declared.borrow.CowSlice.TheVariants as slice
use Rattle.psm_scope.specs.declared.key.FunctionKey.{FunctionKey}
use Rattle.psm_scope.proofs.Found.{found_exact}
use Rattle.psm_scope.proofs.signatures.Signatures.exact.Goals as goal

pub returns : goal.returns
returns c =
    let key : FunctionKey = record { name = record { name = c.args.name }; kinds = slice.Borrowed c.args.kinds } in
    found_exact c.self.inside.functions.items c.self.inside.index.exact.entries c.args.self.now key c.copied.result c.self.invariant.2 c.self.view_is (c.copied.ensures ∙ c.get.ensures.value)
