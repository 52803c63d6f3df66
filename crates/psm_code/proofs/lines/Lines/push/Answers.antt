use Rattle.std.proofs.Common.{◌≡◌, ◌∙◌, ◌<◌, ◌++◌, ◌∷◌, [], ap, length, rules}
use Rattle.std.proofs.lemmas.List.Elements.{All-same}
use Rattle.psm_code.specs.declared.lines.NumberedLine.{NumberedLine}
use Rattle.psm_code.specs.Numbered.{lines_of}
use Rattle.psm_code.proofs.Kept.{lines_kept, lines_push}
use Rattle.psm_code.proofs.lines.Lines.push.Goals as goal

pub number_of-requires : goal.number_of-requires
number_of-requires c =
    let P : NumberedLine → Type 0 = λ l. l.stack < length c.self.inside.stacks in
    c.last_stack-like.ensures (length c.self.inside.stacks) c.empty.ensures.there (All-same P c.as_slice.result.now c.self.inside.lines.items c.as_slice.ensures.value c.self.invariant)

pub returns-in_err-stack-clause-err : goal.returns-in_err-stack-clause-err
returns-in_err-stack-clause-err c =
    let same : lines_of c.number_of.new.self c.self.inside.lines.items ≡ c.args.self.now =
    lines_kept c.self.inside.stacks c.number_of.new.self c.self.inside.lines.items c.number_of.ensures.extends c.self.invariant ∙ c.self.view_is in
    search rules

pub returns-in_err-push-clause-err : goal.returns-in_err-push-clause-err
returns-in_err-push-clause-err c =
    let items : c.push.new.self.items ≡ c.self.inside.lines.items = search rules in
    let same : lines_of c.number_of.new.self c.self.inside.lines.items ≡ c.args.self.now =
    lines_kept c.self.inside.stacks c.number_of.new.self c.self.inside.lines.items c.number_of.ensures.extends c.self.invariant ∙ c.self.view_is in
    search rules

pub returns-clause-ok : goal.returns-clause-ok
returns-clause-ok c =
    let line : NumberedLine = record { context = c.args.context; resume = c.args.resume; stack = c.in_ok-stack.stack; instruction = c.args.instruction } in
    lines_push c.self.inside.stacks c.number_of.new.self c.self.inside.lines.items c.push.new.self.items line c.args.stack.now
    c.in_ok-stack.ensures.extends c.self.invariant c.in_ok-push.ensures.items c.in_ok-stack.ensures.number.1
    ∙ ap (λ u. u ++ record { context = c.args.context; resume = c.args.resume; stack = c.args.stack.now; instruction = c.args.instruction } ∷ []) c.self.view_is
