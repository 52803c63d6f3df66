use Rattle.std.proofs.Common.{rules, ◌≡◌, ◌∙◌, ap, [], ◌∷◌, ◌++◌, map}
use Rattle.std.proofs.lemmas.List.{map-append}
use Rattle.std.specs.String.{string_bytes}
use Rattle.psm_io.specs.Failures.{times}
use Rattle.psm_io.proofs.NameCounts.{times-append_same, times-append_other}
use Rattle.psm_io.proofs.failures.Failures.keep.Goals as goal

pub returns-clause-kept : goal.returns-clause-kept
returns-clause-kept c =
    let pushed : c.push.new.self.items ≡ c.self.inside.names.items ++ c.in-Ok.name ∷ [] = search rules in
    let seen : map string_bytes c.push.new.self.items ≡ map string_bytes c.self.inside.names.items ++ string_bytes c.in-Ok.name ∷ [] =
    ap (map string_bytes) pushed ∙ map-append string_bytes c.self.inside.names.items (c.in-Ok.name ∷ []) in
    cc (c.in-Ok.ensures.ok, c.self.view_is)

pub returns-clause-rises : goal.returns-clause-rises
returns-clause-rises c = λ _. ap (times c.args.name.now) (returns-clause-kept c) ∙ times-append_same c.args.name.now c.args.self.now

pub returns-clause-others : goal.returns-clause-others
returns-clause-others c = λ n ne. ap (times n) (returns-clause-kept c) ∙ times-append_other n c.args.self.now c.args.name.now ne
