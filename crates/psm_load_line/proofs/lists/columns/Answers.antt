use Rattle.std.proofs.Common.{◌≡◌, ℕ, List, ◌∷◌, ◌++◌, [], Some, rules, ap, ◌∙◌}
use Rattle.psm_load_line.specs.Forms.{index}
use Rattle.psm_load_line.specs.Readers.{many}
use Rattle.psm_load_line.proofs.Many.{some_read}
use Rattle.psm_load_line.proofs.lists.columns.Goals as goal

pub returns : goal.returns
returns c =
    let first = c.in_ok-first.first in
    let rest = c.in_ok-first.rest.now in
    let e : index c.args.rest.now ≡ Some (first, rest) = search rules in
    let m : (more : List ℕ) × (many index rest ≡ Some more) × (c.add_indexes.new.list.items ≡ c.push.new.self.items ++ more) = c.in_ok-add_indexes.ensures in (
      (first, m.0),
      some_read (λ (n : ℕ). n) index c.args.rest.now rest first m.0 e m.1,
      c.of.ensures ∙ m.2 ∙ ap (λ (ns : List ℕ). ns ++ m.0) (c.in_ok-push.ensures.items ∙ ap (λ (ns : List ℕ). ns ++ first ∷ []) c.new-columns.ensures.items),
    )
