use Rattle.std.proofs.Common.{◌≡◌, List, ◌++◌, map, Some, sym, ap, ◌∙◌}
use Rattle.psm_list.specs.Several.{Several}
use Rattle.psm_cond.specs.declared.handlers.ConditionValue.{ConditionValue}
use Rattle.psm_load_line.specs.Forms.{value_at, ValueWord}
use Rattle.psm_load_line.specs.Readers.{many, word}
use Rattle.psm_load_line.specs.Said.{value_of}
use Rattle.psm_load_line.proofs.Many.{some_made}
use Rattle.psm_load_line.proofs.handlers.values.Goals as goal

abbrev several : ConditionValue → List ConditionValue → Several ConditionValue
several first rest = record { first = first; rest = rest }

pub returns : goal.returns
returns c =
    let m : (more : List ValueWord) × (many (word value_at) c.in-Some.rest.now ≡ Some more) × (c.add_values.new.list.items ≡ c.new-others.result.items ++ map value_of more) = c.in_ok-add_values.ensures in
    let h = some_made value_of (word value_at) c.args.rest.now c.in-Some.rest.now c.in-Some.first m.0 (sym c.in-Some.ensures) m.1 in
    let others : c.of.result ≡ map value_of h.0.1 = c.of.ensures ∙ m.2 ∙ ap (λ (vs : List ConditionValue). vs ++ map value_of m.0) c.new-others.ensures.items ∙ ap (map value_of) h.3 in
    (h.0, h.1, c.of-2.ensures ∙ ap (λ (v : ConditionValue). several v c.of.result) h.2 ∙ ap (several (value_of h.0.0)) others)
