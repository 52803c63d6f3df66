use Rattle.std.proofs.Common.{◌≡◌, ◌+◌, ◌-◌, ◌∙◌, ◌<◌, length, set, take, ap, arith}
use Rattle.std.specs.Prelude.{List}
use Rattle.psm_table.specs.Table.{Contents}
use Rattle.psm_store.specs.Groups.{copies_of}
use Rattle.psm_store.proofs.Runs.{shortened, shortened-length}
use Rattle.psm_store.proofs.copies.Copies.shorten.Goals as goal

pub invariant_of-self : goal.invariant_of-self
invariant_of-self c =
    let some : 0 < length (copies_of c.self.inside.groups.items) = omega (arith, c.requires.some, ap length c.self.view_is) in
    let e : length (copies_of (set c.self.inside.groups.items (c.len-last.result - 1) c.shorten.new.self)) + c.args.most ≡ length (copies_of c.self.inside.groups.items) =
    shortened-length c.self.inside.groups.items c.len-last.result c.marks.result c.args.most c.index.result.now c.index_mut.result.now c.shorten.new.self
    (c.len-last.ensures ∙ c.self.inside.groups.ok.0) some c.index.ensures c.marks.ensures.value c.if-most-marks.true c.index_mut.ensures.value c.shorten.ensures in
    omega (arith, e, c.self.invariant)

pub returns-then-most-marks-clause-fewer : goal.returns-then-most-marks-clause-fewer
returns-then-most-marks-clause-fewer c =
    let some : 0 < length (copies_of c.self.inside.groups.items) = omega (arith, c.requires.some, ap length c.self.view_is) in
    let e : length (copies_of (set c.self.inside.groups.items (c.len-last.result - 1) c.shorten.new.self)) + c.args.most ≡ length (copies_of c.self.inside.groups.items) =
    shortened-length c.self.inside.groups.items c.len-last.result c.marks.result c.args.most c.index.result.now c.index_mut.result.now c.shorten.new.self
    (c.len-last.ensures ∙ c.self.inside.groups.ok.0) some c.index.ensures c.marks.ensures.value c.if-most-marks.true c.index_mut.ensures.value c.shorten.ensures in
    omega (arith, e, c.requires.above, ap length c.self.view_is)

pub returns-then-most-marks-clause-most : goal.returns-then-most-marks-clause-most
returns-then-most-marks-clause-most c =
    let some : 0 < length (copies_of c.self.inside.groups.items) = omega (arith, c.requires.some, ap length c.self.view_is) in
    let e : length (copies_of (set c.self.inside.groups.items (c.len-last.result - 1) c.shorten.new.self)) + c.args.most ≡ length (copies_of c.self.inside.groups.items) =
    shortened-length c.self.inside.groups.items c.len-last.result c.marks.result c.args.most c.index.result.now c.index_mut.result.now c.shorten.new.self
    (c.len-last.ensures ∙ c.self.inside.groups.ok.0) some c.index.ensures c.marks.ensures.value c.if-most-marks.true c.index_mut.ensures.value c.shorten.ensures in
    omega (arith, e, ap length c.self.view_is)

pub returns-then-most-marks-clause-rest : goal.returns-then-most-marks-clause-rest
returns-then-most-marks-clause-rest c =
    let some : 0 < length (copies_of c.self.inside.groups.items) = omega (arith, c.requires.some, ap length c.self.view_is) in
    shortened c.self.inside.groups.items c.len-last.result c.marks.result c.args.most c.index.result.now c.index_mut.result.now c.shorten.new.self
    (c.len-last.ensures ∙ c.self.inside.groups.ok.0) some c.index.ensures c.marks.ensures.value c.if-most-marks.true c.index_mut.ensures.value c.shorten.ensures
    ∙ ap (λ (l : List (List Contents)). take (length (copies_of (set c.self.inside.groups.items (c.len-last.result - 1) c.shorten.new.self))) l) c.self.view_is
