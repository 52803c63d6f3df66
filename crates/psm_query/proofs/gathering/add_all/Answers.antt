use Rattle.std.proofs.Common.{◌≡◌, ◌<◌, ◌≤◌, List, [], length, ap, sym, ◌∙◌, arith}
use Rattle.psm_value.specs.declared.datum.Datum.{Datum}
use Rattle.psm_query.specs.Tallies.{added}
use Rattle.psm_query.proofs.Added.{added_none, none_left, pass_last, pass_room, put_last, put_room}
use Rattle.psm_query.proofs.gathering.add_all.Goals as goal

pub loop-value-preserved-then-at-len : goal.loop-value-preserved-then-at-len
loop-value-preserved-then-at-len c =
    let position : c.len-at.result ≡ length c.pop.new.self.items = c.len-at.ensures ∙ c.pop.new.self.ok.0 in
    let count : c.len.result ≡ length c.loop-value.tallies.items = c.len.ensures ∙ c.loop-value.tallies.ok.0 in
    let inside : c.len-at.result < length c.loop-value.tallies.items = omega (arith, c.if-at-len.true, count) in
    record {
      so_far = put_last c.loop-value.tallies.items c.pop.new.self.items c.loop-value.values.items c.in-Some.value c.len-at.result position c.in-Some.ensures.items
          c.add.new.self c.index_mut.result.now inside c.index_mut.ensures.value c.add.ensures ∙ c.loop-value.invariant.so_far;
      room = put_room c.loop-value.tallies.items c.pop.new.self.items c.loop-value.values.items c.in-Some.value c.len-at.result position c.in-Some.ensures.items
          c.add.new.self c.loop-value.invariant.room;
    }

pub loop-value-preserved-else-at-len : goal.loop-value-preserved-else-at-len
loop-value-preserved-else-at-len c =
    let position : c.len-at.result ≡ length c.pop.new.self.items = c.len-at.ensures ∙ c.pop.new.self.ok.0 in
    let count : c.len.result ≡ length c.loop-value.tallies.items = c.len.ensures ∙ c.loop-value.tallies.ok.0 in
    let past : length c.loop-value.tallies.items ≤ c.len-at.result = omega (arith, c.if-at-len.false, count) in
    record {
      so_far = pass_last c.loop-value.tallies.items c.pop.new.self.items c.loop-value.values.items c.in-Some.value c.len-at.result position c.in-Some.ensures.items past ∙ c.loop-value.invariant.so_far;
      room = pass_room c.loop-value.tallies.items c.pop.new.self.items c.loop-value.values.items c.in-Some.value c.len-at.result position c.in-Some.ensures.items c.loop-value.invariant.room;
    }

pub loop-value-preserved : goal.loop-value-preserved
loop-value-preserved c =
    let position : c.len-at.result ≡ length c.pop.new.self.items = c.len-at.ensures ∙ c.pop.new.self.ok.0 in
    let count : c.len.result ≡ length c.loop-value.tallies.items = c.len.ensures ∙ c.loop-value.tallies.ok.0 in
    let past : length c.loop-value.tallies.items ≤ c.len-at.result = omega (arith, c.if-at-len.false, count) in
    record {
      so_far = pass_last c.loop-value.tallies.items c.pop.new.self.items c.loop-value.values.items c.in-Some.value c.len-at.result position c.in-Some.ensures.items past ∙ c.loop-value.invariant.so_far;
      room = pass_room c.loop-value.tallies.items c.pop.new.self.items c.loop-value.values.items c.in-Some.value c.len-at.result position c.in-Some.ensures.items c.loop-value.invariant.room;
    }

pub returns : goal.returns
returns c =
    let left : length c.loop-value.values.items ≡ 0 = sym c.loop-value.values.ok.0 ∙ c.in_default.ensures.cases.0 in
    let none : c.loop-value.values.items ≡ [] = none_left c.loop-value.values.items left in
    sym (added_none c.loop-value.tallies.items) ∙ ap (λ (vs : List Datum). added c.loop-value.tallies.items vs) (sym none) ∙ c.loop-value.invariant.so_far
