use Rattle.std.proofs.Common.{◌≤◌, ap, sym, subst, ◌∙◌, length, arith}
use Rattle.std.proofs.lemmas.List.{length-set}
use Rattle.std.specs.Prelude.{nat_eq, if◌then◌else◌}
use Rattle.psm_table.specs.declared.map.Pair.{Pair}
use Rattle.psm_table.specs.Map.{AreAscending, with_pair}
use Rattle.psm_table.specs.PairPosition.{IsAt, IsGap}
use Rattle.psm_table.specs.Leading.{leading_of}
use Rattle.psm_table.specs.Runs.{head_of, most_pairs}
use Rattle.psm_table.proofs.Heads.{head-insert, head-write}
use Rattle.psm_table.proofs.Pairs.{ascending-with_pair, inserted, overwritten}
use Rattle.psm_table.proofs.run.Run.insert.Goals as goal

pub invariant_of-self : goal.invariant_of-self
invariant_of-self g c =
    let p : Pair g.row.V.Denot = record { key = c.args.key; value = c.args.value } in
    let here : IsAt c.args.key c.args.self.now c.in-Ok.at = subst (λ k. IsAt k c.args.self.now c.in-Ok.at) c.probe.ensures.key c.in-Ok.ensures.found in
    let found : IsAt c.args.key c.self.inside.pairs.items c.in-Ok.at = subst (λ l. IsAt c.args.key l c.in-Ok.at) (sym c.self.view_is) here in (
      subst AreAscending (sym (overwritten p c.self.inside.pairs.items c.in-Ok.at found)) (ascending-with_pair p c.self.inside.pairs.items c.self.invariant.0),
      omega (arith, length-set c.self.inside.pairs.items c.in-Ok.at p, c.self.invariant.1),
      c.self.invariant.2,
      c.head_with-self-inside.ensures ∙ ap (λ h. if nat_eq c.in-Ok.at 0 then leading_of c.args.key else h) c.self.invariant.3
          ∙ sym (head-write c.self.inside.pairs.items c.in-Ok.at p found.inside),
    )

pub invariant_of-self-in-Err : goal.invariant_of-self-in-Err
invariant_of-self-in-Err g c =
    let p : Pair g.row.V.Denot = record { key = c.args.key; value = c.args.value } in
    let here : IsGap c.args.key c.args.self.now c.in-Err.at = subst (λ k. IsGap k c.args.self.now c.in-Err.at) c.probe.ensures.key c.in-Err.ensures.absent in
    let gap : IsGap c.args.key c.self.inside.pairs.items c.in-Err.at = subst (λ l. IsGap c.args.key l c.in-Err.at) (sym c.self.view_is) here in
    let room : length c.insert_reserved.new.items.items ≤ most_pairs = omega (arith, c.insert_reserved.ensures.len, c.requires, ap length c.self.view_is) in (
      subst AreAscending (sym (c.insert_reserved.ensures.items ∙ inserted p c.self.inside.pairs.items c.in-Err.at gap)) (ascending-with_pair p c.self.inside.pairs.items c.self.invariant.0),
      room,
      omega (arith, c.insert_reserved.ensures.capacity, c.self.invariant.2),
      c.head_with-self-inside-in-Err.ensures ∙ ap (λ h. if nat_eq c.in-Err.at 0 then leading_of c.args.key else h) c.self.invariant.3
          ∙ sym (ap head_of c.insert_reserved.ensures.items ∙ head-insert c.self.inside.pairs.items c.in-Err.at p gap.inside),
    )

pub returns-in-Ok-clause-pairs : goal.returns-in-Ok-clause-pairs
returns-in-Ok-clause-pairs g c =
    let p : Pair g.row.V.Denot = record { key = c.args.key; value = c.args.value } in
    let here : IsAt c.args.key c.args.self.now c.in-Ok.at = subst (λ k. IsAt k c.args.self.now c.in-Ok.at) c.probe.ensures.key c.in-Ok.ensures.found in
    let found : IsAt c.args.key c.self.inside.pairs.items c.in-Ok.at = subst (λ l. IsAt c.args.key l c.in-Ok.at) (sym c.self.view_is) here in
    overwritten p c.self.inside.pairs.items c.in-Ok.at found ∙ ap (with_pair p) c.self.view_is

pub returns-in-Ok-clause-some : goal.returns-in-Ok-clause-some
returns-in-Ok-clause-some g c =
    let p : Pair g.row.V.Denot = record { key = c.args.key; value = c.args.value } in
    let here : IsAt c.args.key c.args.self.now c.in-Ok.at = subst (λ k. IsAt k c.args.self.now c.in-Ok.at) c.probe.ensures.key c.in-Ok.ensures.found in
    let found : IsAt c.args.key c.self.inside.pairs.items c.in-Ok.at = subst (λ l. IsAt c.args.key l c.in-Ok.at) (sym c.self.view_is) here in
    omega (arith, length-set c.self.inside.pairs.items c.in-Ok.at p, found.inside)
