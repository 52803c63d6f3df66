use Rattle.std.proofs.Common.{nat_le}
use Rattle.psm_scope.specs.Choice.{Candidate, rank}
use Rattle.psm_scope.specs.Blocks.{parameter}
use Rattle.psm_scope.proofs.Narrowed.{lowest_first, lowest_last, lowest_second}
use Rattle.psm_scope.proofs.blocks.ParameterSets.lowest.Goals as goal

pub returns-then-first-ne0-clause-members : goal.returns-then-first-ne0-clause-members
returns-then-first-ne0-clause-members c = λ index cs has within.
    lowest_first index c.args.set cs within c.without-first.result
    (c.without-first.ensures.members (λ (d : Candidate). nat_le 1 (rank (parameter index d))) cs has.from_first) c.without-first.ensures.within
    c.if-first-ne0.true

pub returns-then-second-ne0-clause-members : goal.returns-then-second-ne0-clause-members
returns-then-second-ne0-clause-members c = λ index cs has within.
    lowest_second index c.args.set cs within c.without-first.result
    (c.without-first.ensures.members (λ (d : Candidate). nat_le 1 (rank (parameter index d))) cs has.from_first) c.without-first.ensures.within c.without-second.result
    (c.without-second.ensures.members (λ (d : Candidate). nat_le 2 (rank (parameter index d))) cs has.from_second) c.without-second.ensures.within
    c.if-first-ne0.false c.if-second-ne0.true

pub returns-clause-members : goal.returns-clause-members
returns-clause-members c = λ index cs has within.
    lowest_last index c.args.set cs within c.without-first.result
    (c.without-first.ensures.members (λ (d : Candidate). nat_le 1 (rank (parameter index d))) cs has.from_first) c.without-first.ensures.within c.without-second.result
    (c.without-second.ensures.members (λ (d : Candidate). nat_le 2 (rank (parameter index d))) cs has.from_second) c.without-second.ensures.within
    c.if-second-ne0.false
