use Rattle.std.proofs.Common.{sym, ap, ◌∙◌, nat_le}
use Rattle.std.specs.List.{filter}
use Rattle.psm_scope.specs.Choice.{Candidate, goes_to, is_number, is_text, rank}
use Rattle.psm_scope.specs.Blocks.{members, parameter}
use Rattle.psm_scope.proofs.Least.{kept}
use Rattle.psm_scope.proofs.Narrowed.{one_set, two_sets}
use Rattle.psm_scope.proofs.blocks.ParameterSets.reached.Goals as goal

pub returns-in-SmallInt-clause-members : goal.returns-in-SmallInt-clause-members
returns-in-SmallInt-clause-members c = λ index cs has.
    let set = c.args.set in
    let own = c.args.self in
    one_set set own.numbers (λ (d : Candidate). is_number (parameter index d)) cs has.numbers ∙ ap (λ a. filter (λ (d : Candidate). goes_to a (parameter index d)) (members set cs)) (sym c.in-SmallInt.is)

pub returns-in-Integer-clause-members : goal.returns-in-Integer-clause-members
returns-in-Integer-clause-members c = λ index cs has.
    let set = c.args.set in
    let own = c.args.self in
    two_sets set own.numbers own.from_first (λ (d : Candidate). is_number (parameter index d)) (λ (d : Candidate). nat_le 1 (rank (parameter index d))) cs has.numbers has.from_first ∙ ap (λ a. filter (λ (d : Candidate). goes_to a (parameter index d)) (members set cs)) (sym c.in-Integer.is)

pub returns-in-Numeric-clause-members : goal.returns-in-Numeric-clause-members
returns-in-Numeric-clause-members c = λ index cs has.
    let set = c.args.set in
    let own = c.args.self in
    two_sets set own.numbers own.from_second (λ (d : Candidate). is_number (parameter index d)) (λ (d : Candidate). nat_le 2 (rank (parameter index d))) cs has.numbers has.from_second ∙ ap (λ a. filter (λ (d : Candidate). goes_to a (parameter index d)) (members set cs)) (sym c.in-Numeric.is)

pub returns-in-Char-clause-members : goal.returns-in-Char-clause-members
returns-in-Char-clause-members c = λ index cs has.
    let set = c.args.set in
    let own = c.args.self in
    one_set set own.texts (λ (d : Candidate). is_text (parameter index d)) cs has.texts ∙ ap (λ a. filter (λ (d : Candidate). goes_to a (parameter index d)) (members set cs)) (sym c.in-Char.is)

pub returns-in-VarChar-clause-members : goal.returns-in-VarChar-clause-members
returns-in-VarChar-clause-members c = λ index cs has.
    let set = c.args.set in
    let own = c.args.self in
    two_sets set own.texts own.from_first (λ (d : Candidate). is_text (parameter index d)) (λ (d : Candidate). nat_le 1 (rank (parameter index d))) cs has.texts has.from_first ∙ ap (λ a. filter (λ (d : Candidate). goes_to a (parameter index d)) (members set cs)) (sym c.in-VarChar.is)

pub returns-in-Null-clause-members : goal.returns-in-Null-clause-members
returns-in-Null-clause-members c = λ index cs has.
    let set = c.args.set in
    let own = c.args.self in
    sym (kept (members set cs)) ∙ ap (λ a. filter (λ (d : Candidate). goes_to a (parameter index d)) (members set cs)) (sym c.in-Null.is)
