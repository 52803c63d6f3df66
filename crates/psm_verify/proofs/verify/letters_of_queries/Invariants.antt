use Rattle.std.proofs.Common.{◌≡◌, take, map}
use Rattle.psm_verify.specs.VerifyContext.{letters_with}
use Rattle.psm_verify.proofs.verify.letters_of_queries.Given as goal

abbrev pub invariant-loop-query : goal.invariant-loop-query
invariant-loop-query l = l.letters.items ≡ map (letters_with l.columns l.variables) (take l.query-index l.queries)
