-- Contexts one after another, with their numbers.
use Rattle.std.proofs.Common.{◌≡◌, ℕ, suc, ◌+◌, ◌<◌, List, ◌∷◌, length, get_or, drop, ap, ◌∙◌, arith}
use Rattle.psm_cond.specs.declared.handlers.Context.{Context}
use Rattle.psm_code.specs.declared.code.RawRoutine.{RawRoutine}
use Rattle.psm_code.specs.RoutineRules.{context_fault, context_faults}
use Rattle.psm_verify.proofs.Each.{rest_of}

pub contexts_next : (r : RawRoutine) (cs : List Context) (at : ℕ) (c : Context) → at < length cs → c ≡ get_or cs at c
    → context_faults r (at + 1) (drop at cs) ≡ context_fault r (at + 1) c.parent c.kind ∷ context_faults r (at + 1 + 1) (drop (at + 1) cs)
contexts_next r cs at c l e =
    let n : suc (at + 1) ≡ at + 1 + 1 = omega arith in
    ap (context_faults r (at + 1)) (rest_of cs at c l e) ∙ ap (λ k. context_fault r (at + 1) c.parent c.kind ∷ context_faults r k (drop (at + 1) cs)) n
