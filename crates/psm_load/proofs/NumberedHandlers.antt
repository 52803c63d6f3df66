-- The routines of code whose parts lines can say have declared conditions, contexts and handlers whose numbers have 32 bits.
use Rattle.std.proofs.Common.{◌≡◌, ℕ, ◌<◌, ◌^◌, Bool, true, ◌&&◌, List, [], ◌∷◌, length, ap, ◌∙◌, arith}
use Rattle.std.proofs.lemmas.Bool.{lt-ltb}
use Rattle.std.proofs.lemmas.List.Elements.{All-nil, All-cons}
use Rattle.std.specs.Prelude.{nat_lt, All, IsTrue}
use Rattle.psm_cond.specs.WellFormed.{is_numbered}
use Rattle.psm_code.specs.declared.code.RawRoutine.{RawRoutine}
use Rattle.psm_load_line.specs.Heads.{EachIs, IsIndex}
use Rattle.psm_load.specs.Listed.{IsListedRoutine}

below : (n : ℕ) → IsIndex n → nat_lt n (2 ^ 32) ≡ true
below n h = lt-ltb n (2 ^ 32) (omega (arith, h))

both : (a b : Bool) → a ≡ true → b ≡ true → (a && b) ≡ true
both a b e f = ap (λ x. x && b) e ∙ f

numbered : (r : RawRoutine) → IsListedRoutine r → is_numbered r.handlers ≡ true
numbered r h =
    let c = h.head.1.1.0 in
    both (nat_lt (length r.handlers.declared) (2 ^ 32) && nat_lt (length r.handlers.contexts) (2 ^ 32)) (nat_lt (length r.handlers.handlers) (2 ^ 32))
    (both (nat_lt (length r.handlers.declared) (2 ^ 32)) (nat_lt (length r.handlers.contexts) (2 ^ 32)) (below (length r.handlers.declared) c.0) (below (length r.handlers.contexts) c.1.0))
    (below (length r.handlers.handlers) c.1.1.0)

pub numbered_handlers : (rs : List RawRoutine) → EachIs IsListedRoutine rs → All (λ r. IsTrue (is_numbered r.handlers)) rs
numbered_handlers [] h = All-nil (λ (r : RawRoutine). IsTrue (is_numbered r.handlers))
numbered_handlers (r ∷ rs) h = All-cons (λ (r : RawRoutine). IsTrue (is_numbered r.handlers)) r rs (numbered r h.0) (numbered_handlers rs h.1)
