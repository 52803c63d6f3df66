-- A turn that is used.
use Rattle.std.proofs.Common.{◌≡◌, ℕ, suc, ap}
use Rattle.psm_code.specs.State.{Machine}
use Rattle.psm_code.specs.Steps.{Got, spent}

pub turn_used : (n left : ℕ) (m : Machine) → n ≡ suc left → spent n m ≡ record { given = Got tt; machine = record m { turns = left } }
turn_used n left m e = ap (λ k. spent k m) e
