-- Pieces that are put into a sink one after the other.
use Rattle.std.specs.Prelude.{◌≡◌, ℕ, List, [], ◌∷◌, ◌++◌, take, Option}
use Rattle.psm_io.specs.Count.{Rose}
use Rattle.psm_io.specs.Sink.{Grew}

-- the pieces joined
abbrev pub joined : List (List ℕ) → List ℕ
joined [] = []
joined (p ∷ ps) = p ++ joined ps

-- what a sink holds, if it is known, and its count of faults, before and after a call
pub record Sunk : Type 0 where
  pub before : Option (List ℕ)
  pub after : Option (List ℕ)
  pub faults_before : ℕ
  pub faults_after : ℕ

-- the same of a sink as it was and as it is
abbrev pub sunk_of : {K : Type 0} → (K → Option (List ℕ)) → (K → ℕ) → K → K → Sunk
sunk_of written faults old new = record { before = written old; after = written new; faults_before = faults old; faults_after = faults new }

-- all pieces were put
pub record PutAll (sunk : Sunk) (pieces : List (List ℕ)) : Type 0 where
  pub written : Grew sunk.before sunk.after (joined pieces)
  pub no_fault : sunk.faults_after ≡ sunk.faults_before

-- a put failed, and a prefix of the pieces joined is written
pub record PutSome (sunk : Sunk) (pieces : List (List ℕ)) : Type 0 where
  pub kept : ℕ
  pub written : Grew sunk.before sunk.after (take kept (joined pieces))
  pub rose : Rose sunk.faults_before sunk.faults_after

-- the pieces were put, and then a put of another failed, of which a prefix is written
pub record PutUpTo (sunk : Sunk) (pieces : List (List ℕ)) (failed : List ℕ) : Type 0 where
  pub kept : ℕ
  pub written : Grew sunk.before sunk.after (joined pieces ++ take kept failed)
  pub rose : Rose sunk.faults_before sunk.faults_after

-- memory ran out after the first n pieces
pub record PutFirst (sunk : Sunk) (pieces : List (List ℕ)) : Type 0 where
  pub count : ℕ
  pub written : Grew sunk.before sunk.after (joined (take count pieces))
  pub no_fault : sunk.faults_after ≡ sunk.faults_before
