-- What the fetches of a call give of the files that are fetched.
use Rattle.std.specs.Prelude.{◌≡◌, ◌≢◌, ℕ, ◌<◌, ◌≤◌, List, length, Option, IfSome, Result, Ok, Err}
use Rattle.std.specs.Global.{Vec}
use Rattle.psm_io.specs.Count.{Rose}
use Rattle.psm_files.specs.declared.file.FetchFault.{FetchFault}
use Rattle.psm_files.specs.declared.file.FetchFault.TheVariants.{Unread, TooLong, Memory}

-- the most bytes of a file
abbrev pub most_bytes : ℕ
most_bytes = 16777216

-- what a shelf holds of each name, if it is known, and how often a fetch of a name had failed, before and after a call
pub record Fetches : Type 0 where
  pub held : List ℕ → Option (List ℕ)
  pub before : List ℕ → ℕ
  pub after : List ℕ → ℕ

-- the same of a shelf as it was and as it is
abbrev pub fetches_of : {F : Type 0} → (F → List ℕ → Option (List ℕ)) → (F → List ℕ → ℕ) → F → F → Fetches
fetches_of held faults old new = record { held = held old; before = faults old; after = faults new }

-- the contents of a file are those that the shelf holds, where these are known
abbrev pub AreHeld : Option (List ℕ) → List ℕ → Type 0
AreHeld contents bytes = IfSome contents (λ held. held ≡ bytes)

-- no fetch failed
abbrev pub NoneFailed : Fetches → Type 0
NoneFailed fetches = (name : List ℕ) → fetches.after name ≡ fetches.before name

-- ---- a fetch of one name

-- the bytes that it gave
pub record IsRead (fetches : Fetches) (name bytes : List ℕ) : Type 0 where
  pub contents : AreHeld (fetches.held name) bytes
  pub short : length bytes ≤ most_bytes
  pub none_failed : NoneFailed fetches

-- it failed, and none of another name
pub record IsUnread (fetches : Fetches) (name : List ℕ) : Type 0 where
  pub rose : Rose (fetches.before name) (fetches.after name)
  pub others : (other : List ℕ) → other ≢ name → fetches.after other ≡ fetches.before other

-- the file is too long
pub record IsTooLong (fetches : Fetches) (name : List ℕ) : Type 0 where
  pub bytes : List ℕ
  pub contents : AreHeld (fetches.held name) bytes
  pub long : most_bytes < length bytes
  pub none_failed : NoneFailed fetches

-- the bytes, or why there are none; where memory ran out no fetch failed
abbrev pub Gets : Fetches → List ℕ → Result (Vec ℕ) FetchFault → Type 0
Gets fetches name (Ok bytes) = IsRead fetches name bytes.items
Gets fetches name (Err Unread) = IsUnread fetches name
Gets fetches name (Err TooLong) = IsTooLong fetches name
Gets fetches name (Err Memory) = NoneFailed fetches
