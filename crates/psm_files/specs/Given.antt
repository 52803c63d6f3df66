-- What is expected of a call that reads a file, by what its fetches give.
use Rattle.std.specs.Prelude.{◌≡◌, ℕ, ◌<◌, ◌≤◌, ◌⊎◌, List, length, Option, Some}
use Rattle.psm_files.specs.Expected.{Expected, with_line}
use Rattle.psm_files.specs.Fetches.{Fetches, IsUnread, NoneFailed, AreHeld, most_bytes}
use Rattle.psm_files.specs.Message.{cannot_read, too_long}
use Rattle.psm_files.specs.declared.status.Status.TheVariants.{ReadFault, TooLong}

-- which bytes a fetch of a name may have given, whether one of it failed, and whether none failed
pub record Given : Type 1 where
  pub Bytes : List ℕ → List ℕ → Type 0
  pub Fails : List ℕ → Type 0
  pub NoneFails : Type 0

-- as the fetches of a call give it
abbrev pub as_fetched : Fetches → Given
as_fetched fetches = record { Bytes = λ name bytes. AreHeld (fetches.held name) bytes; Fails = IsUnread fetches; NoneFails = NoneFailed fetches }

-- as a shelf holds it of which no fetch fails
abbrev pub as_held : (List ℕ → Option (List ℕ)) → Given
as_held held = record { Bytes = λ name bytes. held name ≡ Some bytes; Fails = λ name. ⊥; NoneFails = Unit {0} }

-- ---- what is expected for a file of a name

-- it could not be read
pub record IsUnreadable (given : Given) (name : List ℕ) (expected : Expected) : Type 0 where
  pub fails : given.Fails name
  pub expected_is : expected ≡ with_line ReadFault (cannot_read name)

-- it is too long
pub record IsOverlong (given : Given) (name : List ℕ) (expected : Expected) : Type 0 where
  pub bytes : List ℕ
  pub gives : given.Bytes name bytes
  pub long : most_bytes < length bytes
  pub none_fails : given.NoneFails
  pub expected_is : expected ≡ with_line TooLong (too_long name)

-- its bytes are within the bound, and this is expected for them
pub record HasBytes (given : Given) (name : List ℕ) (For : List ℕ → Expected → Type 0) (expected : Expected) : Type 0 where
  pub bytes : List ℕ
  pub gives : given.Bytes name bytes
  pub short : length bytes ≤ most_bytes
  pub for_bytes : For bytes expected

-- what is expected for a file of that name, by what is expected for its bytes
abbrev pub ForFile : Given → List ℕ → (List ℕ → Expected → Type 0) → Expected → Type 0
ForFile given name For expected = IsUnreadable given name expected ⊎ IsOverlong given name expected ⊎ HasBytes given name For expected
