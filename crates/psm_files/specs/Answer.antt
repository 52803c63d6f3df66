-- The status that is answered, with what is written.
use Rattle.std.specs.Prelude.{◌≡◌, ℕ, ◌⊎◌, []}
use Rattle.psm_io.specs.Count.{Rose}
use Rattle.psm_session.specs.Put.{Sunk, PutAll, PutSome, PutFirst}
use Rattle.psm_files.specs.Expected.{Expected}
use Rattle.psm_files.specs.declared.status.Status.{Status}
use Rattle.psm_files.specs.declared.status.Status.TheVariants as status

-- the status that is expected is answered, and all its pieces are written
pub record IsPut (expected : Expected) (sunk : Sunk) (answer : Status) : Type 0 where
  pub answer_is : answer ≡ expected.status
  pub put : PutAll sunk expected.pieces

-- a put failed, and a prefix of the pieces is written
pub record IsPutInPart (expected : Expected) (sunk : Sunk) (answer : Status) : Type 0 where
  pub answer_is : answer ≡ status.WriteFault
  pub put : PutSome sunk expected.pieces

-- memory ran out, and the first n of the pieces are written
pub record IsCut (expected : Expected) (sunk : Sunk) (answer : Status) : Type 0 where
  pub answer_is : answer ≡ status.Memory
  pub put : PutFirst sunk expected.pieces

-- memory ran out before, and nothing is written
pub record RunsOut (sunk : Sunk) (answer : Status) : Type 0 where
  pub answer_is : answer ≡ status.Memory
  pub put : PutAll sunk []

-- one line is put for its status, or a put failed, or memory ran out
abbrev pub PutsLine : Expected → Sunk → Status → Type 0
PutsLine expected sunk answer = IsPut expected sunk answer ⊎ IsPutInPart expected sunk answer ⊎ RunsOut sunk answer

-- ---- where nothing outside fails

-- the count didn't rise; one that stands at its last value counts as risen
abbrev pub Stayed : ℕ → ℕ → Type 0
Stayed before after = Rose before after → ⊥

-- the status that is expected, or out of memory
abbrev pub Answers : Status → Status → Type 0
Answers expected_status answer = (answer ≡ expected_status) ⊎ (answer ≡ status.Memory)

-- ---- what a call says

-- something was expected, and was put so
pub record Settles (IsExpected : Expected → Type 0) (sunk : Sunk) (answer : Status) : Type 0 where
  pub expected : Expected
  pub cause : IsExpected expected
  pub put : IsPut expected sunk answer ⊎ IsPutInPart expected sunk answer ⊎ IsCut expected sunk answer

-- each status comes for its cause, and with it stands what is written
abbrev pub Says : (Expected → Type 0) → Sunk → Status → Type 0
Says IsExpected sunk answer = Settles IsExpected sunk answer ⊎ RunsOut sunk answer

-- where no put failed, the status of all that is expected is answered, unless memory ran out
abbrev pub Completes : (Expected → Type 0) → Sunk → Status → Type 0
Completes IsExpected sunk answer = (expected : Expected) → Stayed sunk.faults_before sunk.faults_after → IsExpected expected → Answers expected.status answer
