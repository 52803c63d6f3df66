-- Functions of one number of parameters in blocks of at most 64. A set of functions of a block is a number with a bit for each of them.
use Rattle.std.specs.Prelude.{◌≡◌, ◌<◌, ◌≤◌, ℕ, ◌+◌, ◌*◌, ◌/◌, ◌%◌, ◌++◌, Bool, true, false, nat_eq, nat_le, length, map, slice_index_or, List, [], ◌∷◌, Option, Some, None, if◌then◌else◌}
use Rattle.psm_scope.specs.declared.blocks.Block.{Block}
use Rattle.psm_scope.specs.declared.blocks.Group.{Group}
use Rattle.psm_scope.specs.declared.blocks.ParameterSets.{ParameterSets}
use Rattle.psm_scope.specs.declared.kinds.ArgKind.{ArgKind}
use Rattle.psm_scope.specs.declared.kinds.ArgKind.TheVariants.{Null}
use Rattle.psm_scope.specs.Choice.{Candidate, is_number, is_text, rank}

-- ---- sets

abbrev pub bit : Bool → ℕ
bit true = 1
bit false = 0

-- the set of those that pass a test; the lowest bit is that of the first
abbrev pub set_of : (Candidate → Bool) → List Candidate → ℕ
set_of test [] = 0
set_of test (c ∷ cs) = set_of test cs * 2 + bit (test c)

-- the members of a set
abbrev pub members : ℕ → List Candidate → List Candidate
members set [] = []
members set (c ∷ cs) = if nat_eq (set % 2) 1 then c ∷ members (set / 2) cs else members (set / 2) cs

-- ---- blocks

-- the kind of the parameter at an index
abbrev pub parameter : ℕ → Candidate → ArgKind
parameter index c = slice_index_or c.1 index Null

-- the sets of one parameter
pub record HasSets (index : ℕ) (cs : List Candidate) (s : ParameterSets) : Type 0 where
  pub numbers : s.numbers ≡ set_of (λ c. is_number (parameter index c)) cs
  pub texts : s.texts ≡ set_of (λ c. is_text (parameter index c)) cs
  pub from_first : s.from_first ≡ set_of (λ c. nat_le 1 (rank (parameter index c))) cs
  pub from_second : s.from_second ≡ set_of (λ c. nat_le 2 (rank (parameter index c))) cs

-- the functions of a block, in order
pub record IsBlock (cs : List Candidate) (b : Block) : Type 0 where
  pub few : length cs ≤ 64
  pub numbers : b.numbers.items ≡ map (λ c. c.0) cs
  pub all : b.all ≡ set_of (λ c. true) cs
  pub sets : (index : ℕ) (d : ParameterSets) → index < length b.parameter_sets.items → HasSets index cs (slice_index_or b.parameter_sets.items index d)

-- blocks of `count` parameters a function, and their functions in order
abbrev pub AreBlocks : ℕ → List Candidate → List Block → Type 0
AreBlocks count cs [] = cs ≡ []
AreBlocks count cs (b ∷ bs) = (first : List Candidate) × (rest : List Candidate) × (first ++ rest ≡ cs) × (length b.parameter_sets.items ≡ count) × IsBlock first b × AreBlocks count rest bs

-- no group stands for no functions
abbrev pub IsGroup : ℕ → List Candidate → Option Group → Type 0
IsGroup count cs None = cs ≡ []
IsGroup count cs (Some g) = AreBlocks count cs g.blocks.items

-- each function has `count` parameters
abbrev pub HaveCount : ℕ → List Candidate → Type 0
HaveCount count [] = Unit {0}
HaveCount count (c ∷ cs) = (length c.1 ≡ count) × HaveCount count cs
