-- The table of operations: the mnemonic of each, the letters of the operands that it takes, and those that it puts in their
-- place (ISO/IEC 9075:1992, clauses 6 and 8). Letters stand with the last operand first.
use Rattle.std.specs.Prelude.{ℕ, suc, List, [], ◌∷◌, ◌++◌, codes, length, replicate, Option, Some, None}
use Rattle.psm_exprcode.specs.declared.op.Letter.{Letter}
use Rattle.psm_exprcode.specs.declared.op.Letter.TheVariants.{N, T, B}
use Rattle.psm_exprcode.specs.declared.op.Op.{Op}
use Rattle.psm_exprcode.specs.declared.op.Op.TheVariants as op
use Rattle.psm_exprcode.specs.Kinds.{letter_of}

pub record Effect : Type 0 where
  pub mnemonic : List ℕ
  pub takes : List Letter
  -- what it puts where it goes on at the line that follows, if it ever does
  pub fall_through : Option (List Letter)
  -- the line at which it may go on instead, and what it puts there
  pub branching : Option (ℕ × List Letter)

-- an operation that goes on at the line that follows
abbrev pub plain : List ℕ → List Letter → List Letter → Effect
plain name takes puts = record { mnemonic = name; takes = takes; fall_through = Some puts; branching = None }

-- one that may jump
abbrev pub jumping : List ℕ → List Letter → Option (List Letter) → ℕ → List Letter → Effect
jumping name takes fall_through p there = record { mnemonic = name; takes = takes; fall_through = fall_through; branching = Some (p, there) }

-- k is the letter of a value, N or T, and x is any letter
abbrev pub effect : Op → Letter → Letter → Effect
effect (op.Constant l d) k x = plain (codes "CONST") [] (l ∷ [])
effect (op.Variable i) k x = plain (codes "VAR") [] (k ∷ [])
effect (op.Column i) k x = plain (codes "COL") [] (k ∷ [])
effect op.Duplicate k x = plain (codes "DUP") (k ∷ []) (k ∷ k ∷ [])
effect op.Drop k x = plain (codes "DROP") (k ∷ []) []
effect op.DropBelow k x = plain (codes "NIP") (x ∷ k ∷ []) (x ∷ [])
effect op.Negate k x = plain (codes "NEG") (N ∷ []) (N ∷ [])
effect op.Add k x = plain (codes "ADD") (N ∷ N ∷ []) (N ∷ [])
effect op.Subtract k x = plain (codes "SUB") (N ∷ N ∷ []) (N ∷ [])
effect op.Multiply k x = plain (codes "MUL") (N ∷ N ∷ []) (N ∷ [])
effect op.Divide k x = plain (codes "DIV") (N ∷ N ∷ []) (N ∷ [])
effect (op.Rescale s) k x = plain (codes "SCALE") (N ∷ []) (N ∷ [])
effect op.Concatenate k x = plain (codes "CAT") (T ∷ T ∷ []) (T ∷ [])
effect op.CharacterLength k x = plain (codes "LEN") (T ∷ []) (N ∷ [])
effect op.Position k x = plain (codes "POS") (T ∷ T ∷ []) (N ∷ [])
effect op.SubstringFrom k x = plain (codes "SUB2") (N ∷ T ∷ []) (T ∷ [])
effect op.SubstringFromFor k x = plain (codes "SUB3") (N ∷ N ∷ T ∷ []) (T ∷ [])
effect (op.Trim side) k x = plain (codes "TRIM") (T ∷ []) (T ∷ [])
effect op.Upper k x = plain (codes "UP") (T ∷ []) (T ∷ [])
effect op.Lower k x = plain (codes "LOW") (T ∷ []) (T ∷ [])
effect op.Equal k x = plain (codes "EQ") (k ∷ k ∷ []) (B ∷ [])
effect op.NotEqual k x = plain (codes "NE") (k ∷ k ∷ []) (B ∷ [])
effect op.Less k x = plain (codes "LT") (k ∷ k ∷ []) (B ∷ [])
effect op.LessOrEqual k x = plain (codes "LE") (k ∷ k ∷ []) (B ∷ [])
effect op.Greater k x = plain (codes "GT") (k ∷ k ∷ []) (B ∷ [])
effect op.GreaterOrEqual k x = plain (codes "GE") (k ∷ k ∷ []) (B ∷ [])
effect op.And k x = plain (codes "AND") (B ∷ B ∷ []) (B ∷ [])
effect op.Or k x = plain (codes "OR") (B ∷ B ∷ []) (B ∷ [])
effect op.Not k x = plain (codes "NOT") (B ∷ []) (B ∷ [])
effect op.IsNull k x = plain (codes "ISNULL") (k ∷ []) (B ∷ [])
effect op.Like k x = plain (codes "LIKE") (T ∷ T ∷ []) (B ∷ [])
effect op.LikeEscape k x = plain (codes "LIKEE") (T ∷ T ∷ T ∷ []) (B ∷ [])
effect op.Between k x = plain (codes "BETW") (k ∷ k ∷ k ∷ []) (B ∷ [])
effect (op.In n) k x = plain (codes "IN") (replicate n k ++ k ∷ []) (B ∷ [])
effect op.NullIf k x = plain (codes "NULLIF") (k ∷ k ∷ []) (k ∷ [])
effect (op.Cast to) k x = plain (codes "CAST") (k ∷ []) (letter_of to ∷ [])
effect (op.Jump p) k x = jumping (codes "JMP") [] None p []
effect (op.JumpUnlessTrue p) k x = jumping (codes "JNOT") (B ∷ []) (Some []) p []
effect (op.JumpUnlessNull p) k x = jumping (codes "JSET") (k ∷ []) (Some []) p (k ∷ [])

-- how many operands are gone after a refusal: those that it takes, but that DUP leaves its own
abbrev pub taken : Op → ℕ
taken op.Duplicate = 0
taken (op.In n) = suc n
taken o = length (effect o N N).takes
