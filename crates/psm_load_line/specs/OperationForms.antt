-- How the operations of a listing are read.
use Rattle.std.specs.Prelude.{ℕ, List, [], ◌∷◌, codes}
use Rattle.psm_text.specs.declared.parts.Side.{Side}
use Rattle.psm_text.specs.declared.parts.Side.TheVariants.{Leading, Trailing, Both}
use Rattle.psm_exprcode.specs.declared.op.Letter.{Letter}
use Rattle.psm_exprcode.specs.declared.op.Letter.TheVariants.{N, T}
use Rattle.psm_exprcode.specs.declared.op.Op.{Op}
use Rattle.psm_exprcode.specs.declared.op.Op.TheVariants as op
use Rattle.psm_words.specs.Reading.{datum_at, number_at, type_at}
use Rattle.psm_load_line.specs.Readers.{alone, both, index_at, last, line, made, one_of, word, LineReader}

abbrev pub with_number : (ℕ → Op) → LineReader Op
with_number make = made make (last (word index_at))

abbrev pub value_letters : List (List ℕ × Letter)
value_letters = (codes "N", N) ∷ (codes "T", T) ∷ []

abbrev pub sides : List (List ℕ × Side)
sides = (codes "L", Leading) ∷ (codes "T", Trailing) ∷ (codes "B", Both) ∷ []

abbrev pub constant_at : LineReader Op
constant_at = made (λ x. op.Constant x.0 x.1) (last (both (word (one_of value_letters)) (word datum_at)))

-- the mnemonics, and how the rest of the line is read after each
abbrev pub operations : List (List ℕ × LineReader Op)
operations =
    (codes "CONST", constant_at)
    ∷ (codes "VAR", with_number op.Variable)
    ∷ (codes "COL", with_number op.Column)
    ∷ (codes "DUP", alone op.Duplicate)
    ∷ (codes "DROP", alone op.Drop)
    ∷ (codes "NIP", alone op.DropBelow)
    ∷ (codes "NEG", alone op.Negate)
    ∷ (codes "ADD", alone op.Add)
    ∷ (codes "SUB", alone op.Subtract)
    ∷ (codes "MUL", alone op.Multiply)
    ∷ (codes "DIV", alone op.Divide)
    ∷ (codes "SCALE", made op.Rescale (last (word (number_at 255))))
    ∷ (codes "CAT", alone op.Concatenate)
    ∷ (codes "LEN", alone op.CharacterLength)
    ∷ (codes "POS", alone op.Position)
    ∷ (codes "SUB2", alone op.SubstringFrom)
    ∷ (codes "SUB3", alone op.SubstringFromFor)
    ∷ (codes "TRIM", made op.Trim (last (word (one_of sides))))
    ∷ (codes "UP", alone op.Upper)
    ∷ (codes "LOW", alone op.Lower)
    ∷ (codes "EQ", alone op.Equal)
    ∷ (codes "NE", alone op.NotEqual)
    ∷ (codes "LT", alone op.Less)
    ∷ (codes "LE", alone op.LessOrEqual)
    ∷ (codes "GT", alone op.Greater)
    ∷ (codes "GE", alone op.GreaterOrEqual)
    ∷ (codes "AND", alone op.And)
    ∷ (codes "OR", alone op.Or)
    ∷ (codes "NOT", alone op.Not)
    ∷ (codes "ISNULL", alone op.IsNull)
    ∷ (codes "LIKE", alone op.Like)
    ∷ (codes "LIKEE", alone op.LikeEscape)
    ∷ (codes "BETW", alone op.Between)
    ∷ (codes "IN", with_number op.In)
    ∷ (codes "NULLIF", alone op.NullIf)
    ∷ (codes "CAST", made op.Cast (last (word type_at)))
    ∷ (codes "JMP", with_number op.Jump)
    ∷ (codes "JNOT", with_number op.JumpUnlessTrue)
    ∷ (codes "JSET", with_number op.JumpUnlessNull)
    ∷ []

-- EXPR m: how many lines follow
abbrev pub expression_at : LineReader ℕ
expression_at = line (codes "EXPR") (last (word index_at))
