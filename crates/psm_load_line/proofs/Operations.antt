-- Operations are read as they are written.
use Rattle.std.proofs.Common.{◌≡◌, ℕ, ◌≤◌, true, List, [], ◌∷◌, ◌++◌, Some, refl, arith}
use Rattle.std.specs.Prelude.{codes}
use Rattle.psm_text.specs.declared.parts.Side.{Side}
use Rattle.psm_text.specs.declared.parts.Side.TheVariants.{Leading, Trailing, Both}
use Rattle.psm_value.specs.declared.datum.Datum.{Datum}
use Rattle.psm_exprcode.specs.declared.op.Letter.{Letter}
use Rattle.psm_exprcode.specs.declared.op.Letter.TheVariants.{N, T, B}
use Rattle.psm_exprcode.specs.declared.op.Op.{Op}
use Rattle.psm_exprcode.specs.declared.op.Op.TheVariants as op
use Rattle.psm_exprcode.specs.Kinds.{is_value}
use Rattle.psm_words.specs.Words.{datum_word, number, stack_word, type_word, FitsType, IsDatum}
use Rattle.psm_words.specs.Reading.{datum_at, number_at, type_at}
use Rattle.psm_object.specs.Expressions.{operation_details, operation_mnemonic, side_word}
use Rattle.psm_object.specs.Words.{further}
use Rattle.psm_load_line.specs.Heads.{IsIndex, IsOperation}
use Rattle.psm_load_line.specs.OperationForms.{constant_at, operations, sides, value_letters, with_number}
use Rattle.psm_load_line.specs.Readers.{alone, both, chosen, index_at, last, made, one_of, word}
use Rattle.psm_load_line.proofs.Spelled.{◌&◌, alone_after, ends, field, is_solid, made_after, made_again, pair, table_word, After, Found, Leads, Rest, Spelled}
use Rattle.psm_load_line.proofs.Words.{datum_spelled, index_spelled, number_spelled, type_spelled}

abbrev pub name : Op → List ℕ
name = operation_mnemonic

-- ---- what stands after a mnemonic

letter_spelled : Spelled (λ k. stack_word (k ∷ [])) (λ k. is_value k ≡ true) (one_of value_letters)
letter_spelled = table_word (λ k. stack_word (k ∷ [])) (λ k. is_value k ≡ true) value_letters solid found ((refl, refl), ((refl, refl), tt)) where
  solid : (k : Letter) → is_value k ≡ true → is_solid (stack_word (k ∷ [])) ≡ true
  solid N v = refl
  solid T v = refl
  solid B v = refl

  found : (k : Letter) → is_value k ≡ true → chosen value_letters (stack_word (k ∷ [])) ≡ Some k
  found N v = refl
  found T v = refl
  found B v = absurd (cc)

side_spelled : Spelled side_word (λ s. Unit {0}) (one_of sides)
side_spelled = table_word side_word (λ s. Unit {0}) sides solid found ((refl, tt), ((refl, tt), ((refl, tt), tt))) where
  solid : (s : Side) → Unit {0} → is_solid (side_word s) ≡ true
  solid Leading v = refl
  solid Trailing v = refl
  solid Both v = refl

  found : (s : Side) → Unit {0} → chosen sides (side_word s) ≡ Some s
  found Leading v = refl
  found Trailing v = refl
  found Both v = refl

abbrev constant_words : Letter × Datum → List (List ℕ)
constant_words x = (stack_word (x.0 ∷ []) ∷ []) ++ (datum_word x.1 ∷ [])

abbrev IsConstant : Letter × Datum → Type 0
IsConstant x = (is_value x.0 ≡ true) × IsDatum x.1

constant_rest : Rest constant_words IsConstant (last (both (word (one_of value_letters)) (word datum_at)))
constant_rest = ends constant_words IsConstant (both (word (one_of value_letters)) (word datum_at)) (
    pair (λ k. stack_word (k ∷ []) ∷ []) (λ k. is_value k ≡ true) (word (one_of value_letters)) (λ d. datum_word d ∷ []) IsDatum (word datum_at)
    (field (λ k. stack_word (k ∷ [])) (λ k. is_value k ≡ true) (one_of value_letters) letter_spelled) (field datum_word IsDatum datum_at datum_spelled)
    )

pub number_rest : Rest (λ n. number n ∷ []) IsIndex (last (word index_at))
number_rest = ends (λ n. number n ∷ []) IsIndex (word index_at) (field number IsIndex index_at index_spelled)

scale_rest : Rest (λ n. number n ∷ []) (λ n. n ≤ 255) (last (word (number_at 255)))
scale_rest = ends (λ n. number n ∷ []) (λ n. n ≤ 255) (word (number_at 255)) (field number (λ n. n ≤ 255) (number_at 255) (number_spelled 255 (omega arith)))

side_rest : Rest (λ s. side_word s ∷ []) (λ s. Unit {0}) (last (word (one_of sides)))
side_rest = ends (λ s. side_word s ∷ []) (λ s. Unit {0}) (word (one_of sides)) (field side_word (λ s. Unit {0}) (one_of sides) side_spelled)

type_rest : Rest (λ k. type_word k ∷ []) FitsType (last (word type_at))
type_rest = ends (λ k. type_word k ∷ []) FitsType (word type_at) (field type_word FitsType type_at type_spelled)

again_made : (make : ℕ → Op) (n : ℕ) → IsIndex n → with_number make (further (number n ∷ [])) ≡ Some (make n)
again_made make n v = made_again name operation_details IsOperation (λ n. number n ∷ []) IsIndex (last (word index_at)) make number_rest n v

after_number : (w : List ℕ) (make : ℕ → Op) → ((n : ℕ) → name (make n) ≡ w) → ((n : ℕ) → operation_details (make n) ≡ number n ∷ []) → ((n : ℕ) → IsIndex n → IsOperation (make n)) → After name operation_details IsOperation w (with_number make)
after_number w make n d v = made_after name operation_details IsOperation w (λ n. number n ∷ []) IsIndex (last (word index_at)) make number_rest n d v

-- ---- all operations

pub operation_solid : (o : Op) → is_solid (name o) ≡ true
operation_solid (op.Constant k d) = refl
operation_solid (op.Variable n) = refl
operation_solid (op.Column n) = refl
operation_solid op.Duplicate = refl
operation_solid op.Drop = refl
operation_solid op.DropBelow = refl
operation_solid op.Negate = refl
operation_solid op.Add = refl
operation_solid op.Subtract = refl
operation_solid op.Multiply = refl
operation_solid op.Divide = refl
operation_solid (op.Rescale n) = refl
operation_solid op.Concatenate = refl
operation_solid op.CharacterLength = refl
operation_solid op.Position = refl
operation_solid op.SubstringFrom = refl
operation_solid op.SubstringFromFor = refl
operation_solid (op.Trim n) = refl
operation_solid op.Upper = refl
operation_solid op.Lower = refl
operation_solid op.Equal = refl
operation_solid op.NotEqual = refl
operation_solid op.Less = refl
operation_solid op.LessOrEqual = refl
operation_solid op.Greater = refl
operation_solid op.GreaterOrEqual = refl
operation_solid op.And = refl
operation_solid op.Or = refl
operation_solid op.Not = refl
operation_solid op.IsNull = refl
operation_solid op.Like = refl
operation_solid op.LikeEscape = refl
operation_solid op.Between = refl
operation_solid (op.In n) = refl
operation_solid op.NullIf = refl
operation_solid (op.Cast n) = refl
operation_solid (op.Jump n) = refl
operation_solid (op.JumpUnlessTrue n) = refl
operation_solid (op.JumpUnlessNull n) = refl

pub operation_found : Found name operation_details IsOperation operations
operation_found (op.Constant k d) v = (constant_at, refl, made_again name operation_details IsOperation constant_words IsConstant (last (both (word (one_of value_letters)) (word datum_at))) (λ x. op.Constant x.0 x.1) constant_rest (k, d) v)
operation_found (op.Variable n) v = (with_number op.Variable, refl, again_made op.Variable n v)
operation_found (op.Column n) v = (with_number op.Column, refl, again_made op.Column n v)
operation_found op.Duplicate v = (alone op.Duplicate, refl, refl)
operation_found op.Drop v = (alone op.Drop, refl, refl)
operation_found op.DropBelow v = (alone op.DropBelow, refl, refl)
operation_found op.Negate v = (alone op.Negate, refl, refl)
operation_found op.Add v = (alone op.Add, refl, refl)
operation_found op.Subtract v = (alone op.Subtract, refl, refl)
operation_found op.Multiply v = (alone op.Multiply, refl, refl)
operation_found op.Divide v = (alone op.Divide, refl, refl)
operation_found (op.Rescale s) v = (made op.Rescale (last (word (number_at 255))), refl, made_again name operation_details IsOperation (λ n. number n ∷ []) (λ n. n ≤ 255) (last (word (number_at 255))) op.Rescale scale_rest s v)
operation_found op.Concatenate v = (alone op.Concatenate, refl, refl)
operation_found op.CharacterLength v = (alone op.CharacterLength, refl, refl)
operation_found op.Position v = (alone op.Position, refl, refl)
operation_found op.SubstringFrom v = (alone op.SubstringFrom, refl, refl)
operation_found op.SubstringFromFor v = (alone op.SubstringFromFor, refl, refl)
operation_found (op.Trim side) v = (made op.Trim (last (word (one_of sides))), refl, made_again name operation_details IsOperation (λ s. side_word s ∷ []) (λ s. Unit {0}) (last (word (one_of sides))) op.Trim side_rest side tt)
operation_found op.Upper v = (alone op.Upper, refl, refl)
operation_found op.Lower v = (alone op.Lower, refl, refl)
operation_found op.Equal v = (alone op.Equal, refl, refl)
operation_found op.NotEqual v = (alone op.NotEqual, refl, refl)
operation_found op.Less v = (alone op.Less, refl, refl)
operation_found op.LessOrEqual v = (alone op.LessOrEqual, refl, refl)
operation_found op.Greater v = (alone op.Greater, refl, refl)
operation_found op.GreaterOrEqual v = (alone op.GreaterOrEqual, refl, refl)
operation_found op.And v = (alone op.And, refl, refl)
operation_found op.Or v = (alone op.Or, refl, refl)
operation_found op.Not v = (alone op.Not, refl, refl)
operation_found op.IsNull v = (alone op.IsNull, refl, refl)
operation_found op.Like v = (alone op.Like, refl, refl)
operation_found op.LikeEscape v = (alone op.LikeEscape, refl, refl)
operation_found op.Between v = (alone op.Between, refl, refl)
operation_found (op.In n) v = (with_number op.In, refl, again_made op.In n v)
operation_found op.NullIf v = (alone op.NullIf, refl, refl)
operation_found (op.Cast to) v = (made op.Cast (last (word type_at)), refl, made_again name operation_details IsOperation (λ k. type_word k ∷ []) FitsType (last (word type_at)) op.Cast type_rest to v)
operation_found (op.Jump n) v = (with_number op.Jump, refl, again_made op.Jump n v)
operation_found (op.JumpUnlessTrue n) v = (with_number op.JumpUnlessTrue, refl, again_made op.JumpUnlessTrue n v)
operation_found (op.JumpUnlessNull n) v = (with_number op.JumpUnlessNull, refl, again_made op.JumpUnlessNull n v)

pub operation_leads : Leads name operation_details IsOperation operations
operation_leads =
    made_after name operation_details IsOperation (codes "CONST") constant_words IsConstant (last (both (word (one_of value_letters)) (word datum_at))) (λ x. op.Constant x.0 x.1) constant_rest (λ x. refl) (λ x. refl) (λ x v. v)
    & after_number (name (op.Variable 0)) op.Variable (λ n. refl) (λ n. refl) (λ n v. v)
    & after_number (name (op.Column 0)) op.Column (λ n. refl) (λ n. refl) (λ n v. v)
    & alone_after name operation_details IsOperation (name op.Duplicate) op.Duplicate refl refl tt
    & alone_after name operation_details IsOperation (name op.Drop) op.Drop refl refl tt
    & alone_after name operation_details IsOperation (name op.DropBelow) op.DropBelow refl refl tt
    & alone_after name operation_details IsOperation (name op.Negate) op.Negate refl refl tt
    & alone_after name operation_details IsOperation (name op.Add) op.Add refl refl tt
    & alone_after name operation_details IsOperation (name op.Subtract) op.Subtract refl refl tt
    & alone_after name operation_details IsOperation (name op.Multiply) op.Multiply refl refl tt
    & alone_after name operation_details IsOperation (name op.Divide) op.Divide refl refl tt
    & made_after name operation_details IsOperation (codes "SCALE") (λ n. number n ∷ []) (λ n. n ≤ 255) (last (word (number_at 255))) op.Rescale scale_rest (λ n. refl) (λ n. refl) (λ n v. v)
    & alone_after name operation_details IsOperation (name op.Concatenate) op.Concatenate refl refl tt
    & alone_after name operation_details IsOperation (name op.CharacterLength) op.CharacterLength refl refl tt
    & alone_after name operation_details IsOperation (name op.Position) op.Position refl refl tt
    & alone_after name operation_details IsOperation (name op.SubstringFrom) op.SubstringFrom refl refl tt
    & alone_after name operation_details IsOperation (name op.SubstringFromFor) op.SubstringFromFor refl refl tt
    & made_after name operation_details IsOperation (codes "TRIM") (λ s. side_word s ∷ []) (λ s. Unit {0}) (last (word (one_of sides))) op.Trim side_rest (λ s. refl) (λ s. refl) (λ s v. tt)
    & alone_after name operation_details IsOperation (name op.Upper) op.Upper refl refl tt
    & alone_after name operation_details IsOperation (name op.Lower) op.Lower refl refl tt
    & alone_after name operation_details IsOperation (name op.Equal) op.Equal refl refl tt
    & alone_after name operation_details IsOperation (name op.NotEqual) op.NotEqual refl refl tt
    & alone_after name operation_details IsOperation (name op.Less) op.Less refl refl tt
    & alone_after name operation_details IsOperation (name op.LessOrEqual) op.LessOrEqual refl refl tt
    & alone_after name operation_details IsOperation (name op.Greater) op.Greater refl refl tt
    & alone_after name operation_details IsOperation (name op.GreaterOrEqual) op.GreaterOrEqual refl refl tt
    & alone_after name operation_details IsOperation (name op.And) op.And refl refl tt
    & alone_after name operation_details IsOperation (name op.Or) op.Or refl refl tt
    & alone_after name operation_details IsOperation (name op.Not) op.Not refl refl tt
    & alone_after name operation_details IsOperation (name op.IsNull) op.IsNull refl refl tt
    & alone_after name operation_details IsOperation (name op.Like) op.Like refl refl tt
    & alone_after name operation_details IsOperation (name op.LikeEscape) op.LikeEscape refl refl tt
    & alone_after name operation_details IsOperation (name op.Between) op.Between refl refl tt
    & after_number (name (op.In 0)) op.In (λ n. refl) (λ n. refl) (λ n v. v)
    & alone_after name operation_details IsOperation (name op.NullIf) op.NullIf refl refl tt
    & made_after name operation_details IsOperation (codes "CAST") (λ k. type_word k ∷ []) FitsType (last (word type_at)) op.Cast type_rest (λ k. refl) (λ k. refl) (λ k v. v)
    & after_number (name (op.Jump 0)) op.Jump (λ n. refl) (λ n. refl) (λ n v. v)
    & after_number (name (op.JumpUnlessTrue 0)) op.JumpUnlessTrue (λ n. refl) (λ n. refl) (λ n v. v)
    & after_number (name (op.JumpUnlessNull 0)) op.JumpUnlessNull (λ n. refl) (λ n. refl) (λ n v. v)
    & tt
