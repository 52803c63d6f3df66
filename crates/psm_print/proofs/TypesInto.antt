-- Names, types and constants go over into printed ones.
use Rattle.std.proofs.Common.{◌≡◌, inl, inr, List, map, [], ◌++◌, Option, Some, None, option_map, refl, sym, ap, ◌∙◌}
use Rattle.psm_num.specs.Num.{Num}
use Rattle.psm_token.specs.declared.place.Place.{Place}
use Rattle.psm_token.specs.declared.word.Word.TheVariants as w
use Rattle.psm_token.specs.declared.sign.Sign.TheVariants as s
use Rattle.psm_token.specs.declared.token.Token.{Token}
use Rattle.psm_token.specs.declared.token.Placed.{Placed}
use Rattle.psm_grammar.specs.Language.{Words}
use Rattle.psm_grammar.specs.Grammar.{token, seq}
use Rattle.psm_tree.specs.Tests.{At, char_word}
use Rattle.psm_tree.specs.ExprValues.{formed, precision_of}
use Rattle.psm_tree.specs.ExprGrammar
use Rattle.psm_tree.specs.ExprGrammar.{target, next_names, names, names_in_parens, targets, type_length, precision, numeric_type, varchar_type, plain_type, varying, char_length, char_type, data_type, constant}
use Rattle.psm_tree.specs.declared.types.TypeForm.{TypeForm}
use Rattle.psm_tree.specs.declared.types.TypeForm.TheVariants as forms
use Rattle.psm_print.specs.Spelling.{word, sign, perhaps, each}
use Rattle.psm_print.specs.ExprTokens.{name_tokens, target_tokens, names_tokens, enclosed_names_tokens, targets_tokens, number_tokens, precision_tokens, length_tokens, type_tokens, constant_tokens}
use Rattle.psm_print.proofs.Into.{PrintContext, Into, said, into_seq, into_seq_if, left_out, or_from, or_left, or_right, into_or, seq_or, into_image, into_nothing, into_perhaps, into_each}
use Rattle.psm_print.proofs.Tokens.{into_word, after_sign, into_parens, into_commas}
use Rattle.psm_print.proofs.Chosen.{into_name, into_number, into_text, into_plus_minus, into_integer, into_numeric, into_char, char_into_varchar}

-- ---- names

pub target_into : {z : PrintContext} → Into z target target target_tokens
unfolding ExprGrammar.all_expressions
target_into = into_seq target_tokens into_name (into_perhaps (sign s.Period) name_tokens (after_sign s.Period into_name) (λ x. refl)) (λ x y. refl)

pub next_names_into : {z : PrintContext} → Into z next_names next_names (λ xs. each (sign s.Comma) (map name_tokens xs))
unfolding ExprGrammar.all_expressions
next_names_into = into_each (sign s.Comma) name_tokens (after_sign s.Comma into_name) (λ x. refl)

pub names_into : {z : PrintContext} → Into z names names names_tokens
unfolding ExprGrammar.all_expressions
names_into = into_commas name_tokens into_name

pub names_in_parens_into : {z : PrintContext} → Into z names_in_parens names_in_parens enclosed_names_tokens
unfolding ExprGrammar.all_expressions
names_in_parens_into = into_parens names_into

pub targets_into : {z : PrintContext} → Into z targets targets targets_tokens
unfolding ExprGrammar.all_expressions
targets_into = into_commas target_tokens target_into

-- ---- types

type_length_into : {z : PrintContext} → Into z type_length type_length (λ n. length_tokens n.value)
unfolding ExprGrammar.all_expressions
type_length_into = into_parens into_number

precision_equal : (x : At Num) (y : Option (At Num)) → number_tokens x.value ++ perhaps (sign s.Comma) (option_map (λ n. number_tokens n.value) y) ≡ number_tokens (precision_of x y).precision ++ perhaps (sign s.Comma) (option_map number_tokens (precision_of x y).scale)
precision_equal x None = refl
precision_equal x (Some y) = refl

precision_into : {z : PrintContext} → Into z precision precision precision_tokens
unfolding ExprGrammar.all_expressions
precision_into = into_parens (into_seq (λ p. number_tokens p.precision ++ perhaps (sign s.Comma) (option_map number_tokens p.scale)) into_number
    (into_perhaps (sign s.Comma) (λ n. number_tokens n.value) (after_sign s.Comma into_number) (λ x. refl)) precision_equal)

numeric_into : {z : PrintContext} → Into z numeric_type numeric_type type_tokens
unfolding ExprGrammar.all_expressions
numeric_into = into_seq type_tokens into_numeric (into_perhaps [] precision_tokens precision_into (λ x. refl)) (λ x y. refl)

-- the length after CHAR or VARCHAR
abbrev pub rest_tokens : TypeForm → List Token
rest_tokens (forms.VarChar length) = length_tokens length
rest_tokens (forms.Char length) = perhaps [] (option_map length_tokens length)
rest_tokens _ = []

abbrev IsVarChar : TypeForm → Type 0
IsVarChar form = (n : Num) × (form ≡ forms.VarChar n)

abbrev pub IsChar : TypeForm → Type 0
IsChar form = (n : Option Num) × (form ≡ forms.Char n)

varchar_equal : (place : Place) (form : TypeForm) → IsVarChar form → word w.VarChar ++ rest_tokens form ≡ type_tokens (formed place form)
varchar_equal place form h = ap (λ f. word w.VarChar ++ rest_tokens f) h.1 ∙ ap (λ f. type_tokens (formed place f)) (sym h.1)

pub char_equal : (place : Place) (form : TypeForm) → IsChar form → word w.Char ++ rest_tokens form ≡ type_tokens (formed place form)
char_equal place form h = ap (λ f. word w.Char ++ rest_tokens f) h.1 ∙ ap (λ f. type_tokens (formed place f)) (sym h.1)

varchar_into : {z : PrintContext} → Into z varchar_type varchar_type type_tokens
unfolding ExprGrammar.all_expressions
varchar_into = into_seq_if type_tokens IsVarChar (λ u y l. (l.one.value, l.made)) (into_word w.VarChar) (into_image rest_tokens type_length_into (λ x. refl)) varchar_equal

pub plain_into : {z : PrintContext} → Into z plain_type plain_type type_tokens
unfolding ExprGrammar.all_expressions
plain_into = into_or (into_image type_tokens (into_word w.SmallInt) (λ x. refl)) (into_or (into_image type_tokens into_integer (λ x. refl)) (into_or numeric_into varchar_into))

-- VARYING is left out after VARCHAR
pub varying_into : {z : PrintContext} → Into z (seq formed (token char_word) varying) varchar_type type_tokens
unfolding ExprGrammar.all_expressions
varying_into = into_seq_if type_tokens IsVarChar (λ u y l. (l.right.one.value, l.made ∙ l.right.made)) char_into_varchar (left_out (into_image rest_tokens type_length_into (λ x. refl))) varchar_equal

pub char_length_into : {z : PrintContext} → Into z char_length char_length rest_tokens
unfolding ExprGrammar.all_expressions
char_length_into = into_or (into_image rest_tokens type_length_into (λ x. refl)) (into_nothing rest_tokens refl)

pub is_char : (z : PrintContext) (u : Words Placed) (y : TypeForm) → said z char_length u y → IsChar y
unfolding ExprGrammar.all_expressions
is_char z u y (inl l) = (Some l.one.value, l.made)
is_char z u y (inr l) = (None, l.made)

char_into : {z : PrintContext} → Into z (seq formed (token char_word) char_length) char_type type_tokens
unfolding ExprGrammar.all_expressions
char_into {z} = into_seq_if type_tokens IsChar (is_char z) into_char (or_right char_length_into) char_equal

pub data_type_into : {z : PrintContext} → Into z data_type data_type type_tokens
unfolding ExprGrammar.all_expressions
data_type_into = or_from (seq_or (or_right (or_right (or_right (or_right varying_into)))) (or_left char_into)) (or_right plain_into)

-- ---- constants

pub constant_into : {z : PrintContext} → Into z constant constant constant_tokens
unfolding ExprGrammar.all_expressions
constant_into = into_or (into_image constant_tokens into_number (λ x. refl)) (into_or (into_image constant_tokens into_text (λ x. refl))
    (into_or (into_image constant_tokens (into_word w.Null) (λ x. refl)) (into_seq constant_tokens into_plus_minus into_number (λ x y. refl))))
