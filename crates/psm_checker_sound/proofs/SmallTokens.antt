-- Each number among the tokens of a file has 18 decimals at most, so NULL stands in a file that is read where it may stand.
use Rattle.std.proofs.Common.{◌≡◌, ℕ, zero, suc, ◌+◌, ◌≤◌, Bool, true, false, not, ◌&&◌, List, [], ◌∷◌, ◌++◌, length, take, Ok, refl, sym, ◌∙◌, subst, inl, inr, arith}
use Rattle.std.specs.Prelude.{IsTrue, nat_eq, nat_le}
use Rattle.std.specs.List.{list_all}
use Rattle.std.proofs.lemmas.List.Folds.{list_all-append, list_all-map}
use Rattle.std.proofs.lemmas.Bool.Decides.{nat_tests}
use Rattle.psm_token.specs.Characters.{begins, is_separator}
use Rattle.psm_token.proofs.Looking.{chosen}
use Rattle.std.specs.Char.{is_ascii_alphabetic, is_ascii_digit}
use Rattle.psm_token.specs.declared.token.Placed.{Placed}
use Rattle.psm_token.specs.declared.token.Token.{Token}
use Rattle.psm_token.specs.declared.token.Token.TheVariants as tokens
use Rattle.psm_token.specs.Forms.{IsNumberForm, IsToken, IsWord, folded}
use Rattle.psm_token.specs.Fronts.{front_of}
use Rattle.psm_token.specs.Listed.{Tokens}
use Rattle.psm_token.specs.Numbers.{literal_at}
use Rattle.psm_token.specs.Spells.{At, Piece, Pieces, Spells, at_start}
use Rattle.psm_grammar.specs.Grammar.{Spells as Derives}
use Rattle.psm_grammar.specs.Language.{Words, toks}
use Rattle.psm_scope.proofs.Lists.{both}
use Rattle.psm_tree.specs.FileGrammar.{file, script}
use Rattle.psm_tree.specs.Productions.{productions}
use Rattle.psm_tree.specs.Reading.{ReadsAll}
use Rattle.psm_tree.specs.declared.file.FileTree.{FileTree}
use Rattle.psm_tree.specs.declared.script.ScriptTree.{ScriptTree}
use Rattle.psm_checker_sound.specs.Stands.{are_small, is_small}
use Rattle.psm_checker_sound.specs.StatementsStand.{FileStands}
use Rattle.psm_checker_sound.specs.ScriptsStand.{ScriptStands}
use Rattle.psm_checker_sound.proofs.StandingForms.{all_true}
use Rattle.psm_checker_sound.proofs.SpelledFiles.{files-stand, scripts-stand}

-- ---- a token

decimals_within : (whole fraction : ℕ) → whole + fraction ≤ 18 → nat_le fraction 18 ≡ true
decimals_within whole fraction h = grind (arith, nat_tests, h)

small_word : (text : List ℕ) (t : Token) → IsWord text t → IsTrue (is_small t)
small_word text (tokens.Word x) h = refl
small_word text (tokens.Name x) h = refl
small_word text (tokens.Number n) h = absurd h
small_word text (tokens.Text x) h = refl
small_word text (tokens.Sign x) h = refl

small_number : (cs : List ℕ) (n : ℕ) (t : Token) → IsNumberForm cs n t → IsTrue (is_small t)
small_number cs n t h = subst (λ t. IsTrue (is_small t)) (sym h.value) (decimals_within (length (literal_at cs).whole) (length (literal_at cs).fraction) h.limit)

-- by what the first characters are
small_token : (a : Bool) (cs : List ℕ) (n : ℕ) (t : Token) → IsToken (front_of a cs) cs n t → IsTrue (is_small t)
small_token a [] n t h = absurd h
small_token a (c ∷ cs) n t h = by (is_separator c) (is_ascii_alphabetic c) (is_ascii_digit c) (nat_eq c 34) (nat_eq c 39) (nat_eq c 45 && begins (nat_eq 45) cs) (nat_eq c 46 && not a && begins is_ascii_digit cs) h
  where
    by : (separator letter digit quote apostrophe comment point : Bool) → IsToken (chosen separator letter digit quote apostrophe comment point) (c ∷ cs) n t → IsTrue (is_small t)
    by true l d q k m p h = absurd h
    by false true d q k m p h = small_word (folded (take n (c ∷ cs))) t h.value
    by false false true q k m p h = small_number (c ∷ cs) n t h
    by false false false true k m p h = subst (λ t. IsTrue (is_small t)) (sym h.2.value) refl
    by false false false false true m p h = subst (λ t. IsTrue (is_small t)) (sym h.2.value) refl
    by false false false false false true p h = absurd h
    by false false false false false false true h = small_number (c ∷ cs) n t h
    by false false false false false false false h = subst (λ t. IsTrue (is_small t)) (sym h.value) refl

-- ---- the tokens of a file

abbrev AllSmall : List Placed → Type 0
AllSmall ts = IsTrue (list_all (λ t. is_small t.token) ts)

small_both : (us vs : List Placed) → AllSmall us → AllSmall vs → AllSmall (us ++ vs)
small_both us vs h k = list_all-append (λ t. is_small t.token) us vs ∙ all_true (list_all (λ t. is_small t.token) us) (list_all (λ t. is_small t.token) vs) h k

small_piece : (s : At) (ts : List Placed) (s' : At) → Piece s ts s' → AllSmall ts
small_piece s ts s' piece = elim piece as (λ _. AllSmall ts) [
  | inl gap ↦ subst AllSmall (sym gap.nothing) refl
  | inr one ↦ subst AllSmall (sym one.listed) (all_true (is_small one.token) true (small_token s.after_name s.rest one.size one.token one.form) refl)
]

small_pieces : (n : ℕ) (s : At) (ts : List Placed) (s' : At) → Pieces n s ts s' → AllSmall ts
small_pieces zero s ts s' h = subst AllSmall (sym h.0) refl
small_pieces (suc n) s ts s' h = subst AllSmall (sym h.5) (small_both h.1 h.2 (small_pieces n s h.1 h.0 h.3) (small_piece h.0 h.2 s' h.4))

-- ---- the words of the grammar over them

small_words : (w : Words Placed) (rest : List Placed) → AllSmall (toks w ++ rest) → IsTrue (are_small w)
small_words w rest h =
    let small : Placed → Bool = λ t. is_small t.token in
    let parts = both (list_all small (toks w)) (list_all small rest) (sym (list_all-append small (toks w) rest) ∙ h) in
    sym (list_all-map small (λ t. t.0) w) ∙ parts.0

pub tokens-are-small : (bytes : List ℕ) (ts : Tokens) → Spells bytes ts → (w : Words Placed) (rest : List Placed) → ts.tokens ≡ toks w ++ rest → IsTrue (are_small w)
tokens-are-small bytes ts spelled w rest parts = small_words w rest (subst AllSmall parts (small_pieces spelled.reaches.count (at_start bytes) ts.tokens spelled.last spelled.reaches.pieces))

-- ---- files and scripts that are read

pub read-files-stand : (bytes : List ℕ) (ts : Tokens) (f : FileTree) → Spells bytes ts → ReadsAll (Derives productions 0 file) (λ y. y) ts (Ok f) → FileStands f
read-files-stand bytes ts f spelled read = files-stand 0 read.front f (tokens-are-small bytes ts spelled read.front [] read.parts) read.spelled

pub read-scripts-stand : (bytes : List ℕ) (ts : Tokens) (s : ScriptTree) → Spells bytes ts → ReadsAll (Derives productions 0 script) (λ y. y) ts (Ok s) → ScriptStands s
read-scripts-stand bytes ts s spelled read = scripts-stand 0 read.front s (tokens-are-small bytes ts spelled read.front [] read.parts) read.spelled
