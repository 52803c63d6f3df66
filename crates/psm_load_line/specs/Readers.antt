-- How a line of a listing is read: its words one after another, each after one blank. `Reading` of psm_words has how a word is read.
use Rattle.std.specs.Prelude.{ℕ, Bool, List, [], ◌∷◌, codes, nat_eq, Option, Some, None, if◌then◌else◌}
use Rattle.std.specs.Cmp.Lexicographic.{pointwise}
use Rattle.std.specs.List.{starts_with}
use Rattle.std.specs.Result.{result_ok}
use Rattle.psm_text.specs.Name.{name_of}
use Rattle.psm_words.specs.Reading.{◌>>=◌, after, number_at, quoted_at}

-- what stands first, and what follows it
abbrev pub Reader : Type 0 → Type 0
Reader A = List ℕ → Option (A × List ℕ)

-- what a line says, or the rest of one
abbrev pub LineReader : Type 0 → Type 0
LineReader A = List ℕ → Option A

-- ---- words one after another

-- a word after a blank
abbrev pub word : {A : Type 0} → Reader A → Reader A
word read s = after (codes " ") s >>= read

abbrev pub paired : {A B : Type 0} → A → B × List ℕ → Option ((A × B) × List ℕ)
paired a b = Some ((a, b.0), b.1)

abbrev pub both : {A B : Type 0} → Reader A → Reader B → Reader (A × B)
both p q s = p s >>= λ a. q a.1 >>= paired a.0

-- what was read, where the line ends
abbrev pub at_end : {A : Type 0} → A × List ℕ → Option A
at_end (a, []) = Some a
at_end (a, c ∷ s) = None

abbrev pub last : {A : Type 0} → Reader A → LineReader A
last p s = p s >>= at_end

-- words, and what the rest of the line says
abbrev pub on : {A B : Type 0} → Reader A → LineReader B → LineReader (A × B)
on p q s = p s >>= λ a. q a.1 >>= λ b. Some (a.0, b)

-- a line that begins with that word
abbrev pub line : {A : Type 0} → List ℕ → LineReader A → LineReader A
line keyword p s = after keyword s >>= p

-- no further word
abbrev pub alone : {A : Type 0} → A → LineReader A
alone a s = at_end (a, s)

-- what is made of what a line says
abbrev pub made : {A B : Type 0} → (A → B) → LineReader A → LineReader B
made f p s = p s >>= λ a. Some (f a)

-- all words up to the end of the line, at most as many as a text has characters
abbrev pub many_within : {A : Type 0} → Reader A → List ℕ → LineReader (List A)
many_within p most [] = Some []
many_within p [] (c ∷ s) = None
many_within p (m ∷ most) (c ∷ s) = p (c ∷ s) >>= λ a. many_within p most a.1 >>= λ others. Some (a.0 ∷ others)

abbrev pub many : {A : Type 0} → Reader A → LineReader (List A)
many p s = many_within p s s

-- one word or more
abbrev pub some : {A : Type 0} → Reader A → LineReader (A × List A)
some p = on p (many p)

-- ---- words on both sides of a word

-- what stands before the first place of a word, and what stands from there on
abbrev pub prefixed : ℕ → List ℕ × List ℕ → Option (List ℕ × List ℕ)
prefixed c x = Some (c ∷ x.0, x.1)

abbrev pub parted : List ℕ → List ℕ → Option (List ℕ × List ℕ)
parted w [] = None
parted w (c ∷ s) = if starts_with nat_eq (c ∷ s) w then Some ([], c ∷ s) else (parted w s >>= prefixed c)

-- a line that is read from both sides of that place
abbrev pub on_both_sides : {A B : Type 0} → List ℕ → LineReader A → LineReader B → LineReader (A × B)
on_both_sides w p q s = parted w s >>= λ x. p x.0 >>= λ a. q x.1 >>= λ b. Some (a, b)

-- ---- words of a table

-- the word up to the next blank, and what follows it
abbrev pub before : ℕ → List ℕ × List ℕ → List ℕ × List ℕ
before c x = (c ∷ x.0, x.1)

abbrev pub bare : List ℕ → List ℕ × List ℕ
bare [] = ([], [])
bare (c ∷ s) = if nat_eq c 32 then ([], c ∷ s) else before c (bare s)

-- what stands for the word
abbrev pub chosen : {A : Type 0} → List (List ℕ × A) → List ℕ → Option A
chosen [] w = None
chosen (entry ∷ entries) w = if pointwise nat_eq entry.0 w then Some entry.1 else chosen entries w

abbrev pub one_of : {A : Type 0} → List (List ℕ × A) → Reader A
one_of entries s = chosen entries (bare s).0 >>= λ a. Some (a, (bare s).1)

-- a word that says how the rest of the line is read
abbrev pub by_word : {A : Type 0} → List (List ℕ × LineReader A) → LineReader A
by_word entries s = word (one_of entries) s >>= λ p. p.0 p.1

-- ---- numbers and names

-- a number that is no part of a datum or of a type
abbrev pub index_at : Reader ℕ
index_at s = number_at 4294967295 s

abbrev pub flag_of : ℕ × List ℕ → Option (Bool × List ℕ)
flag_of n = Some (nat_eq n.0 1, n.1)

abbrev pub flag_at : Reader Bool
flag_at s = number_at 1 s >>= flag_of

-- a name has 1 to 128 characters
abbrev pub as_name : List ℕ × List ℕ → Option (List ℕ × List ℕ)
as_name t = result_ok (name_of t.0) >>= λ name. Some (name, t.1)

abbrev pub name_at : Reader (List ℕ)
name_at s = quoted_at s >>= as_name

-- a dash for none
abbrev pub as_some : {A : Type 0} → A × List ℕ → Option (Option A × List ℕ)
as_some a = Some (Some a.0, a.1)

abbrev pub dash_or : {A : Type 0} → Reader A → Reader (Option A)
dash_or p [] = None
dash_or p (c ∷ s) = if nat_eq c 45 then Some (None, s) else (p (c ∷ s) >>= as_some)
