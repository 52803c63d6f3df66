-- When the first token, or the first two, decide how a part of a grammar is read.
use Rattle.std.specs.Prelude.{◌≡◌, ℕ, zero, suc, Bool, true, false, not, ◌&&◌, List, [], ◌∷◌, ◌++◌, Option, Some, None, if◌then◌else◌}
use Rattle.psm_grammar.specs.Language.{has}
use Rattle.psm_grammar.specs.Grammar.{Grammar, token, level, next, nothing, seq, or, ahead, many, image, Productions}
use Rattle.psm_grammar.specs.Readers.{empty, first}

-- none of these numbers is one of those
abbrev pub apart : List ℕ → List ℕ → Bool
apart [] ns = true
apart (m ∷ ms) ns = if has m ns then false else apart ms ns

-- each of these numbers is one of those
abbrev pub within : List ℕ → List ℕ → Bool
within [] ns = true
within (m ∷ ms) ns = if has m ns then within ms ns else false

-- the kinds of tokens that can stand where a part is read, before these
abbrev pub leads : {T N : Type 0} {kind : T → ℕ} {V : N → Type 0} {X : Type 0} → Grammar kind V X → List ℕ → List ℕ
leads g follow = first g ++ (if empty g then follow else [])

-- the kinds of first tokens that a nonterminal stands after
abbrev pub openers : {T N : Type 0} {kind : T → ℕ} {V : N → Type 0} {X : Type 0} → Grammar kind V X → List ℕ
openers (token test) = []
openers (level n test f) = test.kinds
openers (next n test f) = test.kinds
openers (nothing x) = []
openers (seq f p q) = openers p ++ (if empty p then openers q else [])
openers (or p q) = openers p ++ openers q
openers (ahead ones twos p q) = openers p ++ openers q
openers (many p) = openers p
openers (image f p) = openers p

-- the kinds of tokens that can stand second, after a first one of these kinds that no nonterminal stands after
abbrev pub seconds : {T N : Type 0} {kind : T → ℕ} {V : N → Type 0} {X : Type 0} → List ℕ → List ℕ → Grammar kind V X → List ℕ
seconds ones follow (token test) = if apart ones test.kinds then [] else follow
seconds ones follow (level n test f) = []
seconds ones follow (next n test f) = []
seconds ones follow (nothing x) = []
seconds ones follow (seq f p q) = seconds ones (leads q follow) p ++ (if empty p then seconds ones follow q else [])
seconds ones follow (or p q) = seconds ones follow p ++ seconds ones follow q
seconds ones follow (ahead others twos p q) = seconds ones follow p ++ seconds ones follow q
seconds ones follow (many p) = seconds ones (first p ++ follow) p
seconds ones follow (image f p) = seconds ones follow p

-- each word has two tokens or more
abbrev pub is_long : {T N : Type 0} {kind : T → ℕ} {V : N → Type 0} {X : Type 0} → Grammar kind V X → Bool
is_long (token test) = false
is_long (level n test f) = false
is_long (next n test f) = false
is_long (nothing x) = false
is_long (seq f p q) = if is_long p then true else if is_long q then true else (not (empty p) && not (empty q))
is_long (or p q) = is_long p && is_long q
is_long (ahead ones twos p q) = is_long p && is_long q
is_long (many p) = false
is_long (image f p) = is_long p

-- each token of these kinds is a word
abbrev pub is_one : {T N : Type 0} {kind : T → ℕ} {V : N → Type 0} {X : Type 0} → List ℕ → Grammar kind V X → Bool
is_one ones (token test) = within ones test.kinds
is_one ones (level n test f) = false
is_one ones (next n test f) = false
is_one ones (nothing x) = false
is_one ones (seq f p q) = is_one ones p && empty q
is_one ones (or p q) = if is_one ones p then true else is_one ones q
is_one ones (ahead others twos p q) = if is_one ones p then true else is_one ones q
is_one ones (many p) = is_one ones p
is_one ones (image f p) = is_one ones p

-- words begin with each two tokens of these kinds
abbrev pub opens_two : {T N : Type 0} {kind : T → ℕ} {V : N → Type 0} {X : Type 0} → List ℕ → List ℕ → Grammar kind V X → Bool
opens_two ones twos (token test) = false
opens_two ones twos (level n test f) = false
opens_two ones twos (next n test f) = false
opens_two ones twos (nothing x) = false
opens_two ones twos (seq f p q) = if opens_two ones twos p then true else (is_one ones p && within twos (first q))
opens_two ones twos (or p q) = if opens_two ones twos p then true else opens_two ones twos q
opens_two ones twos (ahead others more p q) = if opens_two ones twos p then true else opens_two ones twos q
opens_two ones twos (many p) = opens_two ones twos p
opens_two ones twos (image f p) = opens_two ones twos p

-- The first two tokens decide between two parts: the words of p have them of these kinds, and of all these
-- kinds, and no word of q has; and no nonterminal stands after the first of them.
abbrev pub two_decide : {T N : Type 0} {kind : T → ℕ} {V : N → Type 0} {X : Type 0} → List ℕ → List ℕ → List ℕ → Grammar kind V X → Grammar kind V X → Bool
two_decide ones twos follow p q = is_long p && (not (empty q) && (within (first p) ones && (opens_two ones twos p && (within ones (first q)
    && (apart ones (openers p) && (apart ones (openers q) && (within (seconds ones follow p) twos && apart twos (seconds ones follow q))))))))

-- tokens of these kinds may follow, where each may, or those of the list
abbrev pub may_follow : List ℕ → Option (List ℕ) → Bool
may_follow follow None = true
may_follow follow (Some kinds) = within follow kinds

-- a part is read by its first tokens, where a token of these kinds may follow it, and of `after n` a nonterminal n
abbrev pub fits : {T N : Type 0} {kind : T → ℕ} {V : N → Type 0} {X : Type 0} → (N → Option (List ℕ)) → List ℕ → Grammar kind V X → Bool
fits {kind} after follow (token test) = has (kind test.example) test.kinds
fits {kind} after follow (level n test f) = has (kind test.example) test.kinds && may_follow follow (after n)
fits {kind} after follow (next n test f) = has (kind test.example) test.kinds && may_follow follow (after n)
fits after follow (nothing x) = true
fits after follow (seq f p q) = fits after (leads q follow) p && fits after follow q
fits after follow (or p q) = (not (empty p) && apart (first p) (leads q follow)) && (fits after follow p && fits after follow q)
fits after follow (ahead ones twos p q) = two_decide ones twos follow p q && (fits after follow p && fits after follow q)
fits after follow (many p) = (not (empty p) && apart (first p) follow) && fits after (first p ++ follow) p
fits after follow (image f p) = fits after follow p

-- a part has a word, where these nonterminals have one
abbrev pub lives : {T N : Type 0} {kind : T → ℕ} {V : N → Type 0} {X : Type 0} → (N → Bool) → Grammar kind V X → Bool
lives inner (token test) = true
lives inner (level n test f) = inner n
lives inner (next n test f) = inner n
lives inner (nothing x) = true
lives inner (seq f p q) = lives inner p && lives inner q
lives inner (or p q) = if lives inner p then true else lives inner q
lives inner (ahead ones twos p q) = if lives inner p then true else lives inner q
lives inner (many p) = true
lives inner (image f p) = lives inner p

-- a nonterminal has a word that nests less than h levels
abbrev pub lives_in : {T N : Type 0} {kind : T → ℕ} {V : N → Type 0} → Productions kind V → ℕ → N → Bool
lives_in prods zero n = false
lives_in prods (suc h) n = lives (lives_in prods h) (prods n)

-- a production is read by its first tokens, whatever follows, or where tokens of these kinds may follow
abbrev pub Fits : {T N : Type 0} {kind : T → ℕ} {V : N → Type 0} {X : Type 0} → (N → Option (List ℕ)) → Option (List ℕ) → Grammar kind V X → Type 0
Fits after None g = (follow : List ℕ) → fits after follow g ≡ true
Fits after (Some kinds) g = fits after kinds g ≡ true

-- each production is read by its first tokens, and has a word
pub record IsReadable {T N : Type 0} {kind : T → ℕ} {V : N → Type 0} (prods : Productions kind V) (after : N → Option (List ℕ)) (height : ℕ) : Type 0 where
  pub by_first : (n : N) → Fits after (after n) (prods n)
  pub alive : (n : N) → lives_in prods height n ≡ true
