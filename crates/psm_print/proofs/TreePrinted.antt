-- What is printed of a tree that some tokens spell is a file of the tree.
use Rattle.std.proofs.Common.{◌≡◌, ℕ, ◌≤◌, List, [], ◌∷◌, map, length, refl, sym, ap, subst, ◌∙◌, true, arith}
use Rattle.std.proofs.Math.Dec.{ltb, leb}
use Rattle.std.proofs.lemmas.Bool.{ltb-true, leb-true}
use Rattle.std.proofs.lemmas.List.{length-map}
use Rattle.psm_token.specs.declared.token.Placed.{Placed}
use Rattle.psm_token.specs.declared.word.Word.{Word}
use Rattle.psm_token.specs.declared.word.Word.TheVariants as w
use Rattle.psm_token.specs.Words.{text_of}
use Rattle.psm_token.specs.Spells.{Spells as Lexes}
use Rattle.psm_token.specs.Listed.{Tokens}
use Rattle.psm_spell.specs.Written.{IsSpellable, AreSpellable, bare, IsFileOf}
use Rattle.psm_spell.proofs.Spellable.{spells_spellable}
use Rattle.psm_grammar.specs.Language.{Words, toks}
use Rattle.psm_grammar.specs.Grammar.{Spells}
use Rattle.psm_tree.specs.Productions.{productions}
use Rattle.psm_tree.specs.FileGrammar.{file}
use Rattle.psm_tree.specs.declared.file.FileTree.{FileTree}
use Rattle.psm_print.specs.FileTokens.{file_tokens}
use Rattle.psm_print.proofs.Printed.{AllGood, Kept, Printed}
use Rattle.psm_print.specs.WithoutPositions.{origin, without_positions}
use Rattle.psm_print.proofs.FileCarried.{file_carried}
use Rattle.psm_print.proofs.Apart.{spelled_elsewhere}
use Rattle.psm_print.specs.Printing.{Derives, IsSpelledTree, IsFileOfTree}
use Rattle.psm_print.proofs.FilePrinted.{file_printed}

some_letters : (x : Word) → ltb 0 (length (text_of x)) ≡ true
some_letters w.And = refl
some_letters _ = refl

few_letters : (x : Word) → leb (length (text_of x)) 128 ≡ true
few_letters w.And = refl
few_letters _ = refl

kept : Kept IsSpellable
kept = record {
  of_word = λ x. tt;
  of_sign = λ x. tt;
  of_spelled = λ x h. record { some = ltb-true 0 (length (text_of x)) (some_letters x); limit = leb-true (length (text_of x)) 128 (few_letters x) };
}

good_of : (w : Words Placed) → AreSpellable (bare (toks w)) → AllGood IsSpellable w
good_of [] h = h
good_of (x ∷ w) h = (h.0, good_of w h.1)

of_good : (w : Words Placed) → AllGood IsSpellable w → AreSpellable (map (λ y. y.0.token) w)
of_good [] h = h
of_good (x ∷ w) h = (h.0, of_good w h.1)

bare_toks : (w : Words Placed) → bare (toks w) ≡ map (λ y. y.0.token) w
bare_toks [] = refl
bare_toks (x ∷ w) = ap (λ ts. x.0.token ∷ ts) (bare_toks w)

size : (w : Words Placed) (ts : List Placed) → toks w ≡ ts → length w ≡ length ts
size w ts e = sym (length-map w (λ x. x.0)) ∙ ap length e

short : (w : Words Placed) (n : ℕ) → length w ≤ n → {m : ℕ} → n ≡ m → m ≤ 2000000 → length (map (λ y. y.0.token) w) ≤ 2000000
short w n h e l = let same : length (map (λ y. y.0.token) w) ≡ length w = length-map w (λ y. y.0.token) in omega (arith, same, h, e, l)

-- tokens without places, by the tokens alone
bare_apart : (ts : List Placed) → map without_positions ts ≡ map (λ t. record { token = t; place = origin }) (bare ts)
bare_apart [] = refl
bare_apart (t ∷ ts) = ap (λ us. without_positions t ∷ us) (bare_apart ts)

same_apart : (ts us : List Placed) → bare ts ≡ bare us → map without_positions ts ≡ map without_positions us
same_apart ts us e = bare_apart ts ∙ ap (map (λ t. record { token = t; place = origin })) e ∙ sym (bare_apart us)

-- the tree of a file's tokens
pub file_tree : (bytes : List ℕ) (ts : Tokens) → Lexes bytes ts → (tree : FileTree) → Derives ts.tokens tree → IsSpelledTree tree
file_tree bytes ts l tree d = record { tokens = ts.tokens; spellable = spells_spellable bytes ts l; few = l.reaches.limit; derived = d }

pub tree_printed : (tree : FileTree) → IsSpelledTree tree → (bytes : List ℕ) → (AreSpellable (file_tokens tree) → length (file_tokens tree) ≤ 2000000 → IsFileOf bytes (file_tokens tree)) → IsFileOfTree bytes tree
tree_printed tree h bytes f =
    let d = h.derived in
    let good : AllGood IsSpellable d.word = good_of d.word (subst (λ ts. AreSpellable (bare ts)) (sym d.whole) h.spellable) in
    let p : Printed IsSpellable (λ u x. Spells productions 0 file u x) tree (file_tokens tree) (length d.word) = file_printed IsSpellable kept d.word tree d.spells good in
    let spellable : AreSpellable (file_tokens tree) = subst AreSpellable p.bare (of_good p.word p.kept) in
    let few : length (file_tokens tree) ≤ 2000000 = subst (λ ts. length ts ≤ 2000000) p.bare (short p.word (length d.word) p.short (size d.word h.tokens d.whole) h.few) in
    let text = f spellable few in
    let same : bare (toks p.word) ≡ bare text.0.tokens = bare_toks p.word ∙ p.bare ∙ sym text.2 in
    record {
      tokens = text.0;
      lexed = text.1;
      read = spelled_elsewhere file_carried 0 p.word tree text.0.tokens p.spells (same_apart text.0.tokens (toks p.word) (sym same));
      own = toks p.word;
      same = same;
      derived = record { word = p.word; whole = refl; spells = p.spells };
    }
