-- What is left after a part is no longer than what it was read from.
use Rattle.std.proofs.Common.{◌≡◌, ℕ, Bool, cond, zero, suc, ◌<◌, true, false, List, [], ◌∷◌, length, Ok, Err, subst, arith}
use Rattle.psm_token.specs.declared.word.Word.TheVariants as w
use Rattle.psm_token.specs.declared.sign.Sign.TheVariants as s
use Rattle.psm_token.specs.declared.token.Placed.{Placed}
use Rattle.psm_token.specs.Kinds.{kind}
use Rattle.psm_token.specs.Words.{word_kind}
use Rattle.psm_grammar.specs.Forms.{before_token}
use Rattle.psm_grammar.specs.Language.{has}
use Rattle.psm_grammar.specs.Readers.{Wrong, Out, Deeper, and_then, again, deeper}
use Rattle.psm_grammar.proofs.Shorter.{Short, Shortens, DeeperShortens, read_shortens}
use Rattle.psm_tree.specs.Parts.{Phase, Part, V}
use Rattle.psm_tree.specs.Tests.{word, sign}
use Rattle.psm_tree.specs.ExprGrammar.{Gram}
use Rattle.psm_tree.specs.Productions.{productions}
use Rattle.psm_tree.specs.Readers.{part, reading}
use Rattle.psm_parse_stmt.specs.declared.item.Item.{Item}
use Rattle.psm_parse_stmt.specs.Declaring.{declared_item, declaration_item}

again_shortens : (d : Deeper Placed V) → DeeperShortens d → (m : ℕ) (k : Part) → Shortens (again productions d m k)
again_shortens d h zero k ts = tt
again_shortens d h (suc m) k ts = read_shortens d h (again productions d m) (again_shortens d h m) (productions k) ts

deeper_shortens : (n : ℕ) → DeeperShortens (deeper productions n)
deeper_shortens zero = tt
deeper_shortens (suc n) = λ k ts. again_shortens (deeper productions n) (deeper_shortens n) (suc (length ts)) k ts

part_shortens : (levels : ℕ) (n : Part) → Shortens (part levels n)
unfolding part
part_shortens levels n ts = read_shortens (deeper productions levels) (deeper_shortens levels) (again productions (deeper productions levels) (length ts))
    (again_shortens (deeper productions levels) (deeper_shortens levels) (length ts)) (productions n) ts

reading_shortens : {X : Type 0} (levels : ℕ) (g : Gram X) → Shortens (reading levels g)
unfolding reading
reading_shortens levels g ts = read_shortens (deeper productions levels) (deeper_shortens levels) (part levels) (part_shortens levels) g ts

-- ---- a declaration takes a token

abbrev Shorter : {X : Type 0} → ℕ → Out Placed X → Type 0
Shorter n (Ok r) = length r.1 < n
Shorter n (Err e) = Unit {0}

shorter : {X : Type 0} (n : ℕ) (o : Out Placed X) → Short n o → Shorter (suc n) o
shorter n (Ok r) h = omega (arith, h)
shorter n (Err e) h = tt

item_shorter : (p : Phase) (levels : ℕ) (ts : List Placed) → Shorter (length ts) (declaration_item p levels ts)
unfolding declaration_item
item_shorter p levels [] = tt
item_shorter p levels (t ∷ ts) = by (has (kind t) (word_kind w.Declare ∷ []))
  where
    by : (b : Bool) → Shorter (suc (length ts)) (and_then (cond b (Ok ((word w.Declare).value t, ts)) (Err (Wrong (t ∷ ts)))) (λ place rest. reading levels (before_token (declared_item place p) (sign s.Semicolon)) rest))
    by true = shorter (length ts) (reading levels (before_token (declared_item ((word w.Declare).value t) p) (sign s.Semicolon)) ts)
        (reading_shortens levels (before_token (declared_item ((word w.Declare).value t) p) (sign s.Semicolon)) ts)
    by false = tt

pub item_takes : (p : Phase) (levels : ℕ) (ts : List Placed) (r : Item × List Placed) → declaration_item p levels ts ≡ Ok r → length r.1 < length ts
item_takes p levels ts r e = subst (Shorter (length ts)) e (item_shorter p levels ts)
