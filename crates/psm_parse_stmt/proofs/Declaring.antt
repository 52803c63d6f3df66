-- The loop over the declarations of a block, one turn after another.
use Rattle.std.proofs.Common.{◌≡◌, ℕ, ◌+◌, ◌≤◌, true, false, List, [], ◌∷◌, ◌++◌, length, Ok, Err, refl, sym, ap, ◌∙◌, append_assoc, arith}
use Rattle.std.proofs.lemmas.List.{append-nil}
use Rattle.psm_token.specs.declared.word.Word.TheVariants as w
use Rattle.psm_token.specs.declared.token.Placed.{Placed}
use Rattle.psm_token.specs.Kinds.{kind}
use Rattle.psm_token.specs.Words.{word_kind}
use Rattle.psm_grammar.specs.declared.halt.Halt.{Halt}
use Rattle.psm_grammar.specs.declared.halt.Halt.TheVariants as halt
use Rattle.psm_grammar.specs.Gives.{Halts}
use Rattle.psm_grammar.specs.Readers.{Stop, Wrong, TooDeep, Out, and_then, starts, made}
use Rattle.psm_tree.specs.Parts.{Declarations, Body}
use Rattle.psm_tree.specs.StatementValues.{undeclared}
use Rattle.psm_tree.specs.StatementGrammar.{body_rest, ending}
use Rattle.psm_tree.specs.Readers.{reading}
use Rattle.psm_tree.specs.declared.statement.Statement.{Statement}
use Rattle.psm_parse_stmt.specs.declared.item.Item.{Item}
use Rattle.psm_parse_stmt.specs.declared.item.Item.TheVariants as item
use Rattle.psm_parse_stmt.specs.declared.item.Stage.{Stage}
use Rattle.psm_parse_stmt.specs.declared.item.Heads.{Heads}
use Rattle.psm_parse_stmt.specs.Declaring.{declaration_item, phase_of, stage_after, with_item, after_heads, with_heads, Adds, heads_body, statements_end, Declaring}
use Rattle.psm_parse_stmt.proofs.Bodies.{after_item, declares, declares_nothing}
use Rattle.psm_parse_stmt.proofs.Shorter.{item_takes}

-- ---- declarations before others

adds_same : (old : Heads) (x : Item) (new : Heads) → Adds old x new → (b : Body) → with_heads new b ≡ with_heads old (with_item x b)
adds_same old (item.Declaration d) new a b = (λ i. after_heads (a.0 i) (a.1 i) (a.2 i) b)
    ∙ (λ i. record { declarations = append_assoc old.declarations.items (d ∷ []) b.declarations i; cursors = old.cursors.items ++ b.cursors; handlers = old.handlers.items ++ b.handlers; statements = b.statements })
adds_same old (item.Cursor c) new a b = (λ i. after_heads (a.0 i) (a.1 i) (a.2 i) b)
    ∙ (λ i. record { declarations = old.declarations.items ++ b.declarations; cursors = append_assoc old.cursors.items (c ∷ []) b.cursors i; handlers = old.handlers.items ++ b.handlers; statements = b.statements })
adds_same old (item.Handler h) new a b = (λ i. after_heads (a.0 i) (a.1 i) (a.2 i) b)
    ∙ (λ i. record { declarations = old.declarations.items ++ b.declarations; cursors = old.cursors.items ++ b.cursors; handlers = append_assoc old.handlers.items (h ∷ []) b.handlers i; statements = b.statements })

adds_made : (old : Heads) (x : Item) (new : Heads) → Adds old x new → (o : Out Placed Body)
    → and_then o (λ b end. Ok (with_heads new b, end)) ≡ and_then (and_then o (λ b end. Ok (with_item x b, end))) (λ b end. Ok (with_heads old b, end))
adds_made old x new a (Ok r) = ap (λ b. Ok (b, r.1)) (adds_same old x new a r.0)
adds_made old x new a (Err s) = refl

body_same : (o : Out Placed Body) → and_then o (λ b end. Ok (b, end)) ≡ o
body_same (Ok r) = refl
body_same (Err s) = refl

none_after : (heads : Heads) (o : Out Placed (List Statement))
    → and_then (and_then o (λ ss end. Ok (undeclared ss, end))) (λ b end. Ok (with_heads heads b, end)) ≡ and_then o (λ ss end. Ok (heads_body heads ss, end))
none_after heads (Ok r) = λ i. Ok (record { declarations = append-nil heads.declarations.items i; cursors = append-nil heads.cursors.items i; handlers = append-nil heads.handlers.items i; statements = r.0 }, r.1)
none_after heads (Err s) = refl

-- ---- the loop

module _ (levels : ℕ) (start : List Placed) (s : Stage) (heads : Heads) where
  -- nothing is read yet
  pub declares_begin : (turns : ℕ) → phase_of s ≡ Declarations → heads.declarations.items ≡ [] → heads.cursors.items ≡ [] → heads.handlers.items ≡ [] → turns ≡ length start
      → Declaring levels start s heads turns start
  declares_begin turns p d c h e = record {
    same = (λ i. made (after_heads (d i) (c i) (h i)) (reading levels (body_rest (p i))) start) ∙ body_same (reading levels (body_rest Declarations) start);
    room = omega (arith, e);
  }

  -- one declaration more
  pub declares_go_on : (turns left : ℕ) (rest : List Placed) (x : Item) (next : List Placed) (new : Heads) (t : Stage) → Declaring levels start s heads turns rest → left + 1 ≡ turns
      → starts kind (word_kind w.Declare ∷ []) rest ≡ true → declaration_item (phase_of s) levels rest ≡ Ok (x, next) → t ≡ stage_after x → Adds heads x new
      → Declaring levels start t new left next
  declares_go_on turns left rest x next new t l h d e st a = record {
    same = (λ i. made (with_heads new) (reading levels (body_rest (phase_of (st i)))) next)
        ∙ adds_made heads x new a (reading levels (body_rest (phase_of (stage_after x))) next)
        ∙ ap (λ o. and_then (and_then o (after_item levels)) (λ b end. Ok (with_heads heads b, end))) (sym e)
        ∙ ap (λ o. and_then o (λ b end. Ok (with_heads heads b, end))) (sym (declares levels (phase_of s) rest d)) ∙ l.same;
    room = omega (arith, h, l.room, item_takes (phase_of s) levels rest (x, next) e);
  }

  -- no declaration follows
  pub declares_end : (turns : ℕ) (rest : List Placed) → Declaring levels start s heads turns rest → starts kind (word_kind w.Declare ∷ []) rest ≡ false
      → reading levels (body_rest Declarations) start ≡ made (heads_body heads) (reading levels statements_end) rest
  unfolding reading ending
  declares_end turns rest l d = sym l.same ∙ ap (λ o. and_then o (λ b end. Ok (with_heads heads b, end))) (declares_nothing levels (phase_of s) rest d)
      ∙ none_after heads (reading levels statements_end rest)

  none_starts : (rest : List Placed) → length rest ≤ 0 → starts kind (word_kind w.Declare ∷ []) rest ≡ false
  none_starts [] h = refl
  none_starts (t ∷ rest) h = absurd (omega (arith, h))

  -- no token is left for a further turn
  pub declares_run_out : (turns : ℕ) (rest : List Placed) → Declaring levels start s heads turns rest → turns ≡ 0
      → reading levels (body_rest Declarations) start ≡ made (heads_body heads) (reading levels statements_end) rest
  declares_run_out turns rest l e = declares_end turns rest l (none_starts rest (omega (arith, e, l.room)))

  fails : (turns : ℕ) (rest : List Placed) (stop : Stop Placed) → Declaring levels start s heads turns rest → starts kind (word_kind w.Declare ∷ []) rest ≡ true
      → declaration_item (phase_of s) levels rest ≡ Err stop → reading levels (body_rest Declarations) start ≡ Err stop
  fails turns rest stop l d e = sym l.same
      ∙ ap (λ o. and_then o (λ b end. Ok (with_heads heads b, end))) (declares levels (phase_of s) rest d ∙ ap (λ o. and_then o (after_item levels)) e)

  -- a declaration stops
  pub declares_halt : (turns : ℕ) (rest : List Placed) (e : Halt) → Declaring levels start s heads turns rest → starts kind (word_kind w.Declare ∷ []) rest ≡ true
      → Halts e (declaration_item (phase_of s) levels rest) → Halts e (reading levels (body_rest Declarations) start)
  declares_halt turns rest (halt.Syntax n) l d h = (h.0, fails turns rest (Wrong h.0) l d h.1, h.2)
  declares_halt turns rest (halt.Deep n) l d h = (h.0, fails turns rest (TooDeep h.0) l d h.1, h.2)
  declares_halt turns rest halt.Memory l d h = tt

pub ruleset declaring = (declares_begin, declares_go_on, declares_end, declares_run_out, declares_halt)
