-- The rest of a block, one declaration at a time.
use Rattle.std.proofs.Common.{◌≡◌, ℕ, Bool, cond, true, false, List, [], ◌∷◌, Ok, Err, refl, sym, ap, ◌∙◌}
use Rattle.psm_terms.specs.declared.routines.HandlerKind.{HandlerKind}
use Rattle.psm_token.specs.declared.place.Place.{Place}
use Rattle.psm_token.specs.declared.word.Word.TheVariants as w
use Rattle.psm_token.specs.declared.sign.Sign.TheVariants as s
use Rattle.psm_token.specs.declared.token.Placed.{Placed}
use Rattle.psm_token.specs.Kinds.{kind}
use Rattle.psm_token.specs.Words.{word_kind}
use Rattle.psm_grammar.specs.Grammar.{token, next, seq, or}
use Rattle.psm_grammar.specs.Forms.{earlier, later, optional, before_token}
use Rattle.psm_grammar.specs.Readers.{Out, Reader, and_then, starts, one, both, made, first}
use Rattle.psm_tree.specs.Tests.{At, word, sign, name, handler_kind}
use Rattle.psm_tree.specs.Parts.{Phase, Declarations, Cursors, Handlers, HandlerRest, HandlerParts, BodyRest, DeclareRest, NamedRest, Variables, Condition, Cursor, Declared, Handled, Body}
use Rattle.psm_tree.specs.ExprValues.{pair}
use Rattle.psm_tree.specs.ExprGrammar.{Gram, data_type}
use Rattle.psm_tree.specs.StatementValues.{named_rest, declared, cursor_of, condition_of, variables_of, one_variable}
use Rattle.psm_tree.specs.StatementGrammar.{insensitive, other_variables, typed, default_source, for_state, cursor_query, cursor_rest, declaration_rest, declared_handler, declared_cursor, declared_variables, declare_rest, body_rest, ending}
use Rattle.psm_tree.specs.Readers.{part, reading, opening}
use Rattle.psm_tree.specs.declared.name.Identifier.{Identifier}
use Rattle.psm_tree.proofs.Reading.{reading_next, reading_level, reading_part}
use Rattle.psm_parse_stmt.specs.declared.item.Item.{Item}
use Rattle.psm_parse_stmt.specs.Declaring.{named_item, handled_item, handler_item, named, any_rest, condition_rest, variables_rest, declared_item, declaration_item, phase_of, stage_after, with_item}

-- the semicolon after a declaration
abbrev semicolon : Reader Placed Place
semicolon = one kind (sign s.Semicolon)

module _ (levels : ℕ) where
  -- the rest of a block at a phase
  abbrev rest_of : Phase → Reader Placed Body
  rest_of q = reading levels (body_rest q)

  -- a declaration before the rest of its block
  abbrev pub after_item : Item → Reader Placed Body
  after_item x = made (with_item x) (rest_of (phase_of (stage_after x)))

  abbrev ended : Out Placed Item → Out Placed Item
  ended o = and_then o (λ x rest. and_then (semicolon rest) (λ a end. Ok (earlier x a, end)))

  next_body : (q : Phase) (ts : List Placed) → reading levels (next (BodyRest q) (sign s.Semicolon) later) ts ≡ both later semicolon (rest_of q) ts
  next_body q ts = reading_next levels (BodyRest q) (sign s.Semicolon) later ts ∙ (λ i. both later semicolon (λ us. reading_part levels (BodyRest q) us i) ts)

  module _ (place : Place) where
    abbrev in_place : Out Placed (Declared × Body) → Out Placed Body
    in_place o = and_then o (λ y end. Ok (declared place y, end))

    -- ---- handlers

    handler_last : (k : At HandlerKind) (y : HandlerParts) (a : Place) (o : Out Placed Body)
        → in_place (and_then (and_then o (λ b end. Ok (later a b, end))) (λ b end. Ok (pair (Handled k y) b, end))) ≡ and_then o (λ b end. Ok (with_item (handled_item place k y) b, end))
    handler_last k y a (Ok r) = refl
    handler_last k y a (Err e) = refl

    handler_semicolon : (k : At HandlerKind) (y : HandlerParts) (o : Out Placed Place)
        → in_place (and_then (and_then o (λ a rest. and_then (rest_of Handlers rest) (λ b end. Ok (later a b, end)))) (λ b end. Ok (pair (Handled k y) b, end)))
        ≡ and_then (and_then o (λ a end. Ok (earlier (handled_item place k y) a, end))) after_item
    handler_semicolon k y (Ok r) = handler_last k y r.0 (rest_of Handlers r.1)
    handler_semicolon k y (Err e) = refl

    handler_parts : (k : At HandlerKind) (o : Out Placed HandlerParts)
        → in_place (and_then (and_then o (λ y end. Ok (Handled k y, end))) (λ d rest. and_then (both later semicolon (rest_of Handlers) rest) (λ b end. Ok (pair d b, end))))
        ≡ and_then (ended (and_then o (λ y end. Ok (handled_item place k y, end)))) after_item
    handler_parts k (Ok r) = handler_semicolon k r.0 (semicolon r.1)
    handler_parts k (Err e) = refl

    handler_opened : (o : Out Placed (At HandlerKind × ℕ))
        → in_place (and_then (and_then o (λ (k : At HandlerKind × ℕ) rest. and_then (part k.1 HandlerRest rest) (λ y end. Ok (Handled k.0 y, end)))) (λ d rest. and_then (both later semicolon (rest_of Handlers) rest) (λ b end. Ok (pair d b, end))))
        ≡ and_then (ended (and_then o (λ (k : At HandlerKind × ℕ) rest. and_then (part k.1 HandlerRest rest) (λ y end. Ok (handled_item place k.0 y, end))))) after_item
    handler_opened (Ok r) = handler_parts r.0.0 (part r.0.1 HandlerRest r.1)
    handler_opened (Err e) = refl

    handler_goes : (ts : List Placed) → in_place (reading levels declared_handler ts) ≡ and_then (reading levels (before_token (handler_item place) (sign s.Semicolon)) ts) after_item
    unfolding reading declared_handler
    handler_goes ts = (λ i. in_place (both pair (λ us. reading_level levels HandlerRest handler_kind Handled us i) (λ us. next_body Handlers us i) ts))
        ∙ handler_opened (opening levels handler_kind ts)
        ∙ (λ i. and_then (ended (sym (reading_level levels HandlerRest handler_kind (handled_item place) ts) i)) after_item)

    -- ---- what has a name

    module _ (n : Identifier) where
      -- the phase after what was declared of the name
      abbrev Phased : Phase → Out Placed NamedRest → Type 0
      Phased q (Ok r) = phase_of (stage_after (named_item place n r.0)) ≡ q
      Phased q (Err e) = Unit {0}

      phased_then : {X Y : Type 0} (q : Phase) (f : X → Y → NamedRest) → ((x : X) (y : Y) → phase_of (stage_after (named_item place n (f x y))) ≡ q)
          → (o : Out Placed X) (g : Reader Placed Y) → Phased q (and_then o (λ x rest. and_then (g rest) (λ y end. Ok (f x y, end))))
      phased_then {X} {Y} q f h (Ok r) g = by (g r.1)
        where
          by : (o : Out Placed Y) → Phased q (and_then o (λ y end. Ok (f r.0 y, end)))
          by (Ok u) = h r.0 u.0
          by (Err e) = tt
      phased_then q f h (Err e) g = tt

      phased_either : (q : Phase) (c : Bool) (o u : Out Placed NamedRest) → Phased q o → Phased q u → Phased q (cond c o u)
      phased_either q true o u h g = h
      phased_either q false o u h g = g

      phased_or : (q : Phase) (g h : Gram NamedRest) (ts : List Placed) → Phased q (reading levels g ts) → Phased q (reading levels h ts) → Phased q (reading levels (or g h) ts)
      unfolding reading
      phased_or q g h ts = phased_either q (starts kind (first g) ts) (reading levels g ts) (reading levels h ts)

      phased_seq : {X Y : Type 0} (q : Phase) (f : X → Y → NamedRest) → ((x : X) (y : Y) → phase_of (stage_after (named_item place n (f x y))) ≡ q)
          → (g : Gram X) (h : Gram Y) (ts : List Placed) → Phased q (reading levels (seq f g h) ts)
      unfolding reading
      phased_seq q f e g h ts = phased_then q f e (reading levels g ts) (reading levels h)

      named_last : (x : NamedRest) (a : Place) (o : Out Placed Body)
          → in_place (and_then (and_then (and_then o (λ b end. Ok (later a b, end))) (λ b end. Ok (pair x b, end))) (λ p end. Ok (named_rest n p, end)))
          ≡ and_then o (λ b end. Ok (with_item (named_item place n x) b, end))
      named_last (Variables others kind default) a (Ok r) = refl
      named_last (Condition state) a (Ok r) = refl
      named_last (Cursor i query updatability) a (Ok r) = refl
      named_last x a (Err e) = refl

      named_semicolon : (x : NamedRest) (o : Out Placed Place)
          → in_place (and_then (and_then (and_then o (λ a rest. and_then (rest_of (phase_of (stage_after (named_item place n x))) rest) (λ b end. Ok (later a b, end)))) (λ b end. Ok (pair x b, end))) (λ p end. Ok (named_rest n p, end)))
          ≡ and_then (and_then o (λ a end. Ok (earlier (named_item place n x) a, end))) after_item
      named_semicolon x (Ok r) = named_last x r.0 (rest_of (phase_of (stage_after (named_item place n x))) r.1)
      named_semicolon x (Err e) = refl

      named_tail : (q : Phase) (o : Out Placed NamedRest) → Phased q o
          → in_place (and_then (and_then o (λ x rest. and_then (both later semicolon (rest_of q) rest) (λ b end. Ok (pair x b, end)))) (λ p end. Ok (named_rest n p, end)))
          ≡ and_then (ended (and_then o (λ x end. Ok (named_item place n x, end)))) after_item
      named_tail q (Ok r) h = (λ i. in_place (and_then (and_then (both later semicolon (rest_of (sym h i)) r.1) (λ b end. Ok (pair r.0 b, end))) (λ p end. Ok (named_rest n p, end))))
          ∙ named_semicolon r.0 (semicolon r.1)
      named_tail q (Err e) h = refl

      -- what stands after the name, and the rest of the block
      abbrev Goes : Gram (NamedRest × Body) → Gram NamedRest → List Placed → Type 0
      Goes tail g ts = in_place (and_then (reading levels tail ts) (λ p end. Ok (named_rest n p, end))) ≡ and_then (ended (and_then (reading levels g ts) (λ x end. Ok (named_item place n x, end)))) after_item

      tail_goes : (q : Phase) (g : Gram NamedRest) (ts : List Placed) → Phased q (reading levels g ts) → Goes (seq pair g (next (BodyRest q) (sign s.Semicolon) later)) g ts
      unfolding reading
      tail_goes q g ts h = (λ i. in_place (and_then (both pair (reading levels g) (λ us. next_body q us i) ts) (λ p end. Ok (named_rest n p, end)))) ∙ named_tail q (reading levels g ts) h

      cursor_goes : (ts : List Placed) → Goes declared_cursor cursor_rest ts
      unfolding declared_cursor cursor_rest
      cursor_goes ts = tail_goes Cursors cursor_rest ts (phased_seq Cursors cursor_of (λ x y. refl) (before_token insensitive (word w.Cursor)) cursor_query ts)

      variables_goes : (ts : List Placed) → Goes declared_variables declaration_rest ts
      unfolding declared_variables declaration_rest
      variables_goes ts = tail_goes Declarations declaration_rest ts
          (phased_or Declarations condition_rest variables_rest ts
          (phased_seq Declarations condition_of (λ x y. refl) (token (word w.Condition)) (optional for_state) ts)
          (phased_or Declarations (seq variables_of other_variables typed) (seq one_variable data_type (optional default_source)) ts
          (phased_seq Declarations variables_of (λ x y. refl) other_variables typed ts)
          (phased_seq Declarations one_variable (λ x y. refl) data_type (optional default_source) ts)))

      any_goes : (ts : List Placed) → Goes (or declared_cursor declared_variables) any_rest ts
      unfolding reading declared_cursor cursor_rest insensitive
      any_goes ts = by (starts kind (word_kind w.Insensitive ∷ word_kind w.Cursor ∷ []) ts)
        where
          by : (c : Bool) → in_place (and_then (cond c (reading levels declared_cursor ts) (reading levels declared_variables ts)) (λ p end. Ok (named_rest n p, end)))
              ≡ and_then (ended (and_then (cond c (reading levels cursor_rest ts) (reading levels declaration_rest ts)) (λ x end. Ok (named_item place n x, end)))) after_item
          by true = cursor_goes ts
          by false = variables_goes ts

    named_goes : (tail : Gram (NamedRest × Body)) (g : Gram NamedRest) → ((n : Identifier) (ts : List Placed) → Goes n tail g ts) → (ts : List Placed)
        → in_place (reading levels (seq named_rest (token name) tail) ts) ≡ and_then (reading levels (before_token (named place g) (sign s.Semicolon)) ts) after_item
    unfolding reading
    named_goes tail g h ts = by (one kind name ts)
      where
        by : (o : Out Placed Identifier) → in_place (and_then o (λ n rest. and_then (reading levels tail rest) (λ p end. Ok (named_rest n p, end))))
            ≡ and_then (ended (and_then o (λ n rest. and_then (reading levels g rest) (λ x end. Ok (named_item place n x, end))))) after_item
        by (Ok r) = h r.0 r.1
        by (Err e) = refl

    -- ---- what stands after DECLARE

    either_goes : (tail : Gram (NamedRest × Body)) (g : Gram NamedRest) → ((n : Identifier) (ts : List Placed) → Goes n tail g ts) → (ts : List Placed)
        → in_place (reading levels (or declared_handler (seq named_rest (token name) tail)) ts) ≡ and_then (reading levels (before_token (or (handler_item place) (named place g)) (sign s.Semicolon)) ts) after_item
    unfolding reading declared_handler
    either_goes tail g h ts = by (starts kind handler_kind.kinds ts)
      where
        by : (c : Bool) → in_place (cond c (reading levels declared_handler ts) (reading levels (seq named_rest (token name) tail) ts))
            ≡ and_then (ended (cond c (reading levels (handler_item place) ts) (reading levels (named place g) ts))) after_item
        by true = handler_goes ts
        by false = named_goes tail g h ts

    declare_goes : (p : Phase) (ts : List Placed) → in_place (reading levels (declare_rest p) ts) ≡ and_then (reading levels (before_token (declared_item place p) (sign s.Semicolon)) ts) after_item
    unfolding declare_rest declared_item
    declare_goes Declarations ts = either_goes (or declared_cursor declared_variables) any_rest any_goes ts
    declare_goes Cursors ts = either_goes declared_cursor cursor_rest cursor_goes ts
    declare_goes Handlers ts = handler_goes ts

  -- ---- a declaration, or none

  pub declares : (p : Phase) (ts : List Placed) → starts kind (word_kind w.Declare ∷ []) ts ≡ true → reading levels (body_rest p) ts ≡ and_then (declaration_item p levels ts) after_item
  unfolding reading body_rest declaration_item
  declares p ts d = ap (λ c. cond c (reading levels (next (DeclareRest p) (word w.Declare) declared) ts) (reading levels ending ts)) d
      ∙ reading_next levels (DeclareRest p) (word w.Declare) declared ts
      ∙ (λ i. both declared (one kind (word w.Declare)) (λ us. reading_part levels (DeclareRest p) us i) ts)
      ∙ by (one kind (word w.Declare) ts)
    where
      by : (o : Out Placed Place) → and_then o (λ place rest. and_then (reading levels (declare_rest p) rest) (λ y end. Ok (declared place y, end)))
          ≡ and_then (and_then o (λ place rest. reading levels (before_token (declared_item place p) (sign s.Semicolon)) rest)) after_item
      by (Ok r) = declare_goes r.0 p r.1
      by (Err e) = refl

  pub declares_nothing : (p : Phase) (ts : List Placed) → starts kind (word_kind w.Declare ∷ []) ts ≡ false → reading levels (body_rest p) ts ≡ reading levels ending ts
  unfolding reading body_rest
  declares_nothing p ts d = ap (λ c. cond c (reading levels (next (DeclareRest p) (word w.Declare) declared) ts) (reading levels ending ts)) d
