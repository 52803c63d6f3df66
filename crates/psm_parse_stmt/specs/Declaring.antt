-- The declarations of a block, read one after another.
use Rattle.std.specs.Prelude.{Result, Ok, Err, ◌≡◌, ℕ, ◌≤◌, List, [], ◌∷◌, ◌++◌, length}
use Rattle.psm_terms.specs.declared.routines.HandlerKind.{HandlerKind}
use Rattle.psm_token.specs.declared.place.Place.{Place}
use Rattle.psm_token.specs.declared.word.Word.TheVariants as w
use Rattle.psm_token.specs.declared.sign.Sign.TheVariants as s
use Rattle.psm_token.specs.declared.token.Placed.{Placed}
use Rattle.psm_token.specs.Kinds.{kind}
use Rattle.psm_grammar.specs.declared.halt.Halt.{Halt}
use Rattle.psm_grammar.specs.Gives.{Halts}
use Rattle.psm_grammar.specs.Grammar.{token, level, seq, or}
use Rattle.psm_grammar.specs.Forms.{optional, before_token}
use Rattle.psm_grammar.specs.Readers.{Reader, and_then, one, made}
use Rattle.psm_tree.specs.Tests.{At, word, sign, name, handler_kind}
use Rattle.psm_tree.specs.Parts.{Phase, Declarations, Cursors, Handlers, HandlerRest, HandlerParts, NamedRest, Variables, Condition, Cursor, Body}
use Rattle.psm_tree.specs.ExprValues.{several}
use Rattle.psm_tree.specs.StatementValues.{condition_of, variables_of, one_variable}
use Rattle.psm_tree.specs.ExprGrammar.{Gram, data_type}
use Rattle.psm_tree.specs.StatementGrammar.{ended_statements, for_state, other_variables, typed, default_source, declaration_rest, cursor_rest, body_rest}
use Rattle.psm_tree.specs.Readers.{reading}
use Rattle.psm_tree.specs.declared.name.Identifier.{Identifier}
use Rattle.psm_tree.specs.declared.statement.Declaration.{Declaration}
use Rattle.psm_tree.specs.declared.statement.Declaration.TheVariants as declarations
use Rattle.psm_tree.specs.declared.statement.CursorDeclaration.{CursorDeclaration}
use Rattle.psm_tree.specs.declared.statement.Handler.{Handler, roll-Handler}
use Rattle.psm_tree.specs.declared.statement.Statement.{Statement}
use Rattle.psm_parse_stmt.specs.declared.item.Item.{Item}
use Rattle.psm_parse_stmt.specs.declared.item.Item.TheVariants as item
use Rattle.psm_parse_stmt.specs.declared.item.Stage.{Stage}
use Rattle.psm_parse_stmt.specs.declared.item.Stage.TheVariants as stage
use Rattle.psm_parse_stmt.specs.declared.item.Heads.{Heads}

-- ---- one declaration

-- what stands after DECLARE and a name
abbrev pub named_item : Place → Identifier → NamedRest → Item
named_item place name (Variables others kind default) = item.Declaration (declarations.Variables place (several name others) kind default)
named_item place name (Condition state) = item.Declaration (declarations.Condition place name state)
named_item place name (Cursor insensitive query updatability) = item.Cursor (record { place = place; name = name; insensitive = insensitive; query = query; updatability = updatability })

-- what stands after DECLARE and the kind of a handler
abbrev pub handled_item : Place → At HandlerKind → HandlerParts → Item
handled_item place kind p = item.Handler (roll-Handler (record { place = place; «at» = kind.place; kind = kind.value; values = p.values; action = p.action }))

-- CONDITION [FOR state], after a name
abbrev pub condition_rest : Gram NamedRest
condition_rest = seq condition_of (token (word w.Condition)) (optional for_state)

-- {"," name} type [DEFAULT source], after a name
abbrev pub variables_rest : Gram NamedRest
variables_rest = or (seq variables_of other_variables typed) (seq one_variable data_type (optional default_source))

-- a handler, after DECLARE
abbrev pub handler_item : Place → Gram Item
handler_item place = level HandlerRest handler_kind (handled_item place)

-- a name and what is declared of it, after DECLARE
abbrev pub named : Place → Gram NamedRest → Gram Item
named place rest = seq (named_item place) (token name) rest

-- variables, a condition or a cursor, after a name
abbrev pub any_rest : Gram NamedRest
any_rest = or cursor_rest declaration_rest

-- what is declared after DECLARE
unfoldable pub declared_item : Place → Phase → Gram Item
declared_item place Declarations = or (handler_item place) (named place any_rest)
declared_item place Cursors = or (handler_item place) (named place cursor_rest)
declared_item place Handlers = handler_item place

-- DECLARE, what is declared and ";"
unfoldable pub declaration_item : Phase → ℕ → Reader Placed Item
declaration_item phase levels ts = and_then (one kind (word w.Declare) ts) (λ place rest. reading levels (before_token (declared_item place phase) (sign s.Semicolon)) rest)

-- ---- stages

-- which declarations may come at a stage
abbrev pub phase_of : Stage → Phase
phase_of stage.Declarations = Declarations
phase_of stage.Cursors = Cursors
phase_of stage.Handlers = Handlers

-- the stage after a declaration
abbrev pub stage_after : Item → Stage
stage_after (item.Declaration d) = stage.Declarations
stage_after (item.Cursor c) = stage.Cursors
stage_after (item.Handler h) = stage.Handlers

-- ---- the declarations that were read

-- a declaration before the others
abbrev pub with_item : Item → Body → Body
with_item (item.Declaration d) body = record body { declarations = d ∷ body.declarations }
with_item (item.Cursor c) body = record body { cursors = c ∷ body.cursors }
with_item (item.Handler h) body = record body { handlers = h ∷ body.handlers }

-- declarations before others
abbrev pub after_heads : List Declaration → List CursorDeclaration → List Handler → Body → Body
after_heads ds cs hs body = record { declarations = ds ++ body.declarations; cursors = cs ++ body.cursors; handlers = hs ++ body.handlers; statements = body.statements }

abbrev pub with_heads : Heads → Body → Body
with_heads heads body = after_heads heads.declarations.items heads.cursors.items heads.handlers.items body

-- the declarations that were read, and one more
abbrev pub Adds : Heads → Item → Heads → Type 0
Adds old (item.Declaration d) new = (new.declarations.items ≡ old.declarations.items ++ d ∷ []) × (new.cursors.items ≡ old.cursors.items) × (new.handlers.items ≡ old.handlers.items)
Adds old (item.Cursor c) new = (new.declarations.items ≡ old.declarations.items) × (new.cursors.items ≡ old.cursors.items ++ c ∷ []) × (new.handlers.items ≡ old.handlers.items)
Adds old (item.Handler h) new = (new.declarations.items ≡ old.declarations.items) × (new.cursors.items ≡ old.cursors.items) × (new.handlers.items ≡ old.handlers.items ++ h ∷ [])

-- the declarations that were read, and the statements after them
abbrev pub heads_body : Heads → List Statement → Body
heads_body heads statements = record { declarations = heads.declarations.items; cursors = heads.cursors.items; handlers = heads.handlers.items; statements = statements }

-- the statements of a block and its END
abbrev pub statements_end : Gram (List Statement)
statements_end = before_token ended_statements (word w.End)

-- the declarations of a block, such that its statements are all that is left of it
abbrev pub TakesHeads : ℕ → List Placed → Result Heads Halt → List Placed → Type 0
TakesHeads levels start (Ok heads) rest = reading levels (body_rest Declarations) start ≡ made (heads_body heads) (reading levels statements_end) rest
TakesHeads levels start (Err e) rest = Halts e (reading levels (body_rest Declarations) start)

-- With what is left to read, where as many turns are left as tokens, the declarations that were read are the block
-- from the start on.
pub record Declaring (levels : ℕ) (start : List Placed) (s : Stage) (heads : Heads) (turns : ℕ) (rest : List Placed) : Type 0 where
  pub same : made (with_heads heads) (reading levels (body_rest (phase_of s))) rest ≡ reading levels (body_rest Declarations) start
  pub room : length rest ≤ turns
