-- The loop over the tables of a file, and how a file is read by it.
use Rattle.std.proofs.Common.{◌≡◌, ◌+◌, ◌≤◌, ℕ, Bool, true, false, List, [], ◌∷◌, ◌++◌, length, Ok, Err, refl, sym, ap, ◌∙◌}
use Rattle.psm_token.specs.Kinds.{kind}
use Rattle.psm_token.specs.Words.{word_kind}
use Rattle.psm_token.specs.declared.place.Place.{Place}
use Rattle.psm_token.specs.declared.token.Placed.{Placed}
use Rattle.psm_token.specs.declared.word.Word.TheVariants as w
use Rattle.psm_grammar.specs.Readers.{Out, Reader, and_then, both, one, made, starts, first}
use Rattle.psm_grammar.specs.Gives.{Halts}
use Rattle.psm_grammar.specs.declared.halt.Halt.{Halt}
use Rattle.psm_grammar.specs.declared.halt.Halt.TheVariants as halt
use Rattle.psm_tree.specs.Tests.{word}
use Rattle.psm_tree.specs.ExprValues.{pair}
use Rattle.psm_tree.specs.FileGrammar.{created_table, created_tables, last_module, file}
use Rattle.psm_tree.specs.FileValues.{TableRest, table_of, tables_from, last_place, ModuleRest, file_of}
use Rattle.psm_tree.specs.Readers.{reading}
use Rattle.psm_tree.specs.declared.file.FileTree.{FileTree}
use Rattle.psm_tree.specs.declared.file.TableTree.{TableTree}
use Rattle.psm_tree.proofs.Firsts.{first_created_table}
use Rattle.psm_tree.proofs.Repeating.{turns_begin, turns_go_on, turns_end, turns_run_out, turns_halt}
use Rattle.psm_parse_file.specs.Creating.{placed_tables, tables_reading, Creating}

tables_more : (place : Place) (ts : List (TableRest × Place)) (t : TableRest × Place) → tables_from place (ts ++ t ∷ []) ≡ tables_from place ts ++ table_of (last_place place ts) t.0 ∷ []
tables_more place [] t = refl
tables_more place (u ∷ ts) t = ap (λ us. table_of place u.0 ∷ us) (tables_more u.1 ts t)

last_more : (place : Place) (ts : List (TableRest × Place)) (t : TableRest × Place) → last_place place (ts ++ t ∷ []) ≡ t.1
last_more place [] t = refl
last_more place (u ∷ ts) t = last_more u.1 ts t

halts_made : {T X Y : Type 0} (f : X → Y) (p : Reader T X) (ts : List T) (e : Halt) → Halts e (p ts) → Halts e (made f p ts)
halts_made f p ts (halt.Syntax n) h = (h.0, ap (λ o. and_then o (λ x rest. Ok (f x, rest))) h.1, h.2)
halts_made f p ts (halt.Deep n) h = (h.0, ap (λ o. and_then o (λ x rest. Ok (f x, rest))) h.1, h.2)
halts_made f p ts halt.Memory h = tt

-- no table is read yet
pub creating_begin : (levels : ℕ) (place : Place) (start : List Placed) (tables : List TableTree) (turns : ℕ) → tables ≡ [] → turns ≡ length start → Creating levels place start tables place turns start
creating_begin levels place start tables turns e h = record { read = []; repeating = turns_begin levels created_table start [] turns refl h; tables_so = e; last_so = refl }

module _ (levels : ℕ) (place : Place) (start : List Placed) (tables : List TableTree) (last : Place) (turns : ℕ) (rest : List Placed) (c : Creating levels place start tables last turns rest) where
  begins : (b : Bool) → starts kind (word_kind w.Table ∷ []) rest ≡ b → starts kind (first created_table) rest ≡ b
  begins b s = ap (λ kinds. starts kind kinds rest) first_created_table ∙ s

  -- one table more
  pub creating_go_on : (left : ℕ) (t : TableRest × Place) (next : List Placed) → left + 1 ≡ turns → starts kind (word_kind w.Table ∷ []) rest ≡ true → reading levels created_table rest ≡ Ok (t, next)
      → Creating levels place start (tables ++ table_of last t.0 ∷ []) t.1 left next
  creating_go_on left t next h s e = record {
    read = c.read ++ t ∷ [];
    repeating = turns_go_on levels created_table start c.read turns left rest t next c.repeating h (begins true s) e;
    tables_so = ap (λ us. us ++ table_of last t.0 ∷ []) c.tables_so ∙ ap (λ q. tables_from place c.read ++ table_of q t.0 ∷ []) c.last_so ∙ sym (tables_more place c.read t);
    last_so = sym (last_more place c.read t);
  }

  placed : reading levels created_tables start ≡ Ok (c.read, rest) → tables_reading levels place start ≡ Ok ((tables, last), rest)
  unfolding tables_reading
  placed e = ap (λ o. and_then o (λ ts end. Ok (placed_tables place ts, end))) e ∙ (λ i. Ok ((sym c.tables_so i, sym c.last_so i), rest))

  -- no table is left
  pub creating_end : starts kind (word_kind w.Table ∷ []) rest ≡ false → tables_reading levels place start ≡ Ok ((tables, last), rest)
  unfolding created_tables
  creating_end s = placed (turns_end levels created_table start c.read turns rest c.repeating (begins false s))

  -- no token is left for a further table
  pub creating_run_out : turns ≡ 0 → tables_reading levels place start ≡ Ok ((tables, last), rest)
  unfolding created_tables
  creating_run_out h = placed (turns_run_out levels created_table start c.read turns rest c.repeating h)

  -- a table has a fault
  pub creating_halt : (e : Halt) → 1 ≤ turns → starts kind (word_kind w.Table ∷ []) rest ≡ true → Halts e (reading levels created_table rest) → Halts e (tables_reading levels place start)
  unfolding tables_reading created_tables
  creating_halt e h s halts = halts_made (placed_tables place) (reading levels created_tables) start e (turns_halt levels created_table start c.read turns rest e c.repeating h (begins true s) halts)

pub ruleset creating = (creating_begin, creating_go_on, creating_end, creating_run_out, creating_halt)

-- the file of tables and a module after the last CREATE
abbrev pub file_with : List TableTree × Place → ModuleRest → FileTree
file_with ts m = record { tables = ts.0; «module» = record { place = ts.1; name = m.name; routines = m.routines } }

-- a table stands at the CREATE before it: placed as it is read, or with what is after
placed_file : (p : Reader Placed (List (TableRest × Place))) (q : Reader Placed ModuleRest) (o : Out Placed Place)
    → and_then o (λ place rest. and_then (both pair p q rest) (λ y end. Ok (file_of place y, end))) ≡ and_then o (λ place rest. both file_with (made (placed_tables place) p) q rest)
placed_file p q (Err e) = refl
placed_file p q (Ok r) = by (p r.1)
  where
    last_by : (ts : List (TableRest × Place)) (m : Out Placed ModuleRest)
        → and_then (and_then m (λ y end. Ok (pair ts y, end))) (λ y end. Ok (file_of r.0 y, end)) ≡ and_then m (λ y end. Ok (file_with (placed_tables r.0 ts) y, end))
    last_by ts (Ok m) = refl
    last_by ts (Err e) = refl

    by : (t : Out Placed (List (TableRest × Place)))
        → and_then (and_then t (λ ts rest. and_then (q rest) (λ y end. Ok (pair ts y, end)))) (λ y end. Ok (file_of r.0 y, end))
        ≡ and_then (and_then t (λ ts rest. Ok (placed_tables r.0 ts, rest))) (λ ts rest. and_then (q rest) (λ y end. Ok (file_with ts y, end)))
    by (Ok t) = last_by t.0 (q t.1)
    by (Err e) = refl

-- how a file is read
pub reading_file : (levels : ℕ) (ts : List Placed) → reading levels file ts ≡ and_then (one kind (word w.Create) ts) (λ place rest. both file_with (tables_reading levels place) (reading levels last_module) rest)
unfolding file tables_reading reading
reading_file levels ts = placed_file (reading levels created_tables) (reading levels last_module) (one kind (word w.Create) ts)
