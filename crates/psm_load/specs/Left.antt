-- The lines of a text that are left to read, and what is given where a part of them is read.
use Rattle.std.specs.Prelude.{◌≡◌, ℕ, ◌+◌, List, [], ◌∷◌, ◌++◌, length, Some, None, Option, Result, Ok, Err}
use Rattle.psm_table.specs.declared.definition.ForeignKey.{ForeignKey}
use Rattle.psm_code.specs.declared.code.CodeTable.{CodeTable}
use Rattle.psm_code.specs.declared.rule.CodeRule.{CodeRule}
use Rattle.psm_load_line.specs.declared.fault.Unread.{Unread}
use Rattle.psm_load_line.specs.declared.fault.Unread.TheVariants as unread
use Rattle.psm_load.specs.Due.{lines_in}
use Rattle.psm_load.specs.Parts.{At, Part, after_line, and_then, first_odd, given, times, ◌>>◌}
use Rattle.psm_load.specs.Stated.{all_lines, at_start, keys_of, table, tables_of}
use Rattle.psm_load.specs.declared.left.NumberedLine.{NumberedLine}
use Rattle.psm_load.specs.declared.stop.Stop.{Stop}
use Rattle.psm_load.specs.declared.stop.Stop.TheVariants.{Misfit, Memory}
use Rattle.psm_load.specs.declared.tables.TableText.{TableText}

-- where reading stands, and the lines that are left
pub record Left : Type 0 where
  pub at : At
  pub lines : List (List ℕ)

-- an unfinished last line counts as an empty one
abbrev pub lines_of : List ℕ → List (List ℕ)
lines_of text = all_lines (lines_in text).0 (lines_in text).1

abbrev pub start_of : List ℕ → Left
start_of text = record { at = at_start; lines = lines_of text }

-- ---- one line

-- a line is taken off the front, with its number; or none is left
pub record Takes (old new : Left) (line : NumberedLine) : Type 0 where
  pub lines : old.lines ≡ line.bytes.now ∷ new.lines
  pub number : line.number ≡ old.at.number
  pub at : new.at ≡ after_line old.at None

pub record TakesNone (old : Left) (n : ℕ) : Type 0 where
  pub lines : old.lines ≡ []
  pub number : n ≡ old.at.number

abbrev pub TakesLine : Left → Left → Result NumberedLine Stop → Type 0
TakesLine old new (Ok line) = Takes old new line
TakesLine old new (Err (Misfit n)) = TakesNone old n
TakesLine old new (Err Memory) = ⊥

-- the line of that number is the first that stands for nothing that code holds, unless one before it does
abbrev pub noted : Left → ℕ → CodeRule → Left
noted old number rule = record { at = record { number = old.at.number; odd = first_odd old.at.odd number (Some rule) }; lines = old.lines }

-- what was read of the line of that number
abbrev pub placed : {A : Type 0} → ℕ → Result A Unread → Result A Stop
placed n (Ok a) = Ok a
placed n (Err unread.Misfit) = Err (Misfit n)
placed n (Err unread.Memory) = Err Memory

-- the number of the next line, if one is left
abbrev pub next_of : ℕ → List (List ℕ) → Option ℕ
next_of n [] = None
next_of n (l ∷ ls) = Some n

-- ---- parts

-- what a part gives, seen by view, with the lines that it leaves; where memory runs out nothing is said
abbrev pub GivesAs : {A B : Type 0} → (B → A) → Part A → Left → Left → Result B Stop → Type 0
GivesAs view part old new (Ok b) = part old.at old.lines ≡ Ok (view b, (new.at, new.lines))
GivesAs view part old new (Err (Misfit n)) = part old.at old.lines ≡ Err n
GivesAs view part old new (Err Memory) = Unit {0}

-- the same of the value itself
abbrev pub Gives : {A : Type 0} → Part A → Left → Left → Result A Stop → Type 0
Gives part old new (Ok a) = part old.at old.lines ≡ Ok (a, (new.at, new.lines))
Gives part old new (Err (Misfit n)) = part old.at old.lines ≡ Err n
Gives part old new (Err Memory) = Unit {0}

-- ---- several

-- some items, and those that are read after them
abbrev pub following : {A : Type 0} → List A → Result (List A × (At × List (List ℕ))) ℕ → Result (List A × (At × List (List ℕ))) ℕ
following items r = and_then r (λ others. given (items ++ others))

abbrev pub after : {A : Type 0} → A → Part (List A) → Part (List A)
after first p = p >> λ others. given (first ∷ others)

-- With n more of a part after some items of it, a list of that part, begun with those at the start, is what it is from there on.
pub record Repeated {A : Type 0} (part : Part A) (count : ℕ) (old : Left) (start items : List A) (n : ℕ) (now : Left) : Type 0 where
  pub same : following items (times n part now.at now.lines) ≡ following start (times count part old.at old.lines)

-- The tables and the constraints that were read of `count` tables, with n more to come.
pub record TablesRead (count : ℕ) (old : Left) (tables : List CodeTable) (keys : List ForeignKey) (n : ℕ) (now : Left) : Type 0 where
  pub texts : List TableText
  pub tables_are : tables ≡ tables_of texts
  pub keys_are : keys ≡ keys_of 0 texts
  pub number : length texts + n ≡ count
  pub read : Repeated table count old [] texts n now
