-- Finding a word by its text: among the words that begin with its first letter.
use Rattle.std.specs.Prelude.{ℕ, List, [], ◌∷◌, nat_eq, Option, None, if◌then◌else◌}
use Rattle.std.specs.List.{find}
use Rattle.std.specs.Str.{bytes_eq}
use Rattle.psm_token.specs.declared.word.Word.{Word}
use Rattle.psm_token.specs.declared.word.Word.TheVariants.{Action, And, As, Asc, Atomic, Avg, Begin, Between, Both, By, Call, Case, Cast, Char, Character, CharacterLength, CharLength, Check, Close, Coalesce, Commit, Condition, ConditionIdentifier, ConditionNumber, Constraint, Contains, Continue, Count, Create, Current, Cursor, CursorName, Data, Dec, Decimal, Declare, Default, Delete, Desc, Deterministic, Diagnostics, Do, Else, ElseIf, End, Escape, Exception, Exists, Exit, Fetch, For, Foreign, Found, From, Function, Get, Group, Handler, Having, If, In, Inner, InOut, Insensitive, Insert, Int, Integer, Into, Is, Iterate, Join, Key, Language, Leading, Leave, Like, Loop, Lower, Max, MessageLength, MessageText, Min, Modifies, Module, More, Next, No, Not, Null, NullIf, Number, Numeric, Of, On, Only, Open, Or, Order, Out, Position, Primary, Procedure, Read, Reads, References, Repeat, Resignal, Return, ReturnedSqlState, Returns, Rollback, RowCount, Select, Set, Signal, SmallInt, Sql, SqlException, SqlState, SqlWarning, Stacked, Substring, Sum, Table, TableName, Then, Trailing, Trim, Undo, Unique, Until, Update, Upper, Value, Values, VarChar, Varying, When, Where, While, Work}
use Rattle.psm_token.specs.Words.{text_of}

-- the words that begin with a letter
abbrev pub words_by_letter : ℕ → List Word
words_by_letter c =
    if nat_eq c 65 then Action ∷ And ∷ As ∷ Asc ∷ Atomic ∷ Avg ∷ [] else
    if nat_eq c 66 then Begin ∷ Between ∷ Both ∷ By ∷ [] else
    if nat_eq c 67 then Call ∷ Case ∷ Cast ∷ Char ∷ Character ∷ CharacterLength ∷ CharLength ∷ Check ∷ Close ∷ Coalesce ∷ Commit ∷ Condition ∷ ConditionIdentifier ∷ ConditionNumber ∷ Constraint ∷ Contains ∷ Continue ∷ Count ∷ Create ∷ Current ∷ Cursor ∷ CursorName ∷ [] else
    if nat_eq c 68 then Data ∷ Dec ∷ Decimal ∷ Declare ∷ Default ∷ Delete ∷ Desc ∷ Deterministic ∷ Diagnostics ∷ Do ∷ [] else
    if nat_eq c 69 then Else ∷ ElseIf ∷ End ∷ Escape ∷ Exception ∷ Exists ∷ Exit ∷ [] else
    if nat_eq c 70 then Fetch ∷ For ∷ Foreign ∷ Found ∷ From ∷ Function ∷ [] else
    if nat_eq c 71 then Get ∷ Group ∷ [] else
    if nat_eq c 72 then Handler ∷ Having ∷ [] else
    if nat_eq c 73 then If ∷ In ∷ Inner ∷ InOut ∷ Insensitive ∷ Insert ∷ Int ∷ Integer ∷ Into ∷ Is ∷ Iterate ∷ [] else
    if nat_eq c 74 then Join ∷ [] else
    if nat_eq c 75 then Key ∷ [] else
    if nat_eq c 76 then Language ∷ Leading ∷ Leave ∷ Like ∷ Loop ∷ Lower ∷ [] else
    if nat_eq c 77 then Max ∷ MessageLength ∷ MessageText ∷ Min ∷ Modifies ∷ Module ∷ More ∷ [] else
    if nat_eq c 78 then Next ∷ No ∷ Not ∷ Null ∷ NullIf ∷ Number ∷ Numeric ∷ [] else
    if nat_eq c 79 then Of ∷ On ∷ Only ∷ Open ∷ Or ∷ Order ∷ Out ∷ [] else
    if nat_eq c 80 then Position ∷ Primary ∷ Procedure ∷ [] else
    if nat_eq c 82 then Read ∷ Reads ∷ References ∷ Repeat ∷ Resignal ∷ Return ∷ ReturnedSqlState ∷ Returns ∷ Rollback ∷ RowCount ∷ [] else
    if nat_eq c 83 then Select ∷ Set ∷ Signal ∷ SmallInt ∷ Sql ∷ SqlException ∷ SqlState ∷ SqlWarning ∷ Stacked ∷ Substring ∷ Sum ∷ [] else
    if nat_eq c 84 then Table ∷ TableName ∷ Then ∷ Trailing ∷ Trim ∷ [] else
    if nat_eq c 85 then Undo ∷ Unique ∷ Until ∷ Update ∷ Upper ∷ [] else
    if nat_eq c 86 then Value ∷ Values ∷ VarChar ∷ Varying ∷ [] else
    if nat_eq c 87 then When ∷ Where ∷ While ∷ Work ∷ [] else
    []

-- the first of the words that has this text
abbrev pub among : List ℕ → List Word → Option Word
among text words = find (λ w. bytes_eq (text_of w) text) words

-- the word of a text
abbrev pub lookup : List ℕ → Option Word
lookup [] = None
lookup (c ∷ text) = among (c ∷ text) (words_by_letter c)
