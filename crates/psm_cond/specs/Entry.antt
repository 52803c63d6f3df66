-- The entries of a condition (ISO/IEC 9075:1992, 18.1).
use Rattle.std.specs.Prelude.{ℕ, List, [], None, encode_utf8_all}
use Rattle.std.specs.Str.{chars}
use Rattle.psm_sqlstate.specs.Message.{message_of}
use Rattle.psm_cond.specs.declared.entry.Entry.{Entry}

-- the entry of an SQLSTATE alone: its message, and no other text
abbrev pub entry_of : List ℕ → Entry
entry_of s = record { state = s; own = None; identifier = []; message = message_of s; table = []; cursor = [] }

-- the entry as it counts by its SQLSTATE alone
abbrev pub without_own : Entry → Entry
without_own e = record e { own = None }

-- the characters that a name spells
abbrev pub name_text : List ℕ → List ℕ
name_text name = chars (encode_utf8_all name)
