-- What is loaded of a text.
use Rattle.std.proofs.Common.{◌≡◌, ℕ, ◌+◌, ◌<◌, List, [], ◌∷◌, length, Some, None, Result, Ok, Err, refl, sym, ap, subst, ◌∙◌, arith, inl, inr}
use Rattle.psm_code.specs.declared.code.RawCode.{RawCode}
use Rattle.psm_code.specs.RoutineRules.{code_faults, first_fault}
use Rattle.psm_object.specs.Listing.{lines_of}
use Rattle.psm_load.specs.Judged.{IsNumbered, Judges}
use Rattle.psm_load.specs.Left.{next_of, start_of}
use Rattle.psm_load.specs.Left as left
use Rattle.psm_load.specs.Loading.{GivesCode, GivesRefusal, IsObject, IsObjectFault, Loads}
use Rattle.psm_load.specs.Parts.{At}
use Rattle.psm_load.specs.Stated.{Stated, code, stated, whole}
use Rattle.psm_load.specs.declared.fault.LoadFault.{LoadFault}
use Rattle.psm_load.specs.declared.fault.LoadFault.TheVariants.{Refused, Memory}
use Rattle.psm_load.specs.declared.fault.ObjectFault.{ObjectFault}
use Rattle.psm_load.specs.declared.fault.ObjectFault.TheVariants.{NotObject, IllFormed}
use Rattle.psm_load.proofs.Counted.{number_after}

-- ---- what a text stands for

ended : (c : RawCode) (at : At) (ls : List (List ℕ)) → next_of at.number ls ≡ None → whole (Ok (c, (at, ls))) ≡ Ok (record { code = c; odd = at.odd })
ended c at [] e = refl
ended c at (l ∷ ls) e = absurd (cc e)

-- no line is left after the code
pub nothing_left : (text : List ℕ) (c : RawCode) (at : At) (ls : List (List ℕ)) → code (start_of text).at (start_of text).lines ≡ Ok (c, (at, ls)) → None ≡ next_of at.number ls
    → stated text ≡ Ok (record { code = c; odd = at.odd })
nothing_left text c at ls e n = ap whole e ∙ ended c at ls (sym n)

further : (c : RawCode) (at : At) (ls : List (List ℕ)) (k : ℕ) → next_of at.number ls ≡ Some k → whole (Ok (c, (at, ls))) ≡ Err k
further c at [] k e = absurd (cc e)
further c at (l ∷ ls) k e = let h : at.number ≡ k = cc in ap Err h

-- a line is left
pub a_line_left : (text : List ℕ) (c : RawCode) (at : At) (ls : List (List ℕ)) (k : ℕ) → code (start_of text).at (start_of text).lines ≡ Ok (c, (at, ls)) → Some k ≡ next_of at.number ls → stated text ≡ Err k
a_line_left text c at ls k e n = ap whole e ∙ further c at ls k (sym n)

-- a line isn't the one that is due
pub no_code : (text : List ℕ) (k : ℕ) → code (start_of text).at (start_of text).lines ≡ Err k → stated text ≡ Err k
no_code text k e = ap whole e

-- the rules of code count the lines of the text
pub numbered : (text : List ℕ) (c : RawCode) (at : At) (ls : List (List ℕ)) → code (start_of text).at (start_of text).lines ≡ Ok (c, (at, ls)) → at.number < 4294967296
    → length (lines_of c) ≡ length (code_faults c) → IsNumbered c at.odd
numbered text c at ls e h same o = let n : at.number ≡ 1 + length (lines_of c) = number_after c (left.lines_of text) ls at e o in omega arith

pub ruleset stating = (nothing_left, a_line_left, no_code, numbered)

-- ---- what is answered

-- what is judged of what the text stands for is loaded
pub judged_loads : (text : List ℕ) (s : Stated) (r : Result RawCode LoadFault)
    → ((t : List ℕ) (s : Stated) → stated t ≡ Ok s → s.odd ≡ None → first_fault s.code ≡ None → IsObject t s.code)
    → stated text ≡ Ok s → Judges s.code s.odd r → Loads text r
judged_loads text s (Ok c) takes e j = subst (IsObject text) (sym j.0) (takes text s e j.1 j.2)
judged_loads text s (Err (Refused line NotObject)) takes e j = absurd j
judged_loads text s (Err (Refused line (IllFormed rule))) takes e j = record { stands_for = s; stated_is = e; fault_is = j }
judged_loads text s (Err Memory) takes e j = tt

-- what is loaded of a listing
pub loads_code : (text : List ℕ) (r : Result RawCode LoadFault) → Loads text r
    → ((t : List ℕ) (c d : RawCode) → IsObject t c → IsObject t d → c ≡ d)
    → ((t : List ℕ) (c : RawCode) → IsObject t c → (line : ℕ) (fault : ObjectFault) → IsObjectFault t line fault → ⊥)
    → (d : RawCode) → IsObject text d → GivesCode d r
loads_code text (Ok c) l one exclusive d h = one text c d l h
loads_code text (Err (Refused line fault)) l one exclusive d h = absurd (exclusive text d h line fault l)
loads_code text (Err Memory) l one exclusive d h = refl

-- what is loaded of another text
pub loads_fault : (text : List ℕ) (r : Result RawCode LoadFault) → Loads text r
    → ((t : List ℕ) (c : RawCode) → IsObject t c → (line : ℕ) (fault : ObjectFault) → IsObjectFault t line fault → ⊥)
    → ((t : List ℕ) (k l : ℕ) (e f : ObjectFault) → IsObjectFault t k e → IsObjectFault t l f → (k ≡ l) × (e ≡ f))
    → (line : ℕ) (fault : ObjectFault) → IsObjectFault text line fault → GivesRefusal line fault r
loads_fault text (Ok c) l exclusive one line fault h = exclusive text c l line fault h
loads_fault text (Err (Refused k e)) l exclusive one line fault h = let same : (k ≡ line) × (e ≡ fault) = one text k line e fault l h in inl (λ i. Refused (same.0 i) (same.1 i))
loads_fault text (Err Memory) l exclusive one line fault h = inr refl
