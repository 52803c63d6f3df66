-- The session of commands over code, command by command: there is one, and one at most.
use Rattle.std.proofs.Common.{arith, ◌≡◌, ℕ, suc, ◌+◌, List, [], ◌∷◌, ◌++◌, length, None, refl, ap, sym, subst, ◌∙◌}
use Rattle.std.specs.Prelude.{All}
use Rattle.std.proofs.lemmas.List.Elements.{All-head, All-tail}
use Rattle.psm_code.specs.declared.code.RawCode.{RawCode}
use Rattle.psm_code.specs.RoutineRules.{first_fault}
use Rattle.psm_meaning.specs.Acts.{NoTurns}
use Rattle.psm_meaning.specs.Session.{CommandResult, Session, Standing, Cut, Done, Stopped, Went, finished}
use Rattle.psm_session.specs.CommandSteps.{CommandExecutes, Runs, none, next, command_name}
use Rattle.psm_session.specs.Ends.{FitsCommand, HasRun}
use Rattle.psm_session.specs.declared.command.ScriptCommand.{ScriptCommand}
use Rattle.psm_meaning.specs.Lines.{first_line}
use Rattle.psm_code_session.specs.CodeSession.{HasSession, done, cut}
use Rattle.psm_code_session.proofs.Executing.{Executed, StaysKept, executed, executes_once, goes_on, runs_out}

-- ---- the session of the commands from the one with that number on

-- the turns ran out in a command
abbrev pub stopped : Standing → List ℕ → Session
stopped s piece = record { pieces = piece ∷ []; tables = s.tables; turns = 0; end = Cut NoTurns }

-- a piece in front of those of a session
abbrev pub with_piece : List ℕ → Session → Session
with_piece piece u = record u { pieces = piece ∷ u.pieces }

pub data SessionFrom (code : RawCode) : ℕ → Standing → List ScriptCommand → Session → Type 0 where
  ended : {k : ℕ} {s : Standing} → SessionFrom code k s [] (finished s)
  more : {k : ℕ} {s t : Standing} {c : ScriptCommand} {cs : List ScriptCommand} {piece : List ℕ} {u : Session} → CommandExecutes code k s c (Went piece t) → SessionFrom code (suc k) t cs u
      → SessionFrom code k s (c ∷ cs) (with_piece piece u)
  stops : {k : ℕ} {s : Standing} {c : ScriptCommand} {cs : List ScriptCommand} {piece : List ℕ} → CommandExecutes code k s c (Stopped NoTurns (piece ∷ [])) → SessionFrom code k s (c ∷ cs) (stopped s piece)

-- ---- there is one

abbrev HasOneFrom : RawCode → ℕ → Standing → List ScriptCommand → Type 0
HasOneFrom code k s cs = (u : Session) × SessionFrom code k s cs u

session_from : (code : RawCode) → first_fault code ≡ None → (cs : List ScriptCommand) → All (FitsCommand code) cs → (k : ℕ) (s : Standing) → StaysKept code s → HasOneFrom code k s cs
session_from code well_formed_code [] fits k s kept = (finished s, ended)
session_from code well_formed_code (c ∷ cs) fits k s kept =
    by (executed code well_formed_code k s kept c (All-head (FitsCommand code) c cs fits)) (λ t h. session_from code well_formed_code cs (All-tail (FitsCommand code) c cs fits) (suc k) t h)
  where
    by : Executed code k s c → ((t : Standing) → StaysKept code t → HasOneFrom code (suc k) t cs) → HasOneFrom code k s (c ∷ cs)
    by (goes_on piece t g h) later = let rest = later t h in (with_piece piece rest.0, more g rest.1)
    by (runs_out piece g) later = (stopped s piece, stops g)

-- ---- there is one at most

abbrev went_piece : CommandResult → List ℕ
went_piece (Went piece t) = piece
went_piece (Stopped stop (piece ∷ pieces)) = piece
went_piece (Stopped stop []) = []

abbrev went_standing : Standing → CommandResult → Standing
went_standing s (Went piece t) = t
went_standing s (Stopped stop pieces) = s

pub session_once : (code : RawCode) (k : ℕ) (s : Standing) (cs : List ScriptCommand) (u v : Session) → SessionFrom code k s cs u → SessionFrom code k s cs v → u ≡ v
session_once code k s [] u v ended ended = refl
session_once code k s (c ∷ cs) u v (more {t = t} {piece = piece} {u = rest} g h) (more {t = t2} {piece = piece2} {u = rest2} g2 h2) =
    let one = executes_once code (first_line k (command_name code c)) s c (Went piece t) (Went piece2 t2) g g2 in
    let others = session_once code (suc k) t cs rest rest2 h (subst (λ x. SessionFrom code (suc k) x cs rest2) (sym (ap (went_standing s) one)) h2) in
    ap (λ x. with_piece x rest) (ap went_piece one) ∙ ap (with_piece piece2) others
session_once code k s (c ∷ cs) u v (stops {piece = piece} g) (stops {piece = piece2} g2) =
    ap (stopped s) (ap went_piece (executes_once code (first_line k (command_name code c)) s c (Stopped NoTurns (piece ∷ [])) (Stopped NoTurns (piece2 ∷ [])) g g2))
session_once code k s (c ∷ cs) u v (more {t = t} {piece = piece} g h) (stops {piece = piece2} g2) =
    let one = executes_once code (first_line k (command_name code c)) s c (Went piece t) (Stopped NoTurns (piece2 ∷ [])) g g2 in absurd cc
session_once code k s (c ∷ cs) u v (stops {piece = piece} g) (more {t = t} {piece = piece2} g2 h) =
    let one = executes_once code (first_line k (command_name code c)) s c (Stopped NoTurns (piece ∷ [])) (Went piece2 t) g g2 in absurd cc

-- ---- the session of commands that were run

from_done : (code : RawCode) (k : ℕ) (s t : Standing) (cs : List ScriptCommand) (pieces : List (List ℕ)) → Runs code k s cs pieces t → SessionFrom code k s cs (record { pieces = pieces; tables = t.tables; turns = t.turns; end = Done })
from_done code k s t [] [] none = ended
from_done code k s t (c ∷ cs) (piece ∷ pieces) (next {t = u} g rest) = more g (from_done code (suc k) u t cs pieces rest)
from_done code k s t [] (piece ∷ pieces) ran = elim ran [ ]
from_done code k s t (c ∷ cs) [] ran = elim ran [ ]

from_cut : (code : RawCode) (k : ℕ) (s t : Standing) (first : List ScriptCommand) (c : ScriptCommand) (later : List ScriptCommand) (pieces : List (List ℕ)) (piece : List ℕ) → Runs code k s first pieces t
    → (n : ℕ) → n ≡ length first + k → CommandExecutes code n t c (Stopped NoTurns (piece ∷ [])) → SessionFrom code k s (first ++ c ∷ later) (record { pieces = pieces ++ piece ∷ []; tables = t.tables; turns = 0; end = Cut NoTurns })
from_cut code k s t [] c later [] piece none n e g = let same : n ≡ k = omega (arith, e) in stops (subst (λ i. CommandExecutes code i t c (Stopped NoTurns (piece ∷ []))) same g)
from_cut code k s t (d ∷ first) c later (p ∷ pieces) piece (next {t = u} h rest) n e g =
    let number : n ≡ length first + suc k = omega (arith, e) in
    more h (from_cut code (suc k) u t first c later pieces piece rest n number g)
from_cut code k s t [] c later (p ∷ pieces) piece ran n e g = elim ran [ ]
from_cut code k s t (d ∷ first) c later [] piece ran n e g = elim ran [ ]

pub from_session : (code : RawCode) (cs : List ScriptCommand) (s : Standing) (u : Session) → HasSession code cs s u → SessionFrom code 1 s cs u
from_session code cs s u (done {pieces = pieces} {t = t} ran) = from_done code 1 s t cs pieces ran
from_session code cs s u (cut {pieces = pieces} {t = t} {piece = piece} r) =
    subst (λ ds. SessionFrom code 1 s ds (record { pieces = pieces ++ piece ∷ []; tables = t.tables; turns = 0; end = Cut NoTurns })) (sym r.are)
    (from_cut code 1 s t r.first r.command r.later pieces piece r.ran (length r.first + 1) refl r.stops)

-- ---- and the other way

-- how the commands from the one with that number on end
data EndsFrom (code : RawCode) (k : ℕ) (s : Standing) (cs : List ScriptCommand) : Session → Type 0 where
  all : {pieces : List (List ℕ)} {t : Standing} → Runs code k s cs pieces t → EndsFrom code k s cs (record { pieces = pieces; tables = t.tables; turns = t.turns; end = Done })
  part : {pieces : List (List ℕ)} {t : Standing} {piece : List ℕ} (first : List ScriptCommand) (c : ScriptCommand) (later : List ScriptCommand) → cs ≡ first ++ c ∷ later → Runs code k s first pieces t
      → (n : ℕ) → n ≡ length first + k → CommandExecutes code n t c (Stopped NoTurns (piece ∷ [])) → EndsFrom code k s cs (record { pieces = pieces ++ piece ∷ []; tables = t.tables; turns = 0; end = Cut NoTurns })

ends_from : (code : RawCode) (k : ℕ) (s : Standing) (cs : List ScriptCommand) (u : Session) → SessionFrom code k s cs u → EndsFrom code k s cs u
ends_from code k s [] u ended = all none
ends_from code k s (c ∷ cs) u (stops g) = part [] c cs refl none k (omega arith) g
ends_from code k s (c ∷ cs) u (more {t = t} {piece = piece} {u = rest} g h) = by rest (ends_from code (suc k) t cs rest h)
  where
    by : (v : Session) → EndsFrom code (suc k) t cs v → EndsFrom code k s (c ∷ cs) (with_piece piece v)
    by v (all ran) = all (next g ran)
    by v (part first d later are ran n e stop) = let number : n ≡ length (c ∷ first) + k = omega (arith, e) in part (c ∷ first) d later (ap (λ ds. c ∷ ds) are) (next g ran) n number stop

pub to_session : (code : RawCode) (cs : List ScriptCommand) (s : Standing) (u : Session) → SessionFrom code 1 s cs u → HasSession code cs s u
to_session code cs s u h = by u (ends_from code 1 s cs u h)
  where
    by : (v : Session) → EndsFrom code 1 s cs v → HasSession code cs s v
    by v (all ran) = done ran
    by v (part {t = t} {piece = piece} first c later are ran n e stop) =
        cut (record { first = first; command = c; later = later; are = are; ran = ran; stops = subst (λ i. CommandExecutes code i t c (Stopped NoTurns (piece ∷ []))) e stop })

-- ---- sessions

pub session_exists : (code : RawCode) → first_fault code ≡ None → (commands : List ScriptCommand) → All (FitsCommand code) commands → (s : Standing) → StaysKept code s → (u : Session) × HasSession code commands s u
session_exists code well_formed_code commands fits s kept = let one = session_from code well_formed_code commands fits 1 s kept in (one.0, to_session code commands s one.0 one.1)

pub session_unique : (code : RawCode) (commands : List ScriptCommand) (s : Standing) (u v : Session) → HasSession code commands s u → HasSession code commands s v → u ≡ v
session_unique code commands s u v h k = session_once code 1 s commands u v (from_session code commands s u h) (from_session code commands s v k)

-- its pieces begin with those of the first commands
begun_from : (code : RawCode) (k : ℕ) (s t : Standing) (first later : List ScriptCommand) (u : Session) (pieces : List (List ℕ)) → SessionFrom code k s (first ++ later) u → Runs code k s first pieces t
    → (rest : List (List ℕ)) × (u.pieces ≡ pieces ++ rest)
begun_from code k s t [] later u [] h none = (u.pieces, refl)
begun_from code k s t (c ∷ first) later u (piece ∷ pieces) (more {t = x} {piece = p} {u = v} g h) (next {t = y} g2 ran) =
    let one = executes_once code (first_line k (command_name code c)) s c (Went p x) (Went piece y) g g2 in
    let rest = begun_from code (suc k) y t first later v pieces (subst (λ z. SessionFrom code (suc k) z (first ++ later) v) (ap (went_standing s) one) h) ran in
    (rest.0, ap (λ z. z ∷ v.pieces) (ap went_piece one) ∙ ap (λ z. piece ∷ z) rest.1)
begun_from code k s t (c ∷ first) later u (piece ∷ pieces) (stops {piece = p} g) (next {t = y} g2 ran) =
    let one = executes_once code (first_line k (command_name code c)) s c (Stopped NoTurns (p ∷ [])) (Went piece y) g g2 in absurd cc
begun_from code k s t [] later u (piece ∷ pieces) h ran = elim ran [ ]
begun_from code k s t (c ∷ first) later u [] h ran = elim ran [ ]

pub session_begun : (code : RawCode) (commands : List ScriptCommand) (s t : Standing) (u : Session) (pieces : List (List ℕ)) → HasSession code commands s u → HasRun code commands s pieces t → (rest : List (List ℕ)) × (u.pieces ≡ pieces ++ rest)
session_begun code commands s t u pieces h r = begun_from code 1 s t r.first r.later u pieces (subst (λ ds. SessionFrom code 1 s ds u) r.are (from_session code commands s u h)) r.ran
