-- The code that is written for a module file stands for it.
use Rattle.std.proofs.Common.{◌≡◌, ℕ, zero, suc, true, List, [], ◌∷◌, ◌++◌, drop, length, map, reverse, slice_get, Option, Some, None, ap, sym, refl, ◌∙◌, subst, arith}
use Rattle.psm_resolved.specs.declared.file.ResolvedFile.{ResolvedFile}
use Rattle.psm_resolved.specs.declared.file.ResolvedParameter.{ResolvedParameter}
use Rattle.psm_resolved.specs.declared.file.ResolvedRoutine.{ResolvedRoutine}
use Rattle.psm_code.specs.declared.code.RawCode.{RawCode}
use Rattle.psm_code.specs.declared.code.RawRoutine.{RawRoutine}
use Rattle.psm_code.specs.Parts.{slots_of}
use Rattle.psm_simulation.specs.Env as env_of
use Rattle.psm_simulation.specs.Simulation.{FileStands, RoutineStands, parameter_of}
use Rattle.psm_exprgen.specs.Writing.{BeginsWith}
use Rattle.psm_exprgen.proofs.Growth.{begins-here}
use Rattle.psm_codegen.specs.Files.{FileWritten, RoutineWritten, RoutinesWritten, known_of, no_parts}
use Rattle.psm_codegen.specs.FunctionBuilder.{at}
use Rattle.psm_codegen.specs.Standing.{CanStand, CountsUp, RoutineFits, RoutinesFit, cursors_of, outermost}
use Rattle.psm_codegen.proofs.Finished.{code-keeps}
use Rattle.psm_codegen.proofs.Growing.{own_in}
use Rattle.psm_codegen.proofs.GrowingAll.{grown-statement}
use Rattle.psm_codegen.proofs.Numbering.{counted, counts-to}
use Rattle.psm_codegen.proofs.Placing.{Space}
use Rattle.psm_codegen.proofs.Querying.{tables_stand}
use Rattle.psm_codegen.proofs.Scoping.{Given, Seen, searches-nothing}
use Rattle.psm_codegen.proofs.StatementsStand.{statement-stands}
use Rattle.psm_codegen.proofs.There.{there_at}

-- ---- routines

-- the parameters have the first slots
parameter-kinds : (ps : List ResolvedParameter) → map (λ p. p.kind) (map parameter_of ps) ≡ map (λ p. p.kind) ps
parameter-kinds [] = refl
parameter-kinds (p ∷ ps) = ap (λ l. p.kind ∷ l) (parameter-kinds ps)

drop-first : {A B : Type 0} (f : A → B) (xs : List A) (ys : List B) → drop (length xs) (map f xs ++ ys) ≡ ys
drop-first f [] ys = refl
drop-first f (x ∷ xs) ys = drop-first f xs ys

module _ (file : ResolvedFile) (code : RawCode) (made : FileWritten file code) (can : CanStand file) (routine : ResolvedRoutine) (r : RawRoutine) (w : RoutineWritten (known_of file routine) routine r) (f : RoutineFits file routine) where
  begins : BeginsWith (no_parts routine).declared r.handlers.declared
  begins = subst (BeginsWith (no_parts routine).declared) (sym w.declared) (grown-statement w.body).declared

  given : Given file code routine r
  given = record { tables = made.tables; checks = can.tables; conditions = begins }

  nothing-enclosing : Seen r env_of.outermost [] outermost
  nothing-enclosing = record { search = λ n h. searches-nothing r n; frames = refl; blocks = refl; labels = refl; loops = refl; cursors = refl; stand = tt }

  whole : Space r 0 [] (λ n. true) (no_parts routine) w.parts
  whole = record { kept = code-keeps w; own = λ k low high. ap (own_in k) w.handlers; low = λ k low. refl; free = λ n low high. refl; context = omega arith; visible = tt }

  cursor-count : routine.cursors ≡ length w.parts.cursors
  cursor-count = omega (arith, counts-to 0 (cursors_of routine.body) routine.cursors f.cursors, counted w.body)

  slots-same : slots_of r ≡ routine.slots
  slots-same =
      ap (λ ps. map (λ p. p.kind) ps ++ r.variables) w.parameters ∙ ap (λ ks. ks ++ r.variables) (parameter-kinds routine.parameters)
      ∙ ap (λ vs. map (λ p. p.kind) routine.parameters ++ vs) (w.variables ∙ ap (drop (length routine.parameters)) f.slots ∙ drop-first (λ p. p.kind) routine.parameters f.variables) ∙ sym f.slots

  pub routine-stands : RoutineStands file code routine r
  routine-stands = record {
    parameters = w.parameters;
    slots = slots-same;
    returns = w.returns;
    cursors = ap length w.cursors ∙ sym cursor-count;
    last = at w.parts;
    body = statement-stands file code routine r given env_of.outermost w.body nothing-enclosing whole f.body (subst (CountsUp 0 (cursors_of routine.body)) cursor-count f.cursors);
    stack = reverse w.parts.code.stack;
    ends = ap (λ ls. slice_get ls (at w.parts)) w.lines ∙ there_at w.parts.code.lines (begins-here _);
  }

-- ---- files

module _ (file : ResolvedFile) (code : RawCode) (made : FileWritten file code) (can : CanStand file) where
  routines-stand : (rs : List ResolvedRoutine) (cs : List RawRoutine) → RoutinesWritten file rs cs → RoutinesFit file rs → (n : ℕ) (routine : ResolvedRoutine) → slice_get rs n ≡ Some routine → (r : RawRoutine) × (slice_get cs n ≡ Some r) × RoutineStands file code routine r
  routines-stand [] [] w f n routine e = absurd (cc)
  routines-stand [] (c ∷ cs) w f n routine e = absurd w
  routines-stand (x ∷ rs) [] w f n routine e = absurd w
  routines-stand (x ∷ rs) (c ∷ cs) w f zero routine e = (c, refl, subst (λ y. RoutineStands file code y c) (ap the e) (routine-stands file code made can x c w.0 f.0)) where
    the : Option ResolvedRoutine → ResolvedRoutine
    the None = x
    the (Some y) = y
  routines-stand (x ∷ rs) (c ∷ cs) w f (suc n) routine e = routines-stand rs cs w.1 f.1 n routine e

-- what is written for an accepted file stands for it
pub written_file_stands : (file : ResolvedFile) (code : RawCode) → FileWritten file code → CanStand file → FileStands file code
written_file_stands file code made can = record {
  routines = λ n routine e. routines-stand file code made can file.routines code.routines made.routines can.routines n routine e;
  tables = tables_stand file code made.keys made.tables can.tables;
}
