-- What a handler and what is outside end in, by the parts of a machine.
use Rattle.std.proofs.Common.{◌≡◌, ℕ, zero, suc, ◌-◌, ◌<◌, Bool, true, false, List, [], ◌∷◌, map, reverse, length, Option, Some, None, Result, Ok, Err, IfOk, OnOk, refl, ap, sym, subst, ◌∙◌, arith, if◌then◌else◌}
use Rattle.std.proofs.lemmas.List.{length-map, length-reverse}
use Rattle.psm_sqlstate.specs.Kind.{kind_of}
use Rattle.psm_cond.specs.declared.handlers.Handler.{Handler}
use Rattle.psm_cond.specs.Choice.{is_exception}
use Rattle.psm_cond.specs.Handlers.{choice}
use Rattle.psm_cond.specs.Condition.{Entries, by_state}
use Rattle.psm_table.specs.Cursors.{Cursor}
use Rattle.psm_table.specs.Table.{Contents}
use Rattle.psm_store.specs.declared.store.Mark.{Mark}
use Rattle.psm_code.specs.declared.code.RawCode.{RawCode}
use Rattle.psm_code.specs.declared.code.RawRoutine.{RawRoutine}
use Rattle.psm_code.specs.Raising.{arrived, asked, asked_at, at_turn, chosen, frames_from, frames_inside, frames_left, met, passed_over, raised, raised_in}
use Rattle.psm_code.specs.declared.lines.CodeLine.{CodeLine}
use Rattle.psm_code.specs.Parts.{handler_at, routine_at}
use Rattle.psm_code.specs.State.{Activation, Frame, Machine, holding, Stepped, More, Over, Raised, with_running}
use Rattle.psm_unwind.specs.declared.ending.Outcome.{Outcome}
use Rattle.psm_unwind.specs.declared.ending.Outcome.TheVariants as outcome
use Rattle.psm_unwind.specs.declared.ending.Ending.TheVariants as ending
use Rattle.psm_unwind.specs.declared.parts.Place.{Place}
use Rattle.psm_unwind.specs.declared.raising.Met.{Met}
use Rattle.psm_unwind.specs.declared.raising.Met.TheVariants.{Here, Outside}
use Rattle.psm_unwind.specs.Raising.{IsPlace, Meets, met_at}
use Rattle.psm_unwind.specs.declared.run.Frame.{Frame as OpenFrame}
use Rattle.psm_unwind.specs.Leaving.{cursors_left, inside, outward, tables_left}
use Rattle.psm_unwind.specs.View.{LeadsTo, at_end, frame_of, frames_of}
use Rattle.psm_unwind.proofs.Leavings.{inside_all, inside_block, left_is, outward_all, outward_block}

-- a machine with these parts in place of its own
abbrev pub with_parts : List Cursor → List Frame → List Activation → List Contents → Machine → Machine
with_parts cs fs callers ts m = record m { running = record m.running { cursors = cs; frames = fs }; callers = callers; tables = ts }

pub arrived_is : (r : RawRoutine) (undo : Bool) (h : Handler) (m : Machine) (cs : List Cursor) (fs : List Frame) (callers : List Activation) (ts : List Contents) →
    cs ≡ cursors_left r (inside (Some h.context) m.running.frames) m.running.cursors → fs ≡ outward (Some h.context) m.running.frames → callers ≡ m.callers →
    ts ≡ tables_left undo (inside (Some h.context) m.running.frames) m.tables → arrived r undo h m ≡ with_parts cs fs callers ts m
arrived_is r undo h m cs fs callers ts c f l t =
    let gone : List Frame = frames_inside h.context m.running.frames in
    ap (with_running (λ a. record a { frames = frames_from h.context a.frames })) (left_is r undo gone m)
    ∙ ap (λ x. with_parts (cursors_left r gone m.running.cursors) x m.callers (tables_left undo gone m.tables) m) (sym (f ∙ outward_block h.context m.running.frames))
    ∙ ap (λ x. with_parts x fs m.callers (tables_left undo gone m.tables) m) (sym (c ∙ ap (λ g. cursors_left r g m.running.cursors) (inside_block h.context m.running.frames)))
    ∙ ap (λ x. with_parts cs fs m.callers x m) (sym (t ∙ ap (λ g. tables_left undo g m.tables) (inside_block h.context m.running.frames)))
    ∙ ap (λ x. with_parts cs fs x ts m) (sym l)

-- what is outside sees the machine as the end of the activation leaves it
outside_is : (r : RawRoutine) (m : Machine) (cs : List Cursor) (fs : List Frame) (callers : List Activation) (ts : List Contents) →
    cs ≡ cursors_left r (inside None m.running.frames) m.running.cursors → callers ≡ m.callers → ts ≡ tables_left true (inside None m.running.frames) m.tables →
    at_end (frames_left r true m.running.frames m) ≡ at_end (with_parts cs fs callers ts m)
outside_is r m cs fs callers ts c l t =
    ap at_end (left_is r true m.running.frames m)
    ∙ ap (λ x. at_end (with_parts x fs m.callers (tables_left true m.running.frames m.tables) m)) (sym (c ∙ ap (λ g. cursors_left r g m.running.cursors) (inside_all m.running.frames)))
    ∙ ap (λ x. at_end (with_parts cs fs m.callers x m)) (sym (t ∙ ap (λ g. tables_left true g m.tables) (inside_all m.running.frames)))
    ∙ ap (λ x. at_end (with_parts cs fs x ts m)) (sym l)

met_same : (r : RawRoutine) (l : CodeLine) (c : Entries) (k : Option ℕ) (outside : Machine → Stepped) (m : Machine) → met r l c k outside m ≡ met_at r l.resume c k outside m
met_same r l c None outside m = refl
met_same r l c (Some n) outside m = refl

pub meets_same : (expected other : (Machine → Stepped) → Stepped) (x : Met) (now : Machine) → ((outside : Machine → Stepped) → other outside ≡ expected outside) → Meets expected x now → Meets other x now
meets_same expected other (Here o) now e h = λ outside. subst (λ t. LeadsTo t o now) (sym (e outside)) (h outside)
meets_same expected other Outside now e h = (h.0, λ outside. e outside ∙ h.1 outside, h.2)

-- without a handler an exception goes outside
pub goes_outside : (r : RawRoutine) (resume : Option ℕ) (c : Entries) (m : Machine) (cs : List Cursor) (fs : List Frame) (callers : List Activation) (ts : List Contents) →
    is_exception (kind_of c.first.state) ≡ true → cs ≡ cursors_left r (inside None m.running.frames) m.running.cursors → callers ≡ m.callers → ts ≡ tables_left true (inside None m.running.frames) m.tables →
    Meets (λ outside. met_at r resume c None outside m) Outside (with_parts cs fs callers ts m)
goes_outside r resume c m cs fs callers ts e k l t = (
  frames_left r true m.running.frames m,
  λ outside. ap (λ b. if b then outside (frames_left r true m.running.frames m) else passed_over resume m) e,
  outside_is r m cs fs callers ts k l t,
)

-- and another condition is passed over
pub goes_on : (r : RawRoutine) (resume : Option ℕ) (c : Entries) (m : Machine) (o : Outcome) (now : Machine) → is_exception (kind_of c.first.state) ≡ false →
    LeadsTo (passed_over resume m) o now → Meets (λ outside. met_at r resume c None outside m) (Here o) now
goes_on r resume c m o now e l = λ outside.
    subst (λ b. LeadsTo (if b then outside (frames_left r true m.running.frames m) else passed_over resume m) o now) (sym e) l

-- a condition that has a handler
pub goes_to : (r : RawRoutine) (resume : Option ℕ) (c : Entries) (m : Machine) (o : Outcome) (now : Machine) (n : ℕ) (k : Option ℕ) → k ≡ Some n →
    LeadsTo (chosen r (is_exception (kind_of c.first.state)) resume n (handler_at r n) m) o now → Meets (λ outside. met_at r resume c k outside m) (Here o) now
goes_to r resume c m o now n k e l = λ outside. subst (λ x. LeadsTo (met_at r resume c x outside m) o now) (sym e) l

-- where the line stands decides what the definition asks
pub placed : (r : RawRoutine) (l : Option CodeLine) (p : Place) (c : Entries) (m held now : Machine) (x : Met) → IsPlace l (Some p) → holding c m ≡ held →
    Meets (λ outside. met_at r p.resume c (choice r.handlers p.context c.first) outside held) x now → Meets (λ outside. asked_at r l c outside m) x now
placed r None p c m held now x i e h = absurd i
placed r (Some l) p c m held now x i e h =
    let same : (outside : Machine → Stepped) → asked_at r (Some l) c outside m ≡ met_at r p.resume c (choice r.handlers p.context c.first) outside held = λ outside.
    met_same r l c (choice r.handlers l.context c.first) outside (holding c m)
    ∙ ap (λ k. met_at r l.resume c (choice r.handlers k c.first) outside (holding c m)) i.0
    ∙ ap (λ k. met_at r k c (choice r.handlers p.context c.first) outside (holding c m)) i.1
    ∙ ap (met_at r p.resume c (choice r.handlers p.context c.first) outside) e in
    meets_same (λ outside. met_at r p.resume c (choice r.handlers p.context c.first) outside held) (λ outside. asked_at r (Some l) c outside m) x now same h

none_of : {A B : Type 0} (f : A → B) (xs : List A) → map f (reverse xs) ≡ [] → xs ≡ []
none_of f [] e = refl
none_of f (x ∷ xs) e = absurd (omega (arith, ap length e, length-map (reverse (x ∷ xs)) f, length-reverse (x ∷ xs)))

-- no frame is left
pub all_left : (at : Mark → List Contents) (xs : List OpenFrame) (fs : List Frame) → frames_of at (reverse xs) ≡ outward None fs → xs ≡ []
all_left at xs fs e = none_of (λ f. frame_of at f) xs (e ∙ outward_all fs)

-- ---- turns

turn_used : (n : ℕ) (go : Machine → Machine) (m : Machine) → 0 < n → at_turn n go m ≡ More (go (record m { turns = n - 1 }))
turn_used zero go m h = absurd (omega (arith, h))
turn_used (suc n) go m h =
    let e : suc n - 1 ≡ n = omega arith in
    ap (λ k. More (go (record m { turns = k }))) (sym e)

-- a handler that gets its turn
pub handled_more : (go : Machine → Machine) (m now : Machine) → 0 < m.turns → go (record m { turns = m.turns - 1 }) ≡ now → LeadsTo (at_turn m.turns go m) outcome.More now
handled_more go m now h e = subst (λ t. LeadsTo t outcome.More now) (sym (turn_used m.turns go m h)) e

-- ---- results

pub ok_map : {A E : Type 0} {P Q : Type 0} (r : Result A E) → OnOk r P → (P → Q) → OnOk r Q
ok_map (Ok a) h f = f h
ok_map (Err e) h f = tt

pub if_ok_map : {A E : Type 0} {P Q : A → Type 0} (r : Result A E) → IfOk r P → ((x : A) → P x → Q x) → IfOk r Q
if_ok_map (Ok a) h f = f a h
if_ok_map (Err e) h f = tt

-- ---- raised again

here_in : (code : RawCode) (c : Entries) (callers : List Activation) (m : Machine) (o : Outcome) (now : Machine) →
    Meets (λ outside. asked (routine_at code m.running.routine) c outside m) (Here o) now → LeadsTo (raised_in code c callers m) o now
here_in code c [] m o now h = h (λ n. Over (Raised (by_state c)) n)
here_in code c (a ∷ callers) m o now h = h (λ n. raised_in code (by_state c) callers (record n { running = a; callers = callers }))

-- what the condition meets in the activation that runs is what it leads to
pub raised_here : (code : RawCode) (c : Entries) (m : Machine) (o : Outcome) (now : Machine) →
    Meets (λ outside. asked (routine_at code m.running.routine) c outside m) (Here o) now → LeadsTo (raised code c m) o now
raised_here code c m o now h = here_in code c m.callers m o now h

-- without a caller the run is over
pub raised_out : (code : RawCode) (c : Entries) (m now last : Machine) → m.callers ≡ [] →
    Meets (λ outside. asked (routine_at code m.running.routine) c outside m) Outside now → at_end now ≡ at_end last → LeadsTo (raised code c m) (outcome.Over (ending.Raised (by_state c))) last
raised_out code c m now last e h t =
    let is : raised code c m ≡ Over (Raised (by_state c)) h.0 = ap (λ cs. raised_in code c cs m) e ∙ h.1 (λ n. Over (Raised (by_state c)) n) in
    subst (λ x. LeadsTo x (outcome.Over (ending.Raised (by_state c))) last) (sym is) (refl, h.2 ∙ t)

-- at the caller it is raised again
pub raised_again : (code : RawCode) (c : Entries) (m now : Machine) (a : Activation) (callers : List Activation) → m.callers ≡ a ∷ callers →
    Meets (λ outside. asked (routine_at code m.running.routine) c outside m) Outside now → raised code c m ≡ raised code (by_state c) (record now { running = a; callers = callers })
raised_again code c m now a callers e h =
    ap (λ cs. raised_in code c cs m) e
    ∙ h.1 (λ n. raised_in code (by_state c) callers (record n { running = a; callers = callers }))
    ∙ ap (λ (x : Machine). raised_in code (by_state c) callers (record x { running = a; callers = callers })) h.2
