-- The condition that activated the innermost running action, as the definition finds it.
use Rattle.std.proofs.Common.{◌≡◌, ℕ, List, [], ◌∷◌, Option, Some, None, Err, codes, option_map, refl, ap, sym, subst, ◌∙◌}
use Rattle.psm_cond.specs.Area.{Diagnostics}
use Rattle.psm_cond.specs.Condition.{Entries}
use Rattle.psm_table.specs.Table.{Contents}
use Rattle.psm_store.specs.declared.store.Mark.{Mark}
use Rattle.psm_code.specs.Signalling.{activating}
use Rattle.psm_code.specs.State.{Machine}
use Rattle.psm_code.specs.Steps.{Came, Got, got, of_state, raises}
use Rattle.psm_unwind.specs.declared.run.Frame.{Frame}
use Rattle.psm_unwind.specs.declared.run.Frame.TheVariants.{Block, Action}
use Rattle.psm_unwind.specs.Actions.{activating_of}
use Rattle.psm_unwind.specs.View.{frames_of}
use Rattle.psm_machine.specs.declared.stop.Stop.{Stop}
use Rattle.psm_machine.specs.declared.stop.Stop.TheVariants as stop
use Rattle.psm_machine.specs.ActResults.{Evaluates, StopsAt, StopsWith}

abbrev given_of : Option Diagnostics → Machine → Came Entries
given_of None m = raises (of_state (codes "0K000")) m
given_of (Some a) m = got a.entries m

activating_is : (at : Mark → List Contents) (frames : List Frame) (m : Machine) → activating (frames_of at frames) m ≡ given_of (activating_of frames) m
activating_is at [] m = refl
activating_is at (Block k found ∷ frames) m = activating_is at frames m
activating_is at (Action h resume c rows ∷ frames) m = refl

pub activating_given : (at : Mark → List Contents) (frames : List Frame) (m : Machine) (c : Entries) → option_map (λ (a : Diagnostics). a.entries) (activating_of frames) ≡ Some c → activating (frames_of at frames) m ≡ record { given = Got c; machine = m }
activating_given at frames m c e = activating_is at frames m ∙ by (activating_of frames) e where
  by : (o : Option Diagnostics) → option_map (λ (a : Diagnostics). a.entries) o ≡ Some c → given_of o m ≡ record { given = Got c; machine = m }
  by None f = cc
  by (Some a) f = ap (λ (o : Option Entries). or_given o) f where
    or_given : Option Entries → Came Entries
    or_given None = got c m
    or_given (Some x) = got x m

-- a condition stops the instruction
pub raises_with : (A : Type 0) (expected : Entries) (m : Machine) (s : Stop) → StopsWith expected s → Evaluates {A = A} (raises expected m) (Err s) m
raises_with A expected m (stop.Raises c) h = ap (λ x. raises {A = A} x m) (sym h)
raises_with A expected m stop.NoTurns h = absurd h
raises_with A expected m stop.Stuck h = absurd h
raises_with A expected m stop.Memory h = tt

-- so does that of an SQLSTATE
pub raises_comes : (A : Type 0) (state : List ℕ) (m : Machine) (s : Stop) → StopsAt state s → Evaluates {A = A} (raises (of_state state) m) (Err s) m
raises_comes A state m s h = raises_with A (of_state state) m s h

-- an act that raises a condition comes to it
pub raising_comes : (A : Type 0) (came : Came A) (expected : Entries) (m : Machine) (s : Stop) → came ≡ raises expected m → StopsWith expected s → Evaluates came (Err s) m
raising_comes A came expected m s e h = subst (λ (x : Came A). Evaluates x (Err s) m) (sym e) (raises_with A expected m s h)

pub activating_none : (at : Mark → List Contents) (frames : List Frame) (m : Machine) → activating_of frames ≡ None → (s : Stop) → StopsAt (codes "0K000") s → Evaluates (activating (frames_of at frames) m) (Err s) m
activating_none at frames m e s h = subst (λ (x : Came Entries). Evaluates x (Err s) m) (sym (activating_is at frames m ∙ ap (λ o. given_of o m) e)) (raises_comes Entries (codes "0K000") m s h)
