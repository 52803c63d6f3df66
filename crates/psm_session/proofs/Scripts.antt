-- A script, command by command, and its ends.
use Rattle.std.proofs.Common.{◌≡◌, ℕ, ◌+◌, ◌<◌, ◌≤◌, Bool, true, false, List, [], ◌∷◌, ◌++◌, ◌⊎◌, inl, inr, length, take, drop, get_or, Option, refl, sym, ◌∙◌, subst, append_assoc, take-append-drop, take_all}
use Rattle.psm_code.specs.declared.code.RawCode.{RawCode}
use Rattle.psm_meaning.specs.Session.{Standing}
use Rattle.psm_session.specs.Ends.{Ends, RunsOut, IsBroken, IsBrokenCut}
use Rattle.psm_session.specs.CommandSteps.{Runs, none}
use Rattle.psm_session.specs.Put.{Sunk, PutAll, PutSome}
use Rattle.psm_session.specs.Steps.{EndsIn, IsIdle, IsUnmarked, Makes}
use Rattle.psm_session.specs.declared.command.ScriptCommand.{ScriptCommand}
use Rattle.psm_session.specs.declared.script.ScriptEnd.TheVariants as ends
use Rattle.psm_session.specs.declared.step.Step.{Step}
use Rattle.psm_session.specs.declared.step.Step.TheVariants as steps
use Rattle.psm_session.proofs.Commands.{number_at, runs_further, split_at, take_through}
use Rattle.psm_session.proofs.Puts.{sunk, PutAll-nothing, PutAll-still, PutAll-then, PutUpTo-then}

-- n commands were run, and their pieces are put
pub record SoFar (code : RawCode) (cs : List ScriptCommand) (i : ℕ) (s : Standing) (sink : Sunk) (t : Standing) : Type 0 where
  pub pieces : List (List ℕ)
  pub ran : Runs code 1 s (take i cs) pieces t
  pub put : PutAll sink pieces

pub so_far_none : (code : RawCode) (cs : List ScriptCommand) (s : Standing) (w : Option (List ℕ)) (f : ℕ) → SoFar code cs 0 s (sunk w f w f) s
so_far_none code cs s w f = record { pieces = []; ran = none; put = PutAll-nothing w f }

-- before the first command
pub short_at_once : (code : RawCode) (cs : List ScriptCommand) (s t : Standing) (w : Option (List ℕ)) (f : ℕ) → t.tables ≡ s.tables → Ends code cs s (sunk w f w f) t.tables t.turns ends.Memory
short_at_once code cs s t w f same = record {
  pieces = [];
  end = s;
  ran = record { first = []; later = cs; are = refl; ran = none };
  put = PutAll-nothing w f;
  tables_are = same;
}

-- after the last command
pub done : (code : RawCode) (cs : List ScriptCommand) (i : ℕ) (s t : Standing) (sink : Sunk) → length cs ≤ i → SoFar code cs i s sink t → Ends code cs s sink t.tables t.turns ends.Done
done code cs i s t sink le so_far = record {
  pieces = so_far.pieces;
  end = t;
  ran = subst (λ ds. Runs code 1 s ds so_far.pieces t) (take_all i cs le) so_far.ran;
  put = so_far.put;
  tables_are = refl;
  left = refl;
}

module _ (code : RawCode) (cs : List ScriptCommand) (i : ℕ) (c : ScriptCommand) (lt : i < length cs) (e : c ≡ get_or cs i c)
    (s t u : Standing) (w w' w'' : Option (List ℕ)) (f f' f'' : ℕ) (so_far : SoFar code cs i s (sunk w f w' f') t) where
  abbrev before : List ScriptCommand
  before = take i cs

  abbrev later : List ScriptCommand
  later = drop (i + 1) cs

  split : cs ≡ before ++ c ∷ later
  split = split_at cs i c lt e

  split_after : cs ≡ (before ++ c ∷ []) ++ later
  split_after = split ∙ sym (append_assoc before (c ∷ []) later)

  take_here : take (i + 1) cs ≡ before ++ c ∷ []
  take_here = take_through cs i c lt e

  number : i + 1 ≡ length before + 1
  number = number_at cs i c lt

  -- what the command ends in
  abbrev ResultsIn : Step → Type 0
  ResultsIn step = EndsIn code (i + 1) t c (sunk w' f' w'' f'') u step

  pub so_far_next : (step : Step) → step ≡ steps.Next → ResultsIn step → SoFar code cs (i + 1) s (sunk w f w'' f'') u
  so_far_next step is comes =
      let next = subst ResultsIn is comes in
      record {
        pieces = so_far.pieces ++ next.piece ∷ [];
        ran = subst (λ ds. Runs code 1 s ds (so_far.pieces ++ next.piece ∷ []) u) (sym take_here) (runs_further code 1 (i + 1) s t u before c so_far.pieces next.piece number so_far.ran next.makes);
        put = PutAll-then w w' w'' f f' f'' so_far.pieces (next.piece ∷ []) so_far.put next.put;
      }

  runs_out : (piece : List ℕ) (v : Standing) → Makes code (i + 1) t c false piece v → RunsOut code cs s so_far.pieces t piece
  runs_out piece v makes = record {
    first = before;
    command = c;
    later = later;
    are = split;
    ran = so_far.ran;
    stops = (subst (λ n. Makes code n t c false piece v) number makes).0;
  }

  pub ends_turns_used : (step : Step) → step ≡ steps.TurnsUsed → ResultsIn step → Ends code cs s (sunk w f w'' f'') u.tables u.turns ends.TurnsUsed
  ends_turns_used step is comes =
      let last = subst ResultsIn is comes in
      record {
        pieces = so_far.pieces;
        before = t;
        piece = last.piece;
        runs_out = runs_out last.piece u last.makes;
        put = PutAll-then w w' w'' f f' f'' so_far.pieces (last.piece ∷ []) so_far.put last.put;
        tables_are = last.makes.1;
        left = last.makes.2;
      }

  torn : (goes : Bool) (piece : List ℕ) (expected : Standing) → Makes code (i + 1) t c goes piece expected → PutSome (sunk w' f' w'' f'') (piece ∷ []) → u.tables ≡ expected.tables
      → IsBroken code cs s (sunk w f w'' f'') u.tables ⊎ IsBrokenCut code cs s (sunk w f w'' f'') u.tables
  torn true piece expected makes put same = inl (record {
    pieces = so_far.pieces;
    failed = piece;
    end = expected;
    ran = record {
      first = before ++ c ∷ [];
      later = later;
      are = split_after;
      ran = runs_further code 1 (i + 1) s t expected before c so_far.pieces piece number so_far.ran makes;
    };
    put = PutUpTo-then w w' w'' f f' f'' so_far.pieces piece so_far.put put;
    tables_are = same;
  })
  torn false piece expected makes put same = inr (record {
    pieces = so_far.pieces;
    before = t;
    piece = piece;
    runs_out = runs_out piece expected makes;
    put = PutUpTo-then w w' w'' f f' f'' so_far.pieces piece so_far.put put;
    tables_are = same ∙ makes.1;
  })

  pub ends_write_fault : (step : Step) → step ≡ steps.WriteFault → ResultsIn step → Ends code cs s (sunk w f w'' f'') u.tables u.turns ends.WriteFault
  ends_write_fault step is comes = let last = subst ResultsIn is comes in torn last.goes last.piece last.expected last.makes last.put last.same

  ends_idle : IsIdle t (sunk w' f' w'' f'') u → Ends code cs s (sunk w f w'' f'') u.tables u.turns ends.Memory
  ends_idle idle = record {
    pieces = so_far.pieces;
    end = t;
    ran = record { first = before; later = drop i cs; are = sym (take-append-drop i cs); ran = so_far.ran };
    put = PutAll-still w w' w'' f f' f'' so_far.pieces so_far.put idle.put;
    tables_are = idle.same;
  }

  pub ends_memory : (step : Step) → step ≡ steps.Memory → ResultsIn step → Ends code cs s (sunk w f w'' f'') u.tables u.turns ends.Memory
  ends_memory step is comes = ends_idle (subst ResultsIn is comes)

  -- the transaction has no mark after the command, which is a COMMIT
  pub ends_unmarked : IsUnmarked code (i + 1) t c (sunk w' f' w'' f'') u → Ends code cs s (sunk w f w'' f'') u.tables u.turns ends.Memory
  ends_unmarked last = record {
    pieces = so_far.pieces ++ last.is_put.piece ∷ [];
    end = last.expected;
    ran = record {
      first = before ++ c ∷ [];
      later = later;
      are = split_after;
      ran = runs_further code 1 (i + 1) s t last.expected before c so_far.pieces last.is_put.piece number so_far.ran last.is_put.makes;
    };
    put = PutAll-then w w' w'' f f' f'' so_far.pieces (last.is_put.piece ∷ []) so_far.put last.is_put.put;
    tables_are = last.same;
  }
