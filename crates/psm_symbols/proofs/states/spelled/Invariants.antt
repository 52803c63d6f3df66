use Rattle.std.proofs.Common.{◌≡◌, ◌++◌, true, drop}
use Rattle.std.specs.List.{list_all}
use Rattle.std.specs.Prelude.{string_bytes}
use Rattle.psm_sqlstate.specs.State.{is_state_character}
use Rattle.psm_symbols.proofs.states.spelled.Given as goal

abbrev pub invariant-loop-c : goal.invariant-loop-c
invariant-loop-c l = record {
  spelled : string_bytes l.spelled ++ drop l.c-index l.text ≡ l.text;
  good : list_all is_state_character (drop l.c-index l.text) ≡ true;
}
