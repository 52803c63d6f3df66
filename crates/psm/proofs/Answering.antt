-- The causes of the answer, from what was put for words without a form and from what the command answers.
use Rattle.std.proofs.Common.{◌≡◌, ℕ, List, Option, Some, None, refl, subst, inl, inr}
use Rattle.psm_session.specs.Put.{Sunk}
use Rattle.psm_files.specs.Answer.{Answers, PutsLine, Stayed}
use Rattle.psm_files.specs.Expected.{with_line}
use Rattle.psm_files.specs.Fetches.{NoneFailed}
use Rattle.psm_files.specs.declared.status.Status.{Status}
use Rattle.psm_files.specs.declared.status.Status.TheVariants as status
use Rattle.psm_commands.specs.Command.{Command}
use Rattle.psm_commands.specs.Contract.{CommandCompletes, CommandSays}
use Rattle.psm.specs.Contract.{Asked, IsMisused, PsmCompletes, PsmSays}
use Rattle.psm.specs.Message.{usage}
use Rattle.psm.specs.Words.{command_in}

no_command : (words : List (List ℕ)) (c : Command) → command_in words ≡ Some c → command_in words ≡ None → ⊥
no_command words c e n = cc

one_command : (words : List (List ℕ)) (c d : Command) → command_in words ≡ Some c → command_in words ≡ Some d → c ≡ d
one_command words c d e e' = cc

module _ (asked : Asked) (sunk : Sunk) (answer : Status) where
  -- ---- words without a form

  pub says_usage : command_in asked.words ≡ None → NoneFailed asked.fetches → PutsLine (with_line status.Usage usage) sunk answer → PsmSays asked sunk answer
  says_usage none stays puts = by puts
    where
      misused : IsMisused asked (with_line status.Usage usage)
      misused = record { unnamed = none; none_failed = stays; expected_is = refl }

      by : PutsLine (with_line status.Usage usage) sunk answer → PsmSays asked sunk answer
      by (inl p) = inl (record { expected = with_line status.Usage usage; cause = inl misused; put = inl p })
      by (inr (inl p)) = inl (record { expected = with_line status.Usage usage; cause = inl misused; put = inr (inl p) })
      by (inr (inr p)) = inr p

  usage_answers : PutsLine (with_line status.Usage usage) sunk answer → Stayed sunk.faults_before sunk.faults_after → Answers status.Usage answer
  usage_answers (inl p) stayed = inl p.answer_is
  usage_answers (inr (inl p)) stayed = absurd (stayed p.put.rose)
  usage_answers (inr (inr p)) stayed = inr p.answer_is

  pub completes_usage : command_in asked.words ≡ None → PutsLine (with_line status.Usage usage) sunk answer → PsmCompletes asked sunk answer
  completes_usage none puts = record {
    misused = λ stayed n. usage_answers puts stayed;
    commanded = λ command form. absurd (no_command asked.words command form none);
  }

  -- ---- words that state a command

  module _ (command : Command) (form : command_in asked.words ≡ Some command) where
    pub says_command : CommandSays asked.fetches command sunk answer → PsmSays asked sunk answer
    says_command (inl r) = inl (record {
      expected = r.expected;
      cause = inr (record { command = command; form = form; expected_of = r.cause });
      put = r.put;
    })
    says_command (inr r) = inr r

    pub completes_command : CommandCompletes asked.fetches command sunk answer → PsmCompletes asked sunk answer
    completes_command completes = record {
      misused = λ stayed n. absurd (no_command asked.words command form n);
      commanded = λ other form'. subst (λ (c : Command). CommandCompletes asked.fetches c sunk answer) (one_command asked.words command other form form') completes;
    }
