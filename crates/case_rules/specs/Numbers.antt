-- The numbers and places of verdicts and faults.
use Rattle.std.specs.Prelude.{ℕ, Some, None, Option}
use Rattle.game.specs.declared.Player.{Player}
use Rattle.game.specs.Game.{parity}
use Rattle.plans.specs.Refusals.{number_of, place_of}
use Rattle.case_rules.specs.declared.fault.CaseFault.{CaseFault}
use Rattle.case_rules.specs.declared.fault.CaseFault.TheVariants as case
use Rattle.case_rules.specs.declared.fault.IssueFault.{IssueFault}
use Rattle.case_rules.specs.declared.fault.IssueFault.TheVariants as issue

-- Even 0, Odd 1, open 2.
abbrev pub verdict_number : Option Player → ℕ
verdict_number (Some player) = parity player
verdict_number None = 2

abbrev pub case_number : CaseFault → ℕ
case_number case.Limits = 10
case_number (case.Position v) = 11
case_number (case.Arc v) = 12
case_number (case.Plan fault) = number_of fault

abbrev pub case_place : CaseFault → ℕ
case_place case.Limits = 0
case_place (case.Position v) = v
case_place (case.Arc v) = v
case_place (case.Plan fault) = place_of fault

abbrev pub issue_number : IssueFault → ℕ
issue_number issue.Limits = 10
issue_number issue.Player = 13
issue_number issue.NotFull = 14
issue_number (issue.Output wanted) = 15
issue_number (issue.Cells wanted) = 16

abbrev pub issue_place : IssueFault → ℕ
issue_place issue.Limits = 0
issue_place issue.Player = 0
issue_place issue.NotFull = 0
issue_place (issue.Output wanted) = wanted
issue_place (issue.Cells wanted) = wanted
