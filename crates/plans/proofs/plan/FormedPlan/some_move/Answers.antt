use Rattle.std.proofs.Common.{◌≡◌, Bool, true, false, rules}
use borrow.Author.Tests.{tests}
use Rattle.std.proofs.lemmas.Iterator.{cases_from_any}
use Rattle.std.proofs.lemmas.Iterator.Consumers.{YieldsList-from_first, YieldsList-from_enumerate, YieldsList-at}
use Rattle.game.specs.declared.Arc.{Arc}
use Rattle.arena.specs.Arcs.{arcs_from}
use Rattle.plans.specs.Choices.{allows}
use Rattle.plans.proofs.Choices.{moves_from_any}
use Rattle.plans.proofs.Complete.{formed_from}
use Rattle.plans.proofs.plan.FormedPlan.some_move.Goals as goal

pub returns : goal.returns
returns g c =
    let a = g.A.Arena.game c.args.self.now.arena.now in
    let bytes = c.args.self.now.bytes.now in
    let choice = c.choice-choice.result in
    let says : Arc → Bool → Type 0 = λ arc b. g.F.Fn.post c.args.test (arc, tt) b in
    let arcs = YieldsList-from_enumerate (YieldsList-at c.enumerate.ensures.source (YieldsList-from_first (λ x. x) (λ s. arcs_from (g.A.Arena.game s.arena.now) s.position s.next) (arcs_from a c.args.v 0) c.of.ensures)) c.enumerate.ensures.count in
    let found = cases_from_any c.any.new.self _ c.any.result (λ p. (allows choice p.0 ≡ true) × says p.1 true) (λ p. allows choice p.0 ≡ true → says p.1 false) c.any.ensures.ran arcs (λ x q k. search (rules, tests)) (λ x q k. (search (rules, tests), search (rules, tests))) in
    moves_from_any a bytes (g.A.Arena.lawful c.args.self.now.arena.now) (formed_from a bytes c.args.self.now.formed) c.args.v c.requires.there says c.any.result (rw c.choice-choice.ensures at found)
