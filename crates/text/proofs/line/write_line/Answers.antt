use Rattle.std.proofs.Common.{subst₂, rules}
use Rattle.text.specs.Line.{refusal_line}
use Rattle.text.specs.Output.{Appended}
use Rattle.text.proofs.Joined.{appended_join, appended_all}
use Rattle.text.proofs.line.write_line.Goals as goal

pub returns : goal.returns
returns g c =
    let text = c.over-text.result in
    let after = c.push-3.new.self in
    let all = appended_join (appended_join (appended_join (appended_join c.push.ensures.appended c.push_decimal.ensures.appended) c.push-2.ensures.appended) c.push_decimal-2.ensures.appended) c.push-3.ensures.appended in
    let line = subst₂ (λ n p. Appended text.written (refusal_line n p) text.output.now after.written after.output.now) c.number.ensures c.place.ensures all in
    appended_all c.over-text.ensures.empty c.over-text.ensures.unchanged (search rules) line
