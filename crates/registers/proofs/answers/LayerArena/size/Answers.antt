use Rattle.std.proofs.Common.{◌*◌, ap, ◌∙◌}
use Rattle.registers.specs.Views.{place_total}
use Rattle.registers.proofs.Replies.{size_is}
use Rattle.registers.proofs.answers.LayerArena.size.Goals as goal

pub returns : goal.returns
returns c =
    ap (λ n. n * c.len.result) c.places.ensures ∙ ap (λ n. place_total c.args.self.now * n) c.len.ensures.value ∙ size_is c.args.self.now
