use Rattle.std.proofs.Common.{◌≡◌, false, refl, get_or, arith, rules}
use Rattle.sheet.specs.Reading.{number}
use Rattle.sheet.proofs.Steps.{way_begins, way_goes_on}
use Rattle.sheet.proofs.chains.ChainReader.chain.Goals as goal

pub loop-next-init : goal.loop-next-init
loop-next-init c =
    let sheet = c.args.self.now.sheet in
    (rw c.new-arcs.ensures.items (way_begins sheet.sheet.bytes.now (number c.args.first) sheet.recorded c.args.self.now.marks.marked c.requires.there (omega arith)), c.requires.from_one, refl)

pub loop-next-preserved : goal.loop-next-preserved
loop-next-preserved c =
    let sheet = c.loop-next.self.sheet in
    let (way, some, same) = rw c.in-Some.is at c.loop-next.invariant in
    let unmarked : get_or c.loop-next.self.marks.marked c.in-Some.k false ≡ false = search rules in
    let on = way_goes_on sheet.sheet.bytes.now (number c.args.first) sheet.recorded way some unmarked in
    let next = c.link-link.ensures in
    (rw (c.in_ok-push.ensures.items, next.arc, next.next, c.mark.ensures.marked) on, next.next_from_one, same)
