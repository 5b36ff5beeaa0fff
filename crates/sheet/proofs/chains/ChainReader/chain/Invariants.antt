use Rattle.std.proofs.Common.{◌≡◌, vec_items, not, count_by}
use Rattle.sheet.specs.Reading.{number, FromOne}
use Rattle.sheet.proofs.Steps.{UnderWay}
use Rattle.sheet.proofs.chains.ChainReader.chain.Given as goal

abbrev pub invariant-loop-next : goal.invariant-loop-next
invariant-loop-next l =
    UnderWay l.self.sheet.sheet.bytes.now (number l.fn.first) l.initial.self.marks.marked l.self.marks.marked (number l.next) (vec_items l.arcs)
    × FromOne l.next
    × (l.self.sheet.sheet.bytes.now ≡ l.initial.self.sheet.sheet.bytes.now)

abbrev pub decreases-loop-next : goal.decreases-loop-next
decreases-loop-next l = count_by not l.self.marks.marked
