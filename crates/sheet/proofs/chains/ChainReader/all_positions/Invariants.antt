use Rattle.std.proofs.Common.{◌≡◌, vec_items}
use Rattle.table.specs.Sites.{sites_of}
use Rattle.sheet.specs.Reading.{AllRead}
use Rattle.sheet.proofs.chains.ChainReader.all_positions.Given as goal

abbrev pub invariant-loop-v : goal.invariant-loop-v
invariant-loop-v l =
    (l.self.sheet.sheet.bytes.now ≡ l.initial.self.sheet.sheet.bytes.now)
    × AllRead l.self.sheet.sheet.bytes.now l.v l.self.marks.marked (sites_of (vec_items l.all))
