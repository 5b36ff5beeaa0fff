use Rattle.std.proofs.Common.{rules, ◌≤◌, ◌↔◌, IsTrue, sym, subst}
use Rattle.std.proofs.iter.runs.Made.{chains}
use Rattle.sheet.specs.Layout.{mover_byte, first_record, records, AllVisible}
use Rattle.sheet.proofs.layout.HeadedSheet.position_fits.Goals as goal

pub returns-then-from-records : goal.returns-then-from-records
returns-then-from-records c =
    let s = c.args.self.now.bytes.now in
    let same = c.position_record-record.ensures.name in
    let name : IsTrue c.all.result ↔ AllVisible c.position_record-record.result.name = search (rules, chains) in
    let mover : mover_byte s c.args.v ≤ 1 = search rules in
    let first : first_record s c.args.v ≤ records s = search rules in
    (λ yes. record { mover = mover; first = first; name = subst AllVisible same (name.0 yes) }, λ fits. name.1 (subst AllVisible (sym same) fits.name))
