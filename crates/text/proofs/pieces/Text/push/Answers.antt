use Rattle.std.proofs.Common.{◌-◌, ◌++◌, length, take, ap, ◌∙◌, arith}
use Rattle.std.proofs.lemmas.Slice.{take-put_mid, drop-put_mid}
use Rattle.text.proofs.pieces.Text.push.Goals as goal

pub returns-clause-appended : goal.returns-clause-appended
returns-clause-appended c =
    let old = c.args.self.now.output.now in
    let at = c.args.self.now.written in
    let end = c.end_with-end.result in
    let end_is = c.end_with-end.ensures in
    let piece = c.copy_from_slice.ensures.after in
    let long = ap length piece in
    let written = c.copy_from_slice.new.self in
    record {
      end_is = end_is;
      front = take-put_mid at (end - at) old written end (omega arith) (omega arith) ∙ ap (λ xs. take at old ++ xs) piece;
      rest = drop-put_mid at (end - at) old written end (omega arith) (omega arith) (omega arith);
    }
