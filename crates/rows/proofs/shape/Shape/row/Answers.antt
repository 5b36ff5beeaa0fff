use Rattle.std.proofs.Common.{ℕ, replicate, Some, ap, sym, ◌∙◌, arith}
use Rattle.std.proofs.lemmas.List.{length-take-le, take-replicate, take_at}
use Rattle.rows.proofs.Filling.{filling_none, filling_more, filling_all}
use Rattle.rows.proofs.shape.Shape.row.Goals as goal

pub loop-i-init : goal.loop-i-init
loop-i-init c =
    let s = c.args.self in
    rw (take-replicate {X = ℕ} s.registers 5 0 s.few) (filling_none s.registers s.top c.args.k c.requires)

pub loop-i-preserved : goal.loop-i-preserved
loop-i-preserved c =
    let s = c.args.self in
    let e = length-take-le {A = ℕ} s.registers (replicate 5 0) s.few in
    rw c.before-rest.ensures.value
    (filling_more s.registers s.top c.args.k c.loop-i.content-items c.loop-i.i c.loop-i.top c.loop-i.rest c.first-top.result (omega arith) c.loop-i.invariant c.first-top.ensures.under c.first-top.ensures.reached c.first-top.ensures.passed)

pub returns : goal.returns
returns c =
    let s = c.args.self in
    let e = length-take-le {A = ℕ} s.registers (replicate 5 0) s.few in
    filling_all s.registers s.top c.args.k c.loop-i.content-items c.loop-i.i c.loop-i.top c.loop-i.rest (omega arith) c.loop-i.invariant ∙
    ap Some (sym (take_at c.loop-i.content-items _ s.registers c.loop-i.invariant.whole))
