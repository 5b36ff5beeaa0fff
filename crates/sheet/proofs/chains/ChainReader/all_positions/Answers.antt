use Rattle.std.proofs.Common.{◌<◌, [], ◌∷◌, vec_items, ap, ◌∙◌}
use Rattle.std.proofs.lemmas.List.{map-append}
use Rattle.std.proofs.lemmas.Result.{err_from_is_err_and}
use Rattle.table.specs.Sites.{site_of, sites_of}
use Rattle.sheet.specs.Layout.{positions}
use Rattle.sheet.specs.Reading.{AllRead}
use Rattle.sheet.proofs.Gathered.{one_more_read, all_stop}
use Rattle.sheet.proofs.chains.ChainReader.all_positions.Goals as goal

pub position-requires : goal.position-requires
position-requires c = rw (c.loop-v.invariant.0, ← c.positions-v-end.ensures) c.loop-v-test.true

pub returns-in_err-position : goal.returns-in_err-position
returns-in_err-position c =
    let p = err_from_is_err_and c.from_residual.result c.from_residual.ensures.1 in
    let kept = c.in_err-position.ensures.same_sheet in
    let same = kept ∙ c.loop-v.invariant.0 in
    let all : AllRead c.position.new.self.sheet.sheet.bytes.now c.loop-v.v c.loop-v.self.marks.marked (sites_of (vec_items c.loop-v.all)) = rw kept c.loop-v.invariant.1 in
    let there : c.loop-v.v < positions c.position.new.self.sheet.sheet.bytes.now = rw (same, ← c.positions-v-end.ensures) c.loop-v-test.true in
    record {
      same_sheet = same;
      read = rw (p.1, p.2) (all_stop c.position.new.self.marks.marked c.position.new.self.sheet.recorded there all c.in_err-position.field-0.0 c.in_err-position.ensures.read);
    }

pub loop-v-preserved : goal.loop-v-preserved
loop-v-preserved c =
    let items = ap sites_of c.in_ok-push.ensures.items ∙ map-append site_of (vec_items c.loop-v.all) (c.in_ok-position.field-0 ∷ []) in
    let kept = c.in_ok-position.ensures.same_sheet in
    let all : AllRead c.position.new.self.sheet.sheet.bytes.now c.loop-v.v c.loop-v.self.marks.marked (sites_of (vec_items c.loop-v.all)) = rw kept c.loop-v.invariant.1 in
    (kept ∙ c.loop-v.invariant.0, rw items (one_more_read all c.in_ok-position.ensures.read))
