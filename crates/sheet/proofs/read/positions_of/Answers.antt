use Rattle.std.proofs.Common.{◌≡◌, ◌∙◌}
use Rattle.sheet.proofs.Gathered.{describes_from, never_comes_from}
use Rattle.sheet.proofs.read.positions_of.Goals as goal

pub returns-in-Some : goal.returns-in-Some
returns-in-Some c =
    let sheet = c.all_positions.new.self.sheet in
    let same : sheet.sheet.bytes.now ≡ c.args.sheet.now = c.in_ok-positions.ensures.same_sheet ∙ c.new-reader.ensures.same_sheet ∙ c.in_ok-recorded.ensures ∙ c.in_ok-placed.ensures ∙ c.in_ok-headed.ensures in
    rw (← same) (sheet.recorded, never_comes_from sheet.recorded c.in_ok-positions.ensures.read c.in-Some.ensures)

pub returns-in-None : goal.returns-in-None
returns-in-None c =
    let sheet = c.all_positions.new.self.sheet in
    let same : sheet.sheet.bytes.now ≡ c.args.sheet.now = c.in_ok-positions.ensures.same_sheet ∙ c.new-reader.ensures.same_sheet ∙ c.in_ok-recorded.ensures ∙ c.in_ok-placed.ensures ∙ c.in_ok-headed.ensures in
    rw (← same) (describes_from sheet.recorded c.in_ok-positions.ensures.read c.in-None.ensures)
