-- `step_back` meets its contract: a clock stepped back hands nothing out.
use mathlib.Core.Path.{refl}
use borrow.Author.Tests.{eq-eqb}
use Rattle.rules.specs.Places.{tick}
use Rattle.rules.specs.Wheel.{pull, start}
use Rattle.story.proofs.Telling.{on, says, reads}
use Rattle.story.proofs.chapters.step_back.Goals as goal

pub expect-requires : goal.expect-requires
unfolding tick
expect-requires c = c.is_noted.ensures.yes (says (start 5) _ _ c.requires c.start.ensures _ refl)

pub expect-requires-2 : goal.expect-requires-2
unfolding tick
expect-requires-2 c =
    let r1 = on (start 5) _ _ c.requires c.start.ensures in
    c.is_end.ensures.yes (says pull _ _ r1 c.pull.ensures _ refl)

pub expect-requires-3 : goal.expect-requires-3
unfolding tick
expect-requires-3 c =
    let r1 = on (start 5) _ _ c.requires c.start.ensures in
    let r2 = on pull _ _ r1 c.pull.ensures in
    eq-eqb _ 5 (reads r2 5 refl)

pub returns : goal.returns
returns c =
    let r1 = on (start 5) _ _ c.requires c.start.ensures in
    let r2 = on pull _ _ r1 c.pull.ensures in
    r2
