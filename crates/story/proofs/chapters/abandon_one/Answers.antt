-- `abandon_one` meets its contract: the abandoned advance leaves the reading as it was.
use Prim.Native.Nat.{◌^◌}
use mathlib.Core.Path.{refl}
use borrow.Author.Tests.{eq-eqb}
use Rattle.rules.specs.Places.{tick}
use Rattle.rules.specs.Wheel.{abandon, start}
use Rattle.story.proofs.Telling.{on, says, reads}
use Rattle.story.proofs.chapters.abandon_one.Goals as goal

pub expect-requires : goal.expect-requires
unfolding tick
expect-requires c = c.is_noted.ensures.yes (says (start (2 ^ 31)) _ _ c.requires c.start.ensures _ refl)

pub expect-requires-2 : goal.expect-requires-2
unfolding tick
expect-requires-2 c =
    let r1 = on (start (2 ^ 31)) _ _ c.requires c.start.ensures in
    c.is_noted-2.ensures.yes (says abandon _ _ r1
    c.abandon.ensures _ refl)

pub expect-requires-3 : goal.expect-requires-3
unfolding tick
expect-requires-3 c =
    let r1 = on (start (2 ^ 31)) _ _ c.requires c.start.ensures in
    let r2 = on abandon _ _ r1 c.abandon.ensures in
    eq-eqb _ 0 (reads r2 0 refl)

pub returns : goal.returns
returns c =
    let r1 = on (start (2 ^ 31)) _ _ c.requires c.start.ensures in
    let r2 = on abandon _ _ r1 c.abandon.ensures in
    r2
