-- `lines::answers::append_to` meets its contract.
use native.Mathlib.Omega.{arith}
use Rattle.lines.proofs.Waiting.{appended_at, appended_out, place_room}
use Rattle.lines.proofs.answers.append_to.Goals as goal

pub returns-then-out-n : goal.returns-then-out-n
returns-then-out-n g c = appended_out _ _ _ (omega arith)

pub copy-requires : goal.copy-requires
copy-requires g c =
    let a = c.args in
    rw c.room-start.ensures (place_room a.out.now a.at a.text.now (omega arith))

pub overflow_add-result : goal.overflow_add-result
overflow_add-result g c =
    let a = c.args in
    omega (arith, c.room-start.ensures, place_room a.out.now a.at a.text.now (omega arith))

pub returns : goal.returns
returns g c =
    let a = c.args in
    rw (c.copy.ensures, c.room-start.ensures)
    (appended_at a.out.now a.at a.text.now (omega arith))
