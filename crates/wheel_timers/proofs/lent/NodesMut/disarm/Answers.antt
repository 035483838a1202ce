-- `disarm` meets its contract.
use Rattle.deque.specs.Slices.{links_now}
use Rattle.deque_rules.specs.Change.{Removes}
use Rattle.wheel_rules.proofs.timers.Timing.{disarm_does}
use Rattle.wheel_timers.proofs.lent.NodesMut.disarm.Goals as goal

pub returns-clause-does : goal.returns-clause-does
returns-clause-does c =
    let removed : Removes (links_now c.args.self.now.linked) (links_now c.write.new.self.linked) c.args.clock.free c.args.x =
    rw c.write.ensures.links c.remove.ensures.does in
    search disarm_does
