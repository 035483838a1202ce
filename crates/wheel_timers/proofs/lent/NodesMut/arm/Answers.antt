-- `arm` meets its contract.
use Rattle.deque.specs.Slices.{links_now}
use Rattle.deque_rules.specs.Change.{PushesBack}
use Rattle.wheel_rules.proofs.timers.Timing.{arm_does}
use Rattle.wheel_timers.proofs.lent.NodesMut.arm.Goals as goal

pub returns-clause-does : goal.returns-clause-does
returns-clause-does c =
    let pushed : PushesBack (links_now c.args.self.now.linked) (links_now c.write.new.self.linked) c.args.clock.free c.bucket_of-b.result c.push.result =
    rw c.write.ensures.links c.push.ensures.does in
    search arm_does
