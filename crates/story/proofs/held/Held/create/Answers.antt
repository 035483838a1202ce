-- `create` keeps the wheel's promise.
use Rattle.story.proofs.held.Held.create.Goals as goal

pub returns : goal.returns
returns c = c.create-made.ensures.promised _
