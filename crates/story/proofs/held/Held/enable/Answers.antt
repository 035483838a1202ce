-- `enable` keeps the wheel's promise.
use Rattle.story.proofs.Beginning.{enabling_so}
use borrow.Author.Rules.{rules}
use Rattle.story.proofs.held.Held.enable.Goals as goal

pub returns : goal.returns
returns c =
    enabling_so c.args.self.now (search rules) (search rules) (search rules) (search rules) (search rules) (search rules)
    c.enable.ensures
