-- `lines::digests::digest_all` meets its contract.
use Rattle.std.proofs.Common.{◌≡◌, ◌∙◌, rules}
use Rattle.std.specs.List.{fold}
use Rattle.std.proofs.iter.runs.Made.{chains}
use Rattle.lines.specs.Digests.{mixed}
use Rattle.lines.proofs.Mixes.{mixed_fold}
use Rattle.lines.proofs.digests.digest_all.Goals as goal

pub returns : goal.returns
returns c =
    let e : c.fold.result ≡ fold mixed c.args.h c.args.words.now = search (rules, chains) in
    e ∙ mixed_fold c.args.h c.args.words.now
