-- `lines::rows::digest_row` meets its contract.
use Rattle.std.proofs.Common.{◌≡◌, ◌∙◌, rules}
use Rattle.std.specs.List.{fold}
use Rattle.std.proofs.iter.runs.Made.{chains}
use Rattle.lines.specs.Digests.{mixed, counts_as}
use Rattle.lines.proofs.Mixes.{mixed_row_fold}
use Rattle.lines.proofs.rows.digest_row.Goals as goal

pub returns : goal.returns
returns c =
    let e : c.fold.result ≡ fold (λ d v. mixed d (counts_as v)) c.args.h c.args.values.now = search (rules, chains) in
    e ∙ mixed_row_fold c.args.h c.args.values.now
