-- `lines::parts::count` meets its contract.
use Rattle.std.proofs.Common.{◌≡◌, ◌==◌, ◌∙◌, ap, ℕ, ◌+◌, rules}
use Rattle.std.specs.List.{count_by}
use Rattle.std.proofs.iter.runs.Made.{chains}
use Rattle.lines.proofs.Scans.{count_is}
use Rattle.lines.proofs.parts.count.Goals as goal

pub returns : goal.returns
returns c =
    let e : c.count.result ≡ count_by (λ x. x == 32) c.args.line.now = search (rules, chains) in
    ap (λ (n : ℕ). n + 1) e ∙ count_is c.args.line.now
