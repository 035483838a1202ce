-- `numbers::is_power` meets its contract.
use Rattle.std.proofs.Common.{sym, ◌∙◌, arith}
use borrow.Author.Tests.{lt-leb}
use Rattle.numbers.proofs.Replies.{is_false}
use Rattle.numbers.proofs.Powers.{power_most, power_test}
use Rattle.numbers.proofs.is_power.Goals as goal

pub returns-then-n-le-MOST : goal.returns-then-n-le-MOST
returns-then-n-le-MOST c = c.is_power_of_two.ensures ∙ power_test 16 _ c.if-n-le-MOST.true

pub returns-else-n-le-MOST : goal.returns-else-n-le-MOST
returns-else-n-le-MOST c =
    lt-leb _ _ c.if-n-le-MOST.false ∙ sym (is_false _ (λ t. omega (arith, power_most 16 _ t)))
