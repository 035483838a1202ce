-- `string` meets its contract.
use Rattle.std.proofs.lemmas.Grind.{common_steps}
use native.Mathlib.Omega.{arith}
use Rattle.deque_rules.proofs.Laying.{string_links, string_first}
use Rattle.deque.proofs.layout.string.Goals as goal

pub returns : goal.returns
returns c =
    record {
      next_is = search string_links;
      prev_is = grind (arith, common_steps);
      home_is = grind (arith, common_steps);
      free_is = search string_first;
    }
