-- inner: all but the node records, as enabling lays the records out: heads and tails, the entries and the clock.
use Rattle.std.specs.Prelude.{ℕ, List, ◌≡◌, length}
use Rattle.numbers.specs.Shared.{up_from}
use Rattle.wheel_rules.specs.Promise.{bare_entries}
use Rattle.wheel_rules.specs.Lent.{Entries}
use Rattle.wheel_rules.specs.declared.calls.Clock.{Clock}
use Rattle.wheel_rules.specs.layout.Layout.{bare_links, enabled_with}

-- each bucket's head and tail is its own number: the sentinel is alone in it
pub record SeatsEnds (h₀ h t : List ℕ) : Type 0 where
  pub heads_is : h ≡ up_from (length h₀) 0
  pub tails_is : t ≡ up_from (length h₀) 0

-- as many tails as heads, and entries of one length
pub record AroundReady (h t : List ℕ) (E : Entries) : Type 0 where
  pub tails_len : length t ≡ length h
  pub deadline_len : length E.deadline ≡ length E.dated
  pub entries_generation_len : length E.generation ≡ length E.dated

-- "Enable", beside n node records
pub record LaysAround (h t : List ℕ) (E : Entries) (n : ℕ) (c : Clock) (h' t' : List ℕ) (E' : Entries) (c' : Clock) : Type 0 where
  pub heads_are : h' ≡ (bare_links (length h) n).heads
  pub tails_are : t' ≡ (bare_links (length h) n).tails
  pub entries_are : E' ≡ bare_entries (length E.dated)
  pub clock_is : c' ≡ enabled_with (length h) n (length E.dated) c
