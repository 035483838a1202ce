-- Histories put together and taken apart, at lists of calls one after the other.
use Prim.Native.Nat.{ℕ}
use mathlib.Core.Path.{◌≡◌, refl, ap}
use mathlib.Core.List.{List, [], ◌∷◌, ◌++◌}
use Rattle.rules.specs.Wheel.{Call, start, Answer, LeftAlone}
use Rattle.wheel_rules.specs.Lent.{Records}
use Rattle.wheel_rules.specs.Promise.{Promised}
use Rattle.wheel_rules.specs.Demand3.{Leads, done, then}

-- ---- put together
pub leads_on : {R S T : Records} {cs ds : List Call} {rs ts : List Answer} → Leads R cs rs S → Leads S ds ts T → Leads R (cs ++ ds) (rs ++ ts) T
leads_on done m = m
leads_on (then p l) m = then p (leads_on l m)

-- a timer that both lists of calls leave alone
pub alone_on : {R S : Records} {cs : List Call} {rs : List Answer} (x n e d : ℕ) (ds : List Call) (ts : List Answer) → Leads R cs rs S
    → LeftAlone x n e d cs rs → LeftAlone x n e d ds ts → LeftAlone x n e d (cs ++ ds) (rs ++ ts)
alone_on x n e d ds ts done u v = v
alone_on x n e d ds ts (then p l) u v = (u.0, alone_on x n e d ds ts l u.1 v)

-- ---- taken apart
-- the records between, and the answers of each part
pub record Halves (R : Records) (cs ds : List Call) (rs : List Answer) (S : Records) : Type 0 where
  pub middle : Records
  pub told : List Answer
  pub further : List Answer
  pub first : Leads R cs told middle
  pub second : Leads middle ds further S
  pub are : rs ≡ told ++ further

pub halves : (R : Records) (cs ds : List Call) (rs : List Answer) (S : Records) → Leads R (cs ++ ds) rs S → Halves R cs ds rs S
halves R [] ds rs S l = record { middle = R; told = []; further = rs; first = done; second = l; are = refl }
halves R (c ∷ cs) ds (a ∷ rs) S (then {M = M} p l) =
    let h = halves M cs ds rs S l in
    record {
      middle = h.middle;
      told = a ∷ h.told;
      further = h.further;
      first = then p h.first;
      second = h.second;
      are = ap (λ (t : List Answer). a ∷ t) h.are;
    }
halves R (c ∷ cs) ds [] S l = elim l [ ]

-- the first call
pub record Begun (R : Records) (c : Call) (cs : List Call) (rs : List Answer) (S : Records) : Type 0 where
  pub then : Records
  pub says : Answer
  pub further : List Answer
  pub call : Promised c R then says
  pub on : Leads then cs further S
  pub are : rs ≡ says ∷ further

pub begun : (R : Records) (c : Call) (cs : List Call) (rs : List Answer) (S : Records) → Leads R (c ∷ cs) rs S → Begun R c cs rs S
begun R c cs (a ∷ rs) S (then {M = M} p l) = record { then = M; says = a; further = rs; call = p; on = l; are = refl }
begun R c cs [] S x' = elim x' [ ]

-- calls before, a start and the calls ps, a call c, and the rest
pub record Parts (R : Records) (bs : List Call) (q : ℕ) (ps : List Call) (c : Call) (ds : List Call) (rs : List Answer) (S : Records) : Type 0 where
  pub told : List Answer
  pub from : Records
  pub leads : Leads R bs told from
  pub first : Answer
  pub opened : Records
  pub starts : Promised (start q) from opened first
  pub answers : List Answer
  pub last : Records
  pub calls : Leads opened ps answers last
  pub final : Answer
  pub closed : Records
  pub closes : Promised c last closed final
  pub further : List Answer
  pub on : Leads closed ds further S
  pub are : rs ≡ told ++ ((first ∷ answers) ++ (final ∷ further))

answers_join : (rs told us vs ts ws zs : List Answer) (a b : Answer) → rs ≡ told ++ us → us ≡ a ∷ vs → vs ≡ ts ++ ws → ws ≡ b ∷ zs
    → rs ≡ told ++ ((a ∷ ts) ++ (b ∷ zs))
answers_join rs told us vs ts ws zs a b i j k m = rw (i, j, k, m)

pub parts : (R : Records) (bs : List Call) (q : ℕ) (ps : List Call) (c : Call) (ds : List Call) (rs : List Answer) (S : Records)
    → Leads R (bs ++ ((start q ∷ ps) ++ (c ∷ ds))) rs S → Parts R bs q ps c ds rs S
parts R bs q ps c ds rs S l =
    let h = halves R bs ((start q ∷ ps) ++ (c ∷ ds)) rs S l in
    let b = begun h.middle (start q) (ps ++ (c ∷ ds)) h.further S h.second in
    let k = halves b.then ps (c ∷ ds) b.further S b.on in
    let f = begun k.middle c ds k.further S k.second in
    record {
      told = h.told;
      from = h.middle;
      leads = h.first;
      first = b.says;
      opened = b.then;
      starts = b.call;
      answers = k.told;
      last = k.middle;
      calls = k.first;
      final = f.says;
      closed = f.then;
      closes = f.call;
      further = f.further;
      on = f.on;
      are = answers_join rs h.told h.further b.further k.told k.further f.further b.says f.says h.are b.are k.are f.are;
    }
