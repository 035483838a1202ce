-- Two results that meet the promise of a call over lent nodes coincide: what the answer says, every node, head, tail
-- and entry, and the clock. What it says determines the answer: proofs/Answers.antt, and wheel_rules,
-- proofs/history/Coincide.antt (`noted`, `counted`, `dued`; create's: `create_coincides`).
use Prim.Native.Nat.{ℕ}
use native.Mathlib.Omega.{arith}
use mathlib.Core.Path.{◌≡◌, refl, ap}
use mathlib.Core.Bool.{Bool}
use mathlib.Core.List.{List, [], ◌∷◌}
use lib.ListN.{length}
use Rattle.rules.specs.Wheel.{Call, Answer}
use Rattle.wheel_rules.specs.declared.calls.Clock.{Clock}
use Rattle.wheel_rules.specs.Lent.{Records}
use Rattle.wheel_rules.specs.Promise.{Promised}
use Rattle.wheel_rules.proofs.calls.Promising.{coincide}
use Rattle.face_rules.specs.declared.Node.{Node}
use Rattle.face_rules.specs.Face.{next_slots as nexts, prev_slots as prevs, bucket_numbers as buckets, entry_numbers, generations, serials, records_of as shown}

-- ---- equal fields, equal nodes
nodes_one : (ns ms : List Node) → nexts ns ≡ nexts ms → prevs ns ≡ prevs ms → buckets ns ≡ buckets ms → entry_numbers ns ≡ entry_numbers ms
    → generations ns ≡ generations ms → serials ns ≡ serials ms → ns ≡ ms
nodes_one [] [] a b c d e f = refl
nodes_one [] (w ∷ ws) a b c d e f = absurd (omega (arith, ap length a))
nodes_one (v ∷ vs) [] a b c d e f = absurd (omega (arith, ap length a))
nodes_one (v ∷ vs) (w ∷ ws) a b c d e f =
    let i : v.next ≡ w.next = cc in
    let j : v.prev ≡ w.prev = cc in
    let k : v.bucket ≡ w.bucket = cc in
    let l : v.entry ≡ w.entry = cc in
    let m : v.generation ≡ w.generation = cc in
    let n : v.serial ≡ w.serial = cc in
    let one : v ≡ w = λ o. record { next = i o; prev = j o; bucket = k o; entry = l o; generation = m o; serial = n o } in
    let rest : vs ≡ ws = nodes_one vs ws (cc) (cc) (cc) (cc) (cc) (cc) in
    λ o. one o ∷ rest o

-- ---- equal records: each list and the clock
pub record Same (hs ts hs' ts' : List ℕ) (ns ns' : List Node) (d d' : List Bool) (l m l' m' : List ℕ) (c c' : Clock) : Type 0 where
  pub heads : hs ≡ hs'
  pub tails : ts ≡ ts'
  pub nodes : ns ≡ ns'
  pub dated : d ≡ d'
  pub deadline : l ≡ l'
  pub stamp : m ≡ m'
  pub clock : c ≡ c'

pub shown_one : (hs ts hs' ts' : List ℕ) (ns ns' : List Node) (d d' : List Bool) (l m l' m' : List ℕ) (c c' : Clock)
    → shown hs ts ns d l m c ≡ shown hs' ts' ns' d' l' m' c' → Same hs ts hs' ts' ns ns' d d' l m l' m' c c'
shown_one hs ts hs' ts' ns ns' d d' l m l' m' c c' e =
    record {
      heads = ap (λ (R : Records). R.nodes.links.heads) e;
      tails = ap (λ (R : Records). R.nodes.links.tails) e;
      nodes =
          nodes_one ns ns' (ap (λ (R : Records). R.nodes.links.next) e) (ap (λ (R : Records). R.nodes.links.prev) e)
          (ap (λ (R : Records). R.nodes.links.home) e) (ap (λ (R : Records). R.nodes.entry) e) (ap (λ (R : Records). R.nodes.generation) e)
          (ap (λ (R : Records). R.nodes.serial) e);
      dated = ap (λ (R : Records). R.entries.dated) e;
      deadline = ap (λ (R : Records). R.entries.deadline) e;
      stamp = ap (λ (R : Records). R.entries.generation) e;
      clock = ap (λ (R : Records). R.clock) e;
    }

-- ---- every call
pub face_coincides : (R : Records) (hs ts hs' ts' : List ℕ) (ns ns' : List Node) (d d' : List Bool) (l m l' m' : List ℕ) (k k' : Clock) (c : Call)
    (a b : Answer) → Promised c R (shown hs ts ns d l m k) a → Promised c R (shown hs' ts' ns' d' l' m' k') b
    → (a ≡ b) × Same hs ts hs' ts' ns ns' d d' l m l' m' k k'
face_coincides R hs ts hs' ts' ns ns' d d' l m l' m' k k' c a b p q =
    let u = coincide R (shown hs ts ns d l m k) (shown hs' ts' ns' d' l' m' k') c a b p q in
    (u.0, shown_one hs ts hs' ts' ns ns' d d' l m l' m' k k' u.1)
