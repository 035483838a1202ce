-- Why enable's work meets its promise, whatever nodes are lent: refused by the numbers alone, and answered.
use Prim.Native.Nat.{ℕ}
use native.Mathlib.Omega.{arith}
use mathlib.Core.Path.{◌≡◌, refl, sym, ap, subst, ◌∙◌}
use mathlib.Core.Bool.{true, false}
use mathlib.Core.List.{List}
use lib.ListN.{length, length-map}
use Rattle.numbers.specs.Refusals.{number_of}
use Rattle.numbers.specs.declared.refusals.Refusal.{Refusal}
use Rattle.rules.specs.Places.{wheel01}
use Rattle.rules.specs.Wheel.{refused, ok}
use Rattle.wheel_rules.specs.declared.calls.Clock.{Clock}
use Rattle.wheel_rules.specs.Lent.{Entries, Records, records, nodes, NodesLengths}
use Rattle.wheel_rules.specs.layout.Layout.{bare_links, bare_nodes, enabled_with, LayReady}
use Rattle.wheel_rules.specs.layout.Around.{AroundReady, LaysAround}
use Rattle.wheel_rules.proofs.layout.Bare.{bare_lays}
use Rattle.wheel_rules.specs.refusals.Refuse.{LendableAround, RefusesAround, RefusesEnable}
use Rattle.wheel_rules.proofs.refusals.Rows.{past}
use Rattle.wheel_rules.proofs.refusals.Refusing.{enable_around}
use Rattle.wheel_rules.proofs.calls.Acting.{lay_ready}
use Rattle.wheel_rules.proofs.calls.Calling as calling
use Rattle.wheel_rules.specs.calls.Work.{laid_out}
use Rattle.wheel_rules.specs.Promise.{enabling, Promised}
use Rattle.face_rules.specs.declared.Node.{Node}
use Rattle.face_rules.specs.Face.{next_slots as nexts, prev_slots as prevs, entry_numbers, generations, serials, bucket_numbers as homes}
use Rattle.face_rules.specs.nodes.Columns.{columns_of}
use Rattle.face_rules.specs.nodes.Laid.{Laid}
use Rattle.face_rules.proofs.nodes.InPlace.{columns_in, laid_bare}
use Rattle.face_rules.specs.Works.{Enabled, lent_with as shown}

-- each field of the nodes is in a list as long as they are
same_lengths : (ns : List Node)
    → NodesLengths (length (nexts ns)) (length (nexts ns)) (length (prevs ns)) (length (homes ns)) (length (entry_numbers ns)) (length (generations ns))
    (length (serials ns))
same_lengths ns =
    let long : length ns ≡ length (nexts ns) = sym (length-map ns (λ (v : Node). v.next)) in
    record {
      next_len = refl;
      prev_len = length-map ns (λ (v : Node). v.prev) ∙ long;
      bucket_len = length-map ns (λ (v : Node). v.bucket) ∙ long;
      entry_len = length-map ns (λ (v : Node). v.entry) ∙ long;
      generation_len = length-map ns (λ (v : Node). v.generation) ∙ long;
      serial_len = length-map ns (λ (v : Node). v.serial) ∙ long;
    }

module _ (n : ℕ) (c : Clock) (hs ts : List ℕ) (E : Entries) (k : ℕ)
    (f : RefusesAround c.enabled (length hs) (length ts) n (length E.dated) (length E.deadline) (length E.generation) k) where
  -- the numbers of n lent nodes
  module _ (ns : List Node) (e : length ns ≡ n) where
    abbrev before : Records
    before = shown hs ts ns E c

    as_many : n ≡ length (nexts ns)
    as_many = sym (length-map ns (λ (v : Node). v.next) ∙ e)

    numbers : RefusesEnable before k
    numbers =
        enable_around hs ts (nexts ns) (prevs ns) (homes ns) (entry_numbers ns) (generations ns) (serials ns) E.dated E.deadline
        E.generation c k
        (subst (λ (i : ℕ). RefusesAround c.enabled (length hs) (length ts) i (length E.dated) (length E.deadline) (length E.generation) k) as_many f) (same_lengths ns)

  pub enable_refused : (why : Refusal) → k ≡ number_of why → Enabled n c c hs ts hs ts E E false (refused (number_of why))
  enable_refused why x =
      record {
        meets = λ ns ns' e o.
            subst (λ (zs : List Node). Promised (enabling (before ns e)) (before ns e) (shown hs ts zs E c) (refused (number_of why))) (sym (o.stays refl))
            (calling.enable_no (before ns e) why (subst (RefusesEnable (before ns e)) x (numbers ns e)));
      }

  module _ (z : k ≡ 0) where
    lendable : LendableAround (length hs) (length ts) n (length E.dated) (length E.deadline) (length E.generation)
    lendable =
        let u = past 2 k f.by (λ i. omega (arith, z, i)) in
        (past 3 k u.1 (λ i. omega (arith, z, i))).0

    pub enable_asks : AroundReady hs ts E
    enable_asks =
        record {
          tails_len = lendable.ends.tails_len ∙ sym lendable.ends.heads_len;
          deadline_len = lendable.entries.deadline_len;
          entries_generation_len = lendable.entries.generation_len;
        }

    module _ {hs' ts' : List ℕ} {E' : Entries} {c' : Clock} (a : LaysAround hs ts E n c hs' ts' E' c')
        (ns ns' : List Node) (e : length ns ≡ n) (o : Laid ns true ns') where
      abbrev D : ℕ
      D = length hs

      abbrev M : ℕ
      M = length (nexts ns)

      ready : LayReady wheel01 (before ns e).nodes (before ns e).entries
      ready = lay_ready _ _ c (subst (RefusesEnable (before ns e)) z (numbers ns e))

      -- the nodes' columns are those of the records that enabling lays out
      written : columns_of ns' ≡ columns_in (bare_nodes D M)
      written =
          ap columns_of (o.lays refl) ∙ laid_bare ns (omega (arith, e, lendable.ranges.nodes_most))
          ∙ ap (λ (i : ℕ). columns_in (bare_nodes i (length ns))) (sym ready.heads_len)
          ∙ ap (λ (i : ℕ). columns_in (bare_nodes D i)) (e ∙ as_many ns e)

      laid_out_lem : shown hs' ts' ns' E' c' ≡ laid_out (before ns e)
      laid_out_lem =
          let h : hs' ≡ (bare_links D M).heads = a.heads_are ∙ ap (λ (i : ℕ). (bare_links D i).heads) (as_many ns e) in
          let t : ts' ≡ (bare_links D M).tails = a.tails_are ∙ ap (λ (i : ℕ). (bare_links D i).tails) (as_many ns e) in
          let b : c' ≡ enabled_with D M (length E.dated) c = a.clock_is ∙ ap (λ (i : ℕ). enabled_with D i (length E.dated) c) (as_many ns e) in
          λ i.
          records (nodes (h i) (t i) (written i).next (written i).prev (written i).bucket (written i).entry (written i).generation (written i).serial)
          (a.entries_are i) (b i)

      pub enables : Promised (enabling (before ns e)) (before ns e) (shown hs' ts' ns' E' c') ok
      enables =
          subst (λ (R : Records). Promised (enabling (before ns e)) (before ns e) R ok) (sym laid_out_lem)
          (calling.enable_yes _ _ c _ _ _ (subst (RefusesEnable (before ns e)) z (numbers ns e)) (bare_lays _ _ c ready))

    pub enable_done : {hs' ts' : List ℕ} {E' : Entries} {c' : Clock} → LaysAround hs ts E n c hs' ts' E' c'
        → Enabled n c c' hs ts hs' ts' E E' true ok
    enable_done a = record { meets = λ ns ns' e o. enables a ns ns' e o }
