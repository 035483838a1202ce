-- What is done to the node records is done to the lists that they show: a slot armed, freed, moved; a bucket entered.
use Prim.Native.Nat.{ℕ, ◌+◌, ◌≤◌, ◌<◌}
use native.Mathlib.Omega.{arith}
use mathlib.Core.Path.{◌≡◌, refl, sym, ap, subst, ◌∙◌}
use mathlib.Core.Logic.{inl, inr, ⊎_elim}
use mathlib.Core.Bool.{Bool, true, false, cond}
use mathlib.Core.List.{List, [], ◌∷◌, ◌++◌, append_assoc}
use lib.ListN.{length, get_or, set, length-set}
use lib.Seq.{get_or-set_same, get_or-set_other}
use lib.Dec.{eqb, ltb}
use borrow.Author.Tests.{eq-eqb, ne_eqb, lt-ltb, le-ltb}
use Rattle.numbers.specs.Lists.{rest, remove}
use Rattle.numbers.specs.Shared.{In, before_in as before, no_slot as nowhere}
use Rattle.deque_rules.specs.Chain.{turned as turnedList}
use Rattle.deque_rules.specs.Links.{Links, home_of, deq, Rep, Deques as Held}
use Rattle.deque_rules.specs.Lists.{with_deque, push_back, take_out, turn, taken as takenFree, freed as freedSlot}
use Rattle.numbers.proofs.Members.{split_at}
use Rattle.rules.specs.Lists.{times}
use Rattle.rules.specs.Wheel.{Bucket, Slot as Node, Lists, whole, new_node, placed_in, freed, update, without, count, at_back as pushed, link, taken, unlink, release}
use Rattle.rules.specs.Wheel.{claim, turned, enter}
use Rattle.rules.specs.Sound.{SoundLists}
use Rattle.numbers.proofs.Cases.{same?, below?, not_both}
use Rattle.rules.proofs.Counting.{hit_is, hit_most, update_is, update_not}
use Rattle.wheel_rules.specs.Lent.{Nodes, node_at}
use Rattle.wheel_rules.specs.records.Records.{join}

-- ---- one bucket
whole_pushed : (z x : ℕ) (B : Bucket) → whole z B ++ (x ∷ []) ≡ whole z (pushed x B)
whole_pushed z x B = append_assoc B.early (z ∷ B.late) (x ∷ [])

without_none : (x : ℕ) (xs : List ℕ) → count x xs ≡ 0 → without x xs ≡ xs
without_none x [] h = refl
without_none x (y ∷ xs) h =
    ⊎_elim
    (λ (e : x ≡ y). absurd (omega (arith, hit_is x y e)))
    (λ (n : x ≡ y → ⊥). simp (ne_eqb x y n) (ap (λ (l : List ℕ). y ∷ l) (without_none x xs (omega arith))))
    (same? x y)

remove_none : (x : ℕ) (xs : List ℕ) → remove x xs ≡ without x xs
remove_none x [] = refl
remove_none x (y ∷ xs) = ap (λ (l : List ℕ). cond (eqb x y) xs (y ∷ l)) (remove_none x xs)

-- x stands there once at most, and is not the sentinel
whole_taken : (z x : ℕ) (fs bs : List ℕ) → (x ≡ z → ⊥) → count x fs + count x bs ≤ 1 → remove x (fs ++ (z ∷ bs)) ≡ without x fs ++ (z ∷ without x bs)
whole_taken z x [] bs ne h = simp (ne_eqb x z ne) (ap (λ (l : List ℕ). z ∷ l) (remove_none x bs))
whole_taken z x (y ∷ fs) bs ne h =
    ⊎_elim
    (λ (e : x ≡ y). simp (eq-eqb x y e) (ap (λ (l : List ℕ). fs ++ (z ∷ l)) (sym (without_none x bs (omega (arith, hit_is x y e))))))
    (λ (n : x ≡ y → ⊥). simp (ne_eqb x y n) (ap (λ (l : List ℕ). y ∷ l) (whole_taken z x fs bs ne (omega arith))))
    (same? x y)

in_count : (x : ℕ) (xs : List ℕ) → In x xs → 0 < count x xs
in_count x (y ∷ xs) (inl e) = omega (arith, hit_is x y e)
in_count x (y ∷ xs) (inr m) = omega (arith, in_count x xs m)
in_count x [] x'' = elim x'' [ ]

whole_turned : (z : ℕ) (B : Bucket) → count z B.early ≡ 0 → turnedList z (whole z B) ≡ whole z (turned B)
whole_turned z B h =
    let r = split_at B.early B.late z (λ m. omega (arith, in_count z B.early m)) in
    ap (λ (l : List ℕ). l ++ (before z (whole z B) ++ (z ∷ []))) r.1
    ∙ ap (λ (l : List ℕ). B.late ++ (l ++ (z ∷ []))) r.0
    ∙ sym (append_assoc B.late B.early (z ∷ []))

-- ---- all of them
-- the deques of v are the buckets f
abbrev pub Tells : ℕ → Held → (ℕ → Bucket) → Type 0
Tells D v f = (b : ℕ) → b < D → deq v b ≡ whole b (f b)

-- one bucket changes
changed : (D : ℕ) (v : Held) (f : ℕ → Bucket) → length v.held ≡ D → Tells D v f → (b : ℕ) → b < D → (B : Bucket) (q : List ℕ) → q ≡ whole b B
    → Tells D (with_deque b q v) (update f b B)
changed D v f l t b h B q e c i =
    ⊎_elim
    (λ (j : b ≡ c).
    simp (eq-eqb b c j)
    (ap (λ (k : ℕ). get_or (set v.held b q) k []) (sym j) ∙ get_or-set_same v.held b q [] (omega (arith, l)) ∙ e ∙ ap (λ (k : ℕ). whole k B) j))
    (λ (j : b ≡ c → ⊥). simp (ne_eqb b c j) (get_or-set_other v.held b c q [] (λ k. j (sym k)) ∙ t c i))
    (same? b c)

-- the node records N, with m slots of which D are sentinels, show the lists L, by way of the links' lists v
pub record Tied (D m : ℕ) (N : Nodes) (v : Held) (L : Lists) : Type 0 where
  pub rep : Rep N.links v []
  pub count : v.count ≡ D
  pub slots : v.slots ≡ m
  pub bucket : Tells D v L.bucket
  pub free : L.free ≡ v.free
  pub room : D < m
  pub armed : (x : ℕ) → D ≤ x → x < m → (L.node x).armed ≡ (node_at D N x).armed
  pub node : (x : ℕ) → D ≤ x → x < m → (L.node x).armed ≡ true → L.node x ≡ node_at D N x
  pub entry_len : length N.entry ≡ m
  pub generation_len : length N.generation ≡ m
  pub serial_len : length N.serial ≡ m

-- N' says of every slot but x what N says
pub record Spares (D x : ℕ) (N N' : Nodes) : Type 0 where
  pub others : (y : ℕ) → (y ≡ x → ⊥) → node_at D N' y ≡ node_at D N y
  pub entry_len : length N'.entry ≡ length N.entry
  pub generation_len : length N'.generation ≡ length N.generation
  pub serial_len : length N'.serial ≡ length N.serial

module _ (D m : ℕ) (N N' : Nodes) (v v' : Held) (L : Lists) (s : Tied D m N v L) where
  -- the record of the slot x changes to u, and buckets and free chain as they are shown
  noted : (x : ℕ) (u : Node) (f : ℕ → Bucket) (fs : List ℕ) → Rep N'.links v' [] → v'.count ≡ v.count → v'.slots ≡ v.slots → Tells D v' f → fs ≡ v'.free
      → Spares D x N N' → u.armed ≡ (node_at D N' x).armed → (u.armed ≡ true → u ≡ node_at D N' x)
      → Tied D m N' v' (record { bucket = f; free = fs; node = update L.node x u })
  noted x u f fs r ec es t ef p a e =
      record {
        rep = r;
        count = ec ∙ s.count;
        slots = es ∙ s.slots;
        bucket = t;
        free = ef;
        room = s.room;
        armed = λ y h k.
            ⊎_elim
            (λ (j : x ≡ y). simp (eq-eqb x y j) (a ∙ ap (λ (z : ℕ). (node_at D N' z).armed) j))
            (λ (j : x ≡ y → ⊥). simp (ne_eqb x y j) (s.armed y h k ∙ ap (λ (w : Node). w.armed) (sym (p.others y (λ i. j (sym i))))))
            (same? x y);
        node = λ y h k l.
            ⊎_elim
            (λ (j : x ≡ y).
            simp (eq-eqb x y j)
            (e (ap (λ (w : Node). w.armed) (sym (update_is L.node x y u j)) ∙ l) ∙ ap (λ (z : ℕ). node_at D N' z) j))
            (λ (j : x ≡ y → ⊥).
            simp (ne_eqb x y j)
            (s.node y h k (ap (λ (w : Node). w.armed) (sym (update_not L.node x y u j)) ∙ l) ∙ sym (p.others y (λ i. j (sym i)))))
            (same? x y);
        entry_len = p.entry_len ∙ s.entry_len;
        generation_len = p.generation_len ∙ s.generation_len;
        serial_len = p.serial_len ∙ s.serial_len;
      }

-- what a node record says is put together of four numbers
says : (D b e h n b' e' h' n' : ℕ) → b ≡ b' → e ≡ e' → h ≡ h' → n ≡ n'
    → ◌≡◌ {A = Node} (record { armed = ltb b D; bucket = b; entry = e; generation = h; serial = n })
    (record { armed = ltb b' D; bucket = b'; entry = e'; generation = h'; serial = n' })
says D b e h n b' e' h' n' p q r t = rw (p, q, r, t) refl

-- ---- the steps
module _ (D m entries next : ℕ) (N : Nodes) (v : Held) (L : Lists) (s : Tied D m N v L) (o : SoundLists D m entries next L) where
  size : length v.held ≡ D
  size = s.rep.held_len ∙ s.count

  -- a sentinel stands before no sentinel and after none
  sentinel_none : (z b : ℕ) → z < D → times z (L.bucket b) ≡ 0
  sentinel_none z b h =
      ⊎_elim
      (λ (i : 0 < times z (L.bucket b)). absurd (omega (arith, (o.slot z (o.member b z i)).0)))
      (λ (i : times z (L.bucket b) ≤ 0). omega arith)
      (below? 0 (times z (L.bucket b)))

  -- the bucket b is entered
  pub tied_enter : (b : ℕ) (a : Links) → b < D → Rep a (turn b b v) [] → a.home ≡ N.links.home
      → Tied D m (join a N.entry N.generation N.serial) (turn b b v) (enter b L)
  tied_enter b a h r e =
      record {
        rep = r;
        count = s.count;
        slots = s.slots;
        bucket = changed D v L.bucket size s.bucket b h (turned (L.bucket b)) (turnedList b (deq v b))
            (ap (turnedList b) (s.bucket b h) ∙ whole_turned b (L.bucket b) (omega (arith, sentinel_none b b h)));
        free = s.free;
        room = s.room;
        armed = λ x i k. s.armed x i k ∙ ap (λ (l : List ℕ). ltb (get_or l x 0) D) (sym e);
        node = λ x i k l.
            s.node x i k l
            ∙ ap (λ (l : List ℕ). record {
              armed = ltb (get_or l x 0) D;
              bucket = get_or l x 0;
              entry = get_or N.entry x 0;
              generation = get_or N.generation x 0;
              serial = get_or N.serial x 0;
            }) (sym e);
        entry_len = s.entry_len;
        generation_len = s.generation_len;
        serial_len = s.serial_len;
      }

  module _ (x : ℕ) (after : D ≤ x) (slot : x < m) where
    -- the first free slot x is armed at the back of b
    pub tied_arm : (a : Links) (b e h n : ℕ) (fs : List ℕ) → b < D → v.free ≡ x ∷ fs → Rep a (push_back b x (takenFree v)) [] → a.home ≡ set N.links.home
        x b
        → Tied D m (join a (set N.entry x e) (set N.generation x h) (set N.serial x n)) (push_back b x (takenFree v))
        (link b x (new_node b e h n) (claim fs L))
    tied_arm a b e h n fs hb f r eh =
        let home_x : get_or a.home x 0 ≡ b =
        ap (λ (l : List ℕ). get_or l x 0) eh ∙ get_or-set_same N.links.home x b 0 (omega (arith, s.rep.home_len, s.slots)) in
        let entry-x : get_or (set N.entry x e) x 0 ≡ e = get_or-set_same N.entry x e 0 (omega (arith, s.entry_len)) in
        let generation-x : get_or (set N.generation x h) x 0 ≡ h = get_or-set_same N.generation x h 0 (omega (arith, s.generation_len)) in
        let serial-x : get_or (set N.serial x n) x 0 ≡ n = get_or-set_same N.serial x n 0 (omega (arith, s.serial_len)) in
        let yes : ltb b D ≡ true = lt-ltb b D hb in
        noted D m N (join a (set N.entry x e) (set N.generation x h) (set N.serial x n)) v (push_back b x (takenFree v)) L s x (new_node b e h n)
        (update L.bucket b (pushed x (L.bucket b))) fs r refl refl
        (changed D (takenFree v) L.bucket size s.bucket b hb (pushed x (L.bucket b)) (deq v b ++ (x ∷ []))
        (ap (λ (l : List ℕ). l ++ (x ∷ [])) (s.bucket b hb) ∙ whole_pushed b x (L.bucket b)))
        (ap rest (sym f))
        (record {
          others = λ y ne.
              says D _ _ _ _ _ _ _ _ (ap (λ (l : List ℕ). get_or l y 0) eh ∙ get_or-set_other N.links.home x y b 0 ne) (get_or-set_other N.entry x y e 0 ne)
              (get_or-set_other N.generation x y h 0 ne) (get_or-set_other N.serial x y n 0 ne);
          entry_len = length-set N.entry x e;
          generation_len = length-set N.generation x h;
          serial_len = length-set N.serial x n;
        })
        (sym (ap (λ (k : ℕ). ltb k D) home_x ∙ yes))
        (λ i. sym (says D _ _ _ _ _ _ _ _ home_x entry-x generation-x serial-x ∙ ap
        (λ (t : Bool). record { armed = t; bucket = b; entry = e; generation = h; serial = n }) yes))

    module _ (alive : (L.node x).armed ≡ true) where
      -- what the record says of x is what the lists say
      home_is : (L.node x).bucket ≡ get_or N.links.home x 0
      home_is = ap (λ (w : Node). w.bucket) (s.node x after slot alive)

      -- x leaves its bucket
      tells_out : Tells D (take_out (home_of N.links x) x v) (unlink x L).bucket
      tells_out =
          let b : ℕ = (L.node x).bucket in
          let hb : b < D = o.bucket x alive in
          subst (λ (k : ℕ). Tells D (take_out k x v) (unlink x L).bucket) home_is
          (changed D v L.bucket size s.bucket b hb (taken x (L.bucket b)) (remove x (deq v b))
          (ap (remove x) (s.bucket b hb)
          ∙ whole_taken b x (L.bucket b).early (L.bucket b).late (λ i. omega arith) (omega (arith, o.stands x alive b, hit_most b b))))

      -- the armed slot x is unlinked and freed, with whatever payload
      pub tied_free : (a : Links) (e h n : ℕ) → Rep a (freedSlot x (take_out (home_of N.links x) x v)) [] → a.home ≡ set N.links.home x nowhere
          → Tied D m (join a (set N.entry x e) (set N.generation x h) (set N.serial x n)) (freedSlot x (take_out (home_of N.links x) x v))
          (release x (unlink x L))
      tied_free a e h n r eh =
          let home_x : get_or a.home x 0 ≡ nowhere =
          ap (λ (l : List ℕ). get_or l x 0) eh ∙ get_or-set_same N.links.home x nowhere 0 (omega (arith, s.rep.home_len, s.slots)) in
          let no : ltb nowhere D ≡ false = le-ltb nowhere D (omega (arith, s.rep.few, s.count)) in
          noted D m N (join a (set N.entry x e) (set N.generation x h) (set N.serial x n)) v (freedSlot x (take_out (home_of N.links x) x v)) L s x
          (freed (L.node x)) (unlink x L).bucket (x ∷ L.free) r refl refl tells_out (ap (λ (l : List ℕ). x ∷ l) s.free)
          (record {
            others = λ y ne.
                says D _ _ _ _ _ _ _ _ (ap (λ (l : List ℕ). get_or l y 0) eh ∙ get_or-set_other N.links.home x y nowhere 0 ne)
                (get_or-set_other N.entry x y e 0 ne)
                (get_or-set_other N.generation x y h 0 ne) (get_or-set_other N.serial x y n 0 ne);
            entry_len = length-set N.entry x e;
            generation_len = length-set N.generation x h;
            serial_len = length-set N.serial x n;
          })
          (sym (ap (λ (k : ℕ). ltb k D) home_x ∙ no))
          (λ i. absurd (not_both i))

      -- the armed slot x goes to the back of b, and its payload stays
      pub tied_move : (a : Links) (b : ℕ) → b < D → Rep a (push_back b x (take_out (home_of N.links x) x v)) [] → a.home ≡ set
          (set N.links.home x nowhere) x b
          → Tied D m (join a N.entry N.generation N.serial) (push_back b x (take_out (home_of N.links x) x v))
          (link b x (placed_in b (L.node x)) (unlink x L))
      tied_move a b hb r eh =
          let u : Held = take_out (home_of N.links x) x v in
          let M : Lists = unlink x L in
          let us : length u.held ≡ D = length-set v.held (home_of N.links x) _ ∙ size in
          let home_x : get_or a.home x 0 ≡ b =
          ap (λ (l : List ℕ). get_or l x 0) eh ∙ get_or-set_same (set N.links.home x nowhere) x b 0
          (simp length-set (omega (arith, s.rep.home_len, s.slots))) in
          let yes : ltb b D ≡ true = lt-ltb b D hb in
          let was : L.node x ≡ node_at D N x = s.node x after slot alive in
          noted D m N (join a N.entry N.generation N.serial) v (push_back b x u) L s x
          (placed_in b (L.node x)) (update M.bucket b (pushed x (M.bucket b))) L.free r refl refl
          (changed D u M.bucket us tells_out b hb (pushed x (M.bucket b)) (deq u b ++ (x ∷ []))
          (ap (λ (l : List ℕ). l ++ (x ∷ [])) (tells_out b hb) ∙ whole_pushed b x (M.bucket b)))
          s.free
          (record {
            others = λ y ne.
                says D _ _ _ _ _ _ _ _
                (ap (λ (l : List ℕ). get_or l y 0) eh ∙ get_or-set_other (set N.links.home x nowhere) x y b 0 ne ∙ get_or-set_other N.links.home x y nowhere
                0 ne)
                refl refl refl;
            entry_len = refl;
            generation_len = refl;
            serial_len = refl;
          })
          (sym (ap (λ (k : ℕ). ltb k D) home_x ∙ yes))
          (λ i.
          ap (placed_in b) was
          ∙ sym (ap (λ (k : ℕ). record {
            armed = ltb k D;
            bucket = k;
            entry = get_or N.entry x 0;
            generation = get_or N.generation x 0;
            serial = get_or
                N.serial x 0;
          }) home_x
          ∙ ap (λ (t : Bool). record {
            armed = t;
            bucket = b;
            entry = get_or N.entry x 0;
            generation = get_or N.generation x 0;
            serial = get_or N.serial x 0;
          }) yes))
