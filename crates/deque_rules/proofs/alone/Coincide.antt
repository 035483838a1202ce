-- Two results that meet the promise of a call coincide: the answer itself, and every record.
use Prim.Native.Nat.{ℕ}
use mathlib.Core.Path.{◌≡◌, refl, sym, ap, ◌∙◌}
use mathlib.Core.Logic.{⊎_elim}
use Rattle.numbers.proofs.Cases.{same?}
use Rattle.numbers.proofs.Rows.{Single, none_left, row}
use Rattle.deque_rules.specs.Deque.{Made, Pushed, Popped, Looked, Dropped, Measured, Done}
use Rattle.deque_rules.specs.Deque.{State, DequeAnswer as Told, refused, made_told, pushed_told, popped_told, looked_told, dropped_told, measured_told, done_told, make_rows}
use Rattle.deque_rules.specs.Deque.{deque_rows, push_rows, node_rows, Meets, DequeCall as Call, make, push_back, pop_front, look_front, look_back}
use Rattle.deque_rules.specs.Deque.{move_to_back, unlink_and_drop, length_of, next_by_cursor, reset_cursor, AnswerOf, told, Promise}
use Rattle.deque_rules.specs.Deque.{DequePromised as Promised}
use Rattle.numbers.specs.Shared.{not_refused as answered}
use Rattle.std.specs.Prelude.{Ok, Err, Some, None}
use Rattle.deque_rules.specs.declared.alone.Node.{Node}
use Rattle.deque_rules.specs.declared.alone.Placed.{Placed}
use Rattle.deque_rules.specs.declared.alone.Taken.{Taken}
use Rattle.deque_rules.specs.declared.alone.Freed.{Freed}
use Rattle.numbers.proofs.Numbered.{number_once}
use Rattle.numbers.specs.Refusals.{number_of}
use Rattle.numbers.specs.declared.refusals.Refusal.{Refusal}

-- ---- rows give one number
make_single : (a : State) → Single (make_rows a)
make_single a = row _ 3 answered none_left

deque_single : (a : State) (free d : ℕ) → Single (deque_rows a free d)
deque_single a free d = row _ 4 _ (row _ 16 answered none_left)

push_single : (a : State) (free d : ℕ) → Single (push_rows a free d)
push_single a free d = row _ 4 _ (row _ 10 _ (row _ 16 answered none_left))

node_single : (a : State) (free d s : ℕ) → Single (node_rows a free d s)
node_single a free d s = row _ 4 _ (row _ 16 _ (row _ 17 answered none_left))

-- ---- a promise determines what is told and the records
met : (rows : ℕ → Type 0) (a b c after : State) (t u then : Told) → Single rows → Meets rows a b t after then → Meets rows a c u after then → (t ≡ u) × (b ≡ c)
met rows a b c after t u then s m n =
    let e : n.number ≡ m.number = s n.number m.number n.by m.by in
    ⊎_elim
    (λ (z : m.number ≡ 0).
    let p = m.result z in
    let q = n.result (e ∙ z) in
    (p.0 ∙ sym q.0, p.1 ∙ sym q.1))
    (λ (z : m.number ≡ 0 → ⊥).
    let p = m.refusal z in
    let q = n.refusal (λ i. z (sym e ∙ i)) in
    (p.0 ∙ ap refused (sym e) ∙ sym q.0, p.1 ∙ sym q.1))
    (same? m.number 0)

-- ---- what is told determines the answer
why_once : (x y : Refusal) → refused (number_of x) ≡ refused (number_of y) → x ≡ y
why_once x y e = number_once x y (cc)

placed_once : (x y : Placed) → x.slot ≡ y.slot → x.free ≡ y.free → x ≡ y
placed_once x y p q = λ i. record { slot = p i; free = q i }

node_once : (x y : Node) → x.slot ≡ y.slot → x.element ≡ y.element → x ≡ y
node_once x y p q = λ i. record { slot = p i; element = q i }

taken_once : (x y : Taken) → x.slot ≡ y.slot → x.element ≡ y.element → x.free ≡ y.free → x ≡ y
taken_once x y p q r = λ i. record { slot = p i; element = q i; free = r i }

freed_once : (x y : Freed) → x.element ≡ y.element → x.free ≡ y.free → x ≡ y
freed_once x y p q = λ i. record { element = p i; free = q i }

made_once : (r s : Made) → made_told r ≡ made_told s → r ≡ s
made_once (Ok x) (Ok y) e = cc
made_once (Ok x) (Err y) e = cc
made_once (Err x) (Ok y) e = cc
made_once (Err x) (Err y) e = ap Err (why_once x y e)

pushed_once : (r s : Pushed) → pushed_told r ≡ pushed_told s → r ≡ s
pushed_once (Ok x) (Ok y) e = ap Ok (placed_once x y (cc) (cc))
pushed_once (Ok x) (Err y) e = cc
pushed_once (Err x) (Ok y) e = cc
pushed_once (Err x) (Err y) e = ap Err (why_once x y e)

popped_once : (r s : Popped) → popped_told r ≡ popped_told s → r ≡ s
popped_once (Ok (Some x)) (Ok (Some y)) e = ap (λ (z : Taken). Ok (Some z)) (taken_once x y (cc) (cc) (cc))
popped_once (Ok (Some x)) (Ok None) e = cc
popped_once (Ok (Some x)) (Err y) e = cc
popped_once (Ok None) (Ok (Some y)) e = cc
popped_once (Ok None) (Ok None) e = refl
popped_once (Ok None) (Err y) e = cc
popped_once (Err x) (Ok (Some y)) e = cc
popped_once (Err x) (Ok None) e = cc
popped_once (Err x) (Err y) e = ap Err (why_once x y e)

looked_once : (r s : Looked) → looked_told r ≡ looked_told s → r ≡ s
looked_once (Ok (Some x)) (Ok (Some y)) e = ap (λ (z : Node). Ok (Some z)) (node_once x y (cc) (cc))
looked_once (Ok (Some x)) (Ok None) e = cc
looked_once (Ok (Some x)) (Err y) e = cc
looked_once (Ok None) (Ok (Some y)) e = cc
looked_once (Ok None) (Ok None) e = refl
looked_once (Ok None) (Err y) e = cc
looked_once (Err x) (Ok (Some y)) e = cc
looked_once (Err x) (Ok None) e = cc
looked_once (Err x) (Err y) e = ap Err (why_once x y e)

dropped_once : (r s : Dropped) → dropped_told r ≡ dropped_told s → r ≡ s
dropped_once (Ok x) (Ok y) e = ap Ok (freed_once x y (cc) (cc))
dropped_once (Ok x) (Err y) e = cc
dropped_once (Err x) (Ok y) e = cc
dropped_once (Err x) (Err y) e = ap Err (why_once x y e)

measured_once : (r s : Measured) → measured_told r ≡ measured_told s → r ≡ s
measured_once (Ok x) (Ok y) e = cc
measured_once (Ok x) (Err y) e = cc
measured_once (Err x) (Ok y) e = cc
measured_once (Err x) (Err y) e = ap Err (why_once x y e)

done_once : (r s : Done) → done_told r ≡ done_told s → r ≡ s
done_once (Ok x) (Ok y) e = refl
done_once (Ok x) (Err y) e = cc
done_once (Err x) (Ok y) e = cc
done_once (Err x) (Err y) e = ap Err (why_once x y e)

told_only : (c : Call) (r s : AnswerOf c) → told c r ≡ told c s → r ≡ s
told_only make r s e = made_once r s e
told_only (push_back d x) r s e = pushed_once r s e
told_only (pop_front d) r s e = popped_once r s e
told_only (look_front d) r s e = looked_once r s e
told_only (look_back d) r s e = looked_once r s e
told_only (move_to_back d x) r s e = done_once r s e
told_only (unlink_and_drop d x) r s e = dropped_once r s e
told_only (length_of d) r s e = measured_once r s e
told_only (next_by_cursor d) r s e = looked_once r s e
told_only (reset_cursor d) r s e = done_once r s e

-- ---- the calls
promise_only : (c : Call) (a : State) (free : ℕ) (b z : State) (t u : Told) → Promise c a free b t → Promise c a free z u → (t ≡ u) × (b ≡ z)
promise_only make a free b z t u m n = met _ a b z _ t u _ (make_single a) m n
promise_only (push_back d x) a free b z t u m n = met _ a b z _ t u _ (push_single a free d) m n
promise_only (pop_front d) a free b z t u m n = met _ a b z _ t u _ (deque_single a free d) m n
promise_only (look_front d) a free b z t u m n = met _ a b z _ t u _ (deque_single a free d) m n
promise_only (look_back d) a free b z t u m n = met _ a b z _ t u _ (deque_single a free d) m n
promise_only (move_to_back d x) a free b z t u m n = met _ a b z _ t u _ (node_single a free d x) m n
promise_only (unlink_and_drop d x) a free b z t u m n = met _ a b z _ t u _ (node_single a free d x) m n
promise_only (length_of d) a free b z t u m n = met _ a b z _ t u _ (deque_single a free d) m n
promise_only (next_by_cursor d) a free b z t u m n = met _ a b z _ t u _ (deque_single a free d) m n
promise_only (reset_cursor d) a free b z t u m n = met _ a b z _ t u _ (deque_single a free d) m n

-- the answer itself, with it the first free node that it hands on, and every record
pub coincides : (c : Call) (a : State) (free : ℕ) (b z : State) (r s : AnswerOf c) → Promised c a free b r → Promised c a free z s → (r ≡ s) × (b ≡ z)
coincides c a free b z r s m n =
    let u = promise_only c a free b z (told c r) (told c s) m.meets n.meets in
    (told_only c r s u.0, u.1)
