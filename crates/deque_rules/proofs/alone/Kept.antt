-- Every call leaves sound records sound, refused or not, and make gives sound records, whatever it finds; on sound
-- records no call is refused 4.
use Prim.Native.Nat.{ℕ, ◌<◌}
use mathlib.Core.Path.{◌≡◌, sym, subst}
use mathlib.Core.Logic.{⊎_elim}
use Rattle.deque_rules.specs.Links.{Deques as Lists, listed}
use Rattle.numbers.proofs.Cases.{same?}
use Rattle.deque_rules.specs.Deque.{State, Sound, front_of, back_of, DequeAnswer as Told, refused, deque_rows, Meets, DequeCall as Call, make, push_back, pop_front}
use Rattle.deque_rules.specs.Deque.{look_front, look_back, move_to_back, unlink_and_drop, length_of, next_by_cursor, reset_cursor, AnswerOf, told}
use Rattle.deque_rules.specs.Deque.{Made, Pushed, Popped, Dropped, Done, DequePromised as Promised, made_free, pushed_free, popped_free, dropped_free, free_then}
use Rattle.deque_rules.specs.alone.State.{Shows}
use Rattle.std.specs.Prelude.{Ok, Err, Some, None}
use Rattle.deque_rules.proofs.alone.Sounding.{shows_sound, sound_shows}
use Rattle.deque_rules.proofs.alone.Refusing.{deque_ready}
use Rattle.deque_rules.proofs.alone.Keeping.{stepped_shows, reset_shows}
use Rattle.deque_rules.proofs.alone.Laws.{make_not_4, deque_not_4, push_not_4, node_not_4, no_4, left_alone, not_values, pop_refused, look_refused}
use Rattle.deque_rules.proofs.alone.Laws.{next_refused, make_lists, push_lists, pop_lists, pop_empty, drop_lists, move_lists}

pub make_sound : (a b : State) (free f : ℕ) → Promised make a free b (Ok f) → Sound b f
make_sound a b free f m = shows_sound b f _ (make_lists a b free f m).0

module _ (a b : State) (free : ℕ) (s : Sound a free) where
  abbrev v : Lists
  v = listed a.links free

  t : Shows a free v
  t = sound_shows a free s

  same : b ≡ a → Sound b free
  same e = rw e s

  make_keeps : (r : Made) → Promised make a free b r → Sound b (made_free r free)
  make_keeps (Ok f) m = make_sound a b free f m
  make_keeps (Err why) m = same (left_alone _ a b _ _ _ m.meets (not_values _ _))

  module _ (d : ℕ) where
    push_keeps : (e : ℕ) (r : Pushed) → Promised (push_back d e) a free b r → Sound b (pushed_free r free)
    push_keeps e (Ok x) m = shows_sound b x.free _ (push_lists a b free v t d e x.slot x.free m).2
    push_keeps e (Err why) m = same (left_alone _ a b _ _ _ m.meets (not_values _ _))

    pop_keeps : (r : Popped) → Promised (pop_front d) a free b r → Sound b (popped_free r free)
    pop_keeps (Ok (Some x)) m =
        let u = pop_lists a b free v t d x.slot x.element x.free m in subst (λ (y : ℕ). Sound b y) (sym u.2) (shows_sound b x.slot _ u.3)
    pop_keeps (Ok None) m = same (pop_empty a b free v t d m).1
    pop_keeps (Err why) m = same (left_alone _ a b _ _ _ m.meets (pop_refused a d _))

    drop_keeps : (x : ℕ) (r : Dropped) → Promised (unlink_and_drop d x) a free b r → Sound b (dropped_free r free)
    drop_keeps x (Ok y) m =
        let u = drop_lists a b free v t d x y.element y.free m in subst (λ (z : ℕ). Sound b z) (sym u.2) (shows_sound b x _ u.3)
    drop_keeps x (Err why) m = same (left_alone _ a b _ _ _ m.meets (not_values _ _))

    move_keeps : (x : ℕ) (r : Done) → Promised (move_to_back d x) a free b r → Sound b free
    move_keeps x (Ok u) m = shows_sound b free _ (move_lists a b free v t d x m).1
    move_keeps x (Err why) m = same (left_alone _ a b _ _ _ m.meets (not_values _ _))

    -- the calls by deque that hand on no first free node: it is enough that what they leave where they are not refused
    -- stands for lists
    by_deque : (after : State) (answer then : Told) → ((w : Lists) → Shows a free w → d < w.count → Shows after free w) → Meets (deque_rows a free d) a b answer
        after then → Sound b free
    by_deque after answer then f m =
        ⊎_elim
        (λ (z : m.number ≡ 0).
        let y = deque_ready a free d (record { by = subst (deque_rows a free d) z m.by }) in
        rw (m.result z).1 (shows_sound _ free _ (f y.v y.shows y.deque)))
        (λ (z : m.number ≡ 0 → ⊥). same (m.refusal z).1)
        (same? m.number 0)

-- ---- every call on sound records, refused or not, leaves sound records
pub keeps : (c : Call) (a : State) (free : ℕ) (b : State) (r : AnswerOf c) → Sound a free → Promised c a free b r → Sound b (free_then c r free)
keeps make a free b r s m = make_keeps a b free s r m
keeps (push_back d e) a free b r s m = push_keeps a b free s d e r m
keeps (pop_front d) a free b r s m = pop_keeps a b free s d r m
keeps (look_front d) a free b r s m = by_deque a b free s d a _ _ (λ w y h. y) m.meets
keeps (look_back d) a free b r s m = by_deque a b free s d a _ _ (λ w y h. y) m.meets
keeps (move_to_back d x) a free b r s m = move_keeps a b free s d x r m
keeps (unlink_and_drop d x) a free b r s m = drop_keeps a b free s d x r m
keeps (length_of d) a free b r s m = by_deque a b free s d a _ _ (λ w y h. y) m.meets
keeps (next_by_cursor d) a free b r s m = by_deque a b free s d _ _ _ (λ w y h. stepped_shows a free w y d h) m.meets
keeps (reset_cursor d) a free b r s m = by_deque a b free s d _ _ _ (λ w y h. reset_shows a free w y d h) m.meets

-- ---- and none is refused 4
pub not_four : (c : Call) (a : State) (free : ℕ) (b : State) (r : AnswerOf c) → Sound a free → Promised c a free b r → told c r ≡ refused 4 → ⊥
not_four make a free b r s m = no_4 _ a b _ _ _ m.meets (make_not_4 a) (λ i. not_values _ 4 (sym i))
not_four (push_back d e) a free b r s m = no_4 _ a b _ _ _ m.meets (push_not_4 a free s d) (λ i. not_values _ 4 (sym i))
not_four (pop_front d) a free b r s m = no_4 _ a b _ _ _ m.meets (deque_not_4 a free s d) (λ i. pop_refused a d 4 (sym i))
not_four (look_front d) a free b r s m = no_4 _ a b _ _ _ m.meets (deque_not_4 a free s d) (look_refused a (front_of a d) 4)
not_four (look_back d) a free b r s m = no_4 _ a b _ _ _ m.meets (deque_not_4 a free s d) (look_refused a (back_of a d) 4)
not_four (move_to_back d x) a free b r s m = no_4 _ a b _ _ _ m.meets (node_not_4 a free s d x) (λ i. not_values _ 4 (sym i))
not_four (unlink_and_drop d x) a free b r s m = no_4 _ a b _ _ _ m.meets (node_not_4 a free s d x) (λ i. not_values _ 4 (sym i))
not_four (length_of d) a free b r s m = no_4 _ a b _ _ _ m.meets (deque_not_4 a free s d) (λ i. not_values _ 4 (sym i))
not_four (next_by_cursor d) a free b r s m = no_4 _ a b _ _ _ m.meets (deque_not_4 a free s d) (next_refused a d 4)
not_four (reset_cursor d) a free b r s m = no_4 _ a b _ _ _ m.meets (deque_not_4 a free s d) (λ i. not_values _ 4 (sym i))
