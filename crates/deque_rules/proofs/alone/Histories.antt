-- Histories: from a make that was not refused on, whatever stood before it, the records are sound after every call and
-- no call is refused 4 while only these calls write.
use Prim.Native.Nat.{ℕ}
use mathlib.Core.Path.{◌≡◌}
use mathlib.Core.List.{List, [], ◌∷◌, ◌++◌}
use Rattle.deque_rules.specs.Deque.{State, Sound, refused, DequeCall as Call, make, AnswerOf, told, Event, event, DequeLeads as Leads, done, then}
use Rattle.std.specs.Prelude.{Ok}
use Rattle.deque_rules.proofs.alone.Kept.{make_sound, keeps, not_four}

-- calls on sound records leave sound records
stays_sound : {a z : State} {free last : ℕ} {es : List Event} → Leads a free es z last → Sound a free → Sound z last
stays_sound done s = s
stays_sound (then m l) s = stays_sound l (keeps _ _ _ _ _ s m)

-- a history in two parts: the records that the first leaves are those that the second begins with
pub record Between (a : State) (free : ℕ) (xs ys : List Event) (z : State) (last : ℕ) : Type 0 where
  pub records : State
  pub first_free : ℕ
  pub first : Leads a free xs records first_free
  pub second : Leads records first_free ys z last

pub between : {a z : State} {free last : ℕ} (xs ys : List Event) → Leads a free (xs ++ ys) z last → Between a free xs ys z last
between {a} {z} {free} {last} [] ys l = record { records = a; first_free = free; first = done; second = l }
between (x ∷ xs) ys (then m l) =
    let u = between xs ys l in
    record { records = u.records; first_free = u.first_free; first = then m u.first; second = u.second }

-- whatever was called before the make, refused or not, and whatever is called after it, another make too
pub always_sound : {a z : State} {free last : ℕ} (xs : List Event) (f : ℕ) (ys : List Event) → Leads a free (xs ++ (event make (Ok f) ∷ ys)) z last → Sound z last
always_sound xs f ys l = from_make (between xs (event make (Ok f) ∷ ys) l).second
  where
    from_make : {a z : State} {free last f : ℕ} {es : List Event} → Leads a free (event make (Ok f) ∷ es) z last → Sound z last
    from_make (then m l) = stays_sound l (make_sound _ _ _ _ m)

-- no call after it is refused 4
pub never_four : {a z : State} {free last : ℕ} (xs : List Event) (f : ℕ) (ys : List Event) (c : Call) (r : AnswerOf c) (zs : List Event)
    → Leads a free ((xs ++ (event make (Ok f) ∷ ys)) ++ (event c r ∷ zs)) z last → told c r ≡ refused 4 → ⊥
never_four xs f ys c r zs l =
    let u = between (xs ++ (event make (Ok f) ∷ ys)) (event c r ∷ zs) l in
    at_once u.second (always_sound xs f ys u.first)
  where
    at_once : {a z : State} {free last : ℕ} {c : Call} {r : AnswerOf c} {es : List Event} → Leads a free (event c r ∷ es) z last → Sound a free
        → told c r ≡ refused 4 → ⊥
    at_once (then m l) s = not_four _ _ _ _ _ s m
