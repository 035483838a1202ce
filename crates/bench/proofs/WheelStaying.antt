-- A wheel is sound once it is enabled, and stays so where one timer is armed or disarmed, and in every other call of
-- the workloads.
use Rattle.std.proofs.Common.{◌≡◌, ℕ, ◌<◌, ◌≤◌, Bool, true, cond, refl, ap, eq-eqb}
use mathlib.Core.Option.{Option, some}
use Rattle.rules.specs.Places.{Geometry, buckets}
use Rattle.rules.specs.Wheel.{Wheel, enable, set_entry, schedule, deschedule, start, pull}
use Rattle.rules.specs.Calls.{act}
use Rattle.rules.specs.Sound.{Sound}
use Rattle.rules.proofs.SoundLists.{sound_bare}
use Rattle.rules.proofs.SoundCalls.{arms, drops, pulled_sound, pulled_at}

pub enable_sound : (g : Geometry) (w : Wheel) (m k : ℕ) → buckets g ≤ m → Sound g (act g w (enable m k true)).1
enable_sound g w m k h = record { lists = sound_bare (buckets g) m k w.next h; advance = tt }

module _ (g : Geometry) (w : Wheel) (s : Sound g w) where
  pub set_stays : (e : ℕ) (o : Option ℕ) (h : ℕ) → Sound g (act g w (set_entry e o h)).1
  set_stays e o h = record { lists = s.lists; advance = s.advance }

  pub schedule_stays : (e h : ℕ) → e < w.entries → Sound g (act g w (schedule e h)).1
  schedule_stays e h i = arms g w s e h (w.entry e).deadline w.lists.free refl i

  pub deschedule_stays : (y n h : ℕ) → (w.lists.node y).armed ≡ true → Sound g (act g w (deschedule y n h)).1
  deschedule_stays y n h l = record { lists = drops g w s y l; advance = s.advance }

  pub start_stays : (q : ℕ) → Sound g (act g w (start q)).1
  start_stays q = record { lists = s.lists; advance = refl }

  pub pull_stays : Sound g (act g w pull).1
  pull_stays =
      record {
        lists = pulled_sound g w.entry w.nodes w.entries w.next w.reading w.advance w.lists s.lists;
        advance = pulled_at g w.entry w.reading w.advance w.lists s.advance;
      }

-- an entry that was set has its deadline
pub set_has : (g : Geometry) (w : Wheel) (e d h : ℕ) → ((act g w (set_entry e (some d) h)).1.entry e).deadline ≡ some d
set_has g w e d h =
    ap (λ (t : Bool). (cond t (record { deadline = some d; generation = h }) (w.entry e)).deadline) (eq-eqb e e refl)
