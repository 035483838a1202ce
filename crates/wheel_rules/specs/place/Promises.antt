-- inner: what the placement functions promise, by the rules.
use Rattle.std.specs.Prelude.{ℕ, ◌≡◌}
use Rattle.rules.specs.Places.{wheel01, bucket_of, place_of}
use Rattle.wheel_rules.specs.declared.place.Place.{Place}

-- find: both numbers of the place
pub record Found (reading deadline : ℕ) (r : Place) : Type 0 where
  pub bucket : r.bucket ≡ bucket_of wheel01 reading deadline
  pub number : r.number ≡ place_of wheel01 reading deadline

-- bucket_of: the bucket's number
pub record InBucket (reading deadline r : ℕ) : Type 0 where
  pub is : r ≡ bucket_of wheel01 reading deadline
