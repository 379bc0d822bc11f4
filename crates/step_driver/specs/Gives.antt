-- Trees beside each other: what each gives, by its place.
use Rattle.std.specs.Prelude.{◌≡◌, ℕ, ◌<◌, List, length, slice_index_or, Result, IfOk}

-- each item of a list gave what stands at its place in another
pub record EachGives {X Y : Type 0} (R : X → Y → Type 0) (xs : List X) (ys : List Y) : Type 0 where
  pub count : length ys ≡ length xs
  pub each : (t : ℕ) (d : X) (e : Y) → t < length xs
      → R (slice_index_or xs t d) (slice_index_or ys t e)

-- so it is of those that were not refused
abbrev pub EachMayGive : {X Y E : Type 0} → (X → Y → Type 0) → List X → List (Result Y E) → Type 0
EachMayGive R xs given = EachGives (λ x r. IfOk r (R x)) xs given

-- each item of a list is so
abbrev pub EachIs : {X : Type 0} → (X → Type 0) → List X → Type 0
EachIs P xs = (t : ℕ) (d : _) → t < length xs → P (slice_index_or xs t d)
