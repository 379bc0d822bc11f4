-- What a lane holds at a moment of a walk: what was given and not taken.
use Rattle.std.specs.Prelude.{◌≡◌, ℕ, ◌==◌, ◌&&◌, Bool, true, List, [], Some, reverse}
use Rattle.stack_law.specs.Boxes.{Axis, Side, Box, beyond}
use Rattle.stack_law.specs.Once.{IsIn}
use Rattle.stack_law.specs.Stack.{Event, on_lane, run_all, pushed, popped, without, AreDistinct}

-- whether two boxes are the same
abbrev pub same_box : Box → Box → Bool
same_box b c = (b.x0 == c.x0) && ((b.x1 == c.x1) && (b.x2 == c.x2))

-- a test that tells the items of a type apart
pub record TellsApart (A : Type 0) (same : A → A → Bool) : Type 0 where
  pub reflexive : (x : A) → same x x ≡ true
  pub exact : (x y : A) → same x y ≡ true → x ≡ y

-- each item names the cell that receives it, and no cell has an item twice for one neighbour
pub record IsNamed (A : Type 0) (same : A → A → Bool) (splits_of : A → ℕ) (receiver_of : A → Box)
    (items : ℕ → Box → Axis → Side → List A) : Type 0 where
  pub level : (m : ℕ) (b : Box) (i : Axis) (h : Side) (x : A) → IsIn x (items m b i h)
      → splits_of x ≡ m
  pub receiver : (m : ℕ) (b : Box) (i : Axis) (h : Side) (x : A) → IsIn x (items m b i h)
      → receiver_of x ≡ beyond i h b
  pub distinct : (m : ℕ) (b : Box) (i : Axis) (h : Side) → AreDistinct same (items m b i h)

-- after some events each lane holds exactly what was given on it and not taken, the newest first
pub record HoldsTheRest (A : Type 0) (same : A → A → Bool) (done : List (Event A)) : Type 0 where
  pub now : ℕ → List A
  pub reached : run_all same (λ k. []) done ≡ Some now
  pub rest : (k : ℕ)
      → now k ≡ reverse (without same (popped (on_lane k done)) (pushed (on_lane k done)))
