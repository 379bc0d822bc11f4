-- What each move does to the passings on the lanes.
use Rattle.std.proofs.Common.{◌≡◌, ◌≢◌, ℕ, List, [], ◌∷◌, ◌++◌, refl}
use Rattle.peano_keys.specs.declared.vertex.VertexKey.{VertexKey}
use Rattle.stack_law.specs.Stack as stack
use Rattle.sweep_visits.specs.Plan.{SweepPlan, IsSweepPlan}
use Rattle.sweep_visits.specs.Moves.{Passing, Move, take, put, pop, push, moves_of}
use Rattle.sweep_visits.specs.Moments.{passings_on}
use Rattle.sweep_visits.proofs.Moments.{stays, gives, finds, here_only, not_there}

module _ (p : SweepPlan) (plan : IsSweepPlan p) (made more : List Move) where
  pub take_stays : (v : VertexKey) → moves_of p ≡ made ++ take v ∷ more → (k : ℕ) → passings_on (made ++ take v ∷ []) k ≡ passings_on made k
  take_stays v e k = stays p plan made more (take v) e k refl

  pub put_stays : (v : VertexKey) → moves_of p ≡ made ++ put v ∷ more → (k : ℕ) → passings_on (made ++ put v ∷ []) k ≡ passings_on made k
  put_stays v e k = stays p plan made more (put v) e k refl

  pub pop_finds : (n : ℕ) (y : Passing) → moves_of p ≡ made ++ pop n y ∷ more → passings_on made n ≡ passings_on (made ++ pop n y ∷ []) n ++ y ∷ []
  pop_finds n y e = finds p plan made more (pop n y) e n y (here_only p plan n (stack.pop y))

  pub pop_stays : (n : ℕ) (y : Passing) → moves_of p ≡ made ++ pop n y ∷ more → (k : ℕ) → k ≢ n → passings_on (made ++ pop n y ∷ []) k ≡ passings_on made k
  pop_stays n y e k d = stays p plan made more (pop n y) e k (not_there p plan n k (stack.pop y) d)

  pub push_gives : (n : ℕ) (y : Passing) → moves_of p ≡ made ++ push n y ∷ more → passings_on (made ++ push n y ∷ []) n ≡ passings_on made n ++ y ∷ []
  push_gives n y e = gives p plan made more (push n y) e n y (here_only p plan n (stack.push y))

  pub push_stays : (n : ℕ) (y : Passing) → moves_of p ≡ made ++ push n y ∷ more → (k : ℕ) → k ≢ n → passings_on (made ++ push n y ∷ []) k ≡ passings_on made k
  push_stays n y e k d = stays p plan made more (push n y) e k (not_there p plan n k (stack.push y) d)
