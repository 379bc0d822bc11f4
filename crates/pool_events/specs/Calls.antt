-- The calls of a desk and of a hand as deeds.
use Rattle.std.specs.Prelude.{◌≡◌, ℕ, Bool, true, false}
use Rattle.result_table.specs.declared.updates.Updates.{Ghosts}
use Rattle.result_table.specs.declared.view.View.{View}
use Rattle.result_table.specs.declared.parts.Gathered.{Gathered}
use Rattle.result_table.specs.declared.parts.Gathered.TheVariants as found
use Rattle.pool_events.specs.Deeds.{Deed, Wins, Loses, Fetches, Publishes, ComesLate, Gathers, FindsIdle, FindsBusy, knows, Knew}

-- a seat that knew this did a deed, and knows that after it
pub record Did {S : Type 0} (d : Deed) (v w : View S) : Type 0 where
  pub knew : Knew d v
  pub knows_more : w ≡ knows d v

-- what a claim is by its answer
abbrev pub claim_as : Bool → ℕ → ℕ → Deed
claim_as true s k = Wins s k
claim_as false s k = Loses s k

-- a publication has the slot out first, and then ends by its answer
abbrev pub ending_as : Bool → ℕ → ℕ → Deed
ending_as true s k = Publishes s k
ending_as false s k = ComesLate s k

-- a publication was made: the slot was fetched, and then it was published or came too late
pub record DidPublish {S : Type 0} (won : Bool) (s k : ℕ) (v w : View S) : Type 0 where
  pub fetched : View S
  pub fetches : Did (Fetches s k) v fetched
  pub ends : Did (ending_as won s k) fetched w

-- what a collection is by what it found
abbrev pub collection_as : {S : Type 0} {g : Ghosts S} → ℕ → Gathered S g → Deed
collection_as k (found.Taken d) = Gathers k
collection_as k found.Free = FindsIdle k
collection_as k found.Running = FindsBusy k
