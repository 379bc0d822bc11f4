-- Laws of exchanges.
use Rattle.std.specs.Prelude.{◌≡◌, ◌≢◌, ◌↔◌, ℕ, Bool, ◌<◌, true}
use Rattle.peano_keys.specs.declared.cell.CellKey.{CellKey}
use Rattle.peano_keys.specs.declared.state.State.{State}
use Rattle.peano_keys.specs.declared.vertex.VertexKey.{VertexKey}
use Rattle.peano_keys.specs.Vertex.{IsVertex}
use Rattle.peano_keys.specs.Grid.{Spacetree}
use Rattle.peano_curve.specs.declared.order.Direction.{Direction}
use Rattle.peano_records.specs.Slots.{slot_at}
use Rattle.curve_cuts.specs.Cuts.{Cuts, range_of, HasCorner, HasVertex, IsCutGrid}
use Rattle.sweep_visits.specs.Plan.{SweepPlan}
use Rattle.step_phases.specs.declared.phase.Phase.{Phase}
use Rattle.step_phases.specs.declared.phase.Phase.TheVariants.{First, Second, Third, Opening}
use Rattle.step_phases.specs.Change.{Change}
use Rattle.step_phases.specs.Stores.{AllSay}
use Rattle.step_phases.specs.Phases.{AtRest, HasOwn, AfterPrimary, AfterFirst, AfterSecondary, AfterSecond, AfterAdapt}
use Rattle.step_phases.specs.Exchange.{IsExchanged, AgreeBefore, AgreeAfter, EachWithOwner}
use Rattle.tree_automaton.specs.TreeLists.{TreeLists}
use Rattle.tree_automaton.specs.AtRest.{HasLists, plain_plan}
use Rattle.boundary_streams.specs.Sent.{Mail}
use Rattle.boundary_streams.specs.Holders.{is_sent}
use Rattle.boundary_streams.specs.Trees.{IsTreeOf, HoldsVertices, copies_of}
use Rattle.boundary_streams.specs.Merges.{IsMerged}
use Rattle.boundary_streams.specs.Exchanges.{IsExchange}

-- A tree sends another one the vertices round which that one holds a position.
abbrev pub SendsToHolders : Type 0
SendsToHolders = (k : Cuts) (s t : ℕ) (v : VertexKey) → IsVertex k.dim v → t < k.trees
    → (is_sent k s t v ≡ true) ↔ ((t ≢ s) × HasCorner k t v)

-- A store with the lists that a sweep of its tree reads can be collected from and merged into, and holds the stored vertices of its grid.
abbrev pub ListsHoldVertices : Type 0
ListsHoldVertices = (k : Cuts) (g : Spacetree) (t : ℕ) (dir : Direction) (s : TreeLists)
    → IsCutGrid k g → t < k.trees
    → HasLists (plain_plan k.depth (range_of k t) dir g) t s → IsTreeOf k s × HoldsVertices k g t s

-- A merge keeps the lists that a sweep reads.
abbrev pub MergeKeepsLists : Type 0
MergeKeepsLists = (phase : Phase) (k : Cuts) (mail : Mail) (p : SweepPlan) (number : ℕ)
    (old new : TreeLists)
    → IsMerged phase k mail old new → HasLists p number old → HasLists p number new

-- An exchange between all trees gives each copy of a vertex the slots of the owners, whether a tree sends before its own merge or after it.
abbrev pub ExchangeTakesOwners : Type 0
ExchangeTakesOwners = (phase : Phase) (k : Cuts) (g : Spacetree) (before after : ℕ → TreeLists)
    → IsCutGrid k g → IsExchange phase k g before after
    → IsExchanged phase k g (copies_of before) (copies_of after)

-- When a tree sends makes no difference: two exchanges from the same stores end with the same slots.
abbrev pub WhenSentIsFree : Type 0
WhenSentIsFree = (phase : Phase) (k : Cuts) (g : Spacetree) (before one other : ℕ → TreeLists)
    → IsCutGrid k g → IsExchange phase k g before one → IsExchange phase k g before other
    → (t n : ℕ) (v : VertexKey) → HasVertex k g t v → n < 8
    → slot_at (copies_of one t v) n ≡ slot_at (copies_of other t v) n

-- After an exchange each slot of a cell agrees with the one of the cell's owner in status, in value and in what the phase overwrites,
-- where those statuses and values agreed before that the phase does not set.
abbrev pub CopiesAgree : Type 0
CopiesAgree = (phase : Phase) (k : Cuts) (g : Spacetree) (before after : ℕ → TreeLists)
    → IsCutGrid k g → IsExchange phase k g before after
    → EachWithOwner k g (AgreeBefore phase) (copies_of before)
    → EachWithOwner k g (AgreeAfter phase) (copies_of after)

-- The opening exchange brings raised stores to rest: each slot has the status and value that the owner of its cell had.
abbrev pub OpeningRests : Type 0
OpeningRests = (k : Cuts) (g : Spacetree) (f : CellKey → State) (before after : ℕ → TreeLists)
    → IsCutGrid k g → IsExchange Opening k g before after
    → AllSay k g (HasOwn k g f) (copies_of before) → AllSay k g (λ t. AtRest g f) (copies_of after)

-- The first exchange spreads marks and new values.
abbrev pub FirstSpreads : Type 0
FirstSpreads = (k : Cuts) (w : Change) (before after : ℕ → TreeLists) → IsCutGrid k w.old
    → IsExchange First k w.old before after
    → AllSay k w.old (AfterPrimary k w) (copies_of before)
    → AllSay k w.old (λ t. AfterFirst k w) (copies_of after)

-- The second exchange spreads new values and intents, and each slot takes the new value as its value.
abbrev pub SecondSpreads : Type 0
SecondSpreads = (k : Cuts) (w : Change) (before after : ℕ → TreeLists) → IsCutGrid k w.old
    → IsExchange Second k w.old before after
    → AllSay k w.old (AfterSecondary k w) (copies_of before)
    → AllSay k w.old (λ t. AfterSecond w) (copies_of after)

-- The third exchange brings adapted stores to rest on the new grid.
abbrev pub ThirdRests : Type 0
ThirdRests = (k : Cuts) (w : Change) (before after : ℕ → TreeLists) → IsCutGrid k w.new
    → IsExchange Third k w.new before after
    → AllSay k w.new (AfterAdapt k w) (copies_of before)
    → AllSay k w.new (λ t. AtRest w.new w.last) (copies_of after)
