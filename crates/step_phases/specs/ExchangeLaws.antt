-- Laws of exchanges.
use Rattle.std.specs.Prelude.{◌≡◌, ℕ, Some, ◌<◌}
use Rattle.peano_keys.specs.declared.cell.CellKey.{CellKey}
use Rattle.peano_keys.specs.declared.state.State.{State}
use Rattle.peano_keys.specs.declared.vertex.VertexKey.{VertexKey}
use Rattle.peano_keys.specs.Dim.{corners}
use Rattle.peano_keys.specs.Vertex.{adjacent_of}
use Rattle.peano_keys.specs.Grid.{Spacetree}
use Rattle.curve_cuts.specs.Cuts.{Cuts, Owns, HasVertex, IsCutGrid}
use Rattle.step_phases.specs.declared.phase.Phase.{Phase}
use Rattle.step_phases.specs.declared.phase.Phase.TheVariants.{First, Second, Third, Opening}
use Rattle.step_phases.specs.Stores.{Stores, AllSay}
use Rattle.step_phases.specs.Change.{Change, IsChange}
use Rattle.step_phases.specs.Phases.{AtRest, HasOwn, AfterPrimary, AfterFirst, AfterSecondary, AfterSecond, AfterAdapt}
use Rattle.step_phases.specs.Exchange.{IsExchanged, AgreeBefore, AgreeAfter, EachWithOwner}

-- the owner of a cell has a copy of each stored vertex of that cell
abbrev pub OwnerHasVertex : Type 0
OwnerHasVertex = (k : Cuts) (g : Spacetree) (t o n : ℕ) (v : VertexKey) (q : CellKey)
    → HasVertex k g t v → n < corners k.dim → adjacent_of k.dim v n ≡ Some q → Owns k o q
    → HasVertex k g o v

-- an exchange makes copies agree with the owner's, where those statuses and values agreed that it does not set
abbrev pub ExchangeAgrees : Type 0
ExchangeAgrees = (phase : Phase) (k : Cuts) (g : Spacetree) (before after : Stores)
    → IsExchanged phase k g before after → EachWithOwner k g (AgreeBefore phase) before
    → EachWithOwner k g (AgreeAfter phase) after

-- the opening exchange: where each tree has its own cells right, the stores come to rest
abbrev pub OpeningRests : Type 0
OpeningRests = (k : Cuts) (g : Spacetree) (f : CellKey → State) (before after : Stores)
    → IsCutGrid k g → AllSay k g (HasOwn k g f) before → IsExchanged Opening k g before after
    → AllSay k g (λ t. AtRest g f) after

-- the first exchange: what trees say of their own leaves, all say
abbrev pub FirstExchange : Type 0
FirstExchange = (k : Cuts) (w : Change) (before after : Stores) → IsCutGrid k w.old
    → AllSay k w.old (AfterPrimary k w) before → IsExchanged First k w.old before after
    → AllSay k w.old (λ t. AfterFirst k w) after

-- the second exchange: new values and intents go to all, and the new value takes the old one's place
abbrev pub SecondExchange : Type 0
SecondExchange = (k : Cuts) (w : Change) (before after : Stores) → IsCutGrid k w.old
    → AllSay k w.old (AfterSecondary k w) before → IsExchanged Second k w.old before after
    → AllSay k w.old (λ t. AfterSecond w) after

-- the third exchange: over the new grid, it brings the stores to rest
abbrev pub ThirdExchange : Type 0
ThirdExchange = (k : Cuts) (w : Change) (before after : Stores) → IsCutGrid k w.new
    → AllSay k w.new (AfterAdapt k w) before → IsExchanged Third k w.new before after
    → AllSay k w.new (λ t. AtRest w.new w.last) after

-- where the grid stays, the second exchange brings the stores to rest
abbrev pub SecondRests : Type 0
SecondRests = (k : Cuts) (w : Change) (stores : Stores) → IsCutGrid k w.old → IsChange w
    → w.new ≡ w.old → AllSay k w.old (λ t. AfterSecond w) stores
    → AllSay k w.new (λ t. AtRest w.new w.last) stores
