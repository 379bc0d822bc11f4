-- The boxes of all trees, and what a tree makes of them.
use Rattle.std.specs.Prelude.{ℕ, List, [], slice_index_or}
use Rattle.curve_cuts.specs.Cuts.{Cuts}
use Rattle.step_phases.specs.declared.phase.Phase.{Phase}
use Rattle.tree_automaton.specs.TreeLists.{TreeLists}
use Rattle.boundary_streams.specs.Sent.{Outgoing, sent_to}
use Rattle.boundary_streams.specs.Merges.{IsMerged}

-- what stands where no box is
abbrev pub no_box : Outgoing
no_box = record { sender = 0; parcels = [] }

-- the box of a tree
abbrev pub box_of : List Outgoing → ℕ → Outgoing
box_of boxes t = slice_index_or boxes t no_box

-- a tree merges what boxes have for it
abbrev pub MergesBoxes : Phase → Cuts → List Outgoing → TreeLists → TreeLists → Type 0
MergesBoxes phase k boxes before after = IsMerged phase k (sent_to boxes before.tree) before after
