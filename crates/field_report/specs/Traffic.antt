-- The traffic block of a report: a head line, then a line for each tree.
use Rattle.std.specs.Prelude.{ℕ, List, [], ◌∷◌, ◌++◌, length, codes}
use Rattle.std.specs.List.{flat_map}
use Rattle.std.specs.Fmt.{decimal}
use Rattle.field_report.specs.declared.traffic.Traffic.{Traffic}

-- what a tree holds, with its number
abbrev pub held_text : Traffic → List ℕ
held_text t = codes "tree " ++ decimal t.tree ++ codes " cells " ++ decimal t.cells
    ++ codes " stored " ++ decimal t.stored

-- what a sweep of it moves, and what hangs
abbrev pub moved_text : Traffic → List ℕ
moved_text t = codes " pushes " ++ decimal t.pushes ++ codes " hanging " ++ decimal t.hanging

-- its leaves of both kinds, and what it sends
abbrev pub shared_text : Traffic → List ℕ
shared_text t = codes " enclave " ++ decimal t.enclave ++ codes " skeleton " ++ decimal t.skeleton
    ++ codes " sent " ++ decimal t.sent ++ 10 ∷ []

-- the line of a tree
abbrev pub tree_line : Traffic → List ℕ
tree_line t = held_text t ++ moved_text t ++ shared_text t

-- the head line: the step and the number of trees
abbrev pub traffic_head : ℕ → ℕ → List ℕ
traffic_head step trees = codes "traffic " ++ decimal step ++ codes " trees " ++ decimal trees ++ 10
    ∷ []

-- the traffic block of a step: the head line, and the line of each tree, in order
abbrev pub traffic_block : ℕ → List Traffic → List ℕ
traffic_block step list = traffic_head step (length list) ++ flat_map tree_line list
