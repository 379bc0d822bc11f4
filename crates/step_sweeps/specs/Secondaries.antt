-- What the visitor of the secondary sweep does.
use Rattle.std.specs.Prelude.{◌≡◌, ◌⊎◌, ◌↔◌, ℕ, ◌+◌, ◌<◌, ◌&&◌, Bool, true, false, IsTrue, List, [], ◌∷◌, ◌++◌, length, slice_set, slice_index_or, replicate, nat_lt, Option, Some, None, ℤ, pos, ◌+ℤ◌, ◌*ℤ◌, if◌then◌else◌}
use Rattle.std.specs.Int.{w64, w128, int_wrap}
use Rattle.std.specs.Int.RustNames.{FitsSigned}
use Rattle.peano_keys.specs.declared.cell.CellKey.{CellKey}
use Rattle.peano_keys.specs.declared.dim.Dim.{Dim}
use Rattle.peano_keys.specs.declared.state.State.{State}
use Rattle.peano_keys.specs.declared.state.State.TheVariants.{Single}
use Rattle.peano_keys.specs.declared.side.Mark.{Mark}
use Rattle.peano_keys.specs.Cell.{parent_of}
use Rattle.peano_keys.specs.State.{count_of, value_at}
use Rattle.peano_keys.specs.Sums.{cell_weight, floor_of}
use Rattle.peano_keys.specs.Vertex.{home_of, slot_from}
use Rattle.peano_keys.specs.Grid.{Spacetree}
use Rattle.peano_keys.specs.Next.{Splits, Merges}
use Rattle.peano_records.specs.declared.slot.Intent.TheVariants.{Stay, Split, Merge}
use Rattle.peano_records.specs.declared.view.CellView.{CellView}
use Rattle.peano_records.specs.declared.view.Corner.{Corner}
use Rattle.peano_records.specs.declared.view.Corner.TheVariants.{Vertex, Hanging, Beyond}
use Rattle.peano_records.specs.declared.partials.Partial.{Partial}
use Rattle.peano_records.specs.Slots.{slot_at}
use Rattle.peano_records.specs.Tells.{corner_at}
use Rattle.curve_cuts.specs.Cuts.{Cuts, Owns}
use Rattle.curve_cuts.specs.Keys.{CutPoints, cuts_of}
use Rattle.vertex_stacks.specs.Tales.{capped}
use Rattle.adapt_marks.specs.Views.{ShowsMarks, IsCentre}
use Rattle.mean_values.specs.NextSums.{rounded}
use Rattle.tree_sums.specs.Trees.{is_within}
use Rattle.step_sweeps.specs.declared.told.Told.{Told}
use Rattle.step_sweeps.specs.Told.{IsTold}
use Rattle.step_sweeps.specs.Enclaves.{DecidesEnclave}
use Rattle.step_sweeps.specs.Tasks.{TasksSeen, Answers}
use Rattle.step_sweeps.specs.Kernels.{Kernel, IsOwnLeaf, HasParts, new_in, failing_with}

-- the solver, the keys and the number of its tree, the sums of each level, what the last centre child of each level told of its parent, how many cells split
-- and merge so far, the partials of shared cells, the least enclave leaf so far that has no new state, and the tree's tasks
pub record SecondaryWork (S : Type 0) : Type 0 where
  pub solver : S
  pub keys : CutPoints
  pub tree : ℕ
  pub sums : List (List ℤ)
  pub merging : List Bool
  pub splits : ℕ
  pub merges : ℕ
  pub partials : List Partial
  pub failing : Option CellKey
  pub tasks : TasksSeen S

-- a number with one more where a test passes, which stands at the last value of a count
abbrev pub one_if : Bool → ℕ → ℕ
one_if true n = capped (n + 1)
one_if false n = n

-- whether a leaf splits, as its view decides
abbrev pub DecidesSplit : CellView → Bool → Type 0
DecidesSplit v b = (g : Spacetree) (marks : CellKey → Mark) → ShowsMarks g marks v
    → IsTrue b ↔ Splits g marks v.key

-- whether the parent of a centre child merges, as the child's view decides
abbrev pub DecidesMerge : CellView → Bool → Type 0
DecidesMerge v b = (g : Spacetree) (marks : CellKey → Mark) → IsCentre g.dim v.key
    → ShowsMarks g marks v → IsTrue b ↔ Merges g marks (parent_of v.key)

-- a leaf is told its intent, and its new value where there is one to tell
abbrev pub leaf_intends : Option State → Bool → Told
leaf_intends next b = record { mark = None; next = next; intent = Some (if b then Split else Stay) }

-- a refined cell its new value and whether it merges
abbrev pub refined_intends : State → Bool → Told
refined_intends next b =
    record { mark = None; next = Some next; intent = Some (if b then Merge else Stay) }

-- a view of a refined cell
pub record IsRefinedView (cuts : Cuts) (v : CellView) : Type 0 where
  pub refined : v.was ≡ Some true
  pub level : v.key.level < cuts.depth

-- a view of a refined cell that a tree owns
pub record IsOwnRefined (cuts : Cuts) (tree : ℕ) (v : CellView) : Type 0 where
  pub refined : v.was ≡ Some true
  pub level : v.key.level < cuts.depth
  pub owns : Owns cuts tree v.key

-- the new value in a cell's slot of a corner
abbrev pub next_in : Dim → ℕ → Corner → State
next_in dim n (Vertex s) = (slot_at s (slot_from dim n)).next
next_in dim n (Hanging k) = Single (pos 0)
next_in dim n Beyond = Single (pos 0)

-- the new value of a view's own cell, by the slot at its home corner
abbrev pub next_at_home : Dim → CellView → State
next_at_home dim v = next_in dim (home_of dim v.key) (corner_at v (home_of dim v.key))

-- the sums of no cells
abbrev pub no_sums : List ℤ
no_sums = replicate 4 (pos 0)

-- a component of some sums
abbrev pub sum_of : List ℤ → ℕ → ℤ
sum_of x i = slice_index_or x i (pos 0)

-- four components by their numbers
abbrev pub four_of : (ℕ → ℤ) → List ℤ
four_of f = f 0 ∷ f 1 ∷ f 2 ∷ f 3 ∷ []

-- sums added, each in 128 bits
abbrev pub added : List ℤ → List ℤ → List ℤ
added x y = four_of (λ i. int_wrap w128 (sum_of x i +ℤ sum_of y i))

-- a state times a weight
abbrev pub weighed : State → ℕ → List ℤ
weighed s w = four_of (λ i. value_at s i *ℤ pos w)

-- sums with their floors in their places, each in 128 bits
abbrev pub all_rounded : List ℤ → ℕ → List ℤ
all_rounded x w = four_of (λ i. int_wrap w128 (rounded (sum_of x i) w))

-- a state of so many values whose components are the floors of sums, where these have 64 bits
pub record HasMeans (parts w : ℕ) (x : List ℤ) (s : State) : Type 0 where
  pub count : count_of s ≡ parts
  pub each : (i : ℕ) → i < parts → FitsSigned w64 (floor_of (sum_of x i) w)
      → value_at s i ≡ floor_of (sum_of x i) w

-- all values of a state have 64 bits
abbrev pub HasWords : State → Type 0
HasWords s = (i : ℕ) → FitsSigned w64 (value_at s i)

-- partials with one more, as long as there is a place
abbrev pub with_partial : List Partial → Partial → List Partial
with_partial ps p = if nat_lt (length ps) 24 then ps ++ p ∷ [] else ps

-- whether a tree has the cell of a view whole
abbrev pub is_whole : CutPoints → ℕ → CellView → Bool
is_whole keys tree v = is_within (cuts_of keys) tree v.key

-- the weight of the cell of a view
abbrev pub weight_in : CutPoints → CellView → ℕ
weight_in keys v = cell_weight keys.depth keys.dim v.key

module _ {S : Type 0} where
  -- the sums of a level
  abbrev pub sums_at : SecondaryWork S → ℕ → List ℤ
  sums_at a l = slice_index_or a.sums l no_sums

  -- whether the parent of the last centre child of a level merges
  abbrev pub merging_at : SecondaryWork S → ℕ → Bool
  merging_at a l = slice_index_or a.merging l false

  -- as a cell is entered the sums of the level below it are cleared
  abbrev pub cleared : SecondaryWork S → ℕ → SecondaryWork S
  cleared a l = record a { sums = slice_set a.sums (l + 1) no_sums }

  -- as it is left something is added to those of its own level
  abbrev pub summed : SecondaryWork S → ℕ → List ℤ → SecondaryWork S
  summed a l x = record a { sums = slice_set a.sums l (added (sums_at a l) x) }

  -- as a refined cell of the tree is left it takes the means of the sums of the level below, and merges where its centre child said so
  pub record RefinedIntends (parts : S → ℕ) (a : SecondaryWork S) (v w : CellView)
      (b : SecondaryWork S) : Type 0 where
    pub own : IsOwnRefined (cuts_of a.keys) a.tree v
    pub next : State
    pub means : HasMeans (parts a.solver) (weight_in a.keys v) (sums_at a (v.key.level + 1)) next
    pub told : IsTold a.keys.dim (refined_intends next (merging_at a (v.key.level + 1))) v w
    pub counted : b ≡ record a { merges = one_if (merging_at a (v.key.level + 1)) a.merges }

  -- any other cell is passed by
  pub record PassedBy (a : SecondaryWork S) (v w : CellView) (b : SecondaryWork S) : Type 0 where
    pub view : w ≡ v
    pub same : b ≡ a

  -- a leaf of the tree adds its new value times its weight
  pub record LeafAdds (a : SecondaryWork S) (v : CellView) (b : SecondaryWork S) : Type 0 where
    pub own : IsOwnLeaf (cuts_of a.keys) a.tree v
    pub words : HasWords (next_at_home a.keys.dim v)
    pub adds : b
        ≡ summed a v.key.level (weighed (next_at_home a.keys.dim v) (weight_in a.keys v))

  -- a refined cell of the tree that no other tree holds adds its sums, which are those of the level below, and where it merges its floors in their place
  pub record WholeAdds (a : SecondaryWork S) (v : CellView) (b : SecondaryWork S) : Type 0 where
    pub own : IsOwnRefined (cuts_of a.keys) a.tree v
    pub whole : is_whole a.keys a.tree v ≡ true
    pub adds : b
        ≡ summed a v.key.level
        (if merging_at a (v.key.level + 1)
        then all_rounded (sums_at a (v.key.level + 1)) (weight_in a.keys v)
        else sums_at a (v.key.level + 1))

  -- a shared cell adds its sums, and hands them out with whether it merges, which its owner says
  pub record SharedAdds (a : SecondaryWork S) (v : CellView) (b : SecondaryWork S) : Type 0 where
    pub refined : IsRefinedView (cuts_of a.keys) v
    pub shared : is_whole a.keys a.tree v ≡ false
    pub owned : Bool
    pub owns : IsTrue owned ↔ Owns (cuts_of a.keys) a.tree v.key
    pub adds : b
        ≡ record (summed a v.key.level (sums_at a (v.key.level + 1))) {
          partials = with_partial a.partials (record {
            key = v.key;
            sums = sums_at a (v.key.level + 1);
            merges = owned && merging_at a (v.key.level + 1);
          });
        }

  -- any other cell adds nothing
  pub record AddsNothing (a : SecondaryWork S) (v : CellView) (b : SecondaryWork S) : Type 0 where
    pub leaf : ¬ IsOwnLeaf (cuts_of a.keys) a.tree v
    pub whole : ¬ IsOwnRefined (cuts_of a.keys) a.tree v
    pub shared : IsRefinedView (cuts_of a.keys) v → is_whole a.keys a.tree v ≡ true
    pub same : b ≡ a

  -- what a centre child tells stands at its level until another one of the level is left
  pub record CentreTells (a : SecondaryWork S) (v : CellView) (b : SecondaryWork S) : Type 0 where
    pub centre : IsCentre a.keys.dim v.key
    pub merges : Bool
    pub decides : DecidesMerge v merges
    pub told : b ≡ record a { merging = slice_set a.merging v.key.level merges }

  -- as a refined cell is told, or any other passed by
  abbrev pub RefinedLeft : (S → ℕ) → SecondaryWork S → CellView → CellView → SecondaryWork S
      → Type 0
  RefinedLeft parts a v w b = RefinedIntends parts a v w b
      ⊎ ((¬ IsOwnRefined (cuts_of a.keys) a.tree v) × PassedBy a v w b)

  -- as a cell adds to the sums
  abbrev pub SumsLeft : SecondaryWork S → CellView → SecondaryWork S → Type 0
  SumsLeft a v b = LeafAdds a v b ⊎ (WholeAdds a v b ⊎ (SharedAdds a v b ⊎ AddsNothing a v b))

  -- and as it tells what it is the centre of
  abbrev pub CentreLeft : SecondaryWork S → CellView → SecondaryWork S → Type 0
  CentreLeft a v b = CentreTells a v b ⊎ ((¬ IsCentre a.keys.dim v.key) × (b ≡ a))

  -- as a cell is left
  abbrev pub SecondaryLeaves : (S → ℕ) → SecondaryWork S → CellView → CellView → SecondaryWork S
      → Type 0
  SecondaryLeaves parts a v w b = (m : SecondaryWork S) × (n : SecondaryWork S)
      × RefinedLeft parts a v w m × SumsLeft m w n × CentreLeft n w b

  module _ (kernel : S → Kernel) where
    -- the new state of an enclave leaf is gathered or computed, and it may be the least that has none
    pub record EnclaveComputed (a : SecondaryWork S) (v : CellView) (next : Option State)
        (b : SecondaryWork S) : Type 0 where
      pub enclave : DecidesEnclave (cuts_of a.keys) a.tree v true
      pub next_is : next ≡ new_in (kernel a.solver) a.keys.dim v
      pub answered : Answers a.tasks b.tasks
      pub found : b
          ≡ record a {
            failing = failing_with a.failing v.key
                (new_in (kernel a.solver) a.keys.dim v);
            tasks = b.tasks;
          }

    -- a skeleton leaf has its new state already, and one whose values are not the solver's has none
    pub record NoneComputed (a : SecondaryWork S) (v : CellView) (next : Option State)
        (b : SecondaryWork S) : Type 0 where
      pub other : DecidesEnclave (cuts_of a.keys) a.tree v false
          ⊎ (¬ HasParts (kernel a.solver) a.keys.dim v)
      pub none : next ≡ None
      pub same : b ≡ a

    -- one of both
    abbrev pub LeafFinished : SecondaryWork S → CellView → Option State → SecondaryWork S → Type 0
    LeafFinished a v next b = EnclaveComputed a v next b ⊎ NoneComputed a v next b

    -- as a leaf of the tree is entered it is told whether it splits, and as an enclave leaf its new state
    pub record LeafIntends (a : SecondaryWork S) (v w : CellView)
        (b : SecondaryWork S) : Type 0 where
      pub own : IsOwnLeaf (cuts_of a.keys) a.tree v
      pub next : Option State
      pub after : SecondaryWork S
      pub finished : LeafFinished a v next after
      pub split : Bool
      pub decides : DecidesSplit v split
      pub told : IsTold a.keys.dim (leaf_intends next split) v w
      pub counted : b ≡ record after { splits = one_if split after.splits }

    -- as any other cell is entered nothing is told
    abbrev pub CellFinished : SecondaryWork S → CellView → CellView → SecondaryWork S → Type 0
    CellFinished a v w b = LeafIntends a v w b
        ⊎ ((¬ IsOwnLeaf (cuts_of a.keys) a.tree v) × PassedBy a v w b)

    -- as a cell is entered
    abbrev pub SecondaryEnters : SecondaryWork S → CellView → CellView → SecondaryWork S → Type 0
    SecondaryEnters a v w b = CellFinished (cleared a v.key.level) v w b
