-- The notes that a run leaves, sweep by sweep and tree by tree.
use Rattle.std.specs.Prelude.{◌≡◌, ℕ, zero, suc, Bool, List, [], ◌∷◌, ◌++◌, if◌then◌else◌}
use Rattle.peano_keys.specs.Grid.{Spacetree}
use Rattle.peano_keys.specs.Field.{States}
use Rattle.solver_api.specs.Step.{UpdateRule, MarkRule}
use Rattle.spacetree.specs.Evaluation.{Evaluates, IsServedStep}
use Rattle.vertex_stacks.specs.declared.kind.Kind.{Kind}
use Rattle.vertex_stacks.specs.declared.kind.Kind.TheVariants.{Raise, Show, Primary, Secondary, Adapt, Recut}
use Rattle.vertex_stacks.specs.Notes.{Note}

-- what the trees have and move: the stored vertices of a tree, the pushes of a sweep over one grid, and those of a sweep from an old grid to a new one
pub record Sizes : Type 0 where
  pub stored : Spacetree → ℕ → ℕ
  pub pushes : Spacetree → ℕ → ℕ
  pub pushes_between : Spacetree → Spacetree → ℕ → ℕ

-- the note of a tree's sweep over one grid
abbrev pub note_over : Sizes → ℕ → Kind → Spacetree → ℕ → Note
note_over z step kind g t =
    record {
      step = step;
      kind = kind;
      tree = t;
      taken = z.stored g t;
      put = z.stored g t;
      pushed = z.pushes g t;
    }

-- of a raising sweep, which takes nothing
abbrev pub note_raised : Sizes → ℕ → Spacetree → ℕ → Note
note_raised z step g t =
    record {
      step = step;
      kind = Raise;
      tree = t;
      taken = 0;
      put = z.stored g t;
      pushed = z.pushes g t;
    }

-- and of an adaptation sweep
abbrev pub note_adapted : Sizes → ℕ → Spacetree → Spacetree → ℕ → Note
note_adapted z step old new t =
    record {
      step = step;
      kind = Adapt;
      tree = t;
      taken = z.stored old t;
      put = z.stored new t;
      pushed = z.pushes_between old new t;
    }

-- one note of each tree, by number
abbrev pub by_trees : ℕ → (ℕ → Note) → List Note
by_trees zero f = []
by_trees (suc t) f = by_trees t f ++ (f t ∷ [])

-- what a run is made of besides the solver: the trees, whether there is a criterion, in which steps the trees are cut anew, and which steps are printed
pub record Course : Type 0 where
  pub trees : ℕ
  pub adapts : Bool
  pub recuts : ℕ → Bool
  pub printed : ℕ → Bool

-- what a showing adds, where the step is printed
abbrev pub showing_notes : Sizes → Course → ℕ → Spacetree → List Note
showing_notes z r step g = if r.printed step then by_trees r.trees (note_over z step Show g) else []

-- the two sweeps that compute
abbrev pub computing_notes : Sizes → ℕ → ℕ → Spacetree → List Note
computing_notes z trees step g = by_trees trees (note_over z step Primary g)
    ++ by_trees trees (note_over z step Secondary g)

-- what a step adds: these, and the adaptation where there is a criterion
abbrev pub step_notes : Sizes → Course → ℕ → Spacetree → Spacetree → List Note
step_notes z r step g h = computing_notes z r.trees step g
    ++ (if r.adapts then by_trees r.trees (note_adapted z step g h) else [])

-- what cutting the trees anew adds, from the trees of one size to those of another: the sweep that gathers the rows, and the raising
abbrev pub recut_notes : Sizes → Sizes → Course → ℕ → Spacetree → List Note
recut_notes y z r step g = if r.recuts step
    then by_trees r.trees (note_over y step Recut g) ++ by_trees r.trees (note_raised z step g)
    else []

-- The notes of a run up to the end of a step, with the grid and the field that it has then; `z s` is what the trees have and move after step `s`, with the keys
-- that they have then.
abbrev pub HasNotes : (ℕ → Sizes) → Course → UpdateRule → MarkRule → Spacetree → States → ℕ
    → Spacetree → States → List Note → Type 0
HasNotes z r updated marked g f zero h a ns = (h ≡ g) × (a ≡ f)
    × (ns ≡ by_trees r.trees (note_raised (z 0) 0 g) ++ showing_notes (z 0) r 0 g)
HasNotes z r updated marked g f (suc n) h a ns = (u : Spacetree) × (b : States) × (ms : List Note)
    × HasNotes z r updated marked g f n u b ms × IsServedStep updated marked u b h a
    × (ns ≡ ms ++ step_notes (z n) r (suc n) u h
    ++ (recut_notes (z n) (z (suc n)) r (suc n) h ++ showing_notes (z (suc n)) r (suc n) h))

-- notes are of the evaluation's grids and fields
abbrev pub NotesAreOfEvaluation : Type 0
NotesAreOfEvaluation = (z : ℕ → Sizes) (r : Course) (updated : UpdateRule) (marked : MarkRule)
    (g : Spacetree) (f : States) (steps : ℕ) (h : Spacetree) (a : States) (ns : List Note)
    → HasNotes z r updated marked g f steps h a ns → Evaluates updated marked g f steps h a

-- and for each evaluation there are notes
abbrev pub NotesExist : Type 0
NotesExist = (z : ℕ → Sizes) (r : Course) (updated : UpdateRule) (marked : MarkRule)
    (g : Spacetree) (f : States) (steps : ℕ) (h : Spacetree) (a : States)
    → Evaluates updated marked g f steps h a
    → (ns : List Note) × HasNotes z r updated marked g f steps h a ns
