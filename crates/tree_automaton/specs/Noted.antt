-- What a sweep's note says.
use Rattle.std.specs.Prelude.{◌≡◌, ℕ, length}
use Rattle.vertex_stacks.specs.declared.kind.Kind.{Kind}
use Rattle.vertex_stacks.specs.declared.tale.Tale.{Tale}
use Rattle.vertex_stacks.specs.Notes.{Note}
use Rattle.vertex_stacks.specs.Tales.{capped, with_note}
use Rattle.sweep_visits.specs.Plan.{SweepPlan}
use Rattle.sweep_visits.specs.Moves.{moves_of, taken_by, put_by}
use Rattle.sweep_streams.specs.Counts.{pushed_by}

-- how many vertices a sweep takes, puts and pushes
abbrev pub note_of : SweepPlan → Kind → ℕ → ℕ → Note
note_of p kind step t = record {
  step = step;
  kind = kind;
  tree = t;
  taken = capped (length (taken_by (moves_of p)));
  put = capped (length (put_by (moves_of p)));
  pushed = capped (length (pushed_by (moves_of p)));
}

-- the note counts what the sweep moves, and stands in the tale
pub record IsNoted (p : SweepPlan) (kind : Kind) (step t : ℕ) (before after : Tale)
    (note : Note) : Type 0 where
  pub counts : note ≡ note_of p kind step t
  pub tale : after ≡ with_note before note
