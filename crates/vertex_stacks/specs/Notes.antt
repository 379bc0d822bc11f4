-- What a sweep leaves behind.
use Rattle.std.specs.Prelude.{ℕ}
use Rattle.vertex_stacks.specs.declared.kind.Kind.{Kind}

-- the note of a sweep: its step, kind and tree, and how many vertices it took, put and pushed
pub record Note : Type 0 where
  pub step : ℕ
  pub kind : Kind
  pub tree : ℕ
  pub taken : ℕ
  pub put : ℕ
  pub pushed : ℕ
