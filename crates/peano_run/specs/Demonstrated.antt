-- The summary of a demonstration.
use Rattle.std.specs.Prelude.{ℕ, List}
use Rattle.peano_keys.specs.Grid.{Spacetree}
use Rattle.peano_keys.specs.Field.{States}
use Rattle.spacetree.specs.Counts.{cells_of}
use Rattle.spacetree.specs.Fields.{rows_of}
use Rattle.field_report.specs.Summary.{IsSummary}
use Rattle.demonstration.specs.Laws.{Begins, Leads}
use Rattle.peano_run.specs.declared.answer.Answer.{Answer}
use Rattle.peano_run.specs.declared.answer.Answer.TheVariants.{Done, WriteFault, NoMemory}

-- a text is the summary of demonstration `n`: of the grid and the field to which the 20 steps lead from its opening ones
pub record IsDemoSummary (n : ℕ) (text : List ℕ) : Type 0 where
  pub grid : Spacetree
  pub field : States
  pub begins : Begins n grid field
  pub last_grid : Spacetree
  pub last_field : States
  pub leads : Leads grid field 20 last_grid last_field
  pub summary : IsSummary n (cells_of last_grid) (rows_of last_field) text

-- how a demonstration may end: its plan is never refused
abbrev pub IsDemoAnswer : Answer → Type 0
IsDemoAnswer Done = Unit {0}
IsDemoAnswer (WriteFault written) = Unit {0}
IsDemoAnswer NoMemory = Unit {0}
IsDemoAnswer _ = ⊥
