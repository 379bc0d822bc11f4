use Rattle.std.proofs.Common.{sym, ◌∙◌}
use Rattle.grid_file.proofs.Lists.{tables_within-many, tables_within-few}
use Rattle.grid_file.proofs.tree.tables_within.Goals as goal

pub returns-then-items-gt-MOST_TABLES-clause-value : goal.returns-then-items-gt-MOST_TABLES-clause-value
returns-then-items-gt-MOST_TABLES-clause-value c = sym (tables_within-many _ c.if-items-gt-MOST_TABLES.true)

pub returns-clause-value : goal.returns-clause-value
returns-clause-value c = sym (tables_within-few _ c.if-items-gt-MOST_TABLES.false (sym c.are_tables.ensures ∙ c.if-not-are_tables.false))
