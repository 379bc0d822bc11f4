use Rattle.std.proofs.Common.{sym, ◌∙◌, true≢false}
use Rattle.grid_file.proofs.Trees.{no_tree, this_tree}
use Rattle.grid_file.proofs.tree.tree.Goals as goal

pub returns-in-Ok : goal.returns-in-Ok
returns-in-Ok c = sym (this_tree _ _ c.in-Ok.ensures.ok.0 c.in-Ok.ensures.ok.1)

pub returns-else-is_memory : goal.returns-else-is_memory
returns-else-is_memory c = sym (no_tree _ (c.in-Err.ensures.refused (λ m. true≢false (sym (c.is_memory.ensures.1 m) ∙ c.if-is_memory.false))))
