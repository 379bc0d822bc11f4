use Rattle.std.proofs.Common.{subst}
use Rattle.tree_automaton.specs.TreeLists.{TreeLists, page_count}
use Rattle.tree_automaton.proofs.Pages.{more_pages}
use Rattle.std.specs.Prelude.{◌≤◌}
use Rattle.vertex_stacks.specs.Lists.{pages_used}
use Rattle.tree_automaton.proofs.store.TreeStore.put_output_from.Goals as goal

pub returns-clause-pages : goal.returns-clause-pages
returns-clause-pages c = subst (λ (z : TreeLists). page_count z.lanes ≤ page_count c.put_output_from.new.self) c.self.view_is (more_pages c.put_output_from.result c.self.inside.lanes c.put_output_from.new.self (pages_used c.put_output_from.new.self) c.put_output_from.ensures.pages c.put_output_from.ensures.err)
