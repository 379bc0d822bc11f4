use Rattle.std.proofs.Common.{subst}
use Rattle.tree_automaton.specs.TreeLists.{TreeLists, page_count}
use Rattle.tree_automaton.proofs.Pages.{more_pages}
use Rattle.std.specs.Prelude.{◌≤◌}
use Rattle.vertex_stacks.specs.Lists.{pages_used}
use Rattle.tree_automaton.proofs.store.TreeStore.push_from.Goals as goal

pub returns-clause-pages : goal.returns-clause-pages
returns-clause-pages c = subst (λ (z : TreeLists). page_count z.lanes ≤ page_count c.push_from.new.self) c.self.view_is (more_pages c.push_from.result c.self.inside.lanes c.push_from.new.self (pages_used c.push_from.new.self) c.push_from.ensures.pages c.push_from.ensures.err)
