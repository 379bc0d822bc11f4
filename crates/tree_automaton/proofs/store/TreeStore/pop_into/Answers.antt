use Rattle.std.proofs.Common.{ap, ◌∙◌}
use Rattle.tree_automaton.specs.TreeLists.{TreeLists, page_count}
use Rattle.tree_automaton.proofs.Pages.{same_pages}
use Rattle.tree_automaton.proofs.store.TreeStore.pop_into.Goals as goal

pub returns-clause-pages : goal.returns-clause-pages
returns-clause-pages c = same_pages c.self.inside.lanes c.pop_into.new.self c.pop_into.ensures.pages ∙ ap (λ (z : TreeLists). page_count z.lanes) c.self.view_is
