use Rattle.std.proofs.Common.{◌≡◌, List, set, get_or, refl, sym, ap, subst, ◌∙◌, Some, IsSome}
use Rattle.std.specs.Prelude.{slice_get}
use Rattle.task_core.specs.Core.{Tree}
use Rattle.task_core.specs.Work.{Trees, AreServed, IsServed, IsServedTask, next_in, passed, offering, with_task, changed}
use Rattle.task_core.proofs.Trees.{next_there, next_of, next_offering, read_at, changed_there, set_same, offer_served}
use Rattle.task_core.proofs.forest.Forest.offer.Goals as goal

pub invariant_of-self : goal.invariant_of-self
invariant_of-self c =
    let ts : List Tree = c.self.inside.trees.items in
    let t : Tree = c.index_mut-work.result.now in
    let there = next_there c.args.sweep (slice_get c.args.self.now.trees c.args.tree) c.requires.next in
    let at = read_at ts c.args.self.now.trees c.args.tree t there.0 (ap (λ (v : Trees). v.trees) c.self.view_is) there.1 c.index_mut-work.ensures.value in
    subst (λ u. AreServed c.self.inside.parts (set ts c.args.tree u)) (sym c.in_err-offer.ensures.err) (subst (AreServed c.self.inside.parts) (sym (set_same ts c.args.tree t at)) c.self.invariant)

pub pass-requires : goal.pass-requires
pass-requires c =
    let ts : List Tree = c.self.inside.trees.items in
    let t : Tree = c.index_mut-work.result.now in
    let there = next_there c.args.sweep (slice_get c.args.self.now.trees c.args.tree) c.requires.next in
    let same = ap (λ (v : Trees). v.trees) c.self.view_is in
    let at = read_at ts c.args.self.now.trees c.args.tree t there.0 same there.1 c.index_mut-work.ensures.value in
    next_offering c.args.sweep c.args.leaf t c.offer.new.self c.in_ok-offer.ensures.ok (next_of c.args.sweep ts c.args.self.now.trees c.args.tree t same c.requires.next at)

pub invariant_of-self-2 : goal.invariant_of-self-2
invariant_of-self-2 c =
    let ts : List Tree = c.self.inside.trees.items in
    let t : Tree = c.index_mut-work.result.now in
    let there = next_there c.args.sweep (slice_get c.args.self.now.trees c.args.tree) c.requires.next in
    let at = read_at ts c.args.self.now.trees c.args.tree t there.0 (ap (λ (v : Trees). v.trees) c.self.view_is) there.1 c.index_mut-work.ensures.value in
    let served : IsServed c.self.inside.parts c.args.leaf = subst (λ (v : Trees). IsServed v.parts c.args.leaf) (sym c.self.view_is) c.requires.served in
    subst (λ u. AreServed c.self.inside.parts (set ts c.args.tree u)) (sym (c.pass.ensures ∙ ap passed c.in_ok-offer.ensures.ok)) (offer_served c.self.inside.parts ts c.args.tree t c.args.leaf c.self.invariant served at)

pub returns-clause-ok : goal.returns-clause-ok
returns-clause-ok c =
    let ts : List Tree = c.self.inside.trees.items in
    let t : Tree = c.index_mut-work.result.now in
    let there = next_there c.args.sweep (slice_get c.args.self.now.trees c.args.tree) c.requires.next in
    let at = read_at ts c.args.self.now.trees c.args.tree t there.0 (ap (λ (v : Trees). v.trees) c.self.view_is) there.1 c.index_mut-work.ensures.value in
    let f = λ (u : Tree). passed (offering c.args.leaf u) in
    ap (λ us. record { parts = c.self.inside.parts; trees = us }) (changed_there f ts c.args.tree t c.pass.new.self at (c.pass.ensures ∙ ap passed c.in_ok-offer.ensures.ok)) ∙ ap (λ (v : Trees). changed f v c.args.tree) c.self.view_is
