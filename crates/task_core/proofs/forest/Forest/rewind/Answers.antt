use Rattle.std.proofs.Common.{◌≡◌, ◌<◌, ◌≤◌, List, length, map, set, get_or, sym, ap, subst, ◌∙◌, arith}
use Rattle.task_core.specs.Core.{Tree, rewound}
use Rattle.task_core.specs.Work.{Trees, AreServed}
use Rattle.task_core.proofs.Trees.{rewound_below, rewound_next, rewound_all, rewind_served}
use Rattle.task_core.proofs.forest.Forest.rewind.Goals as goal

pub invariant_of-self : goal.invariant_of-self
invariant_of-self c =
    let ts : List Tree = c.self.inside.trees.items in
    let us : List Tree = c.loop-at.self-inside.trees.items in
    let end : length ts ≤ c.loop-at.at = omega (arith, c.loop-at-test.false, c.len-at-end.ensures, c.self.inside.trees.ok.0) in
    let all : us ≡ map rewound ts = c.loop-at.invariant.0 ∙ rewound_all c.loop-at.at ts end in
    subst (λ n. AreServed n us) (sym c.loop-at.invariant.1) (subst (AreServed c.self.inside.parts) (sym all) (rewind_served c.self.inside.parts ts c.self.invariant))

pub loop-at-preserved : goal.loop-at-preserved
loop-at-preserved c =
    let ts : List Tree = c.self.inside.trees.items in
    let us : List Tree = c.loop-at.self-inside.trees.items in
    let i = c.loop-at.at in
    let d : Tree = c.index_mut-work.result.now in
    let below : i < length ts = omega (arith, c.loop-at-test.true, c.len-at-end.ensures, c.self.inside.trees.ok.0) in (
      ap (set us i) (c.rewind.ensures ∙ ap rewound c.index_mut-work.ensures.value) ∙ ap (λ (vs : List Tree). set vs i (rewound (get_or vs i d))) c.loop-at.invariant.0 ∙ rewound_next i ts d below,
      c.loop-at.invariant.1,
    )

pub returns : goal.returns
returns c =
    let ts : List Tree = c.self.inside.trees.items in
    let us : List Tree = c.loop-at.self-inside.trees.items in
    let end : length ts ≤ c.loop-at.at = omega (arith, c.loop-at-test.false, c.len-at-end.ensures, c.self.inside.trees.ok.0) in
    let all : us ≡ map rewound ts = c.loop-at.invariant.0 ∙ rewound_all c.loop-at.at ts end in
    ap (λ n. record { parts = n; trees = us }) c.loop-at.invariant.1 ∙ ap (λ (vs : List Tree). record { parts = c.self.inside.parts; trees = vs }) all ∙ ap (λ (v : Trees). record { parts = v.parts; trees = map rewound v.trees }) c.self.view_is
