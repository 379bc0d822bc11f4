-- What is handed down stays right from visit to visit.
use Rattle.std.proofs.Common.{◌≡◌, ◌↔◌, ℕ, ◌-◌, ◌<◌, ◌≤◌, Bool, true, leb, ltb, le-leb, List, Option, refl, ap, sym, subst, arith}
use Rattle.std.proofs.lemmas.Bool.{lt-ltb}
use Rattle.peano_keys.specs.declared.dim.Dim.{Dim}
use Rattle.peano_keys.specs.declared.cell.CellKey.{CellKey}
use Rattle.peano_keys.specs.Cell.{IsCell, parent_of, root}
use Rattle.peano_curve.specs.declared.order.Direction.{Direction}
use Rattle.peano_curve.specs.declared.range.Range.{Range}
use Rattle.peano_curve.specs.Order.{interval_of, centre_of}
use Rattle.peano_curve.specs.Passing.{AreBeside}
use Rattle.peano_curve.specs.Run.{Meets, HoldsCell}
use Rattle.handed_down.specs.declared.surroundings.Surroundings.{Surroundings}
use Rattle.handed_down.specs.Across.{HasAll, Surround}
use Rattle.peano_curve.proofs.Ranks.{width_positive}
use Rattle.handed_down.proofs.Inside.{has_holds}
use Rattle.peano_records.specs.declared.view.CellView.{CellView}
use Rattle.vertex_stacks.specs.declared.kind.Kind.{Kind}
use Rattle.sweep_visits.specs.Plan.{dim_of, is_held, is_opened}
use Rattle.sweep_visits.specs.Visits.{Visit}
use Rattle.sweep_visits.proofs.Tests.{held_tells, held_told}
use Rattle.tree_automaton.specs.declared.decide.Course.{Course}
use Rattle.tree_automaton.specs.TreeLists.{TreeLists}
use Rattle.tree_automaton.specs.Sweep.{TreeSweep, is_owned, served_by}
use Rattle.tree_automaton.specs.Story.{Story}
use Rattle.tree_automaton.specs.Promises.{Meaning}
use Rattle.tree_automaton.specs.Decisions.{IsCourse}
use Rattle.tree_automaton.specs.Handed.{IsRound, IsRoundIn}
use Rattle.tree_automaton.specs.Visits.{IsSameTree}
use Rattle.tree_automaton.specs.Sweeps.{BelowAsks, WalkAsks}
use Rattle.tree_automaton.proofs.Stored.{and_both, told_as}
use Rattle.tree_automaton.proofs.Decided.{level_there, sweep_plan}
use Rattle.tree_automaton.proofs.Visited.{opened_level}
use Rattle.tree_automaton.proofs.Ways.{of_plan, of_course}

-- a store that stays of its tree keeps it right
pub round_kept : (s t : TreeLists) (c d : CellKey) (a : Surroundings) → IsSameTree s t → d ≡ c → IsRoundIn s c a → IsRoundIn t d a
round_kept s t c d a same key h =
    subst (λ k. Surround t.dir t.lanes.dim t.range t.depth k a) (sym key)
    (subst (λ x. Surround x t.lanes.dim t.range t.depth c a) (sym same.dir)
    (subst (λ x. Surround s.dir x t.range t.depth c a) (sym same.dim)
    (subst (λ x. Surround s.dir s.lanes.dim x t.depth c a) (sym same.range)
    (subst (λ x. Surround s.dir s.lanes.dim s.range x c a) (sym same.depth) h))))

-- it is right in the course of the store
pub round_in : (s : TreeLists) (kind : Kind) (course : Course) (c : CellKey) (a : Surroundings) → course ≡ record { dim = s.lanes.dim; depth = s.depth; range = s.range; dir = s.dir; serves = served_by kind } → IsRoundIn s c a → IsRound course c a
round_in s kind course c a is h = subst (λ x. IsRound x c a) (sym is) h

-- that of the root
pub root_round : (s : TreeLists) (dim : Dim) (depth : ℕ) (range : Range) (c : CellKey) (a : Surroundings) → dim ≡ s.lanes.dim → depth ≡ s.depth → range ≡ s.range → c ≡ root → ((dir : Direction) → Surround dir dim range depth root a) → IsRoundIn s c a
root_round s dim depth range c a ed el er key h =
    subst (λ k. IsRoundIn s k a) (sym key)
    (subst (λ x. Surround s.dir x s.range s.depth root a) ed
    (subst (λ x. Surround s.dir dim x s.depth root a) er
    (subst (λ x. Surround s.dir dim range x root a) el (h s.dir))))

-- that of a child
pub child_round : (s : TreeLists) (dim : Dim) (dir : Direction) (c key : CellKey) (a b : Surroundings) → dim ≡ s.lanes.dim → dir ≡ s.dir → parent_of c ≡ key → c.level ≤ s.depth → IsRoundIn s key a → ((range : Range) (depth : ℕ) → c.level ≤ depth → Surround dir dim range depth (parent_of c) a → Surround dir dim range depth c b) → IsRoundIn s c b
child_round s dim dir c key a b ed er child above h told =
    let own : Surround dir dim s.range s.depth (parent_of c) a = subst (λ k. Surround dir dim s.range s.depth k a) (sym child) (subst (λ x. Surround x dim s.range s.depth key a) (sym er) (subst (λ x. Surround s.dir x s.range s.depth key a) (sym ed) h)) in
    subst (λ x. Surround s.dir x s.range s.depth c b) ed (subst (λ x. Surround x dim s.range s.depth c b) er (told s.range s.depth above own))

-- and what was looked at anew
pub looked_round : (s : TreeLists) (dim : Dim) (depth : ℕ) (range : Range) (c : CellKey) (a b : Surroundings) → dim ≡ s.lanes.dim → depth ≡ s.depth → range ≡ s.range → IsRoundIn s c a → ((dir : Direction) → Surround dir dim range depth c a → Surround dir dim range depth c b) → IsRoundIn s c b
looked_round s dim depth range c a b ed el er h told =
    let own : Surround s.dir dim range depth c a = subst (λ x. Surround s.dir x range depth c a) (sym ed) (subst (λ x. Surround s.dir s.lanes.dim x depth c a) (sym er) (subst (λ x. Surround s.dir s.lanes.dim s.range x c a) (sym el) h)) in
    subst (λ x. Surround s.dir x s.range s.depth c b) ed (subst (λ x. Surround s.dir dim x s.depth c b) er (subst (λ x. Surround s.dir dim range x c b) el (told s.dir own)))

-- the test of the range tells whether the cell is held
pub held_is : (p : TreeSweep) (c : CellKey) (course : Course) (i : Range) (b : Bool) → IsCourse p course → i ≡ interval_of course.dim c course.depth → (b ≡ true) ↔ Meets i course.range → b ≡ is_held p.plan c
held_is p c course i b same value told =
    told_as b (is_held p.plan c) (Meets i course.range) told
    (λ h. subst (λ x. Meets x course.range) (sym value) (of_course p course same (λ d r n way. HoldsCell d n r c) (held_tells p.plan c h)))
    (λ m. held_told p.plan c (of_plan p course same (λ d r n way. HoldsCell d n r c) (subst (λ x. Meets x course.range) value m)))

-- a cell stands beside itself
beside_itself : (c : CellKey) → AreBeside c c
beside_itself c = record { level = refl; first = record { low = omega arith; high = omega arith }; second = record { low = omega arith; high = omega arith }; third = record { low = omega arith; high = omega arith } }

-- where the range has all round a cell, the cell is held
pub whole_held : (p : TreeSweep) (course : Course) (c : CellKey) (a : Surroundings) → IsCourse p course → IsCell course.dim c → IsRound course c a → a.whole ≡ true → is_held p.plan c ≡ true
whole_held p course c a is cell round whole =
    held_told p.plan c (of_plan p course is (λ d r n way. HoldsCell d n r c) (has_holds course.dim course.depth course.range c (round.whole whole c cell (beside_itself c))))

-- and the tree owns it
pub whole_owned : (p : TreeSweep) (course : Course) (c : CellKey) (a : Surroundings) → IsCourse p course → IsCell course.dim c → IsRound course c a → a.whole ≡ true → is_owned p.plan c ≡ true
whole_owned p course c a is cell round whole =
    let all : HasAll p.plan.range (interval_of (dim_of p.plan) c p.plan.depth) = of_plan p course is (λ d r n way. HasAll r (interval_of d c n)) (round.whole whole c cell (beside_itself c)) in
    let low = all.low in
    let high = all.high in
    let wide = width_positive (dim_of p.plan) (p.plan.depth - c.level) in
    let centre = centre_of (dim_of p.plan) c p.plan.depth in
    and_both (leb p.plan.range.lo centre) (ltb centre p.plan.range.hi) (le-leb p.plan.range.lo centre (omega (arith, low))) (lt-ltb centre p.plan.range.hi (omega (arith, high, wide)))

-- a cell that is walked lies within the depth
pub walk_level : (m : Story) (meaning : Meaning) (made more : List Visit) (parent : Option CellView) (c : CellKey) (kind : Kind) (s : TreeLists) → WalkAsks m meaning made more parent c kind s → c.level ≤ s.depth
walk_level m meaning made more parent c kind s asks = subst (λ d. c.level ≤ d) (sym asks.before.of.depth) (level_there m.sweep c asks.before.sweep asks.cell)

-- a child of an opened cell lies within the depth
pub child_within : (m : Story) (meaning : Meaning) (made more : List Visit) (key c : CellKey) (view : CellView) (visits : List Visit) (kind : Kind) (s : TreeLists) → BelowAsks m meaning made more key view visits kind s → is_opened m.sweep.plan key ≡ true → parent_of c ≡ key → 1 ≤ c.level → c.level ≤ s.depth
child_within m meaning made more key c view visits kind s asks open_ child below =
    let above : key.level < m.sweep.plan.depth = opened_level m.sweep.plan key (sweep_plan m.sweep asks.sweep) open_ in
    let level : c.level - 1 ≡ key.level = ap (λ (k : CellKey). k.level) child in
    let e : s.depth ≡ m.sweep.plan.depth = asks.of.depth in
    omega (arith, above, level, below, e)
