-- A step on a grid that stays, the first leaf that fails, and steps after one another.
use Rattle.std.proofs.Common.{zero, suc, ◌+◌, ◌<◌, length, take, get_or, arith, add-one, ◌≡◌, ℕ, List, [], ◌∷◌, Bool, true, false, cond, refl, ap, sym, ◌∙◌, subst, inl, inr, Option, Some, None, IsSome, IsNone, Result, Ok, Err, IsErrAnd, IfErr}
use Rattle.std.specs.FinMap as map
use Rattle.std.specs.FinSet as set
use Rattle.std.specs.List.{AllByRecursion}
use Rattle.std.specs.List.Sorted.{IsStrictlySortedBy}
use Rattle.std.specs.Cmp.{tied_itself}
use Rattle.std.specs.Ordering.{eq_by_cmp}
use Rattle.std.specs.declared.cmp.Ordering.{Ordering}
use Rattle.std.specs.declared.cmp.Ordering.TheVariants.{Less, Equal}
use Rattle.std.proofs.lemmas.Bool.{false≢true, or_cases, or_left, or_right}
use Rattle.peano_keys.specs.declared.cell.CellKey.{CellKey}
use Rattle.peano_keys.specs.declared.state.State.{State}
use Rattle.peano_keys.specs.declared.side.Mark.{Mark}
use Rattle.peano_keys.specs.declared.side.Mark.TheVariants.{Keep, Refine, Coarsen}
use Rattle.peano_keys.specs.Cell.{parent_of, centre_child, centre_digits, key_cmp}
use Rattle.peano_keys.specs.Grid.{Cells, IsGrid, Spacetree, has_cell}
use Rattle.peano_keys.specs.Field.{States, value_of}
use Rattle.peano_keys.specs.Next.{IsNextGrid, Merges}
use Rattle.cell_sums.proofs.Means.{value_plain}
use Rattle.solver_api.specs.Step.{UpdateRule, MarkRule, AreNewStates, IsLeafOf, IsStep, Overflows, marks_of, new_state, source_of}
use Rattle.spacetree.specs.declared.fault.EvalFault.{EvalFault}
use Rattle.spacetree.specs.declared.fault.EvalFault.TheVariants.{Overflow, Crowded, NoMemory}
use Rattle.spacetree.specs.Leaves.{is_among, ListsLeaves}
use Rattle.spacetree.specs.Fields.{IsFieldOn}
use Rattle.spacetree.specs.Evaluation.{Evaluates, OverflowsIn, CrowdsIn, Crowds, EndsIn, IsServedStep, StepFails}
use Rattle.spacetree.specs.Marked.{AreMarked, HasMarked, HasNewStates, NextFails}
use Rattle.spacetree.proofs.CellMaps.{cells_total, exact_cells}
use Rattle.spacetree.proofs.CellSets.{same_key, among_at}
use Rattle.spacetree.proofs.Children.{child_cell}
use Rattle.spacetree.proofs.Givens.{there, away}
use Rattle.spacetree.proofs.Leaves.{leaf_there, unrefined}
use Rattle.spacetree.proofs.Values.{centre_is_digits}

keep_refines : (m : Mark) → m ≡ Keep → m ≡ Refine → ⊥
keep_refines m h g = cc

keep_coarsens : (m : Mark) → m ≡ Keep → m ≡ Coarsen → ⊥
keep_coarsens m h g = cc

-- no leaf has a mark
abbrev pub NoneHas : Spacetree → (CellKey → Mark) → Mark → Type 0
NoneHas t marks m = (c : CellKey) → IsLeafOf t c → marks c ≡ m → ⊥

-- where no leaf is to be refined or coarsened the grid stays
same_grid : (t : Spacetree) (marks : CellKey → Mark) → IsGrid 12 t → NoneHas t marks Refine → NoneHas t marks Coarsen → IsNextGrid t marks t
same_grid t marks grid whole fine = record {
  dim = refl;
  refined = λ c. (
    λ h. inr (
      h,
      λ (m : Merges t marks c).
          let digits = centre_is_digits t.dim in
          fine (centre_child t.dim c) (record { cell = child_cell t.dim c (centre_digits t.dim) (grid.cells c h) (grid.levels c h) digits; leaf = m.leaves (centre_digits t.dim) digits }) (m.marked (centre_digits t.dim) digits),
    ),
    λ s. elim s [ inl split ↦ absurd (whole c (record { cell = split.cell; leaf = split.leaf }) split.marked) | inr stays ↦ stays.0 ],
  );
}

-- a cell of the old grid is its own source
pub source_here : (t : Spacetree) (c : CellKey) → has_cell t c ≡ true → source_of t c ≡ c
source_here t c here = ap (λ b. cond b c (parent_of c)) here

-- that of another cell is its parent
pub source_away : (t : Spacetree) (c : CellKey) → has_cell t c ≡ false → source_of t c ≡ parent_of c
source_away t c away = ap (λ b. cond b c (parent_of c)) away

-- the leaves whose new states are a field have each one
pub updates_made : (updated : UpdateRule) (parts : ℕ) (t : Spacetree) (f states : States) → IsFieldOn parts t states → HasNewStates updated t f states → (c : CellKey) → IsLeafOf t c → IsSome (new_state updated t f c)
updates_made updated parts t f states field new c leaf = subst (λ (o : Option State). IsSome o) (new c leaf) ((field.leaves c).1 leaf)

-- and they are the field of new states
pub new_states : (updated : UpdateRule) (parts : ℕ) (t : Spacetree) (f states : States) → IsFieldOn parts t states → HasNewStates updated t f states → AreNewStates updated t f states
new_states updated parts t f states field new = record {
  updates = updates_made updated parts t f states field new;
  leaves = new;
  others = λ c apart. away (map.get states c) (λ e. apart ((field.leaves c).0 e));
}

-- the state of a leaf is the value of its source
own_value : (parts : ℕ) (t : Spacetree) (f : States) (c : CellKey) → IsFieldOn parts t f → IsLeafOf t c → map.get f c ≡ Some (value_of t f (source_of t c))
own_value parts t f c field leaf =
    sym (there (map.get f c) _ ((field.leaves c).1 leaf))
    ∙ ap Some (sym (value_plain 12 t f c (unrefined t c leaf)) ∙ ap (value_of t f) (sym (source_here t c (leaf_there t c leaf))))

-- where the grid stays that is the next field
step_on_same_grid : (updated : UpdateRule) (marked : MarkRule) (parts : ℕ) (t : Spacetree) (f next : States) → IsGrid 12 t → IsFieldOn parts t next → HasNewStates updated t f next → NoneHas t (marks_of marked t f) Refine → NoneHas t (marks_of marked t f) Coarsen → IsStep updated marked t f t next
step_on_same_grid updated marked parts t f next grid field new whole fine = record {
  states = next;
  made = new_states updated parts t f next field new;
  grid = same_grid t (marks_of marked t f) grid whole fine;
  leaves = λ c leaf. own_value parts t next c field leaf;
  others = λ c apart. away (map.get next c) (λ e. apart ((field.leaves c).0 e));
}

-- a mark that is in an empty set is on no leaf
none_has : (t : Spacetree) (marks : CellKey → Mark) (m : Mark) (s : Cells) → HasMarked t marks m s → s ≡ set.empty → NoneHas t marks m
none_has t marks m s has e c leaf is = false≢true (sym (set.contains-empty key_cmp c) ∙ ap (λ r. set.contains r c) (sym e) ∙ (has c).1 (leaf, is))

-- so a step goes where both sets of marked leaves are empty
pub step_unmarked : (updated : UpdateRule) (marked : MarkRule) (parts : ℕ) (t : Spacetree) (f next : States) (refine coarsen : Cells) → IsGrid 12 t → IsFieldOn parts t next → HasNewStates updated t f next → AreMarked t (marks_of marked t f) refine coarsen → (refine ≡ set.empty) × (coarsen ≡ set.empty) → IsStep updated marked t f t next
step_unmarked updated marked parts t f next refine coarsen grid field new are none = step_on_same_grid updated marked parts t f next grid field new
    (none_has t (marks_of marked t f) Refine refine are.refine none.0) (none_has t (marks_of marked t f) Coarsen coarsen are.coarsen none.1)

not_in : (b : Bool) → (b ≡ true → ⊥) → b ≡ false
not_in true h = absurd (h refl)
not_in false h = refl

no_mark : (t : Spacetree) (marks : CellKey → Mark) (m : Mark) (s : Cells) → HasMarked t marks m s → ((c : CellKey) → marks c ≡ m → ⊥) → s ≡ set.empty
no_mark t marks m s has none = set.same_set cells_total exact_cells s set.empty (λ c. not_in (set.contains s c) (λ h. none c ((has c).0 h).1) ∙ sym (set.contains-empty key_cmp c))

-- and they are where each leaf is kept
pub none_marked : (t : Spacetree) (marks : CellKey → Mark) (refine coarsen : Cells) → AreMarked t marks refine coarsen → ((c : CellKey) → marks c ≡ Keep) → (refine ≡ set.empty) × (coarsen ≡ set.empty)
none_marked t marks refine coarsen are keep = (
  no_mark t marks Refine refine are.refine (λ c e. keep_refines (marks c) (keep c) e),
  no_mark t marks Coarsen coarsen are.coarsen (λ c e. keep_coarsens (marks c) (keep c) e),
)

not_before_itself : (c : CellKey) → key_cmp c c ≡ Less → ⊥
not_before_itself c h = let e : Less ≡ Equal = sym h ∙ tied_itself cells_total c in less_apart _ refl e where
  less_apart : (r : Ordering) → r ≡ Less → r ≡ Equal → ⊥
  less_apart r p q = cc

not_both_ways : (a b : CellKey) → key_cmp a b ≡ Less → key_cmp b a ≡ Less → ⊥
not_both_ways a b h g = not_before_itself a (cells_total.trans a b a h g)

after_all : (x : CellKey) (xs : List CellKey) (b : CellKey) → AllByRecursion (λ y. key_cmp x y ≡ Less) xs → is_among xs b ≡ true → key_cmp x b ≡ Less
after_all x [] b all h = absurd (cc)
after_all x (y ∷ ys) b all h = elim (or_cases (eq_by_cmp key_cmp b y) (is_among ys b) h) [
  | inl e ↦ subst (λ (k : CellKey). key_cmp x k ≡ Less) (sym (same_key b y e)) all.0
  | inr e ↦ after_all x ys b all.1 e
]

-- a cell of a list in order that is before the cell at `i` is among the first `i`
pub among_before : (xs : List CellKey) (i : ℕ) (d b : CellKey) → IsStrictlySortedBy key_cmp xs → i < length xs → is_among xs b ≡ true → key_cmp b (get_or xs i d) ≡ Less → is_among (take i xs) b ≡ true
unfolding IsStrictlySortedBy
among_before [] i d b sorted h there before = absurd (omega arith)
among_before (x ∷ xs) zero d b sorted h there before = elim (or_cases (eq_by_cmp key_cmp b x) (is_among xs b) there) [
  | inl e ↦ absurd (not_before_itself x (subst (λ (k : CellKey). key_cmp k x ≡ Less) (same_key b x e) before))
  | inr e ↦ absurd (not_both_ways b x before (after_all x xs b sorted.0 e))
]
among_before (x ∷ xs) (suc i) d b sorted h there before = elim (or_cases (eq_by_cmp key_cmp b x) (is_among xs b) there) [
  | inl e ↦ or_left (eq_by_cmp key_cmp b x) (is_among (take i xs) b) e
  | inr e ↦ or_right (eq_by_cmp key_cmp b x) (is_among (take i xs) b) (among_before xs i d b sorted.1 (omega arith) e before)
]

-- the first leaf that has no new state is the one at which the step fails
pub fails_at : (updated : UpdateRule) (t : Spacetree) (f : States) (cells : List CellKey) (i : ℕ) (d : CellKey) → ListsLeaves t cells → i < length cells → ((q : CellKey) → is_among (take i cells) q ≡ true → IsSome (new_state updated t f q)) → None ≡ new_state updated t f (get_or cells i d) → Overflows updated t f (get_or cells i d)
fails_at updated t f cells i d lists h made none = record {
  leaf = (lists.members (get_or cells i d)).0 (among_at cells i d h);
  failed = subst (λ (o : Option State). IsNone o) none refl;
  least = λ b leaf before. made b (among_before cells i d b lists.order h ((lists.members b).1 leaf) before);
}

-- one more step
pub evaluates_more : (updated : UpdateRule) (marked : MarkRule) (t : Spacetree) (f : States) (n : ℕ) (u : Spacetree) (g : States) (t' : Spacetree) (f' : States) → Evaluates updated marked t f n u g → IsServedStep updated marked u g t' f' → Evaluates updated marked t f (n + 1) t' f'
evaluates_more updated marked t f n u g t' f' told step = subst (λ k. Evaluates updated marked t f k t' f') (sym (add-one n)) (u, g, told, step)

overflows_next : (updated : UpdateRule) (marked : MarkRule) (t : Spacetree) (f : States) (n : ℕ) (u : Spacetree) (g : States) (c : CellKey) → Evaluates updated marked t f n u g → Overflows updated u g c → OverflowsIn updated marked t f (n + 1) c
overflows_next updated marked t f n u g c told fails = subst (λ k. OverflowsIn updated marked t f k c) (sym (add-one n)) (u, g, told, fails)

crowds_next : (updated : UpdateRule) (marked : MarkRule) (t : Spacetree) (f : States) (n : ℕ) (u : Spacetree) (g : States) (cells : ℕ) → Evaluates updated marked t f n u g → Crowds updated marked u g cells → CrowdsIn updated marked t f (n + 1) cells
crowds_next updated marked t f n u g cells told fails = subst (λ k. CrowdsIn updated marked t f k cells) (sym (add-one n)) (u, g, told, fails)

-- a next grid that is refused refuses the step
pub next_fails : (updated : UpdateRule) (marked : MarkRule) (t : Spacetree) (f : States) (step : ℕ) (fault : EvalFault) → ((c : CellKey) → IsLeafOf t c → IsSome (new_state updated t f c)) → NextFails t (marks_of marked t f) step fault → StepFails updated marked t f step fault
next_fails updated marked t f step (Overflow s c) made fails = absurd fails
next_fails updated marked t f step (Crowded s cells) made fails = (fails.0, record { updates = made; grid = fails.1 })
next_fails updated marked t f step NoMemory made fails = tt

-- a step that is refused ends the evaluation
pub ends_in : (updated : UpdateRule) (marked : MarkRule) (t : Spacetree) (f : States) (n steps : ℕ) (u : Spacetree) (g : States) (fault : EvalFault) → n < steps → Evaluates updated marked t f n u g → StepFails updated marked u g (n + 1) fault → EndsIn updated marked t f steps fault
ends_in updated marked t f n steps u g (Overflow s c) h told fails =
    (omega (arith, fails.0), subst (λ k. OverflowsIn updated marked t f k c) (sym fails.0) (overflows_next updated marked t f n u g c told fails.1))
ends_in updated marked t f n steps u g (Crowded s cells) h told fails =
    (omega (arith, fails.0), subst (λ k. CrowdsIn updated marked t f k cells) (sym fails.0) (crowds_next updated marked t f n u g cells told fails.1))
ends_in updated marked t f n steps u g NoMemory h told fails = tt

-- what an error is known to be says what it has to be
pub err_and : {T E : Type 0} (r : Result T E) (Q P : E → Type 0) → ((e : E) → Q e → P e) → IsErrAnd r Q → IfErr r P
err_and (Ok x) Q P f h = absurd h
err_and (Err e) Q P f h = f e h
