-- Room for what a sweep of one grid moves.
use Rattle.std.proofs.Common.{◌≡◌, ℕ, suc, ◌+◌, ◌<◌, ◌≤◌, true, false, List, [], ◌∷◌, ◌++◌, Some, length, get_or, refl, ap, ap₂, sym, ◌∙◌, subst, arith, length-append}
use Rattle.std.specs.Prelude.{pos, ◌≤ℤ◌, ◌+ℤ◌, flat_map, if◌then◌else◌}
use Rattle.std.proofs.lemmas.Int.{ints}
use Rattle.std.proofs.lemmas.List.{length-map}
use Rattle.std.proofs.lemmas.Grind.{flat_map-append}
use Rattle.peano_keys.specs.declared.cell.CellKey.{CellKey}
use Rattle.peano_keys.specs.Grid.{has_cell, is_refined}
use Rattle.peano_records.specs.declared.view.CellView.{CellView}
use Rattle.peano_records.specs.declared.view.Corner.{Corner}
use Rattle.peano_records.specs.declared.view.Corner.TheVariants.{Vertex, Hanging, Beyond}
use Rattle.vertex_stacks.specs.declared.kind.Kind.{Kind}
use Rattle.sweep_visits.specs.Plan.{is_visited}
use Rattle.sweep_visits.specs.Visits.{Visit, leave}
use Rattle.sweep_streams.specs.Records.{written_at, written_by}
use Rattle.tree_automaton.specs.declared.kinds.Serves.TheVariants.{Plain}
use Rattle.tree_automaton.specs.TreeLists.{TreeLists, page_count, spare_cells}
use Rattle.tree_automaton.specs.Sweep.{TreeSweep, IsTreeSweep, GridsServe, served_by}
use Rattle.tree_automaton.specs.Promises.{Keeps, Meaning, SameCorner}
use Rattle.tree_automaton.specs.Story.{Story}
use Rattle.tree_automaton.specs.Moments.{IsDuring, flag_of}
use Rattle.tree_automaton.specs.Visits.{IsSameTree, vertex_part, vertices_in}
use Rattle.tree_automaton.specs.Corners.{MovesVertices}
use Rattle.tree_automaton.specs.Sweeps.{HasRoom, KeepsRoom}
use Rattle.tree_automaton.proofs.Entered.{plain_has}

pub same_again : (s t u : TreeLists) → IsSameTree s t → IsSameTree t u → IsSameTree s u
same_again s t u x y = record { dim = y.dim ∙ x.dim; depth = y.depth ∙ x.depth; range = y.range ∙ x.range; dir = y.dir ∙ x.dir; tree = y.tree ∙ x.tree; tale = y.tale ∙ x.tale; stored = y.stored ∙ x.stored; leaves = y.leaves ∙ x.leaves; pages = (let a = x.pages in let b = y.pages in omega (arith, a, b)) }

pub same_tree : (s : TreeLists) → IsSameTree s s
same_tree s = record { dim = refl; depth = refl; range = refl; dir = refl; tree = refl; tale = refl; stored = refl; leaves = refl; pages = omega arith }

-- a store stays of its tree where its vertices move,
pub tree_moved : (s t : TreeLists) → MovesVertices s t → IsSameTree s t
tree_moved s t x = record { dim = x.dim; depth = ap (λ z. z.depth) x.lists; range = ap (λ z. z.range) x.lists; dir = ap (λ z. z.dir) x.lists; tree = ap (λ z. z.tree) x.lists; tale = x.tale; stored = ap (λ z. z.stored) x.lists; leaves = ap (λ z. z.leaves) x.lists; pages = x.pages }

-- where a cell's record is read,
pub tree_read : (s t : TreeLists) → t ≡ record s { cells = t.cells; live = false } → IsSameTree s t
tree_read s t e = record { dim = ap (λ z. z.lanes.dim) e; depth = ap (λ z. z.depth) e; range = ap (λ z. z.range) e; dir = ap (λ z. z.dir) e; tree = ap (λ z. z.tree) e; tale = ap (λ z. z.lanes.tale) e; stored = ap (λ z. z.stored) e; leaves = ap (λ z. z.leaves) e; pages = (let h : page_count t.lanes ≡ page_count s.lanes = ap (λ z. page_count z.lanes) e in omega (arith, h)) }

-- and where one is written
pub tree_written : (s t : TreeLists) → t ≡ record s { written = t.written; cell_room = t.cell_room; counted = t.counted } → IsSameTree s t
tree_written s t e = record { dim = ap (λ z. z.lanes.dim) e; depth = ap (λ z. z.depth) e; range = ap (λ z. z.range) e; dir = ap (λ z. z.dir) e; tree = ap (λ z. z.tree) e; tale = ap (λ z. z.lanes.tale) e; stored = ap (λ z. z.stored) e; leaves = ap (λ z. z.leaves) e; pages = (let h : page_count t.lanes ≡ page_count s.lanes = ap (λ z. page_count z.lanes) e in omega (arith, h)) }

same_count : (k l : Corner) → SameCorner k l → vertex_part l ≡ vertex_part k
same_count (Vertex s) (Vertex t) same = refl
same_count (Vertex s) (Hanging l) same = absurd same
same_count (Vertex s) Beyond same = absurd same
same_count (Hanging k) (Hanging l) same = refl
same_count (Hanging k) (Vertex t) same = absurd same
same_count (Hanging k) Beyond same = absurd same
same_count Beyond Beyond same = refl
same_count Beyond (Vertex t) same = absurd same
same_count Beyond (Hanging l) same = absurd same

same_counts : (ks ls : List Corner) → length ls ≡ length ks → ((n : ℕ) → SameCorner (get_or ks n Beyond) (get_or ls n Beyond)) → vertices_in ls ≡ vertices_in ks
same_counts [] [] e same = refl
same_counts [] (l ∷ ls) e same = absurd (omega arith)
same_counts (k ∷ ks) [] e same = absurd (omega arith)
same_counts (k ∷ ks) (l ∷ ls) e same = ap₂ (λ x y. x + y) (same_count k l (same 0)) (same_counts ks ls (omega arith) (λ n. same (suc n)))

-- a visitor keeps how many corners are vertices
pub vertices_kept : (v w : CellView) → Keeps v w → vertices_in w.corners ≡ vertices_in v.corners
vertices_kept v w keeps = same_counts v.corners w.corners keeps.shape keeps.corners_stay

-- in a plain sweep, where a cell is left next there is room for its record
pub room_for_cell : (m : Story) (made more : List Visit) (c : CellKey) (s : TreeLists) → IsTreeSweep m.sweep → m.sweep.serves ≡ Plain → is_visited m.sweep.plan c ≡ true → IsDuring m made (leave c ∷ more) s → length (written_by m.sweep.plan) ≤ s.cell_room → 0 < spare_cells s
room_for_cell m made more c s sweep plain there during room =
    let p = m.sweep.plan in
    let one : p.old ≡ Some p.new = subst (λ v. GridsServe v p) plain sweep.serve in
    let has : has_cell p.new c ≡ true = plain_has m.sweep c one there in
    let all : length (written_by p) ≡ length (flat_map (written_at p) made) + length (flat_map (written_at p) (leave c ∷ more)) = ap (λ vs. length (flat_map (written_at p) vs)) during.visits ∙ (ap length (flat_map-append (written_at p) made (leave c ∷ more)) ∙ length-append (flat_map (written_at p) made) (flat_map (written_at p) (leave c ∷ more))) in
    let next : length (flat_map (written_at p) (leave c ∷ more)) ≡ suc (length (flat_map (written_at p) more)) = ap (λ b. length ((if b then c ∷ [] else []) ++ flat_map (written_at p) more)) has in
    let so_far : length s.written ≡ length (flat_map (written_at p) made) = sym (length-map s.written flag_of) ∙ (ap length during.records.flags ∙ length-map (flat_map (written_at p) made) (is_refined p.new)) in
    omega (arith, all, next, so_far, room)

-- room after an enter
pub room_entered : (p : TreeSweep) (meaning : Meaning) (kind : Kind) (s t : TreeLists) (v : CellView) → served_by kind ≡ p.serves → t ≡ record s { cells = t.cells; lanes = t.lanes; live = false } → (served_by kind ≡ Plain → (s.lanes.spare +ℤ pos (vertices_in v.corners)) ≤ℤ t.lanes.spare) → HasRoom p meaning s → HasRoom p meaning t
room_entered p meaning kind s t v served others spare has = record {
  plain = has.plain;
  wants_none = has.wants_none;
  vertices = (let more = spare (served ∙ has.plain) in let had = has.vertices in omega (arith, ints, more, had));
  cells = subst (λ n. length (written_by p.plan) ≤ n) (sym (ap (λ z. z.cell_room) others)) has.cells;
}

-- room stays
pub room_kept : (p : TreeSweep) (meaning meaning' : Meaning) (kind : Kind) (s t : TreeLists) → served_by kind ≡ p.serves → meaning' ≡ meaning → KeepsRoom kind s t → HasRoom p meaning s → HasRoom p meaning' t
room_kept p meaning meaning' kind s t served same keeps has = record {
  plain = has.plain;
  wants_none = ap (λ m. m.may_want) same ∙ has.wants_none;
  vertices = (let more = keeps.vertices (served ∙ has.plain) in let had = has.vertices in omega (arith, ints, more, had));
  cells = (let more = keeps.cells in let had = has.cells in omega (arith, more, had));
}

-- what a cell's enter, what is below it and its leave do to the room
pub room_walked : (kind : Kind) (s t u e : TreeLists) (n k : ℕ) → k ≡ n → t ≡ record s { cells = t.cells; lanes = t.lanes; live = false } → (served_by kind ≡ Plain → (s.lanes.spare +ℤ pos n) ≤ℤ t.lanes.spare) → KeepsRoom kind t u → u.cell_room ≤ e.cell_room → u.lanes.spare ≤ℤ (e.lanes.spare +ℤ pos k) → KeepsRoom kind s e
room_walked kind s t u e n k same others entered below room left = record {
  cells = (let a : t.cell_room ≡ s.cell_room = ap (λ z. z.cell_room) others in let b = below.cells in omega (arith, a, b, room));
  vertices = λ plain. (let a = entered plain in let b = below.vertices plain in omega (arith, ints, a, b, left, same));
}

-- there is room to give all corners of a view
pub room_to_leave : (kind : Kind) (s t u : TreeLists) (n k : ℕ) → served_by kind ≡ Plain → k ≡ n → (served_by kind ≡ Plain → (s.lanes.spare +ℤ pos n) ≤ℤ t.lanes.spare) → KeepsRoom kind t u → pos 0 ≤ℤ s.lanes.spare → pos k ≤ℤ u.lanes.spare
room_to_leave kind s t u n k plain same entered below had = (let a = entered plain in let b = below.vertices plain in omega (arith, ints, a, b, had, same))

pub keeps_again : (kind : Kind) (s t u : TreeLists) → KeepsRoom kind s t → KeepsRoom kind t u → KeepsRoom kind s u
keeps_again kind s t u x y = record {
  cells = (let a = x.cells in let b = y.cells in omega (arith, a, b));
  vertices = λ plain. (let a = x.vertices plain in let b = y.vertices plain in omega (arith, ints, a, b));
}

pub keeps_room : (kind : Kind) (s : TreeLists) → KeepsRoom kind s s
keeps_room kind s = record { cells = omega arith; vertices = λ plain. omega (arith, ints) }
