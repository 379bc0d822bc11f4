-- What stays in a store whose slots change.
use Rattle.std.proofs.Common.{◌≡◌, ℕ, suc, ◌<◌, List, [], ◌∷◌, map, length, get_or, arith, refl, sym, ap, ap₂, subst, ◌∙◌}
use Rattle.peano_keys.specs.declared.dim.Dim.{Dim}
use Rattle.peano_records.specs.declared.stored.Stored.{Stored}
use Rattle.peano_records.specs.Slots.{VertexRecord}
use Rattle.curve_cuts.specs.Cuts.{Cuts, range_of}
use Rattle.sweep_visits.specs.Plan.{SweepPlan}
use Rattle.vertex_stacks.specs.Tales.{capped}
use Rattle.tree_automaton.specs.TreeLists.{TreeLists}
use Rattle.tree_automaton.specs.AtRest.{HasLists}
use Rattle.tree_automaton.specs.Sweeps.{key_of}
use Rattle.tree_automaton.specs.Moments.{flag_of}
use Rattle.boundary_streams.specs.Trees.{IsKeyOf, IsTreeOf}
use Rattle.shared_sums.specs.declared.adding.Means.{Means}
use Rattle.shared_sums.specs.Records.{IsStoreBy}

-- a change of slots keeps the keys
same_keys : (xs ys : List Stored) → length ys ≡ length xs → ((i : ℕ) (d : VertexRecord) → i < length xs → (get_or ys i d).key ≡ (get_or xs i d).key) → map key_of ys ≡ map key_of xs
same_keys [] [] e same = refl
same_keys [] (y ∷ ys) e same = absurd (omega (arith, e))
same_keys (x ∷ xs) [] e same = absurd (omega (arith, e))
same_keys (x ∷ xs) (y ∷ ys) e same = ap₂ (λ v vs. v ∷ vs) (same 0 x (omega arith)) (same_keys xs ys (omega (arith, e)) (λ i d below. same (suc i) d (omega (arith, below))))

module _ (dim : Dim) (ms : List Means) (old new : TreeLists) (h : IsStoreBy dim ms old new) where
  keys_stay : map key_of new.lanes.input ≡ map key_of old.lanes.input
  keys_stay = same_keys old.lanes.input new.lanes.input h.count (λ i d below. (h.records i d below).key)

  pub tree_stays : (k : Cuts) → IsTreeOf k old → IsTreeOf k new
  tree_stays k v = record {
    live = ap (λ (s : TreeLists). s.live) h.rest ∙ v.live;
    dim = ap (λ (s : TreeLists). s.lanes.dim) h.rest ∙ v.dim;
    depth = ap (λ (s : TreeLists). s.depth) h.rest ∙ v.depth;
    tree = subst (λ n. n < k.trees) (sym (ap (λ (s : TreeLists). s.tree) h.rest)) v.tree;
    range = ap (λ (s : TreeLists). s.range) h.rest ∙ v.range ∙ ap (λ (s : TreeLists). range_of k s.tree) (sym h.rest);
    keys = λ i d below.
        let inside : i < length old.lanes.input = omega (arith, below, h.count) in
        subst (IsKeyOf k) (sym (h.records i d inside).key) (v.keys i d inside);
  }

  pub lists_stay : (p : SweepPlan) (number : ℕ) → HasLists p number old → HasLists p number new
  lists_stay p number l = record {
    dim = ap (λ (s : TreeLists). s.lanes.dim) h.rest ∙ l.dim;
    depth = ap (λ (s : TreeLists). s.depth) h.rest ∙ l.depth;
    range = ap (λ (s : TreeLists). s.range) h.rest ∙ l.range;
    dir = ap (λ (s : TreeLists). s.dir) h.rest ∙ l.dir;
    tree = ap (λ (s : TreeLists). s.tree) h.rest ∙ l.tree;
    live = ap (λ (s : TreeLists). s.live) h.rest ∙ l.live;
    cells = ap (λ (s : TreeLists). map flag_of s.cells) h.rest ∙ l.cells;
    written = ap (λ (s : TreeLists). s.written) h.rest ∙ l.written;
    input = keys_stay ∙ l.input;
    output = ap (λ (s : TreeLists). s.lanes.output) h.rest ∙ l.output;
    lanes = ap (λ (s : TreeLists). s.lanes.lanes) h.rest ∙ l.lanes;
    taken = ap (λ (s : TreeLists). s.lanes.taken) h.rest ∙ l.taken;
    put = ap (λ (s : TreeLists). s.lanes.put) h.rest ∙ l.put;
    pushed = ap (λ (s : TreeLists). s.lanes.pushed) h.rest ∙ l.pushed;
    counted = ap (λ (s : TreeLists). s.counted) h.rest ∙ l.counted;
    stored = ap (λ (s : TreeLists). s.stored) h.rest ∙ l.stored ∙ ap capped (sym h.count);
    leaves = ap (λ (s : TreeLists). s.leaves) h.rest ∙ l.leaves;
  }
