-- Trees that were shown are where they were, and their rows are the field's.
use Rattle.std.proofs.Common.{◌≡◌, ◌≢◌, ℕ, ◌<◌, List, Option, Some, None, unwrap_or, refl, ap, sym, subst, ◌∙◌, arith}
use Rattle.std.specs.Prelude.{IsSome, pos, length, slice_index_or}
use Rattle.std.specs.FinMap as fin
use Rattle.std.proofs.lemmas.Bool.{false≢true}
use Rattle.std.proofs.lemmas.List.{same_lists}
use Rattle.peano_keys.specs.declared.state.State.{State}
use Rattle.peano_keys.specs.declared.state.State.TheVariants.{Single}
use Rattle.peano_keys.specs.Cell.{IsCell}
use Rattle.peano_keys.specs.Grid.{Spacetree}
use Rattle.peano_keys.specs.Field.{States}
use Rattle.curve_cuts.specs.Cuts.{Cuts, IsCutGrid, range_of}
use Rattle.curve_cuts.proofs.Apart.{leaf_is_owned}
use Rattle.spacetree.specs.declared.row.Row.{Row}
use Rattle.spacetree.specs.Fields.{HasLeaves}
use Rattle.vertex_stacks.specs.declared.kind.Kind.{Kind}
use Rattle.vertex_stacks.specs.declared.kind.Kind.TheVariants.{Raise, Show, Primary, Secondary, Adapt, Recut}
use Rattle.vertex_stacks.specs.Notes.{Note}
use Rattle.vertex_stacks.specs.Tales.{TaleGrows, place_of}
use Rattle.sweep_visits.specs.Runs.{turned_round}
use Rattle.tree_automaton.specs.TreeLists.{TreeLists}
use Rattle.tree_automaton.specs.AtRest.{StandsFor}
use Rattle.step_world.specs.Notes.{note_over}
use Rattle.field_report.specs.declared.traffic.Traffic.{Traffic}
use Rattle.showing_sweep.specs.Counts.{ListsAll}
use Rattle.showing_sweep.specs.Laws.{amounts_in}
use Rattle.showing_sweep.specs.Sweeps.{IsGathering}
use Rattle.showing_sweep.proofs.Exact.{traffic_is_exact, amounts_are_one}
use Rattle.step_driver.specs.declared.showing.Shown.{Shown}
use Rattle.step_driver.specs.Notes.{sizes_of, HaveTales}
use Rattle.step_driver.specs.Showing.{IsRowOfFirst, AreRowsOf, AreShown, TellTraffic, OneTraffic}
use Rattle.step_driver.specs.Stores.{store_of}
use Rattle.step_driver.specs.Worlds.{AreAt}
use Rattle.step_driver.proofs.Notes.{tales_grow}

there_is : (o : Option State) (d : State) → IsSome o → o ≡ Some (unwrap_or o d)
there_is None d h = absurd (false≢true h)
there_is (Some s) d h = refl

some_is_some : (o : Option State) (s : State) → o ≡ Some s → IsSome o
some_is_some o s e = subst (λ p. IsSome p) (sym e) refl

-- sweeps that gather rows raise nothing
pub gathers_no_raising : (kind : Kind) → IsGathering kind → place_of kind ≢ 0
gathers_no_raising Show h e = absurd (omega (arith, e))
gathers_no_raising Recut h e = absurd (omega (arith, e))
gathers_no_raising Raise h e = absurd h
gathers_no_raising Primary h e = absurd h
gathers_no_raising Secondary h e = absurd h
gathers_no_raising Adapt h e = absurd h

-- the rows of all trees are those of the field
pub all_rows : (k : Cuts) (g : Spacetree) (f : States) (rows : List Row) → IsCutGrid k g → HasLeaves g f → ListsAll (IsRowOfFirst k g f k.trees) rows → AreRowsOf f rows
all_rows k g f rows fits leaves h = record {
  once = h.once;
  members = λ r. (
    (λ i.
        let q = (h.members r).0 i in
        let own = q.2.owned in
        there_is (fin.get f r.key) (Single (pos 0)) ((leaves r.key).1 (record { cell = subst (λ d. IsCell d r.key) (sym fits.dim) own.cell; leaf = own.leaf })) ∙ ap Some (sym q.2.value)),
    (λ e.
        let leaf = (leaves r.key).0 (some_is_some (fin.get f r.key) r.value e) in
        let own = leaf_is_owned k g r.key fits (subst (λ d. IsCell d r.key) fits.dim leaf.cell) leaf.leaf in
        (h.members r).1 (own.0, own.1.owns.tree, record { owned = own.1; value = sym (ap (λ o. unwrap_or o (Single (pos 0))) e) })),
  );
}

module _ (parts : ℕ) (k : Cuts) (g : Spacetree) (f : States) (step : ℕ) (kind : Kind) (cells : ℕ) (before after : List TreeLists) (old new : List Note) (shown : Shown) (grows : TaleGrows) (other : place_of kind ≢ 0)
    (at : AreAt parts k before old cells g f) (h : AreShown k parts at.dir g f step kind before after old new shown) where
  tales : HaveTales k.trees after new
  tales = subst (HaveTales k.trees after) (sym h.gathered.noted) (tales_grow (note_over (sizes_of k) step kind g) (λ s. refl) grows (λ s. other) k.trees before after old at.tales (λ t below. (h.trees.changed t below).tale))

  pub still_at : AreAt parts k after new cells g f
  still_at = record {
    few = at.few;
    fits = at.fits;
    field = at.field;
    dir = turned_round at.dir;
    stand = record {
      count = h.trees.count;
      each = λ t below.
          let tree = h.trees.changed t below in
          subst (λ n. StandsFor k.depth (range_of k n) n (turned_round at.dir) g f (store_of after t)) tree.number tree.stands.stands;
    };
    tales = tales;
    counted = at.counted;
    room = at.room;
  }

  -- and what they tell is as it is
  pub told : TellTraffic k g shown.traffic.items
  told = record {
    count = h.gathered.traffic.count;
    each = λ t d below.
        let traffic = h.gathered.traffic.each t d below in
        record {
          tree = ap (λ (x : Traffic). x.tree) traffic.told;
          amounts = traffic_is_exact k g t (slice_index_or shown.traffic.items t d) at.fits.dim at.few at.room traffic;
        };
  }

-- two tellings of the traffic of all trees are one
pub one_traffic : OneTraffic
one_traffic k g first second a b = same_items first second (a.count ∙ sym b.count) (λ t d below.
    let low : t < k.trees = (let count = a.count in omega (arith, below, count)) in
    let x = a.each t d low in
    let y = b.each t d low in
    same_traffic (slice_index_or first t d) (slice_index_or second t d) (x.tree ∙ sym y.tree) (amounts_are_one k g t (amounts_in (slice_index_or first t d)) (amounts_in (slice_index_or second t d)) x.amounts y.amounts))
  where
    same_traffic : (x y : Traffic) → x.tree ≡ y.tree → amounts_in x ≡ amounts_in y → x ≡ y
    same_traffic x y trees amounts = λ i. record {
      tree = trees i;
      cells = (amounts i).cells;
      stored = (amounts i).stored;
      pushes = (amounts i).pushes;
      hanging = (amounts i).hanging;
      enclave = (amounts i).enclave;
      skeleton = (amounts i).skeleton;
      sent = (amounts i).sent;
    }

    same_items : (xs ys : List Traffic) → length xs ≡ length ys → ((t : ℕ) (d : Traffic) → t < length xs → slice_index_or xs t d ≡ slice_index_or ys t d) → xs ≡ ys
    same_items xs ys size each = same_lists xs ys size each
