-- The sweeps of all trees that gather rows, and what they gather, tree after tree.
use Rattle.std.proofs.Common.{◌≡◌, ℕ, ◌+◌, ◌<◌, List, [], ◌∷◌, ◌++◌, length, map, get_or, refl, ap, sym, subst, ◌∙◌, ⊎_elim, arith}
use Rattle.std.proofs.lemmas.Bool.{cases_eq}
use Rattle.std.proofs.lemmas.List.{append-nil, length-append, get_or_append_left, get_or_push}
use Rattle.stack_law.proofs.Distinct.{in_either}
use Rattle.peano_keys.specs.Grid.{Spacetree}
use Rattle.peano_keys.specs.Field.{States}
use Rattle.peano_curve.specs.declared.order.Direction.{Direction}
use Rattle.curve_cuts.specs.Cuts.{Cuts, IsCutGrid}
use Rattle.curve_cuts.proofs.Cuts.{owner_is_one}
use Rattle.spacetree.specs.declared.row.Row.{Row}
use Rattle.field_report.specs.declared.traffic.Traffic.{Traffic}
use Rattle.vertex_stacks.specs.declared.kind.Kind.{Kind}
use Rattle.vertex_stacks.specs.Notes.{Note}
use Rattle.vertex_stacks.specs.Tales.{with_note}
use Rattle.tree_automaton.specs.TreeLists.{TreeLists}
use Rattle.step_world.specs.Notes.{note_over}
use Rattle.showing_sweep.specs.declared.shown.Shown.{Shown as ShownTree}
use Rattle.showing_sweep.specs.Counts.{ListsAll}
use Rattle.showing_sweep.specs.Shown.{IsRowOf, IsTraffic}
use Rattle.showing_sweep.specs.Sweeps.{IsShownTree}
use Rattle.stack_law.proofs.Chains.{in_left, in_right}
use Rattle.showing_sweep.proofs.Found.{none_twice_in_both}
use Rattle.step_driver.specs.Computing.{AllStandOn}
use Rattle.step_driver.specs.Notes.{sizes_of}
use Rattle.step_driver.specs.Showing.{ShowsTree, IsShownStore, IsRowOfFirst, AreTraffic, GatheredFirst}
use Rattle.step_driver.specs.declared.beside.Swept.{Swept}
use Rattle.step_driver.specs.Gives.{EachGives}
use Rattle.step_driver.specs.Stores.{store_of, ChangesEach}
use Rattle.step_driver.proofs.Gives.{each_changes}
use Rattle.step_driver.proofs.Counts.{note_plain}
use Rattle.step_driver.proofs.Notes.{one_noted}

module _ (k : Cuts) (parts : ℕ) (dir : Direction) (g : Spacetree) (f : States) (step : ℕ) (kind : Kind) where
  -- rows of one tree more
  rows_more : (m : ℕ) (rows more : List Row) → IsCutGrid k g → ListsAll (IsRowOfFirst k g f m) rows → ListsAll (IsRowOf k g f m) more → ListsAll (IsRowOfFirst k g f (m + 1)) (rows ++ more)
  rows_more m rows more fits old new = record {
    once = none_twice_in_both rows more old.once new.once (λ r h j.
        let a = (old.members r).0 h in
        let b = (new.members r).0 j in
        let same : a.0 ≡ m = owner_is_one k a.0 m r.key fits.cuts a.2.owned.owns b.owned.owns in
        let below = a.1 in
        omega (arith, same, below));
    members = λ r. (
      (λ h. ⊎_elim
          (λ i. let a = (old.members r).0 i in let below = a.1 in (a.0, omega (arith, below), a.2))
          (λ i. (m, omega arith, (new.members r).0 i))
          (in_either r rows more h)),
      (λ q. ⊎_elim
          (λ e. in_right (λ z. 0) r rows more ((new.members r).1 (subst (λ t. IsRowOf k g f t r) e q.2)))
          (λ apart. in_left (λ z. 0) r rows more ((old.members r).1 (q.0, (let below = q.1 in omega (arith, below, apart)), q.2)))
          (cases_eq q.0 m)),
    );
  }

  traffic_more : (m : ℕ) (list : List Traffic) (x : Traffic) → AreTraffic k g m list → IsTraffic k g m x → AreTraffic k g (m + 1) (list ++ x ∷ [])
  traffic_more m list x h new = record {
    count = length-append list (x ∷ []) ∙ ap (λ n. n + 1) h.count;
    each = λ t d below. ⊎_elim
        (λ e. subst (λ s. IsTraffic k g s (get_or (list ++ x ∷ []) s d)) (sym e) (subst (IsTraffic k g m) (sym (get_or_push list x d m h.count)) new))
        (λ apart.
        let inside : t < m = omega (arith, below, apart) in
        let count = h.count in
        let there : t < length list = omega (arith, inside, count) in
        subst (IsTraffic k g t) (sym (get_or_append_left list (x ∷ []) d t there)) (h.each t d inside))
        (cases_eq t m);
  }

  -- to begin with nothing is gathered
  pub none_shown : (old : List Note) → GatheredFirst k g f step kind 0 old old [] []
  none_shown old = record {
    noted = sym (append-nil old);
    rows = record { once = tt; members = λ r. ((λ h. absurd h), (λ q. let below = q.1 in absurd (omega (arith, below)))) };
    traffic = record { count = refl; each = λ t d below. absurd (omega (arith, below)) };
  }

  abbrev mine : ℕ → Note
  mine t = note_over (sizes_of k) step kind g t

  -- what one tree's sweep gives, by the tree's number
  record GivesShown (t : ℕ) (x y : TreeLists) (note : Note) (shown : ShownTree) : Type 0 where
    pub tree : IsShownStore k parts dir g f step kind t x y
    pub note_is : note ≡ mine t
    pub rows : ListsAll (IsRowOf k g f t) shown.rows.items
    pub traffic : IsTraffic k g t shown.traffic

  gives_own : (x y : TreeLists) (note : Note) (shown : ShownTree) → IsCutGrid k g → IsShownTree k parts dir g f step kind x y note shown → GivesShown x.tree x y note shown
  gives_own x y note shown fits h =
      let noted : note ≡ mine x.tree = h.noted.counts ∙ note_plain k g dir kind step x.tree fits in
      record {
        tree = record { number = h.tree; stands = h.stands; tale = h.noted.tale ∙ ap (with_note x.lanes.tale) noted };
        note_is = noted;
        rows = h.rows;
        traffic = h.traffic;
      }

  gives_at : (before : List TreeLists) (m : ℕ) (r : Swept ShownTree) → AllStandOn k parts dir g f before → m < k.trees → ShowsTree k step kind (store_of before m) r → GivesShown m (store_of before m) r.store r.note r.found
  gives_at before m r all below shows = subst (λ n. GivesShown n (store_of before m) r.store r.note r.found) (all.number m below) (gives_own (store_of before m) r.store r.note r.found all.grid (shows parts dir g f (all.each m below)))

  -- the stores of all trees
  pub stores_shown : (before after : List TreeLists) (swept : List (Swept ShownTree)) → AllStandOn k parts dir g f before → EachGives (ShowsTree k step kind) before swept → after ≡ map (λ (r : Swept ShownTree). r.store) swept → ChangesEach (IsShownStore k parts dir g f step kind) k.trees before after
  stores_shown before after swept all gives is = each_changes (ShowsTree k step kind) (IsShownStore k parts dir g f step kind) (λ (r : Swept ShownTree). r.store) k.trees before after swept all.count gives is (λ t r below shows. (gives_at before t r all below shows).tree)

  -- and what one tree more shows
  pub shown_more : (m : ℕ) (before : List TreeLists) (old notes : List Note) (rows : List Row) (traffic : List Traffic) (r : Swept ShownTree) → AllStandOn k parts dir g f before → m < k.trees → GatheredFirst k g f step kind m old notes rows traffic → ShowsTree k step kind (store_of before m) r →
      GatheredFirst k g f step kind (m + 1) old (notes ++ r.note ∷ []) (rows ++ r.found.rows.items) (traffic ++ r.found.traffic ∷ [])
  shown_more m before old notes rows traffic r all below h shows =
      let gives = gives_at before m r all below shows in
      record {
        noted = ap (λ (xs : List Note). xs ++ r.note ∷ []) h.noted ∙ one_noted mine m old r.note gives.note_is;
        rows = rows_more m rows r.found.rows.items all.grid h.rows gives.rows;
        traffic = traffic_more m traffic r.found.traffic h.traffic gives.traffic;
      }
