-- In a walk nothing is given twice on one lane.
use Rattle.std.proofs.Common.{◌≡◌, ℕ, ◌+◌, ◌*◌, ◌-◌, ◌%◌, ◌==◌, ◌<◌, Bool, true, false, cond, Option, List, [], ◌∷◌, ◌++◌, map, flat_map, refl, sym, ap, ◌∙◌, subst, arith, Some, None, ⊎_elim, eqb-true}
use Rattle.std.proofs.lemmas.Bool.{cases_lt}
use Rattle.stack_law.specs.Boxes.{Axis, Side, Box, Direction, first, second, third, low, high, size, number, coord, beyond, lane}
use Rattle.stack_law.specs.Visits.{Way, Faces, Visit, entry, exit, wall, enter, leave, visits, walls}
use Rattle.stack_law.specs.Stack.{Step, Event, push, pop, run, on_lane, run_all, stepped, replaced, pushed, AreDistinct}
use Rattle.stack_law.specs.Passings.{at_entry, at_exit, passings}
use Rattle.stack_law.specs.Order.{IsInner, rank, extent, WayIs, IsRightCell}
use Rattle.stack_law.specs.Once.{IsIn}
use Rattle.stack_law.specs.Moments.{TellsApart, IsNamed, HoldsTheRest}
use Rattle.stack_law.specs.LaneLaws.{LanesHoldTheRest, events}
use Rattle.stack_law.specs.Domain.{root}
use Rattle.stack_law.proofs.Seen.{on_lane-append, enter_lane, leave_lane}
use Rattle.stack_law.proofs.Across.{there_and_back, face_of}
use Rattle.stack_law.proofs.Together.{no_more, lanes_are_stacks}
use Rattle.stack_law.proofs.Held.{stacks_hold_what_was_not_taken, distinct_left}
use Rattle.stack_law.proofs.Moments.{no_pop_fails}
use Rattle.stack_law.proofs.Leaves.{left_with, TellsCell, leaves_distinct}

module _ (A : Type 0) (same : A → A → Bool) where
  one_step : (s : List A) (x : Step A) (t : List A) (xs : List (Step A)) → stepped same s x ≡ Some t → run same s (x ∷ xs) ≡ run same t xs
  one_step s (push x) t xs e = ap (λ u. run same u xs) (let q : x ∷ s ≡ t = cc in q)
  one_step [] (pop x) t xs e = absurd (cc)
  one_step (y ∷ s) (pop x) t xs e = tested (same x y) e
    where
      tested : (b : Bool) → cond b (Some s) None ≡ Some t → cond b (run same s xs) None ≡ run same t xs
      tested true e = ap (λ u. run same u xs) (let q : s ≡ t = cc in q)
      tested false e = absurd (cc)

  from_some : (stacks ends : ℕ → List A) (k : ℕ) (es : List (Event A)) (o : Option (List A)) (G : Type 0) → ((t : List A) → o ≡ Some t → run_all same (replaced same k t stacks) es ≡ Some ends → G) → (let r : Option (ℕ → List A) = elim o [ None ↦ None | Some t ↦ run_all same (replaced same k t stacks) es ] in r ≡ Some ends) → G
  from_some stacks ends k es None G f h = absurd (cc)
  from_some stacks ends k es (Some t) G f h = f t refl h

  -- each stack of a joint run runs alone
  pub apart : (es : List (Event A)) (stacks ends : ℕ → List A) → run_all same stacks es ≡ Some ends → (k : ℕ) → run same (stacks k) (on_lane k es) ≡ Some (ends k)
  apart [] stacks ends h k = (let e : stacks ≡ ends = cc in ap (λ f. Some (f k)) e)
  apart (e ∷ es) stacks ends h k = from_some stacks ends e.on es (stepped same (stacks e.on) e.step) (run same (stacks k) (on_lane k (e ∷ es)) ≡ Some (ends k)) (λ t q f. chosen t q (e.on == k) refl (apart es (replaced same e.on t stacks) ends f k)) h
    where
      chosen : (t : List A) → stepped same (stacks e.on) e.step ≡ Some t → (b : Bool) → (e.on == k) ≡ b → run same (cond b t (stacks k)) (on_lane k es) ≡ Some (ends k) → run same (stacks k) (cond b (e.step ∷ on_lane k es) (on_lane k es)) ≡ Some (ends k)
      chosen t q true is f = one_step (stacks k) e.step t (on_lane k es) (subst (λ l. stepped same (stacks l) e.step ≡ Some t) (eqb-true e.on k is) q) ∙ f
      chosen t q false is f = f

-- what is given in a list of steps
pub pushed-append : {A : Type 0} (xs ys : List (Step A)) → pushed (xs ++ ys) ≡ pushed xs ++ pushed ys
pushed-append [] ys = refl
pushed-append {A} (push x ∷ xs) ys = ap {B = List A} (λ l. x ∷ l) (pushed-append xs ys)
pushed-append (pop x ∷ xs) ys = pushed-append xs ys

pub pushed_pushes : {A : Type 0} (xs : List A) → pushed (map push xs) ≡ xs
pushed_pushes [] = refl
pushed_pushes {A} (x ∷ xs) = ap {B = List A} (λ l. x ∷ l) (pushed_pushes xs)

pub pushed_pops : {A : Type 0} (xs : List A) → pushed (map pop xs) ≡ []
pushed_pops [] = refl
pushed_pops (x ∷ xs) = pushed_pops xs

-- the cell that gives is told by its lane and by the cell that receives
same_number : (n n' a b : ℕ) → 2 * n + a % 2 ≡ 2 * n' + b % 2 → n ≡ n'
same_number n n' a b e = omega arith

same_axes : (i j : Axis) → number i ≡ number j → i ≡ j
same_axes first first e = refl
same_axes first second e = absurd (omega arith)
same_axes first third e = absurd (omega arith)
same_axes second first e = absurd (omega arith)
same_axes second second e = refl
same_axes second third e = absurd (omega arith)
same_axes third first e = absurd (omega arith)
same_axes third second e = absurd (omega arith)
same_axes third third e = refl

one_giver : (i : Axis) (h g : Side) (b c : Box) (e f : ℕ) → (coord i b + size h) % 2 ≡ (coord i c + size g) % 2 → IsInner h (coord i b) e → IsInner g (coord i c) f → beyond i h b ≡ beyond i g c → b ≡ c
one_giver i low low b c e f p l m q = sym (there_and_back i low b e l) ∙ ap (beyond i high) q ∙ there_and_back i low c f m
one_giver i high high b c e f p l m q = sym (there_and_back i high b e l) ∙ ap (beyond i low) q ∙ there_and_back i high c f m
one_giver first low high b c e f p l m q = (let r : b.x0 - 1 ≡ c.x0 + 1 = ap (coord first) q in absurd (omega arith))
one_giver first high low b c e f p l m q = (let r : b.x0 + 1 ≡ c.x0 - 1 = ap (coord first) q in absurd (omega arith))
one_giver second low high b c e f p l m q = (let r : b.x1 - 1 ≡ c.x1 + 1 = ap (coord second) q in absurd (omega arith))
one_giver second high low b c e f p l m q = (let r : b.x1 + 1 ≡ c.x1 - 1 = ap (coord second) q in absurd (omega arith))
one_giver third low high b c e f p l m q = (let r : b.x2 - 1 ≡ c.x2 + 1 = ap (coord third) q in absurd (omega arith))
one_giver third high low b c e f p l m q = (let r : b.x2 + 1 ≡ c.x2 - 1 = ap (coord third) q in absurd (omega arith))

giver_by_axes : (i j : Axis) (h g : Side) (b c : Box) (e f : ℕ) → i ≡ j → lane i h b ≡ lane j g c → IsInner h (coord i b) e → IsInner g (coord j c) f → beyond i h b ≡ beyond j g c → b ≡ c
giver_by_axes i j h g b c e f p =
    subst (λ a. lane i h b ≡ lane a g c → IsInner h (coord i b) e → IsInner g (coord a c) f → beyond i h b ≡ beyond a g c → b ≡ c) p
    (λ q l m r. one_giver i h g b c e f (omega arith) l m r)

pushed_entry : {A : Type 0} (w : Way) (xs : List A) → pushed (at_entry w (map pop xs)) ≡ []
pushed_entry entry xs = pushed_pops xs
pushed_entry exit xs = refl
pushed_entry wall xs = refl

pushed_exit : {A : Type 0} (w : Way) (xs : List A) → pushed (at_exit w (map push xs)) ≡ at_exit w xs
pushed_exit entry xs = refl
pushed_exit exit xs = pushed_pushes xs
pushed_exit wall xs = refl

module _ (A : Type 0) (same : A → A → Bool) (decides : TellsApart A same) (splits_of : A → ℕ) (receiver_of : A → Box) (items : ℕ → Box → Axis → Side → List A) (named : IsNamed A same splits_of receiver_of items) (dir : Direction) (axis : ℕ → Axis) (is_cell : ℕ → Bool) (splits k : ℕ) (below : k < 6) where
  -- what a cell gives on the lane when it is left
  abbrev gift : ℕ → Box → Faces → List A
  gift m b io = (let f = face_of b k below in at_exit (io f.0 f.1) (items m b f.0 f.1))

  abbrev gifts : Visit → List A
  gifts = left_with A dir axis is_cell splits gift

  gifts_are : (v : Visit) → pushed (on_lane k (passings A items v)) ≡ gifts v
  gifts_are (enter m b io) =
      let f = face_of b k below in
      ap pushed (rw f.2 at (enter_lane A items dir axis is_cell f.0 m b f.1 io)) ∙ pushed_entry (io f.0 f.1) _
  gifts_are (leave m b io) =
      let f = face_of b k below in
      ap pushed (rw f.2 at (leave_lane A items dir axis is_cell f.0 m b f.1 io)) ∙ pushed_exit (io f.0 f.1) (items m b f.0 f.1)

  all_gifts : (vs : List Visit) → pushed (on_lane k (flat_map (passings A items) vs)) ≡ flat_map gifts vs
  all_gifts [] = refl
  all_gifts (v ∷ vs) =
      ap pushed (on_lane-append k (passings A items v) (flat_map (passings A items) vs))
      ∙ pushed-append (on_lane k (passings A items v)) (on_lane k (flat_map (passings A items) vs))
      ∙ rw (gifts_are v, all_gifts vs) refl

  -- a cell that gives the item on the lane
  record Giver (x : A) (m : ℕ) (b : Box) : Type 0 where
    pub axis_of : Axis
    pub side_of : Side
    pub bound_of : ℕ
    pub on : lane axis_of side_of b ≡ k
    pub inner : IsInner side_of (coord axis_of b) bound_of
    pub level : splits_of x ≡ m
    pub to : receiver_of x ≡ beyond axis_of side_of b

  one : (x : A) (m n : ℕ) (b c : Box) → Giver x m b → Giver x n c → b ≡ c
  one x m n b c f g =
      giver_by_axes f.axis_of g.axis_of f.side_of g.side_of b c f.bound_of g.bound_of
      (same_axes f.axis_of g.axis_of (same_number (number f.axis_of) (number g.axis_of) (coord f.axis_of b + size f.side_of) (coord g.axis_of c + size g.side_of) (f.on ∙ sym g.on)))
      (f.on ∙ sym g.on) f.inner g.inner (sym f.to ∙ g.to)

  giver : (x : A) (m : ℕ) (b : Box) (io : Faces) → IsRightCell dir axis is_cell splits m b io → IsIn x (gift m b io) → Giver x m b
  giver x m b io r h =
      let f = face_of b k below in
      by_way f.0 f.1 f.2 (io f.0 f.1) (r.ways f.0 f.1) h
    where
      by_way : (i : Axis) (g : Side) → lane i g b ≡ k → (w : Way) → WayIs (rank dir axis (splits - m) m) (extent axis (splits - m) m) b i g w → IsIn x (at_exit w (items m b i g)) → Giver x m b
      by_way i g e entry f h = absurd h
      by_way i g e exit f h = record { axis_of = i; side_of = g; bound_of = extent axis (splits - m) m i; on = e; inner = f.0; level = named.level m b i g x h; to = named.receiver m b i g x h }
      by_way i g e wall f h = absurd h

  tells : TellsCell A dir axis is_cell splits gift
  tells x m b io n c jo r s h g =
      let f = giver x m b io r h in
      let k = giver x n c jo s g in
      (sym f.level ∙ k.level, one x m n b c f k)

  distinct_exit : (w : Way) (m : ℕ) (b : Box) (i : Axis) (h : Side) → AreDistinct same (at_exit w (items m b i h))
  distinct_exit entry m b i h = tt
  distinct_exit exit m b i h = named.distinct m b i h
  distinct_exit wall m b i h = tt

  pub given_once : AreDistinct same (pushed (on_lane k (events A items dir axis is_cell splits root walls)))
  given_once =
      rw (all_gifts (visits dir axis is_cell splits root walls))
      (leaves_distinct A dir axis is_cell splits gift tells same decides (λ m b io r. (let f = face_of b k below in distinct_exit (io f.0 f.1) m b f.0 f.1)))

-- from a whole walk to each of its moments
module _ (A : Type 0) (same : A → A → Bool) (decides : TellsApart A same) where
  pub at_each_moment : (es done todo : List (Event A)) → ((k : ℕ) → AreDistinct same (pushed (on_lane k es))) → run_all same (λ k. []) es ≡ Some (λ k. []) → es ≡ done ++ todo → HoldsTheRest A same done
  at_each_moment es done todo once whole e =
      let now = no_pop_fails A same (λ k. []) (λ k. []) done todo (rw e at whole) in
      record {
        now = now.0;
        reached = now.1;
        rest = λ k. stacks_hold_what_was_not_taken A same decides.reflexive decides.exact (on_lane k done) (now.0 k) (apart A same done (λ k. []) now.0 now.1 k) (part k);
      }
    where
      part : (k : ℕ) → AreDistinct same (pushed (on_lane k done))
      part k =
          distinct_left A same decides.reflexive decides.exact (pushed (on_lane k done)) (pushed (on_lane k todo))
          (rw (e, on_lane-append k done todo, pushed-append (on_lane k done) (on_lane k todo)) at (once k))

pub lanes_hold_the_rest : (A : Type 0) → LanesHoldTheRest A
lanes_hold_the_rest A same decides splits_of receiver_of items named dir axis is_cell splits done todo e =
    at_each_moment A same decides (events A items dir axis is_cell splits root walls) done todo each (lanes_are_stacks A same decides.reflexive items dir axis is_cell splits) e
  where
    each : (k : ℕ) → AreDistinct same (pushed (on_lane k (events A items dir axis is_cell splits root walls)))
    each k =
        ⊎_elim
        (λ below. given_once A same decides splits_of receiver_of items named dir axis is_cell splits k below)
        (λ above. rw (no_more A items k above (visits dir axis is_cell splits root walls)) tt)
        (cases_lt k 6)
