-- One item a face.
use Rattle.std.proofs.Common.{◌≡◌, ℕ, ◌-◌, Bool, true, false, ◌&&◌, if◌then◌else◌, List, [], ◌∷◌, reverse, flat_map, refl, sym, ap, ◌∙◌, arith, inl, inr}
use Rattle.stack_law.specs.Boxes.{Axis, Side, Box, Direction, first, second, third, low, high, opposite, beyond, lane}
use Rattle.stack_law.specs.Visits.{Way, Faces, Visit, entry, exit, wall, enter, leave, visits, walls}
use Rattle.stack_law.specs.Stack.{Event, push, pop, AreDistinct}
use Rattle.stack_law.specs.Passings.{over_faces, at_entry, at_exit, on_each, passings, taken, given}
use Rattle.stack_law.specs.Order.{WayIs, rank, extent, IsRightVisit}
use Rattle.stack_law.specs.Once.{IsIn}
use Rattle.stack_law.specs.Moments.{IsNamed}
use Rattle.stack_walks.specs.Fluxes.{given_across, taken_across, by_faces}
use Rattle.stack_law.specs.Walk.{walk, HappensAtVisited}
use Rattle.stack_walks.specs.Instances.{FluxesUseStacks}
use Rattle.stack_law.specs.Domain.{root}
use Rattle.stack_law.specs.LaneLaws.{events}
use Rattle.stack_law.proofs.Ways.{ways_follow_the_order}
use Rattle.stack_law.proofs.Across.{there_and_back}
use Rattle.stack_law.proofs.Together.{lanes_are_stacks}
use Rattle.stack_law.proofs.Walk.{walk_is}
use Rattle.stack_law.proofs.Given.{lanes_hold_the_rest}
use Rattle.stack_walks.proofs.Streams.{flat_each}

faces_same : {V : Type 0} (f g : Axis → Side → List V) → ((i : Axis) (h : Side) → f i h ≡ g i h) → over_faces f ≡ over_faces g
faces_same f g e = rw (e first low, e first high, e second low, e second high, e third low, e third high) refl

module _ (A : Type 0) (name : ℕ → Box → Box → A) (cells : ℕ → Box → Bool) where
  abbrev items : ℕ → Box → Axis → Side → List A
  items m b i h = if cells m b && cells m (beyond i h b) then name m b (beyond i h b) ∷ [] else []

  quiet : HappensAtVisited (Event A) (by_faces A name cells) cells
  quiet = record { enters = enters; leaves = leaves }
    where
      none_in : (w : Way) (a : Bool) (e : Event A) → at_entry w (if a && false then e ∷ [] else []) ≡ []
      none_in entry true e = refl
      none_in entry false e = refl
      none_in exit a e = refl
      none_in wall a e = refl

      none_out : (w : Way) → at_exit {V = Event A} w [] ≡ []
      none_out entry = refl
      none_out exit = refl
      none_out wall = refl

      enters : (m : ℕ) (b : Box) (io : Faces) → cells m b ≡ false → by_faces A name cells (enter m b io) ≡ []
      enters m b io e = faces_same (taken_across A name cells m b io) (λ i h. []) (λ i h. rw e (none_in (io i h) (cells m (beyond i h b)) (record { on = lane i h b; step = pop (name m (beyond i h b) b) })))

      leaves : (m : ℕ) (b : Box) (io : Faces) → cells m b ≡ false → by_faces A name cells (leave m b io) ≡ []
      leaves m b io e = faces_same (given_across A name cells m b io) (λ i h. []) (λ i h. rw e (none_out (io i h)))

  module _ (dir : Direction) (axis : ℕ → Axis) (is_cell : ℕ → Bool) (splits : ℕ) where
    given_same : (w : Way) (t : Bool) (k : ℕ) (x : A) → at_exit w (if t then record { on = k; step = push x } ∷ [] else []) ≡ at_exit w (on_each k push (if t then x ∷ [] else []))
    given_same w true k x = refl
    given_same w false k x = refl

    taken_same : (w : Way) (place : Box → ℕ) (bound : Axis → ℕ) (m : ℕ) (b : Box) (i : Axis) (h : Side) → WayIs place bound b i h w → at_entry w (if cells m (beyond i h b) && cells m b then record { on = lane i h b; step = pop (name m (beyond i h b) b) } ∷ [] else []) ≡ at_entry w (on_each (lane i h b) pop (reverse (items m (beyond i h b) i (opposite h))))
    taken_same exit place bound m b i h f = refl
    taken_same wall place bound m b i h f = refl
    taken_same entry place bound m b i h f = rw (there_and_back i h b (bound i) f.0) (by_test (cells m (beyond i h b) && cells m b))
      where
        by_test : (t : Bool) → (if t then record { on = lane i h b; step = pop (name m (beyond i h b) b) } ∷ [] else []) ≡ on_each (lane i h b) pop (reverse (if t then name m (beyond i h b) b ∷ [] else []))
        by_test true = refl
        by_test false = refl

    visit_same : (v : Visit) → IsRightVisit dir axis is_cell splits v → by_faces A name cells v ≡ passings A items v
    visit_same (enter m b io) r = faces_same (taken_across A name cells m b io) (taken A items m b io) (λ i h. taken_same (io i h) (rank dir axis (splits - m) m) (extent axis (splits - m) m) m b i h (r.ways i h))
    visit_same (leave m b io) r = faces_same (given_across A name cells m b io) (given A items m b io) (λ i h. given_same (io i h) (cells m b && cells m (beyond i h b)) (lane i h b) (name m b (beyond i h b)))

    visits_same : flat_map (by_faces A name cells) (visits dir axis is_cell splits root walls) ≡ events A items dir axis is_cell splits root walls
    visits_same = flat_each (IsRightVisit dir axis is_cell splits) (by_faces A name cells) (passings A items) visit_same (visits dir axis is_cell splits root walls) (ways_follow_the_order dir axis is_cell splits)

  module _ (same : A → A → Bool) (splits_of : A → ℕ) (receiver_of : A → Box) (level : (m : ℕ) (p q : Box) → splits_of (name m p q) ≡ m) (to : (m : ℕ) (p q : Box) → receiver_of (name m p q) ≡ q) where
    named : IsNamed A same splits_of receiver_of items
    named = record { level = λ m b i h x k. is_level m b (beyond i h b) x (cells m b && cells m (beyond i h b)) k; receiver = λ m b i h x k. is_to m b (beyond i h b) x (cells m b && cells m (beyond i h b)) k; distinct = λ m b i h. alone (name m b (beyond i h b)) (cells m b && cells m (beyond i h b)) }
      where
        is_level : (m : ℕ) (p q : Box) (x : A) (t : Bool) → IsIn x (if t then name m p q ∷ [] else []) → splits_of x ≡ m
        is_level m p q x true (inl e) = ap splits_of e ∙ level m p q
        is_level m p q x true (inr h) = absurd h
        is_level m p q x false h = absurd h

        is_to : (m : ℕ) (p q : Box) (x : A) (t : Bool) → IsIn x (if t then name m p q ∷ [] else []) → receiver_of x ≡ q
        is_to m p q x true (inl e) = ap receiver_of e ∙ to m p q
        is_to m p q x true (inr h) = absurd h
        is_to m p q x false h = absurd h

        alone : (x : A) (t : Bool) → AreDistinct same (if t then x ∷ [] else [])
        alone x true = (refl, tt)
        alone x false = tt

pub fluxes_use_stacks : (A : Type 0) → FluxesUseStacks A
fluxes_use_stacks A same decides name splits_of receiver_of level to dir axis is_cell splits cells is_open closed =
    record {
      emptied = rw whole (lanes_are_stacks A same decides.reflexive (items A name cells) dir axis is_cell splits);
      moments = λ done todo e. lanes_hold_the_rest A same decides splits_of receiver_of (items A name cells) (named A name cells same splits_of receiver_of level to) dir axis is_cell splits done todo (sym whole ∙ e);
    }
  where
    whole : flat_map (by_faces A name cells) (walk dir axis is_cell cells is_open splits root walls) ≡ events A (items A name cells) dir axis is_cell splits root walls
    whole = walk_is dir axis is_cell (Event A) (by_faces A name cells) cells is_open (quiet A name cells) splits closed splits root walls (omega arith) ∙ visits_same A name cells dir axis is_cell splits
