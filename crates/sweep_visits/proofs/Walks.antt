-- The visits by keys are those of the walk over boxes.
use Rattle.std.proofs.Common.{◌≡◌, ℕ, zero, suc, ◌+◌, ◌-◌, ◌%◌, ◌==◌, Bool, true, false, not, ◌&&◌, if◌then◌else◌, List, [], ◌∷◌, ◌++◌, map, arith, refl, ap, ◌∙◌, append_assoc, append-nil}
use Rattle.std.proofs.lemmas.List.{map-append}
use Rattle.peano_keys.specs.declared.cell.CellKey.{CellKey}
use Rattle.peano_keys.specs.declared.dim.Dim.TheVariants.{Two, Three}
use Rattle.peano_keys.specs.Cell.{at}
use Rattle.peano_curve.specs.declared.order.Direction.{Direction}
use Rattle.peano_curve.specs.declared.order.Direction.TheVariants.{Forward, Backward}
use Rattle.stack_law.specs.Digits.{turned}
use Rattle.peano_curve.specs.Order.{nth_from, child_along}
use Rattle.stack_law.specs.Boxes as boxes
use Rattle.stack_law.specs.Boxes.{Axis, Box, Column, first, second, third, lower, middle, upper, shift, column, moved, ascends}
use Rattle.stack_law.specs.Visits as box
use Rattle.stack_law.specs.Visits.{Faces, handed_down, in_order, walls}
use Rattle.stack_law.specs.Walk.{walk}
use Rattle.stack_law.proofs.Backward.{other_parity}
use Rattle.sweep_visits.specs.Visits.{from_child}
use Rattle.sweep_visits.proofs.Places.{direction_of}

-- three lists along a direction
abbrev pub along : Direction → ℕ → ℕ
along Forward t = t
along Backward t = 2 - t

abbrev pub in_three : {V : Type 0} → Direction → (ℕ → List V) → List V
in_three dir f = f (along dir 0) ++ (f (along dir 1) ++ f (along dir 2))

pub three_each : {V : Type 0} (dir : Direction) (f g : ℕ → List V) → ((t : ℕ) → f t ≡ g t) → in_three dir f ≡ in_three dir g
three_each dir f g e = rw (e (along dir 0), e (along dir 1), e (along dir 2)) refl

ordered_up : {V : Type 0} (f : ℕ → List V) (b : Bool) → in_order b (f 0) (f 1) (f 2) ≡ in_three Forward (λ t. f (if b then t else 2 - t))
ordered_up f true = refl
ordered_up f false = refl

ordered_down : {V : Type 0} (f : ℕ → List V) (b : Bool) → in_order (not b) (f 0) (f 1) (f 2) ≡ in_three Backward (λ t. f (if b then t else 2 - t))
ordered_down f true = refl
ordered_down f false = refl

-- a split turns as the digits do
pub turned_order : {V : Type 0} (dir : Direction) (s : ℕ) (f : ℕ → List V) → in_order ((s + shift (direction_of dir)) % 2 == 0) (f 0) (f 1) (f 2) ≡ in_three dir (λ t. f (turned s t))
turned_order Forward s f = (let e : (s + 0) % 2 ≡ s % 2 = omega arith in rw e (ordered_up f (s % 2 == 0)))
turned_order Backward s f = (let e : (s + 0) % 2 ≡ s % 2 = omega arith in rw (other_parity boxes.forward s, e) (ordered_down f (s % 2 == 0)))

nine : {V : Type 0} (f : ℕ → List V) (r : List V) → f 0 ++ (f 1 ++ (f 2 ++ (f 3 ++ (f 4 ++ (f 5 ++ (f 6 ++ (f 7 ++ (f 8 ++ r)))))))) ≡ ((f 0 ++ (f 1 ++ f 2)) ++ ((f 3 ++ (f 4 ++ f 5)) ++ (f 6 ++ (f 7 ++ f 8)))) ++ r
nine f r = simp append_assoc refl

pub two_children : {V : Type 0} (dir : Direction) (each : CellKey → List V) (c : CellKey) → from_child Two dir each c 0 9 ≡ in_three dir (λ a. in_three dir (λ t. each (nth_from Two c (turned (at c 1) a) t 0)))
two_children Forward each c = nine (λ p. each (child_along Forward Two c p)) [] ∙ append-nil _
two_children Backward each c = nine (λ p. each (child_along Backward Two c p)) [] ∙ append-nil _

twenty_seven : {V : Type 0} (f g h : ℕ → List V) → f 0 ++ (f 1 ++ (f 2 ++ (f 3 ++ (f 4 ++ (f 5 ++ (f 6 ++ (f 7 ++ (f 8 ++ (g 0 ++ (g 1 ++ (g 2 ++ (g 3 ++ (g 4 ++ (g 5 ++ (g 6 ++ (g 7 ++ (g 8 ++ (h 0 ++ (h 1 ++ (h 2 ++ (h 3 ++ (h 4 ++ (h 5 ++ (h 6 ++ (h 7 ++ (h 8 ++ [])))))))))))))))))))))))))) ≡ ((f 0 ++ (f 1 ++ f 2)) ++ ((f 3 ++ (f 4 ++ f 5)) ++ (f 6 ++ (f 7 ++ f 8)))) ++ (((g 0 ++ (g 1 ++ g 2)) ++ ((g 3 ++ (g 4 ++ g 5)) ++ (g 6 ++ (g 7 ++ g 8)))) ++ ((h 0 ++ (h 1 ++ h 2)) ++ ((h 3 ++ (h 4 ++ h 5)) ++ (h 6 ++ (h 7 ++ h 8)))))
twenty_seven f g h = nine f _ ∙ ap (λ r. ((f 0 ++ (f 1 ++ f 2)) ++ ((f 3 ++ (f 4 ++ f 5)) ++ (f 6 ++ (f 7 ++ f 8)))) ++ r) (nine g _ ∙ ap (λ r. ((g 0 ++ (g 1 ++ g 2)) ++ ((g 3 ++ (g 4 ++ g 5)) ++ (g 6 ++ (g 7 ++ g 8)))) ++ r) (nine h [] ∙ append-nil _))

pub three_children : {V : Type 0} (dir : Direction) (each : CellKey → List V) (c : CellKey) → from_child Three dir each c 0 27 ≡ in_three dir (λ a. in_three dir (λ t. in_three dir (λ u. each (nth_from Three c (turned (at c 1 + at c 2) a) t u))))
three_children Forward each c = twenty_seven (λ p. each (child_along Forward Three c p)) (λ p. each (child_along Forward Three c (9 + p))) (λ p. each (child_along Forward Three c (18 + p)))
three_children Backward each c = twenty_seven (λ p. each (child_along Backward Three c p)) (λ p. each (child_along Backward Three c (9 + p))) (λ p. each (child_along Backward Three c (18 + p)))

map_order : {V W : Type 0} (f : V → W) (up : Bool) (xs ys zs : List V) → map f (in_order up xs ys zs) ≡ in_order up (map f xs) (map f ys) (map f zs)
map_order f true xs ys zs = simp map-append refl
map_order f false xs ys zs = simp map-append refl

-- one split of a walk, seen through what stands for its visits
module _ {W : Type 0} (key : box.Visit → W) (dir : boxes.Direction) (axis : ℕ → Axis) (is_cell : ℕ → Bool) (visited is_open : ℕ → Box → Bool) where
  abbrev pub seen : ℕ → Box → Faces → List W
  seen m b io = map key (walk dir axis is_cell visited is_open m b io)

  abbrev pub parts : ℕ → Axis → Box → Faces → List W
  parts m a b io = in_order (ascends dir a b) (seen m (column a lower b) (handed_down (ascends dir a b) a lower io)) (seen m (column a middle b) (handed_down (ascends dir a b) a middle io)) (seen m (column a upper b) (handed_down (ascends dir a b) a upper io))

  pub bar : (m : ℕ) (a : Axis) (b : Box) (io : Faces) → axis (suc m) ≡ a → is_cell (suc m) ≡ false → seen (suc m) b io ≡ parts m a b io
  bar m a b io at_a none = rw (at_a, none, append-nil) (map_order key (ascends dir a b) _ _ _)

  abbrev pub wrapped : Bool → Bool → W → W → List W → List W
  wrapped t o e l vs = if t then e ∷ ((if o then vs else []) ++ l ∷ []) else []

  wrap : (t o : Bool) (e l : box.Visit) (xs : List box.Visit) (vs : List W) → map key xs ≡ vs → map key ((if t then e ∷ [] else []) ++ ((if not (t && o) then [] else xs) ++ (if t then l ∷ [] else []))) ≡ wrapped t o (key e) (key l) vs
  wrap true true e l xs vs same = ap (λ ys. key e ∷ ys) (map-append key xs (l ∷ []) ∙ ap (λ ys. ys ++ key l ∷ []) same)
  wrap true false e l xs vs same = refl
  wrap false o e l xs vs same = refl

  pub cell_step : (m : ℕ) (a : Axis) (b : Box) (io : Faces) (t o : Bool) → axis (suc m) ≡ a → is_cell (suc m) ≡ true → visited (suc m) b ≡ t → is_open (suc m) b ≡ (t && o) → seen (suc m) b io ≡ wrapped t o (key (box.enter (suc m) b io)) (key (box.leave (suc m) b io)) (parts m a b io)
  cell_step m a b io t o at_a one here below = rw (at_a, one, here, below) (wrap t o (box.enter (suc m) b io) (box.leave (suc m) b io) _ (parts m a b io) (map_order key (ascends dir a b) _ _ _))

  pub cell_end : (b : Box) (io : Faces) (t : Bool) → is_cell zero ≡ true → visited zero b ≡ t → seen zero b io ≡ (if t then key (box.enter zero b io) ∷ key (box.leave zero b io) ∷ [] else [])
  cell_end b io t one here = rw (one, here) (by t)
    where
      by : (t : Bool) → map key ((if t then box.enter zero b io ∷ [] else []) ++ (if t then box.leave zero b io ∷ [] else [])) ≡ (if t then key (box.enter zero b io) ∷ key (box.leave zero b io) ∷ [] else [])
      by true = refl
      by false = refl
