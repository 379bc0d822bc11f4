-- The next cell as a function is that of the vertex's held run.
use Rattle.std.proofs.Common.{◌≡◌, inl, inr, ℕ, zero, suc, ◌<◌, Bool, true, false, if◌then◌else◌, List, [], ◌∷◌, Option, Some, None, arith, refl, sym, ap, subst, ◌∙◌, ⊎_elim}
use Rattle.std.specs.Prelude.{IfSome, MatchOption}
use Rattle.std.proofs.lemmas.Bool.{cases_lt, ltb-true, lt-ltb}
use Rattle.peano_keys.specs.declared.cell.CellKey.{CellKey}
use Rattle.peano_keys.specs.declared.vertex.VertexKey.{VertexKey}
use Rattle.peano_keys.specs.declared.dim.Dim.{Dim}
use Rattle.peano_keys.specs.declared.dim.Dim.TheVariants.{Two, Three}
use Rattle.peano_keys.specs.Dim.{corners}
use Rattle.peano_keys.specs.Cell.{IsCell}
use Rattle.peano_keys.specs.Vertex.{IsVertex, Touches, adjacent_of}
use Rattle.peano_keys.proofs.Positions.{position, position_below, at_position, adjacent_touches}
use Rattle.peano_curve.specs.declared.order.Direction.{Direction}
use Rattle.peano_curve.specs.declared.order.Direction.TheVariants.{Forward, Backward}
use Rattle.peano_curve.specs.declared.range.Range.{Range}
use Rattle.peano_curve.specs.Order.{rank_of}
use Rattle.peano_curve.specs.Run.{Later, InRun, Follows, IsLast, IsFirst}
use Rattle.peano_curve.proofs.Gray.{ranks_tell_apart}
use Rattle.stack_law.specs.Once.{IsIn}
use Rattle.stack_law.proofs.Distinct.{in_either}
use Rattle.stack_law.proofs.Chains.{in_left, in_right}
use Rattle.sweep_visits.specs.Plan.{SweepPlan, dim_of, is_held, corner_numbers}
use Rattle.sweep_visits.specs.Runs.{turned_round, is_before, is_earlier, earlier, next_among, held_cell, held_at, held_round, previous_in_run}
use Rattle.sweep_visits.specs.Laws.{NextIsOfTheRun}
use Rattle.sweep_visits.proofs.Tests.{held_tells, held_told}

pub before_tells : (dir : Direction) (a b : ℕ) → is_before dir a b ≡ true → Later dir a b
before_tells Forward a b t = ltb-true a b t
before_tells Backward a b t = ltb-true b a t

pub before_told : (dir : Direction) (a b : ℕ) → Later dir a b → is_before dir a b ≡ true
before_told Forward a b t = lt-ltb a b t
before_told Backward a b t = lt-ltb b a t

not_both : (dir : Direction) (a b : ℕ) → Later dir a b → Later dir b a → ⊥
not_both Forward a b h k = absurd (omega arith)
not_both Backward a b h k = absurd (omega arith)

later_than : (dir : Direction) (a b c : ℕ) → (Later dir a b → ⊥) → Later dir a c → Later dir b c
later_than Forward a b c n h = ⊎_elim (λ l. absurd (n l)) (λ l. omega arith) (cases_lt a b)
later_than Backward a b c n h = ⊎_elim (λ l. absurd (n l)) (λ l. omega arith) (cases_lt b a)

same_place : (dir : Direction) (a b : ℕ) → (Later dir a b → ⊥) → (Later dir b a → ⊥) → a ≡ b
same_place Forward a b n k = ⊎_elim (λ l. absurd (n l)) (λ l. ⊎_elim (λ m. absurd (k m)) (λ m. omega arith) (cases_lt b a)) (cases_lt a b)
same_place Backward a b n k = ⊎_elim (λ l. absurd (k l)) (λ l. ⊎_elim (λ m. absurd (n m)) (λ m. omega arith) (cases_lt b a)) (cases_lt a b)

yes_or_no : (t : Bool) → t ≡ true → t ≡ false → ⊥
yes_or_no t e f = absurd (cc)

-- the first of the later cells of a list
module _ (dim : Dim) (dir : Direction) (c : CellKey) where
  abbrev comes : CellKey → CellKey → Type 0
  comes r q = Later dir (rank_of dim r) (rank_of dim q)

  abbrev NextIn : List CellKey → Option CellKey → Type 0
  NextIn qs None = (r : CellKey) → IsIn r qs → comes c r → ⊥
  NextIn qs (Some q) = IsIn q qs × comes c q × ((r : CellKey) → IsIn r qs → comes c r → comes r q → ⊥)

  tells : (r q : CellKey) → is_earlier dim dir r q ≡ true → comes r q
  tells r q t = before_tells dir (rank_of dim r) (rank_of dim q) t

  tells_not : (r q : CellKey) → is_earlier dim dir r q ≡ false → comes r q → ⊥
  tells_not r q f l = yes_or_no _ (before_told dir (rank_of dim r) (rank_of dim q) l) f

  itself : (q : CellKey) → comes q q → ⊥
  itself q h = not_both dir (rank_of dim q) (rank_of dim q) h h

  step : (q : CellKey) (qs : List CellKey) (t : Bool) → is_earlier dim dir c q ≡ t → (o : Option CellKey) → NextIn qs o → NextIn (q ∷ qs) (if t then earlier dim dir q o else o)
  step q qs false e None h = none
    where
      none : (r : CellKey) → IsIn r (q ∷ qs) → comes c r → ⊥
      none r (inl same) l = tells_not c q e (subst (comes c) same l)
      none r (inr k) l = h r k l
  step q qs false e (Some s) h = (inr h.0, h.1, others)
    where
      others : (r : CellKey) → IsIn r (q ∷ qs) → comes c r → comes r s → ⊥
      others r (inl same) l m = tells_not c q e (subst (comes c) same l)
      others r (inr k) l m = h.2 r k l m
  step q qs true e None h = (inl refl, tells c q e, others)
    where
      others : (r : CellKey) → IsIn r (q ∷ qs) → comes c r → comes r q → ⊥
      others r (inl same) l m = itself q (subst (λ x. comes x q) same m)
      others r (inr k) l m = h r k l
  step q qs true e (Some s) h = by (is_earlier dim dir s q) refl
    where
      before_first : is_earlier dim dir s q ≡ true → (r : CellKey) → IsIn r (q ∷ qs) → comes c r → comes r s → ⊥
      before_first f r (inl same) l m = not_both dir (rank_of dim q) (rank_of dim s) (subst (λ x. comes x s) same m) (tells s q f)
      before_first f r (inr k) l m = h.2 r k l m

      before_second : is_earlier dim dir s q ≡ false → (r : CellKey) → IsIn r (q ∷ qs) → comes c r → comes r q → ⊥
      before_second f r (inl same) l m = itself q (subst (λ x. comes x q) same m)
      before_second f r (inr k) l m = tells_not s q f (later_than dir (rank_of dim r) (rank_of dim s) (rank_of dim q) (h.2 r k l) m)

      by : (u : Bool) → is_earlier dim dir s q ≡ u → NextIn (q ∷ qs) (if u then Some s else Some q)
      by true f = (inr h.0, h.1, before_first f)
      by false f = (inl refl, tells c q e, before_second f)

  next_in : (qs : List CellKey) → NextIn qs (next_among dim dir c qs)
  next_in [] = λ r k l. k
  next_in (q ∷ qs) = step q qs (is_earlier dim dir c q) refl (next_among dim dir c qs) (next_in qs)

-- the numbers of corners are those below their count
number_in : (dim : Dim) (n : ℕ) → n < corners dim → IsIn n (corner_numbers dim)
number_in Two zero h = inl refl
number_in Two (suc zero) h = inr (inl refl)
number_in Two (suc (suc zero)) h = inr (inr (inl refl))
number_in Two (suc (suc (suc zero))) h = inr (inr (inr (inl refl)))
number_in Two (suc (suc (suc (suc n)))) h = absurd (omega arith)
number_in Three zero h = inl refl
number_in Three (suc zero) h = inr (inl refl)
number_in Three (suc (suc zero)) h = inr (inr (inl refl))
number_in Three (suc (suc (suc zero))) h = inr (inr (inr (inl refl)))
number_in Three (suc (suc (suc (suc zero)))) h = inr (inr (inr (inr (inl refl))))
number_in Three (suc (suc (suc (suc (suc zero))))) h = inr (inr (inr (inr (inr (inl refl)))))
number_in Three (suc (suc (suc (suc (suc (suc zero)))))) h = inr (inr (inr (inr (inr (inr (inl refl))))))
number_in Three (suc (suc (suc (suc (suc (suc (suc zero))))))) h = inr (inr (inr (inr (inr (inr (inr (inl refl)))))))
number_in Three (suc (suc (suc (suc (suc (suc (suc (suc n)))))))) h = absurd (omega arith)

-- the cells of the list are those of the run
module _ (p : SweepPlan) (v : VertexKey) where
  abbrev Member : CellKey → Type 0
  Member q = InRun (dim_of p) v p.range p.depth q

  one_held : (held : CellKey → Bool) (q : CellKey) (o : Option CellKey) → o ≡ Some q → held q ≡ true → IsIn q (held_cell held o)
  one_held held q o e h = rw (e, h) (inl refl)

  in_at : (q : CellKey) (n : ℕ) (ns : List ℕ) → IsIn n ns → adjacent_of (dim_of p) v n ≡ Some q → is_held p q ≡ true → IsIn q (held_at (dim_of p) (is_held p) v ns)
  in_at q n [] k e h = absurd k
  in_at q n (m ∷ ns) (inl same) e h = in_left (rank_of (dim_of p)) q _ _ (one_held (is_held p) q (adjacent_of (dim_of p) v m) (subst (λ k. adjacent_of (dim_of p) v k ≡ Some q) same e) h)
  in_at q n (m ∷ ns) (inr k) e h = in_right (rank_of (dim_of p)) q _ _ (in_at q n ns k e h)

  pub member_in : (q : CellKey) → Member q → IsIn q (held_round p v)
  member_in q m = in_at q (position (dim_of p) v q) (corner_numbers (dim_of p)) (number_in (dim_of p) _ (position_below (dim_of p) v q m.touches)) (at_position (dim_of p) v q m.cell m.touches) (held_told p q m.held)

  from_one : (q : CellKey) (o : Option CellKey) → IfSome o (λ r. IsCell (dim_of p) r × Touches r v) → IsIn q (held_cell (is_held p) o) → Member q
  from_one q None h k = absurd k
  from_one q (Some r) h k = by (is_held p r) refl k
    where
      by : (t : Bool) → is_held p r ≡ t → IsIn q (if t then r ∷ [] else []) → Member q
      by true e (inl same) = subst Member (sym same) (record { cell = h.0; touches = h.1; held = held_tells p r e })
      by true e (inr k) = absurd k
      by false e k = absurd k

  pub from_at : IsVertex (dim_of p) v → (q : CellKey) (ns : List ℕ) → IsIn q (held_at (dim_of p) (is_held p) v ns) → Member q
  from_at vertex q [] k = absurd k
  from_at vertex q (n ∷ ns) k = ⊎_elim (λ a. from_one q (adjacent_of (dim_of p) v n) (adjacent_touches (dim_of p) v n vertex) a) (λ b. from_at vertex q ns b) (in_either q (held_cell (is_held p) (adjacent_of (dim_of p) v n)) (held_at (dim_of p) (is_held p) v ns) k)

  module _ (vertex : IsVertex (dim_of p) v) (dir : Direction) (c : CellKey) (here : Member c) where
    pub along_is : MatchOption (next_among (dim_of p) dir c (held_round p v)) (IsLast dir (dim_of p) v p.range p.depth c) (λ q. Follows dir (dim_of p) v p.range p.depth c q)
    along_is = by (next_among (dim_of p) dir c (held_round p v)) (next_in (dim_of p) dir c (held_round p v))
      where
        by : (o : Option CellKey) → NextIn (dim_of p) dir c (held_round p v) o → MatchOption o (IsLast dir (dim_of p) v p.range p.depth c) (λ q. Follows dir (dim_of p) v p.range p.depth c q)
        by None h = λ q m l. h q (member_in q m) l
        by (Some q) h = record { before = here; after = from_at vertex q (corner_numbers (dim_of p)) h.0; later = h.1; none_between = λ r m l k. h.2 r (member_in r m) l k }

-- a cell has one follower
pub one_follower : (dir : Direction) (dim : Dim) (v : VertexKey) (r : Range) (depth : ℕ) (c q s : CellKey) → Follows dir dim v r depth c q → Follows dir dim v r depth c s → q ≡ s
one_follower dir dim v r depth c q s f g =
    ranks_tell_apart dim q s f.after.cell g.after.cell (f.after.touches.level ∙ sym g.after.touches.level)
    (same_place dir (rank_of dim q) (rank_of dim s) (λ l. g.none_between q f.after f.later l) (λ l. f.none_between s g.after g.later l))

pub later_turned : (dir : Direction) (a b : ℕ) → Later (turned_round dir) a b → Later dir b a
later_turned Forward a b l = l
later_turned Backward a b l = l

turned_later : (dir : Direction) (a b : ℕ) → Later dir b a → Later (turned_round dir) a b
turned_later Forward a b l = l
turned_later Backward a b l = l

pub follows_turned : (dir : Direction) (dim : Dim) (v : VertexKey) (r : Range) (depth : ℕ) (c q : CellKey) → Follows (turned_round dir) dim v r depth c q → Follows dir dim v r depth q c
follows_turned dir dim v r depth c q f = record { before = f.after; after = f.before; later = later_turned dir _ _ f.later; none_between = λ s m l k. f.none_between s m (turned_later dir _ _ k) (turned_later dir _ _ l) }

pub turned_follows : (dir : Direction) (dim : Dim) (v : VertexKey) (r : Range) (depth : ℕ) (c q : CellKey) → Follows dir dim v r depth q c → Follows (turned_round dir) dim v r depth c q
turned_follows dir dim v r depth c q f = record { before = f.after; after = f.before; later = turned_later dir _ _ f.later; none_between = λ s m l k. f.none_between s m (later_turned dir _ _ k) (later_turned dir _ _ l) }

pub next_is_of_the_run : NextIsOfTheRun
next_is_of_the_run p v c vertex here = (along_is p v vertex p.dir c here, by (previous_in_run p v c) (along_is p v vertex (turned_round p.dir) c here))
  where
    by : (o : Option CellKey) → MatchOption o (IsLast (turned_round p.dir) (dim_of p) v p.range p.depth c) (λ q. Follows (turned_round p.dir) (dim_of p) v p.range p.depth c q) → MatchOption o (IsFirst p.dir (dim_of p) v p.range p.depth c) (λ q. Follows p.dir (dim_of p) v p.range p.depth q c)
    by None h = λ q m l. h q m (turned_later p.dir _ _ l)
    by (Some q) h = follows_turned p.dir (dim_of p) v p.range p.depth c q h

-- the function from the relation
module _ (p : SweepPlan) (v : VertexKey) (vertex : IsVertex (dim_of p) v) (dir : Direction) (c : CellKey) (here : InRun (dim_of p) v p.range p.depth c) where
  pub next_told : (q : CellKey) → Follows dir (dim_of p) v p.range p.depth c q → next_among (dim_of p) dir c (held_round p v) ≡ Some q
  next_told q f = by (next_among (dim_of p) dir c (held_round p v)) (along_is p v vertex dir c here)
    where
      by : (o : Option CellKey) → MatchOption o (IsLast dir (dim_of p) v p.range p.depth c) (λ q. Follows dir (dim_of p) v p.range p.depth c q) → o ≡ Some q
      by None h = absurd (h q f.after f.later)
      by (Some s) h = ap Some (one_follower dir (dim_of p) v p.range p.depth c s q h f)

  pub none_told : IsLast dir (dim_of p) v p.range p.depth c → next_among (dim_of p) dir c (held_round p v) ≡ None
  none_told last = by (next_among (dim_of p) dir c (held_round p v)) (along_is p v vertex dir c here)
    where
      by : (o : Option CellKey) → MatchOption o (IsLast dir (dim_of p) v p.range p.depth c) (λ q. Follows dir (dim_of p) v p.range p.depth c q) → o ≡ None
      by None h = refl
      by (Some s) h = absurd (last s h.after h.later)
