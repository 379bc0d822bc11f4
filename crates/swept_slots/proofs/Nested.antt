-- Between the leave of a centre child and that of its parent no other centre child of the level is left.
use Rattle.std.proofs.Common.{◌≡◌, ◌≢◌, ◌⊎◌, ℕ, zero, suc, ◌+◌, ◌<◌, ◌≤◌, ◌==◌, ◌&&◌, Bool, true, false, if◌then◌else◌, List, [], ◌∷◌, ◌++◌, Option, Some, refl, ap, sym, ◌∙◌, subst, inl, inr, ⊎_elim, arith, append-nil, eq-eqb, ne_eqb}
use Rattle.std.proofs.lemmas.Bool.{cases_lt}
use Rattle.peano_keys.specs.declared.cell.CellKey.{CellKey}
use Rattle.peano_keys.specs.declared.dim.Dim.{Dim}
use Rattle.peano_keys.specs.Dim.{children}
use Rattle.peano_curve.specs.declared.order.Direction.{Direction}
use Rattle.peano_curve.specs.Order.{child_along}
use Rattle.tree_automaton.proofs.Visited.{child_level}
use Rattle.sweep_visits.specs.Visits.{Visit, enter, leave, from_child, visits_at}

-- where an item of two lists is
split_at : {A : Type 0} (xs ys b : List A) (x : A) (a : List A) → xs ++ ys ≡ b ++ x ∷ a → ((c : List A) × (xs ≡ b ++ x ∷ c)) ⊎ ((c : List A) × (b ≡ xs ++ c) × (ys ≡ c ++ x ∷ a))
split_at [] ys b x a e = inr (b, refl, e)
split_at (z ∷ xs) ys [] x a e = let h : z ≡ x = cc in inl (xs, ap (λ w. w ∷ xs) h)
split_at (z ∷ xs) ys (w ∷ b) x a e =
    let h : z ≡ w = cc in
    let t : xs ++ ys ≡ b ++ x ∷ a = cc in
    ⊎_elim
    (λ s. inl (s.0, ap (λ v. v ∷ xs) h ∙ ap (λ l. w ∷ l) s.1))
    (λ s. inr (s.0, ap (λ v. v ∷ b) (sym h) ∙ ap (λ l. z ∷ l) s.1, s.2))
    (split_at xs ys b x a t)

module _ (centre : CellKey → Bool) (l : ℕ) where
  -- the last cell of a level that passes a test, of those that are left, or one from before
  abbrev pub left_one : CellKey → Option CellKey → Option CellKey
  left_one c o = if (c.level == l) && centre c then Some c else o

  abbrev pub last_left : Option CellKey → List Visit → Option CellKey
  last_left o [] = o
  last_left o (enter c ∷ vs) = last_left o vs
  last_left o (leave c ∷ vs) = last_left (left_one c o) vs

  pub last_append : (o : Option CellKey) (vs ws : List Visit) → last_left o (vs ++ ws) ≡ last_left (last_left o vs) ws
  last_append o [] ws = refl
  last_append o (enter c ∷ vs) ws = last_append o vs ws
  last_append o (leave c ∷ vs) ws = last_append (left_one c o) vs ws

  pub other_level : (c : CellKey) (o : Option CellKey) → c.level ≢ l → left_one c o ≡ o
  other_level c o apart = ap (λ b. if b && centre c then Some c else o) (ne_eqb c.level l apart)

  pub its_level : (c : CellKey) (o : Option CellKey) (b : Bool) → c.level ≡ l → centre c ≡ b → left_one c o ≡ (if b then Some c else o)
  its_level c o b level is = ap (λ x. if x && centre c then Some c else o) (eq-eqb c.level l level) ∙ ap (λ x. if x then Some c else o) is

module _ (dim : Dim) (dir : Direction) (visited opened centre : CellKey → Bool) where
  abbrev at : ℕ → CellKey → List Visit
  at levels c = visits_at dim dir visited opened levels c

  -- visits that keep what was last, child by child
  each_keeps : (l : ℕ) (each : CellKey → List Visit) (c : CellKey) → ((k : ℕ) (o : Option CellKey) → last_left centre l o (each (child_along dir dim c k)) ≡ o) → (k more : ℕ) (o : Option CellKey) → last_left centre l o (from_child dim dir each c k more) ≡ o
  each_keeps l each c keep k zero o = refl
  each_keeps l each c keep k (suc more) o = last_append centre l o (each (child_along dir dim c k)) (from_child dim dir each c (k + 1) more) ∙ (ap (λ x. last_left centre l x (from_child dim dir each c (k + 1) more)) (keep k o) ∙ each_keeps l each c keep (k + 1) more o)

  -- what lies below a level is of deeper levels
  below_keeps : (l levels : ℕ) (c : CellKey) → l < c.level → (o : Option CellKey) → last_left centre l o (at levels c) ≡ o
  below_keeps l zero c deeper o = by (visited c)
    where
      by : (b : Bool) → last_left centre l o (if b then enter c ∷ leave c ∷ [] else []) ≡ o
      by true = other_level centre l c o (λ e. absurd (omega (arith, e, deeper)))
      by false = refl
  below_keeps l (suc levels) c deeper o = by (λ k x. below_keeps l levels (child_along dir dim c k) (omega (arith, deeper, child_level dir dim c k)) x) (visited c) (opened c)
    where
      by : ((k : ℕ) (x : Option CellKey) → last_left centre l x (at levels (child_along dir dim c k)) ≡ x) → (b p : Bool) → last_left centre l o (if b then enter c ∷ ((if p then from_child dim dir (at levels) c 0 (children dim) else []) ++ leave c ∷ []) else []) ≡ o
      by below true true = last_append centre l o (from_child dim dir (at levels) c 0 (children dim)) (leave c ∷ []) ∙ (other_level centre l c _ (λ e. absurd (omega (arith, e, deeper))) ∙ each_keeps l (at levels) c below 0 (children dim) o)
      by below true false = other_level centre l c o (λ e. absurd (omega (arith, e, deeper)))
      by below false p = refl

  -- of its own level a cell leaves itself, where it passes the test
  itself_left : (levels : ℕ) (c : CellKey) (o : Option CellKey) (b p : Bool) → visited c ≡ b → centre c ≡ p → last_left centre c.level o (at levels c) ≡ (if b then (if p then Some c else o) else o)
  itself_left zero c o true p v e = ap (λ x. last_left centre c.level o (if x then enter c ∷ leave c ∷ [] else [])) v ∙ its_level centre c.level c o p refl e
  itself_left zero c o false p v e = ap (λ x. last_left centre c.level o (if x then enter c ∷ leave c ∷ [] else [])) v
  itself_left (suc levels) c o false p v e = ap (λ x. last_left centre c.level o (if x then enter c ∷ ((if opened c then from_child dim dir (at levels) c 0 (children dim) else []) ++ leave c ∷ []) else [])) v
  itself_left (suc levels) c o true p v e = ap (λ x. last_left centre c.level o (if x then enter c ∷ ((if opened c then from_child dim dir (at levels) c 0 (children dim) else []) ++ leave c ∷ []) else [])) v ∙ by (opened c)
    where
      by : (q : Bool) → last_left centre c.level o ((if q then from_child dim dir (at levels) c 0 (children dim) else []) ++ leave c ∷ []) ≡ (if p then Some c else o)
      by true = last_append centre c.level o (from_child dim dir (at levels) c 0 (children dim)) (leave c ∷ [])
          ∙ (ap (λ x. left_one centre c.level c x) (each_keeps c.level (at levels) c (λ k x. below_keeps c.level levels (child_along dir dim c k) (omega (arith, child_level dir dim c k)) x) 0 (children dim) o) ∙ its_level centre c.level c o p refl e)
      by false = its_level centre c.level c o p refl e

  -- a cell that is opened has one child that passes the test, which is visited
  pub record HasCentre (p m : CellKey) : Type 0 where
    pub opens : opened p ≡ true
    pub place : ℕ
    pub inside : place < children dim
    pub child : child_along dir dim p place ≡ m
    pub there : visited m ≡ true
    pub is_centre : centre m ≡ true
    pub others : (k : ℕ) → k < children dim → centre (child_along dir dim p k) ≡ true → child_along dir dim p k ≡ m

  module _ (levels : ℕ) (p m : CellKey) (has : HasCentre p m) where
    -- a child that passes is that one
    one_child : (k : ℕ) → k < children dim → (o : Option CellKey) → o ≡ Some m → last_left centre (p.level + 1) o (at levels (child_along dir dim p k)) ≡ Some m
    one_child k below o is = subst (λ n. last_left centre n o (at levels c) ≡ Some m) (child_level dir dim p k) (itself_left levels c o (visited c) (centre c) refl refl ∙ by (visited c) (centre c) refl)
      where
        c : CellKey
        c = child_along dir dim p k

        by : (b q : Bool) → centre (child_along dir dim p k) ≡ q → (if b then (if q then Some (child_along dir dim p k) else o) else o) ≡ Some m
        by true true e = ap Some (has.others k below e)
        by true false e = is
        by false q e = is

    -- so from then on it stays
    centre_stays : (k more : ℕ) (o : Option CellKey) → k + more ≤ children dim → o ≡ Some m → last_left centre (p.level + 1) o (from_child dim dir (at levels) p k more) ≡ Some m
    centre_stays k zero o within is = is
    centre_stays k (suc more) o within is =
        last_append centre (p.level + 1) o (at levels (child_along dir dim p k)) (from_child dim dir (at levels) p (k + 1) more)
        ∙ centre_stays (k + 1) more (last_left centre (p.level + 1) o (at levels (child_along dir dim p k))) (omega (arith, within)) (one_child k (omega (arith, within)) o is)

    -- once it was left
    centre_left : (k more : ℕ) (o : Option CellKey) → k + more ≤ children dim → k ≤ has.place → has.place < k + more → last_left centre (p.level + 1) o (from_child dim dir (at levels) p k more) ≡ Some m
    centre_left k zero o within low high = absurd (omega (arith, low, high))
    centre_left k (suc more) o within low high =
        last_append centre (p.level + 1) o (at levels (child_along dir dim p k)) (from_child dim dir (at levels) p (k + 1) more)
        ∙ ⊎_elim
        (λ less. centre_left (k + 1) more (last_left centre (p.level + 1) o (at levels (child_along dir dim p k))) (omega (arith, within)) (omega (arith, less)) (omega (arith, high)))
        (λ least. let e : has.place ≡ k = omega (arith, low, least) in centre_stays (k + 1) more (last_left centre (p.level + 1) o (at levels (child_along dir dim p k))) (omega (arith, within)) (found e))
        (cases_lt k has.place)
      where
        found : has.place ≡ k → last_left centre (p.level + 1) o (at levels (child_along dir dim p k)) ≡ Some m
        found e =
            let is : child_along dir dim p k ≡ m = ap (child_along dir dim p) (sym e) ∙ has.child in
            let level : m.level ≡ p.level + 1 = ap (λ (c : CellKey). c.level) (sym is) ∙ child_level dir dim p k in
            subst (λ c. last_left centre (p.level + 1) o (at levels c) ≡ Some m) (sym is) (subst (λ n. last_left centre n o (at levels m) ≡ Some m) level (itself_left levels m o true true has.there has.is_centre))

  nothing_in : (b : List Visit) (v : Visit) (a : List Visit) → [] ≡ b ++ v ∷ a → ⊥
  nothing_in [] v a e = cc
  nothing_in (w ∷ b) v a e = cc

  module _ (p m : CellKey) (has : HasCentre p m) where
    abbrev Found : List Visit → Type 0
    Found before = (o : Option CellKey) → last_left centre (p.level + 1) o before ≡ Some m

    -- a leave among those of children
    in_children : (levels : ℕ) (c : CellKey) → ((k : ℕ) (before after : List Visit) → at levels (child_along dir dim c k) ≡ before ++ leave p ∷ after → Found before) → (k more : ℕ) (before after : List Visit) → from_child dim dir (at levels) c k more ≡ before ++ leave p ∷ after → Found before
    in_children levels c each k zero before after e = absurd (nothing_in before (leave p) after e)
    in_children levels c each k (suc more) before after e = ⊎_elim
        (λ s o. each k before s.0 s.1 o)
        (λ s o. ap (last_left centre (p.level + 1) o) s.1 ∙ (last_append centre (p.level + 1) o (at levels (child_along dir dim c k)) s.0 ∙ in_children levels c each (k + 1) more s.0 after s.2 (last_left centre (p.level + 1) o (at levels (child_along dir dim c k)))))
        (split_at (at levels (child_along dir dim c k)) (from_child dim dir (at levels) c (k + 1) more) before (leave p) after e)

    only_itself : (c : CellKey) (b : Bool) (before after : List Visit) → (if b then enter c ∷ leave c ∷ [] else []) ≡ before ++ leave p ∷ after → c ≡ p
    only_itself c false before after e = absurd (nothing_in before (leave p) after e)
    only_itself c true [] after e = absurd (cc)
    only_itself c true (v ∷ []) after e = cc
    only_itself c true (v ∷ w ∷ before) after e = let h : [] ≡ before ++ leave p ∷ after = cc in absurd (nothing_in before (leave p) after h)

    last_one : (c : CellKey) (d after : List Visit) → leave c ∷ [] ≡ d ++ leave p ∷ after → (c ≡ p) × (d ≡ [])
    last_one c [] after e = let h : c ≡ p = cc in (h, refl)
    last_one c (w ∷ d) after e = let h : [] ≡ d ++ leave p ∷ after = cc in absurd (nothing_in d (leave p) after h)

    -- at the leave of an opened cell the last centre child of the level below was its own
    pub nested : (depth levels : ℕ) (c : CellKey) → c.level + levels ≡ depth → ((q : CellKey) → opened q ≡ true → q.level < depth) → (before after : List Visit) → at levels c ≡ before ++ leave p ∷ after → Found before
    nested depth zero c level opens before after e = let same : c ≡ p = only_itself c (visited c) before after e in absurd (omega (arith, level, opens c (subst (λ q. opened q ≡ true) (sym same) has.opens)))
    nested depth (suc levels) c level opens before after e = by (λ k b a is. nested depth levels (child_along dir dim c k) (omega (arith, level, child_level dir dim c k)) opens b a is) (visited c) before e
      where
        no_both : false ≡ true → ⊥
        no_both h = cc

        inside : ((k : ℕ) (b a : List Visit) → at levels (child_along dir dim c k) ≡ b ++ leave p ∷ a → Found b) → (q : Bool) → opened c ≡ q → (b : List Visit) → (if q then from_child dim dir (at levels) c 0 (children dim) else []) ++ leave c ∷ [] ≡ b ++ leave p ∷ after → Found b
        inside each true is b h = ⊎_elim
            (λ s. in_children levels c each 0 (children dim) b s.0 s.1)
            (λ s.
            let own = last_one c s.0 after s.2 in
            let all : b ≡ from_child dim dir (at levels) p 0 (children dim) = s.1 ∙ (ap (λ d. from_child dim dir (at levels) c 0 (children dim) ++ d) own.1 ∙ (append-nil (from_child dim dir (at levels) c 0 (children dim)) ∙ ap (λ q. from_child dim dir (at levels) q 0 (children dim)) own.0)) in
            λ o. ap (last_left centre (p.level + 1) o) all ∙ centre_left levels p m has 0 (children dim) o (omega arith) (omega arith) (omega (arith, has.inside)))
            (split_at (from_child dim dir (at levels) c 0 (children dim)) (leave c ∷ []) b (leave p) after h)
        inside each false is b h = let own = last_one c b after h in absurd (no_both (sym is ∙ subst (λ q. opened q ≡ true) (sym own.0) has.opens))

        by : ((k : ℕ) (b a : List Visit) → at levels (child_along dir dim c k) ≡ b ++ leave p ∷ a → Found b) → (b : Bool) (before : List Visit) → (if b then enter c ∷ ((if opened c then from_child dim dir (at levels) c 0 (children dim) else []) ++ leave c ∷ []) else []) ≡ before ++ leave p ∷ after → Found before
        by each false before h = absurd (nothing_in before (leave p) after h)
        by each true [] h = absurd (cc)
        by each true (v ∷ b) h =
            let first : v ≡ enter c = cc in
            let rest : (if opened c then from_child dim dir (at levels) c 0 (children dim) else []) ++ leave c ∷ [] ≡ b ++ leave p ∷ after = cc in
            λ o. ap (λ x. last_left centre (p.level + 1) o (x ∷ b)) first ∙ inside each (opened c) refl b rest o
