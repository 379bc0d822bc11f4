-- One sum a level, cleared as a cell of the level above is entered: at the leave of a cell that of the level below is the sum over its children.
use Rattle.std.proofs.Common.{◌≡◌, ◌≢◌, ◌⊎◌, ℕ, zero, suc, ◌+◌, ◌<◌, ◌==◌, Bool, true, false, if◌then◌else◌, List, [], ◌∷◌, ◌++◌, refl, ap, sym, ◌∙◌, subst, inl, inr, ⊎_elim, arith, append-nil, eq-eqb, ne_eqb}
use Rattle.std.specs.Prelude.{ℤ, pos, ◌+ℤ◌}
use Rattle.std.proofs.lemmas.Int.{ints}
use Rattle.peano_keys.specs.declared.cell.CellKey.{CellKey}
use Rattle.peano_keys.specs.declared.dim.Dim.{Dim}
use Rattle.peano_keys.specs.Dim.{children}
use Rattle.peano_curve.specs.declared.order.Direction.{Direction}
use Rattle.peano_curve.specs.Order.{child_along}
use Rattle.tree_automaton.proofs.Visited.{child_level}
use Rattle.sweep_visits.specs.Visits.{Visit, enter, leave, from_child, visits_at}
use Rattle.peano_keys.specs.Sums.{over_first}

-- where an item of two lists is
split_at : {A : Type 0} (xs ys b : List A) (x : A) (a : List A) → xs ++ ys ≡ b ++ x ∷ a → ((c : List A) × (xs ≡ b ++ x ∷ c)) ⊎ ((c : List A) × (b ≡ xs ++ c) × (ys ≡ c ++ x ∷ a))
split_at [] ys b x a e = inr (b, refl, e)
split_at (z ∷ xs) ys [] x a e = let h : z ≡ x = cc in inl (xs, ap (λ w. w ∷ xs) h)
split_at (z ∷ xs) ys (w ∷ b) x a e =
    let h : z ≡ w = cc in
    let t : xs ++ ys ≡ b ++ x ∷ a = cc in
    ⊎_elim
    (λ s. inl (s.0, ap (λ v. v ∷ xs) h ∙ ap (λ l. w ∷ l) s.1))
    (λ s. inr (s.0, ap (λ v. v ∷ b) (sym h) ∙ ap (λ l. z ∷ l) s.1, s.2))
    (split_at xs ys b x a t)

more_last : (a b : ℤ) → a +ℤ b ≡ b +ℤ a
more_last a b = omega (arith, ints)

none_more : (a : ℤ) → a +ℤ pos 0 ≡ a
none_more a = omega (arith, ints)

module _ (told : CellKey → ℤ) (l : ℕ) where
  -- the sum of a level after the enter of a cell, after the leave of one, and after some visits
  abbrev pub sum_entered : CellKey → ℤ → ℤ
  sum_entered c z = if c.level + 1 == l then pos 0 else z

  abbrev pub sum_left : CellKey → ℤ → ℤ
  sum_left c z = if c.level == l then z +ℤ told c else z

  abbrev pub sum_after : ℤ → List Visit → ℤ
  sum_after z [] = z
  sum_after z (enter c ∷ vs) = sum_after (sum_entered c z) vs
  sum_after z (leave c ∷ vs) = sum_after (sum_left c z) vs

  pub sum_append : (z : ℤ) (vs ws : List Visit) → sum_after z (vs ++ ws) ≡ sum_after (sum_after z vs) ws
  sum_append z [] ws = refl
  sum_append z (enter c ∷ vs) ws = sum_append (sum_entered c z) vs ws
  sum_append z (leave c ∷ vs) ws = sum_append (sum_left c z) vs ws

  pub entered_here : (c : CellKey) (z : ℤ) → c.level + 1 ≡ l → sum_entered c z ≡ pos 0
  entered_here c z e = ap (λ b. if b then pos 0 else z) (eq-eqb (c.level + 1) l e)

  pub entered_there : (c : CellKey) (z : ℤ) → c.level + 1 ≢ l → sum_entered c z ≡ z
  entered_there c z apart = ap (λ b. if b then pos 0 else z) (ne_eqb (c.level + 1) l apart)

  pub left_here : (c : CellKey) (z : ℤ) → c.level ≡ l → sum_left c z ≡ z +ℤ told c
  left_here c z e = ap (λ b. if b then z +ℤ told c else z) (eq-eqb c.level l e)

  pub left_there : (c : CellKey) (z : ℤ) → c.level ≢ l → sum_left c z ≡ z
  left_there c z apart = ap (λ b. if b then z +ℤ told c else z) (ne_eqb c.level l apart)

module _ (dim : Dim) (dir : Direction) (visited opened : CellKey → Bool) (told : CellKey → ℤ) where
  abbrev at : ℕ → CellKey → List Visit
  at levels c = visits_at dim dir visited opened levels c

  -- what a cell gives: what it tells, where it is visited
  abbrev pub given : CellKey → ℤ
  given c = if visited c then told c else pos 0

  -- what lies below a level is of deeper levels
  each_keeps : (l : ℕ) (each : CellKey → List Visit) (c : CellKey) → ((k : ℕ) (z : ℤ) → sum_after told l z (each (child_along dir dim c k)) ≡ z) → (k more : ℕ) (z : ℤ) → sum_after told l z (from_child dim dir each c k more) ≡ z
  each_keeps l each c keep k zero z = refl
  each_keeps l each c keep k (suc more) z = sum_append told l z (each (child_along dir dim c k)) (from_child dim dir each c (k + 1) more) ∙ (ap (λ x. sum_after told l x (from_child dim dir each c (k + 1) more)) (keep k z) ∙ each_keeps l each c keep (k + 1) more z)

  both_keep : (l : ℕ) (c : CellKey) → l < c.level → (z : ℤ) → (sum_entered told l c z ≡ z) × (sum_left told l c z ≡ z)
  both_keep l c deeper z = (entered_there told l c z (λ e. absurd (omega (arith, e, deeper))), left_there told l c z (λ e. absurd (omega (arith, e, deeper))))

  below_keeps : (l levels : ℕ) (c : CellKey) → l < c.level → (z : ℤ) → sum_after told l z (at levels c) ≡ z
  below_keeps l zero c deeper z = by (visited c)
    where
      by : (b : Bool) → sum_after told l z (if b then enter c ∷ leave c ∷ [] else []) ≡ z
      by true = (both_keep l c deeper (sum_entered told l c z)).1 ∙ (both_keep l c deeper z).0
      by false = refl
  below_keeps l (suc levels) c deeper z = by (λ k x. below_keeps l levels (child_along dir dim c k) (omega (arith, deeper, child_level dir dim c k)) x) (visited c) (opened c)
    where
      by : ((k : ℕ) (x : ℤ) → sum_after told l x (at levels (child_along dir dim c k)) ≡ x) → (b p : Bool) → sum_after told l z (if b then enter c ∷ ((if p then from_child dim dir (at levels) c 0 (children dim) else []) ++ leave c ∷ []) else []) ≡ z
      by below true true = sum_append told l (sum_entered told l c z) (from_child dim dir (at levels) c 0 (children dim)) (leave c ∷ []) ∙ ((both_keep l c deeper _).1 ∙ (each_keeps l (at levels) c below 0 (children dim) (sum_entered told l c z) ∙ (both_keep l c deeper z).0))
      by below true false = (both_keep l c deeper (sum_entered told l c z)).1 ∙ (both_keep l c deeper z).0
      by below false p = refl

  -- to its own level a cell adds what it gives
  own_enter : (c : CellKey) (z : ℤ) → sum_entered told c.level c z ≡ z
  own_enter c z = entered_there told c.level c z (λ e. absurd (omega (arith, e)))

  own_leave : (c : CellKey) (z : ℤ) → sum_left told c.level c z ≡ z +ℤ told c
  own_leave c z = left_here told c.level c z refl

  itself_adds : (levels : ℕ) (c : CellKey) (z : ℤ) → sum_after told c.level z (at levels c) ≡ z +ℤ given c
  itself_adds zero c z = by (visited c)
    where
      by : (b : Bool) → sum_after told c.level z (if b then enter c ∷ leave c ∷ [] else []) ≡ z +ℤ (if b then told c else pos 0)
      by true = own_leave c (sum_entered told c.level c z) ∙ ap (λ x. x +ℤ told c) (own_enter c z)
      by false = sym (none_more z)
  itself_adds (suc levels) c z = by (visited c) (opened c)
    where
      below : (x : ℤ) → sum_after told c.level x (from_child dim dir (at levels) c 0 (children dim)) ≡ x
      below x = each_keeps c.level (at levels) c (λ k y. below_keeps c.level levels (child_along dir dim c k) (omega (arith, child_level dir dim c k)) y) 0 (children dim) x

      by : (b p : Bool) → sum_after told c.level z (if b then enter c ∷ ((if p then from_child dim dir (at levels) c 0 (children dim) else []) ++ leave c ∷ []) else []) ≡ z +ℤ (if b then told c else pos 0)
      by true true = sum_append told c.level (sum_entered told c.level c z) (from_child dim dir (at levels) c 0 (children dim)) (leave c ∷ []) ∙ (own_leave c _ ∙ ap (λ x. x +ℤ told c) (below (sum_entered told c.level c z) ∙ own_enter c z))
      by true false = own_leave c (sum_entered told c.level c z) ∙ ap (λ x. x +ℤ told c) (own_enter c z)
      by false p = sym (none_more z)

  module _ (p : CellKey) where
    -- what the child at a place gives
    abbrev pub child_gives : ℕ → ℤ
    child_gives k = given (child_along dir dim p k)

    -- children add up, one after another
    children_add : (levels k more : ℕ) → sum_after told (p.level + 1) (over_first k child_gives) (from_child dim dir (at levels) p k more) ≡ over_first (k + more) child_gives
    children_add levels k zero = let e : k ≡ k + 0 = omega arith in ap (λ n. over_first n child_gives) e
    children_add levels k (suc more) =
        let one : sum_after told (p.level + 1) (over_first k child_gives) (at levels (child_along dir dim p k)) ≡ over_first (suc k) child_gives = subst (λ n. sum_after told n (over_first k child_gives) (at levels (child_along dir dim p k)) ≡ over_first (suc k) child_gives) (child_level dir dim p k) (itself_adds levels (child_along dir dim p k) (over_first k child_gives) ∙ more_last (over_first k child_gives) (child_gives k)) in
        let e : k + 1 ≡ suc k = omega arith in
        let f : suc k + more ≡ k + suc more = omega arith in
        sum_append told (p.level + 1) (over_first k child_gives) (at levels (child_along dir dim p k)) (from_child dim dir (at levels) p (k + 1) more)
        ∙ (ap (λ x. sum_after told (p.level + 1) x (from_child dim dir (at levels) p (k + 1) more)) one
        ∙ (ap (λ n. sum_after told (p.level + 1) (over_first (suc k) child_gives) (from_child dim dir (at levels) p n more)) e
        ∙ (children_add levels (suc k) more ∙ ap (λ n. over_first n child_gives) f)))

    abbrev pub Found : List Visit → Type 0
    Found before = (z : ℤ) → sum_after told (p.level + 1) z before ≡ over_first (children dim) child_gives

    nothing_in : (b : List Visit) (v : Visit) (a : List Visit) → [] ≡ b ++ v ∷ a → ⊥
    nothing_in [] v a e = cc
    nothing_in (w ∷ b) v a e = cc

    -- a leave among those of children
    in_children : (levels : ℕ) (c : CellKey) → ((k : ℕ) (before after : List Visit) → at levels (child_along dir dim c k) ≡ before ++ leave p ∷ after → Found before) → (k more : ℕ) (before after : List Visit) → from_child dim dir (at levels) c k more ≡ before ++ leave p ∷ after → Found before
    in_children levels c each k zero before after e = absurd (nothing_in before (leave p) after e)
    in_children levels c each k (suc more) before after e = ⊎_elim
        (λ s z. each k before s.0 s.1 z)
        (λ s z. ap (sum_after told (p.level + 1) z) s.1 ∙ (sum_append told (p.level + 1) z (at levels (child_along dir dim c k)) s.0 ∙ in_children levels c each (k + 1) more s.0 after s.2 (sum_after told (p.level + 1) z (at levels (child_along dir dim c k)))))
        (split_at (at levels (child_along dir dim c k)) (from_child dim dir (at levels) c (k + 1) more) before (leave p) after e)

    only_itself : (c : CellKey) (b : Bool) (before after : List Visit) → (if b then enter c ∷ leave c ∷ [] else []) ≡ before ++ leave p ∷ after → c ≡ p
    only_itself c false before after e = absurd (nothing_in before (leave p) after e)
    only_itself c true [] after e = absurd (cc)
    only_itself c true (v ∷ []) after e = cc
    only_itself c true (v ∷ w ∷ before) after e = let h : [] ≡ before ++ leave p ∷ after = cc in absurd (nothing_in before (leave p) after h)

    last_one : (c : CellKey) (d after : List Visit) → leave c ∷ [] ≡ d ++ leave p ∷ after → (c ≡ p) × (d ≡ [])
    last_one c [] after e = let h : c ≡ p = cc in (h, refl)
    last_one c (w ∷ d) after e = let h : [] ≡ d ++ leave p ∷ after = cc in absurd (nothing_in d (leave p) after h)

    -- at the leave of an opened cell the sum of the level below is that over its children
    pub sum_nested : opened p ≡ true → (depth levels : ℕ) (c : CellKey) → c.level + levels ≡ depth → ((q : CellKey) → opened q ≡ true → q.level < depth) → (before after : List Visit) → at levels c ≡ before ++ leave p ∷ after → Found before
    sum_nested opens depth zero c level deep before after e = let same : c ≡ p = only_itself c (visited c) before after e in absurd (omega (arith, level, deep c (subst (λ q. opened q ≡ true) (sym same) opens)))
    sum_nested opens depth (suc levels) c level deep before after e = by (λ k b a is. sum_nested opens depth levels (child_along dir dim c k) (omega (arith, level, child_level dir dim c k)) deep b a is) (visited c) before e
      where
        no_both : false ≡ true → ⊥
        no_both h = cc

        -- behind the enter of the cell
        inside : ((k : ℕ) (b a : List Visit) → at levels (child_along dir dim c k) ≡ b ++ leave p ∷ a → Found b) → (q : Bool) → opened c ≡ q → (b : List Visit) → (if q then from_child dim dir (at levels) c 0 (children dim) else []) ++ leave c ∷ [] ≡ b ++ leave p ∷ after → (z : ℤ) → sum_after told (p.level + 1) (sum_entered told (p.level + 1) c z) b ≡ over_first (children dim) child_gives
        inside each true is b h z = ⊎_elim
            (λ s. in_children levels c each 0 (children dim) b s.0 s.1 (sum_entered told (p.level + 1) c z))
            (λ s.
            let own = last_one c s.0 after s.2 in
            let all : b ≡ from_child dim dir (at levels) p 0 (children dim) = s.1 ∙ (ap (λ d. from_child dim dir (at levels) c 0 (children dim) ++ d) own.1 ∙ (append-nil (from_child dim dir (at levels) c 0 (children dim)) ∙ ap (λ q. from_child dim dir (at levels) q 0 (children dim)) own.0)) in
            let clear : sum_entered told (p.level + 1) c z ≡ pos 0 = entered_here told (p.level + 1) c z (ap (λ (q : CellKey). q.level + 1) own.0) in
            ap (sum_after told (p.level + 1) (sum_entered told (p.level + 1) c z)) all
            ∙ (ap (λ x. sum_after told (p.level + 1) x (from_child dim dir (at levels) p 0 (children dim))) clear
            ∙ children_total levels))
            (split_at (from_child dim dir (at levels) c 0 (children dim)) (leave c ∷ []) b (leave p) after h)
          where
            children_total : (n : ℕ) → sum_after told (p.level + 1) (pos 0) (from_child dim dir (at n) p 0 (children dim)) ≡ over_first (children dim) child_gives
            children_total n = let e : 0 + children dim ≡ children dim = omega arith in children_add n 0 (children dim) ∙ ap (λ m. over_first m child_gives) e
        inside each false is b h z = let own = last_one c b after h in absurd (no_both (sym is ∙ subst (λ q. opened q ≡ true) (sym own.0) opens))

        by : ((k : ℕ) (b a : List Visit) → at levels (child_along dir dim c k) ≡ b ++ leave p ∷ a → Found b) → (b : Bool) (before : List Visit) → (if b then enter c ∷ ((if opened c then from_child dim dir (at levels) c 0 (children dim) else []) ++ leave c ∷ []) else []) ≡ before ++ leave p ∷ after → Found before
        by each false before h = absurd (nothing_in before (leave p) after h)
        by each true [] h = absurd (cc)
        by each true (v ∷ b) h =
            let first : v ≡ enter c = cc in
            let rest : (if opened c then from_child dim dir (at levels) c 0 (children dim) else []) ++ leave c ∷ [] ≡ b ++ leave p ∷ after = cc in
            λ z. ap (λ x. sum_after told (p.level + 1) z (x ∷ b)) first ∙ inside each (opened c) refl b rest z
