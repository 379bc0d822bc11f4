-- Which trees hold a position round a vertex, and which own it, by tests.
use Rattle.std.proofs.Common.{◌≡◌, ◌≢◌, inl, inr, ⊎_elim, ℕ, zero, suc, ◌<◌, ◌==◌, ◌&&◌, ◌||◌, Bool, true, false, not, min, max, if◌then◌else◌, nat_lt, List, [], ◌∷◌, Option, Some, None, refl, sym, ap, ◌∙◌, arith, eq-eqb}
use Rattle.std.specs.List.{list_any}
use Rattle.std.proofs.lemmas.Bool.{false≢true, ltb-true, lt-ltb}
use Rattle.std.proofs.lemmas.Bool.Decides.{eqb_tells}
use Rattle.peano_keys.specs.declared.cell.CellKey.{CellKey}
use Rattle.peano_keys.specs.declared.vertex.VertexKey.{VertexKey}
use Rattle.peano_keys.specs.declared.dim.Dim.{Dim}
use Rattle.peano_keys.specs.declared.dim.Dim.TheVariants.{Two, Three}
use Rattle.peano_keys.specs.Dim.{corners}
use Rattle.peano_keys.specs.Vertex.{IsVertex, adjacent_of}
use Rattle.peano_keys.proofs.Positions.{touching_cells}
use Rattle.peano_curve.specs.declared.range.Range.{Range}
use Rattle.peano_curve.specs.Order.{interval_of}
use Rattle.peano_curve.specs.Run.{Meets}
use Rattle.curve_cuts.specs.Cuts.{Cuts, range_of, HasCorner, IsShared}
use Rattle.stack_law.specs.Once.{IsIn}
use Rattle.sweep_visits.specs.Plan.{ranges_meet, corner_numbers}
use Rattle.boundary_streams.specs.Holders.{is_met, has_corner, is_sent}
use Rattle.boundary_streams.specs.Sendings.{interval_at, intervals_round, is_any_met}
use Rattle.boundary_streams.specs.Laws.{SendsToHolders}

pub met : (r s : Range) → ranges_meet r s ≡ true → Meets r s
met r s h =
    let low : ℕ = max r.lo s.lo in
    let below : max r.lo s.lo < min r.hi s.hi = ltb-true (max r.lo s.lo) (min r.hi s.hi) h in
    (low, (omega arith, omega arith), (omega arith, omega arith))

from_met : (r s : Range) → Meets r s → ranges_meet r s ≡ true
from_met r s h =
    let p : ℕ = h.0 in
    lt-ltb (max r.lo s.lo) (min r.hi s.hi) (omega (arith, h.1.0, h.1.1, h.2.0, h.2.1))

-- the numbers of positions are those below the number of corners
number_below : (dim : Dim) (n : ℕ) → IsIn n (corner_numbers dim) → n < corners dim
number_below Two n (inl e) = omega (arith, e)
number_below Two n (inr (inl e)) = omega (arith, e)
number_below Two n (inr (inr (inl e))) = omega (arith, e)
number_below Two n (inr (inr (inr (inl e)))) = omega (arith, e)
number_below Two n (inr (inr (inr (inr h)))) = absurd h
number_below Three n (inl e) = omega (arith, e)
number_below Three n (inr (inl e)) = omega (arith, e)
number_below Three n (inr (inr (inl e))) = omega (arith, e)
number_below Three n (inr (inr (inr (inl e)))) = omega (arith, e)
number_below Three n (inr (inr (inr (inr (inl e))))) = omega (arith, e)
number_below Three n (inr (inr (inr (inr (inr (inl e)))))) = omega (arith, e)
number_below Three n (inr (inr (inr (inr (inr (inr (inl e))))))) = omega (arith, e)
number_below Three n (inr (inr (inr (inr (inr (inr (inr (inl e)))))))) = omega (arith, e)
number_below Three n (inr (inr (inr (inr (inr (inr (inr (inr h)))))))) = absurd h

is_number : (dim : Dim) (n : ℕ) → n < corners dim → IsIn n (corner_numbers dim)
is_number Two zero h = inl refl
is_number Two (suc zero) h = inr (inl refl)
is_number Two (suc (suc zero)) h = inr (inr (inl refl))
is_number Two (suc (suc (suc zero))) h = inr (inr (inr (inl refl)))
is_number Two (suc (suc (suc (suc n)))) h = absurd (omega (arith, h))
is_number Three zero h = inl refl
is_number Three (suc zero) h = inr (inl refl)
is_number Three (suc (suc zero)) h = inr (inr (inl refl))
is_number Three (suc (suc (suc zero))) h = inr (inr (inr (inl refl)))
is_number Three (suc (suc (suc (suc zero)))) h = inr (inr (inr (inr (inl refl))))
is_number Three (suc (suc (suc (suc (suc zero))))) h = inr (inr (inr (inr (inr (inl refl)))))
is_number Three (suc (suc (suc (suc (suc (suc zero)))))) h = inr (inr (inr (inr (inr (inr (inl refl))))))
is_number Three (suc (suc (suc (suc (suc (suc (suc zero))))))) h = inr (inr (inr (inr (inr (inr (inr (inl refl)))))))
is_number Three (suc (suc (suc (suc (suc (suc (suc (suc n)))))))) h = absurd (omega (arith, h))

-- some item passes
some_in : (f : ℕ → Bool) (ns : List ℕ) → list_any f ns ≡ true → (n : ℕ) × IsIn n ns × (f n ≡ true)
some_in f [] h = absurd (false≢true h)
some_in f (n ∷ ns) h = by (λ more. some_in f ns more) (f n) refl h
  where
    by : (list_any f ns ≡ true → (m : ℕ) × IsIn m ns × (f m ≡ true)) → (b : Bool) → f n ≡ b → (b || list_any f ns) ≡ true → (m : ℕ) × IsIn m (n ∷ ns) × (f m ≡ true)
    by rest true e h = (n, inl refl, e)
    by rest false e h = let s = rest h in (s.0, inr s.1, s.2)

any_in : (f : ℕ → Bool) (ns : List ℕ) (n : ℕ) → IsIn n ns → f n ≡ true → list_any f ns ≡ true
any_in f [] n h e = absurd h
any_in f (m ∷ ns) n (inl same) e = ap (λ b. b || list_any f ns) (ap f (sym same) ∙ e)
any_in f (m ∷ ns) n (inr h) e = by (f m) (any_in f ns n h e)
  where
    by : (b : Bool) → list_any f ns ≡ true → (b || list_any f ns) ≡ true
    by true h = refl
    by false h = h

some_cell : (k : Cuts) (r : Range) (o : Option CellKey) → is_met k r o ≡ true → (c : CellKey) × (o ≡ Some c) × Meets (interval_of k.dim c k.depth) r
some_cell k r None h = absurd (false≢true h)
some_cell k r (Some c) h = (c, refl, met (interval_of k.dim c k.depth) r h)

module _ (k : Cuts) (t : ℕ) (v : VertexKey) (vertex : IsVertex k.dim v) (tree : t < k.trees) where
  holder_from_test : has_corner k t v ≡ true → HasCorner k t v
  holder_from_test h =
      let s = some_in (λ n. is_met k (range_of k t) (adjacent_of k.dim v n)) (corner_numbers k.dim) h in
      let c = some_cell k (range_of k t) (adjacent_of k.dim v s.0) s.2 in
      let touch = (touching_cells k.dim v c.0 vertex).1 (s.0, number_below k.dim s.0 s.1, c.1) in
      record { tree = tree; cell = c.0; inside = touch.0; touches = touch.1; held = c.2 }

  test_from_holder : HasCorner k t v → has_corner k t v ≡ true
  test_from_holder h =
      let stands = (touching_cells k.dim v h.cell vertex).0 (h.inside, h.touches) in
      any_in (λ n. is_met k (range_of k t) (adjacent_of k.dim v n)) (corner_numbers k.dim) stands.0 (is_number k.dim stands.0 stands.1)
      (ap (is_met k (range_of k t)) stands.2 ∙ from_met (interval_of k.dim h.cell k.depth) (range_of k t) h.held)

both : (a b : Bool) → (not a && b) ≡ true → (a ≡ false) × (b ≡ true)
both true b h = absurd (false≢true h)
both false b h = (refl, h)

apart : (t s : ℕ) → (t == s) ≡ false → t ≢ s
apart t s h e = false≢true (sym h ∙ eq-eqb t s e)

differ : (t s : ℕ) → t ≢ s → (t == s) ≡ false
differ t s h = ⊎_elim (λ same. absurd (h same.1)) (λ other. other.0) (eqb_tells t s)

pub sends_to_holders : SendsToHolders
sends_to_holders k s t v vertex tree = (
  λ h. let b = both (t == s) (has_corner k t v) h in (apart t s b.0, holder_from_test k t v vertex tree b.1),
  λ h. ap (λ a. not a && has_corner k t v) (differ t s h.0) ∙ test_from_holder k t v vertex tree h.1,
)

pub false_or_true : (b : Bool) → (b ≡ true → ⊥) → b ≡ false
false_or_true true h = absurd (h refl)
false_or_true false h = refl

-- a vertex that is not shared is sent to no tree
pub not_sent : (k : Cuts) (s t : ℕ) (v : VertexKey) → IsVertex k.dim v → t < k.trees → ¬ IsShared k s v → is_sent k s t v ≡ false
not_sent k s t v vertex tree alone = false_or_true (is_sent k s t v) (λ h. let b = (sends_to_holders k s t v vertex tree).0 h in alone (record { other = t; apart = b.0; corner = b.1 }))

-- positions by eight numbers, of which a plane uses four
of_eight : (dim : Dim) (at : ℕ → Option CellKey) (test : Option CellKey → Bool) → test None ≡ false → list_any (λ n. test (if nat_lt n (corners dim) then at n else None)) (0 ∷ 1 ∷ 2 ∷ 3 ∷ 4 ∷ 5 ∷ 6 ∷ 7 ∷ []) ≡ list_any (λ n. test (at n)) (corner_numbers dim)
of_eight Two at test none = rw none refl
of_eight Three at test none = refl

any_same : (f g : ℕ → Bool) (ns : List ℕ) → ((n : ℕ) → f n ≡ g n) → list_any f ns ≡ list_any g ns
any_same f g [] e = refl
any_same f g (n ∷ ns) e = ap (λ b. b || list_any f ns) (e n) ∙ ap (λ b. g n || b) (any_same f g ns e)

empty_meets : (r : Range) → ranges_meet (record { lo = 0; hi = 0 }) r ≡ false
empty_meets r = false_or_true (ranges_meet (record { lo = 0; hi = 0 }) r) (λ h. let m = met (record { lo = 0; hi = 0 }) r h in absurd (omega (arith, m.1.1)))

met_same : (k : Cuts) (r : Range) (o : Option CellKey) → ranges_meet (interval_at k o) r ≡ is_met k r o
met_same k r None = empty_meets r
met_same k r (Some c) = refl

-- the test by intervals
pub any_is : (k : Cuts) (t : ℕ) (v : VertexKey) → is_any_met (range_of k t) (intervals_round k v) ≡ has_corner k t v
any_is k t v =
    of_eight k.dim (adjacent_of k.dim v) (λ o. ranges_meet (interval_at k o) (range_of k t)) (empty_meets (range_of k t))
    ∙ any_same (λ n. ranges_meet (interval_at k (adjacent_of k.dim v n)) (range_of k t)) (λ n. is_met k (range_of k t) (adjacent_of k.dim v n)) (corner_numbers k.dim) (λ n. met_same k (range_of k t) (adjacent_of k.dim v n))
