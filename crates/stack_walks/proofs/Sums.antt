-- All that is given is the sum of the runs less one.
use Rattle.std.proofs.Common.{◌≡◌, ℕ, suc, ◌+◌, ◌-◌, Bool, true, false, not, cond, if◌then◌else◌, List, [], ◌∷◌, length, flat_map, refl, sym, ap, ◌∙◌, subst, arith, inl, inr}
use Rattle.std.specs.List.{count_by, sum_by}
use Rattle.std.proofs.lemmas.List.Sums.{sum_by-append}
use Rattle.stack_law.specs.Boxes.{Axis, Box, Direction}
use Rattle.stack_law.specs.Domain.{root}
use Rattle.stack_law.specs.Visits.{Visit, enter, leave, visits, walls}
use Rattle.stack_law.specs.Order.{IsRightVisit}
use Rattle.stack_law.specs.Stack.{Event, among, AreDistinct}
use Rattle.stack_law.specs.Once.{IsIn}
use Rattle.stack_walks.specs.Corners.{Corner, all_corners, vertex}
use Rattle.stack_walks.specs.Passing.{BoxPassing}
use Rattle.stack_walks.specs.Handing.{has_kept_corner, KeptUnbroken}
use Rattle.stack_walks.specs.Streams.{given_out}
use Rattle.stack_walks.specs.Counts.{Kept, kept_vertex, same_kept, all_given, kept_corners, lane_passings, run_of, PushesAreRunsLessOne}
use Rattle.stack_law.proofs.Chains.{each_in}
use Rattle.stack_law.proofs.Walk.{walk_is}
use Rattle.stack_walks.proofs.Instances.{corners_quiet, given_quiet}
use Rattle.stack_law.proofs.Ways.{ways_follow_the_order}
use Rattle.stack_law.proofs.Distinct.{among_is_in, not_in}
use Rattle.stack_walks.proofs.GivenCorners.{and_true, in_some}
use Rattle.stack_walks.proofs.Counts.{each_kept_corner_is_given}
use Rattle.stack_walks.proofs.Ends.{kept_decided, ended, outputs_distinct, ends_once}
use Rattle.stack_walks.proofs.RunLengths.{count-cons, count_none, count_one, given_once_less_than_the_run}

sum-cons : {A : Type 0} (f : A → ℕ) (x : A) (xs : List A) → sum_by f (x ∷ xs) ≡ f x + sum_by f xs
sum-cons f x xs = sum_by-append f (x ∷ []) xs ∙ ap (λ n. n + sum_by f xs) (let e : 0 + f x ≡ f x = omega arith in e)

sum_same : {A : Type 0} (f g : A → ℕ) (xs : List A) → ((x : A) → IsIn x xs → f x ≡ g x) → sum_by f xs ≡ sum_by g xs
sum_same f g [] e = refl
sum_same f g (x ∷ xs) e = sum-cons f x xs ∙ rw (e x (inl refl), sum_same f g xs (λ y h. e y (inr h))) (sym (sum-cons g x xs))

sum_none : {A : Type 0} (xs : List A) → sum_by (λ (x : A). 0) xs ≡ 0
sum_none [] = refl
sum_none {A} (x ∷ xs) = sum-cons (λ (y : A). 0) x xs ∙ (let e = sum_none xs in let q : 0 + sum_by (λ (y : A). 0) xs ≡ 0 = omega arith in q)

sum_split : {A : Type 0} (f g : A → ℕ) (xs : List A) → sum_by (λ x. f x + g x) xs ≡ sum_by f xs + sum_by g xs
sum_split f g [] = refl
sum_split f g (x ∷ xs) =
    let e = sum-cons (λ y. f y + g y) x xs in
    let p = sum-cons f x xs in
    let q = sum-cons g x xs in
    let r = sum_split f g xs in
    omega arith

-- what is counted for each vertex is all, where each passing is for one of the vertices
abbrev key : BoxPassing → Kept
key p = kept_vertex p.splits p.vertex

abbrev for_vertex : Kept → BoxPassing → Bool
for_vertex k p = same_kept (key p) k

module _ (vertices : List Kept) (distinct : AreDistinct same_kept vertices) where
  abbrev is_missing : BoxPassing → Bool
  is_missing p = not (among same_kept (key p) vertices)

  known : (p : BoxPassing) → ◌≡◌ {A = ℕ} (cond (is_missing p) 1 0) 0 → IsIn (key p) vertices
  known p e = among_is_in Kept same_kept kept_decided.reflexive kept_decided.exact (key p) vertices (by_test (among same_kept (key p) vertices) e)
    where
      by_test : (t : Bool) → ◌≡◌ {A = ℕ} (cond (not t) 1 0) 0 → t ≡ true
      by_test true e = refl
      by_test false e = absurd (omega arith)

  summed : (ps : List BoxPassing) → count_by is_missing ps ≡ 0 → sum_by (λ k. count_by (for_vertex k) ps) vertices ≡ length ps
  summed [] e = sum_none vertices
  summed (p ∷ ps) e =
      let f = count-cons is_missing p ps in
      let one = count_one Kept same_kept kept_decided (same_kept (key p)) (key p) vertices distinct (known p (omega arith)) (kept_decided.reflexive (key p)) (λ k t. sym (kept_decided.exact (key p) k t)) in
      let rest = summed ps (omega arith) in
      let split = sum_split (λ k. cond (for_vertex k p) 1 0) (λ k. count_by (for_vertex k) ps) vertices in
      sum_same (λ k. count_by (for_vertex k) (p ∷ ps)) (λ k. cond (for_vertex k p) 1 0 + count_by (for_vertex k) ps) vertices (λ k h. count-cons (for_vertex k) p ps)
      ∙ split
      ∙ rw (one, rest) (let q : 1 + length ps ≡ suc (length ps) = omega arith in q)

module _ (dir : Direction) (axis : ℕ → Axis) (is_cell : ℕ → Bool) (splits : ℕ) (visited kept : ℕ → Box → Bool) (unbroken : KeptUnbroken dir axis splits visited kept is_cell) where
  abbrev walked : List Visit
  walked = visits dir axis is_cell splits root walls

  abbrev outputs : List Kept
  outputs = flat_map (given_out Kept kept_vertex dir axis splits visited kept) walked

  abbrev passings : List BoxPassing
  passings = all_given (flat_map (lane_passings dir axis splits visited kept) walked)

  right : (w : Visit) → IsIn w walked → IsRightVisit dir axis is_cell splits w
  right w h = each_in (λ z. 0) (IsRightVisit dir axis is_cell splits) w walked (ways_follow_the_order dir axis is_cell splits) h

  -- each kept corner of a visited cell goes to the output somewhere
  in_outputs : (k : Kept) (w : Visit) → IsRightVisit dir axis is_cell splits w → IsIn k (kept_corners dir axis splits visited kept w) → IsIn k outputs
  in_outputs k (enter m b io) r h = absurd h
  in_outputs k (leave m b io) r h =
      let f = in_some (λ c. if has_kept_corner dir axis splits visited kept m b c then kept_vertex m (vertex b c) ∷ [] else []) k all_corners h in
      at_corner f.0 (has_kept_corner dir axis splits visited kept m b f.0) refl f.2
    where
      at_corner : (c : Corner) (t : Bool) → has_kept_corner dir axis splits visited kept m b c ≡ t → IsIn k (if t then kept_vertex m (vertex b c) ∷ [] else []) → IsIn k outputs
      at_corner c true e (inl f) = subst (λ j. IsIn j outputs) (sym f) (ends_once dir axis is_cell splits visited kept unbroken m b c r.cell r.level r.inside e)
      at_corner c true e (inr g) = absurd g
      at_corner c false e g = absurd g

  not_false : (b : Bool) → not b ≡ true → b ≡ false
  not_false true e = absurd (cc)
  not_false false e = refl

  none_missing : (k : Kept) → IsIn k (flat_map (kept_corners dir axis splits visited kept) walked) → not (among same_kept k outputs) ≡ true → ⊥
  none_missing k h t =
      let f = in_some (kept_corners dir axis splits visited kept) k walked h in
      not_in Kept same_kept kept_decided.reflexive kept_decided.exact k outputs (not_false (among same_kept k outputs) t) (in_outputs k f.0 (right f.0 f.1) f.2)

  at_visit : (k : Kept) (w : Visit) → IsRightVisit dir axis is_cell splits w → IsIn k (given_out Kept kept_vertex dir axis splits visited kept w) → length (run_of dir axis is_cell splits visited k.splits k.vertex) - 1 ≡ count_by (for_vertex k) passings
  at_visit k (enter m b io) r h = absurd h
  at_visit k (leave m b io) r h =
      let f = ended dir axis is_cell splits visited kept unbroken k m b io h in
      let g = and_true (has_kept_corner dir axis splits visited kept m b f.at_corner) _ f.ends in
      let keeps = and_true (visited m b) _ g.0 in
      subst (λ j. length (run_of dir axis is_cell splits visited j.splits j.vertex) - 1 ≡ count_by (for_vertex j) passings) (sym f.is) (sym (given_once_less_than_the_run dir axis is_cell splits visited kept unbroken m (vertex b f.at_corner) r.cell r.level keeps.1))

  per_vertex : (k : Kept) → IsIn k outputs → length (run_of dir axis is_cell splits visited k.splits k.vertex) - 1 ≡ count_by (for_vertex k) passings
  per_vertex k h = (let f = in_some (given_out Kept kept_vertex dir axis splits visited kept) k walked h in at_visit k f.0 (right f.0 f.1) f.2)

all_summed : (dir : Direction) (axis : ℕ → Axis) (is_cell : ℕ → Bool) (splits : ℕ) (visited kept : ℕ → Box → Bool) (unbroken : KeptUnbroken dir axis splits visited kept is_cell) → length (passings dir axis is_cell splits visited kept unbroken) ≡ sum_by (λ (k : Kept). length (run_of dir axis is_cell splits visited k.splits k.vertex) - 1) (outputs dir axis is_cell splits visited kept unbroken)
all_summed dir axis is_cell splits visited kept unbroken =
    let o = outputs dir axis is_cell splits visited kept unbroken in
    let ps = passings dir axis is_cell splits visited kept unbroken in
    let balance = each_kept_corner_is_given (λ m v. not (among same_kept (kept_vertex m v) o)) dir axis is_cell splits visited kept unbroken in
    let none = count_none Kept same_kept kept_decided (λ (k : Kept). not (among same_kept (kept_vertex k.splits k.vertex) o)) (flat_map (kept_corners dir axis splits visited kept) (walked dir axis is_cell splits visited kept unbroken)) (none_missing dir axis is_cell splits visited kept unbroken) in
    sym (sum_same (λ k. length (run_of dir axis is_cell splits visited k.splits k.vertex) - 1) (λ k. count_by (for_vertex k) ps) o (per_vertex dir axis is_cell splits visited kept unbroken)
    ∙ summed o (outputs_distinct dir axis is_cell splits visited kept unbroken) ps (omega arith))

pub pushes_are_runs_less_one : PushesAreRunsLessOne
pushes_are_runs_less_one dir axis is_cell splits visited kept unbroken is_open closed =
    let events = walk_is dir axis is_cell (Event BoxPassing) (lane_passings dir axis splits visited kept) visited is_open (corners_quiet dir axis splits visited kept) splits closed splits root walls (omega arith) in
    let streams = walk_is dir axis is_cell Kept (given_out Kept kept_vertex dir axis splits visited kept) visited is_open (given_quiet dir axis splits visited kept Kept kept_vertex) splits closed splits root walls (omega arith) in
    rw (events, streams) (all_summed dir axis is_cell splits visited kept unbroken)
