-- Each tree has its numbers: each kind is picked from the cells that a sweep leaves and the vertices that it takes.
use Rattle.std.proofs.Common.{◌≡◌, ◌↔◌, inl, inr, ⊎_elim, ℕ, ◌+◌, ◌*◌, ◌<◌, List, [], ◌∷◌, ◌++◌, length, refl, sym, subst, arith}
use Rattle.std.specs.Prelude.{flat_map}
use Rattle.stack_law.specs.Once.{IsIn}
use Rattle.stack_law.proofs.Distinct.{in_either}
use Rattle.stack_law.proofs.Chains.{in_left, in_right}
use Rattle.peano_keys.specs.declared.cell.CellKey.{CellKey}
use Rattle.peano_keys.specs.declared.vertex.VertexKey.{VertexKey}
use Rattle.peano_keys.specs.Dim.{corners}
use Rattle.peano_keys.specs.Cell.{IsCell}
use Rattle.peano_keys.specs.Vertex.{IsVertex, corner_of}
use Rattle.peano_keys.specs.Grid.{Spacetree}
use Rattle.peano_curve.specs.declared.order.Direction.TheVariants.{Forward}
use Rattle.sweep_visits.specs.Moves.{moves_of, taken_by, put_by}
use Rattle.sweep_streams.specs.Counts.{pushed_by}
use Rattle.curve_cuts.specs.Cuts.{Cuts, IsCutGrid, range_of}
use Rattle.curve_cuts.specs.Enclave.{HasBorder, IsEnclave, IsSkeleton, OwnsLeaf}
use Rattle.step_phases.proofs.Grids.{level_in}
use Rattle.spacetree.proofs.Told.{Told, both_told, not_told}
use Rattle.vertex_stacks.specs.Tales.{capped}
use Rattle.showing_sweep.specs.Counts.{AreSoMany, Counts, NoneTwice}
use Rattle.showing_sweep.specs.Laws.{AmountsExist}
use Rattle.showing_sweep.specs.Sent.{IsOther, IsPairOf, IsVertexOf}
use Rattle.showing_sweep.specs.Shown.{Amounts, AreAmounts, HoldsCellOf}
use Rattle.showing_sweep.proofs.Amounts.{cells_many, hanging_many, left, left_once, own_left, plan, put_many, sent_many, taken_listed, told_else, holds, corner_vertex}
use Rattle.showing_sweep.proofs.AmountsTold.{has_border_told, other_told, own_told}
use Rattle.showing_sweep.proofs.Hanging.{from_between, hanging_at, numbers, numbers_once}
use Rattle.showing_sweep.proofs.Moved.{corners_add_up}
use Rattle.showing_sweep.proofs.Sends.{no_pairs, pairs_more}

-- the things of a list of which something is true
pub record ArePicked {A : Type 0} (P : A → Type 0) (xs ys : List A) : Type 0 where
  pub once : NoneTwice ys
  pub members : (x : A) → IsIn x ys ↔ (IsIn x xs × P x)

picked : {A : Type 0} (P : A → Type 0) (xs : List A) → NoneTwice xs → ((x : A) → IsIn x xs → Told (P x)) → (ys : List A) × ArePicked P xs ys
picked P [] once told = ([], record { once = tt; members = λ x. ((λ h. absurd h), (λ h. absurd h.0)) })
picked P (x ∷ xs) once told =
    let rest = picked P xs once.1 (λ y h. told y (inr h)) in
    elim (told x (inl refl)) [
      | inl here ↦ (
        x ∷ rest.0,
        record {
          once = ((λ h. once.0 ((rest.1.members x).0 h).0), rest.1.once);
          members = λ y. (
            (λ h. ⊎_elim (λ e. (inl e, subst P (sym e) here)) (λ more. let m = (rest.1.members y).0 more in (inr m.0, m.1)) h),
            (λ h. ⊎_elim (λ e. inl e) (λ more. inr ((rest.1.members y).1 (more, h.1))) h.0),
          );
        },
      )
      | inr apart ↦ (
        rest.0,
        record {
          once = rest.1.once;
          members = λ y. (
            (λ h. let m = (rest.1.members y).0 h in (inr m.0, m.1)),
            (λ h. ⊎_elim (λ e. absurd (apart (subst P e h.1))) (λ more. (rest.1.members y).1 (more, h.1)) h.0),
          );
        },
      )
    ]

-- a list turned round
abbrev turned : List VertexKey → List VertexKey
turned [] = []
turned (v ∷ vs) = turned vs ++ v ∷ []

in_turned : (v : VertexKey) (vs : List VertexKey) → IsIn v vs → IsIn v (turned vs)
in_turned v [] h = absurd h
in_turned v (w ∷ vs) (inl e) = in_right (λ z. 0) v (turned vs) (w ∷ []) (inl e)
in_turned v (w ∷ vs) (inr h) = in_left (λ z. 0) v (turned vs) (w ∷ []) (in_turned v vs h)

from_turned : (v : VertexKey) (vs : List VertexKey) → IsIn v (turned vs) → IsIn v vs
from_turned v [] h = absurd h
from_turned v (w ∷ vs) h = ⊎_elim (λ old. inr (from_turned v vs old)) (λ new. ⊎_elim (λ e. inl e) (λ none. absurd none) new) (in_either v (turned vs) (w ∷ []) h)

-- the other trees of a vertex
others_exist : (k : Cuts) (t : ℕ) (v : VertexKey) → IsVertexOf k v → (n : ℕ) × AreSoMany (IsOther k t v) n
others_exist k t v of =
    let found = picked (IsOther k t v) (numbers 0 k.trees) (numbers_once 0 k.trees) (λ s h. other_told k v of t s) in (
      length found.0,
      record {
        things = found.0;
        lists = record { once = found.1.once; members = λ s. ((λ h. ((found.1.members s).0 h).1), (λ h. (found.1.members s).1 (from_between 0 k.trees s (omega arith) (let tree = h.corner.tree in omega (arith, tree)), h))) };
        count = refl;
      },
    )

-- and those of vertices
pairs_exist : (k : Cuts) (t : ℕ) (vs : List VertexKey) → NoneTwice vs → ((v : VertexKey) → IsIn v vs → IsVertexOf k v) → (n : ℕ) × Counts (IsPairOf k t (turned vs)) n
pairs_exist k t [] once each = (0, no_pairs k t)
pairs_exist k t (v ∷ vs) once each =
    let rest = pairs_exist k t vs once.1 (λ w h. each w (inr h)) in
    let others = others_exist k t v (each v (inl refl)) in
    (capped (rest.0 + others.0), pairs_more k t (turned vs) v rest.0 others.0 (λ h. once.0 (from_turned v vs h)) rest.1 others.1)

module _ (k : Cuts) (g : Spacetree) (t : ℕ) (fits : IsCutGrid k g) (tree : t < k.trees) where
  abbrev cells : List CellKey
  cells = left k t Forward g fits tree

  vertices : (c : CellKey) → HoldsCellOf k g t c → (n : ℕ) → n < corners k.dim → IsVertex g.dim (corner_of c n) × IsVertexOf k (corner_of c n)
  vertices c h n below =
      let vertex : IsVertex g.dim (corner_of c n) = corner_vertex k t Forward g fits tree c n h (subst (λ d. n < corners d) (sym fits.dim) below) in
      (vertex, record { vertex = subst (λ d. IsVertex d (corner_of c n)) fits.dim vertex; level = level_in k g c fits h.there })

  module _ (P : CellKey → Type 0) (told : (c : CellKey) → HoldsCellOf k g t c → Told (P c)) (owns : (c : CellKey) → P c → OwnsLeaf k g t c) where
    leaves_picked : (ys : List CellKey) × ArePicked P cells ys
    leaves_picked = picked P cells (left_once k t Forward g fits tree) (λ c h. told c (holds k t Forward g fits tree c h))

    leaves_many : AreSoMany P (length leaves_picked.0)
    leaves_many = record {
      things = leaves_picked.0;
      lists = record { once = leaves_picked.1.once; members = λ c. ((λ h. ((leaves_picked.1.members c).0 h).1), (λ h. (leaves_picked.1.members c).1 (own_left k t Forward g fits tree c (owns c h), h))) };
      count = refl;
    }

  border : (c : CellKey) → HoldsCellOf k g t c → Told (HasBorder k g t c)
  border c h = has_border_told k g t c (vertices c h)

  skeleton_told : (c : CellKey) → HoldsCellOf k g t c → Told (IsSkeleton k g t c)
  skeleton_told c h = both_told (OwnsLeaf k g t c) (HasBorder k g t c) (own_told k g t c) (border c h)

  enclave_told : (c : CellKey) → HoldsCellOf k g t c → Told (IsEnclave k g t c)
  enclave_told c h = both_told (OwnsLeaf k g t c) (¬ HasBorder k g t c) (own_told k g t c) (not_told (HasBorder k g t c) (border c h))

  abbrev taken : List VertexKey
  taken = taken_by (moves_of (plan k t Forward g fits tree))

  its_vertex : (v : VertexKey) → IsIn v taken → IsVertexOf k v
  its_vertex v h =
      let has = ((taken_listed k t Forward g fits tree).members v).0 h in
      let inside = has.stored has.corner.cell (subst (λ d. IsCell d has.corner.cell) (sym fits.dim) has.corner.inside) has.corner.touches in
      record { vertex = has.vertex; level = (let level = has.corner.touches.level in let low = level_in k g has.corner.cell fits inside in omega (arith, level, low)) }

  pairs : (n : ℕ) × Counts (IsPairOf k t (turned taken)) n
  pairs = pairs_exist k t taken (taken_listed k t Forward g fits tree).once its_vertex

  sent : AreSoMany (IsPairOf k t taken) pairs.1.many
  sent = told_else (IsPairOf k t (turned taken)) (IsPairOf k t taken) pairs.1.many (λ x. ((λ h. record { listed = from_turned x.0 taken h.listed; other = h.other }), (λ h. record { listed = in_turned x.0 taken h.listed; other = h.other }))) pairs.1.are

  abbrev numbers_of : Amounts
  numbers_of = record {
    cells = length cells;
    stored = length (put_by (moves_of (plan k t Forward g fits tree)));
    pushes = length (pushed_by (moves_of (plan k t Forward g fits tree)));
    hanging = length (flat_map (hanging_at g) cells);
    enclave = length (leaves_picked (IsEnclave k g t) enclave_told (λ c h. h.0)).0;
    skeleton = length (leaves_picked (IsSkeleton k g t) skeleton_told (λ c h. h.0)).0;
    sent = pairs.1.many;
  }

  are_numbers : AreAmounts k g t numbers_of
  are_numbers = record {
    cells = cells_many k t Forward g fits tree;
    stored = put_many k t Forward g fits tree;
    hanging = hanging_many k t Forward g fits tree;
    enclave = leaves_many (IsEnclave k g t) enclave_told (λ c h. h.0);
    skeleton = leaves_many (IsSkeleton k g t) skeleton_told (λ c h. h.0);
    sent = sent_many k t Forward g fits tree pairs.1.many sent;
    pushes = subst (λ d. numbers_of.pushes + numbers_of.hanging + numbers_of.stored ≡ numbers_of.cells * corners d) fits.dim (corners_add_up k.depth (range_of k t) Forward g);
  }

pub amounts_exist : AmountsExist
amounts_exist k g t fits tree = (numbers_of k g t fits tree, are_numbers k g t fits tree)
