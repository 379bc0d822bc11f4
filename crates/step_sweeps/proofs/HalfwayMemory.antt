-- What the secondary visitor remembers after each visit.
use Rattle.std.proofs.Common.{◌≡◌, ◌≢◌, ℕ, ◌≤◌, Bool, true, false, List, [], ◌∷◌, ◌++◌, Option, Some, None, length, sym, ◌∙◌, subst, ⊎_elim, arith}
use Rattle.std.specs.Prelude.{slice_set, slice_index_or}
use Rattle.std.proofs.lemmas.Bool.{cases_eq}
use Rattle.std.proofs.lemmas.List.{get_or-set_same, get_or-set_other}
use Rattle.peano_keys.specs.declared.cell.CellKey.{CellKey}
use Rattle.peano_keys.specs.declared.dim.Dim.{Dim}
use Rattle.peano_keys.specs.Field.{States}
use Rattle.peano_curve.specs.declared.order.Direction.{Direction}
use Rattle.curve_cuts.specs.Cuts.{Cuts, Owns}
use Rattle.curve_cuts.specs.Keys.{cuts_of}
use Rattle.sweep_visits.specs.Visits.{Visit, enter, leave}
use Rattle.step_phases.specs.Change.{Change}
use Rattle.swept_slots.proofs.Nested.{last_left, left_one, last_append, its_level, other_level}
use Rattle.step_sweeps.specs.Secondaries.{SecondaryWork}
use Rattle.step_sweeps.proofs.OwnSlots.{some_same}
use Rattle.step_sweeps.proofs.Centres.{is_centre_in}
use Rattle.step_sweeps.proofs.HalfwayCalls.{KeepsMemory, HasMemory, Tells}

module _ {S : Type 0} (start : SecondaryWork S) (w : Change) (dir : Direction) (f : States) (number : ℕ) (task : CellKey → ℕ) where
  abbrev k : Cuts
  k = cuts_of start.keys

  abbrev t : ℕ
  t = start.tree

  abbrev dim : Dim
  dim = w.old.dim

  abbrev Memory : List Visit → SecondaryWork S → Type 0
  Memory so_far a = HasMemory start w dir f number task so_far a

  abbrev IsTelling : CellKey → Bool → Type 0
  IsTelling m x = Tells start w dir f number task m x

  -- the memory after an enter
  pub memory_entered : (so_far : List Visit) (c : CellKey) (a b : SecondaryWork S) → KeepsMemory a b → Memory so_far a → Memory (so_far ++ enter c ∷ []) b
  memory_entered so_far c a b kept memory l m e owns = subst (λ cs. IsTelling m (slice_index_or cs l false)) (sym kept.2) (memory l m (sym (last_append (is_centre_in dim) l None so_far (enter c ∷ [])) ∙ e) owns)

  -- after the leave of a cell that is no centre child
  pub memory_passed : (so_far : List Visit) (c : CellKey) (a b : SecondaryWork S) → KeepsMemory a b → is_centre_in dim c ≡ false → Memory so_far a → Memory (so_far ++ leave c ∷ []) b
  memory_passed so_far c a b kept none memory l m e owns = subst (λ cs. IsTelling m (slice_index_or cs l false)) (sym kept.2) (memory l m (sym (last_append (is_centre_in dim) l None so_far (leave c ∷ []) ∙ stays) ∙ e) owns)
    where
      before : Option CellKey
      before = last_left (is_centre_in dim) l None so_far

      stays : left_one (is_centre_in dim) l c before ≡ before
      stays = ⊎_elim (λ same. its_level (is_centre_in dim) l c before false same none) (λ apart. other_level (is_centre_in dim) l c before apart) (cases_eq c.level l)

  -- and after that of a centre child, which tells something
  pub memory_told : (so_far : List Visit) (c : CellKey) (a b : SecondaryWork S) (x : Bool) → b.merging ≡ slice_set a.merging c.level x → length a.merging ≡ 14 → c.level ≤ 12 → is_centre_in dim c ≡ true → (Owns k t c → IsTelling c x) → Memory so_far a → Memory (so_far ++ leave c ∷ []) b
  memory_told so_far c a b x set_is size level centre tells memory l m e owns = subst (λ cs. IsTelling m (slice_index_or cs l false)) (sym set_is) (⊎_elim same other (cases_eq c.level l))
    where
      before : Option CellKey
      before = last_left (is_centre_in dim) l None so_far

      last : left_one (is_centre_in dim) l c before ≡ Some m
      last = sym (last_append (is_centre_in dim) l None so_far (leave c ∷ [])) ∙ e

      same : c.level ≡ l → IsTelling m (slice_index_or (slice_set a.merging c.level x) l false)
      same here =
          let is : c ≡ m = some_same c m (sym (its_level (is_centre_in dim) l c before true here centre) ∙ last) in
          subst (λ i. IsTelling m (slice_index_or (slice_set a.merging c.level x) i false)) here
          (subst (IsTelling m) (sym (get_or-set_same a.merging c.level x false (omega (arith, size, level)))) (subst (λ q. IsTelling q x) is (tells (subst (Owns k t) (sym is) owns))))

      other : c.level ≢ l → IsTelling m (slice_index_or (slice_set a.merging c.level x) l false)
      other apart = subst (IsTelling m) (sym (get_or-set_other a.merging c.level l x false (λ e. apart (sym e)))) (memory l m (sym (other_level (is_centre_in dim) l c before apart) ∙ last) owns)
