-- Families of keys, one list after each step: a family goes on by one step, and notes depend on the keys up to their step alone.
use Rattle.std.proofs.Common.{◌≡◌, ℕ, zero, suc, ◌<◌, ◌≤◌, Bool, true, false, nat_le, if◌then◌else◌, List, [], ◌++◌, ap, ap₂, subst, ◌∙◌, ⊎_elim, arith}
use Rattle.std.proofs.lemmas.Bool.Decides.{nat_tests}
use Rattle.peano_keys.specs.Grid.{Spacetree}
use Rattle.peano_keys.specs.Field.{States}
use Rattle.solver_api.specs.Step.{UpdateRule, MarkRule}
use Rattle.vertex_stacks.specs.Notes.{Note}
use Rattle.curve_cuts.specs.Keys.{CutPoints}
use Rattle.step_world.specs.Notes.{Course, HasNotes, Sizes, by_trees, note_raised, recut_notes, showing_notes, step_notes}

-- the keys of a family up to a step, and then others
abbrev pub followed : (ℕ → CutPoints) → ℕ → CutPoints → ℕ → CutPoints
followed cut n new s = if nat_le s n then cut s else new

pub up_to : (cut : ℕ → CutPoints) (n : ℕ) (new : CutPoints) (s : ℕ) → s ≤ n → followed cut n new s ≡ cut s
up_to cut n new s low = ap (λ b. if b then cut s else new) (let e : nat_le s n ≡ true = grind (arith, nat_tests, low) in e)

pub beyond : (cut : ℕ → CutPoints) (n : ℕ) (new : CutPoints) → followed cut n new (suc n) ≡ new
beyond cut n new = ap (λ b. if b then cut (suc n) else new) (let e : nat_le (suc n) n ≡ false = grind (arith, nat_tests) in e)

module _ (y z : ℕ → Sizes) (r : Course) (updated : UpdateRule) (marked : MarkRule) (g : Spacetree) (f : States) where
  -- notes are those of each family that has the same sizes up to their step
  pub notes_agree : (n : ℕ) (h : Spacetree) (a : States) (ns : List Note) → ((s : ℕ) → s ≤ n → y s ≡ z s) → HasNotes y r updated marked g f n h a ns → HasNotes z r updated marked g f n h a ns
  notes_agree zero h a ns same notes = (notes.0, notes.1, notes.2 ∙ ap (λ (x : Sizes). by_trees r.trees (note_raised x 0 g) ++ showing_notes x r 0 g) (same 0 (omega arith)))
  notes_agree (suc n) h a ns same notes = (
    notes.0,
    notes.1,
    notes.2,
    notes_agree n notes.0 notes.1 notes.2 (λ s low. same s (omega (arith, low))) notes.3,
    notes.4,
    notes.5 ∙ ap₂ (λ (p q : Sizes). notes.2 ++ step_notes p r (suc n) notes.0 h ++ (recut_notes p q r (suc n) h ++ showing_notes q r (suc n) h)) (same n (omega arith)) (same (suc n) (omega arith)),
  )
