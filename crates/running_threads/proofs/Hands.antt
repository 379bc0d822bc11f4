-- What the contracts of a hand's calls say leads a place on as a run does.
use Rattle.std.proofs.Common.{◌≡◌, inl, inr, ℕ, ◌+◌, ◌-◌, ◌<◌, ◌≤◌, refl, sym, ap, ◌∙◌, arith, Some, None}
use Rattle.peano_keys.specs.declared.cell.CellKey.{CellKey}
use Rattle.result_table.specs.declared.view.View.{View}
use Rattle.task_core.specs.declared.event.Sweep.TheVariants.{First, Second}
use Rattle.task_pool.specs.Seen.{Collects}
use Rattle.pool_events.specs.Deeds.{Deed, Gathers, FindsIdle, FindsBusy, knows}
use Rattle.step_sweeps.specs.Tasks.{TasksSeen, Offers, Turns, Answers}
use Rattle.running_threads.specs.Places.{Place, IsCollectionOf}
use Rattle.running_threads.specs.Hands.{SeesTasks, OffersAt, AnswersAt}

-- a collection that a hand's contract tells is a deed
record IsDeed {S : Type 0} (n : ℕ) (v w : View S) : Type 0 where
  deed : Deed
  is : IsCollectionOf n deed
  knows : w ≡ knows deed v

collects_deed : {S : Type 0} (n : ℕ) (v w : View S) → Collects n v w → IsDeed n v w
collects_deed n v w (inl e) = record { deed = Gathers n; is = refl; knows = e }
collects_deed n v w (inr (inl e)) = record { deed = FindsIdle n; is = refl; knows = e }
collects_deed n v w (inr (inr e)) = record { deed = FindsBusy n; is = refl; knows = e }

module _ {S : Type 0} (x y : TasksSeen S) (a : Place) where
  pub offers_at : (n : ℕ) (l : CellKey) → a.leaf ≡ Some l → SeesTasks First x a → x.spawned < x.size → Offers x n y → OffersAt x n y a
  offers_at n l at sees room (inl o) = record {
    number = o.1;
    place = record { to_come = a.to_come; leaf = None; tasks = a.tasks + 1 };
    spawns = record { leaf = l; at = at; after = refl };
    sees = ap (λ q. q + 1) sees ∙ sym (ap (λ (z : TasksSeen S). z.spawned) o.2);
  }
  offers_at n l at sees room (inr o) = absurd (let full = o.0 in omega (arith, room, full))

  pub turns_keep : SeesTasks First x a → x.left ≡ x.size → x.spawned ≤ x.size → Turns x y → SeesTasks Second y a
  turns_keep sees whole most (inl t) = sees ∙ sym (ap (λ (z : TasksSeen S). z.left) t.1)
  turns_keep sees whole most (inr t) = (let few = t.0 in let same = ap (λ (z : TasksSeen S). z.left) t.1 in omega (arith, sees, whole, most, few, same))

  pub answers_at : (l : CellKey) → a.leaf ≡ Some l → SeesTasks Second x a → 0 < a.tasks → Answers x y → AnswersAt x y a
  answers_at l at sees more (inl t) =
      let n : ℕ = x.left - 1 in
      let d = collects_deed n x.seat y.seat t.1 in record {
        number = n;
        deed = d.deed;
        is = d.is;
        knows = d.knows;
        place = record { to_come = a.to_come; leaf = None; tasks = n };
        collects = record { leaf = l; at = at; left = (let some_ = t.0 in omega (arith, sees, some_)); after = refl };
        sees = sym (ap (λ (z : TasksSeen S). z.left) t.2);
      }
  answers_at l at sees more (inr t) = absurd (let none = t.0 in omega (arith, sees, more, none))
