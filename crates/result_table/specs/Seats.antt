-- What callers see of a desk and of its seats.
use Rattle.std.specs.Prelude.{◌≡◌, ℕ, zero, suc, [], false, Option, None}
use Rattle.atomic_table.specs.Seated.{TableId}
use Rattle.atomic_table.specs.declared.shared.Seat.{Seat}
use Rattle.result_table.specs.declared.updates.Updates.{Ghosts}
use Rattle.result_table.specs.declared.done.Done.{Done}
use Rattle.result_table.specs.declared.view.View.{View}
use Rattle.result_table.specs.declared.parts.Desk.{Desk}
use Rattle.result_table.specs.declared.parts.DeskSeat.{DeskSeat}
use Rattle.result_table.specs.declared.parts.Gathered.{Gathered}
use Rattle.result_table.specs.declared.parts.Gathered.TheVariants as found
use Rattle.result_table.specs.Seen.{task_of, solver_of}
use Rattle.result_table.specs.Views.{has, newcomer, with_gathered, with_idle, with_busy}

-- how many seats a new seat with this number knows to have been made
abbrev pub made_by : ℕ → ℕ → ℕ
made_by seats zero = seats
made_by seats (suc i) = 0

-- neither gathered nor found idle or busy
abbrev pub IsUncollected : {S : Type 0} → View S → ℕ → Type 0
IsUncollected v k = (has v.gathered k ≡ false) × (has v.idle k ≡ false) × (has v.busy k ≡ false)

module _ {S : Type 0} {g : Ghosts S} where
  -- a seat of a desk that has done nothing yet
  abbrev pub IsNewSeat : TableId → S → ℕ → ℕ → Seat (Option (Done S g)) (View S) → Type 0
  IsNewSeat desk solver made i s = (s.table_id ≡ desk) × (s.me ≡ (newcomer solver i made, []))

  -- how many tasks a desk has, and its solver
  abbrev pub size_of : Desk S g → ℕ
  size_of d = d.size

  -- the solver of a desk
  abbrev pub desk_solver : Desk S g → S
  desk_solver d = d.table.shared.key.solver.value

  -- what a seat knows
  abbrev pub view_of : DeskSeat S g → View S
  view_of s = s.seat.me.0

  -- a seat of this desk, at rest
  pub record IsSeatOf (d : Desk S g) (s : DeskSeat S g) : Type 0 where
    pub table : s.seat.table_id ≡ d.table.shared.table_id
    pub rest : (view_of s).filling ≡ None
    pub solver : (view_of s).solver ≡ desk_solver d

  -- what a collection of task k answers, and what the first seat knows then
  abbrev pub Found : ℕ → View S → View S → Gathered S g → Type 0
  Found k v w (found.Taken d) = (w ≡ with_gathered v k) × ((task_of d).task ≡ k)
      × (solver_of d ≡ v.solver)
  Found k v w found.Free = w ≡ with_idle v k
  Found k v w found.Running = w ≡ with_busy v k
