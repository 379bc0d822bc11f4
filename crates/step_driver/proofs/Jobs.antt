-- Trees with their tasks, as jobs, and what they give.
use Rattle.std.proofs.Common.{◌≡◌, ℕ, ◌<◌, List, length, map, ap, sym, subst, ◌∙◌, arith}
use Rattle.std.specs.Prelude.{Result, IfOk, slice_index_or}
use Rattle.std.proofs.lemmas.List.{get_or-map, get_or_default, length-map}
use Rattle.tree_automaton.specs.TreeLists.{TreeLists}
use Rattle.step_sweeps.specs.Tasks.{TasksSeen}
use Rattle.curve_cuts.specs.Keys.{CutPoints}
use Rattle.step_sweeps.specs.Kernels.{Kernel}
use Rattle.step_sweeps.specs.declared.tally.Tally.{Tally}
use Rattle.step_driver.specs.declared.beside.Swept.{Swept}
use Rattle.step_driver.specs.declared.computing.Job.{Job}
use Rattle.step_driver.specs.Computing.{CanCompute, ComputesJob, JobSeen, seen_job, job_for}
use Rattle.step_driver.specs.Gives.{EachGives, EachMayGive, EachIs}
use Rattle.step_driver.specs.Tasking.{AreTasksOf}
use Rattle.step_driver.proofs.Gives.{some_item}

module _ {A B : Type 0} (jobs : List (A × B)) where
  pub first_of : (firsts : List A) → firsts ≡ map (λ (x : A × B). x.0) jobs → (t : ℕ) (d : A × B) → t < length jobs → slice_index_or firsts t d.0 ≡ (slice_index_or jobs t d).0
  first_of firsts is t d inside = ap (λ xs. slice_index_or xs t d.0) is ∙ get_or-map (λ (x : A × B). x.0) jobs t d d.0 inside

  pub second_of : (seconds : List B) → seconds ≡ map (λ (x : A × B). x.1) jobs → (t : ℕ) (d : A × B) → t < length jobs → slice_index_or seconds t d.1 ≡ (slice_index_or jobs t d).1
  second_of seconds is t d inside = ap (λ xs. slice_index_or xs t d.1) is ∙ get_or-map (λ (x : A × B). x.1) jobs t d d.1 inside

  pub firsts_count : (firsts : List A) → firsts ≡ map (λ (x : A × B). x.0) jobs → length firsts ≡ length jobs
  firsts_count firsts is = ap length is ∙ length-map jobs (λ (x : A × B). x.0)

  pub seconds_count : (seconds : List B) → seconds ≡ map (λ (x : A × B). x.1) jobs → length seconds ≡ length jobs
  seconds_count seconds is = ap length is ∙ length-map jobs (λ (x : A × B). x.1)

-- each job has a store that can be swept and tasks of the solver
pub jobs_are : {S : Type 0} (P : TreeLists → Type 0) (solver : S) (stores : List TreeLists) (tasks : List (TasksSeen S)) (jobs : List (TreeLists × TasksSeen S)) → stores ≡ map (λ (x : TreeLists × TasksSeen S). x.0) jobs → tasks ≡ map (λ (x : TreeLists × TasksSeen S). x.1) jobs →
    EachIs P stores → AreTasksOf solver tasks → EachIs (λ (j : TreeLists × TasksSeen S). P j.0 × (j.1.solver ≡ solver)) jobs
jobs_are {S = S} P solver stores tasks jobs are of each by = λ t d inside.
    let in_stores : t < length stores = omega (arith, inside, firsts_count jobs stores are) in
    let in_tasks : t < length tasks = omega (arith, inside, seconds_count jobs tasks of) in (
      subst P (first_of jobs stores are t d inside) (each t d.0 in_stores),
      ap (λ (x : TasksSeen S). x.solver) (sym (second_of jobs tasks of t d inside)) ∙ by t d.1 in_tasks,
    )

module _ {S : Type 0} (stores : List TreeLists) (jobs : List (TreeLists × TasksSeen S)) (are : stores ≡ map (λ (x : TreeLists × TasksSeen S). x.0) jobs) where
  -- what each job may give is what its store may give
  pub jobs_give : {Y E : Type 0} (R : TreeLists → Y → Type 0) (given : List (Result Y E)) → EachGives (λ (j : TreeLists × TasksSeen S) (r : Result Y E). IfOk r (R j.0)) jobs given → EachMayGive R stores given
  jobs_give {Y = Y} {E = E} R given gives = record {
    count = gives.count ∙ sym (firsts_count jobs stores are);
    each = λ t d e inside.
        let there : t < length jobs = omega (arith, inside, firsts_count jobs stores are) in
        let job = some_item jobs t there in
        subst (λ (x : TreeLists). IfOk (slice_index_or given t e) (R x)) (sym (get_or_default stores t d job.0 inside ∙ first_of jobs stores are t job there)) (gives.each t job e there);
  }

-- what comes back with tasks
module _ {S Y : Type 0} (R : TreeLists → Y → Type 0) (solver : S) (jobs : List (TreeLists × TasksSeen S)) (done : List (TasksSeen S × Y)) (gives : EachGives (λ (j : TreeLists × TasksSeen S) (r : TasksSeen S × Y). (r.0.solver ≡ solver) × R j.0 r.1) jobs done) where
  -- each store gave what stands at its place
  pub stores_give : (stores : List TreeLists) (swept : List Y) → stores ≡ map (λ (x : TreeLists × TasksSeen S). x.0) jobs → swept ≡ map (λ (x : TasksSeen S × Y). x.1) done → EachGives R stores swept
  stores_give stores swept are is = record {
    count = seconds_count done swept is ∙ gives.count ∙ sym (firsts_count jobs stores are);
    each = λ t d e inside.
        let in_jobs : t < length jobs = omega (arith, inside, firsts_count jobs stores are) in
        let there : t < length done = omega (arith, in_jobs, gives.count) in
        let long : t < length swept = omega (arith, there, seconds_count done swept is) in
        let job = some_item jobs t in_jobs in
        let one = some_item done t there in
        subst (λ (x : TreeLists). R x (slice_index_or swept t e)) (sym (get_or_default stores t d job.0 inside ∙ first_of jobs stores are t job in_jobs))
        (subst (R (slice_index_or jobs t job).0) (sym (get_or_default swept t e one.1 long ∙ second_of done swept is t one there)) (gives.each t job one in_jobs).1);
  }

  -- and as many tasks of the solver come back as there are stores
  pub tasks_back : (tasks : List (TasksSeen S)) → tasks ≡ map (λ (x : TasksSeen S × Y). x.0) done → AreTasksOf solver tasks
  tasks_back tasks is = λ t x below.
      let there : t < length done = omega (arith, below, firsts_count done tasks is) in
      let inside : t < length jobs = omega (arith, there, gives.count) in
      let one = some_item done t there in
      ap (λ (y : TasksSeen S). y.solver) (get_or_default tasks t x one.0 below ∙ first_of done tasks is t one there) ∙ (gives.each t (some_item jobs t inside) one inside).0

  pub back_count : (stores : List TreeLists) (tasks : List (TasksSeen S)) → stores ≡ map (λ (x : TreeLists × TasksSeen S). x.0) jobs → tasks ≡ map (λ (x : TasksSeen S × Y). x.0) done → length tasks ≡ length stores
  back_count stores tasks are is = firsts_count done tasks is ∙ gives.count ∙ sym (firsts_count jobs stores are)

-- a job at a place is made of the tree there
module _ {S : Type 0} (solver : S) (keys : CutPoints) (step : ℕ) (trees : List (TreeLists × TasksSeen S)) (jobs : List (Job S)) (are : map seen_job jobs ≡ map (job_for solver keys step) trees) where
  job_count : length jobs ≡ length trees
  job_count = sym (length-map jobs seen_job) ∙ (ap length are ∙ length-map trees (job_for solver keys step))

  job_there : (t : ℕ) (x : Job S) (d : TreeLists × TasksSeen S) → t < length trees → seen_job (slice_index_or jobs t x) ≡ job_for solver keys step (slice_index_or trees t d)
  job_there t x d inside =
      let there : t < length jobs = omega (arith, inside, job_count) in
      sym (get_or-map seen_job jobs t x (seen_job x) there) ∙ (ap (λ (xs : List (JobSeen S)). slice_index_or xs t (seen_job x)) are ∙ get_or-map (job_for solver keys step) trees t d (seen_job x) inside)

  -- so it can be done where the tree can be swept
  pub jobs_can : (parts : S → ℕ) → EachIs (λ x. CanCompute (parts solver) (job_for solver keys step x)) trees → EachIs (λ (x : Job S). CanCompute (parts x.solver.now) (seen_job x)) jobs
  jobs_can parts can = λ t x inside.
      let there : t < length trees = omega (arith, inside, job_count) in
      let d : TreeLists × TasksSeen S = (x.store, x.tasks) in
      subst (λ (y : JobSeen S). CanCompute (parts y.solver) y) (sym (job_there t x d there)) (can t d there)

  -- and what it gave is what the tree may give
  pub jobs_gave : {E : Type 0} (kernel : S → Kernel) (given : List (Result (TasksSeen S × Swept Tally) E)) → EachMayGive (λ (x : Job S). ComputesJob (kernel x.solver.now) (seen_job x)) jobs given → EachMayGive (λ x. ComputesJob (kernel solver) (job_for solver keys step x)) trees given
  jobs_gave {E = E} kernel given gave = record {
    count = gave.count ∙ job_count;
    each = λ t d e inside.
        let there : t < length jobs = omega (arith, inside, job_count) in
        let x = some_item jobs t there in
        subst (λ (y : JobSeen S). IfOk (slice_index_or given t e) (ComputesJob (kernel y.solver) y)) (job_there t x d inside) (gave.each t x e there);
  }
