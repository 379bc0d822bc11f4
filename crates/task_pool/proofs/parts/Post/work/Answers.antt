use Rattle.std.proofs.Common.{◌≡◌, ◌<◌, true, List, sym, subst}
use Rattle.crossbeam_deque.specs.Handles.{view}
use Rattle.result_table.specs.Seats.{IsSeatOf, view_of}
use Rattle.result_table.specs.Views.{has}
use Rattle.result_table.specs.declared.parts.DeskSeat.{DeskSeat}
use Rattle.task_pool.specs.declared.job.Job.{Job}
use Rattle.task_pool.specs.Deque.{count, is_task}
use Rattle.task_pool.proofs.Posts.{taken_here, taken_before}
use Rattle.task_pool.proofs.parts.Post.work.Goals as goal

pub compute-published-requires-clause-post : goal.compute-published-requires-clause-post
compute-published-requires-clause-post g c κs within =
    let old = c.requires.post in
    let job = c.in-Some.job in
    let before = (view c.args.self.now.pass).taken in
    let told = c.in-Some.ensures in
    record {
      seat = subst (λ (s : DeskSeat g.row.S.Denot g.S.Updates). IsSeatOf c.args.at.now.desk s) (sym told.seat) old.seat;
      pass = told.pass;
      claimed = λ k e. subst (λ (l : List Job). 0 < count (is_task c.args.tree k) l) (sym told.taken)
          (taken_before (is_task c.args.tree k) job before (old.claimed k (subst (λ (s : DeskSeat g.row.S.Denot g.S.Updates). has (view_of s).claimed k ≡ true) told.seat e)));
    }

pub compute-published-requires-clause-taken : goal.compute-published-requires-clause-taken
compute-published-requires-clause-taken g c κs within =
    let job = c.in-Some.job in
    subst (λ (l : List Job). 0 < count (is_task job.task.tree job.task.task) l) (sym c.in-Some.ensures.taken) (taken_here job (view c.args.self.now.pass).taken)
