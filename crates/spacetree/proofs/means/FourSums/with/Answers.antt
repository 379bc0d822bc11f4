use Rattle.spacetree.proofs.Totals.{added_kept}
use Rattle.spacetree.proofs.means.FourSums.with.Goals as goal

pub returns : goal.returns
returns c =
    let a = c.args.self in
    let b = c.args.other in
    let h = c.requires.own in
    let g = c.requires.other in
    λ i. record {
      first = added_kept a.first b.first c.plus.result h.first g.first c.plus.ensures.bound c.plus.ensures.value i;
      second = added_kept a.second b.second c.plus-2.result h.second g.second c.plus-2.ensures.bound c.plus-2.ensures.value i;
      third = added_kept a.third b.third c.plus-3.result h.third g.third c.plus-3.ensures.bound c.plus-3.ensures.value i;
      fourth = added_kept a.fourth b.fourth c.plus-4.result h.fourth g.fourth c.plus-4.ensures.bound c.plus-4.ensures.value i;
    }
