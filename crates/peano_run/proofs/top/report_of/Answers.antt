use Rattle.std.proofs.Common.{arith}
use Rattle.peano_run.proofs.Answered.{reports_from}
use Rattle.peano_run.proofs.top.report_of.Goals as goal

pub returns-in-Ok : goal.returns-in-Ok
returns-in-Ok g c = reports_from c.args.request _ _ _ _ _ c.in-Ok.bytes.items c.as_slice.result.now c.report.result c.in-Ok.ensures.whole c.in-Ok.ensures.end (omega (arith, c.in-Ok.ensures.within, c.in-Ok.bytes.ok.0)) c.as_slice.ensures.value c.in-Ok.ensures.cause c.report.ensures.ok c.report.ensures.err
