use Rattle.session.specs.declared.Answer.TheVariants as answer
use Rattle.session.proofs.Doing.{does_as, mapped, report_does}
use Rattle.session.proofs.runs.perform_report.Goals as goal

pub returns : goal.returns
returns g c = does_as _ (mapped answer.Reported c.report.result c.map.result c.map.ensures.cases) (report_does _ c.report.result c.report.ensures)
