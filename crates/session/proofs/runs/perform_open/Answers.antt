use Rattle.session.specs.declared.Answer.TheVariants as answer
use Rattle.session.proofs.Doing.{does_as, mapped, open_does}
use Rattle.session.proofs.runs.perform_open.Goals as goal

pub returns : goal.returns
returns g c page = does_as _ (mapped answer.Opened c.open.result c.map.result c.map.ensures.cases) (open_does _ c.open.result c.open.ensures page)
