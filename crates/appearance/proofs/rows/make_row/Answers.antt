use Rattle.appearance.proofs.rows.Making.{makes}
use Rattle.appearance.proofs.rows.make_row.Goals as goal

pub returns-in-Nothing : goal.returns-in-Nothing
returns-in-Nothing c = search makes

pub returns-in-Variable : goal.returns-in-Variable
returns-in-Variable c = search makes

pub returns-in-Body : goal.returns-in-Body
returns-in-Body c = search makes

pub returns-in-Run : goal.returns-in-Run
returns-in-Run c = search makes

pub returns-in-Values : goal.returns-in-Values
returns-in-Values c = search makes

pub returns-in-Let : goal.returns-in-Let
returns-in-Let c = search makes
