use Rattle.edge_anchor.proofs.OpenLaws.{opens_mounted, opens_reasons}
use Rattle.edge_anchor.proofs.cuts.an_image_that_opens_is_mounted.Goals as goal

pub returns-clause-mounted : goal.returns-clause-mounted
returns-clause-mounted c = opens_mounted

pub returns-clause-reasons : goal.returns-clause-reasons
returns-clause-reasons c = opens_reasons
