use Rattle.edge_image.proofs.FormattedLaws.{opens_fresh}
use Rattle.edge_image.proofs.formatted.formatted_opens.Goals as goal

pub returns : goal.returns
returns c = λ g time image formatted. opens_fresh g time image formatted
