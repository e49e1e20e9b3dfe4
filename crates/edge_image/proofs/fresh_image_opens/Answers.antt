use Rattle.edge_image.proofs.FreshLaws.{fresh_opens}
use Rattle.edge_image.proofs.fresh_image_opens.Goals as goal

pub returns : goal.returns
returns c = fresh_opens.opens
