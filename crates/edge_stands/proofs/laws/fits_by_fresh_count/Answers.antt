use Rattle.edge_stands.proofs.FreshLaws.{fits_counted}
use Rattle.edge_stands.proofs.laws.fits_by_fresh_count.Goals as goal

pub returns : goal.returns
returns c = fits_counted
