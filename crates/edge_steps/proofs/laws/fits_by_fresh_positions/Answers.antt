use Rattle.edge_steps.proofs.FreshLaws.{fits_fresh}
use Rattle.edge_steps.proofs.laws.fits_by_fresh_positions.Goals as goal

pub returns : goal.returns
returns c = fits_fresh
