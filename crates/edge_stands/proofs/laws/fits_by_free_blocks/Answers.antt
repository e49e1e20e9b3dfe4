use Rattle.edge_stands.proofs.SpaceLaws.{fits_free}
use Rattle.edge_stands.proofs.laws.fits_by_free_blocks.Goals as goal

pub returns : goal.returns
returns c = fits_free
