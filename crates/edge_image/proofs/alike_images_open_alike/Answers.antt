use Rattle.edge_image.proofs.AlikeLaws.{opens_alike}
use Rattle.edge_image.proofs.alike_images_open_alike.Goals as goal

pub returns : goal.returns
returns c = λ image other t alike opens. opens_alike image other t alike opens
