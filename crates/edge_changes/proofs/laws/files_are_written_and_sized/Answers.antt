use Rattle.std.proofs.Common.{subst}
use Rattle.edge_file.specs.Rewritten.{IsWritten}
use Rattle.edge_file.specs.Shortened.{IsShortened}
use Rattle.edge_stands.specs.Stands.{indices_at}
use Rattle.edge_changes.proofs.EditLaws.{file_of, file_there}
use Rattle.edge_changes.proofs.FileLaws.{written_edited}
use Rattle.edge_changes.proofs.SizeLaws.{sized_edited}
use Rattle.edge_changes.proofs.laws.files_are_written_and_sized.Goals as goal

pub returns-clause-written : goal.returns-clause-written
returns-clause-written c g past v w t n at new geometry view view_w stands tree there kind some end after listed was head =
    let is = file_there t n there kind in
    written_edited g past v w t n at new geometry view view_w stands tree is (tree.nodes n (file_of t n) is) after some end listed (subst (λ o. IsWritten g past v w n at new (indices_at g o)) is was) head

pub returns-clause-sized : goal.returns-clause-sized
returns-clause-sized c g past v w t n size geometry view view_w stands tree there kind most after listed short same set head =
    let is = file_there t n there kind in
    sized_edited g past v w t n size geometry view stands tree is (tree.nodes n (file_of t n) is) after most listed head
    (λ low. subst (λ o. IsShortened g past v w n size (indices_at g o)) is (short low)) same set
