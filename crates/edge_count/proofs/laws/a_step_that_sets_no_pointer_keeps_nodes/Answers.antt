use Rattle.edge_count.proofs.KeptLaws.{bytes_keep, head_keeps, inode_keeps}
use Rattle.edge_count.proofs.laws.a_step_that_sets_no_pointer_keeps_nodes.Goals as goal

pub returns-clause-bytes : goal.returns-clause-bytes
returns-clause-bytes c g v w m b at list indices shape view none set = (bytes_keep g v w m indices shape view b at list none set).0

pub returns-clause-bytes_shape : goal.returns-clause-bytes_shape
returns-clause-bytes_shape c g v w m b at list indices shape view none set = (bytes_keep g v w m indices shape view b at list none set).1

pub returns-clause-head : goal.returns-clause-head
returns-clause-head c g v w m n head indices shape view set = (head_keeps g v w m indices shape view n head set).0

pub returns-clause-head_shape : goal.returns-clause-head_shape
returns-clause-head_shape c g v w m n head indices shape view set = (head_keeps g v w m indices shape view n head set).1

pub returns-clause-inode : goal.returns-clause-inode
returns-clause-inode c g v w m n inode indices shape view away set = (inode_keeps g v w m indices shape view n inode away set).0

pub returns-clause-inode_shape : goal.returns-clause-inode_shape
returns-clause-inode_shape c g v w m n inode indices shape view away set = (inode_keeps g v w m indices shape view n inode away set).1
