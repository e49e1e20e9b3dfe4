use Rattle.edge_store.proofs.ViewLaws.{broken_of}
use Rattle.edge_store.proofs.DamageLaws.{broken_is_damage, misread_is_damage}
use Rattle.edge_store.proofs.laws.what_is_met_is_damage.Goals as goal

pub returns-clause-inode : goal.returns-clause-inode
returns-clause-inode c g places committed v n damage view met =
    let is = broken_of (v.inodes n) damage met in
    broken_is_damage g places committed v n damage is (view.broken_inodes n damage is)

pub returns-clause-block : goal.returns-clause-block
returns-clause-block c g places committed v n form b damage fits linked met = misread_is_damage g places committed v n form b fits linked damage met
