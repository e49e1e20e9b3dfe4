use Rattle.edge_store.proofs.ChangedLaws.{same_places, same_once, changed_same, dirtied_same}
use Rattle.edge_store.proofs.laws.lists_of_the_same_indices_say_the_same.Goals as goal

pub returns-clause-places : goal.returns-clause-places
returns-clause-places c = λ g v n xs ys same places. same_places g v n xs ys same places

pub returns-clause-once : goal.returns-clause-once
returns-clause-once c = λ g v n xs ys same once. same_once g v n xs ys same once

pub returns-clause-changed : goal.returns-clause-changed
returns-clause-changed c = λ g v w n a b x y old new changed. changed_same g v w n a b x y old new changed

pub returns-clause-dirtied : goal.returns-clause-dirtied
returns-clause-dirtied c = λ g c v w n a b ws rs x y us qs old new writes removes dirtied. dirtied_same g c v w n a b ws rs x y us qs old new writes removes dirtied
