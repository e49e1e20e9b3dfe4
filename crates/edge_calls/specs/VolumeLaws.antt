-- What the state of a volume tells of a session's: the laws of its trait.
use Rattle.std.specs.Prelude.{◌≡◌, ◌<◌, ℕ, Bool, true, false, is_some, length, Option, Some, None}
use Rattle.std.proofs.Common.{ap, sym, ◌∙◌}
use Rattle.edge_base.specs.commands.Descriptors.{Descriptors, descriptor_at, most_open}
use Rattle.edge_base.specs.declared.geometry.Request.{Request}
use Rattle.edge_base.specs.layout.Places.{IsGeometry}
use Rattle.edge_store.specs.State.{StoreState}
use Rattle.edge_store.specs.View.{View}
use Rattle.edge_model.specs.State.{State}
use Rattle.edge_model.specs.Tree.{Tree}
use Rattle.edge_image.proofs.TreeLaws.{one_tree}
use Rattle.edge_image.proofs.GeometryLaws.{limits}
use Rattle.edge_volume.specs.Volume.{VolumeState, VolumeStands, IsOfTree, IsSomeOfTree, IsCommitted, opens_of, request_of}

pub whole_is_not_torn : (st : StoreState) → st.under_way ≡ None → is_some st.under_way ≡ false
whole_is_not_torn st whole = ap is_some whole

pub stands_committed : (v : VolumeState) (s : State) → VolumeStands v s → IsCommitted v s.committed
stands_committed v s stands = record { tree = stands.session.trees.committed; stands = stands.store.views.last }

pub opens_are : (v : VolumeState) (s : State) (h : ℕ) → VolumeStands v s → opens_of v h ≡ is_some (descriptor_at s.descriptors h)
opens_are v s h stands = ap (λ (ds : Descriptors). is_some (descriptor_at ds h)) stands.descriptors

pub sixteen_places : (v : VolumeState) (s : State) → VolumeStands v s → length s.descriptors ≡ most_open
sixteen_places v s stands = stands.session.places

pub one_of_tree : (g : Request) (v : View) (t u : Tree) → IsGeometry g → IsOfTree g v t → IsOfTree g v u → t ≡ u
one_of_tree g v t u geometry one two = one_tree g v t u (limits g geometry) one.tree two.tree one.stands two.stands

pub one_of_some_tree : (g : Request) (v : Option View) (t u : Tree) → IsGeometry g → IsSomeOfTree g v t → IsSomeOfTree g v u → t ≡ u
one_of_some_tree g None t u geometry one two = absurd one
one_of_some_tree g (Some v) t u geometry one two = one_of_tree g v t u geometry one two
