-- What a store in memory is at a moment.
use Rattle.std.specs.Prelude.{true, false, [], Some, None}
use Rattle.edge_base.specs.declared.geometry.Request.{Request}
use Rattle.edge_base.specs.declared.node.Head.{Head}
use Rattle.edge_base.specs.declared.node.NodeType.TheVariants.{Directory}
use Rattle.edge_base.specs.layout.Places.{inode_place_of}
use Rattle.edge_base.specs.outside.Below.{Origin}
use Rattle.edge_plain.specs.declared.plain.PlainStore.{PlainStore}
use Rattle.edge_plain.specs.KeptView.{view_of}
use Rattle.edge_store.specs.State.{StoreState}
use Rattle.edge_store.specs.View.{View, no_view, empty_inode, with_inode}

-- what it is made with: a geometry; its views are told
abbrev pub origin_of : Request → Origin
origin_of g = record { request = g; tells = true; others = [] }

-- It stands over no disk: nothing fails, no point is cut short, and nothing is promised of a cut. Each inode is at its first place.
abbrev pub state_of : PlainStore → StoreState
state_of s = record {
  origin = origin_of s.working.geometry;
  live = s.live;
  committed = view_of s.committed;
  working = view_of s.working;
  under_way = None;
  places = λ n. inode_place_of s.working.geometry n false;
  points = s.points;
  faults = 0;
  damage = s.damage;
  guarded = Unit {0};
}

-- the head of an empty root directory
abbrev pub root_head : Head
root_head = record { size = 0; kind = Directory; links = 1; parent = 0 }

-- the view of the empty tree: number 2 has an empty root, and no block is used
abbrev pub view_of_root : Request → View
view_of_root g = with_inode no_view 2 (Some (empty_inode g root_head))
