-- A name moved in a store that stands for a state: what stands when each part is done, and what the parts make together.
use Rattle.std.proofs.Common.{◌≡◌, ◌∙◌, ℕ, ◌-◌, ◌/◌, ◌<◌, ◌≤◌, ◌==◌, true, false, cond, is_some, List, [], map, refl, sym, ap, subst, Option, Some, None}
use Rattle.std.specs.Prelude.{Result}
use Rattle.edge_base.specs.declared.geometry.Request.{Request}
use Rattle.edge_base.specs.declared.node.Head.{Head}
use Rattle.edge_base.specs.layout.Places.{max_blocks_of}
use Rattle.edge_base.specs.outside.Below.{Origin}
use Rattle.edge_base.specs.tree.NodeRules.{IsDirectory}
use Rattle.edge_base.specs.tree.Nodes.{Node, directory, indices_of}
use Rattle.edge_base.specs.tree.Positions.{data_at}
use Rattle.edge_base.specs.tree.Slots.{Slots, slots_in_block}
use Rattle.edge_store.specs.declared.fault.StoreFault.{StoreFault}
use Rattle.edge_store.specs.Calls.{NeverDamaged}
use Rattle.edge_store.specs.Placed.{HasNode}
use Rattle.edge_store.specs.State.{StoreState, Told}
use Rattle.edge_store.specs.View.{View, IsView, free_now, head_of_inode}
use Rattle.edge_model.specs.Named.{clear_writes, clear_removes, without_slot}
use Rattle.edge_model.specs.Names.{with_parent}
use Rattle.edge_model.specs.State.{State}
use Rattle.edge_model.specs.Tree.{Tree, links_of, slots_at, with_node}
use Rattle.edge_image.specs.Opens.{head_of_node}
use Rattle.edge_changes.specs.Edited.{IsEdited}
use Rattle.edge_dir.specs.Cleared.{ClearsSlot, NeverWithRoomToClear, clearing_need}
use Rattle.edge_dir.specs.Written.{SlotsChanged}
use Rattle.edge_steps.proofs.CountLaws.{slot_names}
use Rattle.edge_stands.specs.Stands.{StandsWith, head_with, with_links}
use Rattle.edge_volume.specs.Nodes.{IsNodeOf}
use Rattle.edge_volume.specs.Volume.{StoreStands}
use Rattle.edge_names.specs.Moved.{IsPlaced, MayMove, moved}
use Rattle.edge_names.specs.Stepped.{HasNamed, IsStepped, PutsName, SetsParent, Steps, TakesLink}
use Rattle.edge_names.specs.declared.moves.Move.{Move}
use Rattle.edge_names.specs.declared.moves.NamedNode.{NamedNode}
use Rattle.edge_names.proofs.MovedLaws.{moved_alone, moved_over}
use Rattle.edge_names.proofs.MoveTreeLaws.{held_of, inside_from, left_of, left_others}
use Rattle.edge_names.proofs.ParentLaws.{parent_others}
use Rattle.edge_names.proofs.PutLaws.{clear_step, from_node, from_parent, from_rules, from_set}
use Rattle.edge_names.proofs.UnnamedLaws.{blocks_written, blocks_removed}

same_head : (x y : Head) → Some x ≡ Some y → x ≡ y
same_head x y e = cc

some_at : (t : Tree) (n : ℕ) → is_some (t n) ≡ true → (node : Node) × (t n ≡ Some node)
some_at t n there = by (t n) refl
  where
    by : (o : Option Node) → t n ≡ o → (node : Node) × (t n ≡ Some node)
    by None is = absurd (let wrong : false ≡ true = sym (ap (λ (o : Option Node). is_some o) is) ∙ there in cc)
    by (Some node) is = (node, is)

-- a step between two stores, over the geometry and the last point of one before
steps_over : (old mid new : StoreState) (t u : Tree) (links : ℕ → ℕ) → mid.origin ≡ old.origin → mid.committed ≡ old.committed → Steps mid new t u links [] []
    → IsStepped old.origin.request old.committed mid.working new.working t u links [] []
steps_over old mid new t u links origin committed step =
    subst (λ (v : View). IsStepped old.origin.request v mid.working new.working t u links [] []) committed
    (subst (λ (o : Origin). IsStepped o.request mid.committed mid.working new.working t u links [] []) origin step)

-- ---- the store before, and when the name is put

module _ (old mid : StoreState) (z : State) (m : Move) (name : List ℕ) (stands : StoreStands old z) (may : MayMove old.origin.request z m name)
    (block : m.to.slot / slots_in_block old.origin.request < max_blocks_of old.origin.request) (origin_mid : mid.origin ≡ old.origin) (same_mid : mid.committed ≡ old.committed)
    (view_there : IsView mid.origin.request mid.working) (puts : PutsName old mid m name) where
  abbrev g : Request
  g = old.origin.request

  abbrev c : View
  c = old.committed

  abbrev t : Tree
  t = z.tree

  abbrev links : ℕ → ℕ
  links = links_of g z.tree

  abbrev held : Tree
  held = held_of z.tree m name

  abbrev left : Tree
  left = left_of z.tree m name

  abbrev slots : Slots
  slots = slots_at held m.from.dir

  abbrev after : Slots
  after = without_slot slots m.from.slot

  told_mid : Told mid
  told_mid = ap (λ (o : Origin). o.tells) origin_mid ∙ stands.told

  view_mid : IsView g mid.working
  view_mid = subst (λ (o : Origin). IsView o.request mid.working) origin_mid view_there

  held_stands : StandsWith g mid.working held links
  held_stands = (puts z stands may).stands

  node_mid : HasNode mid.origin.request mid.working m.from.dir (directory slots (from_parent g c mid.working z m name may block))
  node_mid = subst (λ (o : Origin). HasNode o.request mid.working m.from.dir (directory slots (from_parent g c mid.working z m name may block))) (sym origin_mid)
      (from_node g c mid.working z m name may block view_mid held_stands)

  rules_mid : IsDirectory mid.origin.request after
  rules_mid = subst (λ (o : Origin). IsDirectory o.request after) (sym origin_mid) (from_rules g c mid.working z m name may block)

  -- no damage is told when the old slot is cleared
  pub clear_undamaged : {T : Type 0} (r : Result T StoreFault) → NeverWithRoomToClear mid m.from.dir m.from.slot r
      → clearing_need mid m.from.dir m.from.slot after ≤ free_now mid.origin.request mid.committed mid.working → NeverDamaged r
  clear_undamaged r never room =
      never told_mid slots (from_parent g c mid.working z m name may block) node_mid after rules_mid (inside_from g z m name may) (from_set g c mid.working z m name may block) room

  -- ---- when the old slot is cleared

  module _ (bare : StoreState) (origin_bare : bare.origin ≡ old.origin) (same_bare : bare.committed ≡ old.committed) (clears : ClearsSlot mid bare m.from.dir m.from.slot)
      (is_node : IsNodeOf old m.node.number m.node.head) where
    cleared : IsStepped g c mid.working bare.working held left links (clear_writes g m.from.dir slots m.from.slot) (clear_removes g m.from.dir slots m.from.slot)
    cleared = clear_step g c mid.working z m name may block view_mid held_stands bare.working
        (subst (λ (v : View). SlotsChanged g v mid.working bare.working m.from.dir slots after (from_parent g c mid.working z m name may block) (blocks_written g slots m.from.slot) (blocks_removed g slots m.from.slot)) same_mid
        (subst (λ (o : Origin). SlotsChanged o.request mid.committed mid.working bare.working m.from.dir slots after (from_parent g c mid.working z m name may block)
        (blocks_written o.request slots m.from.slot) (blocks_removed o.request slots m.from.slot)) origin_mid
        (clears told_mid slots after (from_parent g c mid.working z m name may block) node_mid rules_mid (inside_from g z m name may) (from_set g c mid.working z m name may block))))

    -- a node with the head that it has, where another tree has it too
    named_in : (st : StoreState) (u : Tree) (named : NamedNode) (own : Node) → st.origin ≡ old.origin → StandsWith g st.working u links → IsNodeOf old named.number named.head
        → t named.number ≡ Some own → u named.number ≡ Some own → HasNamed st u links named own
    named_in st u named own origin standing is there too = record {
      told = ap (λ (o : Origin). o.tells) origin ∙ stands.told;
      stands = subst (λ (o : Origin). StandsWith o.request st.working u links) (sym origin) standing;
      there = too;
      head = subst (λ (o : Origin). named.head ≡ head_with o.request (links named.number) own) (sym origin)
          (same_head named.head (head_of_node g t named.number own) (sym (is.is_head stands.told) ∙ ap head_of_inode (stands.views.tree.heads named.number own there).inode));
    }

    pub own_node : (node : Node) × (t m.node.number ≡ Some node)
    own_node = some_at t m.node.number may.there

    pub node_left : HasNamed bare left links m.node own_node.0
    node_left = named_in bare left m.node own_node.0 origin_bare cleared.stands is_node own_node.1 (left_others g z m name may m.node.number may.not_from may.not_to ∙ own_node.1)

    -- ---- and its new parent is set

    module _ (new : StoreState) (origin_new : new.origin ≡ old.origin) (same_new : new.committed ≡ old.committed) (sets : SetsParent bare new m.node m.to.dir) where
      abbrev named : Tree
      named = with_parent left m.node.number m.to.dir

      parented : IsStepped g c bare.working new.working left named links [] []
      parented = steps_over old bare new left named links origin_bare same_bare (sets left links own_node.0 node_left)

      pub moves_alone : m.replaced ≡ None → IsEdited g c old.working new.working t (moved g t m name)
      moves_alone = moved_alone g c old.working mid.working bare.working new.working z m name may (puts z stands may) cleared parented

      -- ---- of a node that is replaced

      module _ (node : NamedNode) (is : m.replaced ≡ Some node) (is_replaced : IsNodeOf old node.number node.head) where
        placed : IsPlaced g t m name (Some node)
        placed = subst (IsPlaced g t m name) is may.placed

        pub own_replaced : (own : Node) × (t node.number ≡ Some own)
        own_replaced = some_at t node.number (may.tree.named m.to.dir node.number (slot_names t m.to.dir m.to.slot node.number (record { name = name; number = node.number }) placed.named refl)).0

        pub replaced_left : HasNamed new named links node own_replaced.0
        replaced_left = named_in new named node own_replaced.0 origin_new parented.stands is_replaced own_replaced.1
            (parent_others left m.node.number m.to.dir node.number placed.other ∙ left_others g z m name may node.number placed.not_from placed.not_to ∙ own_replaced.1)

        -- the tree without it, where it has one link, and the links then
        abbrev then : Tree
        then = cond (links node.number == 1) (with_node named node.number None) named

        abbrev less : ℕ → ℕ
        less = with_links links node.number (links node.number - 1)

        pub moves_over : (last : StoreState) → TakesLink new last node → IsEdited g c old.working last.working t (moved g t m name)
        moves_over last takes = moved_over g c old.working mid.working bare.working new.working z m name may (puts z stands may) cleared parented last.working node own_replaced.0 is own_replaced.1
            (subst (λ (v : View). IsStepped g v new.working last.working named then less [] (cond (links node.number == 1) (map (data_at node.number) (indices_of g own_replaced.0)) [])) same_new
            (subst (λ (o : Origin). IsStepped o.request new.committed new.working last.working named then less [] (cond (links node.number == 1) (map (data_at node.number) (indices_of o.request own_replaced.0)) []))
            origin_new (takes named links own_replaced.0 replaced_left)))
