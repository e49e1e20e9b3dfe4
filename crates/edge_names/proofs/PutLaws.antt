-- A name that may be moved put into its new slot, and then its old slot cleared: the directories in the views that stand for the trees between.
use Rattle.std.proofs.Common.{◌≡◌, ◌∙◌, ℕ, ◌/◌, ◌<◌, true, List, [], ◌∷◌, sym, ap, Some, None}
use Rattle.edge_base.specs.declared.geometry.Request.{Request}
use Rattle.edge_base.specs.layout.Places.{max_blocks_of}
use Rattle.edge_base.specs.tree.NodeRules.{IsDirectory}
use Rattle.edge_base.specs.tree.Nodes.{directory}
use Rattle.edge_base.specs.tree.Slots.{Slots, slots_in_block}
use Rattle.edge_store.specs.Placed.{HasNode}
use Rattle.edge_store.specs.View.{View, IsView}
use Rattle.edge_model.specs.Named.{clear_writes, clear_removes, slot_position, with_slot, without_slot}
use Rattle.edge_model.specs.State.{State}
use Rattle.edge_model.specs.Tree.{Tree, is_directory, links_of, slots_at}
use Rattle.edge_image.specs.Opens.{StandsFor}
use Rattle.edge_dir.specs.Written.{IsSetTo, SlotsChanged}
use Rattle.edge_steps.proofs.NodeLaws.{base_of, directory_is, directory_rules, node_set, slots_are}
use Rattle.edge_steps.proofs.SetLaws.{placed_is}
use Rattle.edge_steps.proofs.SlotLaws.{cleared_here, cleared_elsewhere}
use Rattle.edge_stands.specs.Stands.{StandsWith}
use Rattle.edge_stands.proofs.NodeLaws.{with_links_of}
use Rattle.edge_stands.proofs.StandingLaws.{each_node}
use Rattle.edge_names.specs.Moved.{MayMove}
use Rattle.edge_names.specs.Stepped.{IsStepped}
use Rattle.edge_names.specs.declared.moves.Move.{Move}
use Rattle.edge_names.proofs.MoveTreeLaws.{held_base, held_of, left_of, from_then, inside_to, new_entry, left_rules}
use Rattle.edge_names.proofs.StepLaws.{placed_step, cleared_step}
use Rattle.edge_names.proofs.StoreLaws.{filled_slot}
use Rattle.edge_names.proofs.UnnamedLaws.{blocks_written, blocks_removed}

-- a directory of a tree, by its slots
there_by_slots : (t : Tree) (d : ℕ) → is_directory t d ≡ true → (parent : ℕ) × (t d ≡ Some (directory (slots_at t d) parent))
there_by_slots t d kind =
    let is = directory_is t d kind in
    (is.1, is.2 ∙ ap (λ (s : Slots). Some (directory s is.1)) (sym (slots_are t d is.0 is.1 is.2)))

module _ (g : Request) (c u : View) (z : State) (m : Move) (name : List ℕ) (may : MayMove g z m name) (block : m.to.slot / slots_in_block g < max_blocks_of g) where
  abbrev t : Tree
  t = z.tree

  abbrev held : Tree
  held = held_of z.tree m name

  abbrev after : Slots
  after = with_slot (slots_at t m.to.dir) m.to.slot (new_entry m name)

  pub to_there : (parent : ℕ) × (t m.to.dir ≡ Some (directory (slots_at t m.to.dir) parent))
  to_there = there_by_slots t m.to.dir may.to

  abbrev pub to_parent : ℕ
  to_parent = to_there.0

  pub to_rules : IsDirectory g after
  to_rules = (held_base g z m name may block).nodes m.to.dir (directory after to_there.0)
      (ap (λ (x : Tree). x m.to.dir) (placed_is t m.to.dir m.to.slot (new_entry m name) (slots_at t m.to.dir) to_there.0 to_there.1) ∙ (node_set t m.to.dir (Some (directory after to_there.0))).here)

  pub to_set : IsSetTo (slots_at t m.to.dir) after m.to.slot (Some (new_entry m name))
  to_set = filled_slot (slots_at t m.to.dir) m.to.slot (new_entry m name) (inside_to g z m name may)

  module _ (view : IsView g u) (stands : StandsFor g u z.tree) where
    standing : StandsWith g u t (links_of g t)
    standing = (with_links_of g u t).0 stands

    pub to_node : HasNode g u m.to.dir (directory (slots_at t m.to.dir) to_parent)
    to_node = each_node g u t (links_of g t) view standing m.to.dir (directory (slots_at t m.to.dir) to_there.0) to_there.1 (directory_rules g t m.to.dir (base_of g t may.tree) may.to)

    pub put_step : (v : View) → SlotsChanged g c u v m.to.dir (slots_at t m.to.dir) after to_parent (m.to.slot / slots_in_block g ∷ []) []
        → IsStepped g c u v t held (links_of g t) (slot_position g m.to.dir m.to.slot ∷ []) []
    put_step v changed = placed_step g c u v t (links_of g t) m.to.dir m.to.slot (slots_at t m.to.dir) to_there.0 view standing to_there.1 (new_entry m name) changed

  -- ---- the old slot

  abbrev slots : Slots
  slots = slots_at held m.from.dir

  pub from_there : (parent : ℕ) × (held m.from.dir ≡ Some (directory (slots_at held m.from.dir) parent))
  from_there = there_by_slots held m.from.dir (from_then g z m name may)

  abbrev pub from_parent : ℕ
  from_parent = from_there.0

  pub from_rules : IsDirectory g (without_slot slots m.from.slot)
  from_rules = left_rules g z m name may block from_there.0 from_there.1

  pub from_set : IsSetTo slots (without_slot slots m.from.slot) m.from.slot None
  from_set = (cleared_here slots m.from.slot, λ j other. cleared_elsewhere slots m.from.slot j other)

  module _ (view : IsView g u) (stands : StandsWith g u held (links_of g z.tree)) where
    pub from_node : HasNode g u m.from.dir (directory slots from_parent)
    from_node = each_node g u held (links_of g t) view stands m.from.dir (directory slots from_there.0) from_there.1 (directory_rules g held m.from.dir (held_base g z m name may block) (from_then g z m name may))

    pub clear_step : (v : View) → SlotsChanged g c u v m.from.dir slots (without_slot slots m.from.slot) from_parent (blocks_written g slots m.from.slot) (blocks_removed g slots m.from.slot)
        → IsStepped g c u v held (left_of z.tree m name) (links_of g t) (clear_writes g m.from.dir slots m.from.slot) (clear_removes g m.from.dir slots m.from.slot)
    clear_step v changed = cleared_step g c u v held (links_of g t) m.from.dir m.from.slot slots from_there.0 view stands from_there.1 changed
