-- A name cleared: what the view stands for when its node has lost a link, or was dropped with it.
use Rattle.std.proofs.Common.{◌≡◌, ◌≢◌, ◌∙◌, ℕ, ◌+◌, ◌-◌, ◌/◌, Bool, true, false, cond, List, [], ◌∷◌, ◌++◌, map, is_some, unwrap_or, refl, sym, ap, subst, Option, Some, None}
use Rattle.std.specs.Prelude.{nat_lt, if◌then◌else◌}
use Rattle.std.specs.List.{range_with_len}
use Rattle.edge_base.specs.declared.geometry.Request.{Request}
use Rattle.edge_base.specs.layout.Places.{IsGeometry}
use Rattle.edge_base.specs.tree.Nodes.{Node, file, directory, indices_of}
use Rattle.edge_base.specs.tree.Positions.{Position, data_at}
use Rattle.edge_base.specs.tree.Slots.{Entry, Slots, slot_blocks, slots_in_block}
use Rattle.edge_store.specs.Effects.{HeadSet, InodeDropped}
use Rattle.edge_store.specs.View.{View, IsView}
use Rattle.edge_shape.specs.Cut.{IsCut}
use Rattle.edge_model.specs.Named.{cleared, clear_writes, clear_removes, without_slot}
use Rattle.edge_model.specs.Rules.{IsTree}
use Rattle.edge_model.specs.Tree.{Tree, data_positions, is_directory, links_of, slots_at, slots_of_node, with_node}
use Rattle.edge_image.specs.Opens.{StandsFor}
use Rattle.edge_file.proofs.RangeLaws.{append_none}
use Rattle.edge_dir.specs.Written.{SlotsChanged}
use Rattle.edge_steps.specs.Naming.{slot_of}
use Rattle.edge_steps.proofs.NodeLaws.{node_set, slots_are}
use Rattle.edge_steps.proofs.SetLaws.{cleared_is, set_as_it_was}
use Rattle.edge_stands.specs.Dirtied.{TreeDirtied}
use Rattle.edge_stands.specs.Stands.{StandsWith, HasSameBlocks, head_with, with_links}
use Rattle.edge_stands.proofs.NodeLaws.{with_links_of, agreed_links}
use Rattle.edge_stands.proofs.HeadLaws.{head_set, head_tree}
use Rattle.edge_stands.proofs.DirtyLaws.{tree_twice}
use Rattle.edge_names.proofs.DropLaws.{dropped_stands, dropped_dirties}
use Rattle.edge_names.proofs.SlotsLaws.{slots_stand, slots_dirtied}
use Rattle.edge_names.proofs.UnlinkLaws.{unlinked_links, dropped_links}

-- the data blocks of a directory that are written and that are removed when a slot is cleared
abbrev pub blocks_written : Request → Slots → ℕ → List ℕ
blocks_written g slots slot = if nat_lt (slot / slots_in_block g) (slot_blocks g (without_slot slots slot)) then slot / slots_in_block g ∷ [] else []

abbrev pub blocks_removed : Request → Slots → ℕ → List ℕ
blocks_removed g slots slot = range_with_len (slot_blocks g (without_slot slots slot)) (slot_blocks g slots - slot_blocks g (without_slot slots slot))

pub written_at : (g : Request) (d slot : ℕ) (slots : Slots) → map (data_at d) (blocks_written g slots slot) ≡ clear_writes g d slots slot
written_at g d slot slots = by (nat_lt (slot / slots_in_block g) (slot_blocks g (without_slot slots slot)))
  where
    by : (left : Bool) → map (data_at d) (cond left (slot / slots_in_block g ∷ []) []) ≡ cond left (data_at d (slot / slots_in_block g) ∷ []) []
    by true = refl
    by false = refl

module _ (g : Request) (c u v : View) (t : Tree) (d slot n : ℕ) (e : Entry) (slots : Slots) (parent : ℕ) (view_u : IsView g u) (tree : IsTree g t) (stands : StandsFor g u t)
    (there : t d ≡ Some (directory slots parent)) (named : slot_of t d slot ≡ Some e) (number : e.number ≡ n) (apart : d ≢ n)
    (changed : SlotsChanged g c u v d slots (without_slot slots slot) parent (blocks_written g slots slot) (blocks_removed g slots slot)) where
  abbrev left : Tree
  left = cleared t d slot

  abbrev writes : List Position
  writes = clear_writes g d (slots_at t d) slot

  abbrev removes : List Position
  removes = clear_removes g d (slots_at t d) slot

  first : StandsWith g u t (links_of g t)
  first = (with_links_of g u t).0 stands

  pub left_stands : StandsWith g v left (links_of g t)
  left_stands = subst (λ (x : Tree). StandsWith g v x (links_of g t)) (sym (cleared_is t d slot slots parent there))
      (slots_stand g c u v t (links_of g t) d slots (without_slot slots slot) parent (blocks_written g slots slot) (blocks_removed g slots slot) view_u first there changed)

  left_dirtied : TreeDirtied g c u v t left writes removes
  left_dirtied = subst (λ (s : Slots). TreeDirtied g c u v t left (clear_writes g d s slot) (clear_removes g d s slot)) (sym (slots_are t d slots parent there))
      (subst (λ (ws : List Position). TreeDirtied g c u v t left ws (clear_removes g d slots slot)) (written_at g d slot slots)
      (subst (λ (x : Tree). TreeDirtied g c u v t x (map (data_at d) (blocks_written g slots slot)) (map (data_at d) (blocks_removed g slots slot))) (sym (cleared_is t d slot slots parent there))
      (slots_dirtied g c u v t (links_of g t) d slots (without_slot slots slot) parent (blocks_written g slots slot) (blocks_removed g slots slot) view_u first there changed)))

  -- what has number n stays there
  pub left_node : left n ≡ t n
  left_node = ap (λ (x : Tree). x n) (cleared_is t d slot slots parent there) ∙ (node_set t d (Some (directory (without_slot slots slot) parent))).others n (λ same. apart (sym same))

  -- ---- a file that has other names

  module _ (w : View) (node : Node) (view_v : IsView g v) (node_there : t n ≡ Some node) (file_there : is_directory t n ≡ false) (set : HeadSet v w n (head_with g (links_of g t n - 1) node)) where
    same : HasSameBlocks g node node
    same = record { indices = refl; blocks = λ i. refl }

    as_it_was : with_node left n (Some node) ≡ left
    as_it_was = ap (λ (o : Option Node). with_node left n o) (sym (left_node ∙ node_there)) ∙ set_as_it_was left n

    pub unlinked_stands : StandsFor g w left
    unlinked_stands = agreed_links g w left (with_links (links_of g t) n (links_of g t n - 1))
        (subst (λ (x : Tree). StandsWith g w x (with_links (links_of g t) n (links_of g t n - 1))) as_it_was
        (head_set g v w left (links_of g t) n node node (links_of g t n - 1) view_v left_stands (left_node ∙ node_there) same set))
        (λ x is. unlinked_links g t d slot e slots parent tree there named n number file_there x)

    pub unlinked_dirties : TreeDirtied g c u w t left writes removes
    unlinked_dirties = subst (λ (rs : List Position). TreeDirtied g c u w t left writes rs) (append_none removes)
        (subst (λ (ws : List Position). TreeDirtied g c u w t left ws (removes ++ [])) (append_none writes)
        (tree_twice g c u v w t left left writes removes [] [] left_dirtied
        (subst (λ (x : Tree). TreeDirtied g c v w left x [] []) as_it_was (head_tree g v w left (links_of g t) n node node (links_of g t n - 1) view_v left_stands (left_node ∙ node_there) same set c))))

  -- ---- a node that is dropped with its name

  module _ (x w : View) (node : Node) (geometry : IsGeometry g) (view_v : IsView g v) (node_there : t n ≡ Some node) (slotless : slots_of_node node ≡ []) (cut : IsCut g c v x n 0 (indices_of g node))
      (dropped : InodeDropped x w n) where
    abbrev gone : Tree
    gone = with_node left n None

    no_slots : slots_at t n ≡ []
    no_slots = ap (λ (o : Option Node). slots_of_node (unwrap_or o (file [] []))) node_there ∙ slotless

    others_there : (m : ℕ) → is_some (gone m) ≡ true → m ≡ n → ⊥
    others_there m is same = absurd (let wrong : false ≡ true = sym (ap (λ (o : Option Node). is_some o) (ap gone same ∙ (node_set left n None).here)) ∙ is in cc)

    pub gone_stands : StandsFor g w gone
    gone_stands = agreed_links g w gone (links_of g t) (dropped_stands g c v x w left (links_of g t) n node geometry view_v left_stands (left_node ∙ node_there) cut dropped)
        (λ m is. dropped_links g t d slot e slots parent tree there named n number apart no_slots m (others_there m is))

    pub gone_dirties : TreeDirtied g c u w t gone writes (removes ++ data_positions g t n)
    gone_dirties = subst (λ (o : Node). TreeDirtied g c u w t gone writes (removes ++ map (data_at n) (indices_of g o))) (sym (ap (λ (o : Option Node). unwrap_or o (file [] [])) node_there))
        (subst (λ (ws : List Position). TreeDirtied g c u w t gone ws (removes ++ map (data_at n) (indices_of g node))) (append_none writes)
        (tree_twice g c u v w t left gone writes removes [] (map (data_at n) (indices_of g node)) left_dirtied
        (dropped_dirties g c v x w left (links_of g t) n node geometry view_v left_stands (left_node ∙ node_there) cut dropped)))
