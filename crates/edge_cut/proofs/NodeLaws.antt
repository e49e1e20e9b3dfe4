-- A node of some shape stays sound, step by step, while it is cut.
use Rattle.std.proofs.Common.{◌≡◌, ◌≢◌, ℕ, ◌+◌, ◌-◌, ◌<◌, false, List, refl, sym, ◌∙◌, subst, arith}
use Rattle.edge_base.specs.declared.form.Form.{Form}
use Rattle.edge_base.specs.declared.form.Form.TheVariants.{Plain, Indirect, Double}
use Rattle.edge_base.specs.declared.geometry.Request.{Request}
use Rattle.edge_base.specs.layout.Places.{pointers_of}
use Rattle.edge_store.specs.Placed.{double_block, indirect_block}
use Rattle.edge_store.specs.View.{View, IsView}
use Rattle.edge_moves.specs.Relinks.{number_under}
use Rattle.edge_moves.specs.Renewal.{EntryRenewed, PointerRenewed}
use Rattle.edge_shape.specs.declared.cut.Cut.TheVariants.{Both}
use Rattle.edge_shape.specs.Shape.{HasShape}
use Rattle.edge_shape.specs.Trees.{in_tree, IsSoundTree, IsSoundInode}
use Rattle.edge_shape.specs.Cutting.{CutPlaces}
use Rattle.edge_shape.specs.Where.{GoesThrough}
use Rattle.edge_shape.proofs.EntryCutLaws.{sound_at, sound_inode}
use Rattle.edge_shape.proofs.LeftLaws.{in_double}
use Rattle.edge_shape.proofs.ShapeLaws.{indirect_pointer}
use Rattle.edge_shape.proofs.TrimLaws.{node_trims, top_trims}
use Rattle.edge_shape.proofs.CutLaws.{is_block, node_owned, node_sound, is_top, top_owned, top_sound, stays_top, moved, top_is, both_node_sound, both_node_trimmed, top_still, stays_rest, both_top_sound}
use Rattle.edge_cut.specs.Cuts.{node_cut}

module _ (g : Request) (c v : View) (n : ℕ) (indices : List ℕ) (shape : HasShape g v n indices) where
  -- ---- one pointer node

  pub node_tree : (entry place : ℕ) (f : Form) → f ≢ Plain → GoesThrough g indices (node_cut f entry place) → (owned : View) (block : ℕ) → EntryRenewed g c v owned n entry block → IsView g owned
      → IsSoundTree g owned f n block
  node_tree entry place Plain node t owned block own view = absurd (node refl)
  node_tree entry place Indirect node t owned block own view = node_sound g c v n indices shape entry place t.0 t.1 t.2 t.3 owned block own view
  node_tree entry place Double node t owned block own view = top_sound g c v n indices shape entry place t.0 t.1 t.2 owned block own view

  pub node_rest : (entry place : ℕ) (f : Form) → f ≢ Plain → GoesThrough g indices (node_cut f entry place) → (owned : View) (block : ℕ) → EntryRenewed g c v owned n entry block → IsView g owned
      → (trimmed : View) → IsView g trimmed → CutPlaces owned trimmed f n block place (pointers_of g) → IsSoundInode g trimmed n (entry + 1)
  node_rest entry place Plain node t owned block own view trimmed trimmed_view cut = absurd (node refl)
  node_rest entry place Indirect node t owned block own view trimmed trimmed_view cut =
      let made = node_owned g c v n indices shape entry place t.0 t.1 t.2 t.3 owned block own view in
      let is = is_block g c v n indices shape entry place t.0 t.1 t.2 t.3 owned block own view in
      let one = node_trims g owned trimmed n indices made trimmed_view (entry - g.direct) place t.2 t.3 (subst (λ (b : ℕ). CutPlaces owned trimmed Indirect n b place (pointers_of g)) (sym is) cut) in
      sound_inode g trimmed n _ one.shape (entry + 1)
  node_rest entry place Double node t owned block own view trimmed trimmed_view cut =
      let made = top_owned g c v n indices shape entry place t.0 t.1 t.2 owned block own view in
      let is = is_top g c v n indices shape entry place t.0 t.1 t.2 owned block own view in
      let one = top_trims g owned trimmed n indices made trimmed_view (entry - g.direct - g.indirect) place t.1 t.2 (subst (λ (b : ℕ). CutPlaces owned trimmed Double n b place (pointers_of g)) (sym is) cut) in
      sound_inode g trimmed n _ one.shape (entry + 1)

  -- ---- two pointer nodes

  module _ (entry outer place : ℕ) (t : GoesThrough g indices (Both entry outer place)) (one : View) (top : ℕ) (own_top : EntryRenewed g c v one n entry top) (one_view : IsView g one)
      (two : View) (node : ℕ) (own_node : PointerRenewed g c one two Double n top outer node) (two_view : IsView g two) where
    abbrev d : ℕ
    d = entry - g.direct - g.indirect

    pub pair_tree : IsSoundTree g two Indirect n node
    pair_tree = both_node_sound g c v n indices shape entry outer place t.0 t.1 t.2 t.3 one top own_top one_view two node own_node two_view

    made : HasShape g two n indices × (double_block g two n d ≡ double_block g one n d) × (indirect_block g two n (number_under g Double d outer) ≡ node)
    made = moved g c v n indices shape entry outer place t.0 t.1 t.2 t.3 one top own_top one_view two node own_node two_view

    -- the double-indirect node does not hang under the indirect one
    pub pair_away : in_tree two Indirect node top ≡ false
    pair_away =
        let low : outer < pointers_of g = t.1 in
        let is : double_block g two n d ≡ top = made.1 ∙ top_is g c v n indices shape entry outer place t.0 t.1 t.2 t.3 one top own_top one_view in
        let stay = stays_top g c v n indices shape entry outer place t.0 t.1 t.2 t.3 in
        let there = (in_double g two n indices made.0 d 0 (outer + 1) (omega arith) stay).3 in
        let tree = sound_at g two n indices made.0 Double d there in
        let value = indirect_pointer g two n indices made.0 d there outer low ∙ made.2 in
        (λ i. in_tree two Indirect (sym value i) (sym is i)) ∙ tree.list.itself outer low

    module _ (three : View) (three_view : IsView g three) (cut : CutPlaces two three Indirect n node place (pointers_of g)) where
      pub pair_top_tree : IsSoundTree g three Double n top
      pair_top_tree = both_top_sound g c v n indices shape entry outer place t.0 t.1 t.2 t.3 one top own_top one_view two node own_node two_view three three_view cut

      pub pair_rest : (four : View) → IsView g four → CutPlaces three four Double n top (outer + 1) (pointers_of g) → IsSoundInode g four n (entry + 1)
      pair_rest four four_view cut_top =
          let low : outer < pointers_of g = t.1 in
          let trimmed = both_node_trimmed g c v n indices shape entry outer place t.0 t.1 t.2 t.3 one top own_top one_view two node own_node two_view three three_view cut in
          let still = top_still g c v n indices shape entry outer place t.0 t.1 t.2 t.3 one top own_top one_view two node own_node two_view three three_view cut in
          let stay = stays_rest g c v n indices shape entry outer place t.0 t.1 t.2 t.3 one top own_top one_view two node own_node two_view three three_view cut in
          let two_trims = top_trims g three four n _ trimmed four_view d (outer + 1) (omega arith) stay (subst (λ (b : ℕ). CutPlaces three four Double n b (outer + 1) (pointers_of g)) (sym still) cut_top) in
          sound_inode g four n _ two_trims.shape (entry + 1)
