-- What becomes of the blocks of a node in a cut, behind the pointer nodes that are made new.
use Rattle.std.proofs.Common.{◌≡◌, ℕ, ◌+◌, ◌-◌, ◌<◌, ◌≤◌, List, sym, ap, ◌∙◌, subst, arith}
use Rattle.edge_base.specs.declared.form.Form.TheVariants.{Indirect, Double}
use Rattle.edge_base.specs.declared.geometry.Request.{Request}
use Rattle.edge_base.specs.layout.Places.{pointers_of}
use Rattle.edge_store.specs.View.{View, IsView}
use Rattle.edge_moves.specs.Relinks.{number_under}
use Rattle.edge_shape.specs.declared.cut.Cut.TheVariants.{Whole, Node, Top, Both}
use Rattle.edge_shape.specs.Shape.{HasShape, before, outside}
use Rattle.edge_shape.specs.Cutting.{CutPlaces}
use Rattle.edge_shape.specs.Trimmed.{Trims}
use Rattle.edge_shape.specs.Where.{first_gone, GoesThrough}
use Rattle.edge_shape.specs.Steps.{NodeSteps, BothSteps, Steps}
use Rattle.edge_shape.proofs.EntryCutLaws.{sound_inode}
use Rattle.edge_shape.proofs.LeftLaws.{some}
use Rattle.edge_shape.proofs.CutLaws.{two_ranges, three_ranges, node_end, single_end, double_end, places_up, is_block, node_owned, node_sound, is_top, top_owned, top_sound, moved, both_owned, both_node_sound, top_still, stays_rest, both_top_sound}
use Rattle.edge_shape.proofs.TrimLaws.{trims_twice, node_trims, top_trims, entries_trims}

module _ (g : Request) (c v : View) (n : ℕ) (indices : List ℕ) (shape : HasShape g v n indices) (w : View) (view : IsView g w) where
  positive : 0 < pointers_of g
  positive = some g v n indices shape

  pub whole_tail : (entry : ℕ) → Steps g c v w n (Whole entry) → Trims g v w n indices (before (first_gone g (Whole entry)) indices)
  whole_tail entry s = entries_trims g v w n indices shape view entry (s (sound_inode g v n indices shape entry))

  pub node_tail : (entry place : ℕ) → GoesThrough g indices (Node entry place) → (s : NodeSteps g c v w n entry Indirect place) → Trims g s.owned w n indices (before (first_gone g (Node entry place)) indices)
  node_tail entry place t s =
      let owned = node_owned g c v n indices shape entry place t.0 t.1 t.2 t.3 s.owned s.block s.own s.owned_view in
      let is = is_block g c v n indices shape entry place t.0 t.1 t.2 t.3 s.owned s.block s.own s.owned_view in
      let sound = node_sound g c v n indices shape entry place t.0 t.1 t.2 t.3 s.owned s.block s.own s.owned_view in
      let lo = number_under g Indirect (entry - g.direct) place in
      let high = number_under g Indirect (entry - g.direct) (pointers_of g) in
      let one = node_trims g s.owned s.trimmed n indices owned s.trimmed_view (entry - g.direct) place t.2 t.3 (subst (λ (b : ℕ). CutPlaces s.owned s.trimmed Indirect n b place (pointers_of g)) (sym is) (s.cut sound)) in
      let two = entries_trims g s.trimmed w n (outside lo high indices) one.shape view (entry + 1) (s.rest (sound_inode g s.trimmed n (outside lo high indices) one.shape (entry + 1))) in
      let most : place ≤ pointers_of g = t.2 in
      subst (Trims g s.owned w n indices) (ap (λ (m : ℕ). before m (outside lo high indices)) (single_end g positive entry t.0 t.1) ∙ two_ranges lo high indices (omega arith))
      (trims_twice g s.owned s.trimmed w n indices (outside lo high indices) _ owned one two)

  pub top_tail : (entry place : ℕ) → GoesThrough g indices (Top entry place) → (s : NodeSteps g c v w n entry Double place) → Trims g s.owned w n indices (before (first_gone g (Top entry place)) indices)
  top_tail entry place t s =
      let owned = top_owned g c v n indices shape entry place t.0 t.1 t.2 s.owned s.block s.own s.owned_view in
      let is = is_top g c v n indices shape entry place t.0 t.1 t.2 s.owned s.block s.own s.owned_view in
      let sound = top_sound g c v n indices shape entry place t.0 t.1 t.2 s.owned s.block s.own s.owned_view in
      let d : ℕ = entry - g.direct - g.indirect in
      let lo = number_under g Indirect (number_under g Double d place) 0 in
      let high = number_under g Indirect (number_under g Double d (pointers_of g)) 0 in
      let one = top_trims g s.owned s.trimmed n indices owned s.trimmed_view d place t.1 t.2 (subst (λ (b : ℕ). CutPlaces s.owned s.trimmed Double n b place (pointers_of g)) (sym is) (s.cut sound)) in
      let two = entries_trims g s.trimmed w n (outside lo high indices) one.shape view (entry + 1) (s.rest (sound_inode g s.trimmed n (outside lo high indices) one.shape (entry + 1))) in
      subst (Trims g s.owned w n indices) (ap (λ (m : ℕ). before m (outside lo high indices)) (double_end g positive entry t.0) ∙ two_ranges lo high indices (places_up g positive d place (pointers_of g) t.1))
      (trims_twice g s.owned s.trimmed w n indices (outside lo high indices) _ owned one two)

  pub both_tail : (entry outer place : ℕ) → GoesThrough g indices (Both entry outer place) → (s : BothSteps g c v w n entry outer place) → Trims g s.two w n indices (before (first_gone g (Both entry outer place)) indices)
  both_tail entry outer place t s =
      let d : ℕ = entry - g.direct - g.indirect in
      let node : ℕ = number_under g Double d outer in
      let lo = number_under g Indirect node place in
      let mid = number_under g Indirect node (pointers_of g) in
      let from = number_under g Indirect (number_under g Double d (outer + 1)) 0 in
      let high = number_under g Indirect (number_under g Double d (pointers_of g)) 0 in
      let middle = outside lo mid indices in
      let owned = both_owned g c v n indices shape entry outer place t.0 t.1 t.2 t.3 s.one s.top s.own_top s.one_view s.two s.node s.own_node s.two_view in
      let made = moved g c v n indices shape entry outer place t.0 t.1 t.2 t.3 s.one s.top s.own_top s.one_view s.two s.node s.own_node s.two_view in
      let node_tree = both_node_sound g c v n indices shape entry outer place t.0 t.1 t.2 t.3 s.one s.top s.own_top s.one_view s.two s.node s.own_node s.two_view in
      let cut_node = s.cut_node node_tree in
      let one = node_trims g s.two s.three n indices owned s.three_view node place t.2 t.3 (subst (λ (b : ℕ). CutPlaces s.two s.three Indirect n b place (pointers_of g)) (sym made.2) cut_node) in
      let still = top_still g c v n indices shape entry outer place t.0 t.1 t.2 t.3 s.one s.top s.own_top s.one_view s.two s.node s.own_node s.two_view s.three s.three_view cut_node in
      let stay = stays_rest g c v n indices shape entry outer place t.0 t.1 t.2 t.3 s.one s.top s.own_top s.one_view s.two s.node s.own_node s.two_view s.three s.three_view cut_node in
      let top_tree = both_top_sound g c v n indices shape entry outer place t.0 t.1 t.2 t.3 s.one s.top s.own_top s.one_view s.two s.node s.own_node s.two_view s.three s.three_view cut_node in
      let low : outer < pointers_of g = t.1 in
      let two = top_trims g s.three s.four n middle one.shape s.four_view d (outer + 1) (omega arith) stay (subst (λ (b : ℕ). CutPlaces s.three s.four Double n b (outer + 1) (pointers_of g)) (sym still) (s.cut_top top_tree)) in
      let end = outside from high middle in
      let three = entries_trims g s.four w n end two.shape view (entry + 1) (s.rest (sound_inode g s.four n end two.shape (entry + 1))) in
      let most : place ≤ pointers_of g = t.2 in
      let up = places_up g positive d (outer + 1) (pointers_of g) (omega arith) in
      let next : mid ≡ from = node_end g positive node ∙ ap (λ (m : ℕ). number_under g Indirect m 0) (let is : node + 1 ≡ number_under g Double d (outer + 1) = omega arith in is) in
      subst (Trims g s.two w n indices)
      (ap (λ (m : ℕ). before m end) (double_end g positive entry t.0) ∙ (λ i. before high (outside (sym next i) high middle)) ∙ three_ranges lo mid high indices (omega arith) (omega arith))
      (trims_twice g s.two s.three w n indices middle _ owned one (trims_twice g s.three s.four w n middle end _ one.shape two three))
