-- The shape of a node by its layout.
use Rattle.std.proofs.Common.{◌≡◌, ◌≢◌, ℕ, ◌<◌, true, List, sym, ap, ◌∙◌, subst}
use Rattle.std.specs.Prelude.{◌↔◌}
use Rattle.edge_base.specs.declared.form.Form.{Form}
use Rattle.edge_base.specs.declared.geometry.Request.{Request}
use Rattle.edge_base.specs.layout.Places.{IsGeometry}
use Rattle.edge_base.specs.tree.Positions.{Position, has, positions_of, positions_of_form}
use Rattle.edge_base.proofs.ChainLaws.{has-positions_of-number}
use Rattle.edge_store.specs.View.{View, IsView, is_spot, is_whole}
use Rattle.edge_store.specs.Placed.{block_at, IsShaped}
use Rattle.edge_moves.specs.Sound.{numbered}
use Rattle.edge_shape.specs.Shape.{HasShape, IsLayout}

-- ---- a node by its layout

module _ (g : Request) (w : View) (n : ℕ) (indices : List ℕ) (to : Form → ℕ → ℕ) (geometry : IsGeometry g) (view : IsView g w) (inode : is_whole (w.inodes n) ≡ true)
    (is : (form : Form) (m : ℕ) → m < positions_of_form g form → block_at g w (numbered n form m) ≡ to form m) (layout : IsLayout g w n indices to) where
  number_of : (p : Position) → has (positions_of g n indices) p ≡ true → p.number ≡ n
  number_of p h = has-positions_of-number g n indices p h

  -- what holds of the positions of node n holds of all that are listed
  place : (m : ℕ) (form : Form) (k : ℕ) → m ≡ n → k < positions_of_form g form → (block_at g w (numbered m form k) ≢ 0) ↔ (has (positions_of g n indices) (numbered m form k) ≡ true)
  place m form k e low = subst (λ (x : ℕ). (block_at g w (numbered x form k) ≢ 0) ↔ (has (positions_of g n indices) (numbered x form k) ≡ true)) (sym e)
      ((λ some. layout.listed form k low (λ none. some (is form k low ∙ none))), (λ h none. layout.there form k h (sym (is form k low) ∙ none)))

  spot : (m : ℕ) (form : Form) (k : ℕ) → m ≡ n → has (positions_of g n indices) (numbered m form k) ≡ true → is_spot w form n (block_at g w (numbered m form k)) ≡ true
  spot m form k e = subst (λ (x : ℕ). has (positions_of g n indices) (numbered x form k) ≡ true → is_spot w form n (block_at g w (numbered x form k)) ≡ true) (sym e)
      (λ h. ap (is_spot w form n) (is form k (layout.within form k h)) ∙ layout.spots form k h)

  -- no block is at two positions, also where these are not named as ones of node n
  abbrev IsApartAt : ℕ → Form → ℕ → ℕ → Form → ℕ → Type 0
  IsApartAt m form k l other j = has (positions_of g n indices) (numbered m form k) ≡ true → has (positions_of g n indices) (numbered l other j) ≡ true
      → block_at g w (numbered m form k) ≡ block_at g w (numbered l other j) → numbered m form k ≡ numbered l other j

  once : (m : ℕ) (form : Form) (k l : ℕ) (other : Form) (j : ℕ) → m ≡ n → l ≡ n → IsApartAt m form k l other j
  once m form k l other j one two =
      subst (λ (x : ℕ). IsApartAt x form k l other j) (sym one) (subst (λ (y : ℕ). IsApartAt n form k y other j) (sym two)
      (λ h other_h same. layout.apart form other k j h other_h (sym (is form k (layout.within form k h)) ∙ same ∙ is other j (layout.within other j other_h))))

  pub shape_from_layout : HasShape g w n indices
  shape_from_layout = record {
    geometry = geometry;
    view = view;
    inode = inode;
    places = record {
      places = λ p number low. place p.number p.form p.index number low;
      spots = λ p h. spot p.number p.form p.index (number_of p h) h;
    };
    once = λ p q hp hq same. once p.number p.form p.index q.number q.form q.index (number_of p hp) (number_of q hq) hp hq same;
  }

-- ---- a node that is shaped

pub shape_from_shaped : (g : Request) (v : View) (n : ℕ) → IsGeometry g → IsView g v → (shaped : IsShaped g v n) → HasShape g v n shaped.indices
shape_from_shaped g v n geometry view shaped = record {
  geometry = geometry;
  view = view;
  inode = ap is_whole shaped.inode;
  places = shaped.places;
  once = shaped.once;
}
