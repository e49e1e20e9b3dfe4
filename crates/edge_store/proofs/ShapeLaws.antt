-- What a node of a proper shape has for no pointer node.
use Rattle.std.proofs.Common.{◌≡◌, ◌≢◌, ℕ, ◌<◌, true, false, List, None, sym, ap, ◌∙◌, subst}
use Rattle.edge_base.specs.declared.form.Form.{Form}
use Rattle.edge_base.specs.declared.form.Form.TheVariants.{Plain, Indirect, Double}
use Rattle.edge_base.specs.declared.geometry.Request.{Request}
use Rattle.edge_base.specs.layout.Places.{max_blocks_of}
use Rattle.edge_base.specs.tree.Positions.{has, data_at, indirect_at, double_at, positions_of}
use Rattle.edge_store.specs.View.{View, content, is_owned_by}
use Rattle.edge_store.specs.Placed.{data_block, HasPlaces, IsOnce}
use Rattle.edge_store.specs.Frames.{IsNoNodeOf}

module _ (g : Request) (v : View) (n : ℕ) (indices : List ℕ) (places : HasPlaces g v n indices) where
  plain_indirect : (i j : ℕ) → data_at n i ≢ indirect_at n j
  plain_indirect i j e = let f : Plain ≡ Indirect = ap (λ p. p.form) e in cc

  plain_double : (i d : ℕ) → data_at n i ≢ double_at n d
  plain_double i d e = let f : Plain ≡ Double = ap (λ p. p.form) e in cc

  -- a data block of the node
  pub IsNoNodeOf-data : IsOnce g v n indices → (i : ℕ) → i < max_blocks_of g → data_block g v n i ≢ 0 → IsNoNodeOf g v n (data_block g v n i)
  IsNoNodeOf-data once i h there =
      let here : has (positions_of g n indices) (data_at n i) ≡ true = (places.places (data_at n i) (λ t. n) h).0 there in
      record {
        indirect = λ j below e. plain_indirect i j (once (data_at n i) (indirect_at n j) here ((places.places (indirect_at n j) (λ t. n) below).0 (λ none. there (sym e ∙ none))) (sym e));
        double = λ d below e. plain_double i d (once (data_at n i) (double_at n d) here ((places.places (double_at n d) (λ t. n) below).0 (λ none. there (sym e ∙ none))) (sym e));
      }

  -- a block that is not used
  pub IsNoNodeOf-unused : (b : ℕ) → b ≢ 0 → v.blocks b ≡ None → IsNoNodeOf g v n b
  IsNoNodeOf-unused b some unused = record {
    indirect = λ j below e. not_spot Indirect (subst (λ (c : ℕ). is_owned_by n (content Indirect (v.blocks c)) ≡ true) e
        (places.spots (indirect_at n j) ((places.places (indirect_at n j) (λ t. n) below).0 (λ none. some (sym e ∙ none)))));
    double = λ d below e. not_spot Double (subst (λ (c : ℕ). is_owned_by n (content Double (v.blocks c)) ≡ true) e
        (places.spots (double_at n d) ((places.places (double_at n d) (λ t. n) below).0 (λ none. some (sym e ∙ none)))));
  }
    where
      not_spot : (form : Form) → is_owned_by n (content form (v.blocks b)) ≡ true → ⊥
      not_spot form owned = none (subst (λ o. is_owned_by n (content form o) ≡ true) unused owned)
        where
          none : false ≡ true → ⊥
          none e = cc
