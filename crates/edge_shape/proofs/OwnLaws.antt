-- A node whose pointer nodes are made new one by one, from the entry down.
use Rattle.std.proofs.Common.{◌≡◌, ◌≢◌, ℕ, ◌+◌, ◌-◌, ◌<◌, ◌≤◌, true, ltb, List, sym, ap, ◌∙◌, subst, arith, inl, inr}
use Rattle.std.proofs.lemmas.Bool.{lt-ltb, le-ltb, cond-true, cond-false}
use Rattle.edge_base.specs.declared.form.Form.{Form}
use Rattle.edge_base.specs.declared.form.Form.TheVariants.{Plain, Indirect, Double}
use Rattle.edge_base.specs.declared.geometry.Request.{Request}
use Rattle.edge_base.specs.layout.Places.{pointers_of}
use Rattle.edge_base.proofs.PositionLaws.{same_position_equiv}
use Rattle.edge_store.specs.View.{View, IsView, is_spot, is_link}
use Rattle.edge_store.specs.Placed.{entry_at, pointer_at, double_block, indirect_block, block_at}
use Rattle.edge_moves.specs.Sound.{numbered}
use Rattle.edge_moves.specs.Relinks.{number_under}
use Rattle.edge_moves.specs.Renewal.{EntryRenewed, PointerRenewed}
use Rattle.edge_moves.proofs.SpentLaws.{entry_leads}
use Rattle.edge_store.specs.Damages.{form_of_entry, form_under}
use Rattle.edge_shape.specs.Shape.{HasShape}
use Rattle.edge_shape.proofs.ListLaws.{is_false}
use Rattle.edge_shape.proofs.ShapeLaws.{entry_there, spot_at, link_at}
use Rattle.edge_shape.proofs.EntryLaws.{entry_position}
use Rattle.edge_shape.proofs.MovedLaws.{here_is, to_here, to_other, entry_moved, pointer_at_is, under_is_there, form_apart, pointer_step_of, pointer_moved}

-- ---- the pointer nodes of entries

pub single_entry : (g : Request) (v : View) (n e : ℕ) → g.direct ≤ e → e < g.direct + g.indirect → (form_of_entry g e ≡ Indirect) × (indirect_block g v n (e - g.direct) ≡ entry_at v n e)
unfolding indirect_block
single_entry g v n e past low =
    let row : e - g.direct < g.indirect = omega arith in
    let is : g.direct + (e - g.direct) ≡ e = omega arith in (
      cond-false (ltb e g.direct) _ _ (le-ltb e g.direct past) ∙ cond-true (ltb e (g.direct + g.indirect)) _ _ (lt-ltb e (g.direct + g.indirect) low),
      cond-true (ltb (e - g.direct) g.indirect) _ _ (lt-ltb (e - g.direct) g.indirect row) ∙ ap (entry_at v n) is,
    )

pub double_entry : (g : Request) (v : View) (n e : ℕ) → g.direct + g.indirect ≤ e → (form_of_entry g e ≡ Double) × (double_block g v n (e - g.direct - g.indirect) ≡ entry_at v n e)
unfolding double_block
double_entry g v n e past =
    let is : g.direct + g.indirect + (e - g.direct - g.indirect) ≡ e = omega arith in (
      cond-false (ltb e g.direct) _ _ (le-ltb e g.direct (omega arith)) ∙ cond-false (ltb e (g.direct + g.indirect)) _ _ (le-ltb e (g.direct + g.indirect) past),
      ap (entry_at v n) is,
    )

module _ (g : Request) (c v w : View) (n : ℕ) (indices : List ℕ) (shape : HasShape g v n indices) where
  -- what an entry leads to has its form and owner, and no link of the node is wrong
  pub entry_spot : (e : ℕ) → entry_at v n e ≢ 0 → is_spot v (form_of_entry g e) n (entry_at v n e) ≡ true
  entry_spot e there =
      let p = entry_position g v n e in
      (λ i. is_spot v (p.is_form i) n (p.block i)) ∙ spot_at g v n indices shape p.form p.index (λ none. there (p.block ∙ none))

  pub entry_link : (e : ℕ) → is_link g (entry_at v n e) ≡ true
  entry_link e = let p = entry_position g v n e in ap (is_link g) p.block ∙ link_at g v n indices shape p.form p.index

  -- ---- the block of an entry made new

  pub owns_entry : (e b : ℕ) → entry_at v n e ≢ 0 → EntryRenewed g c v w n e b → IsView g w → HasShape g w n indices × (entry_at w n e ≡ b)
  owns_entry e b there own view = (by own, sym (entry_leads g c v w n e b shape.view shape.inode (entry_there g v n indices shape e there) own))
    where
      by : EntryRenewed g c v w n e b → HasShape g w n indices
      by (inl kept) = subst (λ (u : View). HasShape g u n indices) (sym kept.view) shape
      by (inr was) = entry_moved g c v w n indices shape view e b there was

  -- ---- the block in a place of a pointer node made new

  pub owns_pointer : (up : Form) (m place b : ℕ) → up ≢ Plain → place < pointers_of g → block_at g v (numbered n up m) ≢ 0 → pointer_at v up (block_at g v (numbered n up m)) place ≢ 0
      → PointerRenewed g c v w up n (block_at g v (numbered n up m)) place b → IsView g w
      → HasShape g w n indices × (block_at g w (numbered n up m) ≡ block_at g v (numbered n up m)) × (block_at g w (numbered n (form_under up) (number_under g up m place)) ≡ b)
  owns_pointer up m place b node low top some own view = by own
    where
      by : PointerRenewed g c v w up n (block_at g v (numbered n up m)) place b
          → HasShape g w n indices × (block_at g w (numbered n up m) ≡ block_at g v (numbered n up m)) × (block_at g w (numbered n (form_under up) (number_under g up m place)) ≡ b)
      by (inl kept) = (
        subst (λ (u : View). HasShape g u n indices) (sym kept.view) shape,
        ap (λ (u : View). block_at g u (numbered n up m)) kept.view,
        ap (λ (u : View). block_at g u (numbered n (form_under up) (number_under g up m place))) kept.view
            ∙ sym (pointer_at_is g c v w n indices shape view up m place b node low top some) ∙ sym kept.same,
      )
      by (inr was) =
          let f = form_under up in
          let j = number_under g up m place in
          let top_block = block_at g v (numbered n up m) in
          let there = under_is_there g c v w n indices shape view up m place b node low top some in
          let step = pointer_step_of g c v w n indices shape view up m place b node low top some was in (
            pointer_moved g c v w n indices shape view up m place b node low top some was,
            to_other g c v w n indices shape f j b top_block there step up m (is_false _ (λ on. form_apart g c v w n indices shape view up m place b node low top some up node (ap (λ p. p.form) (here_is g c v w n indices shape f j b top_block there step up m on)))),
            to_here g c v w n indices shape f j b top_block there step f j (same_position_equiv.refl (numbered n f j)),
          )
