-- Links that last while blocks are dropped.
use Rattle.std.proofs.Common.{◌≡◌, ℕ, ◌<◌, Option, cond, eqb, refl, sym, ap, ◌∙◌, subst}
use Rattle.std.specs.Prelude.{slice_index, true}
use Rattle.edge_base.specs.declared.form.Form.{Form}
use Rattle.edge_base.specs.declared.form.Form.TheVariants.{Plain, Indirect, Double}
use Rattle.edge_base.specs.declared.geometry.Request.{Request}
use Rattle.edge_base.specs.layout.Places.{pointers_of}
use Rattle.edge_store.specs.Damages.{IsLinked, by_entry, by_place, form_of_entry}
use Rattle.edge_store.specs.Placed.{entry_at, pointer_at}
use Rattle.edge_store.specs.View.{View, Inode, Block, content, entries_in, entries_of_inode, is_owned_by, is_spot}
use Rattle.edge_cut.specs.Dropped.{IsAtEntry, StaysLinked}

-- a block of an entry is linked whatever becomes of the blocks
pub at_entry_linked : (g : Request) (v w : View) (n : ℕ) (form : Form) (b : ℕ) → IsAtEntry g v n form b → w.inodes ≡ v.inodes → IsLinked g w n form b
at_entry_linked g v w n form b at same =
    let is : entry_at w n at.entry ≡ b = ap (λ (o : ℕ → Option Inode). slice_index (entries_of_inode (o n)) at.entry) same ∙ at.block in
    subst (λ (f : Form). IsLinked g w n f b) at.is_form (subst (λ (x : ℕ). IsLinked g w n (form_of_entry g at.entry) x) is (by_entry at.entry at.low))

pub at_entry_stays : (g : Request) (v : View) (n top : ℕ) (form : Form) (b : ℕ) → IsAtEntry g v n form b → StaysLinked g v n top form b
at_entry_stays g v n top form b at = λ w inodes kept. at_entry_linked g v w n form b at inodes

pub at_entry_same : (g : Request) (v w : View) (n : ℕ) (form : Form) (b : ℕ) → w.inodes ≡ v.inodes → IsAtEntry g v n form b → IsAtEntry g w n form b
at_entry_same g v w n form b same at = record {
  entry = at.entry;
  low = at.low;
  is_form = at.is_form;
  block = ap (λ (o : ℕ → Option Inode). slice_index (entries_of_inode (o n)) at.entry) same ∙ at.block;
}

-- only an entry leads to a double-indirect node
pub double_at_entry : (g : Request) (v : View) (n : ℕ) (form : Form) (b : ℕ) → IsLinked g v n form b → form ≡ Double → IsAtEntry g v n form b
double_at_entry g v n form b (by_entry e low) is = record { entry = e; low = low; is_form = refl; block = refl }
double_at_entry g v n form b (by_place Double c i node linked spot low) is = absurd (let h : Indirect ≡ Double = is in cc)
double_at_entry g v n form b (by_place Indirect c i node linked spot low) is = absurd (let h : Plain ≡ Double = is in cc)
double_at_entry g v n form b (by_place Plain c i node linked spot low) is = absurd (let h : Plain ≡ Double = is in cc)

pub stays_now : (g : Request) (v w : View) (n top : ℕ) (form : Form) (b : ℕ) → StaysLinked g v n top form b → w.inodes ≡ v.inodes → w.blocks top ≡ v.blocks top → StaysLinked g w n top form b
stays_now g v w n top form b stays inodes kept = λ u same kept_u. stays u (same ∙ inodes) (kept_u ∙ kept)

-- a block in a place of a double-indirect node stays linked as long as that node stays
pub below_stays : (g : Request) (v : View) (n t i b : ℕ) → IsAtEntry g v n Double t → is_spot v Double n t ≡ true → i < pointers_of g → b ≡ pointer_at v Double t i → StaysLinked g v n t Indirect b
below_stays g v n t i b at spot low is = λ w inodes kept.
    let linked = at_entry_linked g v w n Double t at inodes in
    let spot_w : is_spot w Double n t ≡ true = ap (λ o. is_owned_by n (content Double o)) kept ∙ spot in
    let value : pointer_at w Double t i ≡ b = pointer_same w kept ∙ sym is in
    subst (λ (x : ℕ). IsLinked g w n Indirect x) value (by_place Double t i (λ (e : Double ≡ Plain). cc) linked spot_w low)
  where
    pointer_same : (w : View) → w.blocks t ≡ v.blocks t → pointer_at w Double t i ≡ pointer_at v Double t i
    pointer_same w kept = ap (λ (o : Option Block). cond (eqb t 0) 0 (slice_index (entries_in (content Double o)) i)) kept
