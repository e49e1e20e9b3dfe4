-- Pointers taken away with all that hangs under them.
use Rattle.std.specs.Prelude.{◌≡◌, ◌≢◌, ℕ, ◌<◌, ◌≤◌, ◌&&◌, nat_le, nat_lt, true, false, if◌then◌else◌, slice_index, None}
use Rattle.edge_base.specs.declared.form.Form.{Form}
use Rattle.edge_base.specs.declared.geometry.Request.{Request}
use Rattle.edge_store.specs.View.{View, is_spot, is_whole, head_of_inode}
use Rattle.edge_store.specs.Placed.{entry_at}
use Rattle.edge_store.specs.Damages.{form_of_entry, form_under}
use Rattle.edge_shape.specs.Shape.{entries_at}
use Rattle.edge_shape.specs.Trees.{in_tree}

-- From v to w the pointers of the block b in the places from one up to another are gone, with all that hangs under them, and nothing
-- else has changed.
pub record CutPlaces (v w : View) (form : Form) (owner b from upto : ℕ) : Type 0 where
  pub inodes : w.inodes ≡ v.inodes
  pub spot : is_spot w form owner b ≡ true
  pub pointer : (j : ℕ) → slice_index (entries_at w form b) j ≡ (if nat_le from j && nat_lt j upto then 0 else slice_index (entries_at v form b) j)
  pub dropped : (j x : ℕ) → from ≤ j → j < upto → slice_index (entries_at v form b) j ≢ 0
      → in_tree v (form_under form) (slice_index (entries_at v form b) j) x ≡ true → w.blocks x ≡ None
  pub kept : (x : ℕ) → x ≢ b
      → ((j : ℕ) → from ≤ j → j < upto → slice_index (entries_at v form b) j ≢ 0 → in_tree v (form_under form) (slice_index (entries_at v form b) j) x ≡ false)
      → w.blocks x ≡ v.blocks x

-- From v to w the entries of node n from one up to another are gone, with all that hangs under them, and nothing else has changed.
pub record CutEntries (g : Request) (v w : View) (n from upto : ℕ) : Type 0 where
  pub others : (m : ℕ) → m ≢ n → w.inodes m ≡ v.inodes m
  pub inode : is_whole (w.inodes n) ≡ true
  pub head : head_of_inode (w.inodes n) ≡ head_of_inode (v.inodes n)
  pub entry : (e : ℕ) → entry_at w n e ≡ (if nat_le from e && nat_lt e upto then 0 else entry_at v n e)
  pub dropped : (e x : ℕ) → from ≤ e → e < upto → entry_at v n e ≢ 0 → in_tree v (form_of_entry g e) (entry_at v n e) x ≡ true → w.blocks x ≡ None
  pub kept : (x : ℕ) → ((e : ℕ) → from ≤ e → e < upto → entry_at v n e ≢ 0 → in_tree v (form_of_entry g e) (entry_at v n e) x ≡ false)
      → w.blocks x ≡ v.blocks x
