-- Pointer nodes made new: what stays of the heads, and which links there are.
use Rattle.std.proofs.Common.{◌≡◌, ◌≢◌, ◌+◌, ◌<◌, ◌≤◌, ◌&&◌, not, ℕ, Bool, true, false, List, None, cond, ◌⊎◌, inl, inr, refl, sym, ap, ◌∙◌, subst}
use Rattle.std.specs.Prelude.{slice_index, is_some}
use Rattle.std.proofs.lemmas.Bool.{cases_eq}
use Rattle.edge_base.specs.declared.form.Form.{Form}
use Rattle.edge_base.specs.declared.form.Form.TheVariants.{Plain, Indirect, Double}
use Rattle.edge_base.specs.declared.geometry.Request.{Request}
use Rattle.edge_base.specs.layout.Places.{entries_of, pointers_of}
use Rattle.edge_store.specs.Damages.{form_of_entry}
use Rattle.edge_store.specs.Placed.{entry_at, pointer_at}
use Rattle.edge_store.specs.View.{View, IsView, content, entries_in, head_of_inode, is_new, is_spot, is_used, is_whole, with_entry, free_now}
use Rattle.edge_store.proofs.ViewLaws.{unused_zero, used_of, with_inode_here, with_inode_apart}
use Rattle.edge_moves.specs.Renewal.{cost, EntryRenewed, PointerRenewed, SameHeads}
use Rattle.edge_moves.specs.Sound.{IsSound, IsApart}
use Rattle.edge_moves.proofs.FactLaws.{set_head}
use Rattle.edge_moves.proofs.SpentLaws.{entry_leads}
use Rattle.edge_moves.proofs.StepLaws.{pointer_is}
use Rattle.edge_moves.proofs.WritableLaws.{apart_of_once}
use Rattle.edge_shape.specs.declared.cut.Cut.TheVariants.{Both}
use Rattle.edge_shape.specs.Shape.{HasShape, entries_at}
use Rattle.edge_shape.specs.Steps.{Steps}
use Rattle.edge_shape.specs.Trees.{in_tree, IsSoundTree, IsSoundInode}
use Rattle.edge_shape.specs.Cutting.{CutPlaces, CutEntries}
use Rattle.edge_shape.specs.Where.{need_of}
use Rattle.edge_tree.proofs.LinkLaws.{sound_of_places}
use Rattle.edge_cut.specs.Cuts.{node_cut, PairRenewed}
use Rattle.edge_cut.specs.Dropped.{without, IsAtEntry}
use Rattle.edge_cut.proofs.SoundLaws.{itself_in}

pub entry_heads : (g : Request) (c v w : View) (n e b : ℕ) → EntryRenewed g c v w n e b → SameHeads v w n
entry_heads g c v w n e b (inl kept) = record {
  others = λ x away. ap (λ (u : View). u.inodes x) kept.view;
  head = ap (λ (u : View). head_of_inode (u.inodes n)) kept.view;
}
entry_heads g c v w n e b (inr was) = record {
  others = λ x away. ap (λ (u : View). u.inodes x) was.set ∙ with_inode_apart was.between n (with_entry (was.between.inodes n) e b) x away ∙ (λ i. was.moved.inodes i x);
  head = ap (λ (u : View). head_of_inode (u.inodes n)) was.set ∙ ap head_of_inode (with_inode_here was.between n (with_entry (was.between.inodes n) e b))
      ∙ set_head (was.between.inodes n) e b ∙ (λ i. head_of_inode (was.moved.inodes i n));
}

pub heads_then : (v u w : View) (n : ℕ) → SameHeads v u n → SameHeads u w n → SameHeads v w n
heads_then v u w n one two = record {
  others = λ x away. two.others x away ∙ one.others x away;
  head = two.head ∙ one.head;
}

pub heads_kept : (v w : View) (n : ℕ) → w.inodes ≡ v.inodes → SameHeads v w n
heads_kept v w n same = record {
  others = λ x away. (λ i. same i x);
  head = (λ i. head_of_inode (same i n));
}

pub entry_at_made : (g : Request) (c v w : View) (n e b : ℕ) (form : Form) → IsView g v → is_whole (v.inodes n) ≡ true → e < entries_of g → form_of_entry g e ≡ form → EntryRenewed g c v w n e b → IsAtEntry g w n form b
entry_at_made g c v w n e b form view whole low is renewed = record {
  entry = e;
  low = low;
  is_form = is;
  block = sym (entry_leads g c v w n e b view whole low renewed);
}

pub uncommitted : (c v : View) (b : ℕ) → is_new c v b ≡ true → is_used c b ≡ false
uncommitted c v b new = by (is_used v b) (is_used c b) new
  where
    by : (u t : Bool) → (u && not t) ≡ true → t ≡ false
    by true true h = absurd (let e : false ≡ true = h in cc)
    by true false h = let e : false ≡ false = λ i. false in e
    by false t h = absurd (let e : false ≡ true = h in cc)

-- what a cut of one pointer node needs
pub room_of : (g : Request) (c v : View) (n entry place : ℕ) (form : Form) → form ≢ Plain → need_of c v n (node_cut form entry place) ≤ free_now g c v → cost c v (entry_at v n entry) ≤ free_now g c v
room_of g c v n entry place Plain node room = absurd (node refl)
room_of g c v n entry place Indirect node room = room
room_of g c v n entry place Double node room = room

pub shape_sound : (g : Request) (v : View) (n : ℕ) (indices : List ℕ) → HasShape g v n indices → (is_whole (v.inodes n) ≡ true) × IsSound g v n
shape_sound g v n indices shape = (shape.inode, sound_of_places g v n indices shape.places)

-- the steps of a cut of one pointer node
pub node_steps : (g : Request) (c v one two w : View) (n entry block place : ℕ) (form : Form) → form ≢ Plain → EntryRenewed g c v one n entry block → IsView g one → IsView g two
    → (IsSoundTree g one form n block → CutPlaces one two form n block place (pointers_of g)) → (IsSoundInode g two n (entry + 1) → CutEntries g two w n (entry + 1) (entries_of g))
    → Steps g c v w n (node_cut form entry place)
node_steps g c v one two w n entry block place Plain node own view_one view_two cut rest = absurd (node refl)
node_steps g c v one two w n entry block place Indirect node own view_one view_two cut rest =
    record { block = block; owned = one; own = own; owned_view = view_one; trimmed = two; trimmed_view = view_two; cut = cut; rest = rest }
node_steps g c v one two w n entry block place Double node own view_one view_two cut rest =
    record { block = block; owned = one; own = own; owned_view = view_one; trimmed = two; trimmed_view = view_two; cut = cut; rest = rest }

-- a new pointer node stays new while the block in a place of it is made new
pub top_still_new : (g : Request) (c m w : View) (n outer top node : ℕ) → is_new c m top ≡ true → is_spot w Double n top ≡ true → is_new c w top ≡ true
top_still_new g c m w n outer top node new spot = λ i. used_of Double (w.blocks top) n spot i && not (uncommitted c m top new i)

-- what a cut of two pointer nodes needs
pub pair_room : (g : Request) (c v : View) (n entry outer place : ℕ) → IsView g v → form_of_entry g entry ≡ Double → need_of c v n (Both entry outer place) ≤ free_now g c v
    → cost c v (entry_at v n entry) + cost c v (pointer_at v (form_of_entry g entry) (entry_at v n entry) outer) ≤ free_now g c v
pair_room g c v n entry outer place view form room =
    let same = value (entry_at v n entry) in
    subst (λ (f : Form). cost c v (entry_at v n entry) + cost c v (pointer_at v f (entry_at v n entry) outer) ≤ free_now g c v) (sym form)
    (subst (λ (b : ℕ). cost c v (entry_at v n entry) + cost c v b ≤ free_now g c v) same room)
  where
    value : (b : ℕ) → slice_index (entries_at v Double b) outer ≡ pointer_at v Double b outer
    value b = by (cases_eq b 0)
      where
        by : (b ≡ 0) ⊎ (b ≢ 0) → slice_index (entries_at v Double b) outer ≡ pointer_at v Double b outer
        by (inl none) = ap (λ (x : ℕ). slice_index (entries_at v Double x) outer) none ∙ ap (λ o. slice_index (entries_in (content Double o)) outer) (unused_zero g v view) ∙ sym (ap (λ (x : ℕ). pointer_at v Double x outer) none)
        by (inr some) = sym (pointer_is v Double b outer some)

pub shape_tidy : (g : Request) (v : View) (n : ℕ) (indices : List ℕ) → HasShape g v n indices → (is_whole (v.inodes n) ≡ true) × IsSound g v n × IsApart g v n
shape_tidy g v n indices shape = (shape.inode, sound_of_places g v n indices shape.places, apart_of_once g v n indices shape.places shape.once)

pointer_kept : (g : Request) (c v w : View) (form : Form) (n top i b : ℕ) → PointerRenewed g c v w form n top i b → w.inodes ≡ v.inodes
pointer_kept g c v w form n top i b (inl kept) = ap (λ (u : View). u.inodes) kept.view
pointer_kept g c v w form n top i b (inr was) = ap (λ (u : View). u.inodes) was.set.working ∙ was.moved.inodes

pub pair_heads : (g : Request) (c v w : View) (n entry outer top node : ℕ) → PairRenewed g c v w n entry outer top node → SameHeads v w n
pair_heads g c v w n entry outer top node made =
    heads_then v made.between w n (entry_heads g c v made.between n entry top made.entry_made)
    (heads_kept made.between w n (pointer_kept g c made.between w Double n top outer node made.node_made))

-- Where the indirect node is the double-indirect one itself, it cannot be dropped and stay.
pub no_pair : (v w : View) (n top node : ℕ) → node ≡ top → is_spot v Double n top ≡ true → w.blocks top ≡ v.blocks top → w ≡ without v (in_tree v Indirect node) → ⊥
no_pair v w n top node is spot kept dropped =
    let gone : in_tree v Indirect node top ≡ true = ap (in_tree v Indirect node) (sym is) ∙ itself_in v Indirect node in
    let none : v.blocks top ≡ None = sym kept ∙ ap (λ (u : View). u.blocks top) dropped ∙ ap (λ t. cond t None (v.blocks top)) gone in
    let h : true ≡ false = sym (used_of Double (v.blocks top) n spot) ∙ ap is_some none in cc
