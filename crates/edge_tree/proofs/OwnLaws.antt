-- A block taken or copied takes the place of another, and what follows for the blocks around it.
use Rattle.std.proofs.Common.{◌≡◌, ◌≢◌, ℕ, ◌+◌, ◌<◌, ◌≤◌, ◌&&◌, not, Bool, true, false, inl, inr, length, None, refl, sym, ap, ◌∙◌, arith}
use Rattle.std.specs.Prelude.{is_some, slice_index, Result, Ok, Err, IfOk, OnOk}
use Rattle.std.proofs.lemmas.Bool.{and_parts, eq-eqb}
use Rattle.std.proofs.lemmas.List.{get_or-set_same}
use Rattle.edge_base.specs.declared.form.Form.{Form}
use Rattle.edge_base.specs.declared.form.Form.TheVariants.{Plain}
use Rattle.edge_base.specs.declared.geometry.Request.{Request}
use Rattle.edge_base.specs.layout.Places.{entries_of, pointers_of}
use Rattle.edge_store.specs.Damages.{form_of_entry}
use Rattle.edge_store.specs.Effects.{Taken, Copied, EntrySet, PointerSet}
use Rattle.edge_store.specs.Placed.{entry_at, pointer_at}
use Rattle.edge_store.specs.View.{View, IsView, content_at, entries_in, entries_of_inode, is_owned_by, is_spot, is_used, is_new, is_whole, with_block, with_entry, free_now}
use Rattle.edge_store.proofs.RoomLaws.{taken_now, copied_old}
use Rattle.edge_store.proofs.ViewLaws.{used_of, empty_is_owned, entries_of_whole, with_block_here, with_block_apart, with_inode_here}
use Rattle.edge_moves.specs.Renewal.{cost, IsMoved, IsRenewed, EntryRenewed}
use Rattle.edge_moves.proofs.ArriveLaws.{held_some}
use Rattle.edge_moves.proofs.FactLaws.{set_here, full_node}
use Rattle.edge_moves.proofs.SpentLaws.{entry_free, entry_pointer, entry_no_more}
use Rattle.edge_moves.proofs.StepLaws.{not_zero, pointer_is}

pub new_of : (c w : View) (b : ℕ) → is_used w b ≡ true → c.blocks b ≡ None → is_new c w b ≡ true
new_of c w b used none = λ i. used i && not (is_some (none i))

pub committed_of : (c v : View) (b : ℕ) → is_new c v b ≡ false → is_used v b ≡ true → is_used c b ≡ true
committed_of c v b h used = by (is_used v b) (is_used c b) h used
  where
    by : (u t : Bool) → (u && not t) ≡ false → u ≡ true → t ≡ true
    by true true h used = refl
    by true false h used = absurd (let e : true ≡ false = h in cc)
    by false t h used = absurd (let e : false ≡ true = used in cc)

module _ (g : Request) (c v w : View) (f : Form) (owner b : ℕ) where
  pub moved_taken : Taken g c v w f owner b → v.blocks 0 ≡ None → IsMoved g c v w f owner 0 b
  moved_taken t none =
      let far = not_zero g b t.fresh.allocable in
      let used : is_used w b ≡ true = used_of f (w.blocks b) owner (ap (is_owned_by owner) t.content ∙ empty_is_owned g f owner) in
      let rest : (k : ℕ) → k ≢ b → w.blocks k ≡ v.blocks k = λ k apart. ap (λ (u : View). u.blocks k) t.working ∙ with_block_apart v b (w.blocks b) k apart in
      record {
        fresh = t.fresh;
        apart = far;
        was = λ i. is_some (none i) && not (is_used c 0);
        content = t.content;
        is_new = new_of c w b used t.fresh.uncommitted;
        others = λ k apart absent. rest k apart;
        gone = rest 0 (λ same. far (sym same)) ∙ none;
        inodes = ap (λ (u : View). u.inodes) t.working;
        free = taken_now g c v w f owner b t;
      }

  pub moved_copied : (from : ℕ) → from ≢ 0 → is_new c v from ≡ false → is_spot v f owner from ≡ true → Copied g c v w f from b → IsMoved g c v w f owner from b
  moved_copied from some was spot t =
      let used : is_used w b ≡ true = used_of f (w.blocks b) owner (ap (is_owned_by owner) t.content ∙ spot) in
      let from_used : is_used v from ≡ true = used_of f (v.blocks from) owner spot in
      let kept = committed_of c v from was from_used in
      let far : b ≢ from = λ (e : b ≡ from). let h : false ≡ true = ap is_some (sym t.fresh.unused ∙ ap v.blocks e) ∙ from_used in cc in
      record {
        fresh = t.fresh;
        apart = far;
        was = was;
        content = t.content ∙ held_some g v f owner from some;
        is_new = new_of c w b used t.fresh.uncommitted;
        others = λ k apart away. ap (λ (u : View). u.blocks k) t.working ∙ with_block_apart (with_block v b (w.blocks b)) from None k away ∙ with_block_apart v b (w.blocks b) k apart;
        gone = ap (λ (u : View). u.blocks from) t.working ∙ with_block_here (with_block v b (w.blocks b)) from None;
        inodes = ap (λ (u : View). u.inodes) t.working;
        free = copied_old g c v w f from b from_used t kept;
      }

-- ---- what stays, and what leads where

pub renewed_inodes : (g : Request) (c v w : View) (f : Form) (n from b : ℕ) → IsRenewed g c v w f n from b → w.inodes ≡ v.inodes
renewed_inodes g c v w f n from b (inl kept) = ap (λ (u : View). u.inodes) kept.view
renewed_inodes g c v w f n from b (inr was) = was.inodes

-- a new block stays as it is while another is made new
pub new_stays : (g : Request) (c v w : View) (f : Form) (n from b top : ℕ) → is_new c v top ≡ true → IsRenewed g c v w f n from b → w.blocks top ≡ v.blocks top
new_stays g c v w f n from b top new (inl kept) = ap (λ (u : View). u.blocks top) kept.view
new_stays g c v w f n from b top new (inr was) = was.others top
    (λ same. let x : true ≡ false = sym (and_parts (is_used v top) (not (is_used c top)) new).0 ∙ ap (is_used v) same ∙ ap is_some was.fresh.unused in cc)
    (λ same. let x : true ≡ false = sym new ∙ ap (is_new c v) same ∙ was.was in cc)

pub set_entry_leads : (g : Request) (v w : View) (n e b : ℕ) → IsView g v → is_whole (v.inodes n) ≡ true → e < entries_of g → EntrySet v w n e b → b ≡ entry_at w n e
set_entry_leads g v w n e b view is low set =
    let all = entries_of_whole g v n view is in
    let long : e < length (entries_of_inode (v.inodes n)) = omega arith in
    sym (ap (λ (u : View). entry_at u n e) set ∙ ap (λ o. slice_index (entries_of_inode o) e) (with_inode_here v n (with_entry (v.inodes n) e b)) ∙ set_here (v.inodes n) e b is long)

pub set_pointer_leads : (g : Request) (v w : View) (h : Form) (n top i b : ℕ) → IsView g v → is_spot v h n top ≡ true → h ≢ Plain → i < pointers_of g → top ≢ 0 → PointerSet v w h n top i b
    → (is_spot w h n top ≡ true) × (b ≡ pointer_at w h top i)
set_pointer_leads g v w h n top i b view spot node low some set =
    let all = full_node g v h n top node view spot in
    let long : i < length (entries_in (content_at v h top)) = omega arith in (
      ap (is_owned_by n) set.content ∙ eq-eqb n n refl,
      sym (pointer_is w h top i some ∙ ap (λ x. slice_index (entries_in x) i) set.content ∙ get_or-set_same (entries_in (content_at v h top)) i b 0 long),
    )

-- ---- the room that is left

pub under_room : (g : Request) (c v m : View) (n e top place : ℕ) → EntryRenewed g c v m n e top → form_of_entry g e ≢ Plain → place < pointers_of g
    → cost c v (entry_at v n e) + cost c v (pointer_at v (form_of_entry g e) (entry_at v n e) place) ≤ free_now g c v
    → cost c m (pointer_at m (form_of_entry g e) top place) ≤ free_now g c m
under_room g c v m n e top place renewed node low room =
    let a = entry_free g c v m n e top renewed in
    let b = ap (cost c m) (entry_pointer g c v m n e top renewed place node low) in
    let d = entry_no_more g c v m n e top renewed (pointer_at v (form_of_entry g e) (entry_at v n e) place) in omega arith

-- ---- answers of calls

pub if_ok_map : {T E : Type 0} {P Q : T → Type 0} (r : Result T E) → ((x : T) → P x → Q x) → IfOk r P → IfOk r Q
if_ok_map (Ok x) f h = f x h
if_ok_map (Err e) f h = h

pub if_ok_map_with : {T E A : Type 0} {P Q : T → Type 0} (r : Result T E) → ((x : T) → A → P x → Q x) → OnOk r A → IfOk r P → IfOk r Q
if_ok_map_with (Ok x) f a h = f x a h
if_ok_map_with (Err e) f a h = h
