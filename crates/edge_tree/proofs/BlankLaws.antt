-- What blocks hold that were made new, step by step.
use Rattle.std.proofs.Common.{◌≡◌, ◌≢◌, ℕ, ◌+◌, not, true, false, inl, inr, Option, None, refl, sym, ap, ◌∙◌, subst}
use Rattle.std.specs.Prelude.{is_some, nat_eq, slice_set, Ok}
use Rattle.std.specs.Map.{update}
use Rattle.std.proofs.lemmas.Bool.{cases_eq, and_parts}
use Rattle.edge_base.specs.declared.form.Form.{Form}
use Rattle.edge_base.specs.declared.geometry.Request.{Request}
use Rattle.edge_store.specs.Damages.{form_of_entry, form_under}
use Rattle.edge_store.specs.Effects.{Taken, BlockDropped, EntrySet, PointerSet}
use Rattle.edge_store.specs.Placed.{entry_at, pointer_at}
use Rattle.edge_store.specs.View.{View, IsView, Inode, content, content_at, empty_content, entries_in, pointers, is_allocable, is_owned_by, is_spot, is_used, is_new, with_block, with_inode, with_entry}
use Rattle.edge_store.proofs.RoomLaws.{taken_now, dropped_old, free_now-same}
use Rattle.edge_store.proofs.ViewLaws.{used_of, empty_is_owned, with_block_here, with_block_apart}
use Rattle.edge_moves.specs.Renewal.{IsMoved, IsRenewed, EntryRenewed, PointerRenewed, UnderRenewed}
use Rattle.edge_moves.proofs.ArriveLaws.{held_some}
use Rattle.edge_tree.specs.declared.own.Renewal.{Renewal}
use Rattle.edge_tree.specs.declared.own.Renewal.TheVariants.{Same, Blank}
use Rattle.edge_tree.specs.Blank.{IsFilled, BlockFilled, EntryFilled, PointerFilled, UnderFilled}
use Rattle.edge_tree.proofs.OwnLaws.{new_of, committed_of, renewed_inodes, new_stays}

-- ---- views

-- a view but for one block, which is as one of another view
view_but : (g : Request) (w x u : View) (b j : ℕ) → IsView g w → IsView g x → is_allocable g b ≡ true → u.inodes ≡ w.inodes → ((k : ℕ) → k ≢ b → u.blocks k ≡ w.blocks k)
    → u.blocks b ≡ x.blocks j → IsView g u
view_but g w x u b j view view_x fits inodes others here = record {
  numbers = λ n h. view.numbers n (ap (λ (o : ℕ → Option Inode). is_some (o n)) (sym inodes) ∙ h);
  full_inodes = λ n head entries e. view.full_inodes n head entries (ap (λ (o : ℕ → Option Inode). o n) (sym inodes) ∙ e);
  heads = λ n head entries e. view.heads n head entries (ap (λ (o : ℕ → Option Inode). o n) (sym inodes) ∙ e);
  broken_inodes = λ n damage e. view.broken_inodes n damage (ap (λ (o : ℕ → Option Inode). o n) (sym inodes) ∙ e);
  allocable = λ k used. elim (cases_eq k b) [
    | inl is ↦ ap (is_allocable g) is ∙ fits
    | inr far ↦ view.allocable k (ap is_some (sym (others k far)) ∙ used)
  ];
  full_blocks = λ k block e. elim (cases_eq k b) [
    | inl is ↦ view_x.full_blocks j block (sym here ∙ ap u.blocks (sym is) ∙ e)
    | inr far ↦ view.full_blocks k block (sym (others k far) ∙ e)
  ];
  full_nodes = λ form k node e. elim (cases_eq k b) [
    | inl is ↦ view_x.full_nodes form j node (ap (content form) (sym here ∙ ap u.blocks (sym is)) ∙ e)
    | inr far ↦ view.full_nodes form k node (ap (content form) (sym (others k far)) ∙ e)
  ];
}

-- ---- a block

pub filled_here : (g : Request) (renewal : Renewal) (w : View) (form : Form) (owner from b : ℕ) → IsView g w → (renewal ≡ Blank → b ≢ from → content_at w form b ≡ empty_content g form owner)
    → IsFilled g renewal w w form owner from b
filled_here g renewal w form owner from b view empty = record { view = view; inodes = refl; others = λ k far. refl; stays = λ e. refl; same = λ e. refl; empty = empty }

-- a block dropped, and then an empty one taken
module _ (g : Request) (c v m w : View) (f : Form) (owner from b : ℕ) (some : from ≢ 0) (was : is_new c v from ≡ false) (spot : is_spot v f owner from ≡ true) (view : IsView g v) (view_w : IsView g w)
    (dropped : BlockDropped v m from) (t : Taken g c m w f owner b) where
  -- the view with what the dropped block held in the new one
  abbrev u : View
  u = with_block w b (v.blocks from)

  from_used : is_used v from ≡ true
  from_used = used_of f (v.blocks from) owner spot

  kept : is_used c from ≡ true
  kept = committed_of c v from was from_used

  far : b ≢ from
  far e = let h : false ≡ true = ap is_some (sym t.fresh.uncommitted ∙ ap c.blocks e) ∙ kept in cc

  rest : (k : ℕ) → k ≢ b → w.blocks k ≡ m.blocks k
  rest k apart = ap (λ (x : View). x.blocks k) t.working ∙ with_block_apart m b (w.blocks b) k apart

  beside : (k : ℕ) → k ≢ from → m.blocks k ≡ v.blocks k
  beside k away = ap (λ (x : View). x.blocks k) dropped ∙ with_block_apart v from None k away

  here : u.blocks b ≡ v.blocks from
  here = with_block_here w b (v.blocks from)

  apart_u : (k : ℕ) → k ≢ b → u.blocks k ≡ w.blocks k
  apart_u k apart = with_block_apart w b (v.blocks from) k apart

  used_u : is_used u b ≡ true
  used_u = ap is_some here ∙ from_used

  used_w : is_used w b ≡ true
  used_w = used_of f (w.blocks b) owner (ap (is_owned_by owner) t.content ∙ empty_is_owned g f owner)

  same_use : (k : ℕ) → is_used u k ≡ is_used w k
  same_use k = elim (cases_eq k b) [
    | inl is ↦ ap (is_used u) is ∙ used_u ∙ sym (ap (is_used w) is ∙ used_w)
    | inr apart ↦ ap is_some (apart_u k apart)
  ]

  blank_moved : IsMoved g c v u f owner from b
  blank_moved = record {
    fresh = record { allocable = t.fresh.allocable; unused = sym (beside b far) ∙ t.fresh.unused; uncommitted = t.fresh.uncommitted };
    apart = far;
    was = was;
    content = ap (content f) here ∙ held_some g v f owner from some;
    is_new = new_of c u b used_u t.fresh.uncommitted;
    others = λ k apart away. apart_u k apart ∙ rest k apart ∙ beside k away;
    gone = apart_u from (λ e. far (sym e)) ∙ rest from (λ e. far (sym e)) ∙ ap (λ (x : View). x.blocks from) dropped ∙ with_block_here v from None;
    inodes = ap (λ (x : View). x.inodes) t.working ∙ ap (λ (x : View). x.inodes) dropped;
    free = ap (λ (k : ℕ). k + 1) (free_now-same g c w u same_use) ∙ taken_now g c m w f owner b t ∙ dropped_old g c v m from kept dropped;
  }

  pub filled_blank : (renewal : Renewal) → renewal ≡ Blank → BlockFilled g c v w f owner from renewal b
  filled_blank renewal blank = record {
    between = u;
    renewed = inr blank_moved;
    filled = record {
      view = view_but g w v u b from view_w view t.fresh.allocable refl apart_u here;
      inodes = refl;
      others = λ k apart. sym (apart_u k apart);
      stays = λ e. absurd (far e);
      same = λ e. absurd (let h : Same ≡ Blank = sym e ∙ blank in cc);
      empty = λ _ _. t.content;
    };
  }

module _ (g : Request) (c v w : View) (f : Form) (owner from : ℕ) (renewal : Renewal) (b : ℕ) (block : BlockFilled g c v w f owner from renewal b) where
  pub filled_inodes : w.inodes ≡ v.inodes
  filled_inodes = block.filled.inodes ∙ renewed_inodes g c v block.between f owner from b block.renewed

  -- a new block stays as it is while another is made new
  pub filled_stays : (top : ℕ) → is_new c v top ≡ true → w.blocks top ≡ v.blocks top
  filled_stays top new = by block.renewed ∙ new_stays g c v block.between f owner from b top new block.renewed
    where
      by : IsRenewed g c v block.between f owner from b → w.blocks top ≡ block.between.blocks top
      by (inl kept) = ap (λ (x : View). x.blocks top) (block.filled.stays kept.same)
      by (inr moved) = block.filled.others top (λ same.
          let h : true ≡ false = sym (and_parts (is_used v top) (not (is_used c top)) new).0 ∙ ap (is_used v) same ∙ ap is_some moved.fresh.unused in cc)

-- ---- an entry that was set

module _ (g : Request) (renewal : Renewal) (u w t : View) (f : Form) (owner from b n e : ℕ) (filled : IsFilled g renewal u w f owner from b) (fits : is_allocable g b ≡ true) (view : IsView g t) (set : EntrySet w t n e b) where
  abbrev u_set : View
  u_set = with_inode u n (with_entry (u.inodes n) e b)

  set_same : w ≡ u → t ≡ u_set
  set_same same = set ∙ ap (λ (x : View). with_inode x n (with_entry (x.inodes n) e b)) same

  set_inodes : t.inodes ≡ u_set.inodes
  set_inodes = ap (λ (x : View). x.inodes) set ∙ ap (λ (o : ℕ → Option Inode). update nat_eq o n (with_entry (o n) e b)) filled.inodes

  set_others : (k : ℕ) → k ≢ b → t.blocks k ≡ u_set.blocks k
  set_others k far = ap (λ (x : View). x.blocks k) set ∙ filled.others k far

  set_filled : IsFilled g renewal u_set t f owner from b
  set_filled = record {
    view = view_but g t u u_set b b view filled.view fits (sym set_inodes) (λ k far. sym (set_others k far)) refl;
    inodes = set_inodes;
    others = set_others;
    stays = λ e. set_same (filled.stays e);
    same = λ e. set_same (filled.same e);
    empty = λ blank far. ap (λ (x : View). content_at x f b) set ∙ filled.empty blank far;
  }

module _ (g : Request) (c v w : View) (n e : ℕ) (renewal : Renewal) (b : ℕ) (block : BlockFilled g c v w (form_of_entry g e) n (entry_at v n e) renewal b) where
  pub entry_stayed : b ≡ entry_at v n e → EntryFilled g c v w n e renewal b
  entry_stayed same = by block.renewed
    where
      by : IsRenewed g c v block.between (form_of_entry g e) n (entry_at v n e) b → EntryFilled g c v w n e renewal b
      by (inl kept) = record { between = block.between; renewed = inl kept; filled = block.filled }
      by (inr moved) = absurd (moved.apart same)

  pub entry_filled : (t : View) → b ≢ entry_at v n e → is_allocable g b ≡ true → IsView g t → EntrySet w t n e b → EntryFilled g c v t n e renewal b
  entry_filled t far fits view set = by block.renewed
    where
      by : IsRenewed g c v block.between (form_of_entry g e) n (entry_at v n e) b → EntryFilled g c v t n e renewal b
      by (inl kept) = absurd (far kept.same)
      by (inr moved) = record {
        between = u_set g renewal block.between w t (form_of_entry g e) n (entry_at v n e) b n e block.filled fits view set;
        renewed = inr (record { between = block.between; moved = moved; set = refl });
        filled = set_filled g renewal block.between w t (form_of_entry g e) n (entry_at v n e) b n e block.filled fits view set;
      }

-- ---- a pointer that was set

module _ (g : Request) (renewal : Renewal) (u w t : View) (f h : Form) (owner from b top i : ℕ) (filled : IsFilled g renewal u w f owner from b) (fits : is_allocable g b ≡ true) (view : IsView g t) (away : top ≢ b)
    (set : PointerSet w t h owner top i b) where
  abbrev u_put : View
  u_put = with_block u top (t.blocks top)

  top_put : u_put.blocks top ≡ t.blocks top
  top_put = with_block_here u top (t.blocks top)

  put : PointerSet u u_put h owner top i b
  put = record {
    working = ap (with_block u top) (sym top_put);
    content = ap (content h) top_put ∙ set.content ∙ ap (λ o. pointers (Ok (record { owner = owner; entries = slice_set (entries_in (content h o)) i b }))) (filled.others top away);
    spells_no_other = λ other node differs. ap (content other) top_put ∙ set.spells_no_other other node differs;
  }

  put_same : w ≡ u → t ≡ u_put
  put_same same = set.working ∙ ap (λ (x : View). with_block x top (t.blocks top)) same

  put_others : (k : ℕ) → k ≢ b → t.blocks k ≡ u_put.blocks k
  put_others k far = elim (cases_eq k top) [
    | inl is ↦ ap t.blocks is ∙ sym top_put ∙ ap u_put.blocks (sym is)
    | inr past ↦ ap (λ (x : View). x.blocks k) set.working ∙ with_block_apart w top (t.blocks top) k past ∙ filled.others k far ∙ sym (with_block_apart u top (t.blocks top) k past)
  ]

  put_inodes : t.inodes ≡ u_put.inodes
  put_inodes = ap (λ (x : View). x.inodes) set.working ∙ filled.inodes

  put_filled : IsFilled g renewal u_put t f owner from b
  put_filled = record {
    view = view_but g t u u_put b b view filled.view fits (sym put_inodes) (λ k far. sym (put_others k far)) (with_block_apart u top (t.blocks top) b (λ e. away (sym e)));
    inodes = put_inodes;
    others = put_others;
    stays = λ e. put_same (filled.stays e);
    same = λ e. put_same (filled.same e);
    empty = λ blank far. ap (content f) (ap (λ (x : View). x.blocks b) set.working ∙ with_block_apart w top (t.blocks top) b (λ e. away (sym e))) ∙ filled.empty blank far;
  }

module _ (g : Request) (c v w : View) (h : Form) (n top i : ℕ) (renewal : Renewal) (b : ℕ) (block : BlockFilled g c v w (form_under h) n (pointer_at v h top i) renewal b) where
  pub pointer_stayed : b ≡ pointer_at v h top i → PointerFilled g c v w h n top i renewal b
  pointer_stayed same = by block.renewed
    where
      by : IsRenewed g c v block.between (form_under h) n (pointer_at v h top i) b → PointerFilled g c v w h n top i renewal b
      by (inl kept) = record { between = block.between; renewed = inl kept; filled = block.filled }
      by (inr moved) = absurd (moved.apart same)

  pub pointer_filled : (t : View) → b ≢ pointer_at v h top i → is_new c v top ≡ true → is_allocable g b ≡ true → IsView g t → PointerSet w t h n top i b → PointerFilled g c v t h n top i renewal b
  pointer_filled t far new fits view set = by block.renewed
    where
      by : IsRenewed g c v block.between (form_under h) n (pointer_at v h top i) b → PointerFilled g c v t h n top i renewal b
      by (inl kept) = absurd (far kept.same)
      by (inr moved) =
          let away : top ≢ b = λ same. let h : true ≡ false = sym (and_parts (is_used v top) (not (is_used c top)) new).0 ∙ ap (is_used v) same ∙ ap is_some moved.fresh.unused in cc in
          record {
            between = u_put g renewal block.between w t (form_under h) h n (pointer_at v h top i) b top i block.filled fits view away set;
            renewed = inr (record { between = block.between; moved = moved; set = put g renewal block.between w t (form_under h) h n (pointer_at v h top i) b top i block.filled fits view away set });
            filled = put_filled g renewal block.between w t (form_under h) h n (pointer_at v h top i) b top i block.filled fits view away set;
          }

-- ---- what is to hold the same

pub same_entry : (g : Request) (c v w : View) (n e b : ℕ) → EntryFilled g c v w n e Same b → EntryRenewed g c v w n e b
same_entry g c v w n e b entry = subst (λ (x : View). EntryRenewed g c v x n e b) (sym (entry.filled.same refl)) entry.renewed

pub same_pointer : (g : Request) (c v w : View) (h : Form) (n top i b : ℕ) → PointerFilled g c v w h n top i Same b → PointerRenewed g c v w h n top i b
same_pointer g c v w h n top i b pointer = subst (λ (x : View). PointerRenewed g c v x h n top i b) (sym (pointer.filled.same refl)) pointer.renewed

pub same_under : (g : Request) (c v w : View) (n e place b : ℕ) → UnderFilled g c v w n e place Same b → UnderRenewed g c v w n e place b
same_under g c v w n e place b under = subst (λ (x : View). UnderRenewed g c v x n e place b) (sym (under.filled.same refl)) under.renewed
