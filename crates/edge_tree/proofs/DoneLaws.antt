-- What the blocks on a way made new are for the data block of an index.
use Rattle.std.proofs.Common.{◌≡◌, ◌≢◌, ℕ, ◌+◌, ◌<◌, ◌≤◌, ◌||◌, cond, eqb, true, false, inl, inr, Option, [], ◌∷◌, refl, sym, ap, ◌∙◌, subst}
use Rattle.std.specs.Prelude.{Result, Ok, Err, IfOk, OnOk, slice_index}
use Rattle.std.proofs.lemmas.Bool.{cases_eq}
use Rattle.edge_base.specs.declared.form.Form.{Form}
use Rattle.edge_base.specs.declared.form.Form.TheVariants.{Plain, Indirect, Double}
use Rattle.edge_base.specs.declared.geometry.Request.{Request}
use Rattle.edge_base.specs.declared.way.Way.{Way}
use Rattle.edge_base.specs.declared.way.Way.TheVariants as way
use Rattle.edge_base.specs.layout.Places.{IsGeometry, entries_of, pointers_of, max_blocks_of, way_of}
use Rattle.edge_base.specs.tree.Positions.{Position, has, positions_of_form}
use Rattle.edge_store.specs.Damages.{form_of_entry, form_under}
use Rattle.edge_store.specs.Placed.{block_at, data_block, entry_at, follow, pointer_at}
use Rattle.edge_store.specs.State.{StoreState, Told}
use Rattle.edge_store.specs.View.{View, IsView, Inode, content, entries_in, entries_of_inode, head_of_inode, is_whole, free_now}
use Rattle.edge_store.proofs.WayLaws.{data_block-follow}
use Rattle.edge_moves.specs.Relinks.{number_of_entry, number_under}
use Rattle.edge_moves.specs.Renewal.{cost, PointerRenewed, UnderRenewed, direct, single, double}
use Rattle.edge_moves.specs.Sound.{numbered, IsSound, IsApart}
use Rattle.edge_moves.specs.Writable.{IsMadeWritable}
use Rattle.edge_moves.proofs.ArriveLaws.{Arrived, entry_arrives}
use Rattle.edge_moves.proofs.SelfLaws.{self_relinks}
use Rattle.edge_moves.proofs.SlotLaws.{entries_fit, entry_in_range, under_in_range}
use Rattle.edge_moves.proofs.SpentLaws.{entry_new, entry_pointer, pointer_pointer, way_heads, third_room}
use Rattle.edge_moves.proofs.StepLaws.{misses}
use Rattle.edge_moves.proofs.WritableLaws.{sound_of_places, apart_of_once, way_done}
use Rattle.edge_tree.specs.declared.own.Renewal.{Renewal}
use Rattle.edge_tree.specs.declared.own.Renewal.TheVariants.{Same, Blank}
use Rattle.edge_tree.specs.Answers.{IsReadable}
use Rattle.edge_tree.specs.Blank.{IsFilled, EntryFilled, PointerFilled, UnderFilled, WayFilled, FillsWay, MakesNew, MakesOverwritable}
use Rattle.edge_tree.specs.Own.{KeepsHeads, MakesWritable, RoomForWay, RoomForChain}
use Rattle.edge_tree.proofs.WayForms.{LeadsTo, way_leads, fresh_by_way}

-- what a block holds that stayed, its pointers tell
same_pointer_at : (v w : View) (f : Form) (x s : ℕ) → (x ≢ 0 → w.blocks x ≡ v.blocks x) → pointer_at w f x s ≡ pointer_at v f x s
same_pointer_at v w f x s same = elim (cases_eq x 0) [
  | inl none ↦ ap (λ (b : ℕ). pointer_at w f b s) none ∙ sym (ap (λ (b : ℕ). pointer_at v f b s) none)
  | inr some ↦ ap (λ o. cond (eqb x 0) 0 (slice_index (entries_in (content f o)) s)) (same some)
]

apart_form : (n j d : ℕ) → has (numbered n Double d ∷ []) (numbered n Indirect j) ≡ false
apart_form n j d = ap (λ t. t || false) (misses (numbered n Indirect j) (numbered n Double d) (λ same. let h : Indirect ≡ Double = ap (λ (p : Position). p.form) same in cc))

-- ---- ways

pub leads_of : (g : Request) (i : ℕ) (on : Way) → i < max_blocks_of g → way_of g i ≡ on → LeadsTo g on
leads_of g i on low is = subst (LeadsTo g) is (way_leads g i low)

pub direct_way : (g : Request) (c v w : View) (n e : ℕ) (renewal : Renewal) (b : ℕ) → e < entries_of g → form_of_entry g e ≡ Plain → EntryFilled g c v w n e renewal b → WayFilled g c v w n (way.Direct e) renewal b
direct_way g c v w n e renewal b low form step = record {
  between = step.between;
  renewed = direct e b low form step.renewed;
  from = entry_at v n e;
  led = λ sound apart. refl;
  filled = subst (λ (f : Form). IsFilled g renewal step.between w f n (entry_at v n e) b) form step.filled;
}

pub single_way : (g : Request) (c v w : View) (n e place : ℕ) (renewal : Renewal) (b : ℕ) → e < entries_of g → place < pointers_of g → form_of_entry g e ≡ Indirect
    → UnderFilled g c v w n e place renewal b → WayFilled g c v w n (way.Single e place) renewal b
single_way g c v w n e place renewal b low low_place form step =
    let u = step.renewed in
    record {
      between = step.between;
      renewed = single e place u.top b u.between u.view low low_place form u.entry (subst (λ (f : Form). PointerRenewed g c u.between step.between f n u.top place b) form u.pointer);
      from = pointer_at v Indirect (entry_at v n e) place;
      led = λ sound apart. refl;
      filled = subst (λ (f : Form). IsFilled g renewal step.between w (form_under f) n (pointer_at v f (entry_at v n e) place) b) form step.filled;
    }

-- where no block is there twice, the pointer below two nodes that were made new leads where it did
double_led : (g : Request) (c v l : View) (n e outer place node : ℕ) → IsGeometry g → IsView g v → is_whole (v.inodes n) ≡ true → IsView g l → e < entries_of g → outer < pointers_of g → place < pointers_of g
    → form_of_entry g e ≡ Double → UnderRenewed g c v l n e outer node → IsSound g v n → IsApart g v n
    → pointer_at l Indirect node place ≡ pointer_at v Indirect (pointer_at v Double (entry_at v n e) outer) place
double_led g c v l n e outer place node geometry view is view_l low low_outer low_place form u sound apart =
    let fits = entries_fit g geometry in
    let d = number_of_entry g e in
    let first : Arrived g c v u.between n [] Double d u.top = subst (λ (f : Form). Arrived g c v u.between n [] f d u.top) form (entry_arrives g c v u.between n e u.top fits view u.view sound apart is low u.entry) in
    let second : PointerRenewed g c u.between l Double n u.top outer node = subst (λ (f : Form). PointerRenewed g c u.between l f n u.top outer node) form u.pointer in
    let top_is : pointer_at u.between Double u.top outer ≡ pointer_at v Double (entry_at v n e) outer =
    subst (λ (f : Form). f ≢ Plain → pointer_at u.between f u.top outer ≡ pointer_at v f (entry_at v n e) outer) form (λ some. entry_pointer g c v u.between n e u.top u.entry outer some low_outer) (λ (h : Double ≡ Plain). cc) in
    let low_d : d < positions_of_form g Double = subst (λ (f : Form). d < positions_of_form g f) form (entry_in_range g e low) in
    let j = number_under g Double d outer in
    let low_j : j < positions_of_form g Indirect = under_in_range g Double d outer (λ (h : Double ≡ Plain). cc) low_d low_outer in
    let x : ℕ = pointer_at v Double (entry_at v n e) outer in
    let at_entry : entry_at v n e ≡ block_at g v (numbered n Double d) = (self_relinks g v n).entries e low ∙ ap (λ (f : Form). block_at g v (numbered n f d)) form in
    let x_is : x ≡ block_at g v (numbered n Indirect j) = ap (λ (b : ℕ). pointer_at v Double b outer) at_entry ∙ (self_relinks g v n).pointers Double d outer (λ (h : Double ≡ Plain). cc) low_d low_outer in
    let top_new = entry_new g c v u.between n e u.top u.entry in
    pointer_pointer g c u.between l Double n u.top outer node u.view top_new second place (λ (h : Indirect ≡ Plain). cc) low_place
    ∙ ap (λ (b : ℕ). pointer_at u.between Indirect b place) top_is
    ∙ same_pointer_at v u.between Indirect x place (λ some. ap u.between.blocks x_is ∙ first.so_far.holds Indirect j low_j (apart_form n j d) (λ none. some (x_is ∙ none)) ∙ ap v.blocks (sym x_is))

pub double_way : (g : Request) (c v l w : View) (n e outer place node : ℕ) (renewal : Renewal) (b : ℕ) → IsGeometry g → IsView g v → is_whole (v.inodes n) ≡ true → IsView g l → e < entries_of g → outer < pointers_of g
    → place < pointers_of g → form_of_entry g e ≡ Double → UnderRenewed g c v l n e outer node → PointerFilled g c l w Indirect n node place renewal b → WayFilled g c v w n (way.Double e outer place) renewal b
double_way g c v l w n e outer place node renewal b geometry view is view_l low low_outer low_place form u third = record {
  between = third.between;
  renewed = double e outer place u.top node b u.between l u.view view_l low low_outer low_place form u.entry (subst (λ (f : Form). PointerRenewed g c u.between l f n u.top outer node) form u.pointer) third.renewed;
  from = pointer_at l Indirect node place;
  led = λ sound apart. double_led g c v l n e outer place node geometry view is view_l low low_outer low_place form u sound apart;
  filled = third.filled;
}

-- ---- room

pub double_room : (g : Request) (c v l : View) (n e outer place node : ℕ) → IsView g v → form_of_entry g e ≡ Double → outer < pointers_of g → place < pointers_of g → UnderRenewed g c v l n e outer node
    → cost c v (entry_at v n e) + cost c v (pointer_at v Double (entry_at v n e) outer) + cost c v (pointer_at v Indirect (pointer_at v Double (entry_at v n e) outer) place) ≤ free_now g c v
    → cost c l (pointer_at l Indirect node place) ≤ free_now g c l
double_room g c v l n e outer place node view form low_outer low u room =
    third_room g c v u.between l n e outer place u.top node view u.view form low_outer low u.entry (subst (λ (f : Form). PointerRenewed g c u.between l f n u.top outer node) form u.pointer) room

-- room for a single-indirect way
pub single_room : (s : StoreState) (n e place : ℕ) → form_of_entry s.origin.request e ≡ Indirect → RoomForWay s n (way.Single e place)
    → cost s.committed s.working (entry_at s.working n e) + cost s.committed s.working (pointer_at s.working (form_of_entry s.origin.request e) (entry_at s.working n e) place) ≤ free_now s.origin.request s.committed s.working
single_room s n e place form room = subst (λ (f : Form). cost s.committed s.working (entry_at s.working n e) + cost s.committed s.working (pointer_at s.working f (entry_at s.working n e) place) ≤ free_now s.origin.request s.committed s.working) (sym form) room

-- room for a chain is room for the way
pub chain_room : (s : StoreState) (n i : ℕ) (on : Way) → i < max_blocks_of s.origin.request → way_of s.origin.request i ≡ on → RoomForChain s n i → RoomForWay s n on
chain_room s n i on low is room = subst (λ (m : ℕ). m ≤ free_now s.origin.request s.committed s.working) (fresh_by_way s.origin.request s.committed s.working n i low on is) room

-- ---- what is made

-- what the views before and after a call have
pub record Stands {E : Type 0} (old new : StoreState) (n i : ℕ) (on : Way) (renewal : Renewal) (result : Result ℕ E) : Type 0 where
  pub geometry : IsGeometry old.origin.request
  pub low : i < max_blocks_of old.origin.request
  pub on_way : way_of old.origin.request i ≡ on
  pub view : Told old → IsView old.origin.request old.working
  pub readable : OnOk result (IsReadable old n)
  pub filled : IfOk result (FillsWay old new n on renewal)

pub made_of : {E : Type 0} (old new : StoreState) (n i : ℕ) (on : Way) (renewal : Renewal) (result : Result ℕ E) → Stands old new n i on renewal result → IfOk result (MakesNew old new n i renewal)
made_of old new n i on renewal (Ok b) s = λ told indices places once.
    let g = old.origin.request in
    let v = old.working in
    let last = s.filled told in
    let done = way_done g old.committed v last.between n i b indices on s.geometry (s.view told) last.filled.view s.low s.on_way (s.readable told) places once last.renewed in
    let from : last.from ≡ data_block g v n i =
    last.led (sound_of_places g v n indices places) (apart_of_once g v n indices places once) ∙ sym (data_block-follow g v n i s.low ∙ ap (follow v (entries_of_inode (v.inodes n))) s.on_way) in
    record {
      between = last.between;
      made = done.made;
      block = done.block;
      filled = subst (λ (k : ℕ). IsFilled g renewal last.between new.working Plain n k b) from last.filled;
    }
made_of old new n i on renewal (Err fault) s = tt

pub heads_of : {E : Type 0} (old new : StoreState) (n : ℕ) (on : Way) (renewal : Renewal) (result : Result ℕ E) → IfOk result (FillsWay old new n on renewal) → OnOk result (KeepsHeads old new n)
heads_of old new n on renewal (Ok b) filled = λ told.
    let last = filled told in
    let heads = way_heads old.origin.request old.committed n old.working last.between on b last.renewed in
    record {
      others = λ x away. ap (λ (o : ℕ → Option Inode). o x) last.filled.inodes ∙ heads.others x away;
      head = ap (λ (o : ℕ → Option Inode). head_of_inode (o n)) last.filled.inodes ∙ heads.head;
    }
heads_of old new n on renewal (Err fault) filled = filled

-- a block that holds what it held is made writable
pub writable_of : {E : Type 0} (old new : StoreState) (n i : ℕ) (result : Result ℕ E) → IfOk result (MakesNew old new n i Same) → IfOk result (MakesWritable old new n i)
writable_of old new n i (Ok b) made = λ told indices places once.
    let m = made told indices places once in
    let same = sym (m.filled.same refl) in (
      subst (λ (u : View). IsMadeWritable old.origin.request old.committed old.working u n i indices) same m.made,
      subst (λ (u : View). data_block old.origin.request u n i ≡ b) same m.block,
    )
writable_of old new n i (Err fault) made = made

pub overwritable_of : {E : Type 0} (old new : StoreState) (n i : ℕ) (result : Result ℕ E) → IfOk result (MakesNew old new n i Blank) → IfOk result (MakesOverwritable old new n i)
overwritable_of old new n i (Ok b) made = λ told indices places once.
    let m = made told indices places once in
    record {
      between = m.between;
      view = m.filled.view;
      made = m.made;
      block = m.block;
      inodes = m.filled.inodes;
      others = m.filled.others;
      stays = m.filled.stays;
      empty = m.filled.empty refl;
    }
overwritable_of old new n i (Err fault) made = made
