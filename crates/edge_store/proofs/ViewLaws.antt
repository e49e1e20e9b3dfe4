-- Views after a change, and what blocks and inodes are met as.
use Rattle.std.proofs.Common.{◌≡◌, ◌≢◌, ℕ, ◌==◌, Bool, true, false, cond, Option, Some, None, refl, sym, ap, ◌∙◌, arith, length}
use Rattle.std.specs.Prelude.{is_some, Ok, Err}
use Rattle.std.proofs.lemmas.Bool.{eq-eqb}
use Rattle.std.proofs.lemmas.Map.{update_here, update_apart}
use Rattle.edge_base.specs.declared.damage.Damage.{Damage}
use Rattle.edge_base.specs.declared.form.Form.{Form}
use Rattle.edge_base.specs.declared.form.Form.TheVariants.{Plain, Indirect, Double}
use Rattle.edge_base.specs.declared.geometry.Request.{Request}
use Rattle.edge_base.specs.declared.node.Head.{Head}
use Rattle.edge_base.specs.layout.Places.{entries_of}
use Rattle.std.proofs.lemmas.Bool.Decides.{nat_tests}
use Rattle.edge_store.specs.View.{View, Block, Inode, whole, broken, Content, bytes, pointers, unused, content, content_at, is_owned_by, is_spot, is_whole, is_allocable, empty_content, entries_of_inode, head_of_inode, with_block, with_inode, IsView}
use Rattle.edge_store.specs.Damages.{damage_in, damage_at, damage_of_inode}
use Rattle.edge_store.specs.Effects.{IsFresh, Copied}

-- ---- blocks

pub used_of : (f : Form) (o : Option Block) (x : ℕ) → is_owned_by x (content f o) ≡ true → is_some o ≡ true
used_of f None x h = absurd (let e : false ≡ true = h in cc)
used_of f (Some block) x h = refl

pub empty_is_owned : (g : Request) (f : Form) (x : ℕ) → is_owned_by x (empty_content g f x) ≡ true
empty_is_owned g Plain x = refl
empty_is_owned g Indirect x = eq-eqb x x refl
empty_is_owned g Double x = eq-eqb x x refl

pub with_block_here : (v : View) (b : ℕ) (x : Option Block) → (with_block v b x).blocks b ≡ x
with_block_here v b x = update_here v.blocks b x

pub with_block_apart : (v : View) (b : ℕ) (x : Option Block) (c : ℕ) → c ≢ b → (with_block v b x).blocks c ≡ v.blocks c
with_block_apart v b x c apart = update_apart v.blocks b x c apart

-- a block that is read as a used one is used
pub used_alike : (f : Form) (o p : Option Block) → content f o ≡ content f p → is_some p ≡ true → is_some o ≡ true
used_alike f (Some block) p e there = refl
used_alike f None None e there = there
used_alike Plain None (Some block) e there = absurd (let x : unused ≡ bytes block.bytes = e in cc)
used_alike Indirect None (Some block) e there = absurd (let x : unused ≡ pointers block.indirect = e in cc)
used_alike Double None (Some block) e there = absurd (let x : unused ≡ pointers block.double = e in cc)

pub with_inode_here : (v : View) (n : ℕ) (x : Option Inode) → (with_inode v n x).inodes n ≡ x
with_inode_here v n x = update_here v.inodes n x

pub with_inode_apart : (v : View) (n : ℕ) (x : Option Inode) (k : ℕ) → k ≢ n → (with_inode v n x).inodes k ≡ v.inodes k
with_inode_apart v n x k apart = update_apart v.inodes n x k apart

-- ---- what is met

-- a block of which no damage is met is used, of its form and owner
owned_where_none : (b x : ℕ) (c : Content) → damage_in b x c ≡ None → is_owned_by x c ≡ true
owned_where_none b x (bytes list) e = refl
owned_where_none b x (pointers (Ok node)) e = same _ (node.owner == x) e
  where
    same : (d : Damage) (t : Bool) → cond t None (Some d) ≡ None → t ≡ true
    same d true e = refl
    same d false e = absurd (cc)
owned_where_none b x (pointers (Err fault)) e = absurd (cc)
owned_where_none b x unused e = absurd (cc)

none_where_owned : (b x : ℕ) (c : Content) → is_owned_by x c ≡ true → damage_in b x c ≡ None
none_where_owned b x (bytes list) e = refl
none_where_owned b x (pointers (Ok node)) e = same _ (node.owner == x) e
  where
    same : (d : Damage) (t : Bool) → t ≡ true → cond t None (Some d) ≡ None
    same d true e = refl
    same d false e = absurd (let f : false ≡ true = e in cc)
none_where_owned b x (pointers (Err fault)) e = absurd (let f : false ≡ true = e in cc)
none_where_owned b x unused e = absurd (let f : false ≡ true = e in cc)

pub spot_of : (v : View) (f : Form) (x b : ℕ) → damage_at v f x b ≡ None → is_spot v f x b ≡ true
spot_of v f x b e = owned_where_none b x (content_at v f b) e

pub no_damage_of : (v : View) (f : Form) (x b : ℕ) → is_spot v f x b ≡ true → damage_at v f x b ≡ None
no_damage_of v f x b e = none_where_owned b x (content_at v f b) e

-- an inode of which no damage is met is whole
pub whole_of : (o : Option Inode) → damage_of_inode o ≡ None → is_some o ≡ true → is_whole o ≡ true
whole_of None e there = there
whole_of (Some (whole head entries)) e there = refl
whole_of (Some (broken d)) e there = absurd (cc)

pub no_damage_where_whole : (o : Option Inode) → is_whole o ≡ true → damage_of_inode o ≡ None
no_damage_where_whole None e = refl
no_damage_where_whole (Some (whole head entries)) e = refl
no_damage_where_whole (Some (broken d)) e = absurd (let f : false ≡ true = e in cc)

pub broken_of : (o : Option Inode) (d : Damage) → damage_of_inode o ≡ Some d → o ≡ Some (broken d)
broken_of None d e = absurd (cc)
broken_of (Some (whole head entries)) d e = absurd (cc)
broken_of (Some (broken c)) d e = ap (λ x. Some (broken x)) (let f : Some c ≡ Some d = e in cc)

pub some_of_whole : (o : Option Inode) → is_whole o ≡ true → is_some o ≡ true
some_of_whole None e = e
some_of_whole (Some i) e = refl

-- a whole inode with its head
pub head_of_whole : (o : Option Inode) → is_whole o ≡ true → (head : Head) × (o ≡ Some (whole head (entries_of_inode o)))
head_of_whole None e = absurd (let f : false ≡ true = e in cc)
head_of_whole (Some (broken d)) e = absurd (let f : false ≡ true = e in cc)
head_of_whole (Some (whole head entries)) e = (head, refl)

-- ---- what holds of every view

pub entries_of_whole : (g : Request) (v : View) (n : ℕ) → IsView g v → is_whole (v.inodes n) ≡ true → length (entries_of_inode (v.inodes n)) ≡ entries_of g
entries_of_whole g v n view is = let w = head_of_whole (v.inodes n) is in view.full_inodes n w.0 (entries_of_inode (v.inodes n)) w.1

-- a block that is not allocable is not used, block 0 among them
pub unused_where_not_allocable : (g : Request) (v : View) (b : ℕ) → IsView g v → is_allocable g b ≡ false → v.blocks b ≡ None
unused_where_not_allocable g v b view fails = by_use (v.blocks b) refl
  where
    by_use : (o : Option Block) → v.blocks b ≡ o → o ≡ None
    by_use None e = refl
    by_use (Some block) e = absurd (let f : false ≡ true = sym fails ∙ view.allocable b (ap is_some e) in cc)

pub unused_zero : (g : Request) (v : View) → IsView g v → v.blocks 0 ≡ None
unused_zero g v view = unused_where_not_allocable g v 0 view (grind (arith, nat_tests))

-- ---- copies

-- a block that is read without damage is not one that is not used
pub apart_of : (v : View) (f : Form) (x from b : ℕ) → damage_at v f x from ≡ None → v.blocks b ≡ None → b ≢ from
apart_of v f x from b met none_there e =
    let used : is_some (v.blocks from) ≡ true = used_of f (v.blocks from) x (spot_of v f x from met) in
    let none : is_some (v.blocks from) ≡ false = ap is_some (ap v.blocks (sym e) ∙ none_there) in
    let wrong : true ≡ false = sym used ∙ none in cc

pub copied_of : (g : Request) (c v w : View) (f : Form) (from b : ℕ) → IsFresh g c v b → b ≢ from → w ≡ with_block (with_block v b (v.blocks from)) from None → Copied g c v w f from b
copied_of g c v w f from b fresh far e =
    let here : w.blocks b ≡ v.blocks from = ap (λ (u : View). u.blocks b) e ∙ with_block_apart (with_block v b (v.blocks from)) from None b far ∙ with_block_here v b (v.blocks from) in
    record {
      fresh = fresh;
      working = e ∙ ap (λ o. with_block (with_block v b o) from None) (sym here);
      content = ap (content f) here;
      spells_the_same = λ other node. ap (content other) here;
    }

pub whole_with_head : (o : Option Inode) (head : Head) → head_of_inode o ≡ Some head → o ≡ Some (whole head (entries_of_inode o))
whole_with_head None head e = absurd (cc)
whole_with_head (Some (broken d)) head e = absurd (cc)
whole_with_head (Some (whole old entries)) head e = let f : Some old ≡ Some head = e in ap (λ h. Some (whole h entries)) (let same : old ≡ head = cc in same)
