-- What the steps of a call together do to the working view.
use Rattle.std.proofs.Common.{◌≡◌, ◌≢◌, inl, inr, ℕ, ◌+◌, ◌*◌, ◌^◌, ◌<◌, ◌≤◌, ◌==◌, ◌&&◌, Bool, true, false, not, List, length, take, drop, append_assoc, Option, Some, None, refl, sym, ap, ◌∙◌, subst}
use Rattle.std.specs.Prelude.{Ok, Err, Result, is_some, nat_eq, slice_set}
use Rattle.std.specs.Map.{update}
use Rattle.std.proofs.lemmas.Bool.{cases_eq, eqb-true}
use Rattle.byteorder.specs.Endian.{little_bytes}
use Rattle.std.proofs.lemmas.Map.{update_here, update_apart}
use Rattle.edge_base.specs.declared.damage.Damage.{Damage}
use Rattle.edge_base.specs.declared.form.Form.{Form}
use Rattle.edge_base.specs.declared.form.Form.TheVariants.{Plain, Indirect, Double}
use Rattle.edge_base.specs.declared.geometry.Request.{Request}
use Rattle.edge_base.specs.declared.node.NodeFault.{NodeFault}
use Rattle.edge_base.specs.layout.Spelling.{PointerNode, pointer_in}
use Rattle.edge_image.specs.View.{block_told}
use Rattle.edge_store.specs.Calls.{Meets, NeverDamaged}
use Rattle.edge_store.specs.Damages.{damage_at}
use Rattle.edge_store.specs.Effects.{BlockDropped, BytesSet, Copied, IsFresh, PointerSet, Taken, put_in}
use Rattle.edge_store.specs.State.{StoreState}
use Rattle.edge_store.specs.View.{Block, View, bytes, bytes_in, content, content_at, entries_in, is_new, is_owned_by, is_spot, is_used, pointers, with_block}
use Rattle.edge_store.specs.declared.fault.StoreFault.{StoreFault}
use Rattle.edge_store.proofs.ViewLaws.{no_damage_of, used_of, with_block_apart}
use Rattle.edge_cache.specs.Blocks.{changed_by, word_holds_in}
use Rattle.edge_point.specs.Uses.{BlockEmptied, BlockPut, CopyPut, IsCopy, UseSet, form_of, is_node}
use Rattle.edge_point.proofs.FindLaws.{always}
use Rattle.edge_point.proofs.NodeLaws.{pointer_put}

-- ---- damage

-- a call that came to nothing worse than its first step met
pub meets_then : {S T : Type 0} (met : Option Damage) (old mid new : StoreState) (v : S) (r : Result T StoreFault) → Meets met old mid (Ok v) → NeverDamaged r
    → Meets met old new r
meets_then met old mid new v r first never = record {
  none = always r (met ≡ None) first.none;
  that = λ d h. absurd (never d h);
  keeps = λ d h. absurd (never d h);
}

-- what the first step met is answered
pub meets_as : {S T : Type 0} (met : Option Damage) (old new : StoreState) (s : Result S StoreFault) (r : Result T StoreFault) (f : StoreFault)
    → Meets met old new s
    → s ≡ Err f → r ≡ Err f → Meets met old new r
meets_as met old new s r f first was is =
    let at = subst (Meets met old new) was first in
    subst (Meets met old new) (sym is) (record {
      none = tt;
      that = λ d h. at.that d (ap (λ (x : StoreFault). Err x) (cc h));
      keeps = λ d h. at.keeps d (ap (λ (x : StoreFault). Err x) (cc h));
    })

pub meets_on : {T : Type 0} (met : Option Damage) (old new : StoreState) (r : Result T StoreFault) → met ≡ None → NeverDamaged r → Meets met old new r
meets_on met old new r none never = record { none = always r (met ≡ None) none; that = λ d h. absurd (never d h); keeps = λ d h. absurd (never d h) }

-- ---- views

with_twice : (v : View) (b : ℕ) (x y : Option Block) → with_block (with_block v b x) b y ≡ with_block v b y
with_twice v b x y = λ t. record {
  inodes = v.inodes;
  blocks = λ k. elim (cases_eq k b) as (λ z. update nat_eq (update nat_eq v.blocks b x) b y k ≡ update nat_eq v.blocks b y k) [
    | inl e ↦ ap (update nat_eq (update nat_eq v.blocks b x) b y) e ∙ update_here (update nat_eq v.blocks b x) b y
        ∙ sym (ap (update nat_eq v.blocks b y) e ∙ update_here v.blocks b y)
    | inr far ↦ update_apart (update nat_eq v.blocks b x) b y k far ∙ update_apart v.blocks b x k far ∙ sym (update_apart v.blocks b y k far)
  ] t;
}

-- two changes of one block are one
pub one_change : (v u w : View) (b : ℕ) → u ≡ with_block v b (u.blocks b) → w ≡ with_block u b (w.blocks b) → w ≡ with_block v b (w.blocks b)
one_change v u w b first second = second ∙ ap (λ (x : View). with_block x b (w.blocks b)) first ∙ with_twice v b (u.blocks b) (w.blocks b)

pub none_of : (o : Option Block) → is_some o ≡ false → o ≡ None
none_of None e = refl
none_of (Some block) e = absurd (cc e)

-- ---- calls

pub taken_of : (g : Request) (c v u w : View) (form : Form) (owner b : ℕ) → IsFresh g c v b → UseSet v u b true → BlockEmptied g u w form owner b
    → Taken g c v w form owner b
taken_of g c v u w form owner b fresh turned empty = record {
  fresh = fresh;
  working = one_change v u w b turned.working empty.working;
  content = empty.content;
  spells_no_other = empty.spells_no_other;
}

pub dropped_of : (v w : View) (b : ℕ) → UseSet v w b false → BlockDropped v w b
dropped_of v w b turned = turned.working ∙ ap (with_block v b) (none_of (w.blocks b) turned.here)

-- ---- copies

-- a node that is owned was spelled, with this owner
owner_of : (owner : ℕ) (node : PointerNode) → (node.owner == owner) ≡ true → node.owner ≡ owner
owner_of owner node e = eqb-true node.owner owner e

owned_node : (owner : ℕ) (r : Result PointerNode NodeFault) → is_owned_by owner (pointers r) ≡ true → (node : PointerNode) × (r ≡ Ok node)
    × (node.owner ≡ owner)
owned_node owner (Ok node) owned = (node, refl, owner_of owner node owned)
owned_node owner (Err fault) owned = absurd (cc owned)

each_kind : (g : Request) (from to : List ℕ) → ((k : Bool) → pointer_in g k to ≡ pointer_in g k from) → (other : Form) → other ≢ Plain
    → content other (Some (block_told g to)) ≡ content other (Some (block_told g from))
each_kind g from to each Plain node = absurd (node refl)
each_kind g from to each Indirect node = ap pointers (each false)
each_kind g from to each Double node = ap pointers (each true)

copy_reads : (g : Request) (form : Form) (owner : ℕ) (from to : List ℕ) → IsCopy g (is_node form) from to
    → is_owned_by owner (content form (Some (block_told g from))) ≡ true
    → (content form (Some (block_told g to)) ≡ content form (Some (block_told g from)))
    × ((other : Form) → other ≢ Plain → content other (Some (block_told g to)) ≡ content other (Some (block_told g from)))
copy_reads g Plain owner from to copy owned =
    let same = copy.plain refl in
    (ap (λ (b : List ℕ). bytes b) same, λ other node. ap (λ (b : List ℕ). content other (Some (block_told g b))) same)
copy_reads g Indirect owner from to copy owned =
    let n = owned_node owner (pointer_in g false from) owned in
    let each = copy.spelled refl false n.0 n.1 in
    (ap pointers (each false), each_kind g from to each)
copy_reads g Double owner from to copy owned =
    let n = owned_node owner (pointer_in g true from) owned in
    let each = copy.spelled refl true n.0 n.1 in
    (ap pointers (each true), each_kind g from to each)

pub copied_of : (g : Request) (c v u x w : View) (form : Form) (owner from b : ℕ) (room : List ℕ) → IsFresh g c v b → is_spot v form owner from ≡ true
    → v.blocks from ≡ Some (block_told g room) → UseSet v u b true → CopyPut g u x b (is_node form) room → UseSet x w from false → Copied g c v w form from b
copied_of g c v u x w form owner from b room fresh spot held turned put freed =
    let on = used_of form (v.blocks from) owner spot in
    let far : b ≢ from = λ e. let off : is_some (v.blocks from) ≡ false = ap is_some (ap v.blocks (sym e) ∙ fresh.unused) in cc (on, off) in
    let dropped = dropped_of x w from freed in
    let kept : w.blocks b ≡ x.blocks b = ap (λ (y : View). y.blocks b) dropped ∙ with_block_apart x from None b far in
    let there : x.blocks b ≡ Some (block_told g put.to) = put.bytes turned.here in
    let reads = copy_reads g form owner room put.to put.copy (ap (λ o. is_owned_by owner (content form o)) (sym held) ∙ spot) in
    record {
      fresh = fresh;
      working = dropped ∙ ap (λ (y : View). with_block y from None) (one_change v u x b turned.working put.working)
          ∙ ap (λ o. with_block (with_block v b o) from None) (sym kept);
      content = ap (content form) (kept ∙ there) ∙ reads.0 ∙ ap (content form) (sym held);
      spells_the_same = λ other node. ap (content other) (kept ∙ there) ∙ reads.1 other node ∙ ap (content other) (sym held);
    }

-- ---- bytes and pointers

pub new_used : (c v : View) (b : ℕ) → is_new c v b ≡ true → is_some (v.blocks b) ≡ true
new_used c v b e = first (is_used v b) (is_used c b) e
  where
    first : (s t : Bool) → (s && not t) ≡ true → s ≡ true
    first true t e = refl
    first false t e = absurd (cc e)

bytes_by : (g : Request) (v w : View) (b at : ℕ) (new : List ℕ) (o : Option Block) → v.blocks b ≡ o → is_some o ≡ true
    → BlockPut g v w b (changed_by at new false) → BytesSet v w b at new
bytes_by g v w b at new None e on put = absurd (cc on)
bytes_by g v w b at new (Some block) e on put = record {
  working = put.working;
  content = ap (content Plain) (put.bytes block e)
      ∙ ap (λ (l : List ℕ). bytes l) (sym (append_assoc (take at block.bytes) new (drop (at + length new) block.bytes)))
      ∙ ap (λ o. bytes (put_in (bytes_in (content Plain o)) at new)) (sym e);
}

pub bytes_of : (g : Request) (v w : View) (b at : ℕ) (new : List ℕ) → is_some (v.blocks b) ≡ true → BlockPut g v w b (changed_by at new false)
    → BytesSet v w b at new
bytes_of g v w b at new on put = bytes_by g v w b at new (v.blocks b) refl on put

plain_owned : (owner : ℕ) (o : Option Block) → is_some o ≡ true → is_owned_by owner (content Plain o) ≡ true
plain_owned owner None on = on
plain_owned owner (Some block) on = refl

-- a used block of bytes has no damage
pub plain_met : (v : View) (form : Form) (owner b : ℕ) → form ≡ Plain → is_some (v.blocks b) ≡ true → damage_at v form owner b ≡ None
plain_met v form owner b e on = ap (λ (f : Form). damage_at v f owner b) e ∙ no_damage_of v Plain owner b (plain_owned owner (v.blocks b) on)

node_content : (g : Request) (double : Bool) (b : List ℕ) → content (form_of double) (Some (block_told g b)) ≡ pointers (pointer_in g double b)
node_content g true b = refl
node_content g false b = refl

other_content : (g : Request) (double : Bool) (b : List ℕ) (other : Form) → other ≢ Plain → other ≢ form_of double
    → content other (Some (block_told g b)) ≡ pointers (pointer_in g (not double) b)
other_content g double b Plain node far = absurd (node refl)
other_content g true b Indirect node far = refl
other_content g true b Double node far = absurd (far refl)
other_content g false b Indirect node far = absurd (far refl)
other_content g false b Double node far = refl

module _ (g : Request) (v w : View) (owner b i to : ℕ) (word : List ℕ) (inside : 20 + 4 * i + 4 ≤ g.block_size) (small : to < 2 ^ 32)
    (spelled : word ≡ little_bytes 4 to)
    (put : BlockPut g v w b (changed_by (20 + 4 * i) word true)) (holds : (block : Block) → w.blocks b ≡ Some block → word_holds_in block.bytes ≡ true) where
  by_kind : (double : Bool) (block : Block) → v.blocks b ≡ Some block → length block.bytes ≡ g.block_size → is_spot v (form_of double) owner b ≡ true
      → PointerSet v w (form_of double) owner b i to
  by_kind double block e len spot =
      let new = changed_by (20 + 4 * i) word true block.bytes in
      let was : content_at v (form_of double) b ≡ pointers (pointer_in g double block.bytes)
      = ap (content (form_of double)) (e ∙ ap (λ (x : Block). Some x) (put.was block e)) ∙ node_content g double block.bytes in
      let n = owned_node owner (pointer_in g double block.bytes) (ap (is_owned_by owner) (sym was) ∙ spot) in
      let there = put.bytes block e in
      let both = pointer_put g double owner i to n.0 word block.bytes new len inside small spelled n.1 n.2 refl (holds (block_told g new) there) in
      record {
        working = put.working;
        content = ap (content (form_of double)) there ∙ node_content g double new ∙ ap pointers both.0
            ∙ ap (λ x. pointers (Ok (record { owner = owner; entries = slice_set (entries_in x) i to }))) (sym (was ∙ ap pointers n.1));
        spells_no_other = λ other node far. ap (content other) there ∙ other_content g double new other node far ∙ ap pointers both.1;
      }

  by_form : (form : Form) (block : Block) → form ≢ Plain → v.blocks b ≡ Some block → length block.bytes ≡ g.block_size → is_spot v form owner b ≡ true
      → PointerSet v w form owner b i to
  by_form Plain block node e len spot = absurd (node refl)
  by_form Indirect block node e len spot = by_kind false block e len spot
  by_form Double block node e len spot = by_kind true block e len spot

  pub pointer_of : (form : Form) → form ≢ Plain → ((block : Block) → v.blocks b ≡ Some block → length block.bytes ≡ g.block_size)
      → is_spot v form owner b ≡ true
      → PointerSet v w form owner b i to
  pointer_of form node len spot = by_use (v.blocks b) refl (used_of form (v.blocks b) owner spot)
    where
      by_use : (o : Option Block) → v.blocks b ≡ o → is_some o ≡ true → PointerSet v w form owner b i to
      by_use None e on = absurd (cc on)
      by_use (Some block) e on = by_form form block node e (len block e) spot
