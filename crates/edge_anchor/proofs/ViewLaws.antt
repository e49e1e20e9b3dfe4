-- A view is of the blocks that it uses alone.
use Rattle.std.proofs.Common.{◌≡◌, ◌≢◌, inl, inr, ℕ, ◌+◌, ◌-◌, ◌*◌, ◌/◌, ◌%◌, ◌<◌, ◌≤◌, ◌&&◌, Bool, true, false, cond, List, Option, Some, None, refl, sym, ap, ◌∙◌, arith}
use Rattle.std.specs.Prelude.{nat_eq}
use Rattle.std.specs.Map.{update}
use Rattle.std.proofs.lemmas.Bool.{cases_eq}
use Rattle.std.proofs.lemmas.Map.{update_here, update_apart}
use Rattle.edge_base.specs.declared.geometry.Request.{Request}
use Rattle.edge_base.specs.layout.Bitmap.{live_place, used_under}
use Rattle.edge_base.specs.layout.Bytes.{bit_in}
use Rattle.edge_base.specs.layout.Places.{IsWithinLimits, is_inline_of, imap_nodes_of, table_start_of, inode_place_of}
use Rattle.edge_base.specs.layout.Sizes.{node_bits, place_of}
use Rattle.edge_base.proofs.LayoutLaws.{node_of_bit}
use Rattle.edge_nodes.proofs.GeometryLaws.{block_long}
use Rattle.edge_store.specs.View.{is_allocable, is_number, with_inode, with_block}
use Rattle.edge_image.specs.View.{inode_at, inode_by, inode_under, block_told, block_under, view_over}
use Rattle.edge_anchor.specs.Anchor.{HasBit}
use Rattle.edge_anchor.specs.Stays.{BlockStays}
use Rattle.edge_anchor.proofs.PlaceLaws.{low_place, number_within, allocable_within, place_has_bit, block_has_bit}

cond_alike : {A : Type 0} (b : Bool) (x y : Option A) → (b ≡ true → x ≡ y) → cond b x None ≡ cond b y None
cond_alike true x y same = same refl
cond_alike false x y same = refl

module _ (g : Request) (used now : ℕ → Bool) (old new : ℕ → List ℕ) where
  -- ---- one inode, one block

  by_bits : (n : ℕ) (s t : Bool) → (s ≡ true → new (inode_place_of g n false) ≡ old (inode_place_of g n false))
      → (t ≡ true → new (inode_place_of g n true) ≡ old (inode_place_of g n true))
      → inode_by g new n s t ≡ inode_by g old n s t
  by_bits n true true first second = refl
  by_bits n true false first second = ap (λ c. Some (inode_at g (inode_place_of g n false) c)) (first refl)
  by_bits n false true first second = ap (λ c. Some (inode_at g (inode_place_of g n true) c)) (second refl)
  by_bits n false false first second = refl

  inode_stays : (n : ℕ) → (is_number g n ≡ true → (second : Bool) → BlockStays used now old new (inode_place_of g n second))
      → inode_under g now new n ≡ inode_under g used old n
  inode_stays n stay = cond_alike (is_number g n) _ _ (λ is.
      let first = stay is false in
      let second = stay is true in
      (λ t. inode_by g new n (first.same_use t) (second.same_use t))
      ∙ by_bits n (used (inode_place_of g n false)) (used (inode_place_of g n true)) first.bytes second.bytes)

  told : (b : ℕ) (t : Bool) → (t ≡ true → new b ≡ old b) → cond t (Some (block_told g (new b))) None ≡ cond t (Some (block_told g (old b))) None
  told b true same = ap (λ c. Some (block_told g c)) (same refl)
  told b false same = refl

  block_stays : (b : ℕ) → (is_allocable g b ≡ true → BlockStays used now old new b) → block_under g now new b ≡ block_under g used old b
  block_stays b stay = elim (is_allocable g b) as
      (λ t. (is_allocable g b ≡ t) → cond (t && now b) (Some (block_told g (new b))) None ≡ cond (t && used b) (Some (block_told g (old b))) None) [
        | true ↦ λ is. ap (λ t. cond t (Some (block_told g (new b))) None) (stay is).same_use ∙ told b (used b) (stay is).bytes
        | false ↦ λ is. refl
      ] refl

  -- ---- the view

  module _ (limits : IsWithinLimits g) where
    -- where each block stays, the view does
    pub view_stays : ((b : ℕ) → HasBit g b → BlockStays used now old new b) → view_over g now new ≡ view_over g used old
    view_stays stay = λ t. record {
      inodes = λ n. inode_stays n (λ is second. stay (inode_place_of g n second) (place_has_bit g limits n second is)) t;
      blocks = λ b. block_stays b (λ is. stay b (block_has_bit g limits b is)) t;
    }

    -- where all but the places of a number stay, the view does but for this number
    pub inode_changes : (n : ℕ) → is_number g n ≡ true
        → ((b : ℕ) → HasBit g b → b ≢ inode_place_of g n false → b ≢ inode_place_of g n true → BlockStays used now old new b)
        → view_over g now new ≡ with_inode (view_over g used old) n (inode_under g now new n)
    inode_changes n is stay =
        let own = number_within g limits n is in
        let others : (k : ℕ) → k ≢ n → inode_under g now new k ≡ inode_under g used old k = λ k far. inode_stays k (λ in_range second.
        let range = number_within g limits k in_range in
        let low = low_place second in
        stay (inode_place_of g k second) (place_has_bit g limits k second in_range)
        (λ e. far (same_pair k n (place_of second) 0 range.0 own.0 low (omega arith) (omega arith)))
        (λ e. far (same_pair k n (place_of second) 1 range.0 own.0 low (omega arith) (omega arith)))) in
        λ t. record {
          inodes = λ k. elim (cases_eq k n) as (λ x. inode_under g now new k ≡ update nat_eq (inode_under g used old) n (inode_under g now new n) k) [
            | inl e ↦ ap (inode_under g now new) e
                ∙ sym (ap (update nat_eq (inode_under g used old) n (inode_under g now new n)) e
                ∙ update_here (inode_under g used old) n (inode_under g now new n))
            | inr far ↦ others k far ∙ sym (update_apart (inode_under g used old) n (inode_under g now new n) k far)
          ] t;
          blocks = λ b. block_stays b (λ may. let within = allocable_within g limits b may in stay b (block_has_bit g limits b may)
              (λ e. omega (arith, low_place false)) (λ e. omega (arith, low_place true))) t;
        }
      where
        same_pair : (k n s t : ℕ) → 2 ≤ k → 2 ≤ n → s ≤ 1 → t ≤ 1 → 2 * (k - 2) + s ≡ 2 * (n - 2) + t → k ≡ n
        same_pair k n s t two_k two_n low_s low_t e = omega arith

    -- where all but an allocable block stay, the view does but for this block
    pub block_changes : (c : ℕ) → is_allocable g c ≡ true → ((b : ℕ) → HasBit g b → b ≢ c → BlockStays used now old new b)
        → view_over g now new ≡ with_block (view_over g used old) c (block_under g now new c)
    block_changes c is stay =
        let within = allocable_within g limits c is in
        λ t. record {
          inodes = λ n. inode_stays n (λ in_range second.
              let range = number_within g limits n in_range in
              let low = low_place second in
              stay (inode_place_of g n second) (place_has_bit g limits n second in_range) (λ e. omega arith)) t;
          blocks = λ b. elim (cases_eq b c) as (λ x. block_under g now new b ≡ update nat_eq (block_under g used old) c (block_under g now new c) b) [
            | inl e ↦ ap (block_under g now new) e
                ∙ sym (ap (update nat_eq (block_under g used old) c (block_under g now new c)) e
                ∙ update_here (block_under g used old) c (block_under g now new c))
            | inr far ↦ block_stays b (λ may. stay b (block_has_bit g limits b may) far)
                ∙ sym (update_apart (block_under g used old) c (block_under g now new c) b far)
          ] t;
        }

-- ---- bits

else_same : (t x y z : Bool) → (t ≡ false → y ≡ z) → cond t x y ≡ cond t x z
else_same true x y z same = refl
else_same false x y z same = same refl

-- the bits of a root are the same where the live nodes below it are
pub used_same : (g : Request) (roots : List ℕ) (old new : ℕ → List ℕ) → IsWithinLimits g
    → ((i : ℕ) → i < imap_nodes_of g → new (live_place g roots i) ≡ old (live_place g roots i))
    → (b : ℕ) → HasBit g b → used_under g roots new b ≡ used_under g roots old b
used_same g roots old new limits same b has =
    let i = b - table_start_of g in
    let node = i / node_bits g.block_size in
    let long : 16 < g.block_size = let least = (block_long g.block_size limits.block_size).least in omega arith in
    else_same (is_inline_of g) (bit_in 0 roots i) (bit_in 16 (new (live_place g roots node)) (i % node_bits g.block_size))
    (bit_in 16 (old (live_place g roots node)) (i % node_bits g.block_size))
    (λ external. ap (λ bytes. bit_in 16 bytes (i % node_bits g.block_size)) (same node (node_of_bit g long external b has.from has.below)))
