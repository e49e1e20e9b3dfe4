-- What is seen of the slots of a directory that keeps its rules.
use Rattle.std.proofs.Common.{◌≡◌, ◌∙◌, ℕ, zero, suc, ◌+◌, ◌-◌, ◌*◌, ◌/◌, ◌%◌, ◌<◌, ◌≤◌, ◌==◌, List, length, inl, inr, Option, Some, None, refl, sym, ap, arith}
use Rattle.std.specs.Prelude.{IfSome}
use Rattle.std.proofs.lemmas.Bool.{cases_lt}
use Rattle.std.proofs.lemmas.Nat.{div-add-mod'}
use Rattle.std.proofs.Math.Nat.{mod-lt, div-lt_iff_lt-mul}
use Rattle.edge_base.specs.commands.Descriptors.{first_empty}
use Rattle.edge_base.specs.declared.geometry.Request.{Request}
use Rattle.edge_base.specs.layout.Places.{IsWithinLimits}
use Rattle.edge_base.specs.tree.NodeRules.{IsEntry}
use Rattle.edge_base.specs.tree.Nodes.{directory}
use Rattle.edge_base.specs.tree.Slots.{Entry, Slots, pieces, slot_blocks, slot_bytes, slots_in_block}
use Rattle.edge_store.specs.Damages.{slot_in}
use Rattle.edge_store.specs.Placed.{HasNode}
use Rattle.edge_store.specs.View.{View, head_of_inode}
use Rattle.edge_slots.specs.Slot.{entry_of}
use Rattle.edge_file.specs.Bytes.{size_in}
use Rattle.edge_dir.specs.Directory.{HasNoName, slot_of}
use Rattle.edge_dir.specs.Looked.{HasSlot, IsFilledAt, IsFirstNamedAt, IsFirstFreeAt, AreSlotsUpTo, LacksBefore, blocks_below_end, slots_below_end}
use Rattle.edge_dir.proofs.EndLaws.{more_than_before, no_blocks, some_bytes, some_slots}
use Rattle.edge_dir.proofs.SeenLaws.{one_slot}
use Rattle.edge_dir.proofs.SlotLaws.{before_end, blocks_hold, entry_allowed, first_empty_is, last_behind, last_is_filled, past_last}
use Rattle.edge_dir.proofs.ViewLaws.{blocks_are, slots_are}

module _ (g : Request) (v : View) (d : ℕ) (slots : Slots) (parent : ℕ) (node : HasNode g v d (directory slots parent))
    (limits : IsWithinLimits g) where
  some : 0 < slots_in_block g
  some = some_slots g limits

  pub count_is : blocks_below_end g v d ≡ slot_blocks g slots
  count_is = ap (λ o. pieces g.block_size (size_in (head_of_inode o))) node.inode ∙ blocks_are g v d slots parent node node.head (ap head_of_inode node.inode) (some_bytes g limits)

  -- the data blocks have all slots
  pub all_below : length slots ≤ slots_below_end g v d
  all_below = let held = blocks_hold (slots_in_block g) (length slots) some in let same = ap (λ (x : ℕ). x * slots_in_block g) count_is in omega (arith, held, same)

  allowed_at : (k : ℕ) (slot : Option Entry) → slot_of slots k ≡ slot → IfSome slot (IsEntry g)
  allowed_at k None is = tt
  allowed_at k (Some e) is = entry_allowed g slots k e node.rules.entries is

  pub slot_is : (k : ℕ) (slot : Option Entry) → k < slots_below_end g v d → HasSlot g v d k slot → slot_of slots k ≡ slot
  slot_is k slot low has =
      let n = slots_in_block g in
      let same = ap (λ (x : ℕ). x * n) count_is in
      let row : k / n < slot_blocks g slots = (div-lt_iff_lt-mul some).1 (omega (arith, low, same)) in
      let is = slots_are g v d slots parent node (k / n) has.list row has.content (k % n) (mod-lt k some) ∙ ap (λ (x : ℕ). slot_bytes g (slot_of slots x)) (div-add-mod' k n) in
      one_slot g (slot_in g has.list (k % n)) (slot_of slots k) slot limits is (allowed_at k (slot_of slots k) refl) has.spelled has.allowed

  pub filled_is : (k : ℕ) → k < slots_below_end g v d → IsFilledAt g v d k → slot_of slots k ≡ None → ⊥
  filled_is k low filled none = let e : Some filled.0 ≡ None = sym (slot_is k (Some filled.0) low filled.1) ∙ none in absurd (cc)

  -- ---- what calls answer

  pub no_name_is : (name : List ℕ) → LacksBefore g v d name (slots_below_end g v d) → HasNoName slots name
  no_name_is name lacks k number there =
      let inside = before_end slots k (λ none. let e : Some (entry_of name number) ≡ None = sym there ∙ none in cc) in
      let low : k < slots_below_end g v d = omega (arith, inside, all_below) in
      let other = lacks k low in
      other.2 number (sym (slot_is k other.0 low other.1) ∙ there)

  pub named_is : (name : List ℕ) (k number : ℕ) → IsFirstNamedAt g v d name k number → slot_of slots k ≡ Some (entry_of name number)
  named_is name k number found = slot_is k (Some (entry_of name number)) found.in_range found.here

  pub free_is : (k : ℕ) → IsFirstFreeAt g v d k → k ≡ first_empty slots
  free_is k free =
      let most = free.most in
      first_empty_is slots k (λ j low. filled_is j (omega (arith, low, most)) (free.before j low))
      (elim (cases_lt k (slots_below_end g v d)) [
        | inl low ↦ slot_is k None low (free.here low)
        | inr past ↦ past_last slots k (omega (arith, all_below, past))
      ])

  pub entry_is : (k : ℕ) → (k < slots_below_end g v d → HasSlot g v d k None) → slot_of slots k ≡ None
  entry_is k none = elim (cases_lt k (slots_below_end g v d)) [
    | inl low ↦ slot_is k None low (none low)
    | inr past ↦ past_last slots k (omega (arith, all_below, past))
  ]

  pub slots_are_counted : (count : ℕ) → AreSlotsUpTo g v d count → count ≡ length slots
  slots_are_counted count upto = by (blocks_below_end g v d) refl
    where
      none_behind : (j : ℕ) → count ≤ j → j < slots_below_end g v d → slot_of slots j ≡ None
      none_behind j late low = slot_is j None low (upto.behind j late low)

      by : (q : ℕ) → blocks_below_end g v d ≡ q → count ≡ length slots
      by zero e =
          let none : slots_below_end g v d ≡ 0 * slots_in_block g = ap (λ (x : ℕ). x * slots_in_block g) e in
          let most = upto.most in
          omega (arith, none, most, all_below)
      by (suc q) e =
          let n = slots_in_block g in
          let end : slots_below_end g v d ≡ q * n + n = (let row : suc q * n ≡ q * n + n = grind arith in ap (λ (x : ℕ). x * n) e ∙ row) in
          let begin : (blocks_below_end g v d - 1) * n ≡ q * n = (let less : blocks_below_end g v d - 1 ≡ q = omega (arith, e) in ap (λ (x : ℕ). x * n) less) in
          let least = upto.least in
          let most = upto.most in
          elim (cases_lt (q * n) count) [
            | inl more ↦
                let k = count - 1 in
                let filled = filled_is k (omega (arith, more, most)) (upto.last k (omega (arith, more)) (omega (arith, begin, more))) in
                let same = last_behind slots k (slots_below_end g v d) node.rules.last_filled all_below filled (λ j late low. none_behind j (omega (arith, late)) low) in
                omega (arith, more, same)
            | inr all ↦
                let held : pieces n (length slots) ≡ q + 1 = omega (arith, count_is, e) in
                let some_there = more_than_before n (length slots) q some held in
                let k = length slots - 1 in
                absurd (last_is_filled slots k node.rules.last_filled (omega (arith, some_there)) (none_behind k (omega (arith, some_there, all)) (omega (arith, some_there, all_below))))
          ]

  pub none_is_empty : (blocks_below_end g v d == 0) ≡ (length slots == 0)
  none_is_empty = ap (λ (x : ℕ). x == 0) count_is ∙ no_blocks (slots_in_block g) (length slots) some
