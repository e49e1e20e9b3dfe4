-- The slots of a node, seen in its data blocks one after the other, and what they are of a directory that keeps its rules.
use Rattle.std.proofs.Common.{◌≡◌, ◌∙◌, ℕ, ◌+◌, ◌-◌, ◌*◌, ◌/◌, ◌%◌, ◌<◌, ◌≤◌, List, [], take, inl, inr, Option, Some, None, refl, ap, subst, arith}
use Rattle.std.specs.Prelude.{IfSome}
use Rattle.std.proofs.lemmas.Bool.{cases_lt, false≢true}
use Rattle.std.proofs.lemmas.Nat.{div-mul-add, mod-mul-add}
use Rattle.std.proofs.Math.Nat.{mul-le-mul_right}
use Rattle.edge_base.specs.declared.form.Form.TheVariants.{Plain}
use Rattle.edge_base.specs.declared.geometry.Request.{Request}
use Rattle.edge_base.specs.layout.Places.{IsWithinLimits}
use Rattle.edge_base.specs.tree.NodeRules.{IsEntry}
use Rattle.edge_base.specs.tree.Slots.{Entry, slot_bytes, slots_in_block}
use Rattle.edge_store.specs.Damages.{slot_in}
use Rattle.edge_store.specs.Placed.{data_block}
use Rattle.edge_store.specs.View.{View, bytes, content_at}
use Rattle.edge_slots.specs.Slot.{HasEntry, IsEmpty, entry_of}
use Rattle.edge_slots.specs.Block.{IsFilled, IsFilledBefore, IsFirstEmpty, IsFirstNamed, IsFree, IsLastBelow, IsOther, Lacks, Seeks}
use Rattle.edge_slots.specs.declared.block.Search.{Search}
use Rattle.edge_slots.specs.declared.block.Search.TheVariants.{Found, Missing}
use Rattle.edge_slots.proofs.BlockLaws.{one_name, one_number, filled_or_empty}
use Rattle.edge_dir.specs.Directory.{SaysEntry, earlier, free_in}
use Rattle.edge_dir.specs.Looked.{HasSlot, IsFilledAt, IsOtherAt, AreFilledBefore, AreSlotsUpTo, IsFirstFreeAt, IsFirstNamedAt, LacksBefore, blocks_below_end, slots_below_end}

-- ---- what the bytes of a slot say

-- they say one thing
pub one_slot : (g : Request) (list : List ℕ) (a b : Option Entry) → IsWithinLimits g → list ≡ slot_bytes g a → IfSome a (IsEntry g) → list ≡ slot_bytes g b → IfSome b (IsEntry g) → a ≡ b
one_slot g list None None limits ea ia eb ib = refl
one_slot g list (Some a) None limits ea ia eb ib = absurd (filled_or_empty g list a.name a.number (record { spelled = ea; allowed = ia }) eb)
one_slot g list None (Some b) limits ea ia eb ib = absurd (filled_or_empty g list b.name b.number (record { spelled = eb; allowed = ib }) ea)
one_slot g list (Some a) (Some b) limits ea ia eb ib =
    let here : HasEntry g list a.name a.number = record { spelled = ea; allowed = ia } in
    let there : HasEntry g list b.name b.number = record { spelled = eb; allowed = ib } in
    let same_name = one_name g list a.name b.name a.number b.number here there in
    let same_number = one_number g list a.name b.name a.number b.number limits here there in
    λ t. Some (entry_of (same_name t) (same_number t))

-- ---- one block behind the others

-- what holds of the first so many, and of some behind them
pub and_more : (P : ℕ → Type 0) (a count : ℕ) → ((j : ℕ) → j < a → P j) → ((j : ℕ) → j < count → P (a + j)) → (j : ℕ) → j < a + count → P j
and_more P a count before more j low = elim (cases_lt j a) [
  | inl early ↦ before j early
  | inr late ↦
      let same : a + (j - a) ≡ j = omega arith in
      subst P same (more (j - a) (omega arith))
]

-- the first empty slot of the first so many, or that there is none
abbrev pub IsFreeSoFar : Request → View → ℕ → ℕ → Option ℕ → Type 0
IsFreeSoFar g v d count (Some k) = (k < count) × HasSlot g v d k None × AreFilledBefore g v d k
IsFreeSoFar g v d count None = AreFilledBefore g v d count

module _ (g : Request) (v : View) (d i : ℕ) (list : List ℕ) (is : content_at v Plain (data_block g v d i) ≡ bytes list) where
  abbrev at : ℕ → ℕ
  at j = i * slots_in_block g + j

  pub slot_here : (j : ℕ) (slot : Option Entry) → j < slots_in_block g → slot_in g list j ≡ slot_bytes g slot → IfSome slot (IsEntry g) → HasSlot g v d (at j) slot
  slot_here j slot low spelled allowed = record {
    list = list;
    content = ap (λ (x : ℕ). content_at v Plain (data_block g v d x)) (div-mul-add i (slots_in_block g) j low) ∙ is;
    spelled = ap (slot_in g list) (mod-mul-add i (slots_in_block g) j low) ∙ spelled;
    allowed = allowed;
  }

  pub entry_here : (j : ℕ) (name : List ℕ) (number : ℕ) → j < slots_in_block g → HasEntry g (slot_in g list j) name number → HasSlot g v d (at j) (Some (entry_of name number))
  entry_here j name number low has = slot_here j (Some (entry_of name number)) low has.spelled has.allowed

  pub empty_here : (j : ℕ) → j < slots_in_block g → IsEmpty g (slot_in g list j) → HasSlot g v d (at j) None
  empty_here j low empty = slot_here j None low empty tt

  pub filled_here : (j : ℕ) → j < slots_in_block g → IsFilled g (slot_in g list j) → IsFilledAt g v d (at j)
  filled_here j low filled = (entry_of filled.0 filled.1, entry_here j filled.0 filled.1 low filled.2)

  pub other_here : (j : ℕ) (name : List ℕ) → j < slots_in_block g → IsOther g name (slot_in g list j) → IsOtherAt g v d name (at j)
  other_here j name low (inl empty) = (None, empty_here j low empty, λ number e. cc)
  other_here j name low (inr (other, number, has, differs)) =
      (Some (entry_of other number), entry_here j other number low has, λ m e. differs (ap name_of e))
    where
      name_of : Option Entry → List ℕ
      name_of None = other
      name_of (Some e) = e.name

  pub lacks_more : (count : ℕ) (name : List ℕ) → count ≤ slots_in_block g → LacksBefore g v d name (i * slots_in_block g) → Lacks g list count name → LacksBefore g v d name (at count)
  lacks_more count name most before lacks = and_more (IsOtherAt g v d name) (i * slots_in_block g) count before (λ j low. other_here j name (omega (arith, low, most)) (lacks j low))

  pub filled_more : (count : ℕ) → count ≤ slots_in_block g → AreFilledBefore g v d (i * slots_in_block g) → IsFilledBefore g list count → AreFilledBefore g v d (at count)
  filled_more count most before filled = and_more (IsFilledAt g v d) (i * slots_in_block g) count before (λ j low. filled_here j (omega (arith, low, most)) (filled j low))

  pub free_more : (free found : Option ℕ) → IsFreeSoFar g v d (i * slots_in_block g) free → IsFree g list found → IsFreeSoFar g v d (at (slots_in_block g)) (earlier free (i * slots_in_block g) found)
  free_more (Some k) found (low, here, before) first = (omega (arith, low), here, before)
  free_more None (Some j) before first = (
    omega (arith, first.in_range),
    empty_here j first.in_range first.empty,
    filled_more j (let low = first.in_range in omega (arith, low)) before first.before,
  )
  free_more None None before first = filled_more (slots_in_block g) (omega arith) before first

  -- ---- what is answered behind block i

  row : (i + 1) * slots_in_block g ≡ i * slots_in_block g + slots_in_block g
  row = grind arith

  pub inside : (k : ℕ) → i < blocks_below_end g v d → k < slots_in_block g → at k < slots_below_end g v d
  inside k low in_block =
      let most = mul-le-mul_right {m = i + 1} {n = blocks_below_end g v d} (slots_in_block g) (omega arith) in
      omega (arith, row, most)

  pub first_named_here : (name : List ℕ) (k number : ℕ) → i < blocks_below_end g v d → LacksBefore g v d name (i * slots_in_block g) → IsFirstNamed g list name k number → IsFirstNamedAt g v d name (at k) number
  first_named_here name k number low before found = record {
    in_range = inside k low found.in_range;
    here = entry_here k name number found.in_range found.entry;
    before = lacks_more k name (let inner = found.in_range in omega (arith, inner)) before found.before;
  }

  pub first_free_here : (k : ℕ) → i < blocks_below_end g v d → AreFilledBefore g v d (i * slots_in_block g) → IsFirstEmpty g list k → IsFirstFreeAt g v d (at k)
  first_free_here k low before first = record {
    most = (let within = inside k low first.in_range in omega (arith, within));
    here = λ _. empty_here k first.in_range first.empty;
    before = filled_more k (let inner = first.in_range in omega (arith, inner)) before first.before;
  }

  -- a search for no name finds none, and so the first empty slot
  pub all_filled : (found : Search) → AreFilledBefore g v d (i * slots_in_block g) → Seeks g list [] found → free_in found ≡ None → AreFilledBefore g v d (at (slots_in_block g))
  all_filled (Found k number) before named none = absurd (false≢true named.entry.allowed.name)
  all_filled (Missing (Some k)) before missing none = absurd (cc)
  all_filled (Missing None) before missing none = filled_more (slots_in_block g) (omega arith) before missing.first_empty

  pub first_free_of : (found : Search) (k : ℕ) → i < blocks_below_end g v d → AreFilledBefore g v d (i * slots_in_block g) → Seeks g list [] found → free_in found ≡ Some k → IsFirstFreeAt g v d (at k)
  first_free_of (Found j number) k low before named is = absurd (false≢true named.entry.allowed.name)
  first_free_of (Missing None) k low before missing is = absurd (cc)
  first_free_of (Missing (Some j)) k low before missing is = let same : j ≡ k = cc in subst (λ (x : ℕ). IsFirstFreeAt g v d (at x)) same (first_free_here j low before missing.first_empty)

  -- ---- the last block

  pub counted_some : (k : ℕ) → blocks_below_end g v d ≡ i + 1 → IsLastBelow g list (slots_in_block g) k → AreSlotsUpTo g v d (at k + 1)
  counted_some k blocks last =
      let begin : (blocks_below_end g v d - 1) * slots_in_block g ≡ i * slots_in_block g = (let less : blocks_below_end g v d - 1 ≡ i = omega (arith, blocks) in ap (λ (x : ℕ). x * slots_in_block g) less) in
      let end = ap (λ (x : ℕ). x * slots_in_block g) blocks in
      let inner = last.in_range in
      record {
        least = omega (arith, begin);
        most = omega (arith, end, row, inner);
        last = λ x e low. let same : at k ≡ x = omega (arith, e) in subst (IsFilledAt g v d) same (filled_here k inner last.filled);
        behind = λ j late low.
            let a = j - i * slots_in_block g in
            let same : at a ≡ j = omega (arith, late) in
            let within : a < slots_in_block g = omega (arith, late, low, end, row) in
            subst (λ (x : ℕ). HasSlot g v d x None) same (empty_here a within (last.behind a (omega (arith, late)) within));
      }

  pub counted_none : blocks_below_end g v d ≡ i + 1 → ((j : ℕ) → j < slots_in_block g → IsEmpty g (slot_in g list j)) → AreSlotsUpTo g v d (i * slots_in_block g)
  counted_none blocks empty =
      let begin : (blocks_below_end g v d - 1) * slots_in_block g ≡ i * slots_in_block g = (let less : blocks_below_end g v d - 1 ≡ i = omega (arith, blocks) in ap (λ (x : ℕ). x * slots_in_block g) less) in
      let end = ap (λ (x : ℕ). x * slots_in_block g) blocks in
      record {
        least = omega (arith, begin);
        most = omega (arith, end, row);
        last = λ x e low. absurd (omega (arith, e, low, begin));
        behind = λ j late low.
            let a = j - i * slots_in_block g in
            let same : at a ≡ j = omega (arith, late) in
            let within : a < slots_in_block g = omega (arith, late, low, end, row) in
            subst (λ (x : ℕ). HasSlot g v d x None) same (empty_here a within (empty a within));
      }

-- ---- behind all blocks

pub counted_zero : (g : Request) (v : View) (d : ℕ) → blocks_below_end g v d ≡ 0 → AreSlotsUpTo g v d 0
counted_zero g v d none =
    let begin : (blocks_below_end g v d - 1) * slots_in_block g ≡ 0 * slots_in_block g = (let less : blocks_below_end g v d - 1 ≡ 0 = omega (arith, none) in ap (λ (x : ℕ). x * slots_in_block g) less) in
    let end = ap (λ (x : ℕ). x * slots_in_block g) none in
    record {
      least = omega (arith, begin);
      most = omega arith;
      last = λ x e low. absurd (omega (arith, e));
      behind = λ j late low. absurd (omega (arith, end, low));
    }

pub free_there : (g : Request) (v : View) (d k : ℕ) → IsFreeSoFar g v d (slots_below_end g v d) (Some k) → IsFirstFreeAt g v d k
free_there g v d k (low, here, before) = record { most = omega (arith, low); here = λ _. here; before = before }

pub free_at_end : (g : Request) (v : View) (d : ℕ) → IsFreeSoFar g v d (slots_below_end g v d) None → IsFirstFreeAt g v d (slots_below_end g v d)
free_at_end g v d before = record { most = omega arith; here = λ low. absurd (omega (arith, low)); before = before }

-- slot k, as it stands in its block
pub entry_of_block : (g : Request) (v : View) (d k : ℕ) (list name : List ℕ) (entry : ℕ × ℕ) → content_at v Plain (data_block g v d (k / slots_in_block g)) ≡ bytes list
    → SaysEntry g (slot_in g list (k % slots_in_block g)) name (Some entry) → HasSlot g v d k (Some (entry_of (take entry.1 name) entry.0))
entry_of_block g v d k list name entry is says = record { list = list; content = is; spelled = says.0.spelled; allowed = says.0.allowed }

pub empty_of_block : (g : Request) (v : View) (d k : ℕ) (list name : List ℕ) → content_at v Plain (data_block g v d (k / slots_in_block g)) ≡ bytes list
    → SaysEntry g (slot_in g list (k % slots_in_block g)) name None → HasSlot g v d k None
empty_of_block g v d k list name is says = record { list = list; content = is; spelled = says; allowed = tt }
