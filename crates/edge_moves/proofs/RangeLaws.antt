-- What is there is at a position that a node may have.
use Rattle.std.proofs.Common.{◌≡◌, ◌≢◌, ℕ, ◌+◌, ◌-◌, ◌*◌, ◌/◌, ◌%◌, ◌<◌, ◌≤◌, ltb, inl, inr, length, ap, ◌∙◌, arith}
use Rattle.std.proofs.lemmas.Bool.{cases_lt, le-ltb, cond-false}
use Rattle.std.proofs.lemmas.List.{get_or_past}
use Rattle.std.proofs.Math.Nat.{div-lt_iff_lt-mul}
use Rattle.edge_base.specs.declared.form.Form.{Form}
use Rattle.edge_base.specs.declared.form.Form.TheVariants.{Plain, Indirect, Double}
use Rattle.edge_base.specs.declared.geometry.Request.{Request}
use Rattle.edge_base.specs.layout.Places.{entries_of, pointers_of, max_blocks_of}
use Rattle.edge_base.specs.tree.Positions.{positions_of_form}
use Rattle.edge_store.specs.Placed.{entry_at, pointer_at, double_block, indirect_block, data_block, block_at}
use Rattle.edge_store.specs.View.{View, entries_of_inode}
use Rattle.edge_moves.specs.Sound.{numbered}

module _ (g : Request) (v : View) (n : ℕ) (fits : g.direct + g.indirect ≤ entries_of g) (some : 0 < pointers_of g) (full : length (entries_of_inode (v.inodes n)) ≡ entries_of g) where
  abbrev k : ℕ
  k = pointers_of g

  abbrev doubles : ℕ
  doubles = entries_of g - g.direct - g.indirect

  pointer_there : (form : Form) (b s : ℕ) → pointer_at v form b s ≢ 0 → b ≢ 0
  pointer_there form b s there none = there (ap (λ (x : ℕ). pointer_at v form x s) none)

  entry_there : (e : ℕ) → entry_at v n e ≢ 0 → e < entries_of g
  entry_there e there = elim (cases_lt e (entries_of g)) [
    | inl low ↦ low
    | inr past ↦ absurd (there (get_or_past (entries_of_inode (v.inodes n)) e 0 (omega arith)))
  ]

  double_there : (d : ℕ) → double_block g v n d ≢ 0 → d < doubles
  unfolding double_block
  double_there d there = let low = entry_there (g.direct + g.indirect + d) there in omega arith

  zero_le : (m : ℕ) → 0 ≤ m
  zero_le m = omega arith

  indirect_there : (j : ℕ) → indirect_block g v n j ≢ 0 → j < g.indirect + doubles * k
  unfolding indirect_block
  indirect_there j there = elim (cases_lt j g.indirect) [
    | inl low ↦ omega (arith, zero_le (doubles * k))
    | inr past ↦
        let is = cond-false (ltb j g.indirect) (entry_at v n (g.direct + j)) (pointer_at v Double (double_block g v n ((j - g.indirect) / k)) ((j - g.indirect) % k)) (le-ltb j g.indirect past) in
        let top = double_there ((j - g.indirect) / k) (pointer_there Double (double_block g v n ((j - g.indirect) / k)) ((j - g.indirect) % k) (λ none. there (is ∙ none))) in
        let below_all : j - g.indirect < doubles * k = (div-lt_iff_lt-mul some).0 top in
        omega arith
  ]

  data_there : (i : ℕ) → data_block g v n i ≢ 0 → i < max_blocks_of g
  unfolding data_block
  data_there i there = elim (cases_lt i g.direct) [
    | inl low ↦ omega (arith, zero_le (g.indirect * k), zero_le (doubles * (k * k)))
    | inr past ↦
        let is = cond-false (ltb i g.direct) (entry_at v n i) (pointer_at v Indirect (indirect_block g v n ((i - g.direct) / k)) ((i - g.direct) % k)) (le-ltb i g.direct past) in
        let row = indirect_there ((i - g.direct) / k) (pointer_there Indirect (indirect_block g v n ((i - g.direct) / k)) ((i - g.direct) % k) (λ none. there (is ∙ none))) in
        let below_all : i - g.direct < (g.indirect + doubles * k) * k = (div-lt_iff_lt-mul some).0 row in
        let rows : (g.indirect + doubles * k) * k ≡ g.indirect * k + doubles * (k * k) = grind arith in
        omega arith
  ]

  pub there_in_range : (form : Form) (m : ℕ) → block_at g v (numbered n form m) ≢ 0 → m < positions_of_form g form
  there_in_range Plain m there = data_there m there
  there_in_range Indirect m there = indirect_there m there
  there_in_range Double m there = double_there m there
