-- What the entries on the ways to data blocks lead to, and what is on a way.
use Rattle.std.proofs.Common.{◌≡◌, ℕ, ◌+◌, ◌-◌, ◌*◌, ◌/◌, ◌<◌, ◌≤◌, not, Bool, true, false, cond, ltb, inl, inr, List, [], ◌∷◌, map, refl, sym, ap, ◌∙◌, subst, arith}
use Rattle.std.specs.Prelude.{Result, Ok, Err, IfOk, count_by, slice_index}
use Rattle.std.proofs.lemmas.List.Sums.{sum_by-cons}
use Rattle.std.proofs.lemmas.Bool.{lt-ltb, le-ltb, cond-true, cond-false, cases_lt}
use Rattle.edge_base.specs.declared.form.Form.TheVariants.{Plain, Indirect, Double}
use Rattle.edge_base.specs.declared.geometry.Request.{Request}
use Rattle.edge_base.specs.declared.way.Way.{Way}
use Rattle.edge_base.specs.declared.way.Way.TheVariants as way
use Rattle.edge_base.specs.layout.Places.{entries_of, pointers_of, max_blocks_of, way_of}
use Rattle.edge_store.specs.Damages.{form_of_entry}
use Rattle.edge_base.specs.tree.Positions.{Position, chain}
use Rattle.edge_store.specs.Fresh.{is_dirty}
use Rattle.edge_store.specs.Placed.{follow, nodes_on, pointer_at, block_at}
use Rattle.edge_store.specs.State.{StoreState}
use Rattle.edge_store.specs.Told.{IsEntryOf}
use Rattle.edge_store.specs.View.{View, entries_of_inode, is_new}
use Rattle.edge_store.proofs.DigitLaws.{row_below, some_pointers}
use Rattle.edge_store.proofs.WayLaws.{data_block-follow, above_data-nodes_on}
use Rattle.edge_tree.specs.declared.chain.Chain.{Chain}
use Rattle.edge_moves.specs.Renewal.{cost}
use Rattle.edge_moves.specs.Writable.{fresh_on_chain}
use Rattle.edge_tree.specs.Answers.{IsDataBlock}
use Rattle.edge_tree.specs.Chains.{cost_of_way, IsOnWay, IsCostOf, IsCostOfWay, IsFreshOnChain}

-- the entry of a way leads to what the way asks
abbrev pub LeadsTo : Request → Way → Type 0
LeadsTo g (way.Direct e) = form_of_entry g e ≡ Plain
LeadsTo g (way.Single e place) = form_of_entry g e ≡ Indirect
LeadsTo g (way.Double e outer place) = form_of_entry g e ≡ Double

below : {A : Type 0} (a b : ℕ) (x y : A) → a < b → cond (ltb a b) x y ≡ x
below a b x y h = cond-true (ltb a b) x y (lt-ltb a b h)

from_on : {A : Type 0} (a b : ℕ) (x y : A) → b ≤ a → cond (ltb a b) x y ≡ y
from_on a b x y h = cond-false (ltb a b) x y (le-ltb a b h)

pub way_leads : (g : Request) (i : ℕ) → i < max_blocks_of g → LeadsTo g (way_of g i)
way_leads g i h = elim (cases_lt i g.direct) [
  | inl low ↦ subst (LeadsTo g) (sym (below i g.direct _ _ low)) (below i g.direct _ _ low)
  | inr past ↦
      let k = pointers_of g in
      let r : ℕ = i - g.direct in
      let some = some_pointers g.direct g.indirect (entries_of g - g.direct - g.indirect) k i h past in
      elim (cases_lt r (g.indirect * k)) [
        | inl single ↦
            let row : r / k < g.indirect = row_below r g.indirect k some single in
            subst (LeadsTo g) (sym (from_on i g.direct _ _ past ∙ below r (g.indirect * k) _ _ single))
            (from_on (g.direct + r / k) g.direct _ _ (omega arith) ∙ below (g.direct + r / k) (g.direct + g.indirect) _ _ (omega arith))
        | inr double ↦
            let e : ℕ = g.direct + g.indirect + (r - g.indirect * k) / (k * k) in
            subst (LeadsTo g) (sym (from_on i g.direct _ _ past ∙ from_on r (g.indirect * k) _ _ double))
            (from_on e g.direct _ _ (omega arith) ∙ from_on e (g.direct + g.indirect) _ _ (omega arith))
      ]
]

-- ---- what a walk answers

-- the block on the way to a data block is that data block
pub on_way : {E : Type 0} (s : StoreState) (n i : ℕ) (way : Way) (result : Result ℕ E) → i < max_blocks_of s.origin.request → way_of s.origin.request i ≡ way → IfOk result (IsOnWay s n way) → IfOk result (IsDataBlock s n i)
on_way s n i way (Ok b) low is on = λ told. on told ∙ ap (follow s.working (entries_of_inode (s.working.inodes n))) (sym is) ∙ sym (data_block-follow s.origin.request s.working n i low)
on_way s n i way (Err fault) low is on = on

pub chain_on_way : {E : Type 0} (s : StoreState) (n i : ℕ) (way : Way) (result : Result Chain E) → i < max_blocks_of s.origin.request → way_of s.origin.request i ≡ way
    → IfOk result (λ chain. IsOnWay s n way chain.block) → IfOk result (λ chain. IsDataBlock s n i chain.block)
chain_on_way s n i way (Ok chain) low is on = λ told. on told ∙ ap (follow s.working (entries_of_inode (s.working.inodes n))) (sym is) ∙ sym (data_block-follow s.origin.request s.working n i low)
chain_on_way s n i way (Err fault) low is on = on

-- ---- what the blocks on a way cost

module _ (g : Request) (c v : View) (n i : ℕ) (low : i < max_blocks_of g) where
  abbrev entries : List ℕ
  entries = entries_of_inode (v.inodes n)

  abbrev costs : List ℕ → ℕ
  costs bs = count_by (λ b. not (is_new c v b)) bs

  -- the positions that are not new are as many as the blocks
  counted : (ps : List Position) → count_by (λ p. not (is_dirty g c v p)) ps ≡ costs (map (block_at g v) ps)
  counted [] = refl
  counted (p ∷ ps) = sum_by-cons _ p ps ∙ ap (λ (m : ℕ). cond (not (is_dirty g c v p)) 1 0 + m) (counted ps) ∙ sym (sum_by-cons _ (block_at g v p) (map (block_at g v) ps))

  costs-cons : (b : ℕ) (bs : List ℕ) → costs (b ∷ bs) ≡ cost c v b + costs bs
  costs-cons b bs = sum_by-cons _ b bs ∙ ap (λ (m : ℕ). m + costs bs) (flip (is_new c v b))
    where
      flip : (t : Bool) → ◌≡◌ {A = ℕ} (cond (not t) 1 0) (cond t 0 1)
      flip true = refl
      flip false = refl

  by_way : (way : Way) → costs (follow v entries way ∷ nodes_on v entries way) ≡ cost_of_way c v entries way
  by_way (way.Direct e) = costs-cons _ [] ∙ omega arith
  by_way (way.Single e place) =
      let a = costs-cons (follow v entries (way.Single e place)) (slice_index entries e ∷ []) in
      let b = costs-cons (slice_index entries e) [] in
      a ∙ ap (λ (m : ℕ). cost c v (follow v entries (way.Single e place)) + m) b ∙ omega arith
  by_way (way.Double e outer place) =
      let a = costs-cons (follow v entries (way.Double e outer place)) (pointer_at v Double (slice_index entries e) outer ∷ slice_index entries e ∷ []) in
      let b = costs-cons (pointer_at v Double (slice_index entries e) outer) (slice_index entries e ∷ []) in
      let d = costs-cons (slice_index entries e) [] in
      a ∙ ap (λ (m : ℕ). cost c v (follow v entries (way.Double e outer place)) + m) (b ∙ ap (λ (m : ℕ). cost c v (pointer_at v Double (slice_index entries e) outer) + m) d) ∙ omega arith

  pub fresh_by_way : (way : Way) → way_of g i ≡ way → fresh_on_chain g c v n i ≡ cost_of_way c v entries way
  fresh_by_way way is =
      counted (chain g n i)
      ∙ ap costs ((λ t. data_block-follow g v n i low t ∷ above_data-nodes_on g v n i low t) ∙ (λ t. follow v entries (is t) ∷ nodes_on v entries (is t)))
      ∙ by_way way

pub costs_on_way : {E : Type 0} (s : StoreState) (n i : ℕ) (way : Way) (result : Result Chain E) → i < max_blocks_of s.origin.request → way_of s.origin.request i ≡ way
    → IfOk result (λ chain. IsCostOfWay s n way chain.fresh) → IfOk result (λ chain. IsFreshOnChain s n i chain.fresh)
costs_on_way s n i way (Ok chain) low is on = λ told. on told ∙ sym (fresh_by_way s.origin.request s.committed s.working n i low way is)
costs_on_way s n i way (Err fault) low is on = on

-- the block of an entry is the one on the way over that entry
pub entry_costs : {E : Type 0} (s : StoreState) (n e : ℕ) (result : Result Chain E) → IfOk result (λ chain. IsEntryOf s n e chain.block) → IfOk result (λ chain. IsCostOf s chain.block chain.fresh)
    → IfOk result (λ chain. IsCostOfWay s n (way.Direct e) chain.fresh)
entry_costs s n e (Ok chain) entry costs = λ told. costs told ∙ ap (cost s.committed s.working) (entry told)
entry_costs s n e (Err fault) entry costs = costs
