-- Room for bytes of a node, after the inode of another number was set.
use Rattle.std.proofs.Common.{◌≡◌, ◌≢◌, ◌∙◌, ℕ, ◌≤◌, ◌+◌, ◌&&◌, not, Bool, true, false, filter, refl, sym, ap, subst, Option}
use Rattle.edge_base.specs.declared.geometry.Request.{Request}
use Rattle.edge_base.specs.tree.Positions.{Position, has, positions_of}
use Rattle.edge_base.proofs.ChainLaws.{has-positions_of-number}
use Rattle.edge_base.proofs.PositionLaws.{has-filter, count_of-from_has}
use Rattle.edge_store.specs.Fresh.{is_dirty}
use Rattle.edge_store.specs.View.{View, Inode, free_now, is_new, with_inode}
use Rattle.edge_store.proofs.FrameLaws.{KeepsPointers-with_inode, block_at-pointers}
use Rattle.edge_file.specs.Bytes.{blocks_under}
use Rattle.edge_file.specs.Rewritten.{fresh_on}
use Rattle.edge_file.proofs.RangeLaws.{under_in_range}

module _ (g : Request) (c v : View) (d n : ℕ) (o : Option Inode) (apart : d ≢ n) (at len : ℕ) where
  abbrev then : View
  then = with_inode v n o

  fresh_kept : fresh_on g c then d (blocks_under g at len) ≡ fresh_on g c v d (blocks_under g at len)
  unfolding fresh_on
  fresh_kept = count_of-from_has _ _ (λ p. has-filter (λ q. not (is_dirty g c then q)) (positions_of g d (blocks_under g at len)) p ∙ by p (has (positions_of g d (blocks_under g at len)) p) refl
      ∙ sym (has-filter (λ q. not (is_dirty g c v q)) (positions_of g d (blocks_under g at len)) p))
    where
      by : (p : Position) (there : Bool) → has (positions_of g d (blocks_under g at len)) p ≡ there
          → (has (positions_of g d (blocks_under g at len)) p && not (is_dirty g c then p)) ≡ (has (positions_of g d (blocks_under g at len)) p && not (is_dirty g c v p))
      by p true is = ap (λ (b : ℕ). has (positions_of g d (blocks_under g at len)) p && not (is_new c v b))
          (block_at-pointers g v then d (KeepsPointers-with_inode g v d n o apart) p (has-positions_of-number g d (blocks_under g at len) p is) (under_in_range g d at len p is))
      by p false is = ap (λ b. b && not (is_dirty g c then p)) is ∙ sym (ap (λ b. b && not (is_dirty g c v p)) is)

  free_kept : free_now g c then ≡ free_now g c v
  unfolding free_now
  free_kept = refl

  pub room_kept : (w : View) → w ≡ then → fresh_on g c v d (blocks_under g at len) ≤ free_now g c v → fresh_on g c w d (blocks_under g at len) ≤ free_now g c w
  room_kept w is room =
      subst (λ (x : View). fresh_on g c x d (blocks_under g at len) ≤ free_now g c x) (sym is)
      (subst (λ (f : ℕ). f ≤ free_now g c then) (sym fresh_kept) (subst (λ (f : ℕ). fresh_on g c v d (blocks_under g at len) ≤ f) (sym free_kept) room))
