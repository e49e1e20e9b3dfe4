-- What is reached in a tree after slots have changed.
use Rattle.std.proofs.Common.{◌≡◌, ℕ, Some, subst}
use Rattle.edge_base.specs.tree.Slots.{Entry}
use Rattle.edge_model.specs.Tree.{Tree}
use Rattle.edge_model.specs.Rules.{IsReached, root, below}
use Rattle.edge_steps.proofs.CountLaws.{slot_at, named_slot}

-- What is reached in t is reached in u, where that goes over from each directory to what a slot of it names.
pub reach : (t : Tree) (P : ℕ → Type 0) → ((d i : ℕ) (e : Entry) → slot_at t d i ≡ Some e → P d → P e.number) → P 2 → (n : ℕ) → IsReached t n → P n
reach t P over here _ root = here
reach t P over here _ (below d n r names) = subst P names.number_is (over d names.slot names.entry (named_slot t d n names) (reach t P over here d r))
