-- Reading answers a pointer node's owner exactly where the block spells it.
use Rattle.std.proofs.Common.{◌≡◌, ℕ, Bool, List, length, Ok, Err, Result, refl, sym, ap, subst}
use Rattle.edge_base.specs.declared.geometry.Request.{Request}
use Rattle.edge_base.specs.declared.node.NodeFault.{NodeFault}
use Rattle.edge_base.specs.layout.Places.{pointers_of}
use Rattle.edge_base.specs.layout.Bytes.{number_at, numbers_at}
use Rattle.edge_base.specs.layout.Spelling.{SpellsPointer, PointerNode, pointer_in}
use Rattle.edge_base.proofs.SpellingLaws.{pointer_in-spelled, pointer_in-decides}
use Rattle.edge_nodes.specs.Pointers.{owner_told}

-- the node whose owner is told
told : (r : Result PointerNode NodeFault) (owner : ℕ) → owner_told r ≡ Ok owner → (node : PointerNode) × (r ≡ Ok node) × (node.owner ≡ owner)
told (Ok node) owner e = (node, refl, cc)
told (Err fault) owner e = absurd cc

pub spelled_pointer : (g : Request) (double : Bool) (b : List ℕ) (owner : ℕ) → length b ≡ g.block_size → owner_told (pointer_in g double b) ≡ Ok owner
    → SpellsPointer g double (number_at 8 8 b) owner (numbers_at 20 (pointers_of g) b) b
spelled_pointer g double b owner len e =
    let node = told (pointer_in g double b) owner e in
    let spells = (pointer_in-decides g double b node.0 len).0 node.1 in
    subst (λ (n : ℕ). SpellsPointer g double (number_at 8 8 b) n (numbers_at 20 (pointers_of g) b) b) node.2
    (subst (λ entries. SpellsPointer g double (number_at 8 8 b) node.0.owner entries b) (sym spells.entries_are) spells)

pub owner_told-spelled : (g : Request) (double : Bool) (b : List ℕ) (sequence owner : ℕ) (entries : List ℕ) → SpellsPointer g double sequence owner entries b
    → owner_told (pointer_in g double b) ≡ Ok owner
owner_told-spelled g double b sequence owner entries spells = ap owner_told (pointer_in-spelled g double sequence owner entries b spells)
