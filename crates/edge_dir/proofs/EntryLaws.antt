-- What a slot says, from the block that has it.
use Rattle.std.proofs.Common.{ℕ, ◌<◌, ◌/◌, ◌%◌, List, Option, Some, None, take}
use Rattle.edge_base.specs.layout.Places.{IsWithinLimits}
use Rattle.edge_base.specs.tree.Slots.{slots_in_block}
use Rattle.edge_store.specs.State.{StoreState, Told}
use Rattle.edge_slots.specs.Slot.{entry_of}
use Rattle.edge_dir.specs.Directory.{IsEntryIn, IsEntryOfBlock, OnSlots}
use Rattle.edge_dir.specs.Looked.{SeesEntry, slots_below_end}
use Rattle.edge_dir.proofs.DirectoryLaws.{entry_is, slot_is}
use Rattle.edge_dir.proofs.SeenLaws.{empty_of_block, entry_of_block}

pub sees_entry : (s : StoreState) (d k : ℕ) (list : List ℕ) (entry : Option (ℕ × ℕ)) → (Told s → k < slots_below_end s.origin.request s.working d)
    → IsEntryOfBlock s d (k / slots_in_block s.origin.request) (k % slots_in_block s.origin.request) list entry → SeesEntry s d k list entry
sees_entry s d k list (Some entry) low is = λ told. let h = is told in (low told, entry_of_block s.origin.request s.working d k h.0 list entry h.1 h.2, h.2.1)
sees_entry s d k list None low is = λ told _. let h = is told in empty_of_block s.origin.request s.working d k h.0 list h.1 h.2

pub entry_in_slots : (s : StoreState) (d k : ℕ) (list : List ℕ) (entry : Option (ℕ × ℕ)) → IsWithinLimits s.origin.request → SeesEntry s d k list entry
    → OnSlots s d (λ slots. IsEntryIn slots k list entry)
entry_in_slots s d k list (Some entry) limits sees = λ told slots parent node.
    let h = sees told in
    (slot_is s.origin.request s.working d slots parent node limits k (Some (entry_of (take entry.1 list) entry.0)) h.0 h.1, h.2)
entry_in_slots s d k list None limits sees = λ told slots parent node. entry_is s.origin.request s.working d slots parent node limits k (sees told)
