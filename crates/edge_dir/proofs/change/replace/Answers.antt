use Rattle.std.proofs.Common.{◌≡◌, ◌∙◌, ℕ, ◌≤◌, List, length, Some, None, sym, ap, subst, arith}
use Rattle.std.specs.Prelude.{OnOk}
use Rattle.byteorder.specs.Endian.{little_bytes}
use Rattle.edge_base.specs.layout.Places.{IsWithinLimits}
use Rattle.edge_base.specs.tree.Slots.{slots_in_block}
use Rattle.edge_cut.proofs.GoLaws.{on_ok_map}
use Rattle.edge_slots.specs.Slot.{entry_of}
use Rattle.edge_file.proofs.RangeLaws.{append_none}
use Rattle.edge_dir.specs.Directory.{slot_of}
use Rattle.byteorder.specs.Numbers.{length-bytes_low_first}
use Rattle.edge_file.specs.Writing.{RoomForBytes, WritesBytes}
use Rattle.edge_dir.specs.Written.{BecomesSlot, place_of_slot}
use Rattle.edge_dir.proofs.EndLaws.{some_slots}
use Rattle.edge_dir.proofs.SetLaws.{becomes_number, blocks_filled, length_filled, pieces_near}
use Rattle.edge_dir.proofs.SlotLaws.{before_end}
use Rattle.edge_dir.proofs.change.replace.Goals as goal

pub returns-clause-replaced : goal.returns-clause-replaced
returns-clause-replaced g c =
    on_ok_map c.write_slot.result (λ written told slots after parent e node rules filled set.
    let r = (g.S.Store.state c.args.s.now).origin.request in
    let limits : IsWithinLimits r = subst IsWithinLimits c.geometry.ensures c.request-within_limits.ensures.limits in
    let inside = before_end slots c.args.slot (λ none. let wrong : Some e ≡ None = sym filled ∙ none in absurd (cc)) in
    let near : c.args.slot ≤ length slots = omega (arith, inside) in
    let is : c.write_u32.new.buf ≡ little_bytes 4 c.args.number = c.write_u32.ensures ∙ append_none (little_bytes 4 c.args.number) in
    let becomes : BecomesSlot r (slot_of slots c.args.slot) c.write_u32.new.buf (Some (entry_of e.name c.args.number)) =
    subst (λ o. BecomesSlot r o c.write_u32.new.buf (Some (entry_of e.name c.args.number))) (sym filled)
    (subst (λ (l : List ℕ). BecomesSlot r (Some e) l (Some (entry_of e.name c.args.number))) (sym is) (becomes_number r e c.args.number)) in
    written told slots after parent (Some (entry_of e.name c.args.number)) node rules set becomes
    (pieces_near (slots_in_block r) c.args.slot (length slots) (some_slots r limits) near)
    (blocks_filled (slots_in_block r) c.args.slot (length slots) (length after) (some_slots r limits)
    (length_filled slots after c.args.slot (entry_of e.name c.args.number) node.rules.last_filled rules.last_filled set)))
    c.write_slot.ensures.written

pub returns-clause-undamaged : goal.returns-clause-undamaged
returns-clause-undamaged g c told slots parent node room =
    let old = g.S.Store.state c.args.s.now in
    let is : c.write_u32.new.buf ≡ little_bytes 4 c.args.number = c.write_u32.ensures ∙ append_none (little_bytes 4 c.args.number) in
    let four : length c.write_u32.new.buf ≡ 4 = ap length is ∙ length-bytes_low_first 0 4 c.args.number in
    c.write_slot.ensures.undamaged told slots parent node (subst (λ (n : ℕ). RoomForBytes old c.args.d (place_of_slot old.origin.request c.args.slot) n) (sym four) room)

pub returns-clause-untangled : goal.returns-clause-untangled
returns-clause-untangled g c told rules =
    let old = g.S.Store.state c.args.s.now in
    let is : c.write_u32.new.buf ≡ little_bytes 4 c.args.number = c.write_u32.ensures ∙ append_none (little_bytes 4 c.args.number) in
    let four : length c.write_u32.new.buf ≡ 4 = ap length is ∙ length-bytes_low_first 0 4 c.args.number in
    c.write_slot.ensures.untangled told (rules.0, subst (λ (n : ℕ). RoomForBytes old c.args.d (place_of_slot old.origin.request c.args.slot) n) (sym four) rules.1)

pub returns-clause-bytes : goal.returns-clause-bytes
returns-clause-bytes g c =
    let old = g.S.Store.state c.args.s.now in
    let is : c.write_u32.new.buf ≡ little_bytes 4 c.args.number = c.write_u32.ensures ∙ append_none (little_bytes 4 c.args.number) in
    subst (λ (l : List ℕ). OnOk c.write_slot.result (WritesBytes old (g.S.Store.state c.write_slot.new.s) c.args.d (place_of_slot old.origin.request c.args.slot) l)) is c.write_slot.ensures.bytes
