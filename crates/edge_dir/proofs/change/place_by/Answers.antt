use Rattle.std.proofs.Common.{◌≡◌, ◌∙◌, ℕ, ◌+◌, List, length, Some, sym, subst}
use Rattle.std.specs.Prelude.{OnOk}
use Rattle.edge_base.specs.layout.Places.{IsWithinLimits}
use Rattle.edge_base.specs.tree.Slots.{slots_in_block}
use Rattle.edge_cut.proofs.GoLaws.{on_ok_map}
use Rattle.edge_slots.specs.Slot.{entry_of}
use Rattle.edge_file.specs.Writing.{RoomForBytes, WritesBytes}
use Rattle.edge_dir.specs.Directory.{slot_of}
use Rattle.edge_dir.specs.Written.{place_of_slot}
use Rattle.edge_dir.proofs.EndLaws.{some_slots}
use Rattle.edge_dir.proofs.SetLaws.{becomes_whole, blocks_filled, length_filled, pieces_near}
use Rattle.edge_dir.proofs.change.place_by.Goals as goal

pub returns-clause-placed : goal.returns-clause-placed
returns-clause-placed g c =
    on_ok_map c.write_slot.result (λ written told slots after parent node rules near set.
    let r = (g.S.Store.state c.args.s.now).origin.request in
    let e = entry_of c.args.name.now c.args.number in
    let limits : IsWithinLimits r = subst IsWithinLimits c.geometry.ensures c.request-within_limits.ensures.limits in
    let spelled = c.spell_slot.ensures r c.requires.width in
    let long : length c.spell_slot.new.bytes ≡ 4 + r.name_max = c.spell_slot.auto.bytes ∙ c.requires.width in
    written told slots after parent (Some e) node rules set (becomes_whole r (slot_of slots c.args.slot) (Some e) c.spell_slot.new.bytes long spelled)
    (pieces_near (slots_in_block r) c.args.slot (length slots) (some_slots r limits) near)
    (blocks_filled (slots_in_block r) c.args.slot (length slots) (length after) (some_slots r limits)
    (length_filled slots after c.args.slot e node.rules.last_filled rules.last_filled set)))
    c.write_slot.ensures.written

pub returns-clause-undamaged : goal.returns-clause-undamaged
returns-clause-undamaged g c told slots parent node room =
    let old = g.S.Store.state c.args.s.now in
    let r = old.origin.request in
    let long : length c.spell_slot.new.bytes ≡ 4 + r.name_max = c.spell_slot.auto.bytes ∙ c.requires.width in
    c.write_slot.ensures.undamaged told slots parent node (subst (λ (n : ℕ). RoomForBytes old c.args.d (place_of_slot r c.args.slot) n) (sym long) room)

pub returns-clause-untangled : goal.returns-clause-untangled
returns-clause-untangled g c told rules =
    let old = g.S.Store.state c.args.s.now in
    let r = old.origin.request in
    let long : length c.spell_slot.new.bytes ≡ 4 + r.name_max = c.spell_slot.auto.bytes ∙ c.requires.width in
    c.write_slot.ensures.untangled told (rules.0, subst (λ (n : ℕ). RoomForBytes old c.args.d (place_of_slot r c.args.slot) n) (sym long) rules.1)

pub returns-clause-bytes : goal.returns-clause-bytes
returns-clause-bytes g c =
    let old = g.S.Store.state c.args.s.now in
    let r = old.origin.request in
    subst (λ (l : List ℕ). OnOk c.write_slot.result (WritesBytes old (g.S.Store.state c.write_slot.new.s) c.args.d (place_of_slot r c.args.slot) l))
    (c.spell_slot.ensures r c.requires.width) c.write_slot.ensures.bytes
