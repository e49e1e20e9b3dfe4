use Rattle.std.proofs.Common.{◌≡◌, ◌∙◌, ℕ, ◌+◌, ◌/◌, ◌≤◌, max, List, length, take, None, sym, ap, subst, arith}
use Rattle.std.specs.Prelude.{OnOk, replicate}
use Rattle.std.proofs.lemmas.List.{length-replicate, take-replicate}
use Rattle.edge_base.specs.declared.geometry.Request.{Request}
use Rattle.edge_base.specs.layout.Places.{IsWithinLimits}
use Rattle.edge_base.specs.tree.Slots.{slot_blocks, slots_in_block}
use Rattle.edge_cut.proofs.GoLaws.{on_ok_map}
use Rattle.edge_file.specs.Writing.{RoomForBytes, WritesBytes}
use Rattle.edge_dir.specs.Directory.{slot_of}
use Rattle.edge_dir.specs.Written.{place_of_slot}
use Rattle.edge_dir.proofs.EndLaws.{some_slots}
use Rattle.edge_dir.proofs.KeptLaws.{same_blocks}
use Rattle.edge_dir.proofs.SetLaws.{becomes_whole}
use Rattle.edge_dir.proofs.clearing.empty_slot.Goals as goal

pub returns-clause-bytes : goal.returns-clause-bytes
returns-clause-bytes g c =
    let old = g.S.Store.state c.args.s.now in
    let r = old.origin.request in
    let width : c.slot_width.result ≡ 4 + r.name_max = c.slot_width.ensures.width ∙ ap (λ (x : Request). 4 + x.name_max) c.geometry-g.ensures in
    let zeros : take c.slot_width.result (replicate 256 0) ≡ replicate (4 + r.name_max) 0 =
    take-replicate c.slot_width.result 256 0 c.slot_width.ensures.most ∙ ap (λ (n : ℕ). replicate n 0) width in
    subst (λ (l : List ℕ). OnOk c.write_slot.result (WritesBytes old (g.S.Store.state c.write_slot.new.s) c.args.d (place_of_slot r c.args.slot) l)) zeros
    c.write_slot.ensures.bytes

pub returns-clause-undamaged : goal.returns-clause-undamaged
returns-clause-undamaged g c told slots parent node room =
    let old = g.S.Store.state c.args.s.now in
    let r = old.origin.request in
    let width : c.slot_width.result ≡ 4 + r.name_max = c.slot_width.ensures.width ∙ ap (λ (x : Request). 4 + x.name_max) c.geometry-g.ensures in
    let zeros : take c.slot_width.result (replicate 256 0) ≡ replicate (4 + r.name_max) 0 =
    take-replicate c.slot_width.result 256 0 c.slot_width.ensures.most ∙ ap (λ (n : ℕ). replicate n 0) width in
    let long = ap length zeros ∙ length-replicate (4 + r.name_max) 0 in
    c.write_slot.ensures.undamaged told slots parent node (subst (λ (n : ℕ). RoomForBytes old c.args.d (place_of_slot r c.args.slot) n) (sym long) room)

pub returns-clause-untangled : goal.returns-clause-untangled
returns-clause-untangled g c told rules =
    let old = g.S.Store.state c.args.s.now in
    let r = old.origin.request in
    let width : c.slot_width.result ≡ 4 + r.name_max = c.slot_width.ensures.width ∙ ap (λ (x : Request). 4 + x.name_max) c.geometry-g.ensures in
    let zeros : take c.slot_width.result (replicate 256 0) ≡ replicate (4 + r.name_max) 0 =
    take-replicate c.slot_width.result 256 0 c.slot_width.ensures.most ∙ ap (λ (n : ℕ). replicate n 0) width in
    let long = ap length zeros ∙ length-replicate (4 + r.name_max) 0 in
    c.write_slot.ensures.untangled told (rules.0, subst (λ (n : ℕ). RoomForBytes old c.args.d (place_of_slot r c.args.slot) n) (sym long) rules.1)

pub returns-clause-emptied : goal.returns-clause-emptied
returns-clause-emptied g c =
    on_ok_map c.write_slot.result (λ written told slots after parent node rules low set there.
    let r = (g.S.Store.state c.args.s.now).origin.request in
    let n = slots_in_block r in
    let limits : IsWithinLimits r = subst IsWithinLimits c.geometry-g.ensures c.request-within_limits.ensures.limits in
    let width : c.slot_width.result ≡ 4 + r.name_max = c.slot_width.ensures.width ∙ ap (λ (x : Request). 4 + x.name_max) c.geometry-g.ensures in
    let put = take c.slot_width.result (replicate 256 0) in
    let zeros : put ≡ replicate (4 + r.name_max) 0 = take-replicate c.slot_width.result 256 0 c.slot_width.ensures.most ∙ ap (λ (k : ℕ). replicate k 0) width in
    let long = ap length zeros ∙ length-replicate (4 + r.name_max) 0 in
    let same = same_blocks slots after c.args.slot node.rules.last_filled rules.last_filled low set n (some_slots r limits) there in
    let near : c.args.slot / n ≤ slot_blocks r slots = omega (arith, same, there) in
    let count : slot_blocks r after ≡ max (slot_blocks r slots) (c.args.slot / n + 1) = omega (arith, same, there) in
    written told slots after parent None node rules set (becomes_whole r (slot_of slots c.args.slot) None put long zeros) near count)
    c.write_slot.ensures.written
