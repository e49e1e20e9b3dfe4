use Rattle.std.proofs.Common.{◌≡◌, ◌∙◌, ℕ, ◌+◌, ◌*◌, ◌/◌, ◌≤◌, max, length, Some, sym, ap, subst, arith}
use Rattle.std.specs.Prelude.{Err}
use Rattle.std.proofs.lemmas.Result.{err_from_is_err_and}
use Rattle.edge_base.specs.declared.geometry.Request.{Request}
use Rattle.edge_base.specs.layout.Places.{IsWithinLimits, max_size_of}
use Rattle.edge_base.specs.outside.Below.{Origin}
use Rattle.edge_base.specs.tree.Nodes.{directory, indices_of}
use Rattle.edge_base.specs.tree.Slots.{slot_blocks, slots_in_block}
use Rattle.edge_store.specs.State.{Told}
use Rattle.edge_store.specs.View.{IsView, head_of_inode}
use Rattle.edge_store.proofs.ViewLaws.{some_of_whole}
use Rattle.edge_file.specs.Rewritten.{IsWritten}
use Rattle.edge_file.specs.Writing.{RoomForBytes, grown}
use Rattle.edge_file.proofs.AnswerLaws.{same_fault}
use Rattle.edge_file.proofs.HeadLaws.{written_head}
use Rattle.edge_dir.specs.Written.{place_of_slot}
use Rattle.edge_dir.proofs.ViewLaws.{sized}
use Rattle.edge_dir.proofs.EndLaws.{some_bytes}
use Rattle.edge_dir.proofs.WriteLaws.{grown_twice, size_after, sized_between, slot_written}
use Rattle.edge_dir.proofs.change.write_slot.Goals as goal

pub write_at-requires-clause-end : goal.write_at-requires-clause-end
write_at-requires-clause-end g c =
    let r = (g.S.Store.state c.args.s.now).origin.request in
    let end = subst (λ (x : Request). c.slot_place-at.result + (4 + x.name_max) ≤ (c.args.slot / slots_in_block x + 1) * x.block_size) c.geometry-g.ensures c.slot_place-at.ensures.end in
    let is = c.block_end-end.ensures.end ∙ ap (λ (x : Request). (c.args.slot / slots_in_block x + 1) * x.block_size) c.geometry-g.ensures in
    let most = subst (λ (x : Request). c.block_end-end.result ≤ max_size_of x) c.geometry-g.ensures c.block_end-end.ensures.most in
    omega (arith, end, is, most, c.requires.short)

pub grow-requires-clause-there : goal.grow-requires-clause-there
grow-requires-clause-there g c told =
    let mid = g.S.Store.state c.write_at.new.s in
    let first = c.in_ok-write_at.ensures in
    some_of_whole (mid.working.inodes c.args.d) (first.readable told)

pub grow-requires-clause-most : goal.grow-requires-clause-most
grow-requires-clause-most g c =
    let first = c.in_ok-write_at.ensures in
    subst (λ (o : Origin). c.block_end-end.result ≤ max_size_of o.request) (sym first.called.origin)
    (subst (λ (x : Request). c.block_end-end.result ≤ max_size_of x) c.geometry-g.ensures c.block_end-end.ensures.most)

pub returns-in_err-write_at-clause-undamaged : goal.returns-in_err-write_at-clause-undamaged
returns-in_err-write_at-clause-undamaged g c told slots parent node room d e =
    let old = g.S.Store.state c.args.s.now in
    let r = old.origin.request in
    let limits : IsWithinLimits r = subst IsWithinLimits c.geometry-g.ensures c.request-within_limits.ensures.limits in
    let at = c.slot_place-at.ensures.place ∙ ap (λ (x : Request). place_of_slot x c.args.slot) c.geometry-g.ensures in
    let p = err_from_is_err_and c.from_residual.result c.from_residual.ensures.1 in
    c.in_err-write_at.ensures.undamaged told (sized r old.working c.args.d slots parent node (some_bytes r limits))
    (subst (λ (x : ℕ). RoomForBytes old c.args.d x (length c.args.bytes.now)) (sym at) room) d (ap Err (sym p.2) ∙ same_fault _ _ (sym p.1 ∙ e))

pub returns-in_err-grow-clause-undamaged : goal.returns-in_err-grow-clause-undamaged
returns-in_err-grow-clause-undamaged g c told slots parent node room d e =
    let old = g.S.Store.state c.args.s.now in
    let mid = g.S.Store.state c.write_at.new.s in
    let r = old.origin.request in
    let first = c.in_ok-write_at.ensures in
    let limits : IsWithinLimits r = subst IsWithinLimits c.geometry-g.ensures c.request-within_limits.ensures.limits in
    let at : c.slot_place-at.result ≡ place_of_slot r c.args.slot = c.slot_place-at.ensures.place ∙ ap (λ (x : Request). place_of_slot x c.args.slot) c.geometry-g.ensures in
    let told_mid : Told mid = ap (λ (o : Origin). o.tells) first.called.origin ∙ told in
    let written : IsWritten r old.committed old.working mid.working c.args.d (place_of_slot r c.args.slot) c.args.bytes.now (indices_of r (directory slots parent)) =
    subst (λ (x : ℕ). IsWritten r old.committed old.working mid.working c.args.d x c.args.bytes.now (indices_of r (directory slots parent))) at
    (first.written told (indices_of r (directory slots parent)) node.holds.places node.once) in
    let head : head_of_inode (mid.working.inodes c.args.d) ≡ Some (record node.head { size = max node.head.size (place_of_slot r c.args.slot + length c.args.bytes.now) }) =
    first.grown told ∙ (λ t. grown (head_of_inode (node.inode t)) (at t + length c.args.bytes.now)) in
    let between = sized_between r old.committed old.working mid.working c.args.d c.args.slot slots parent c.args.bytes.now limits node c.requires.some c.requires.short c.requires.block written head in
    let p = err_from_is_err_and c.from_residual-in_err-grow.result c.from_residual-in_err-grow.ensures.1 in
    c.in_err-grow.ensures.undamaged told_mid (rw first.called.origin between) d (ap Err (sym p.2) ∙ same_fault _ _ (sym p.1 ∙ e))

pub returns-in_err-write_at-clause-untangled : goal.returns-in_err-write_at-clause-untangled
returns-in_err-write_at-clause-untangled g c told rules d e =
    let old = g.S.Store.state c.args.s.now in
    let at = c.slot_place-at.ensures.place ∙ ap (λ (x : Request). place_of_slot x c.args.slot) c.geometry-g.ensures in
    let p = err_from_is_err_and c.from_residual.result c.from_residual.ensures.1 in
    c.in_err-write_at.ensures.untangled told (rules.0, subst (λ (x : ℕ). RoomForBytes old c.args.d x (length c.args.bytes.now)) (sym at) rules.1) d
    (ap Err (sym p.2) ∙ same_fault _ _ (sym p.1 ∙ e))

pub returns-in_err-grow-clause-untangled : goal.returns-in_err-grow-clause-untangled
returns-in_err-grow-clause-untangled g c told rules d e =
    let told_mid : Told (g.S.Store.state c.write_at.new.s) = ap (λ (o : Origin). o.tells) c.in_ok-write_at.ensures.called.origin ∙ told in
    let p = err_from_is_err_and c.from_residual-in_err-grow.result c.from_residual-in_err-grow.ensures.1 in
    c.in_err-grow.ensures.untangled told_mid d (ap Err (sym p.2) ∙ same_fault _ _ (sym p.1 ∙ e))

pub returns-clause-written : goal.returns-clause-written
returns-clause-written g c told slots after parent slot node rules set becomes near count =
    let old = g.S.Store.state c.args.s.now in
    let mid = g.S.Store.state c.write_at.new.s in
    let new = g.S.Store.state c.grow.new.s in
    let r = old.origin.request in
    let first = c.in_ok-write_at.ensures in
    let second = c.in_ok-grow.ensures in
    let limits : IsWithinLimits r = subst IsWithinLimits c.geometry-g.ensures c.request-within_limits.ensures.limits in
    let at : c.slot_place-at.result ≡ place_of_slot r c.args.slot = c.slot_place-at.ensures.place ∙ ap (λ (x : Request). place_of_slot x c.args.slot) c.geometry-g.ensures in
    let end = subst (λ (x : Request). c.slot_place-at.result + (4 + x.name_max) ≤ (c.args.slot / slots_in_block x + 1) * x.block_size) c.geometry-g.ensures c.slot_place-at.ensures.end in
    let is_end : c.block_end-end.result ≡ (c.args.slot / slots_in_block r + 1) * r.block_size =
    c.block_end-end.ensures.end ∙ ap (λ (x : Request). (c.args.slot / slots_in_block x + 1) * x.block_size) c.geometry-g.ensures in
    let told_mid : Told mid = ap (λ (o : Origin). o.tells) first.called.origin ∙ told in
    let told_new : Told new = ap (λ (o : Origin). o.tells) second.called.origin ∙ told_mid in
    let origin : new.origin ≡ old.origin = second.called.origin ∙ first.called.origin in
    let indices = indices_of r (directory slots parent) in
    let written : IsWritten r old.committed old.working new.working c.args.d (place_of_slot r c.args.slot) c.args.bytes.now indices =
    subst (λ (x : ℕ). IsWritten r old.committed old.working new.working c.args.d x c.args.bytes.now indices) at
    (written_head r old.committed old.working mid.working new.working c.args.d (second.blocks told_mid) c.slot_place-at.result c.args.bytes.now indices
    (first.written told indices node.holds.places node.once)) in
    let view = g.met.S.Store.working_is_view c.args.s.now told c.requires.live in
    let view_new : IsView r new.working = subst (λ (o : Origin). IsView o.request new.working) origin (g.met.S.Store.working_is_view c.grow.new.s told_new second.called.live) in
    let size = size_after r.block_size (slot_blocks r slots) (c.args.slot / slots_in_block r) node.head.size (c.slot_place-at.result + length c.args.bytes.now) c.block_end-end.result (slot_blocks r after) node.size
    (omega (arith, end, is_end, c.requires.short)) is_end count in
    let head : head_of_inode (new.working.inodes c.args.d) ≡ Some (record node.head { size = r.block_size * slot_blocks r after }) =
    second.grown told_mid ∙ ap (λ o. grown o c.block_end-end.result) (first.grown told ∙ (λ t. grown (head_of_inode (node.inode t)) (c.slot_place-at.result + length c.args.bytes.now)))
    ∙ (λ t. Some (record node.head { size = size t })) in
    slot_written r old.committed old.working new.working c.args.d c.args.slot slots after parent slot c.args.bytes.now (g.met.S.Store.is_geometry c.args.s.now) limits view view_new node rules
    c.requires.some c.requires.short c.requires.block becomes set near count written (second.readable told_new) head

pub returns-clause-bytes : goal.returns-clause-bytes
returns-clause-bytes g c told indices places once =
    let old = g.S.Store.state c.args.s.now in
    let mid = g.S.Store.state c.write_at.new.s in
    let new = g.S.Store.state c.grow.new.s in
    let r = old.origin.request in
    let first = c.in_ok-write_at.ensures in
    let told_mid : Told mid = ap (λ (o : Origin). o.tells) first.called.origin ∙ told in
    let at : c.slot_place-at.result ≡ place_of_slot r c.args.slot = c.slot_place-at.ensures.place ∙ ap (λ (x : Request). place_of_slot x c.args.slot) c.geometry-g.ensures in
    subst (λ (x : ℕ). IsWritten r old.committed old.working new.working c.args.d x c.args.bytes.now indices) at
    (written_head r old.committed old.working mid.working new.working c.args.d (c.in_ok-grow.ensures.blocks told_mid) c.slot_place-at.result c.args.bytes.now indices
    (first.written told indices places once))

pub returns-clause-size : goal.returns-clause-size
returns-clause-size g c told =
    let old = g.S.Store.state c.args.s.now in
    let mid = g.S.Store.state c.write_at.new.s in
    let r = old.origin.request in
    let first = c.in_ok-write_at.ensures in
    let told_mid : Told mid = ap (λ (o : Origin). o.tells) first.called.origin ∙ told in
    let end = subst (λ (x : Request). c.slot_place-at.result + (4 + x.name_max) ≤ (c.args.slot / slots_in_block x + 1) * x.block_size) c.geometry-g.ensures c.slot_place-at.ensures.end in
    let is_end : c.block_end-end.result ≡ (c.args.slot / slots_in_block r + 1) * r.block_size =
    c.block_end-end.ensures.end ∙ ap (λ (x : Request). (c.args.slot / slots_in_block x + 1) * x.block_size) c.geometry-g.ensures in
    c.in_ok-grow.ensures.grown told_mid ∙ ap (λ o. grown o c.block_end-end.result) (first.grown told)
    ∙ grown_twice (head_of_inode (old.working.inodes c.args.d)) (c.slot_place-at.result + length c.args.bytes.now) c.block_end-end.result (omega (arith, end, is_end, c.requires.short))
    ∙ ap (grown (head_of_inode (old.working.inodes c.args.d))) is_end
