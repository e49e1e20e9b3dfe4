use Rattle.std.proofs.Common.{◌≡◌, ◌∙◌, not, sym, ap, subst}
use Rattle.std.specs.Prelude.{IsTrue}
use Rattle.edge_base.specs.declared.geometry.Request.{Request}
use Rattle.edge_base.specs.layout.Places.{inode_place_of}
use Rattle.edge_disk.specs.Disk.{Origin}
use Rattle.edge_nodes.proofs.GeometryLaws.{limits}
use Rattle.edge_anchor.specs.Anchor.{HasBit}
use Rattle.edge_anchor.proofs.PlaceLaws.{place_has_bit}
use Rattle.edge_point.specs.Changing.{IsBlock, IsPlaceFor, committed_of, working_of}
use Rattle.edge_point.proofs.FindLaws.{always, err_is}
use Rattle.edge_point.proofs.PlacedLaws.{at_place, is_moved, kept_point, moved_here, never_as, not_both, not_free, ok_map}
use Rattle.edge_point.proofs.StepLaws.{changes_after, changes_more, step_after, step_as, step_more}
use Rattle.edge_point.proofs.change.move_inode.Goals as goal

pub put_node-requires-clause-block : goal.put_node-requires-clause-block
put_node-requires-clause-block g c =
    let r = c.args.p.now.master.geometry in
    subst (HasBit r) (sym c.inode_place-to.ensures.place) (place_has_bit r (limits r c.requires.stands.geometry) c.args.n (not c.args.second) c.requires.number)

pub returns-in_err-put_node-clause-step : goal.returns-in_err-put_node-clause-step
returns-in_err-put_node-clause-step g c =
    let d = g.D.Disk in
    let p = c.args.p.now in
    let r = p.master.geometry in
    step_as d (IsPlaceFor r c.args.n) p c.put_node.new.p c.put_node.result _ c.in_err-put_node.field-0.0
    (step_more d (IsBlock c.inode_place-to.result) (IsPlaceFor r c.args.n) p c.put_node.new.p c.put_node.result
    (at_place r c.args.n c.inode_place-to.result (not c.args.second) c.inode_place-to.ensures.place) c.put_node.ensures.step)
    c.in_err-put_node.was (err_is _ _ c.from_residual.ensures)

pub mark-requires-clause-block : goal.mark-requires-clause-block
mark-requires-clause-block g c =
    let r = c.args.p.now.master.geometry in
    subst (λ (x : Request). HasBit x c.inode_place-to.result) (λ t. (sym c.put_node.ensures.step.changes.master t).geometry)
    (subst (HasBit r) (sym c.inode_place-to.ensures.place) (place_has_bit r (limits r c.requires.stands.geometry) c.args.n (not c.args.second) c.requires.number))

pub returns-in_err-mark-clause-step : goal.returns-in_err-mark-clause-step
returns-in_err-mark-clause-step g c =
    let d = g.D.Disk in
    let p = c.args.p.now in
    let r = p.master.geometry in
    let at = at_place r c.args.n c.inode_place-to.result (not c.args.second) c.inode_place-to.ensures.place in
    step_as d (IsPlaceFor r c.args.n) p c.mark.new.p c.mark.result _ c.in_err-mark.field-0.0
    (step_after d (IsPlaceFor r c.args.n) p c.put_node.new.p c.mark.new.p _ c.mark.result c.requires.stands c.requires.live
    (step_more d (IsBlock c.inode_place-to.result) (IsPlaceFor r c.args.n) p c.put_node.new.p _ at c.in_ok-put_node.ensures.step)
    (step_more d (IsBlock c.inode_place-to.result) (IsPlaceFor r c.args.n) c.put_node.new.p c.mark.new.p c.mark.result at c.mark.ensures.step))
    c.in_err-mark.was (err_is _ _ c.from_residual-in_err-mark.ensures)

pub mark-requires-2-clause-stands : goal.mark-requires-2-clause-stands
mark-requires-2-clause-stands g c =
    let d = g.D.Disk in
    let p = c.args.p.now in
    let a = c.put_node.new.p in
    let b = c.mark.new.p in
    let r = p.master.geometry in
    let to = c.inode_place-to.result in
    kept_point d (IsBlock to) p b c.args.n c.requires.stands c.requires.live c.requires.number
    (at_place r c.args.n to (not c.args.second) c.inode_place-to.ensures.place)
    (changes_after d (IsBlock to) p a b c.requires.stands c.requires.live c.put_node.ensures.step.changes c.mark.ensures.step.changes)
    (c.mark.ensures.numbers ∙ c.put_node.ensures.numbers)
    (λ shows. not_both r (committed_of d p) c.args.n (not c.args.second) (c.requires.unused shows))
    (λ shows. not_free r (working_of d p) c.args.n c.args.second (c.requires.lies shows).here)
    (λ shows. not_free r (working_of d b) c.args.n (not c.args.second) (ap (working_of d b) (sym c.inode_place-to.ensures.place)
    ∙ c.in_ok-mark.ensures.used (subst (λ (o : Origin). IsTrue o.shows) (sym c.put_node.ensures.step.changes.origin) shows)))

pub mark-requires-2-clause-block : goal.mark-requires-2-clause-block
mark-requires-2-clause-block g c =
    let r = c.args.p.now.master.geometry in
    let same = c.mark.ensures.step.changes.master ∙ c.put_node.ensures.step.changes.master in
    subst (HasBit c.mark.new.p.master.geometry) (sym c.inode_place-from.ensures.place)
    (subst (λ (x : Request). HasBit x (inode_place_of x c.args.n c.args.second)) (λ t. (sym same t).geometry)
    (place_has_bit r (limits r c.requires.stands.geometry) c.args.n c.args.second c.requires.number))

pub returns-clause-step : goal.returns-clause-step
returns-clause-step g c =
    let d = g.D.Disk in
    let p = c.args.p.now in
    let a = c.put_node.new.p in
    let b = c.mark.new.p in
    let q = c.mark-2.new.p in
    let r = p.master.geometry in
    let to = c.inode_place-to.result in
    let from = c.inode_place-from.result in
    let at = at_place r c.args.n to (not c.args.second) c.inode_place-to.ensures.place in
    let same = c.mark.ensures.step.changes.master ∙ c.put_node.ensures.step.changes.master in
    let from_is : from ≡ inode_place_of r c.args.n c.args.second = c.inode_place-from.ensures.place ∙ (λ t. inode_place_of (same t).geometry c.args.n c.args.second) in
    step_after d (IsPlaceFor r c.args.n) p b q _ c.mark-2.result c.requires.stands c.requires.live
    (step_after d (IsPlaceFor r c.args.n) p a b _ _ c.requires.stands c.requires.live
    (step_more d (IsBlock to) (IsPlaceFor r c.args.n) p a _ at c.in_ok-put_node.ensures.step)
    (step_more d (IsBlock to) (IsPlaceFor r c.args.n) a b _ at c.in_ok-mark.ensures.step))
    (step_more d (IsBlock from) (IsPlaceFor r c.args.n) b q c.mark-2.result (at_place r c.args.n from c.args.second from_is) c.mark-2.ensures.step)

pub returns-clause-stands : goal.returns-clause-stands
returns-clause-stands g c =
    let d = g.D.Disk in
    let p = c.args.p.now in
    let a = c.put_node.new.p in
    let b = c.mark.new.p in
    let q = c.mark-2.new.p in
    let r = p.master.geometry in
    let n = c.args.n in
    let to = c.inode_place-to.result in
    let from = c.inode_place-from.result in
    let is = c.requires.stands in
    let live = c.requires.live in
    let at = at_place r n to (not c.args.second) c.inode_place-to.ensures.place in
    let same = c.mark.ensures.step.changes.master ∙ c.put_node.ensures.step.changes.master in
    let from_is : from ≡ inode_place_of r n c.args.second = c.inode_place-from.ensures.place ∙ (λ t. inode_place_of (same t).geometry n c.args.second) in
    let put = c.put_node.ensures.step.changes in
    let marks = c.mark.ensures.step.changes in
    let clears = c.mark-2.ensures.step.changes in
    always c.mark-2.result _ (kept_point d (IsPlaceFor r n) p q n is live c.requires.number (λ k such. such)
    (changes_after d (IsPlaceFor r n) p b q is live
    (changes_more d (IsBlock to) (IsPlaceFor r n) p b at (changes_after d (IsBlock to) p a b is live put marks))
    (changes_more d (IsBlock from) (IsPlaceFor r n) b q (at_place r n from c.args.second from_is) clears))
    (c.mark-2.ensures.numbers ∙ c.mark.ensures.numbers ∙ c.put_node.ensures.numbers)
    (λ shows. not_both r (committed_of d p) n (not c.args.second) (c.requires.unused shows))
    (λ shows. not_free r (working_of d p) n c.args.second (c.requires.lies shows).here)
    (λ shows. not_free r (working_of d q) n (not c.args.second) (ap (working_of d q) (sym c.inode_place-to.ensures.place)
    ∙ moved_here d p a b q is n c.requires.number c.args.second to from c.inode_place-to.ensures.place from_is put marks clears shows p.block.items
    (c.in_ok-mark.ensures.used (subst (λ (o : Origin). IsTrue o.shows) (sym put.origin) shows)))))

pub returns-clause-put : goal.returns-clause-put
returns-clause-put g c = λ shows.
    let d = g.D.Disk in
    let p = c.args.p.now in
    let a = c.put_node.new.p in
    let b = c.mark.new.p in
    let q = c.mark-2.new.p in
    let r = p.master.geometry in
    let n = c.args.n in
    let to = c.inode_place-to.result in
    let from = c.inode_place-from.result in
    let same = c.mark.ensures.step.changes.master ∙ c.put_node.ensures.step.changes.master in
    let from_is : from ≡ inode_place_of r n c.args.second = c.inode_place-from.ensures.place ∙ (λ t. inode_place_of (same t).geometry n c.args.second) in
    let put = c.put_node.ensures.step.changes in
    let marks = c.mark.ensures.step.changes in
    let shows_a = subst (λ (o : Origin). IsTrue o.shows) (sym put.origin) shows in
    let shows_b = subst (λ (o : Origin). IsTrue o.shows) (sym marks.origin) shows_a in
    ok_map c.mark-2.result (λ off. is_moved d p a b q c.requires.stands n c.requires.number c.args.second to from c.inode_place-to.ensures.place from_is put marks
    c.mark-2.ensures.step.changes shows p.block.items (c.in_ok-mark.ensures.used shows_a) off (c.in_ok-put_node.ensures.node shows) (c.mark.ensures.bytes shows_a))
    (c.mark-2.ensures.used shows_b)

pub returns-in_err-mark-clause-undamaged : goal.returns-in_err-mark-clause-undamaged
returns-in_err-mark-clause-undamaged g c = λ shows.
    never_as c.mark.result _ c.in_err-mark.field-0.0 c.in_err-mark.was (err_is _ _ c.from_residual-in_err-mark.ensures)
    (c.mark.ensures.undamaged (subst (λ (o : Origin). IsTrue o.shows) (sym c.put_node.ensures.step.changes.origin) shows))

pub returns-clause-undamaged : goal.returns-clause-undamaged
returns-clause-undamaged g c = λ shows.
    let shows_a = subst (λ (o : Origin). IsTrue o.shows) (sym c.put_node.ensures.step.changes.origin) shows in
    c.mark-2.ensures.undamaged (subst (λ (o : Origin). IsTrue o.shows) (sym c.mark.ensures.step.changes.origin) shows_a)
