use Rattle.std.proofs.Common.{◌≡◌, ◌∙◌, ℕ, false, not, List, sym, ap, subst}
use Rattle.std.specs.Prelude.{IsTrue}
use Rattle.edge_base.specs.declared.geometry.Request.{Request}
use Rattle.edge_base.specs.layout.Places.{inode_place_of}
use Rattle.edge_cache.specs.Calls.{content_in}
use Rattle.edge_disk.specs.Disk.{Origin}
use Rattle.edge_nodes.specs.Writing.{IsSealed}
use Rattle.edge_nodes.proofs.GeometryLaws.{limits}
use Rattle.edge_anchor.specs.Anchor.{HasBit}
use Rattle.edge_anchor.proofs.PlaceLaws.{place_has_bit}
use Rattle.edge_point.specs.Changing.{IsBlock, IsPlaceFor, committed_of, working_of}
use Rattle.edge_point.proofs.FindLaws.{err_is, sees_geometry, sees_point, sees_shows, sees_used}
use Rattle.edge_point.proofs.PlacedLaws.{at_place, free_both, never_as, ok_map, other_apart, sees_committed, spare_chosen}
use Rattle.edge_point.proofs.StepLaws.{step_after, step_as, step_more, step_sees}
use Rattle.edge_point.proofs.make.add_inode.Goals as goal

pub is_committed-requires-clause-block : goal.is_committed-requires-clause-block
is_committed-requires-clause-block g c =
    let r = c.args.p.now.master.geometry in
    subst (HasBit r) (sym c.inode_place-first.ensures.place) (place_has_bit r (limits r c.requires.stands.geometry) c.args.n false c.requires.number)

pub returns-in_err-second-clause-step : goal.returns-in_err-second-clause-step
returns-in_err-second-clause-step g c =
    let d = g.D.Disk in
    let p = c.args.p.now in
    let such = IsPlaceFor p.master.geometry c.args.n in
    step_as d such p c.is_committed.new.p c.is_committed.result _ c.in_err-second.field-0.0
    (step_sees d such p c.is_committed.new.p c.is_committed.result c.requires.stands c.requires.live c.is_committed.ensures.sees)
    c.in_err-second.was (err_is _ _ c.from_residual.ensures)

pub returns-in_err-second-clause-undamaged : goal.returns-in_err-second-clause-undamaged
returns-in_err-second-clause-undamaged g c = λ shows.
    never_as c.is_committed.result _ c.in_err-second.field-0.0 c.in_err-second.was (err_is _ _ c.from_residual.ensures)
    (c.is_committed.ensures.sound shows (c.requires.stands.told c.requires.live shows).tied)

pub put_node-requires-clause-stands : goal.put_node-requires-clause-stands
put_node-requires-clause-stands g c =
    sees_point g.D.Disk c.args.p.now c.is_committed.new.p c.is_committed.result c.is_committed.ensures.sees c.requires.stands c.requires.live

pub put_node-requires-clause-block : goal.put_node-requires-clause-block
put_node-requires-clause-block g c =
    let r = c.args.p.now.master.geometry in
    let m = c.is_committed.new.p in
    subst (HasBit m.master.geometry) (sym c.inode_place-place.ensures.place)
    (subst (λ (x : Request). HasBit x (inode_place_of x c.args.n c.in_ok-second.second))
    (sym (sees_geometry g.D.Disk c.args.p.now m c.is_committed.result c.is_committed.ensures.sees))
    (place_has_bit r (limits r c.requires.stands.geometry) c.args.n c.in_ok-second.second c.requires.number))

pub put_node-requires-clause-unused : goal.put_node-requires-clause-unused
put_node-requires-clause-unused g c = λ shows_m.
    let d = g.D.Disk in
    let p = c.args.p.now in
    let m = c.is_committed.new.p in
    let r = p.master.geometry in
    let n = c.args.n in
    let sees = c.is_committed.ensures.sees in
    let shows = subst (λ (o : Origin). IsTrue o.shows) sees.reads.origin shows_m in
    ap (committed_of d m) (c.inode_place-place.ensures.place ∙ (λ t. inode_place_of (sees_geometry d p m c.is_committed.result sees t) n c.in_ok-second.second))
    ∙ sees_committed d p m c.is_committed.result sees shows (inode_place_of r n c.in_ok-second.second)
    ∙ spare_chosen r (working_of d p) (committed_of d p) n c.in_ok-second.second
    (c.in_ok-second.ensures.used shows ∙ ap (committed_of d p) c.inode_place-first.ensures.place) (c.requires.free shows)
    ((c.requires.stands.told c.requires.live shows).both_stay n c.requires.number)

pub returns-in_err-put_node-clause-step : goal.returns-in_err-put_node-clause-step
returns-in_err-put_node-clause-step g c =
    let d = g.D.Disk in
    let p = c.args.p.now in
    let m = c.is_committed.new.p in
    let r = p.master.geometry in
    let n = c.args.n in
    let place = c.inode_place-place.result in
    let place_is : place ≡ inode_place_of r n c.in_ok-second.second = c.inode_place-place.ensures.place
    ∙ (λ t. inode_place_of (sees_geometry d p m c.is_committed.result c.is_committed.ensures.sees t) n c.in_ok-second.second) in
    step_as d (IsPlaceFor r n) p c.put_node.new.p c.put_node.result _ c.in_err-put_node.field-0.0
    (step_after d (IsPlaceFor r n) p m c.put_node.new.p _ c.put_node.result c.requires.stands c.requires.live
    (step_sees d (IsPlaceFor r n) p m _ c.requires.stands c.requires.live c.in_ok-second.ensures.sees)
    (step_more d (IsBlock place) (IsPlaceFor r n) m c.put_node.new.p c.put_node.result (at_place r n place c.in_ok-second.second place_is) c.put_node.ensures.step))
    c.in_err-put_node.was (err_is _ _ c.from_residual-in_err-put_node.ensures)

pub mark-requires-clause-block : goal.mark-requires-clause-block
mark-requires-clause-block g c =
    let d = g.D.Disk in
    let p = c.args.p.now in
    let m = c.is_committed.new.p in
    let r = p.master.geometry in
    let same = sees_geometry d p m c.is_committed.result c.is_committed.ensures.sees in
    subst (λ (x : Request). HasBit x c.inode_place-place.result) (sym ((λ t. (c.put_node.ensures.step.changes.master t).geometry) ∙ same))
    (subst (HasBit r) (sym (c.inode_place-place.ensures.place ∙ (λ t. inode_place_of (same t) c.args.n c.in_ok-second.second)))
    (place_has_bit r (limits r c.requires.stands.geometry) c.args.n c.in_ok-second.second c.requires.number))

pub returns-clause-step : goal.returns-clause-step
returns-clause-step g c =
    let d = g.D.Disk in
    let p = c.args.p.now in
    let m = c.is_committed.new.p in
    let a = c.put_node.new.p in
    let q = c.mark.new.p in
    let r = p.master.geometry in
    let n = c.args.n in
    let place = c.inode_place-place.result in
    let place_is : place ≡ inode_place_of r n c.in_ok-second.second = c.inode_place-place.ensures.place
    ∙ (λ t. inode_place_of (sees_geometry d p m c.is_committed.result c.is_committed.ensures.sees t) n c.in_ok-second.second) in
    let at = at_place r n place c.in_ok-second.second place_is in
    step_after d (IsPlaceFor r n) p a q _ c.mark.result c.requires.stands c.requires.live
    (step_after d (IsPlaceFor r n) p m a _ _ c.requires.stands c.requires.live
    (step_sees d (IsPlaceFor r n) p m _ c.requires.stands c.requires.live c.in_ok-second.ensures.sees)
    (step_more d (IsBlock place) (IsPlaceFor r n) m a _ at c.in_ok-put_node.ensures.step))
    (step_more d (IsBlock place) (IsPlaceFor r n) a q c.mark.result at c.mark.ensures.step)

pub returns-clause-undamaged : goal.returns-clause-undamaged
returns-clause-undamaged g c = λ shows.
    let d = g.D.Disk in
    let shows_m = sees_shows d c.args.p.now c.is_committed.new.p c.is_committed.result c.is_committed.ensures.sees shows in
    c.mark.ensures.undamaged (subst (λ (o : Origin). IsTrue o.shows) (sym c.put_node.ensures.step.changes.origin) shows_m)

pub returns-clause-numbers : goal.returns-clause-numbers
returns-clause-numbers g c = c.mark.ensures.numbers ∙ c.put_node.ensures.numbers ∙ c.is_committed.ensures.sees.rest.numbers

pub returns-clause-put : goal.returns-clause-put
returns-clause-put g c = λ shows.
    let d = g.D.Disk in
    let p = c.args.p.now in
    let m = c.is_committed.new.p in
    let a = c.put_node.new.p in
    let q = c.mark.new.p in
    let r = p.master.geometry in
    let n = c.args.n in
    let second = c.in_ok-second.second in
    let sees = c.is_committed.ensures.sees in
    let same = sees_geometry d p m c.is_committed.result sees in
    let place_is : c.inode_place-place.result ≡ inode_place_of r n second = c.inode_place-place.ensures.place ∙ (λ t. inode_place_of (same t) n second) in
    let shows_m = sees_shows d p m c.is_committed.result sees shows in
    let shows_a = subst (λ (o : Origin). IsTrue o.shows) (sym c.put_node.ensures.step.changes.origin) shows_m in
    let other_bit : HasBit m.master.geometry (inode_place_of r n (not second)) = subst (λ (x : Request). HasBit x (inode_place_of r n (not second))) (sym same)
    (place_has_bit r (limits r c.requires.stands.geometry) n (not second) c.requires.number) in
    let other_bit_a : HasBit a.master.geometry (inode_place_of r n (not second)) = subst (λ (x : Request). HasBit x (inode_place_of r n (not second)))
    (λ t. (sym c.put_node.ensures.step.changes.master t).geometry) other_bit in
    let far : inode_place_of r n (not second) ≡ c.inode_place-place.result → ⊥ = λ e. other_apart r n second (e ∙ place_is) in
    ok_map c.mark.result (λ on. record {
      second = second;
      lies = record {
        here = ap (working_of d q) (sym place_is) ∙ on;
        not_there = c.mark.ensures.step.changes.used shows_a (inode_place_of r n (not second)) other_bit_a far
            ∙ c.put_node.ensures.step.changes.used shows_m (inode_place_of r n (not second)) other_bit far
            ∙ sees_used d p m c.is_committed.result sees shows (inode_place_of r n (not second))
            ∙ free_both r (working_of d p) n (c.requires.free shows) (not second);
      };
      node = subst (λ (x : List ℕ). IsSealed x (content_in d q.cache (inode_place_of r n second))) c.is_committed.ensures.room
          (subst (λ (k : ℕ). IsSealed m.block.items (content_in d q.cache k)) place_is
          (subst (λ (x : List ℕ). IsSealed m.block.items x) (sym (c.mark.ensures.bytes shows_a)) (c.in_ok-put_node.ensures.node shows_m)));
    }) (c.mark.ensures.used shows_a)
