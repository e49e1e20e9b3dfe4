use Rattle.std.proofs.Common.{◌≡◌, ◌∙◌, ◌&&◌, ℕ, false, not, List, sym, ap, subst}
use Rattle.std.specs.Prelude.{IsTrue}
use Rattle.edge_base.specs.declared.geometry.Request.{Request}
use Rattle.edge_base.specs.layout.Places.{inode_place_of}
use Rattle.edge_cache.specs.Calls.{content_in}
use Rattle.edge_disk.specs.Disk.{Origin}
use Rattle.edge_nodes.specs.Writing.{IsSealed}
use Rattle.edge_nodes.proofs.GeometryLaws.{limits}
use Rattle.edge_anchor.specs.Anchor.{HasBit}
use Rattle.edge_anchor.proofs.PlaceLaws.{place_has_bit}
use Rattle.edge_point.specs.Changing.{IsBlock, IsPlaceFor, LiesAt, committed_of, working_of}
use Rattle.edge_point.proofs.FindLaws.{err_is, sees_geometry, sees_point, sees_shows, sees_used}
use Rattle.edge_point.proofs.PlacedLaws.{at_place, lies_same, never_as, new_unused, ok_map, old_other, other_apart, sees_committed}
use Rattle.edge_point.proofs.StepLaws.{step_after, step_as, step_more, step_sees}
use Rattle.edge_point.proofs.change.put_inode.Goals as goal

pub is_new_block-requires-clause-block : goal.is_new_block-requires-clause-block
is_new_block-requires-clause-block g c =
    let r = c.args.p.now.master.geometry in
    subst (HasBit r) (sym c.inode_place-place.ensures.place) (place_has_bit r (limits r c.requires.stands.geometry) c.args.n c.args.second c.requires.number)

pub returns-in_err-is_new_block-clause-step : goal.returns-in_err-is_new_block-clause-step
returns-in_err-is_new_block-clause-step g c =
    let d = g.D.Disk in
    let p = c.args.p.now in
    let such = IsPlaceFor p.master.geometry c.args.n in
    step_as d such p c.is_new_block.new.p c.is_new_block.result _ c.in_err-is_new_block.field-0.0
    (step_sees d such p c.is_new_block.new.p c.is_new_block.result c.requires.stands c.requires.live c.is_new_block.ensures.sees)
    c.in_err-is_new_block.was (err_is _ _ c.from_residual.ensures)

pub returns-in_err-is_new_block-clause-undamaged : goal.returns-in_err-is_new_block-clause-undamaged
returns-in_err-is_new_block-clause-undamaged g c = λ shows.
    never_as c.is_new_block.result _ c.in_err-is_new_block.field-0.0 c.in_err-is_new_block.was (err_is _ _ c.from_residual.ensures)
    (c.is_new_block.ensures.sound shows (c.requires.stands.told c.requires.live shows).tied)

pub put_node-requires-clause-stands : goal.put_node-requires-clause-stands
put_node-requires-clause-stands g c =
    sees_point g.D.Disk c.args.p.now c.is_new_block.new.p c.is_new_block.result c.is_new_block.ensures.sees c.requires.stands c.requires.live

pub put_node-requires-clause-block : goal.put_node-requires-clause-block
put_node-requires-clause-block g c =
    let r = c.args.p.now.master.geometry in
    subst (λ (x : Request). HasBit x c.inode_place-place.result)
    (sym (sees_geometry g.D.Disk c.args.p.now c.is_new_block.new.p c.is_new_block.result c.is_new_block.ensures.sees))
    (subst (HasBit r) (sym c.inode_place-place.ensures.place) (place_has_bit r (limits r c.requires.stands.geometry) c.args.n c.args.second c.requires.number))

pub put_node-requires-clause-unused : goal.put_node-requires-clause-unused
put_node-requires-clause-unused g c = λ shows_m.
    let d = g.D.Disk in
    let p = c.args.p.now in
    let m = c.is_new_block.new.p in
    let sees = c.is_new_block.ensures.sees in
    let shows = subst (λ (o : Origin). IsTrue o.shows) sees.reads.origin shows_m in
    sees_committed d p m c.is_new_block.result sees shows c.inode_place-place.result
    ∙ new_unused (working_of d p c.inode_place-place.result) (committed_of d p c.inode_place-place.result)
    (sym (c.in_ok-is_new_block.ensures.is_new shows) ∙ c.if-branch.true)

pub returns-then-branch-clause-step : goal.returns-then-branch-clause-step
returns-then-branch-clause-step g c =
    let d = g.D.Disk in
    let p = c.args.p.now in
    let m = c.is_new_block.new.p in
    let r = p.master.geometry in
    let n = c.args.n in
    step_after d (IsPlaceFor r n) p m c.put_node.new.p _ c.put_node.result c.requires.stands c.requires.live
    (step_sees d (IsPlaceFor r n) p m _ c.requires.stands c.requires.live c.in_ok-is_new_block.ensures.sees)
    (step_more d (IsBlock c.inode_place-place.result) (IsPlaceFor r n) m c.put_node.new.p c.put_node.result
    (at_place r n c.inode_place-place.result c.args.second c.inode_place-place.ensures.place) c.put_node.ensures.step)

pub returns-then-branch-clause-put : goal.returns-then-branch-clause-put
returns-then-branch-clause-put g c = λ shows.
    let d = g.D.Disk in
    let p = c.args.p.now in
    let m = c.is_new_block.new.p in
    let q = c.put_node.new.p in
    let r = p.master.geometry in
    let n = c.args.n in
    let place = c.inode_place-place.result in
    let second = c.args.second in
    let sees = c.is_new_block.ensures.sees in
    let place_is = c.inode_place-place.ensures.place in
    let shows_m = sees_shows d p m c.is_new_block.result sees shows in
    let other_bit : HasBit m.master.geometry (inode_place_of r n (not second)) =
    subst (λ (x : Request). HasBit x (inode_place_of r n (not second))) (sym (sees_geometry d p m c.is_new_block.result sees))
    (place_has_bit r (limits r c.requires.stands.geometry) n (not second) c.requires.number) in
    ok_map c.put_node.result (λ node. record {
      second = second;
      lies = record {
        here = ap (working_of d q) (sym place_is) ∙ c.put_node.ensures.used shows_m ∙ sees_used d p m c.is_new_block.result sees shows place
            ∙ ap (working_of d p) place_is ∙ (c.requires.lies shows).here;
        not_there = c.put_node.ensures.step.changes.used shows_m (inode_place_of r n (not second)) other_bit (λ e. other_apart r n second (e ∙ place_is))
            ∙ sees_used d p m c.is_new_block.result sees shows (inode_place_of r n (not second)) ∙ (c.requires.lies shows).not_there;
      };
      node = subst (λ (x : List ℕ). IsSealed x (content_in d q.cache (inode_place_of r n second))) c.is_new_block.ensures.room
          (subst (λ (k : ℕ). IsSealed m.block.items (content_in d q.cache k)) place_is node);
    }) (c.put_node.ensures.node shows_m)

pub move_inode-requires-clause-stands : goal.move_inode-requires-clause-stands
move_inode-requires-clause-stands g c =
    sees_point g.D.Disk c.args.p.now c.is_new_block.new.p c.is_new_block.result c.is_new_block.ensures.sees c.requires.stands c.requires.live

pub move_inode-requires-clause-lies : goal.move_inode-requires-clause-lies
move_inode-requires-clause-lies g c = λ shows_m.
    let d = g.D.Disk in
    let p = c.args.p.now in
    let m = c.is_new_block.new.p in
    let sees = c.is_new_block.ensures.sees in
    let shows = subst (λ (o : Origin). IsTrue o.shows) sees.reads.origin shows_m in
    subst (λ (x : Request). LiesAt x (working_of d m) c.args.n c.args.second) (sym (sees_geometry d p m c.is_new_block.result sees))
    (lies_same p.master.geometry (working_of d p) (working_of d m) c.args.n c.args.second (sees_used d p m c.is_new_block.result sees shows) (c.requires.lies shows))

pub move_inode-requires-clause-unused : goal.move_inode-requires-clause-unused
move_inode-requires-clause-unused g c = λ shows_m.
    let d = g.D.Disk in
    let p = c.args.p.now in
    let m = c.is_new_block.new.p in
    let r = p.master.geometry in
    let sees = c.is_new_block.ensures.sees in
    let shows = subst (λ (o : Origin). IsTrue o.shows) sees.reads.origin shows_m in
    let old : (working_of d p (inode_place_of r c.args.n c.args.second) && not (committed_of d p (inode_place_of r c.args.n c.args.second))) ≡ false =
    ap (λ (k : ℕ). working_of d p k && not (committed_of d p k)) (sym c.inode_place-place.ensures.place)
    ∙ sym (c.in_ok-is_new_block.ensures.is_new shows) ∙ c.if-branch.false in
    ap (λ (x : Request). committed_of d m (inode_place_of x c.args.n (not c.args.second))) (sees_geometry d p m c.is_new_block.result sees)
    ∙ sees_committed d p m c.is_new_block.result sees shows (inode_place_of r c.args.n (not c.args.second))
    ∙ old_other r (working_of d p) (committed_of d p) c.args.n c.args.second (c.requires.lies shows) old
    ((c.requires.stands.told c.requires.live shows).both_stay c.args.n c.requires.number)

pub returns-clause-step : goal.returns-clause-step
returns-clause-step g c =
    let d = g.D.Disk in
    let p = c.args.p.now in
    let m = c.is_new_block.new.p in
    let r = p.master.geometry in
    let n = c.args.n in
    step_after d (IsPlaceFor r n) p m c.move_inode.new.p _ c.move_inode.result c.requires.stands c.requires.live
    (step_sees d (IsPlaceFor r n) p m _ c.requires.stands c.requires.live c.in_ok-is_new_block.ensures.sees)
    (step_more d (IsPlaceFor m.master.geometry n) (IsPlaceFor r n) m c.move_inode.new.p c.move_inode.result
    (λ k such. subst (λ (x : Request). IsPlaceFor x n k) (sees_geometry d p m c.is_new_block.result c.is_new_block.ensures.sees) such) c.move_inode.ensures.step)
