use Rattle.std.proofs.Common.{◌<◌, ℕ, true, false, Option, sym, ap, ◌∙◌, subst}
use Rattle.std.specs.Prelude.{IfOk, IfSome, Result}
use Rattle.edge_base.specs.declared.geometry.Request.{Request}
use Rattle.edge_base.specs.layout.Bitmap.{used_under}
use Rattle.edge_cache.specs.Calls.{content_in}
use Rattle.edge_nodes.proofs.GeometryLaws.{limits}
use Rattle.edge_store.specs.declared.fault.StoreFault.{StoreFault}
use Rattle.edge_anchor.specs.Anchor.{HasBit}
use Rattle.edge_anchor.proofs.PlaceLaws.{number_within, place_has_bit}
use Rattle.edge_point.specs.Finding.{Sees, place_told}
use Rattle.edge_point.proofs.FindLaws.{err_is, fails_only, place_inside, sees_after, sees_as, sees_geometry, sees_place, sees_point, sees_shows, sees_tied, sees_used}
use Rattle.edge_point.proofs.inode.used_place.Goals as goal

pub inode_place-first-requires-clause-from : goal.inode_place-first-requires-clause-from
inode_place-first-requires-clause-from g c = (number_within c.args.p.now.master.geometry (limits c.args.p.now.master.geometry c.requires.stands.geometry) c.args.n c.requires.number).0

pub inode_place-first-requires-clause-below : goal.inode_place-first-requires-clause-below
inode_place-first-requires-clause-below g c = (number_within c.args.p.now.master.geometry (limits c.args.p.now.master.geometry c.requires.stands.geometry) c.args.n c.requires.number).1

pub inode_place-second-requires-clause-from : goal.inode_place-second-requires-clause-from
inode_place-second-requires-clause-from g c = (number_within c.args.p.now.master.geometry (limits c.args.p.now.master.geometry c.requires.stands.geometry) c.args.n c.requires.number).0

pub inode_place-second-requires-clause-below : goal.inode_place-second-requires-clause-below
inode_place-second-requires-clause-below g c = (number_within c.args.p.now.master.geometry (limits c.args.p.now.master.geometry c.requires.stands.geometry) c.args.n c.requires.number).1

pub is_used-requires-clause-block : goal.is_used-requires-clause-block
is_used-requires-clause-block g c =
    let r = c.args.p.now.master.geometry in
    subst (HasBit r) (sym c.inode_place-first.ensures.place) (place_has_bit r (limits r c.requires.stands.geometry) c.args.n false c.requires.number)

pub returns-in_err-one-clause-sees : goal.returns-in_err-one-clause-sees
returns-in_err-one-clause-sees g c =
    sees_as g.D.Disk c.args.p.now c.is_used.new.p c.is_used.result _ c.in_err-one.field-0.0 c.is_used.ensures.sees c.in_err-one.was (err_is _ _ c.from_residual.ensures)

pub returns-in_err-one-clause-place : goal.returns-in_err-one-clause-place
returns-in_err-one-clause-place g c = λ shows tied.
    fails_only c.is_used.result _ _ c.in_err-one.field-0.0 c.in_err-one.was (c.is_used.ensures.sound shows tied) (err_is _ _ c.from_residual.ensures)

pub is_used-requires-2-clause-stands : goal.is_used-requires-2-clause-stands
is_used-requires-2-clause-stands g c = sees_point g.D.Disk c.args.p.now c.is_used.new.p c.is_used.result c.is_used.ensures.sees c.requires.stands c.requires.live

pub is_used-requires-2-clause-block : goal.is_used-requires-2-clause-block
is_used-requires-2-clause-block g c =
    let r = c.args.p.now.master.geometry in
    subst (λ (x : Request). HasBit x c.inode_place-second.result) (sym (sees_geometry g.D.Disk c.args.p.now c.is_used.new.p c.is_used.result c.is_used.ensures.sees))
    (subst (HasBit r) (sym c.inode_place-second.ensures.place) (place_has_bit r (limits r c.requires.stands.geometry) c.args.n true c.requires.number))

pub returns-in_err-two-clause-sees : goal.returns-in_err-two-clause-sees
returns-in_err-two-clause-sees g c =
    sees_as g.D.Disk c.args.p.now c.is_used-2.new.p c.is_used-2.result _ c.in_err-two.field-0.0
    (sees_after g.D.Disk c.args.p.now c.is_used.new.p c.is_used-2.new.p _ c.is_used-2.result c.in_ok-one.ensures.sees c.is_used-2.ensures.sees)
    c.in_err-two.was (err_is _ _ c.from_residual-in_err-two.ensures)

pub returns-in_err-two-clause-place : goal.returns-in_err-two-clause-place
returns-in_err-two-clause-place g c = λ shows tied.
    let p = c.args.p.now in
    let m = c.is_used.new.p in
    fails_only c.is_used-2.result _ _ c.in_err-two.field-0.0 c.in_err-two.was
    (c.is_used-2.ensures.sound (sees_shows g.D.Disk p m c.is_used.result c.is_used.ensures.sees shows) (sees_tied g.D.Disk p m c.is_used.result c.is_used.ensures.sees shows tied))
    (err_is _ _ c.from_residual-in_err-two.ensures)

pub returns-clause-sees : goal.returns-clause-sees
returns-clause-sees g c =
    let p = c.args.p.now in
    let m = c.is_used.new.p in
    let q = c.is_used-2.new.p in
    let both = sees_after g.D.Disk p m q _ _ c.in_ok-one.ensures.sees c.in_ok-two.ensures.sees in
    subst (Sees g.D.Disk p q) (sym c.place_by.ensures)
    (sees_place g.D.Disk p q _ c.inode_place-first.result c.inode_place-second.result c.in_ok-one.one c.in_ok-two.two both)

pub returns-clause-place : goal.returns-clause-place
returns-clause-place g c = λ shows tied other.
    let p = c.args.p.now in
    let m = c.is_used.new.p in
    let sees = c.is_used.ensures.sees in
    let first = c.inode_place-first.ensures.place in
    let second = c.inode_place-second.ensures.place in
    let used = used_under p.master.geometry p.imap.working (content_in g.D.Disk p.cache) in
    let one = c.in_ok-one.ensures.used shows ∙ ap used first in
    let two = c.in_ok-two.ensures.used (sees_shows g.D.Disk p m c.is_used.result sees shows) ∙ sees_used g.D.Disk p m c.is_used.result sees shows c.inode_place-second.result ∙ ap used second in
    c.place_by.ensures ∙ (λ t. place_told (first t) (second t) (one t) (two t))

pub returns-clause-inside : goal.returns-clause-inside
returns-clause-inside g c =
    let r = c.args.p.now.master.geometry in
    let has = place_has_bit r (limits r c.requires.stands.geometry) c.args.n in
    subst (λ (x : Result (Option ℕ) StoreFault). IfOk x (λ found. IfSome found (λ b. b < r.blocks))) (sym c.place_by.ensures)
    (place_inside r.blocks c.inode_place-first.result c.inode_place-second.result c.in_ok-one.one c.in_ok-two.two
    (subst (λ (n : ℕ). n < r.blocks) (sym c.inode_place-first.ensures.place) (has false c.requires.number).below)
    (subst (λ (n : ℕ). n < r.blocks) (sym c.inode_place-second.ensures.place) (has true c.requires.number).below))
