use Rattle.std.proofs.Common.{◌≡◌, ◌∙◌, ◌<◌, ℕ, List, Option, Ok, Some, None, sym, ap, subst}
use Rattle.std.specs.Prelude.{IfSome}
use Rattle.edge_base.specs.declared.geometry.Request.{Request}
use Rattle.edge_base.specs.layout.Bitmap.{used_under}
use Rattle.edge_base.specs.layout.Spelling.{inode_in}
use Rattle.edge_cache.specs.Calls.{content_in}
use Rattle.edge_point.specs.Finding.{SpellsHead, TellsOrFails, head_told}
use Rattle.edge_point.proofs.FindLaws.{err_is, sees_after, sees_as, sees_content, sees_geometry, sees_passed, sees_point, sees_shows, tells_broken, tells_head, tells_none, tells_two, told_as}
use Rattle.edge_point.proofs.inode.seek.Goals as goal

pub returns-in_err-place-clause-sees : goal.returns-in_err-place-clause-sees
returns-in_err-place-clause-sees g c =
    sees_as g.D.Disk c.args.p.now c.used_place.new.p c.used_place.result _ c.in_err-place.field-0.0 c.used_place.ensures.sees c.in_err-place.was
    (err_is _ _ c.from_residual.ensures)

pub returns-in_err-place-clause-tells : goal.returns-in_err-place-clause-tells
returns-in_err-place-clause-tells g c = λ shows tied.
    let p = c.args.p.now in
    let used = used_under p.master.geometry p.imap.working (content_in g.D.Disk p.cache) in
    tells_two p.master.geometry used (content_in g.D.Disk p.cache) c.args.n c.requires.number _ _ c.in_err-place.field-0.0 (err_is _ _ c.from_residual.ensures)
    (subst (TellsOrFails _) c.in_err-place.was (c.used_place.ensures.place shows tied))

pub returns-in-None-clause-sees : goal.returns-in-None-clause-sees
returns-in-None-clause-sees g c =
    let sees = c.in_ok-place.ensures.sees in
    sees_passed g.D.Disk c.args.p.now c.used_place.new.p _ sees.rest sees.imap sees.reads sees.cause.later sees.cause.passed.0

pub returns-in-None-clause-tells : goal.returns-in-None-clause-tells
returns-in-None-clause-tells g c = λ shows tied.
    let p = c.args.p.now in
    let used = used_under p.master.geometry p.imap.working (content_in g.D.Disk p.cache) in
    tells_none p.master.geometry used (content_in g.D.Disk p.cache) c.args.n c.requires.number c.used_place.new.p.block.items (told_as _ c.in_ok-place.place None (c.in_ok-place.ensures.place shows tied) c.in-None.is)

pub read_inode-requires-clause-stands : goal.read_inode-requires-clause-stands
read_inode-requires-clause-stands g c = sees_point g.D.Disk c.args.p.now c.used_place.new.p c.used_place.result c.used_place.ensures.sees c.requires.stands c.requires.live

pub read_inode-requires-clause-block : goal.read_inode-requires-clause-block
read_inode-requires-clause-block g c =
    subst (λ (x : Request). c.in-Some.block < x.blocks) (sym (sees_geometry g.D.Disk c.args.p.now c.used_place.new.p c.used_place.result c.used_place.ensures.sees))
    (subst (λ (x : Option ℕ). IfSome x (λ b. b < c.args.p.now.master.geometry.blocks)) c.in-Some.is c.in_ok-place.ensures.inside)

pub returns-in_err-head-in-Some-clause-sees : goal.returns-in_err-head-in-Some-clause-sees
returns-in_err-head-in-Some-clause-sees g c =
    sees_as g.D.Disk c.args.p.now c.read_inode.new.p c.read_inode.result _ c.in_err-head-in-Some.field-0.0
    (sees_after g.D.Disk c.args.p.now c.used_place.new.p c.read_inode.new.p _ c.read_inode.result c.in_ok-place.ensures.sees c.read_inode.ensures.sees)
    c.in_err-head-in-Some.was (err_is _ _ c.from_residual-in_err-head-in-Some.ensures)

pub returns-in_err-head-in-Some-clause-tells : goal.returns-in_err-head-in-Some-clause-tells
returns-in_err-head-in-Some-clause-tells g c = λ shows tied.
    let p = c.args.p.now in
    let m = c.used_place.new.p in
    let b = c.in-Some.block in
    let sees = c.used_place.ensures.sees in
    let used = used_under p.master.geometry p.imap.working (content_in g.D.Disk p.cache) in
    tells_broken p.master.geometry used (content_in g.D.Disk p.cache) c.args.n c.requires.number _ b _ c.in_err-head-in-Some.field-0.0 (err_is _ _ c.from_residual-in_err-head-in-Some.ensures)
    (told_as _ c.in_ok-place.place (Some b) (c.in_ok-place.ensures.place shows tied) c.in-Some.is)
    (subst (TellsOrFails _) c.in_err-head-in-Some.was
    (subst (λ (x : ℕ → List ℕ). TellsOrFails (head_told b (inode_in (x b))) c.read_inode.result) (sees_content g.D.Disk p m c.used_place.result sees shows)
    (c.read_inode.ensures.head (sees_shows g.D.Disk p m c.used_place.result sees shows))))

pub returns-in_ok-head-in-Some-clause-sees : goal.returns-in_ok-head-in-Some-clause-sees
returns-in_ok-head-in-Some-clause-sees g c =
    let both = sees_after g.D.Disk c.args.p.now c.used_place.new.p c.read_inode.new.p _ _ c.in_ok-place.ensures.sees c.in_ok-head-in-Some.ensures.sees in
    sees_passed g.D.Disk c.args.p.now c.read_inode.new.p _ both.rest both.imap both.reads both.cause.later both.cause.passed.0

pub returns-in_ok-head-in-Some-clause-tells : goal.returns-in_ok-head-in-Some-clause-tells
returns-in_ok-head-in-Some-clause-tells g c = λ shows tied.
    let p = c.args.p.now in
    let m = c.used_place.new.p in
    let b = c.in-Some.block in
    let sees = c.used_place.ensures.sees in
    let used = used_under p.master.geometry p.imap.working (content_in g.D.Disk p.cache) in
    let content = sees_content g.D.Disk p m c.used_place.result sees shows in
    let shows_m = sees_shows g.D.Disk p m c.used_place.result sees shows in
    tells_head p.master.geometry used (content_in g.D.Disk p.cache) c.args.n c.requires.number _ b c.in_ok-head-in-Some.head
    (told_as _ c.in_ok-place.place (Some b) (c.in_ok-place.ensures.place shows tied) c.in-Some.is)
    (c.in_ok-head-in-Some.ensures.bytes shows_m ∙ ap (λ (x : ℕ → List ℕ). x b) content)
    (subst (λ (x : ℕ → List ℕ). head_told b (inode_in (x b)) ≡ Ok c.in_ok-head-in-Some.head) content (sym (c.in_ok-head-in-Some.ensures.head shows_m (λ h. absurd (cc h)))))

pub returns-in_ok-head-in-Some-clause-spelled : goal.returns-in_ok-head-in-Some-clause-spelled
returns-in_ok-head-in-Some-clause-spelled g c =
    subst (λ (x : Request). SpellsHead x c.in_ok-head-in-Some.head c.read_inode.new.p.block.items)
    (sees_geometry g.D.Disk c.args.p.now c.used_place.new.p c.used_place.result c.used_place.ensures.sees) c.in_ok-head-in-Some.ensures.spelled
