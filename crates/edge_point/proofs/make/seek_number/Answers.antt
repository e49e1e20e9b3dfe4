use Rattle.std.proofs.Common.{◌+◌, ℕ, Option, Err, sym, ◌∙◌, subst}
use Rattle.edge_base.specs.declared.geometry.Request.{Request}
use Rattle.edge_base.specs.layout.Bitmap.{used_under}
use Rattle.edge_cache.specs.Calls.{content_in}
use Rattle.edge_image.specs.Image.{is_free}
use Rattle.edge_imap.specs.Bitmaps.{IsFit}
use Rattle.edge_imap.specs.Search.{FindsLeast}
use Rattle.edge_store.specs.declared.fault.StoreFault.{StoreFault}
use Rattle.edge_point.specs.Finding.{Sees}
use Rattle.edge_point.proofs.EndedLaws.{imap_never}
use Rattle.edge_point.proofs.FindLaws.{sees_imap, sees_passed}
use Rattle.edge_point.proofs.MakeLaws.{number_of}
use Rattle.edge_point.proofs.StepLaws.{over, rest_over}
use Rattle.edge_point.proofs.make.seek_number.Goals as goal

pub free_inode-requires : goal.free_inode-requires
free_inode-requires g c = record { fits = subst (λ (r : Request). IsFit r (g.D.Disk.origin c.args.p.now.cache.disk)) (sym c.requires.stands.imap) c.requires.stands.fits }

pub returns-in-Ok-clause-sees : goal.returns-in-Ok-clause-sees
returns-in-Ok-clause-sees g c =
    let p = c.args.p.now in
    sees_passed g.D.Disk p (over p c.free_inode.new.self c.free_inode.new.cache) _ (rest_over p c.free_inode.new.self c.free_inode.new.cache)
    c.free_inode.ensures.same c.free_inode.ensures.reads c.free_inode.ensures.cause.later c.in-Ok.ensures.cause.passed

pub returns-in-Ok-clause-number : goal.returns-in-Ok-clause-number
returns-in-Ok-clause-number g c =
    let p = c.args.p.now in
    number_of p.master.geometry p.imap.geometry.inodes c.in-Ok.found (λ t. (c.requires.stands.imap t).inodes) c.in-Ok.ensures.bound

pub returns-in-Ok-clause-found : goal.returns-in-Ok-clause-found
returns-in-Ok-clause-found g c = λ shows.
    let p = c.args.p.now in
    subst (λ (r : Request). FindsLeast (is_free r (used_under r p.imap.working (content_in g.D.Disk p.cache))) 2 (2 + r.inodes) c.in-Ok.found) c.requires.stands.imap
    (c.in-Ok.ensures.found shows)

pub returns-in-Err-clause-sees : goal.returns-in-Err-clause-sees
returns-in-Err-clause-sees g c =
    let p = c.args.p.now in
    let q = over p c.free_inode.new.self c.free_inode.new.cache in
    subst (λ (f : StoreFault). Sees {T = Option ℕ} g.D.Disk p q (Err f)) (sym c.fault_of.ensures)
    (sees_imap g.D.Disk _ p q c.free_inode.result c.in-Err.fault (rest_over p c.free_inode.new.self c.free_inode.new.cache) c.free_inode.ensures.same
    c.free_inode.ensures.reads c.free_inode.ensures.cause c.in-Err.is)

pub returns-in-Err-clause-sound : goal.returns-in-Err-clause-sound
returns-in-Err-clause-sound g c = λ shows x h.
    imap_never c.free_inode.result c.in-Err.fault x c.in-Err.is (c.free_inode.ensures.sound shows (c.requires.stands.told c.requires.live shows).tied)
    (sym c.fault_of.ensures ∙ cc h)
