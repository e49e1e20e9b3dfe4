use Rattle.std.proofs.Common.{◌≡◌, ◌+◌, ◌-◌, ◌<◌, ◌^◌, true, false, Ok, Err, subst}
use Rattle.std.specs.Prelude.{IsTrue}
use Rattle.edge_alloc.specs.declared.Counts.{Counts}
use Rattle.edge_store.specs.Calls.{Called, TakesPoint}
use Rattle.edge_store.specs.declared.fault.StoreFault.TheVariants.{Device}
use Rattle.edge_point.specs.Seen.{state_of}
use Rattle.edge_point.specs.Standing.{IsPoint}
use Rattle.edge_point.specs.declared.parts.Parts.{Parts}
use Rattle.edge_point.proofs.TakesLaws.{taken_called, taken_point, taken_takes, torn_called, torn_point, torn_takes}
use Rattle.edge_point.proofs.TransactLaws.{joined_is, may_commit}
use Rattle.edge_point.proofs.transact.transact.Goals as goal

pub returns-in-Ok-clause-stands : goal.returns-in-Ok-clause-stands
returns-in-Ok-clause-stands g c =
    let d = g.D.Disk in
    let p = c.args.p.now in
    let q = c.commit_parts.new.p in
    let root = c.next_root-root.result in
    let is = c.requires.stands in
    let live = c.requires.live in
    let e = c.next_root-root.ensures in
    let all = c.commit_parts.ensures in
    let free = subst (λ (x : Counts). x.free + x.almost < 2 ^ 32 → root.free_blocks ≡ x.free + x.almost) c.counts.ensures e.free_blocks in
    let may = λ (shows : IsTrue (d.origin p.cache.disk).shows). may_commit d p is live root shows e.sequence free e.free_inodes in
    subst (λ (x : Parts g.row.D.Denot). IsPoint d (record x { place = 3 - p.place; root = root; points = x.points + 1 })) (joined_is d p q all.rest)
    (taken_point d p q is live root all.rest all.origin e.sequence may all.contents c.in-Ok.ensures.settles c.in-Ok.ensures.clean c.in-Ok.ensures.cause.passed
    (λ shows. c.in-Ok.ensures.shown (may shows) shows (is.told live shows).committed) (λ told. c.in-Ok.ensures.committed (may told.shows) told)
    (g.met.D.Disk.sure_is_shown q.cache.disk))

pub returns-in-Ok-clause-called : goal.returns-in-Ok-clause-called
returns-in-Ok-clause-called g c =
    let d = g.D.Disk in
    let p = c.args.p.now in
    let q = c.commit_parts.new.p in
    let root = c.next_root-root.result in
    let is = c.requires.stands in
    let live = c.requires.live in
    let e = c.next_root-root.ensures in
    let all = c.commit_parts.ensures in
    let free = subst (λ (x : Counts). x.free + x.almost < 2 ^ 32 → root.free_blocks ≡ x.free + x.almost) c.counts.ensures e.free_blocks in
    let may = λ (shows : IsTrue (d.origin p.cache.disk).shows). may_commit d p is live root shows e.sequence free e.free_inodes in
    subst (λ (x : Parts g.row.D.Denot). Called (state_of d p) (state_of d (record x { place = 3 - p.place; root = root; points = x.points + 1 })) (Ok tt)) (joined_is d p q all.rest)
    (taken_called d p q is live root all.rest all.origin e.sequence may all.contents c.in-Ok.ensures.settles c.in-Ok.ensures.clean c.in-Ok.ensures.cause.passed
    (λ shows. c.in-Ok.ensures.shown (may shows) shows (is.told live shows).committed) (λ told. c.in-Ok.ensures.committed (may told.shows) told)
    (g.met.D.Disk.sure_is_shown q.cache.disk) tt)

pub returns-in-Ok-clause-takes : goal.returns-in-Ok-clause-takes
returns-in-Ok-clause-takes g c =
    let d = g.D.Disk in
    let p = c.args.p.now in
    let q = c.commit_parts.new.p in
    let root = c.next_root-root.result in
    let is = c.requires.stands in
    let live = c.requires.live in
    let e = c.next_root-root.ensures in
    let all = c.commit_parts.ensures in
    let free = subst (λ (x : Counts). x.free + x.almost < 2 ^ 32 → root.free_blocks ≡ x.free + x.almost) c.counts.ensures e.free_blocks in
    let may = λ (shows : IsTrue (d.origin p.cache.disk).shows). may_commit d p is live root shows e.sequence free e.free_inodes in
    subst (λ (x : Parts g.row.D.Denot). TakesPoint (state_of d p) (state_of d (record x { place = 3 - p.place; root = root; points = x.points + 1 })) (Ok tt)) (joined_is d p q all.rest)
    (taken_takes d p q is live root all.rest all.origin e.sequence may all.contents c.in-Ok.ensures.settles c.in-Ok.ensures.clean c.in-Ok.ensures.cause.passed
    (λ shows. c.in-Ok.ensures.shown (may shows) shows (is.told live shows).committed) (λ told. c.in-Ok.ensures.committed (may told.shows) told)
    (g.met.D.Disk.sure_is_shown q.cache.disk) tt)

pub returns-in-Err-clause-stands : goal.returns-in-Err-clause-stands
returns-in-Err-clause-stands g c =
    let d = g.D.Disk in
    let p = c.args.p.now in
    let q = c.commit_parts.new.p in
    let root = c.next_root-root.result in
    let is = c.requires.stands in
    let live = c.requires.live in
    let e = c.next_root-root.ensures in
    let all = c.commit_parts.ensures in
    let free = subst (λ (x : Counts). x.free + x.almost < 2 ^ 32 → root.free_blocks ≡ x.free + x.almost) c.counts.ensures e.free_blocks in
    let may = λ (shows : IsTrue (d.origin p.cache.disk).shows). may_commit d p is live root shows e.sequence free e.free_inodes in
    subst (λ (x : Parts g.row.D.Denot). IsPoint d (record x { live = false; torn = true })) (joined_is d p q all.rest)
    (torn_point d p q is live root all.rest all.origin e.sequence may all.contents c.in-Err.ensures.unsettled c.in-Err.ensures.cause.failed all.cause.later
    all.follows (λ told. all.cut (may told.shows) told))

pub returns-in-Err-clause-called : goal.returns-in-Err-clause-called
returns-in-Err-clause-called g c =
    let d = g.D.Disk in
    let p = c.args.p.now in
    let q = c.commit_parts.new.p in
    let root = c.next_root-root.result in
    let is = c.requires.stands in
    let live = c.requires.live in
    let e = c.next_root-root.ensures in
    let all = c.commit_parts.ensures in
    let free = subst (λ (x : Counts). x.free + x.almost < 2 ^ 32 → root.free_blocks ≡ x.free + x.almost) c.counts.ensures e.free_blocks in
    let may = λ (shows : IsTrue (d.origin p.cache.disk).shows). may_commit d p is live root shows e.sequence free e.free_inodes in
    subst (λ (x : Parts g.row.D.Denot). Called {T = Unit {0}} (state_of d p) (state_of d (record x { live = false; torn = true })) (Err Device)) (joined_is d p q all.rest)
    (torn_called d p q is live root all.rest all.origin e.sequence may all.contents c.in-Err.ensures.unsettled c.in-Err.ensures.cause.failed all.cause.later
    all.follows (λ told. all.cut (may told.shows) told))

pub returns-in-Err-clause-takes : goal.returns-in-Err-clause-takes
returns-in-Err-clause-takes g c =
    let d = g.D.Disk in
    let p = c.args.p.now in
    let q = c.commit_parts.new.p in
    let root = c.next_root-root.result in
    let is = c.requires.stands in
    let live = c.requires.live in
    let e = c.next_root-root.ensures in
    let all = c.commit_parts.ensures in
    let free = subst (λ (x : Counts). x.free + x.almost < 2 ^ 32 → root.free_blocks ≡ x.free + x.almost) c.counts.ensures e.free_blocks in
    let may = λ (shows : IsTrue (d.origin p.cache.disk).shows). may_commit d p is live root shows e.sequence free e.free_inodes in
    subst (λ (x : Parts g.row.D.Denot). TakesPoint {T = Unit {0}} (state_of d p) (state_of d (record x { live = false; torn = true })) (Err Device)) (joined_is d p q all.rest)
    (torn_takes d p q is live root all.rest all.origin e.sequence may all.contents c.in-Err.ensures.unsettled c.in-Err.ensures.cause.failed all.cause.later
    all.follows (λ told. all.cut (may told.shows) told))
