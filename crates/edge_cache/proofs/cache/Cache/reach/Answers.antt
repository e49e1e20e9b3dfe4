use Rattle.std.proofs.Common.{subst}
use Rattle.edge_cache.specs.Places.{IsNew}
use Rattle.edge_cache.specs.Cached.{Cached, list_of}
use Rattle.edge_cache.specs.Calls.{HasWholeBlocks}
use Rattle.edge_cache.proofs.CacheLaws.{new_block, listed_new, whole_contents}
use Rattle.edge_cache.proofs.cache.Cache.reach.Goals as goal

pub miss-requires-clause-absent : goal.miss-requires-clause-absent
miss-requires-clause-absent g c = subst (λ (v : Cached g.row.D.Denot). IsNew c.args.b (list_of v.held)) c.self.view_is (new_block c.self.inside.shelf.list c.args.b c.in_default.ensures.absent)

pub returns-in_err-miss-clause-listed : goal.returns-in_err-miss-clause-listed
returns-in_err-miss-clause-listed g c = λ h. absurd (listed_new c.args.b (list_of c.args.self.now.held) h (subst (λ (v : Cached g.row.D.Denot). IsNew c.args.b (list_of v.held)) c.self.view_is (new_block c.self.inside.shelf.list c.args.b c.in_default.ensures.absent)))

pub returns-in-Some-clause-whole : goal.returns-in-Some-clause-whole
returns-in-Some-clause-whole g c =
    let d = g.D.Disk in
    let old : Cached g.row.D.Denot = record { disk = c.self.inside.disk; held = c.self.inside.shelf.list } in
    subst (λ (v : Cached g.row.D.Denot). HasWholeBlocks d v) c.self.view_is
    (whole_contents d old c.self.inside.shelf.size g.met.D.Disk.whole_blocks c.self.invariant.size_is c.find.ensures.whole)

pub returns-in_err-miss-clause-whole : goal.returns-in_err-miss-clause-whole
returns-in_err-miss-clause-whole g c =
    let d = g.D.Disk in
    let old : Cached g.row.D.Denot = record { disk = c.self.inside.disk; held = c.self.inside.shelf.list } in
    subst (λ (v : Cached g.row.D.Denot). HasWholeBlocks d v) c.self.view_is
    (whole_contents d old c.self.inside.shelf.size g.met.D.Disk.whole_blocks c.self.invariant.size_is c.find.ensures.whole)

pub returns-clause-whole : goal.returns-clause-whole
returns-clause-whole g c =
    let d = g.D.Disk in
    let old : Cached g.row.D.Denot = record { disk = c.self.inside.disk; held = c.self.inside.shelf.list } in
    subst (λ (v : Cached g.row.D.Denot). HasWholeBlocks d v) c.self.view_is
    (whole_contents d old c.self.inside.shelf.size g.met.D.Disk.whole_blocks c.self.invariant.size_is c.find.ensures.whole)
