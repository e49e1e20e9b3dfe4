use Rattle.std.proofs.Common.{◌∙◌, ◌-◌, sym, subst, rules}
use Rattle.edge_cache.specs.declared.shelf.TheConstants.{BUFFERS}
use Rattle.edge_cache.specs.Places.{IsNew}
use Rattle.edge_cache.specs.Cached.{Cached, list_of}
use Rattle.edge_cache.specs.Calls.{HasWholeBlocks}
use Rattle.edge_cache.proofs.PlaceLaws.{new_take}
use Rattle.edge_cache.proofs.CacheLaws.{new_block, listed_new, used_added, whole_contents}
use Rattle.edge_cache.proofs.cache.Cache.put.Goals as goal

pub returns-in_err-make_room-clause-listed : goal.returns-in_err-make_room-clause-listed
returns-in_err-make_room-clause-listed g c = λ h. absurd (listed_new c.args.b (list_of c.args.self.now.held) h (subst (λ (v : Cached g.row.D.Denot). IsNew c.args.b (list_of v.held)) c.self.view_is (new_block c.self.inside.shelf.list c.args.b c.in_default.ensures.absent)))

pub put_new-requires-clause-absent : goal.put_new-requires-clause-absent
put_new-requires-clause-absent g c =
    let absent = subst (λ (v : Cached g.row.D.Denot). IsNew c.args.b (list_of v.held)) c.self.view_is (new_block c.self.inside.shelf.list c.args.b c.in_default.ensures.absent) in
    subst (IsNew c.args.b) (sym c.in_ok-make_room.ensures.list) (new_take c.args.b (list_of c.args.self.now.held) (BUFFERS - 1) absent)

pub returns-clause-list : goal.returns-clause-list
returns-clause-list g c =
    let absent = subst (λ (v : Cached g.row.D.Denot). IsNew c.args.b (list_of v.held)) c.self.view_is (new_block c.self.inside.shelf.list c.args.b c.in_default.ensures.absent) in
    record { used = c.put_new.ensures.list ∙ used_added c.args.b (list_of c.args.self.now.held) (list_of c.make_room.new.self.held) absent c.in_ok-make_room.ensures.list; fault = search rules }

pub returns-in-Some-clause-whole : goal.returns-in-Some-clause-whole
returns-in-Some-clause-whole g c =
    let d = g.D.Disk in
    let old : Cached g.row.D.Denot = record { disk = c.self.inside.disk; held = c.self.inside.shelf.list } in
    subst (λ (v : Cached g.row.D.Denot). HasWholeBlocks d v) c.self.view_is
    (whole_contents d old c.self.inside.shelf.size g.met.D.Disk.whole_blocks c.self.invariant.size_is c.find.ensures.whole)

pub returns-in_err-make_room-clause-whole : goal.returns-in_err-make_room-clause-whole
returns-in_err-make_room-clause-whole g c =
    let d = g.D.Disk in
    let old : Cached g.row.D.Denot = record { disk = c.self.inside.disk; held = c.self.inside.shelf.list } in
    subst (λ (v : Cached g.row.D.Denot). HasWholeBlocks d v) c.self.view_is
    (whole_contents d old c.self.inside.shelf.size g.met.D.Disk.whole_blocks c.self.invariant.size_is c.find.ensures.whole)

pub returns-clause-whole : goal.returns-clause-whole
returns-clause-whole g c =
    let d = g.D.Disk in
    let old : Cached g.row.D.Denot = record { disk = c.self.inside.disk; held = c.self.inside.shelf.list } in
    subst (λ (v : Cached g.row.D.Denot). HasWholeBlocks d v) c.self.view_is
    (whole_contents d old c.self.inside.shelf.size g.met.D.Disk.whole_blocks c.self.invariant.size_is c.find.ensures.whole)
