use Rattle.std.proofs.Common.{◌≡◌, ℕ, ◌+◌, ◌*◌, ap, subst, arith}
use Rattle.edge_alloc.specs.Pairs.{is_free}
use Rattle.edge_base.specs.declared.geometry.Request.{Request}
use Rattle.edge_imap.specs.Bitmaps.{bits_of}
use Rattle.edge_imap.specs.Search.{Finds}
use Rattle.edge_imap.proofs.BitLaws.{roots_room}
use Rattle.edge_imap.proofs.search.next_of_roots.Goals as goal

pub next_in-requires-clause-committed : goal.next_in-requires-clause-committed
next_in-requires-clause-committed c = roots_room c.args.g.now c.args.committed.now _ _ c.requires.inline c.request.ensures.limits.room (ap (λ (r : Request). 2 * r.inodes) c.request.ensures.same) c.allocable.ensures.count c.requires.committed.len

pub next_in-requires-clause-working : goal.next_in-requires-clause-working
next_in-requires-clause-working c = roots_room c.args.g.now c.args.working.now _ _ c.requires.inline c.request.ensures.limits.room (ap (λ (r : Request). 2 * r.inodes) c.request.ensures.same) c.allocable.ensures.count c.requires.working.len

pub returns : goal.returns
returns c =
    let test = is_free c.args.committed.now c.args.working.now in
    let first = ap (λ (r : Request). 2 * r.inodes) c.request.ensures.same in
    let end : 2 * c.request.result.inodes + c.allocable.result ≡ bits_of c.args.g.now = omega (arith, first, c.allocable.ensures.count, c.request.ensures.limits.room) in
    subst (λ (n : ℕ). Finds test n (bits_of c.args.g.now) c.args.from c.next_in.result) first (subst (λ (n : ℕ). Finds test (2 * c.request.result.inodes) n c.args.from c.next_in.result) end c.next_in.ensures)
