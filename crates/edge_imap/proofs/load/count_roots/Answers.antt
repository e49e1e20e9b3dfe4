use Rattle.std.proofs.Common.{◌*◌, ap, ◌∙◌}
use Rattle.edge_alloc.specs.declared.Counts.{Counts}
use Rattle.edge_base.specs.declared.geometry.Request.{Request}
use Rattle.edge_imap.proofs.BitLaws.{roots_room}
use Rattle.edge_imap.proofs.LoadLaws.{count_of_roots}
use Rattle.edge_imap.proofs.load.count_roots.Goals as goal

pub counts_in-requires-clause-committed : goal.counts_in-requires-clause-committed
counts_in-requires-clause-committed c = roots_room c.args.g.now c.args.roots.now _ _ c.requires.inline c.request.ensures.limits.room (ap (λ (r : Request). 2 * r.inodes) c.request.ensures.same) c.allocable.ensures.count c.requires.roots.len

pub counts_in-requires-clause-working : goal.counts_in-requires-clause-working
counts_in-requires-clause-working c = roots_room c.args.g.now c.args.roots.now _ _ c.requires.inline c.request.ensures.limits.room (ap (λ (r : Request). 2 * r.inodes) c.request.ensures.same) c.allocable.ensures.count c.requires.roots.len

pub returns-clause-blocks : goal.returns-clause-blocks
returns-clause-blocks c = ap (λ (x : Counts). x.free) c.counts_in.ensures ∙ count_of_roots c.args.g.now c.args.roots.now _ _ (ap (λ (r : Request). 2 * r.inodes) c.request.ensures.same) c.allocable.ensures.count
