use Rattle.std.proofs.Common.{inl}
use Rattle.edge_alloc.specs.Pairs.{is_free}
use Rattle.edge_imap.proofs.SearchLaws.{finds_round}
use Rattle.edge_imap.proofs.search.next_in.Goals as goal

pub returns-in-Some : goal.returns-in-Some
returns-in-Some c = inl c.in-Some.ensures.found

pub returns-in-None : goal.returns-in-None
returns-in-None c = finds_round (is_free c.args.committed.now c.args.working.now) c.args.w.first _ c.args.from c.free_in-in-None.result c.in-None.ensures.none c.free_in-in-None.ensures.found c.free_in-in-None.ensures.none
