use Rattle.std.proofs.Common.{◌<◌, ◌∙◌, sym, ap, arith}
use Rattle.edge_base.specs.outside.Below.{Origin}
use Rattle.edge_store.specs.State.{Told}
use Rattle.edge_tree.proofs.KindLaws.{inode_untangled}
use Rattle.edge_file.proofs.AnswerLaws.{on_ok_map}
use Rattle.edge_file.proofs.GrowLaws.{whole_of_head, whole_set, grows_still, grows_set}
use Rattle.edge_file.proofs.size.reach.Goals as goal

pub returns-then-size-head-clause-readable : goal.returns-then-size-head-clause-readable
returns-then-size-head-clause-readable g c told = whole_of_head _ c.args.head (c.requires.head told)

pub returns-then-size-head-clause-set : goal.returns-then-size-head-clause-set
returns-then-size-head-clause-set g c told old was = grows_still (g.S.Store.state c.args.s.now).working c.args.n c.args.size c.args.head (c.requires.head told) c.if-size-head.true old was

pub returns-clause-untangled : goal.returns-clause-untangled
returns-clause-untangled g c told =
    inode_untangled (g.S.Store.state c.args.s.now) (g.S.Store.state c.set_head.new.self) c.args.n c.set_head.result (g.met.S.Store.working_is_view c.args.s.now told c.requires.live) (c.set_head.ensures.damage told)

pub returns-clause-readable : goal.returns-clause-readable
returns-clause-readable g c =
    on_ok_map c.set_head.result (λ ok set told.
    let old = g.S.Store.state c.args.s.now in
    let told_old : Told old = ap (λ (o : Origin). o.tells) (sym c.set_head.ensures.called.origin) ∙ told in
    whole_set old.working (g.S.Store.state c.set_head.new.self).working c.args.n (record c.args.head { size = c.args.size }) (set told_old) (whole_of_head (old.working.inodes c.args.n) c.args.head (c.requires.head told_old)))
    c.set_head.ensures.set

pub returns-clause-set : goal.returns-clause-set
returns-clause-set g c =
    on_ok_map c.set_head.result (λ ok set told old was.
    let low : c.args.head.size < c.args.size = omega arith in
    grows_set (g.S.Store.state c.args.s.now).working (g.S.Store.state c.set_head.new.self).working c.args.n c.args.size c.args.head (c.requires.head told) low (set told) old was)
    c.set_head.ensures.set
