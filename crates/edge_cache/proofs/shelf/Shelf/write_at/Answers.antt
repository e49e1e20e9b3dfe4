use Rattle.std.proofs.Common.{◌∙◌, false, set, get_or, ap}
use Rattle.edge_cache.specs.Kept.{Kept, made}
use Rattle.edge_cache.proofs.PlaceLaws.{read_place, set_list}
use Rattle.edge_cache.proofs.GivenLaws.{gives_place}
use Rattle.edge_cache.proofs.shelf.Shelf.write_at.Goals as goal

pub returns-in_err-write_to-clause-gives : goal.returns-in_err-write_to-clause-gives
returns-in_err-write_to-clause-gives g c =
    let s = c.self.inside in
    gives_place _ s.buffers.items s.order.items s.held s.size c.args.p _ c.index_mut.result.now c.write_to.new.self c.args.self.now.list _ _ _ _ _ _
    c.self.invariant c.requires.there (ap (λ l. get_or l c.args.p 0) c.deref.ensures.0) (ap (λ v. v.list) c.self.view_is) c.index_mut.ensures.value c.requires.apart
    (ap (λ k. k.block) c.in_err-write_to.ensures.kept) c.write_to.ensures.gives

pub returns-clause-done : goal.returns-clause-done
returns-clause-done g c =
    let s = c.self.inside in
    let ls = ap (λ v. v.list) c.self.view_is in
    let e = ap (λ l. get_or l c.args.p 0) c.deref.ensures.0 in
    set_list s.buffers.items s.order.items s.held s.size c.args.p _ c.write_to.new.self c.args.self.now.list c.self.invariant c.requires.there e ls
    ∙ ap (λ k. set c.args.self.now.list c.args.p k) (c.in_ok-write_to.ensures.done ∙ ap (λ (k : Kept). made k.block k.bytes false) (read_place s.buffers.items s.order.items s.held s.size c.args.p _ c.index_mut.result.now c.args.self.now.list c.self.invariant c.requires.there e ls c.index_mut.ensures.value))

pub returns-clause-gives : goal.returns-clause-gives
returns-clause-gives g c =
    let s = c.self.inside in
    gives_place _ s.buffers.items s.order.items s.held s.size c.args.p _ c.index_mut.result.now c.write_to.new.self c.args.self.now.list _ _ _ _ _ _
    c.self.invariant c.requires.there (ap (λ l. get_or l c.args.p 0) c.deref.ensures.0) (ap (λ v. v.list) c.self.view_is) c.index_mut.ensures.value c.requires.apart
    (ap (λ k. k.block) c.in_ok-write_to.ensures.done) c.write_to.ensures.gives
