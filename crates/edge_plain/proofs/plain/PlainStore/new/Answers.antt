use Rattle.std.proofs.Common.{◌≡◌, ◌∙◌, ◌-◌, ap, Some}
use Rattle.edge_base.specs.declared.geometry.Request.{Request}
use Rattle.edge_base.specs.layout.Places.{first_allocable_of, allocable_of}
use Rattle.edge_plain.specs.KeptView.{view_of}
use Rattle.edge_plain.specs.Plain.{root_head}
use Rattle.edge_plain.proofs.CountLaws.{counted_first, counted_eq}
use Rattle.edge_plain.proofs.plain.PlainStore.new.Goals as goal
use Rattle.edge_store.specs.View.{View, no_view, with_inode, empty_inode}

pub invariant_of-result-clause-counted : goal.invariant_of-result-clause-counted
invariant_of-result-clause-counted c =
    let g = c.args.g in
    let first : View = with_inode no_view 2 (Some (empty_inode g root_head)) in
    let working : view_of c.put_inode.new.self ≡ first =
    c.put_inode.ensures.view ∙ (λ i. with_inode (c.in_ok-working.ensures.view i) 2 (Some (empty_inode (c.in_ok-working.ensures.geometry i) root_head))) in
    let committed : view_of c.put_inode-2.new.self ≡ first =
    c.put_inode-2.ensures.view ∙ (λ i. with_inode (c.in_ok-committed.ensures.view i) 2 (Some (empty_inode (c.in_ok-committed.ensures.geometry i) root_head))) in
    let numbers : c.request-request.result.inodes - 1 ≡ g.inodes - 1 = ap (λ (r : Request). r.inodes - 1) c.request-request.ensures.same in
    counted_eq g c.put_inode.new.self.geometry first (view_of c.put_inode-2.new.self) first (view_of c.put_inode.new.self)
    (allocable_of g) c.allocable.result (allocable_of g) c.allocable-2.result (g.inodes - 1) _ (first_allocable_of g) c.first_allocable.result 2
    (c.put_inode.ensures.geometry ∙ c.in_ok-working.ensures.geometry) committed working c.allocable.ensures.count c.allocable-2.ensures.count numbers c.first_allocable.ensures
    (counted_first g c.request-request.ensures.limits.some_inode root_head)
