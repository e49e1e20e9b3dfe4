use Rattle.std.proofs.Common.{replicate, sym, subst}
use Rattle.edge_base.specs.declared.form.Form.{Form}
use Rattle.edge_base.specs.declared.form.Form.TheVariants.{Plain}
use Rattle.edge_point.specs.Seen.{state_of}
use Rattle.edge_point.specs.Uses.{BlockEmptied}
use Rattle.edge_point.proofs.EffectLaws.{new_used}
use Rattle.edge_point.proofs.NodeLaws.{emptied, empty_plain}
use Rattle.edge_point.proofs.PlacedLaws.{ok_map}
use Rattle.edge_point.proofs.put.put_empty.Goals as goal

pub returns-in-Plain-clause-empties : goal.returns-in-Plain-clause-empties
returns-in-Plain-clause-empties g c =
    let s = state_of g.D.Disk c.args.p.now in
    let n = state_of g.D.Disk c.put_zeros.new.p in
    let r = s.origin.request in
    ok_map c.put_zeros.result (λ puts told. subst (λ (f : Form). BlockEmptied r s.working n.working f c.args.owner c.args.b) (sym c.in-Plain.is)
    (emptied r s.working n.working Plain c.args.owner c.args.b (replicate r.block_size 0) (puts told)
    (new_used s.committed s.working c.args.b (c.requires.is_new told))
    (empty_plain r c.args.owner))) c.put_zeros.ensures.put

pub returns-in-Indirect-clause-empties : goal.returns-in-Indirect-clause-empties
returns-in-Indirect-clause-empties g c =
    let s = state_of g.D.Disk c.args.p.now in
    let n = state_of g.D.Disk c.put_pointers.new.p in
    ok_map c.put_pointers.result (λ empties told. subst (λ (f : Form). BlockEmptied s.origin.request s.working n.working f c.args.owner c.args.b)
    (sym c.in-Indirect.is) (empties told))
    c.put_pointers.ensures.empties

pub returns-in-Double-clause-empties : goal.returns-in-Double-clause-empties
returns-in-Double-clause-empties g c =
    let s = state_of g.D.Disk c.args.p.now in
    let n = state_of g.D.Disk c.put_pointers-in-Double.new.p in
    ok_map c.put_pointers-in-Double.result (λ empties told. subst (λ (f : Form). BlockEmptied s.origin.request s.working n.working f c.args.owner c.args.b)
    (sym c.in-Double.is) (empties told))
    c.put_pointers-in-Double.ensures.empties
