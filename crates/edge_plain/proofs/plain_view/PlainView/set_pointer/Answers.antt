use Rattle.edge_plain.proofs.KeptLaws.{set_here}
use Rattle.edge_plain.proofs.plain_view.PlainView.set_pointer.Goals as goal

pub returns-clause-set : goal.returns-clause-set
returns-clause-set c =
    let h = c.args.self.now in
    rw (c.pointer_count-count.ensures.count) (set_here h.geometry h.heads.items h.entries.items h.forms.items h.owners.items h.pointers.items h.bytes.items c.args.s.form c.args.s.owner c.args.s.block c.requires.block c.requires.form c.requires.spot c.args.i c.args.to c.requires.place)
