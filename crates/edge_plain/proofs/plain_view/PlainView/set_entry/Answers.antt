use Rattle.std.proofs.Common.{refl, slice_set, ◌*◌, ◌+◌}
use Rattle.edge_base.specs.layout.Places.{entries_of}
use Rattle.edge_plain.proofs.RowLaws.{row-set_apart}
use Rattle.edge_plain.proofs.KeptLaws.{view_inodes, entry_set}
use Rattle.edge_plain.proofs.plain_view.PlainView.set_entry.Goals as goal

pub returns-clause-view : goal.returns-clause-view
returns-clause-view c =
    let h = c.args.self.now in
    let g = h.geometry in
    let n = c.args.n in
    let i = c.args.i in
    rw (c.entry_count-count.ensures.count)
    (view_inodes g h.heads.items h.heads.items h.entries.items (slice_set h.entries.items (n * entries_of g + i) c.args.to) h.forms.items h.owners.items h.pointers.items h.bytes.items n _ c.requires.number
    (λ k far. refl) (λ k far. row-set_apart (entries_of g) h.entries.items n i c.args.to k c.requires.entry far) (entry_set g h.heads.items h.entries.items n i c.args.to c.requires.number c.requires.entry))
