use Rattle.std.proofs.Common.{refl, ap, ◌<◌, length, None, arith, slice_set}
use Rattle.std.proofs.lemmas.List.{get_or-set_same, get_or-set_other}
use Rattle.edge_base.specs.layout.Places.{entries_of}
use Rattle.edge_plain.specs.Kept.{row, inode_kept}
use Rattle.edge_plain.proofs.KeptLaws.{view_inodes, below_numbers}
use Rattle.edge_plain.proofs.plain_view.PlainView.drop_inode.Goals as goal

pub returns-clause-view : goal.returns-clause-view
returns-clause-view c =
    let h = c.args.self.now in
    let n = c.args.n in
    let g = h.geometry in
    let low : n < length h.heads.items = let r = below_numbers g n c.requires.number in omega (arith, h.heads_length) in
    view_inodes g h.heads.items (slice_set h.heads.items n None) h.entries.items h.entries.items h.forms.items h.owners.items h.pointers.items h.bytes.items n None c.requires.number
    (λ k far. get_or-set_other h.heads.items n k None None far) (λ k far. refl) (ap (λ f. inode_kept f (row (entries_of g) h.entries.items n)) (get_or-set_same h.heads.items n None None low))
