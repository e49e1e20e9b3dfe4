use Rattle.std.proofs.Common.{refl, ap, ◌<◌, length, None, arith, slice_set}
use Rattle.std.proofs.lemmas.List.{get_or-set_same, get_or-set_other}
use Rattle.edge_base.specs.layout.Places.{pointers_of}
use Rattle.edge_plain.specs.Kept.{row, block_kept}
use Rattle.edge_store.proofs.RoomLaws.{inside}
use Rattle.edge_plain.proofs.KeptLaws.{view_blocks}
use Rattle.edge_plain.proofs.plain_view.PlainView.drop_block.Goals as goal

pub returns-clause-view : goal.returns-clause-view
returns-clause-view c =
    let h = c.args.self.now in
    let b = c.args.b in
    let g = h.geometry in
    let low : b < length h.forms.items = let r = inside g b c.requires.block in omega (arith, h.forms_length) in
    view_blocks g h.forms.items (slice_set h.forms.items b None) h.owners.items h.owners.items h.pointers.items h.pointers.items h.bytes.items h.bytes.items b c.requires.block
    (λ k far. get_or-set_other h.forms.items b k None None far) (λ k far. refl) (λ k far. refl) (λ k far. refl) h.heads.items h.entries.items None
    (ap (λ f. block_kept f (Rattle.std.specs.Prelude.slice_index h.owners.items b) (row (pointers_of g) h.pointers.items b) (row g.block_size h.bytes.items b)) (get_or-set_same h.forms.items b None None low))
