use Rattle.std.proofs.Common.{sym, ap, ◌∙◌, ◌≡◌, ◌<◌, ℕ, List, length, Some, None, replicate, arith, slice_set}
use Rattle.std.specs.Prelude.{slice_index_or, Option}
use Rattle.std.specs.Vec.{with_items}
use Rattle.std.proofs.lemmas.List.{get_or-set_same, get_or-set_other, with_items_is}
use Rattle.edge_base.specs.declared.node.Head.{Head}
use Rattle.edge_base.specs.layout.Places.{entries_of}
use Rattle.edge_plain.specs.Kept.{row, inode_kept}
use Rattle.edge_plain.proofs.KeptLaws.{view_inodes, below_numbers}
use Rattle.edge_plain.proofs.plain_view.PlainView.put_inode.Goals as goal

pub returns-clause-view : goal.returns-clause-view
returns-clause-view c =
    let h = c.args.self.now in
    let n = c.args.n in
    let g = h.geometry in
    let low : n < length h.heads.items = let r = below_numbers g n c.requires.number in omega (arith, h.heads_length) in
    let heads2 : List (Option Head) = slice_set h.heads.items n (Some c.args.head) in
    let es2 : List ℕ = (with_items h.entries c.fill_row.new.rows).items in
    let ee : es2 ≡ c.fill_row.new.rows = with_items_is h.entries c.fill_row.new.rows (omega (arith, h.entries.ok.0, c.fill_row.auto.rows)) in
    let count : entries_of g ≡ c.entry_count-count.result = sym c.entry_count-count.ensures.count in
    let head : slice_index_or heads2 n None ≡ Some c.args.head = get_or-set_same h.heads.items n (Some c.args.head) None low in
    let es : row (entries_of g) es2 n ≡ replicate (entries_of g) 0 = rw (count, ee) c.fill_row.ensures.here in
    view_inodes g h.heads.items heads2 h.entries.items es2 h.forms.items h.owners.items h.pointers.items h.bytes.items n _ c.requires.number
    (λ k far. get_or-set_other h.heads.items n k (Some c.args.head) None far) (λ k far. rw (count, ee) (c.fill_row.ensures.others k far ∙ ap (λ l. row c.entry_count-count.result l k) c.deref_mut.ensures.value)) (λ j. inode_kept (head j) (es j))
