use Rattle.std.proofs.Common.{◌≡◌, ◌∙◌, ◌+◌, ◌-◌, ◌*◌, ℕ, List, length, ap, arith}
use Rattle.std.specs.Vec.{with_items}
use Rattle.std.proofs.lemmas.List.{with_items_is}
use borrow.Rule.Slice.PartMut.{put_mid, same_len_mid}
use Rattle.edge_base.specs.declared.geometry.Request.{Request}
use Rattle.edge_store.proofs.RoomLaws.{inside}
use Rattle.edge_plain.proofs.KeptLaws.{bytes_set}
use Rattle.edge_plain.proofs.RowLaws.{row_fits}
use Rattle.edge_plain.proofs.plain_view.PlainView.write.Goals as goal

pub returns-clause-set : goal.returns-clause-set
returns-clause-set c =
    let h = c.args.self.now in
    let g = h.geometry in
    let b = c.args.b in
    let at = c.args.at in
    let new = c.args.bytes.now in
    let size : c.request.result.block_size ≡ g.block_size = ap (λ (r : Request). r.block_size) c.request.ensures.same in
    let low = inside g b c.requires.block in
    let fits = row_fits b g.blocks g.block_size (omega (arith, h.limits.room)) in
    let count : b * g.block_size + at + length new - (b * g.block_size + at) ≡ length new = omega arith in
    let placed : List ℕ = put_mid (b * c.request.result.block_size + at) (b * c.request.result.block_size + at + length new - (b * c.request.result.block_size + at)) c.deref_mut.result.now c.copy_from_slice.new.self in
    let long : length placed ≡ length c.deref_mut.result.now = same_len_mid _ _ _ _ c.copy_from_slice.ensures.len in
    let is : (with_items h.bytes placed).items ≡ put_mid (b * g.block_size + at) (length new) h.bytes.items new =
    with_items_is h.bytes placed (long ∙ c.deref_mut.ensures.len)
    ∙ (λ i. put_mid (b * size i + at) (b * size i + at + length new - (b * size i + at)) (c.deref_mut.ensures.value i) (c.copy_from_slice.ensures.after i))
    ∙ ap (λ (n : ℕ). put_mid (b * g.block_size + at) n h.bytes.items new) count in
    bytes_set g h.heads.items h.entries.items h.forms.items h.owners.items h.pointers.items h.bytes.items (with_items h.bytes placed).items b at new c.requires.block c.requires.used c.requires.range (omega (arith, fits, h.bytes_length)) is
