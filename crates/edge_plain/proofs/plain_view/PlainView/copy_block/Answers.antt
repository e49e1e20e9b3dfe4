use Rattle.std.proofs.Common.{sym, ap, ◌∙◌, ◌≡◌, ◌<◌, ℕ, List, Option, length, None, arith, slice_set}
use Rattle.std.specs.Prelude.{slice_index, slice_index_or}
use Rattle.std.specs.Vec.{with_items}
use Rattle.std.proofs.lemmas.List.{get_or-set_same, get_or-set_other, get_or_default, with_items_is}
use Rattle.edge_base.specs.declared.form.Form.{Form}
use Rattle.edge_base.specs.declared.geometry.Request.{Request}
use Rattle.edge_base.specs.layout.Places.{pointers_of}
use Rattle.edge_plain.specs.Kept.{row, block_kept}
use Rattle.edge_store.proofs.RoomLaws.{inside}
use Rattle.edge_plain.proofs.KeptLaws.{view_blocks, block_of_kept}
use Rattle.edge_plain.proofs.plain_view.PlainView.copy_block.Goals as goal

pub returns-clause-view : goal.returns-clause-view
returns-clause-view c =
    let h = c.args.self.now in
    let b = c.args.to in
    let a = c.args.from in
    let g = h.geometry in
    let low : b < length h.forms.items = let r = inside g b c.requires.to in omega (arith, h.forms_length) in
    let low_from : a < length h.forms.items = let r = inside g a c.requires.from in omega (arith, h.forms_length) in
    let low_owner : b < length h.owners.items = omega (arith, h.forms_length, h.owners_length) in
    let forms2 : List (Option Form) = slice_set h.forms.items b c.index.result.now in
    let owners2 : List ℕ = slice_set h.owners.items b c.index-2.result.now in
    let ps2 : List ℕ = (with_items h.pointers c.copy_row.new.rows).items in
    let bs2 : List ℕ = (with_items h.bytes c.copy_row-2.new.rows).items in
    let ep : ps2 ≡ c.copy_row.new.rows = with_items_is h.pointers c.copy_row.new.rows (omega (arith, h.pointers.ok.0, c.copy_row.auto.rows)) in
    let eb : bs2 ≡ c.copy_row-2.new.rows = with_items_is h.bytes c.copy_row-2.new.rows (omega (arith, h.bytes.ok.0, c.copy_row-2.auto.rows)) in
    let count : pointers_of g ≡ c.pointer_count-count.result = sym c.pointer_count-count.ensures.count in
    let size : g.block_size ≡ c.request-size.result.block_size = ap (λ (r : Request). r.block_size) (sym c.request-size.ensures.same) in
    let read : c.index.result.now ≡ slice_index_or h.forms.items a None = c.index.ensures ∙ get_or_default h.forms.items a c.index.result.now None low_from in
    let read_owner : c.index-2.result.now ≡ slice_index h.owners.items a = c.index-2.ensures ∙ get_or_default h.owners.items a c.index-2.result.now 0 (omega (arith, h.forms_length, h.owners_length)) in
    let form : slice_index_or forms2 b None ≡ slice_index_or h.forms.items a None = get_or-set_same h.forms.items b c.index.result.now None low ∙ read in
    let owner : slice_index owners2 b ≡ slice_index h.owners.items a = get_or-set_same h.owners.items b c.index-2.result.now 0 low_owner ∙ read_owner in
    let ps : row (pointers_of g) ps2 b ≡ row (pointers_of g) h.pointers.items a = rw (count, ep) (c.copy_row.ensures.here ∙ ap (λ l. row c.pointer_count-count.result l a) c.deref_mut.ensures.value) in
    let bs : row g.block_size bs2 b ≡ row g.block_size h.bytes.items a = rw (size, eb) (c.copy_row-2.ensures.here ∙ ap (λ l. row c.request-size.result.block_size l a) c.deref_mut-2.ensures.value) in
    view_blocks g h.forms.items forms2 h.owners.items owners2 h.pointers.items ps2 h.bytes.items bs2 b c.requires.to
    (λ k far. get_or-set_other h.forms.items b k c.index.result.now None far) (λ k far. get_or-set_other h.owners.items b k c.index-2.result.now 0 far)
    (λ k far. rw (count, ep) (c.copy_row.ensures.others k far ∙ ap (λ l. row c.pointer_count-count.result l k) c.deref_mut.ensures.value)) (λ k far. rw (size, eb) (c.copy_row-2.ensures.others k far ∙ ap (λ l. row c.request-size.result.block_size l k) c.deref_mut-2.ensures.value)) h.heads.items h.entries.items _
    ((λ j. block_kept (form j) (owner j) (ps j) (bs j)) ∙ sym (block_of_kept g h.forms.items h.owners.items h.pointers.items h.bytes.items a c.requires.from))
