use Rattle.std.proofs.Common.{sym, ap, ◌∙◌, ◌≡◌, ◌<◌, ℕ, List, Option, length, Some, None, replicate, arith, slice_set}
use Rattle.std.specs.Prelude.{slice_index, slice_index_or}
use Rattle.std.specs.Vec.{with_items}
use Rattle.std.proofs.lemmas.List.{get_or-set_same, get_or-set_other, with_items_is}
use Rattle.edge_base.specs.declared.form.Form.{Form}
use Rattle.edge_base.specs.declared.geometry.Request.{Request}
use Rattle.edge_base.specs.layout.Places.{pointers_of}
use Rattle.edge_plain.specs.Kept.{row, block_kept}
use Rattle.edge_store.specs.View.{content}
use Rattle.edge_store.proofs.RoomLaws.{inside}
use Rattle.edge_plain.proofs.KeptLaws.{view_blocks, block_of_kept, empty_kept, none_kept}
use Rattle.edge_plain.proofs.plain_view.PlainView.put_block.Goals as goal

pub returns-clause-working : goal.returns-clause-working
returns-clause-working c =
    let h = c.args.self.now in
    let b = c.args.b in
    let g = h.geometry in
    let low : b < length h.forms.items = let r = inside g b c.requires.block in omega (arith, h.forms_length) in
    let low_owner : b < length h.owners.items = omega (arith, h.forms_length, h.owners_length) in
    let forms2 : List (Option Form) = slice_set h.forms.items b (Some c.args.form) in
    let owners2 : List ℕ = slice_set h.owners.items b c.args.owner in
    let ps2 : List ℕ = (with_items h.pointers c.fill_row.new.rows).items in
    let bs2 : List ℕ = (with_items h.bytes c.fill_row-2.new.rows).items in
    let ep : ps2 ≡ c.fill_row.new.rows = with_items_is h.pointers c.fill_row.new.rows (omega (arith, h.pointers.ok.0, c.fill_row.auto.rows)) in
    let eb : bs2 ≡ c.fill_row-2.new.rows = with_items_is h.bytes c.fill_row-2.new.rows (omega (arith, h.bytes.ok.0, c.fill_row-2.auto.rows)) in
    let count : pointers_of g ≡ c.pointer_count-count.result = sym c.pointer_count-count.ensures.count in
    let size : g.block_size ≡ c.request-size.result.block_size = ap (λ (r : Request). r.block_size) (sym c.request-size.ensures.same) in
    view_blocks g h.forms.items forms2 h.owners.items owners2 h.pointers.items ps2 h.bytes.items bs2 b c.requires.block
    (λ k far. get_or-set_other h.forms.items b k (Some c.args.form) None far) (λ k far. get_or-set_other h.owners.items b k c.args.owner 0 far)
    (λ k far. rw (count, ep) (c.fill_row.ensures.others k far ∙ ap (λ l. row c.pointer_count-count.result l k) c.deref_mut.ensures.value)) (λ k far. rw (size, eb) (c.fill_row-2.ensures.others k far ∙ ap (λ l. row c.request-size.result.block_size l k) c.deref_mut-2.ensures.value)) h.heads.items h.entries.items _ (sym (block_of_kept g forms2 owners2 ps2 bs2 b c.requires.block))

pub returns-clause-content : goal.returns-clause-content
returns-clause-content c =
    let h = c.args.self.now in
    let b = c.args.b in
    let g = h.geometry in
    let low : b < length h.forms.items = let r = inside g b c.requires.block in omega (arith, h.forms_length) in
    let low_owner : b < length h.owners.items = omega (arith, h.forms_length, h.owners_length) in
    let forms2 : List (Option Form) = slice_set h.forms.items b (Some c.args.form) in
    let owners2 : List ℕ = slice_set h.owners.items b c.args.owner in
    let ps2 : List ℕ = (with_items h.pointers c.fill_row.new.rows).items in
    let bs2 : List ℕ = (with_items h.bytes c.fill_row-2.new.rows).items in
    let ep : ps2 ≡ c.fill_row.new.rows = with_items_is h.pointers c.fill_row.new.rows (omega (arith, h.pointers.ok.0, c.fill_row.auto.rows)) in
    let eb : bs2 ≡ c.fill_row-2.new.rows = with_items_is h.bytes c.fill_row-2.new.rows (omega (arith, h.bytes.ok.0, c.fill_row-2.auto.rows)) in
    let count : pointers_of g ≡ c.pointer_count-count.result = sym c.pointer_count-count.ensures.count in
    let size : g.block_size ≡ c.request-size.result.block_size = ap (λ (r : Request). r.block_size) (sym c.request-size.ensures.same) in
    let form : slice_index_or forms2 b None ≡ Some c.args.form = get_or-set_same h.forms.items b (Some c.args.form) None low in
    let owner : slice_index owners2 b ≡ c.args.owner = get_or-set_same h.owners.items b c.args.owner 0 low_owner in
    let ps : row (pointers_of g) ps2 b ≡ replicate (pointers_of g) 0 = rw (count, ep) c.fill_row.ensures.here in
    let bs : row g.block_size bs2 b ≡ replicate g.block_size 0 = rw (size, eb) c.fill_row-2.ensures.here in
    ap (content c.args.form) (block_of_kept g forms2 owners2 ps2 bs2 b c.requires.block) ∙ (λ j. content c.args.form (block_kept (form j) (owner j) (ps j) (bs j))) ∙ empty_kept g c.args.form c.args.owner

pub returns-clause-other : goal.returns-clause-other
returns-clause-other c other node far =
    let h = c.args.self.now in
    let b = c.args.b in
    let g = h.geometry in
    let low : b < length h.forms.items = let r = inside g b c.requires.block in omega (arith, h.forms_length) in
    let forms2 : List (Option Form) = slice_set h.forms.items b (Some c.args.form) in
    let owners2 : List ℕ = slice_set h.owners.items b c.args.owner in
    let ps2 : List ℕ = (with_items h.pointers c.fill_row.new.rows).items in
    let bs2 : List ℕ = (with_items h.bytes c.fill_row-2.new.rows).items in
    let form : slice_index_or forms2 b None ≡ Some c.args.form = get_or-set_same h.forms.items b (Some c.args.form) None low in
    ap (content other) (block_of_kept g forms2 owners2 ps2 bs2 b c.requires.block)
    ∙ ap (λ f. content other (block_kept f (slice_index owners2 b) (row (pointers_of g) ps2 b) (row g.block_size bs2 b))) form
    ∙ none_kept g c.args.form other (slice_index owners2 b) (row (pointers_of g) ps2 b) (row g.block_size bs2 b) node far
