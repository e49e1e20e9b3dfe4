use Rattle.std.proofs.Common.{◌≡◌, ◌∙◌, ◌+◌, ◌-◌, ◌*◌, ℕ, length, take, drop, sym, ap, arith}
use Rattle.std.specs.Prelude.{slice_range}
use Rattle.edge_base.specs.declared.geometry.Request.{Request}
use Rattle.edge_plain.proofs.KeptLaws.{bytes_kept}
use Rattle.edge_plain.proofs.RangeLaws.{row-range}
use Rattle.edge_plain.proofs.plain_view.PlainView.read.Goals as goal

pub returns : goal.returns
returns c =
    let h = c.args.self.now in
    let g = h.geometry in
    let b = c.args.b in
    let at = c.args.at in
    let len = length c.args.out.now in
    let size : c.request.result.block_size ≡ g.block_size = ap (λ (r : Request). r.block_size) c.request.ensures.same in
    let count : b * g.block_size + at + len - (b * g.block_size + at) ≡ len = omega arith in
    c.copy_from_slice.ensures.after
    ∙ (λ i. take (b * size i + at + len - (b * size i + at)) (drop (b * size i + at) (c.deref.ensures.value i)))
    ∙ ap (λ (n : ℕ). take n (drop (b * g.block_size + at) h.bytes.items)) count
    ∙ sym (row-range g.block_size h.bytes.items b at len c.requires.range)
    ∙ ap (λ l. slice_range l at (at + len)) (sym (bytes_kept g h.forms.items h.owners.items h.pointers.items h.bytes.items b c.requires.block c.requires.used))
