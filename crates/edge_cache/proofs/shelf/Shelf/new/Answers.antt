use Rattle.std.proofs.Common.{◌≡◌, ◌∙◌, ◌++◌, [], ◌∷◌, length, sym, ap, arith, inl, inr}
use Rattle.std.specs.List.{range_with_len}
use Rattle.std.proofs.lemmas.Bool.{cases_eq}
use Rattle.std.proofs.lemmas.List.{get_or_push, get_or_append_left}
use Rattle.edge_cache.specs.declared.shelf.TheConstants.{BUFFERS}
use Rattle.edge_cache.specs.Kept.{Kept}
use Rattle.edge_cache.specs.Places.{nothing, kept_at}
use Rattle.edge_cache.proofs.PlaceLaws.{range_push, length_range, placed_new}
use Rattle.edge_cache.proofs.shelf.Shelf.new.Goals as goal

pub loop-place-init : goal.loop-place-init
loop-place-init c = record { count = ap length c.in_ok-buffers.ensures.items; order = c.new-order.ensures; whole = λ i lt. absurd (omega arith) }

pub push-requires-in-loop-place : goal.push-requires-in-loop-place
push-requires-in-loop-place c = omega (arith, length_range 0 c.loop-place.place, ap length c.loop-place.invariant.order, c.loop-place-test.true)

pub loop-place-preserved : goal.loop-place-preserved
loop-place-preserved c =
    let was = c.loop-place.invariant in
    let pushed = c.in_ok-push.ensures.items in
    record {
      count = omega (arith, c.in_ok-push.ensures.len, was.count);
      order = c.push-in-loop-place.ensures.items ∙ ap (λ l. l ++ c.loop-place.place ∷ []) was.order ∙ sym (range_push c.loop-place.place);
      whole = λ i lt. elim (cases_eq i c.loop-place.place) [
        | inl e ↦ ap (λ l. length (kept_at l i).bytes) pushed ∙ ap (λ (k : Kept). length k.bytes) (get_or_push c.loop-place.buffers.items c.in_ok-new.field-0 nothing i (was.count ∙ sym e)) ∙ c.in_ok-new.ensures.whole
        | inr far ↦ ap (λ l. length (kept_at l i).bytes) pushed ∙ ap (λ (k : Kept). length k.bytes) (get_or_append_left c.loop-place.buffers.items (c.in_ok-new.field-0 ∷ []) nothing i (omega (arith, was.count))) ∙ was.whole i (omega arith)
      ];
    }

pub invariant_of-result : goal.invariant_of-result
invariant_of-result c =
    let was = c.loop-place.invariant in
    let all : c.loop-place.place ≡ BUFFERS = omega (arith, c.loop-place-test.false, c.loop-place.auto.place-end) in
    placed_new c.loop-place.buffers.items c.loop-place.order.items c.args.size (was.count ∙ all) (was.order ∙ ap (range_with_len 0) all) (λ i lt. was.whole i (omega arith)) c.requires.least c.requires.most
