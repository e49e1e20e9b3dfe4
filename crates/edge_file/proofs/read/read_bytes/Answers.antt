use borrow.Rule.Slice.PartMut.{put_mid}
use Rattle.std.proofs.Common.{◌≡◌, ◌∙◌, ◌+◌, ◌-◌, ◌*◌, ◌≤◌, ◌++◌, length, take, drop, length-append, length-drop, length-take, refl, sym, ap, arith}
use Rattle.std.proofs.lemmas.Slice.{take-put_mid}
use Rattle.edge_base.specs.declared.geometry.Request.{Request}
use Rattle.edge_base.specs.outside.Below.{Origin}
use Rattle.edge_store.specs.State.{Told}
use Rattle.edge_store.proofs.CallLaws.{same_below_twice}
use Rattle.edge_file.specs.Bytes.{bytes_at}
use Rattle.edge_file.proofs.ByteLaws.{bytes-append}
use Rattle.edge_file.proofs.LoopLaws.{goes_first, goes_more, told_on}
use Rattle.edge_file.proofs.StepLaws.{piece_place}
use Rattle.edge_file.proofs.read.read_bytes.Goals as goal

pub loop-done-init : goal.loop-done-init
unfolding bytes_at
loop-done-init g c = (
  record {
    goes_on = goes_first (g.S.Store.state c.args.s.now) c.requires.live;
    working = record { working = refl; places = refl };
    low = omega arith;
    bytes = λ told. refl;
  },
  (λ clean. record { adds_none = λ k b h. h; stays = λ k b h. h; sure = λ k h. h; sure_stays = λ k h. h }),
  (λ clean. clean),
)

pub loop-done-preserved : goal.loop-done-preserved
loop-done-preserved g c =
    let old = g.S.Store.state c.args.s.now in
    let now = g.S.Store.state c.loop-done.s in
    let new = g.S.Store.state c.read_in_block.new.s in
    let inv = c.loop-done.invariant in
    let so = inv.0 in
    let call = c.in_ok-read_in_block.ensures in
    let done = c.loop-done.done in
    let piece = c.first_piece-piece.result in
    let out = c.loop-done.out in
    let part = c.read_in_block.new.out in
    let k = done + piece.len - done in
    let low : done ≤ length out = so.low in
    let len : k ≡ piece.len = omega arith in
    let long : length part ≡ piece.len = c.read_in_block.auto.out ∙ (let h : length (take k (drop done out)) ≡ piece.len = omega (arith, length-take k (drop done out), length-drop done out) in h) in
    let front : take (done + piece.len) (put_mid done k out part) ≡ take done out ++ part = take-put_mid done k out part (done + piece.len) (omega (arith, long)) low in
    let place : piece.index * now.origin.request.block_size + piece.start ≡ c.args.at + done =
    ap (λ (r : Request). piece.index * r.block_size + piece.start) (sym c.geometry.ensures) ∙ piece_place c.geometry.result.block_size c.args.at done piece.index piece.start c.first_piece-piece.ensures.index c.first_piece-piece.ensures.start in
    let reach : done + piece.len ≤ length (put_mid done k out part) = omega (arith, length-take (done + piece.len) (put_mid done k out part), ap length front, length-append (take done out) part, length-take done out, long, low) in (
      record {
        goes_on = goes_more old now new so.goes_on (tt {0}) call.called call.point;
        working = record { working = call.reads.working ∙ so.working.working; places = call.reads.places ∙ so.working.places };
        low = reach;
        bytes = λ told.
            let r = old.origin.request in
            let told_now : Told now = told_on old now so.goes_on told in
            front
            ∙ (λ t. so.bytes told t ++ call.bytes told_now t)
            ∙ (λ t. bytes_at r old.working c.args.n c.args.at done ++ bytes_at (ap (λ (o : Origin). o.request) so.goes_on.origin t) (so.working.working t) c.args.n (place t) (long t))
            ∙ sym (bytes-append r old.working c.args.n c.args.at done piece.len);
      },
      (λ clean. same_below_twice (inv.1 clean) (call.below (inv.2 clean))),
      (λ clean. call.clean (inv.2 clean)),
    )
