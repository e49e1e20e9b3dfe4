use Rattle.std.proofs.Common.{◌≡◌, ◌∙◌, ◌+◌, ◌-◌, ◌*◌, ◌≤◌, ◌++◌, ℕ, List, length, take, length-take, sym, ap, subst, arith}
use Rattle.std.proofs.lemmas.Result.{err_from_is_err_and}
use Rattle.std.specs.Prelude.{Err, replicate, slice_index}
use Rattle.std.proofs.lemmas.List.{length-replicate, replicate-append-replicate, take-replicate}
use Rattle.edge_base.specs.declared.geometry.Request.{Request}
use Rattle.edge_tree.specs.Own.{UntangledIf, UndamagedIf, IsNodeShaped}
use Rattle.edge_file.specs.Writing.{RoomForBytes, WritesBytes}
use Rattle.edge_file.proofs.LoopLaws.{WrittenSoFar, told_on}
use Rattle.edge_file.proofs.StepLaws.{piece_place, first_written, next_written, next_undamaged, next_untangled}
use Rattle.edge_file.proofs.write.fill_bytes.Goals as goal

pub loop-done-init : goal.loop-done-init
loop-done-init g c = (let h : 0 ≤ c.args.count = omega arith in h, first_written (g.S.Store.state c.args.s.now) c.args.n c.args.at c.requires.live c.requires.there)

pub returns-in_err-write_in_block-clause-undamaged : goal.returns-in_err-write_in_block-clause-undamaged
returns-in_err-write_in_block-clause-undamaged g c told shaped room d e =
    let old = g.S.Store.state c.args.s.now in
    let now = g.S.Store.state c.loop-done.s in
    let so = c.loop-done.invariant.1 in
    let low = c.loop-done.invariant.0 in
    let done = c.loop-done.done in
    let piece = c.first_piece-piece.result in
    let a = replicate done (slice_index c.args.same.now 0) in
    let rest = c.args.count - done in
    let long : length a ≡ done = length-replicate done (slice_index c.args.same.now 0) in
    let all : length a + rest ≡ c.args.count = omega (arith, long) in
    let part = take piece.len c.args.same.now in
    let fewer : length part ≤ rest = omega (arith, length-take piece.len c.args.same.now) in
    let place : piece.index * now.origin.request.block_size + piece.start ≡ c.args.at + length a =
    ap (λ (r : Request). piece.index * r.block_size + piece.start) (sym c.geometry.ensures) ∙ piece_place c.geometry.result.block_size c.args.at c.from.result piece.index piece.start c.first_piece-piece.ensures.index c.first_piece-piece.ensures.start
    ∙ ap (λ (k : ℕ). c.args.at + k) (c.from.ensures ∙ sym long) in
    let undamaged = subst (λ (x : ℕ). UndamagedIf {T = Unit {0}} now (IsNodeShaped now c.args.n) (RoomForBytes now c.args.n x (length part)) (Err c.in_err-write_in_block.field-0.0)) place c.in_err-write_in_block.ensures.undamaged in
    let p = err_from_is_err_and c.from_residual.result c.from_residual.ensures.1 in
    next_undamaged old now c.args.n c.args.at a (g.met.S.Store.is_geometry c.args.s.now) (λ told. g.met.S.Store.working_is_view c.args.s.now told c.requires.live) (λ told. g.met.S.Store.working_is_view c.loop-done.s told so.goes_on.live) so
    (Err c.in_err-write_in_block.field-0.0) rest (length part) fewer undamaged told shaped (subst (λ (k : ℕ). RoomForBytes old c.args.n c.args.at k) (sym all) room) d (ap Err (sym p.2) ∙ sym p.1 ∙ e)

pub returns-in_err-write_in_block-clause-untangled : goal.returns-in_err-write_in_block-clause-untangled
returns-in_err-write_in_block-clause-untangled g c told rules d e =
    let old = g.S.Store.state c.args.s.now in
    let now = g.S.Store.state c.loop-done.s in
    let so = c.loop-done.invariant.1 in
    let low = c.loop-done.invariant.0 in
    let done = c.loop-done.done in
    let piece = c.first_piece-piece.result in
    let a = replicate done (slice_index c.args.same.now 0) in
    let rest = c.args.count - done in
    let long : length a ≡ done = length-replicate done (slice_index c.args.same.now 0) in
    let all : length a + rest ≡ c.args.count = omega (arith, long) in
    let part = take piece.len c.args.same.now in
    let fewer : length part ≤ rest = omega (arith, length-take piece.len c.args.same.now) in
    let place : piece.index * now.origin.request.block_size + piece.start ≡ c.args.at + length a =
    ap (λ (r : Request). piece.index * r.block_size + piece.start) (sym c.geometry.ensures) ∙ piece_place c.geometry.result.block_size c.args.at c.from.result piece.index piece.start c.first_piece-piece.ensures.index c.first_piece-piece.ensures.start
    ∙ ap (λ (k : ℕ). c.args.at + k) (c.from.ensures ∙ sym long) in
    let untangled = subst (λ (x : ℕ). UntangledIf {T = Unit {0}} now (RoomForBytes now c.args.n x (length part)) (Err c.in_err-write_in_block.field-0.0)) place c.in_err-write_in_block.ensures.untangled in
    let p = err_from_is_err_and c.from_residual.result c.from_residual.ensures.1 in
    next_untangled old now c.args.n c.args.at a (g.met.S.Store.is_geometry c.args.s.now) (λ told. g.met.S.Store.working_is_view c.args.s.now told c.requires.live) (λ told. g.met.S.Store.working_is_view c.loop-done.s told so.goes_on.live) so
    (Err c.in_err-write_in_block.field-0.0) rest (length part) fewer untangled told (rules.0, subst (λ (k : ℕ). RoomForBytes old c.args.n c.args.at k) (sym all) rules.1) d (ap Err (sym p.2) ∙ sym p.1 ∙ e)

pub returns-in_err-write_in_block-clause-tangled : goal.returns-in_err-write_in_block-clause-tangled
returns-in_err-write_in_block-clause-tangled g c told d e =
    let p = err_from_is_err_and c.from_residual.result c.from_residual.ensures.1 in
    c.in_err-write_in_block.ensures.tangled (told_on (g.S.Store.state c.args.s.now) (g.S.Store.state c.loop-done.s) c.loop-done.invariant.1.goes_on told) d (ap Err (sym p.2) ∙ sym p.1 ∙ e)

pub loop-done-preserved : goal.loop-done-preserved
loop-done-preserved g c =
    let old = g.S.Store.state c.args.s.now in
    let now = g.S.Store.state c.loop-done.s in
    let new = g.S.Store.state c.write_in_block.new.s in
    let so = c.loop-done.invariant.1 in
    let low = c.loop-done.invariant.0 in
    let done = c.loop-done.done in
    let piece = c.first_piece-piece.result in
    let x = slice_index c.args.same.now 0 in
    let a = replicate done x in
    let part = take piece.len c.args.same.now in
    let call = c.in_ok-write_in_block.ensures in
    let long : length a ≡ done = length-replicate done x in
    let place : piece.index * now.origin.request.block_size + piece.start ≡ c.args.at + length a =
    ap (λ (r : Request). piece.index * r.block_size + piece.start) (sym c.geometry.ensures) ∙ piece_place c.geometry.result.block_size c.args.at c.from.result piece.index piece.start c.first_piece-piece.ensures.index c.first_piece-piece.ensures.start
    ∙ ap (λ (k : ℕ). c.args.at + k) (c.from.ensures ∙ sym long) in
    let written = subst (λ (y : ℕ). WritesBytes now new c.args.n y part) place call.written in
    let same : part ≡ replicate piece.len x = ap (take piece.len) c.requires.same ∙ take-replicate piece.len 4096 x c.first_piece-piece.ensures.most in
    let more : replicate (done + piece.len) x ≡ a ++ part = sym (replicate-append-replicate done piece.len x) ∙ ap (λ l. a ++ l) (sym same) in
    let next = next_written old now c.args.n c.args.at a (g.met.S.Store.is_geometry c.args.s.now) (λ told. g.met.S.Store.working_is_view c.args.s.now told c.requires.live) (λ told. g.met.S.Store.working_is_view c.loop-done.s told so.goes_on.live) so
    new part call.called call.point call.places call.heads call.readable (λ told. g.met.S.Store.working_is_view c.write_in_block.new.s told call.called.live) written in
    (let h : done + piece.len ≤ c.args.count = omega arith in h, subst (λ (l : List ℕ). WrittenSoFar old new c.args.n c.args.at l) (sym more) next)

pub returns-clause-written : goal.returns-clause-written
returns-clause-written g c =
    let old = g.S.Store.state c.args.s.now in
    let now = g.S.Store.state c.loop-done.s in
    let so = c.loop-done.invariant.1 in
    let all : c.loop-done.done ≡ c.args.count = omega arith in
    subst (λ (k : ℕ). WritesBytes old now c.args.n c.args.at (replicate k (slice_index c.args.same.now 0))) all so.written
