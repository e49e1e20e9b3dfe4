use Rattle.std.proofs.Common.{◌∙◌, ℕ, length, sym, ap, subst}
use Rattle.std.proofs.lemmas.Result.{err_from_is_err_and}
use Rattle.std.specs.Prelude.{Err}
use Rattle.edge_base.specs.declared.form.Form.TheVariants.{Plain}
use Rattle.edge_base.specs.outside.Below.{Origin}
use Rattle.edge_store.specs.Effects.{BytesSet}
use Rattle.edge_store.specs.State.{Told}
use Rattle.edge_store.specs.View.{View, head_of_inode}
use Rattle.edge_moves.proofs.SlotLaws.{entries_fit, some_pointers_fit}
use Rattle.edge_moves.proofs.SpentLaws.{whole_by_head}
use Rattle.edge_tree.proofs.KindLaws.{block_untangled}
use Rattle.edge_file.proofs.AnswerLaws.{on_ok_map, same_fault}
use Rattle.edge_file.proofs.BlockLaws.{written_block}
use Rattle.edge_file.proofs.StepLaws.{room_alone, some_bytes, view_too}
use Rattle.edge_file.proofs.write.write_in_block.Goals as goal

pub returns-in_err-block-clause-undamaged : goal.returns-in_err-block-clause-undamaged
returns-in_err-block-clause-undamaged g c told shaped room d e =
    let chain = room_alone (g.S.Store.state c.args.s.now) c.args.n c.args.i c.args.start (length c.args.bytes.now) c.requires.index c.requires.some c.requires.range room in
    let p = err_from_is_err_and c.from_residual.result c.from_residual.ensures.1 in
    c.in_err-block.ensures.undamaged told shaped chain d (ap Err (sym p.2) ∙ same_fault _ _ (sym p.1 ∙ e))

pub returns-in_err-block-clause-untangled : goal.returns-in_err-block-clause-untangled
returns-in_err-block-clause-untangled g c told room d e =
    let chain = room_alone (g.S.Store.state c.args.s.now) c.args.n c.args.i c.args.start (length c.args.bytes.now) c.requires.index c.requires.some c.requires.range room in
    let p = err_from_is_err_and c.from_residual.result c.from_residual.ensures.1 in
    c.in_err-block.ensures.untangled told chain d (ap Err (sym p.2) ∙ same_fault _ _ (sym p.1 ∙ e))

pub returns-in_err-block-clause-tangled : goal.returns-in_err-block-clause-tangled
returns-in_err-block-clause-tangled g c told d e =
    let p = err_from_is_err_and c.from_residual.result c.from_residual.ensures.1 in
    c.in_err-block.ensures.tangled told d (ap Err (sym p.2) ∙ same_fault _ _ (sym p.1 ∙ e))

pub returns-clause-untangled : goal.returns-clause-untangled
returns-clause-untangled g c told room =
    let mid = g.S.Store.state c.make_writable.new.s in
    let told_mid : Told mid = ap (λ (o : Origin). o.tells) c.in_ok-block.ensures.called.origin ∙ told in
    block_untangled mid (g.S.Store.state c.write_block.new.self) Plain c.args.n c.in_ok-block.block c.write_block.result (c.write_block.ensures.damage told_mid)

pub returns-clause-tangled : goal.returns-clause-tangled
returns-clause-tangled g c told d e kind =
    let mid = g.S.Store.state c.make_writable.new.s in
    let told_mid : Told mid = ap (λ (o : Origin). o.tells) c.in_ok-block.ensures.called.origin ∙ told in
    absurd (block_untangled mid (g.S.Store.state c.write_block.new.self) Plain c.args.n c.in_ok-block.block c.write_block.result (c.write_block.ensures.damage told_mid) d e kind)

pub returns-clause-heads : goal.returns-clause-heads
returns-clause-heads g c =
    on_ok_map c.write_block.result (λ ok set told.
    let first = c.in_ok-block.ensures in
    let told_mid : Told (g.S.Store.state c.make_writable.new.s) = ap (λ (o : Origin). o.tells) first.called.origin ∙ told in
    let inodes = ap (λ (u : View). u.inodes) (set told_mid).working in
    let heads = first.heads told in record {
      others = λ x apart. ap (λ f. f x) inodes ∙ heads.others x apart;
      head = ap (λ f. head_of_inode (f c.args.n)) inodes ∙ heads.head;
    }) c.write_block.ensures.set

pub returns-clause-written : goal.returns-clause-written
returns-clause-written g c =
    on_ok_map c.write_block.result (λ ok set told indices places once.
    let old = g.S.Store.state c.args.s.now in
    let mid = g.S.Store.state c.make_writable.new.s in
    let new = g.S.Store.state c.write_block.new.self in
    let r = old.origin.request in
    let first = c.in_ok-block.ensures in
    let told_mid : Told mid = ap (λ (o : Origin). o.tells) first.called.origin ∙ told in
    let told_new : Told new = ap (λ (o : Origin). o.tells) c.write_block.ensures.called.origin ∙ told_mid in
    let made = first.made told indices places once in
    let geometry = g.met.S.Store.is_geometry c.args.s.now in
    let some = some_pointers_fit r geometry in
    let view_v = g.met.S.Store.working_is_view c.args.s.now told c.requires.live in
    let view_m = view_too r mid.origin.request mid.working (ap (λ (o : Origin). o.request) (sym first.called.origin)) (g.met.S.Store.working_is_view c.make_writable.new.s told_mid first.called.live) in
    let view_w = view_too r new.origin.request new.working (ap (λ (o : Origin). o.request) (sym first.called.origin ∙ sym c.write_block.ensures.called.origin)) (g.met.S.Store.working_is_view c.write_block.new.self told_new (c.write_block.ensures.called.live ∙ ok)) in
    let is_m = first.readable told_mid in
    let is_v = whole_by_head (mid.working.inodes c.args.n) (old.working.inodes c.args.n) (sym (first.heads told).head) is_m in
    let put = subst (λ (b : ℕ). BytesSet mid.working new.working b c.args.start c.args.bytes.now) (sym made.1) (set told_mid) in
    written_block r old.committed old.working mid.working new.working c.args.n c.args.i c.args.start c.args.bytes.now indices (entries_fit r geometry) some view_v view_m view_w is_v is_m c.requires.index places made.0 put c.requires.some c.requires.range (some_bytes r some))
    c.write_block.ensures.set
