use Rattle.std.proofs.Common.{◌≡◌, ◌∙◌, ◌+◌, length, arith, Some, None, sym, ap}
use Rattle.std.proofs.lemmas.Result.{err_from_is_err_and}
use Rattle.std.specs.Prelude.{slice_range, Err}
use Rattle.edge_base.specs.declared.form.Form.TheVariants.{Plain}
use Rattle.edge_base.specs.outside.Below.{Origin}
use Rattle.edge_store.specs.Damages.{damage_at}
use Rattle.edge_store.specs.Placed.{data_block}
use Rattle.edge_store.specs.State.{Told}
use Rattle.edge_store.specs.View.{View, bytes_in, content_at, is_used}
use Rattle.edge_store.proofs.DamageLaws.{tells_of_spot}
use Rattle.edge_store.proofs.LinkLaws.{linked_is_spot}
use Rattle.edge_store.proofs.ViewLaws.{no_damage_of, spot_of, used_of}
use Rattle.edge_moves.proofs.SlotLaws.{some_pointers_fit}
use Rattle.edge_tree.proofs.KindLaws.{block_untangled}
use Rattle.edge_tree.proofs.LinkLaws.{allocable_of_link}
use Rattle.edge_file.proofs.AnswerLaws.{same_fault}
use Rattle.edge_file.proofs.BlockLaws.{full_bytes}
use Rattle.edge_file.proofs.StepLaws.{some_bytes}
use Rattle.edge_dir.proofs.ViewLaws.{shaped, blocks_are, is_there, used_bytes}
use Rattle.edge_dir.proofs.block.read_part.Goals as goal

pub returns-in_err-read_block-clause-damage : goal.returns-in_err-read_block-clause-damage
returns-in_err-read_block-clause-damage g c told d e =
    let old = g.S.Store.state c.args.s.now in
    let mid = g.S.Store.state c.block_of.new.s in
    let new = g.S.Store.state c.read_block.new.self in
    let first = c.in_ok-block.ensures in
    let met = c.in_err-read_block.ensures in
    let told_mid : Told mid = ap (λ (o : Origin). o.tells) first.called.origin ∙ told in
    let p = err_from_is_err_and c.from_residual-in_err-read_block.result c.from_residual-in_err-read_block.ensures.1 in
    tells_of_spot mid new (Err c.in_err-read_block.field-0.0) met.called met.point c.args.d Plain c.in_ok-block.block
    (rw first.called.origin (allocable_of_link old.origin.request c.in_ok-block.block first.link c.if-block-eq0.false))
    (rw (first.called.origin, first.reads.working) (first.linked told c.if-block-eq0.false)) (met.damage told_mid) d (ap Err (sym p.2) ∙ same_fault _ _ (sym p.1 ∙ e))

pub returns-in_err-read_block-clause-untangled : goal.returns-in_err-read_block-clause-untangled
returns-in_err-read_block-clause-untangled g c told d e =
    let mid = g.S.Store.state c.block_of.new.s in
    let new = g.S.Store.state c.read_block.new.self in
    let first = c.in_ok-block.ensures in
    let met = c.in_err-read_block.ensures in
    let told_mid : Told mid = ap (λ (o : Origin). o.tells) first.called.origin ∙ told in
    let p = err_from_is_err_and c.from_residual-in_err-read_block.result c.from_residual-in_err-read_block.ensures.1 in
    block_untangled mid new Plain c.args.d c.in_ok-block.block (Err c.in_err-read_block.field-0.0) (met.damage told_mid) d (ap Err (sym p.2) ∙ same_fault _ _ (sym p.1 ∙ e))

pub returns-in_err-read_block-clause-undamaged : goal.returns-in_err-read_block-clause-undamaged
returns-in_err-read_block-clause-undamaged g c told slots parent node d e =
    let old = g.S.Store.state c.args.s.now in
    let mid = g.S.Store.state c.block_of.new.s in
    let first = c.in_ok-block.ensures in
    let met = c.in_err-read_block.ensures in
    let told_mid : Told mid = ap (λ (o : Origin). o.tells) first.called.origin ∙ told in
    let p = err_from_is_err_and c.from_residual-in_err-read_block.result c.from_residual-in_err-read_block.ensures.1 in
    let spot = linked_is_spot old.origin.request old.working c.args.d _ node.holds.places Plain c.in_ok-block.block (first.linked told c.if-block-eq0.false) c.if-block-eq0.false in
    let none : damage_at mid.working Plain c.args.d c.in_ok-block.block ≡ None = ap (λ (v : View). damage_at v Plain c.args.d c.in_ok-block.block) first.reads.working ∙ no_damage_of old.working Plain c.args.d c.in_ok-block.block spot in
    let that = (met.damage told_mid).that d (ap Err (sym p.2) ∙ same_fault _ _ (sym p.1 ∙ e)) in
    let h : Some d ≡ None = sym that ∙ none in cc

pub returns-in_err-block-clause-undamaged : goal.returns-in_err-block-clause-undamaged
returns-in_err-block-clause-undamaged g c told slots parent node d e =
    let old = g.S.Store.state c.args.s.now in
    let p = err_from_is_err_and c.from_residual.result c.from_residual.ensures.1 in
    c.in_err-block.ensures.undamaged told (shaped old.origin.request old.working c.args.d slots parent node) d (ap Err (sym p.2) ∙ same_fault _ _ (sym p.1 ∙ e))

pub returns-then-block-eq0-clause-undamaged : goal.returns-then-block-eq0-clause-undamaged
returns-then-block-eq0-clause-undamaged g c told slots parent node d e =
    let old = g.S.Store.state c.args.s.now in
    let r = old.origin.request in
    let end = c.requires.end told in
    let some = some_bytes r (some_pointers_fit r (g.met.S.Store.is_geometry c.args.s.now)) in
    let count = blocks_are r old.working c.args.d slots parent node end.0 end.1 some in
    is_there r old.working c.args.d slots parent node c.args.i (g.met.S.Store.working_is_view c.args.s.now told c.requires.live) (omega (arith, count, end.3)) (sym (c.in_ok-block.ensures.block told) ∙ c.if-block-eq0.true)

pub absent-requires-clause-lacks : goal.absent-requires-clause-lacks
absent-requires-clause-lacks g c told =
    let old = g.S.Store.state c.args.s.now in
    let first = c.in_ok-block.ensures in
    let told_old : Told old = ap (λ (o : Origin). o.tells) (sym first.called.origin) ∙ told in
    let end = c.requires.end told_old in
    rw (first.called.origin, first.reads.working) (record {
      head = end.0;
      is_head = end.1;
      kind = end.2;
      index = c.args.i;
      in_range = c.requires.index;
      below = end.3;
      absent = sym (first.block told_old) ∙ c.if-block-eq0.true;
    })

pub returns-clause-part : goal.returns-clause-part
returns-clause-part g c told =
    let old = g.S.Store.state c.args.s.now in
    let mid = g.S.Store.state c.block_of.new.s in
    let r = old.origin.request in
    let first = c.in_ok-block.ensures in
    let read = c.in_ok-read_block.ensures in
    let b = c.in_ok-block.block in
    let told_mid : Told mid = ap (λ (o : Origin). o.tells) first.called.origin ∙ told in
    let block : b ≡ data_block r old.working c.args.d c.args.i = first.block told in
    let none = (read.damage told_mid).none in
    let used = used_of Plain (mid.working.blocks b) c.args.d (spot_of mid.working Plain c.args.d b none) in
    let used_old = (ap (λ (v : View). is_used v b) (sym first.reads.working)) ∙ used in
    let view = g.met.S.Store.working_is_view c.args.s.now told c.requires.live in
    let back : length c.args.out.now ≡ length c.read_block.new.out = sym c.read_block.auto.out in (
      bytes_in (content_at old.working Plain b),
      record { block = sym block; content = used_bytes old.working b used_old },
      full_bytes r old.working b view used_old,
      read.bytes told_mid
          ∙ (λ t. slice_range (bytes_in (content_at (first.reads.working t) Plain b)) c.args.at (c.args.at + back t)),
    )
