use Rattle.std.proofs.Common.{◌≡◌, ◌∙◌, ◌+◌, ◌*◌, length, true, None, Some, sym, ap}
use Rattle.std.specs.Prelude.{slice_range}
use Rattle.edge_base.specs.declared.form.Form.TheVariants.{Plain}
use Rattle.edge_base.specs.outside.Below.{Origin}
use Rattle.edge_store.specs.Damages.{damage_at}
use Rattle.edge_store.specs.Placed.{data_block}
use Rattle.edge_store.specs.State.{Told}
use Rattle.edge_store.specs.View.{View, bytes_in, content_at, is_used}
use Rattle.edge_store.proofs.DamageLaws.{tells_of_spot}
use Rattle.edge_store.proofs.LinkLaws.{linked_is_spot}
use Rattle.edge_store.proofs.ViewLaws.{no_damage_of, spot_of, unused_zero, used_of}
use Rattle.edge_tree.proofs.KindLaws.{block_untangled}
use Rattle.edge_tree.proofs.LinkLaws.{allocable_of_link}
use Rattle.edge_file.specs.Bytes.{bytes_at}
use Rattle.edge_file.proofs.AnswerLaws.{on_ok_at, on_ok_map}
use Rattle.edge_file.proofs.BlockLaws.{full_bytes}
use Rattle.edge_file.proofs.ByteLaws.{part_of_block, zeros_in_block}
use Rattle.edge_file.proofs.read.read_in_block.Goals as goal

pub returns-clause-damage : goal.returns-clause-damage
returns-clause-damage g c told =
    let old = g.S.Store.state c.args.s.now in
    let mid = g.S.Store.state c.block_of.new.s in
    let new = g.S.Store.state c.read_block.new.self in
    let first = c.in_ok-block.ensures in
    let told_mid : Told mid = ap (λ (o : Origin). o.tells) first.called.origin ∙ told in
    tells_of_spot mid new c.read_block.result c.read_block.ensures.called c.read_block.ensures.point c.args.n Plain c.in_ok-block.block
    (rw first.called.origin (allocable_of_link old.origin.request c.in_ok-block.block first.link c.if-block-eq0.false))
    (rw (first.called.origin, first.reads.working) (first.linked told c.if-block-eq0.false)) (c.read_block.ensures.damage told_mid)

pub returns-clause-untangled : goal.returns-clause-untangled
returns-clause-untangled g c told =
    let mid = g.S.Store.state c.block_of.new.s in
    let new = g.S.Store.state c.read_block.new.self in
    let first = c.in_ok-block.ensures in
    let told_mid : Told mid = ap (λ (o : Origin). o.tells) first.called.origin ∙ told in
    block_untangled mid new Plain c.args.n c.in_ok-block.block c.read_block.result (c.read_block.ensures.damage told_mid)

pub returns-clause-undamaged : goal.returns-clause-undamaged
returns-clause-undamaged g c told shaped d e =
    let old = g.S.Store.state c.args.s.now in
    let mid = g.S.Store.state c.block_of.new.s in
    let first = c.in_ok-block.ensures in
    let told_mid : Told mid = ap (λ (o : Origin). o.tells) first.called.origin ∙ told in
    let spot = linked_is_spot old.origin.request old.working c.args.n shaped.indices shaped.places Plain c.in_ok-block.block (first.linked told c.if-block-eq0.false) c.if-block-eq0.false in
    let none : damage_at mid.working Plain c.args.n c.in_ok-block.block ≡ None = ap (λ (v : View). damage_at v Plain c.args.n c.in_ok-block.block) first.reads.working ∙ no_damage_of old.working Plain c.args.n c.in_ok-block.block spot in
    let met = (c.read_block.ensures.damage told_mid).that d e in
    let h : Some d ≡ None = sym met ∙ none in cc

pub returns-clause-bytes : goal.returns-clause-bytes
returns-clause-bytes g c =
    on_ok_map c.read_block.result (λ ok read told.
    let old = g.S.Store.state c.args.s.now in
    let mid = g.S.Store.state c.block_of.new.s in
    let r = old.origin.request in
    let n = c.args.n in
    let first = c.in_ok-block.ensures in
    let told_mid : Told mid = ap (λ (o : Origin). o.tells) first.called.origin ∙ told in
    let block : c.in_ok-block.block ≡ data_block r old.working n c.args.i = first.block told in
    let none = on_ok_at c.read_block.result ok (c.read_block.ensures.damage told_mid).none in
    let used = used_of Plain (mid.working.blocks c.in_ok-block.block) n (spot_of mid.working Plain n c.in_ok-block.block none) in
    let used_old : is_used old.working (data_block r old.working n c.args.i) ≡ true = (λ t. is_used (sym first.reads.working t) (sym block t)) ∙ used in
    let full = full_bytes r old.working (data_block r old.working n c.args.i) (g.met.S.Store.working_is_view c.args.s.now told c.requires.live) used_old in
    let len = length c.args.out.now in
    let long : length c.read_block.new.out ≡ len = c.read_block.auto.out in
    read told_mid
    ∙ (λ t. slice_range (bytes_in (content_at (first.reads.working t) Plain (block t))) c.args.start (c.args.start + len))
    ∙ part_of_block r old.working n c.args.i c.args.start len c.requires.range full
    ∙ ap (bytes_at r old.working n (c.args.i * r.block_size + c.args.start)) (sym long)) c.read_block.ensures.bytes

pub returns-then-block-eq0-clause-bytes : goal.returns-then-block-eq0-clause-bytes
returns-then-block-eq0-clause-bytes g c told =
    let old = g.S.Store.state c.args.s.now in
    let r = old.origin.request in
    let first = c.in_ok-block.ensures in
    let view = g.met.S.Store.working_is_view c.args.s.now told c.requires.live in
    let absent : data_block r old.working c.args.n c.args.i ≡ 0 = sym (first.block told) ∙ c.if-block-eq0.true in
    let none = ap old.working.blocks absent ∙ unused_zero r old.working view in
    c.fill.ensures.after (λ y e. e)
    ∙ zeros_in_block r old.working c.args.n c.args.i c.args.start (length c.args.out.now) c.requires.range none
    ∙ ap (bytes_at r old.working c.args.n (c.args.i * r.block_size + c.args.start)) (sym c.fill.ensures.len)
