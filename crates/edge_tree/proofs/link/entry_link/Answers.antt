use Rattle.std.proofs.Common.{◌≡◌, ◌∙◌, sym, ap, true, false, refl, ℕ}
use Rattle.std.proofs.lemmas.Result.{err_from_is_err_and}
use Rattle.std.specs.Prelude.{slice_index, Err}
use Rattle.edge_base.specs.outside.Below.{Origin}
use Rattle.edge_store.specs.Damages.{form_of_entry}
use Rattle.edge_store.specs.Placed.{entry_at}
use Rattle.edge_store.specs.State.{Told}
use Rattle.edge_store.specs.View.{is_link, is_whole, entries_of_inode}
use Rattle.edge_store.proofs.DamageLaws.{tells_of_inode, wrong_in_inode}
use Rattle.edge_store.proofs.ViewLaws.{whole_of}
use Rattle.edge_tree.proofs.KindLaws.{inode_untangled}
use Rattle.edge_tree.proofs.LinkLaws.{entry_linked, link_of_link}
use Rattle.edge_tree.proofs.link.entry_link.Goals as goal

pub returns-in_err-b-clause-damage : goal.returns-in_err-b-clause-damage
returns-in_err-b-clause-damage g c told d e =
    let met = tells_of_inode _ (g.S.Store.state c.entry.new.self) (Err c.in_err-b.field-0.0) c.in_err-b.ensures.called c.in_err-b.ensures.point c.args.n
    (g.met.S.Store.working_is_view c.args.s.now told c.requires.live) (c.in_err-b.ensures.damage told) in
    let p = err_from_is_err_and c.from_residual.result c.from_residual.ensures.1 in
    met d (ap Err (sym p.2) ∙ sym p.1 ∙ e)

pub returns-then-is_good-clause-linked : goal.returns-then-is_good-clause-linked
returns-then-is_good-clause-linked g c told there =
    let old = g.S.Store.state c.args.s.now in
    entry_linked old.origin.request old.working c.args.n c.args.i _ c.requires.entry (c.in_ok-b.ensures.entry told)

pub report-requires-clause-holds : goal.report-requires-clause-holds
report-requires-clause-holds g c told =
    let old = g.S.Store.state c.args.s.now in
    let mid = g.S.Store.state c.entry.new.self in
    let new = g.S.Store.state c.inode_block.new.self in
    let first = c.in_ok-b.ensures in
    let second = c.in_ok-block.ensures in
    let told_mid : Told mid = ap (λ (o : Origin). o.tells) (sym second.called.origin) ∙ told in
    let told_old : Told old = ap (λ (o : Origin). o.tells) (sym first.called.origin) ∙ told_mid in
    let is : is_whole (old.working.inodes c.args.n) ≡ true = whole_of _ (first.damage told_old).none (c.requires.there told_old) in
    let origin : new.origin ≡ old.origin = second.called.origin ∙ first.called.origin in
    let working : new.working ≡ old.working = second.reads.working ∙ first.reads.working in
    let places : new.places ≡ old.places = second.reads.places ∙ first.reads.places in
    let block : c.in_ok-block.block ≡ old.places c.args.n = second.place told_mid ∙ ap (λ (p : ℕ → ℕ). p c.args.n) first.reads.places in
    let wrong : is_link old.origin.request (slice_index (entries_of_inode (old.working.inodes c.args.n)) c.args.i) ≡ false =
    ap (is_link old.origin.request) (sym (first.entry told_old)) ∙ ap (λ (o : Origin). is_link o.request c.in_ok-b.b) (sym first.called.origin) ∙ sym c.is_good.ensures ∙ c.if-is_good.false in
    rw (origin, working, places) (wrong_in_inode old.origin.request old.places old.working c.args.n c.args.i _ is block wrong)

pub returns-clause-undamaged : goal.returns-clause-undamaged
returns-clause-undamaged g c told is sound =
    let old = g.S.Store.state c.args.s.now in
    let first = c.in_ok-b.ensures in
    let view = g.met.S.Store.working_is_view c.args.s.now told c.requires.live in
    let good = link_of_link old.origin.request old.working c.args.n sound view (form_of_entry old.origin.request c.args.i) (entry_at old.working c.args.n c.args.i)
    (entry_linked old.origin.request old.working c.args.n c.args.i _ c.requires.entry refl) in
    let bad : is_link old.origin.request (entry_at old.working c.args.n c.args.i) ≡ false =
    ap (is_link old.origin.request) (sym (first.entry told)) ∙ ap (λ (o : Origin). is_link o.request c.in_ok-b.b) (sym first.called.origin) ∙ sym c.is_good.ensures ∙ c.if-is_good.false in
    λ d e. let h : true ≡ false = sym good ∙ bad in cc

pub returns-in_err-b-clause-untangled : goal.returns-in_err-b-clause-untangled
returns-in_err-b-clause-untangled g c told d e =
    let old = g.S.Store.state c.args.s.now in
    let p = err_from_is_err_and c.from_residual.result c.from_residual.ensures.1 in
    inode_untangled old (g.S.Store.state c.entry.new.self) c.args.n (Err c.in_err-b.field-0.0) (g.met.S.Store.working_is_view c.args.s.now told c.requires.live) (c.in_err-b.ensures.damage told) d (ap Err (sym p.2) ∙ sym p.1 ∙ e)

pub returns-clause-good : goal.returns-clause-good
returns-clause-good g c told is good =
    let old = g.S.Store.state c.args.s.now in
    let first = c.in_ok-b.ensures in
    let bad : is_link old.origin.request (entry_at old.working c.args.n c.args.i) ≡ false =
    ap (is_link old.origin.request) (sym (first.entry told)) ∙ ap (λ (o : Origin). is_link o.request c.in_ok-b.b) (sym first.called.origin) ∙ sym c.is_good.ensures ∙ c.if-is_good.false in
    λ d e. let h : true ≡ false = sym good ∙ bad in cc
