use Rattle.std.proofs.Common.{◌≡◌, ◌≢◌, ℕ, true, ◌∙◌, sym, ap, subst, None}
use Rattle.std.proofs.lemmas.Result.{err_from_is_err_and}
use Rattle.std.specs.Prelude.{Err}
use Rattle.edge_base.specs.declared.form.Form.TheVariants.{Double}
use Rattle.edge_store.specs.State.{Told}
use Rattle.edge_store.specs.View.{View, is_allocable}
use Rattle.edge_store.proofs.DamageLaws.{tells_of_spot}
use Rattle.edge_store.proofs.ViewLaws.{with_block_here}
use Rattle.edge_cut.proofs.BelowLaws.{not_zero}
use Rattle.edge_cut.proofs.LastLaws.{at_entry_linked}
use Rattle.edge_cut.proofs.drop.drop_one.Goals as goal

pub returns-in_err-drop_block-clause-damage : goal.returns-in_err-drop_block-clause-damage
returns-in_err-drop_block-clause-damage g c told d e =
    let old = g.S.Store.state c.args.s.now in
    let at = c.args.at in
    let failed = c.in_err-drop_block.ensures in
    let p = err_from_is_err_and c.from_residual.result c.from_residual.ensures.1 in
    tells_of_spot old (g.S.Store.state c.drop_block.new.self) (Err c.in_err-drop_block.field-0.0) failed.called failed.point at.owner at.form at.block
    c.requires.block (c.requires.linked told (not_zero old.origin.request at.block c.requires.block)) (failed.damage told) d (ap Err (sym p.2) ∙ sym p.1 ∙ e)

pub lost-requires-clause-lost : goal.lost-requires-clause-lost
lost-requires-clause-lost g c told =
    let old = g.S.Store.state c.args.s.now in
    let new = g.S.Store.state c.drop_block.new.self in
    let at = c.args.at in
    let done = c.in_ok-drop_block.ensures in
    let told_old : Told old = ap (λ o. o.tells) (sym done.called.origin) ∙ told in
    let is : at.block ≡ c.args.top = c.if-at-top.true in
    let some : c.args.top ≢ 0 = λ none. not_zero old.origin.request at.block c.requires.block (is ∙ none) in
    let dropped = done.dropped told_old in
    let linked = at_entry_linked old.origin.request old.working new.working at.owner Double c.args.top (c.requires.top told_old some) (ap (λ (u : View). u.inodes) dropped) in
    let unused : new.working.blocks c.args.top ≡ None = ap new.working.blocks (sym is) ∙ ap (λ (u : View). u.blocks at.block) dropped ∙ with_block_here old.working at.block None in
    rw done.called.origin (record {
      number = at.owner;
      form = Double;
      allocable = subst (λ (b : ℕ). is_allocable old.origin.request b ≡ true) is c.requires.block;
      linked = linked;
      unused = unused;
    })
