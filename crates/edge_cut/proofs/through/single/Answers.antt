use Rattle.std.proofs.Common.{◌≡◌, ℕ, true, ap, ◌∙◌, subst, arith}
use Rattle.edge_base.specs.declared.form.Form.TheVariants.{Indirect}
use Rattle.edge_store.specs.State.{Told}
use Rattle.edge_store.specs.View.{View}
use Rattle.edge_cut.specs.Dropped.{has_pointer}
use Rattle.edge_cut.proofs.SizeLaws.{entries_most}
use Rattle.edge_cut.proofs.through.single.Goals as goal

pub overflow_add-result : goal.overflow_add-result
overflow_add-result g c = let most = entries_most (g.S.Store.state c.args.s.now).origin.request (g.met.S.Store.is_geometry c.args.s.now) in omega (arith, most, c.requires.entry)

pub overflow_add-result-then-not-sides : goal.overflow_add-result-then-not-sides
overflow_add-result-then-not-sides g c = let most = entries_most (g.S.Store.state c.args.s.now).origin.request (g.met.S.Store.is_geometry c.args.s.now) in omega (arith, most, c.requires.entry)

pub returns-clause-some : goal.returns-clause-some
returns-clause-some g c told part there =
    let old = g.S.Store.state c.args.s.now in
    let first = c.in_ok-block.ensures in
    let told_mid : Told (g.S.Store.state c.entry_link.new.s) = ap (λ o. o.tells) first.called.origin ∙ told in
    subst (λ (b : ℕ). has_pointer old.working Indirect b ≡ true) (first.entry told)
    (subst (λ (u : View). has_pointer u Indirect c.in_ok-block.block ≡ true) first.reads.working (c.in_ok-sides.ensures.some told_mid))
