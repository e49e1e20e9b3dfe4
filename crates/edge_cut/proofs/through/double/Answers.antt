use Rattle.std.proofs.Common.{◌≡◌, ℕ, true, sym, ap, ◌∙◌, subst, arith}
use Rattle.edge_base.specs.declared.form.Form.TheVariants.{Indirect, Double}
use Rattle.edge_store.specs.Placed.{entry_at, pointer_at}
use Rattle.edge_store.specs.State.{Told}
use Rattle.edge_store.specs.View.{View}
use Rattle.edge_cut.specs.Dropped.{has_pointer}
use Rattle.edge_cut.proofs.SizeLaws.{entries_most, pointers_most}
use Rattle.edge_cut.proofs.through.double.Goals as goal

pub overflow_add-result : goal.overflow_add-result
overflow_add-result g c = let most = entries_most (g.S.Store.state c.args.s.now).origin.request (g.met.S.Store.is_geometry c.args.s.now) in omega (arith, most, c.requires.entry)

pub join-requires-clause-entry : goal.join-requires-clause-entry
join-requires-clause-entry g c = let most = entries_most (g.S.Store.state c.args.s.now).origin.request (g.met.S.Store.is_geometry c.args.s.now) in omega (arith, most, c.requires.entry)

pub join-requires-clause-outer : goal.join-requires-clause-outer
join-requires-clause-outer g c = let most = pointers_most (g.S.Store.state c.args.s.now).origin.request (g.met.S.Store.is_geometry c.args.s.now) in omega (arith, most, c.requires.outer)

pub returns-clause-some : goal.returns-clause-some
returns-clause-some g c told =
    let old = g.S.Store.state c.args.s.now in
    let n = c.args.n in
    let block = c.in_ok-block.block in
    let node = c.in_ok-node.node in
    let first = c.in_ok-block.ensures in
    let second = c.in_ok-node.ensures in
    let third = c.in_ok-within.ensures in
    let told_one : Told (g.S.Store.state c.entry_link.new.s) = ap (λ o. o.tells) first.called.origin ∙ told in
    let told_two : Told (g.S.Store.state c.pointer_link.new.s) = ap (λ o. o.tells) second.called.origin ∙ told_one in
    let told_three : Told (g.S.Store.state c.inner.new.s) = ap (λ o. o.tells) third.called.origin ∙ told_two in
    let top : block ≡ entry_at old.working n c.args.entry = first.entry told in
    let is : node ≡ pointer_at old.working Double (entry_at old.working n c.args.entry) c.args.outer =
    second.pointer told_one ∙ ap (λ (u : View). pointer_at u Double block c.args.outer) first.reads.working ∙ ap (λ (b : ℕ). pointer_at old.working Double b c.args.outer) top in (
      λ there. subst (λ (b : ℕ). has_pointer old.working Double b ≡ true) top
          (subst (λ (u : View). has_pointer u Double block ≡ true) (third.reads.working ∙ second.reads.working ∙ first.reads.working) (c.in_ok-around.ensures.some told_three)),
      λ part there. subst (λ (b : ℕ). has_pointer old.working Indirect b ≡ true) is
          (subst (λ (u : View). has_pointer u Indirect node ≡ true) (second.reads.working ∙ first.reads.working) (third.some told_two part (λ none. there (sym is ∙ none)))),
    )
