use Rattle.std.proofs.Common.{◌≡◌, ◌∙◌, ap, sym, [], true, refl, None, ℕ, false}
use Rattle.edge_base.specs.declared.geometry.Request.{Request}
use Rattle.edge_base.specs.layout.Places.{inode_place_of}
use Rattle.edge_plain.specs.KeptView.{view_of}
use Rattle.edge_plain.proofs.CountLaws.{as_number, copied_enough, counted_copied, moved}
use Rattle.edge_plain.proofs.plain.PlainStoreStore.copy.Goals as goal
use Rattle.edge_store.specs.Effects.{Copied}
use Rattle.edge_store.specs.View.{is_used, with_block}
use Rattle.edge_store.proofs.CallLaws.{called_ok}
use Rattle.edge_store.proofs.ViewLaws.{apart_of, copied_of, spot_of, used_of}

pub overflow_sub-self : goal.overflow_sub-self
overflow_sub-self c =
    let s = c.args.self.now in
    let g = s.working.geometry in
    let c0 = view_of s.committed in
    let v = view_of s.working in
    let w = view_of c.drop_block.new.self in
    let b = c.least_free-b.result in
    let from = c.args.s.block in
    let met = sym c.damage.ensures ∙ c.in_default.is in
    let used : is_used v from ≡ true = used_of c.args.s.form (v.blocks from) c.args.s.owner (spot_of v c.args.s.form c.args.s.owner from met) in
    let copied : Copied g c0 v w c.args.s.form from b = copied_of g c0 v w c.args.s.form from b c.least_free-b.ensures.fresh
    (apart_of v c.args.s.form c.args.s.owner from b met c.least_free-b.ensures.fresh.unused) (c.drop_block.ensures.view ∙ ap (λ u. with_block u from None) c.copy_block.ensures.view) in
    copied_enough g c0 v w _ _ _ _ _ s.counted c.args.s.form from b _ used c.requires.block copied c.least_free-b.ensures.least refl (c.requires.room refl) c.from.result
    (c.from.ensures ∙ as_number _ _ c.is_used.ensures)

pub invariant_of-self-clause-counted : goal.invariant_of-self-clause-counted
invariant_of-self-clause-counted c =
    let s = c.args.self.now in
    let g = s.working.geometry in
    let c0 = view_of s.committed in
    let v = view_of s.working in
    let w = view_of c.drop_block.new.self in
    let b = c.least_free-b.result in
    let from = c.args.s.block in
    let met = sym c.damage.ensures ∙ c.in_default.is in
    let used : is_used v from ≡ true = used_of c.args.s.form (v.blocks from) c.args.s.owner (spot_of v c.args.s.form c.args.s.owner from met) in
    let copied : Copied g c0 v w c.args.s.form from b = copied_of g c0 v w c.args.s.form from b c.least_free-b.ensures.fresh
    (apart_of v c.args.s.form c.args.s.owner from b met c.least_free-b.ensures.fresh.unused) (c.drop_block.ensures.view ∙ ap (λ u. with_block u from None) c.copy_block.ensures.view) in
    moved g c.drop_block.new.self.geometry c0 v v _ _ _ _ _ (c.drop_block.ensures.geometry ∙ c.copy_block.ensures.geometry) s.counted c0 w _ _ _ _ _
    (counted_copied g c0 v w _ _ _ _ _ s.counted c.args.s.form from b c.least_after-self.result used c.requires.block copied c.least_free-b.ensures.least c.least_after-self.ensures c.from.result
    (c.from.ensures ∙ as_number _ _ c.is_used.ensures))

pub returns-clause-copied : goal.returns-clause-copied
returns-clause-copied c told =
    let s = c.args.self.now in
    let v = view_of s.working in
    let b = c.least_free-b.result in
    let from = c.args.s.block in
    copied_of s.working.geometry (view_of s.committed) v (view_of c.drop_block.new.self) c.args.s.form from b c.least_free-b.ensures.fresh
    (apart_of v c.args.s.form c.args.s.owner from b (sym c.damage.ensures ∙ c.in_default.is) c.least_free-b.ensures.fresh.unused)
    (c.drop_block.ensures.view ∙ ap (λ u. with_block u from None) c.copy_block.ensures.view)

pub returns-clause-called : goal.returns-clause-called
returns-clause-called c =
    let geometry : c.drop_block.new.self.geometry ≡ c.args.self.now.working.geometry = c.drop_block.ensures.geometry ∙ c.copy_block.ensures.geometry in
    called_ok _ _ _ (λ i. record { request = geometry i; tells = true; others = [] }) c.requires.live refl refl (λ h. h)

pub returns-clause-places : goal.returns-clause-places
returns-clause-places c = let at : Request → ℕ → ℕ = λ g n. inode_place_of g n false in ap at (c.drop_block.ensures.geometry ∙ c.copy_block.ensures.geometry)
