use Rattle.std.proofs.Common.{◌≡◌, ◌∙◌, not, true, refl, sym, ap, arith, ℕ, false}
use Rattle.edge_base.specs.declared.geometry.Request.{Request}
use Rattle.edge_base.specs.layout.Places.{inode_place_of}
use Rattle.edge_plain.specs.KeptView.{view_of}
use Rattle.edge_plain.proofs.CountLaws.{as_number, counted_dropped, moved, free_now-few, free_after-few}
use Rattle.edge_plain.proofs.EndLaws.{ended_with}
use Rattle.edge_plain.proofs.plain.PlainStoreStore.drop_block.Goals as goal
use Rattle.edge_store.specs.View.{is_used}
use Rattle.edge_store.proofs.ViewLaws.{spot_of, used_of}

pub returns-in-Some-clause-damage : goal.returns-in-Some-clause-damage
returns-in-Some-clause-damage c told = ended_with c.args.self.now c.end.new.self _ c.in-Some.damage c.end.result (sym c.damage.ensures ∙ c.in-Some.is) c.end.ensures.told c.end.ensures.working

pub overflow_add-self : goal.overflow_add-self
overflow_add-self c =
    let s = c.args.self.now in
    let g = s.working.geometry in
    let v = view_of s.working in
    let b = c.args.s.block in
    let used : is_used v b ≡ true = used_of c.args.s.form (v.blocks b) c.args.s.owner (spot_of v c.args.s.form c.args.s.owner b (sym c.damage.ensures ∙ c.in_default.is)) in
    let k = counted_dropped g (view_of s.committed) v (view_of c.drop_block.new.self) _ _ _ _ _ s.counted b _ used c.requires.block c.drop_block.ensures.view refl c.from.result
    (c.from.ensures ∙ as_number _ _ (ap not c.is_used.ensures)) in
    omega (arith, s.working.limits.blocks, k.now_is, free_now-few g (view_of s.committed) (view_of c.drop_block.new.self))

pub overflow_add-self-2 : goal.overflow_add-self-2
overflow_add-self-2 c =
    let s = c.args.self.now in
    let g = s.working.geometry in
    let v = view_of s.working in
    let b = c.args.s.block in
    let used : is_used v b ≡ true = used_of c.args.s.form (v.blocks b) c.args.s.owner (spot_of v c.args.s.form c.args.s.owner b (sym c.damage.ensures ∙ c.in_default.is)) in
    let k = counted_dropped g (view_of s.committed) v (view_of c.drop_block.new.self) _ _ _ _ _ s.counted b _ used c.requires.block c.drop_block.ensures.view refl c.from.result
    (c.from.ensures ∙ as_number _ _ (ap not c.is_used.ensures)) in
    omega (arith, s.working.limits.blocks, k.after_is, free_after-few g (view_of c.drop_block.new.self))

pub invariant_of-self-clause-counted : goal.invariant_of-self-clause-counted
invariant_of-self-clause-counted c =
    let s = c.args.self.now in
    let g = s.working.geometry in
    let c0 = view_of s.committed in
    let v = view_of s.working in
    let w = view_of c.drop_block.new.self in
    let b = c.args.s.block in
    let used : is_used v b ≡ true = used_of c.args.s.form (v.blocks b) c.args.s.owner (spot_of v c.args.s.form c.args.s.owner b (sym c.damage.ensures ∙ c.in_default.is)) in
    moved g c.drop_block.new.self.geometry c0 v v _ _ _ _ _ c.drop_block.ensures.geometry s.counted c0 w _ _ _ _ _
    (counted_dropped g c0 v w _ _ _ _ _ s.counted b c.least_after-self.result used c.requires.block c.drop_block.ensures.view c.least_after-self.ensures c.from.result (c.from.ensures ∙ as_number _ _ (ap not c.is_used.ensures)))

pub returns-clause-places : goal.returns-clause-places
returns-clause-places c = let at : Request → ℕ → ℕ = λ g n. inode_place_of g n false in ap at (c.drop_block.ensures.geometry)
