use Rattle.std.proofs.Common.{arith, refl}
use Rattle.edge_plain.specs.KeptView.{view_of}
use Rattle.edge_plain.proofs.CountLaws.{counted_taken, moved}
use Rattle.edge_plain.proofs.plain.PlainStoreStore.take.Goals as goal
use Rattle.edge_store.proofs.RoomLaws.{taken_after}
use Rattle.edge_store.specs.Effects.{Taken}

pub overflow_sub-self : goal.overflow_sub-self
overflow_sub-self c = omega (arith, c.args.self.now.counted.now_is, c.requires.room refl)

pub overflow_sub-self-2 : goal.overflow_sub-self-2
overflow_sub-self-2 c =
    let s = c.args.self.now in
    let g = s.working.geometry in
    let c0 = view_of s.committed in
    let v = view_of s.working in
    let w = view_of c.put_block.new.self in
    let b = c.least_free-b.result in
    let taken : Taken g c0 v w c.args.form c.args.owner b = record {
      fresh = c.least_free-b.ensures.fresh;
      working = c.put_block.ensures.working;
      content = c.put_block.ensures.content;
      spells_no_other = c.put_block.ensures.other;
    } in
    omega (arith, s.counted.after_is, taken_after g c0 v w c.args.form c.args.owner b taken)

pub invariant_of-self-clause-counted : goal.invariant_of-self-clause-counted
invariant_of-self-clause-counted c =
    let s = c.args.self.now in
    let g = s.working.geometry in
    let c0 = view_of s.committed in
    let v = view_of s.working in
    let w = view_of c.put_block.new.self in
    let b = c.least_free-b.result in
    let taken : Taken g c0 v w c.args.form c.args.owner b = record {
      fresh = c.least_free-b.ensures.fresh;
      working = c.put_block.ensures.working;
      content = c.put_block.ensures.content;
      spells_no_other = c.put_block.ensures.other;
    } in
    moved g c.put_block.new.self.geometry c0 v v _ _ _ _ _ c.put_block.ensures.geometry s.counted c0 w _ _ _ _ _
    (counted_taken g c0 v w _ _ _ _ _ s.counted c.args.form c.args.owner b taken c.least_free-b.ensures.least)
