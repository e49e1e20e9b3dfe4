use Rattle.std.proofs.Common.{ℕ, List, sym, subst, arith}
use Rattle.edge_base.specs.layout.Bytes.{number_at, numbers_at}
use Rattle.edge_base.specs.layout.Places.{entries_of}
use Rattle.edge_base.specs.layout.Spelling.{SpellsInode}
use Rattle.edge_nodes.specs.Writing.{IsSealed}
use Rattle.edge_point.proofs.FindLaws.{whole_back}
use Rattle.edge_point.proofs.set.rewrite_head.Goals as goal

pub returns-clause-spelled : goal.returns-clause-spelled
returns-clause-spelled g c = λ r was spells.
    let p = c.args.p.now in
    let entries = numbers_at 32 (entries_of r) p.block.items in
    let back = whole_back p.block.len c.change_head.new.b p.block.items (omega arith) p.block.ok.0 in (
      c.saturating_add-sequence.result,
      λ node sealed. c.change_head.ensures.spelled r (number_at 8 8 p.block.items) was entries node
          (subst (λ (x : List ℕ). SpellsInode r (number_at 8 8 p.block.items) was entries x) (sym c.deref_mut.ensures.value) spells)
          (subst (λ (x : List ℕ). IsSealed x node) back sealed),
    )
