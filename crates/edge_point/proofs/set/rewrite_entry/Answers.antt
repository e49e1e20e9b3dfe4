use Rattle.std.proofs.Common.{◌≡◌, ◌∙◌, ℕ, List, length, sym, ap, subst, arith}
use Rattle.edge_base.specs.layout.Bytes.{number_at, numbers_at}
use Rattle.edge_base.specs.layout.Places.{entries_of}
use Rattle.edge_base.specs.layout.Spelling.{SpellsInode}
use Rattle.edge_mount.proofs.WholeLaws.{length-back}
use Rattle.edge_nodes.specs.Writing.{IsSealed}
use Rattle.edge_point.proofs.FindLaws.{whole_back}
use Rattle.edge_point.proofs.set.rewrite_entry.Goals as goal

pub returns-clause-spelled : goal.returns-clause-spelled
returns-clause-spelled g c = λ r was spells.
    let p = c.args.p.now in
    let entries = numbers_at 32 (entries_of r) p.block.items in
    let seq = c.saturating_add-sequence.result in
    let items = p.block.items in
    let len_1 : length c.change_sequence.new.b ≡ length items = omega arith in
    let back = whole_back p.block.len c.change_sequence.new.b items len_1 p.block.ok.0 in
    let len_2 : length c.seal.new.b ≡ length c.deref_mut-2.result.now = omega arith in
    let same_2 = len_2 ∙ ap length c.deref_mut-2.ensures.value in
    let all_2 = p.block.ok.0 ∙ sym (length-back p.block.len c.change_sequence.new.b items len_1 p.block.ok.0) in
    let back_2 = whole_back p.block.len c.seal.new.b _ same_2 all_2 in
    let len_3 : length c.change_entry.new.b ≡ length c.deref_mut-3.result.now = omega arith in
    let same_3 = len_3 ∙ ap length c.deref_mut-3.ensures.value in
    let all_3 = all_2 ∙ sym (length-back p.block.len c.seal.new.b _ same_2 all_2) in
    let back_3 = whole_back p.block.len c.change_entry.new.b _ same_3 all_3 in
    let first : SpellsInode r seq was entries c.seal.new.b = c.change_sequence.ensures.spelled.inode r (number_at 8 8 p.block.items) was entries c.seal.new.b
    (subst (λ (x : List ℕ). SpellsInode r (number_at 8 8 p.block.items) was entries x) (sym c.deref_mut.ensures.value) spells)
    (subst (λ (x : List ℕ). IsSealed x c.seal.new.b) (c.deref_mut-2.ensures.value ∙ back) c.seal.ensures) in (
      seq,
      λ node sealed. c.change_entry.ensures.spelled r seq was entries node
          (subst (λ (x : List ℕ). SpellsInode r seq was entries x) (sym (c.deref_mut-3.ensures.value ∙ back_2)) first)
          (subst (λ (x : List ℕ). IsSealed x node) back_3 sealed),
    )
