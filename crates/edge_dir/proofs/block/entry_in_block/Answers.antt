use Rattle.std.proofs.Common.{◌≡◌, ◌∙◌, ℕ, ◌<◌, ◌+◌, ◌*◌, List, length, take, sym, ap, subst, arith}
use Rattle.std.specs.Prelude.{Err}
use Rattle.std.proofs.lemmas.Result.{err_from_is_err_and}
use Rattle.edge_base.specs.declared.form.Form.TheVariants.{Plain}
use Rattle.edge_base.specs.declared.geometry.Request.{Request}
use Rattle.edge_base.specs.layout.Places.{IsWithinLimits}
use Rattle.edge_base.specs.outside.Below.{Origin}
use Rattle.edge_base.specs.tree.NodeRules.{IsEntry}
use Rattle.edge_base.specs.tree.Slots.{slot_blocks}
use Rattle.edge_store.specs.State.{Told}
use Rattle.edge_store.specs.View.{content_at}
use Rattle.edge_moves.proofs.SlotLaws.{some_pointers_fit}
use Rattle.edge_slots.specs.Block.{HasWrong}
use Rattle.edge_slots.specs.Slot.{HasEntry, IsEmpty, IsSlot, IsWrong, entry_of}
use Rattle.edge_slots.proofs.DirectoryLaws.{name_short}
use Rattle.edge_file.proofs.AnswerLaws.{same_fault}
use Rattle.edge_file.proofs.StepLaws.{some_bytes}
use Rattle.edge_dir.proofs.EndLaws.{block_most, slot_within}
use Rattle.edge_dir.proofs.SlotLaws.{none_wrong}
use Rattle.edge_dir.proofs.ViewLaws.{blocks_are, slot_of_part, slots_are, wrong_of}
use Rattle.edge_dir.proofs.BoundLaws.{some_name}
use Rattle.edge_dir.proofs.block.entry_in_block.Goals as goal

pub overflow_mul-at : goal.overflow_mul-at
overflow_mul-at g c =
    let r = (g.S.Store.state c.args.s.now).origin.request in
    let limits : IsWithinLimits r = subst IsWithinLimits c.geometry-g.ensures c.request-within_limits.ensures.limits in
    let wide : c.slot_width-width.result ≡ 4 + r.name_max = c.slot_width-width.ensures.width ∙ ap (λ (x : Request). 4 + x.name_max) c.geometry-g.ensures in
    let same : c.args.k * c.slot_width-width.result ≡ c.args.k * (4 + r.name_max) = ap (λ (x : ℕ). c.args.k * x) wide in
    let fits = slot_within r c.args.k c.requires.slot in
    let most = block_most r limits in
    omega (arith, fits, same, most)

pub read_part-requires-clause-range : goal.read_part-requires-clause-range
read_part-requires-clause-range g c =
    let r = (g.S.Store.state c.args.s.now).origin.request in
    let wide : c.slot_width-width.result ≡ 4 + r.name_max = c.slot_width-width.ensures.width ∙ ap (λ (x : Request). 4 + x.name_max) c.geometry-g.ensures in
    let same : c.args.k * c.slot_width-width.result ≡ c.args.k * (4 + r.name_max) = ap (λ (x : ℕ). c.args.k * x) wide in
    let fits = slot_within r c.args.k c.requires.slot in
    omega (arith, fits, same, wide, c.requires.width)

pub returns-in_err-block-clause-undamaged : goal.returns-in_err-block-clause-undamaged
returns-in_err-block-clause-undamaged g c told slots parent node d e =
    let p = err_from_is_err_and c.from_residual.result c.from_residual.ensures.1 in
    c.in_err-block.ensures.undamaged told slots parent node d (ap Err (sym p.2) ∙ same_fault _ _ (sym p.1 ∙ e))

pub wrong_slot-requires-clause-wrong : goal.wrong_slot-requires-clause-wrong
wrong_slot-requires-clause-wrong g c told =
    let old = g.S.Store.state c.args.s.now in
    let r = old.origin.request in
    let first = c.in_ok-block.ensures in
    let told_old : Told old = ap (λ (o : Origin). o.tells) (sym first.called.origin) ∙ told in
    let end = c.requires.end told_old in
    let part = first.part told_old in
    let wide : c.slot_width-width.result ≡ 4 + r.name_max = c.slot_width-width.ensures.width ∙ ap (λ (x : Request). 4 + x.name_max) c.geometry-g.ensures in
    let here = slot_of_part r part.0 c.read_part.new.out c.args.k _ (ap (λ (x : ℕ). c.args.k * x) wide) (c.read_part.auto.out ∙ c.requires.width) part.3 in
    let bad : HasWrong r part.0 = record {
      slot = c.args.k;
      in_range = c.requires.slot;
      wrong = subst (IsWrong r) here (subst (λ (x : Request). IsWrong x c.read_part.new.out) c.geometry-g.ensures c.in-Err.ensures.wrong);
    } in
    rw (first.called.origin, first.reads.working) (wrong_of r old.working c.args.d c.args.i part.0 c.in_ok-block.block end.0 end.1 end.2 c.requires.index part.1 bad)

pub returns-in-Err-clause-undamaged : goal.returns-in-Err-clause-undamaged
returns-in-Err-clause-undamaged g c told slots parent node d e =
    let old = g.S.Store.state c.args.s.now in
    let r = old.origin.request in
    let first = c.in_ok-block.ensures in
    let end = c.requires.end told in
    let part = first.part told in
    let wide : c.slot_width-width.result ≡ 4 + r.name_max = c.slot_width-width.ensures.width ∙ ap (λ (x : Request). 4 + x.name_max) c.geometry-g.ensures in
    let here = slot_of_part r part.0 c.read_part.new.out c.args.k _ (ap (λ (x : ℕ). c.args.k * x) wide) (c.read_part.auto.out ∙ c.requires.width) part.3 in
    let bad : HasWrong r part.0 = record {
      slot = c.args.k;
      in_range = c.requires.slot;
      wrong = subst (IsWrong r) here (subst (λ (x : Request). IsWrong x c.read_part.new.out) c.geometry-g.ensures c.in-Err.ensures.wrong);
    } in
    let some = some_bytes r (some_pointers_fit r (g.met.S.Store.is_geometry c.args.s.now)) in
    let low : c.args.i < slot_blocks r slots = omega (arith, blocks_are r old.working c.args.d slots parent node end.0 end.1 some, end.3) in
    let content = ap (content_at old.working Plain) part.1.block ∙ part.1.content in
    none_wrong r slots c.args.i part.0 node.rules.entries (slots_are r old.working c.args.d slots parent node c.args.i part.0 low content) bad

pub put_first-len-requires-clause-fits : goal.put_first-len-requires-clause-fits
put_first-len-requires-clause-fits g c =
    let r = (g.S.Store.state c.args.s.now).origin.request in
    let has : HasEntry c.geometry-g.result c.read_part.new.out c.in-Ok-Some.entry.name.now c.in-Ok-Some.entry.number =
    subst (IsSlot c.geometry-g.result c.read_part.new.out) c.in-Ok-Some.field-0-is c.in-Ok-Some.ensures.slot in
    let short = name_short c.geometry-g.result c.in-Ok-Some.entry.name.now has.allowed.name in
    let most = c.request-within_limits.ensures.limits.name_max in
    omega (arith, short, most, c.requires.list)

pub returns-in-Ok-Some-clause-entry : goal.returns-in-Ok-Some-clause-entry
returns-in-Ok-Some-clause-entry g c told =
    let old = g.S.Store.state c.args.s.now in
    let r = old.origin.request in
    let part = c.in_ok-block.ensures.part told in
    let wide : c.slot_width-width.result ≡ 4 + r.name_max = c.slot_width-width.ensures.width ∙ ap (λ (x : Request). 4 + x.name_max) c.geometry-g.ensures in
    let here = slot_of_part r part.0 c.read_part.new.out c.args.k _ (ap (λ (x : ℕ). c.args.k * x) wide) (c.read_part.auto.out ∙ c.requires.width) part.3 in
    let has : HasEntry c.geometry-g.result c.read_part.new.out c.in-Ok-Some.entry.name.now c.in-Ok-Some.entry.number =
    subst (IsSlot c.geometry-g.result c.read_part.new.out) c.in-Ok-Some.field-0-is c.in-Ok-Some.ensures.slot in
    let put : c.in-Ok-Some.entry.name.now ≡ take c.put_first-len.result c.put_first-len.new.list =
    sym c.put_first-len.ensures.bytes ∙ ap (λ (n : ℕ). take n c.put_first-len.new.list) (sym c.put_first-len.ensures.len) in (
      part.0,
      ap (content_at old.working Plain) part.1.block ∙ part.1.content,
      (
        subst (λ (l : List ℕ). HasEntry r l (take c.put_first-len.result c.put_first-len.new.list) c.in-Ok-Some.entry.number) here
            (subst (λ (x : Request). HasEntry x c.read_part.new.out (take c.put_first-len.result c.put_first-len.new.list) c.in-Ok-Some.entry.number) c.geometry-g.ensures
            (subst (λ (l : List ℕ). HasEntry c.geometry-g.result c.read_part.new.out l c.in-Ok-Some.entry.number) put has)),
        ap length (sym put) ∙ sym c.put_first-len.ensures.len,
      ),
    )

pub returns-in-Ok-None-clause-entry : goal.returns-in-Ok-None-clause-entry
returns-in-Ok-None-clause-entry g c told =
    let old = g.S.Store.state c.args.s.now in
    let r = old.origin.request in
    let part = c.in_ok-block.ensures.part told in
    let wide : c.slot_width-width.result ≡ 4 + r.name_max = c.slot_width-width.ensures.width ∙ ap (λ (x : Request). 4 + x.name_max) c.geometry-g.ensures in
    let here = slot_of_part r part.0 c.read_part.new.out c.args.k _ (ap (λ (x : ℕ). c.args.k * x) wide) (c.read_part.auto.out ∙ c.requires.width) part.3 in
    let empty : IsEmpty c.geometry-g.result c.read_part.new.out = subst (IsSlot c.geometry-g.result c.read_part.new.out) c.in-Ok-None.field-0-is c.in-Ok-None.ensures.slot in (
      part.0,
      ap (content_at old.working Plain) part.1.block ∙ part.1.content,
      subst (IsEmpty r) here (subst (λ (x : Request). IsEmpty x c.read_part.new.out) c.geometry-g.ensures empty),
    )

pub returns-in-Ok-Some-clause-within : goal.returns-in-Ok-Some-clause-within
returns-in-Ok-Some-clause-within g c =
    let r = (g.S.Store.state c.args.s.now).origin.request in
    let name = c.in-Ok-Some.entry.name.now in
    let has : HasEntry c.geometry-g.result c.read_part.new.out name c.in-Ok-Some.entry.number = subst (IsSlot c.geometry-g.result c.read_part.new.out) c.in-Ok-Some.field-0-is c.in-Ok-Some.ensures.slot in
    let put : name ≡ take c.put_first-len.result c.put_first-len.new.list =
    sym c.put_first-len.ensures.bytes ∙ ap (λ (n : ℕ). take n c.put_first-len.new.list) (sym c.put_first-len.ensures.len) in
    let least = some_name c.geometry-g.result name has.allowed.name in
    let short = name_short c.geometry-g.result name has.allowed.name in
    let most = ap (λ (x : Request). x.name_max) c.geometry-g.ensures in
    record {
      allowed = subst (λ (x : Request). IsEntry x (entry_of (take c.put_first-len.result c.put_first-len.new.list) c.in-Ok-Some.entry.number)) c.geometry-g.ensures
          (subst (λ (l : List ℕ). IsEntry c.geometry-g.result (entry_of l c.in-Ok-Some.entry.number)) put has.allowed);
      least = omega (arith, least, c.put_first-len.ensures.len);
      most = omega (arith, short, most, c.put_first-len.ensures.len);
    }
