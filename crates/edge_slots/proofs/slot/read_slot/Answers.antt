use Rattle.std.proofs.Common.{◌∙◌, ℕ, ◌==◌, List, length, drop, sym, ap, arith}
use Rattle.std.proofs.lemmas.Bool.{false≢true}
use Rattle.edge_slots.proofs.SlotLaws.{parts_of, any_zero, spells, spells_none, entry_reads, none_reads, none_before, not_other, allowed_from, empty_list, name_fits, name_bytes}
use Rattle.edge_slots.proofs.slot.read_slot.Goals as goal
use Rattle.edge_slots.proofs.slot.read_slot.Goals.{else-number-eq0-via-then-number-eq0+else-is_empty, else-number-eq0-via-else-number-eq0}

pub returns-then-not-is_zero-clause-wrong : goal.returns-then-not-is_zero-clause-wrong
returns-then-not-is_zero-clause-wrong c =
    let parts = parts_of c.args.bytes.now c.split_at.result.0.now c.split_at.result.1.now c.split_at-2.result.0.now c.split_at-2.result.1.now c.read_u32-number.result c.first_zero.result
    c.split_at.ensures.front c.split_at.ensures.back c.read_u32-number.ensures c.first_zero.ensures.place c.split_at-2.ensures.front c.split_at-2.ensures.back in
    record {
      not_empty = λ is. let r = none_reads c.args.g.now c.args.bytes.now c.read_u32-number.result c.split_at-2.result.0.now c.split_at-2.result.1.now parts is in absurd (cc (r.rest_is, c.is_zero.ensures));
      no_entry = λ e allowed is. let r = entry_reads c.args.g.now c.args.bytes.now c.read_u32-number.result c.split_at-2.result.0.now c.split_at-2.result.1.now e c.request-within_limits.ensures.limits parts allowed is in absurd (cc (r.rest_is, c.is_zero.ensures));
    }

pub returns-then-is_empty-clause-slot : goal.returns-then-is_empty-clause-slot
returns-then-is_empty-clause-slot c =
    let parts = parts_of c.args.bytes.now c.split_at.result.0.now c.split_at.result.1.now c.split_at-2.result.0.now c.split_at-2.result.1.now c.read_u32-number.result c.first_zero.result
    c.split_at.ensures.front c.split_at.ensures.back c.read_u32-number.ensures c.first_zero.ensures.place c.split_at-2.ensures.front c.split_at-2.ensures.back in
    spells_none c.args.g.now c.args.bytes.now c.read_u32-number.result c.split_at-2.result.0.now c.split_at-2.result.1.now c.requires.width (λ k. omega (arith, c.type_inv.bytes k)) parts (omega arith) (empty_list c.split_at-2.result.0.now (sym c.is_empty.ensures ∙ c.if-is_empty.true)) (sym c.is_zero.ensures ∙ c.if-not-is_zero.false)

pub is_bad-requires : goal.is_bad-requires
is_bad-requires c =
    let parts = parts_of c.args.bytes.now c.split_at.result.0.now c.split_at.result.1.now c.split_at-2.result.0.now c.split_at-2.result.1.now c.read_u32-number.result c.first_zero.result
    c.split_at.ensures.front c.split_at.ensures.back c.read_u32-number.ensures c.first_zero.ensures.place c.split_at-2.ensures.front c.split_at-2.ensures.back in
    ap any_zero parts.name_is ∙ none_before (drop 4 c.args.bytes.now)

pub returns-then-is_bad-clause-wrong : goal.returns-then-is_bad-clause-wrong
returns-then-is_bad-clause-wrong c =
    let parts = parts_of c.args.bytes.now c.split_at.result.0.now c.split_at.result.1.now c.split_at-2.result.0.now c.split_at-2.result.1.now c.read_u32-number.result c.first_zero.result
    c.split_at.ensures.front c.split_at.ensures.back c.read_u32-number.ensures c.first_zero.ensures.place c.split_at-2.ensures.front c.split_at-2.ensures.back in
    record {
      not_empty = λ is. let r = none_reads c.args.g.now c.args.bytes.now c.read_u32-number.result c.split_at-2.result.0.now c.split_at-2.result.1.now parts is in
          elim c.else-number-eq0.branch [
            | else-number-eq0-via-then-number-eq0+else-is_empty w ↦ false≢true (sym w.if-is_empty.false ∙ w.is_empty.ensures ∙ ap (λ (l : List ℕ). length l == 0) r.name_is)
            | else-number-eq0-via-else-number-eq0 w ↦ absurd (omega (arith, r.number_is))
          ];
      no_entry = λ e allowed is. let r = entry_reads c.args.g.now c.args.bytes.now c.read_u32-number.result c.split_at-2.result.0.now c.split_at-2.result.1.now e c.request-within_limits.ensures.limits parts allowed is in
          absurd (cc (c.is_bad.ensures, c.if-is_bad.true, not_other c.args.g.now e allowed, r.number_is, r.name_is));
    }

pub returns-clause-slot : goal.returns-clause-slot
returns-clause-slot c =
    let parts = parts_of c.args.bytes.now c.split_at.result.0.now c.split_at.result.1.now c.split_at-2.result.0.now c.split_at-2.result.1.now c.read_u32-number.result c.first_zero.result
    c.split_at.ensures.front c.split_at.ensures.back c.read_u32-number.ensures c.first_zero.ensures.place c.split_at-2.ensures.front c.split_at-2.ensures.back in
    record {
      spelled = spells c.args.g.now c.args.bytes.now c.read_u32-number.result c.split_at-2.result.0.now c.split_at-2.result.1.now c.requires.width (λ k. omega (arith, c.type_inv.bytes k)) parts (sym c.is_zero.ensures ∙ c.if-not-is_zero.false);
      allowed = allowed_from c.args.g.now c.read_u32-number.result c.split_at-2.result.0.now (sym c.is_bad.ensures ∙ c.if-is_bad.false)
          (name_fits c.args.bytes.now c.read_u32-number.result c.args.g.now.name_max c.split_at-2.result.0.now c.split_at-2.result.1.now c.requires.width parts)
          (name_bytes c.args.bytes.now c.read_u32-number.result c.split_at-2.result.0.now c.split_at-2.result.1.now (λ k. omega (arith, c.type_inv.bytes k)) parts);
    }
