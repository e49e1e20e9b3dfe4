use Rattle.std.proofs.Common.{◌∙◌, ap, arith, ◌^◌, ◌-◌, min, ℕ, ◌≡◌, ◌*◌}
use Rattle.edge_bits.proofs.WordLaws.{HasBits-and, HasBits-not, HasBits-lowest, HasBits-same, HasBits-inside, bounds_both}
use Rattle.edge_bits.proofs.words.within.Goals as goal

pub returns-then-first-end : goal.returns-then-first-end
returns-then-first-end c = HasBits-inside c.args.from c.args.end c.args.w (omega arith) (omega arith)

pub returns : goal.returns
returns c =
    let below_from : c.saturating_sub.result ≡ c.args.from - 64 * c.args.w = omega arith in
    let below_end : c.saturating_sub-2.result ≡ c.args.end - 64 * c.args.w = omega arith in
    HasBits-same (bounds_both c.args.from c.args.end)
    (HasBits-and
    (HasBits-not c.lowest.type_inv (HasBits-lowest c.args.from c.args.w c.lowest.result (c.lowest.ensures ∙ ap (λ (n : ℕ). 2 ^ min n 64 - 1) below_from)))
    (HasBits-lowest c.args.end c.args.w c.lowest-2.result (c.lowest-2.ensures ∙ ap (λ (n : ℕ). 2 ^ min n 64 - 1) below_end)))
