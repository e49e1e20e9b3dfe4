use Rattle.std.proofs.Common.{◌≡◌, ◌∙◌, ◌⊎◌, inl, inr, ◌==◌, ◌<◌, ◌*◌, ◌^◌, ℕ, zero, suc, not, min, sym, ap, arith, bit_and, zero-mul, one-mul}
use Rattle.std.specs.Int.{bit_at}
use Rattle.std.proofs.lemmas.Bool.{eqb-true, eq-eqb}
use Rattle.std.proofs.lemmas.Bool.Decides.{nat_tests}
use Rattle.std.proofs.lemmas.Nat.{pow_pos}
use Rattle.std.proofs.lemmas.Nat.Bits.{bit_at_and, bit_at-lt, and_pow, same_from_bits}
use Rattle.edge_base.specs.commands.Events.{Event, umount, create, unlink, mkdir, rename, link, close, write, fsync, truncate, full, bit_of, has_event}
use Rattle.edge_mask.specs.Mask.{mask_of, HasAll}
use Rattle.edge_mask.proofs.Events.has.Goals as goal

every : (mask events : ℕ) → bit_and mask events ≡ events → HasAll mask events
every mask events e i set = omega (arith, bit_at_and mask events i, ap (λ (x : ℕ). bit_at x i) e, bit_at-lt mask i)

same_bit : (a b : ℕ) → a < 2 → b < 2 → (b ≡ 1 → a ≡ 1) → min a b ≡ b
same_bit a b la lb h = grind arith

all : (mask events : ℕ) → HasAll mask events → bit_and mask events ≡ events
all mask events h = same_from_bits (bit_and mask events) events
    (λ i. bit_at_and mask events i ∙ same_bit (bit_at mask i) (bit_at events i) (bit_at-lt mask i) (bit_at-lt events i) (h i))

either : (x b : ℕ) → 0 < b → (x ≡ 0) ⊎ (x ≡ b) → (x == b) ≡ not (x == 0)
either x b pos e = grind (arith, nat_tests)

times : (bit b : ℕ) → bit < 2 → (bit * b ≡ 0) ⊎ (bit * b ≡ b)
times zero b lt = inl (zero-mul b)
times (suc zero) b lt = inr (one-mul b)
times (suc (suc bit)) b lt = absurd (omega arith)

one : (mask k : ℕ) → (bit_and mask (2 ^ k) == 2 ^ k) ≡ not (bit_and mask (2 ^ k) == 0)
one mask k = either (bit_and mask (2 ^ k)) (2 ^ k) (pow_pos k) (elim (times (bit_at mask k) (2 ^ k) (bit_at-lt mask k)) [ inl z ↦ inl (and_pow mask k ∙ z) | inr s ↦ inr (and_pow mask k ∙ s) ])

event_bit : (mask : ℕ) (e : Event) → (bit_and mask (bit_of e) == bit_of e) ≡ has_event mask e
event_bit mask umount = one mask 0
event_bit mask create = one mask 1
event_bit mask unlink = one mask 2
event_bit mask mkdir = one mask 3
event_bit mask rename = one mask 4
event_bit mask link = one mask 5
event_bit mask close = one mask 6
event_bit mask write = one mask 7
event_bit mask fsync = one mask 8
event_bit mask truncate = one mask 9
event_bit mask full = one mask 10

pub returns-clause-every : goal.returns-clause-every
returns-clause-every c =
    let is = c.contains.ensures tt in
    (λ yes. every (mask_of c.args.self.now) (mask_of c.args.event) (eqb-true _ _ (sym is ∙ yes)), λ h. is ∙ eq-eqb _ _ (all (mask_of c.args.self.now) (mask_of c.args.event) h))

pub returns-clause-one : goal.returns-clause-one
returns-clause-one c = λ e is.
    c.contains.ensures tt ∙ ap (λ (n : ℕ). bit_and (mask_of c.args.self.now) n == n) is ∙ event_bit (mask_of c.args.self.now) e
