use Rattle.std.proofs.Common.{◌≡◌, ℕ, ◌<◌, ◌==◌, Bool, false, List, length, Bor, sym, ap, ◌∙◌, arith}
use Rattle.std.specs.Prelude.{option_map}
use Rattle.std.proofs.lemmas.Bool.Decides.{nat_tests}
use Rattle.edge_script.specs.Bytes.{bytes_in}
use Rattle.edge_script.proofs.CodeLaws.{in_front_none, one_more, next_byte, front_short}
use Rattle.edge_script.proofs.path.read_bytes.Goals as goal

pub loop-rest-init : goal.loop-rest-init
loop-rest-init c = record { within = omega arith; told = in_front_none (bytes_in c.args.word.now) }

some_left : (n : ℕ) (r : Bool) → r ≡ (n == 0) → r ≡ false → 0 < n
some_left n r test is = grind (arith, nat_tests)

pub loop-rest-preserved : goal.loop-rest-preserved
loop-rest-preserved c =
    let rest = c.loop-rest.rest.now in
    let front = sym c.read_front.ensures ∙ ap (option_map (λ (front : ℕ × Bor (List ℕ)). (front.0, front.1.now))) c.in_ok-b.was in
    let shorter : length c.in_ok-b.behind.now < length rest = front_short rest (c.in_ok-b.b, c.in_ok-b.behind.now) front in
    let within = c.loop-rest.invariant.within in
    record {
      within = omega arith;
      told = one_more (bytes_in c.args.word.now) c.loop-rest.out c.loop-rest.len c.in_ok-b.b (bytes_in rest) (bytes_in c.in_ok-b.behind.now)
          (omega arith) c.loop-rest.invariant.told
          (next_byte rest c.in_ok-b.behind.now c.in_ok-b.b (omega arith) front);
    }
