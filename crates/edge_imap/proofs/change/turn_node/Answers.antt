use Rattle.std.proofs.Common.{◌≡◌, ℕ, Bool, refl, sym, ap, subst, ◌∙◌, arith}
use Rattle.std.specs.Prelude.{not}
use Rattle.edge_base.specs.layout.Bytes.{bit_in, number_at}
use Rattle.edge_base.specs.layout.Places.{imap_place_of}
use Rattle.edge_cache.specs.Calls.{content_in}
use Rattle.edge_imap.specs.Bitmaps.{HoldsBit, IsNode, node_of, spare_place}
use Rattle.edge_imap.specs.Reading.{OnlyWrites}
use Rattle.edge_imap.proofs.CallLaws.{reads_same, why_passed, why_after}
use Rattle.edge_imap.proofs.TieLaws.{on_err, same_flags, other_flags, not_self}
use Rattle.edge_imap.proofs.change.turn_node.Goals as goal

pub get-second-requires : goal.get-second-requires
get-second-requires g c = omega (arith, c.node_of_bit-node.ensures.in_range, c.requires.committed.len, c.node_of_bit-node.ensures.fits)

pub get-requires : goal.get-requires
get-requires g c = omega (arith, c.node_of_bit-node.ensures.in_range, c.requires.working.len, c.node_of_bit-node.ensures.fits)

pub returns-in_err-change_first-clause-fault : goal.returns-in_err-change_first-clause-fault
returns-in_err-change_first-clause-fault g c = on_err c.from_residual.result c.in_err-change_first.ensures.fault

pub returns-in_err-change_first-clause-unmoved : goal.returns-in_err-change_first-clause-unmoved
returns-in_err-change_first-clause-unmoved g c = on_err c.from_residual.result c.in_err-change_first.ensures.unmoved

pub returns-in_err-change_first-clause-cause : goal.returns-in_err-change_first-clause-cause
returns-in_err-change_first-clause-cause g c =
    let live = HoldsBit c.args.g.now c.args.working.now c.args.change.bit in
    why_after g.D.Disk live live c.args.cache.now c.args.cache.now c.change_first.new.cache c.change_first.result _ c.in_err-change_first.field-0.0 (λ k h. h) (reads_same g.D.Disk c.args.cache.now) refl
    c.change_first.ensures.cause c.in_err-change_first.was c.from_residual.ensures

pub returns-then-second-get-clause-turns : goal.returns-then-second-get-clause-turns
returns-then-second-get-clause-turns g c =
    let geometry = c.args.g.now in
    let n = node_of geometry c.args.change.bit in
    let node = c.node_of_bit-node.ensures.node in
    let same : bit_in 0 c.args.working.now n ≡ bit_in 0 c.args.committed.now n
    = ap (bit_in 0 c.args.working.now) (sym node) ∙ sym c.get.ensures ∙ sym (same_flags c.get-second.result c.get.result c.if-second-get.true) ∙ c.get-second.ensures ∙ ap (bit_in 0 c.args.committed.now) node in
    let spare : spare_place geometry c.args.working.now n ≡ spare_place geometry c.args.committed.now n = ap (λ (t : Bool). imap_place_of geometry n (not t)) same in
    let did = c.in_ok-change_first.ensures in
    record {
      writes = subst (λ (b : ℕ). OnlyWrites g.D.Disk b c.args.cache.now c.change_first.new.cache) spare did.writes;
      place = did.turned ∙ ap not same;
      places = did.stays;
      first = λ tells e. ap (λ (b : ℕ). number_at 8 8 (content_in g.D.Disk c.change_first.new.cache b)) (sym spare) ∙ did.sequence tells;
      again = λ tells e. absurd (not_self (bit_in 0 c.args.committed.now n) (sym same ∙ e));
      bits = did.bits;
      node = λ tells was. subst (λ (b : ℕ). IsNode geometry n (content_in g.D.Disk c.change_first.new.cache b)) (ap (imap_place_of geometry n) (sym did.turned)) (did.node tells was);
    }

pub returns-then-second-get-clause-cause : goal.returns-then-second-get-clause-cause
returns-then-second-get-clause-cause g c = why_passed g.D.Disk (HoldsBit c.args.g.now c.args.working.now c.args.change.bit) _ _ _ c.in_ok-change_first.ensures.cause.passed

pub returns-in_err-change_again-clause-fault : goal.returns-in_err-change_again-clause-fault
returns-in_err-change_again-clause-fault g c = on_err c.from_residual-in_err-change_again.result c.in_err-change_again.ensures.fault

pub returns-in_err-change_again-clause-unmoved : goal.returns-in_err-change_again-clause-unmoved
returns-in_err-change_again-clause-unmoved g c = on_err c.from_residual-in_err-change_again.result refl

pub returns-in_err-change_again-clause-cause : goal.returns-in_err-change_again-clause-cause
returns-in_err-change_again-clause-cause g c =
    let live = HoldsBit c.args.g.now c.args.working.now c.args.change.bit in
    why_after g.D.Disk live live c.args.cache.now c.args.cache.now c.change_again.new.cache c.change_again.result _ c.in_err-change_again.field-0.0 (λ k h. h) (reads_same g.D.Disk c.args.cache.now) refl
    c.change_again.ensures.cause c.in_err-change_again.was c.from_residual-in_err-change_again.ensures

pub returns-clause-turns : goal.returns-clause-turns
returns-clause-turns g c =
    let geometry = c.args.g.now in
    let n = node_of geometry c.args.change.bit in
    let node = c.node_of_bit-node.ensures.node in
    let other : bit_in 0 c.args.working.now n ≡ not (bit_in 0 c.args.committed.now n)
    = ap (bit_in 0 c.args.working.now) (sym node) ∙ sym c.get.ensures ∙ other_flags c.get-second.result c.get.result c.if-second-get.false ∙ ap not (c.get-second.ensures ∙ ap (bit_in 0 c.args.committed.now) node) in
    let did = c.in_ok-change_again.ensures in
    record {
      writes = subst (λ (b : ℕ). OnlyWrites g.D.Disk b c.args.cache.now c.change_again.new.cache) (ap (imap_place_of geometry n) other) did.writes;
      place = other;
      places = λ j far. refl;
      first = λ tells e. absurd (not_self (bit_in 0 c.args.committed.now n) (sym e ∙ other));
      again = λ tells e. did.sequence tells;
      bits = did.bits;
      node = did.node;
    }

pub returns-clause-cause : goal.returns-clause-cause
returns-clause-cause g c = why_passed g.D.Disk (HoldsBit c.args.g.now c.args.working.now c.args.change.bit) _ _ _ c.in_ok-change_again.ensures.cause.passed
