use Rattle.std.proofs.Common.{◌≡◌, ◌∙◌, ℕ, ◌+◌, ◌*◌, sym, ap, subst, arith}
use Rattle.std.proofs.Math.Nat.{mul-le-mul_right}
use Rattle.edge_base.specs.declared.geometry.Request.{Request}
use Rattle.edge_base.specs.layout.Places.{IsWithinLimits, max_blocks_of}
use Rattle.edge_cut.proofs.GoLaws.{on_ok_both, on_ok_map}
use Rattle.edge_file.specs.Writing.{LengthensTo, RoomForSize, SetsSize, ShortensTo}
use Rattle.edge_dir.proofs.ClearLaws.{cut_room, cut_slots}
use Rattle.edge_dir.proofs.clearing.cut_blocks.Goals as goal

pub set_size-requires-clause-most : goal.set_size-requires-clause-most
set_size-requires-clause-most g c =
    let r = (g.S.Store.state c.args.s.now).origin.request in
    let same = ap (λ (x : Request). x.block_size) (c.request-limits.ensures.same ∙ c.geometry.ensures) in
    let size : c.slot_number.result ≡ c.args.left * r.block_size + 0 = c.slot_number.ensures ∙ ap (λ (b : ℕ). c.args.left * b + 0) same in
    let most = mul-le-mul_right {m = c.args.left} {n = max_blocks_of r} r.block_size c.requires.most in
    omega (arith, size, most)

pub returns-clause-undamaged : goal.returns-clause-undamaged
returns-clause-undamaged g c told rules room =
    let old = g.S.Store.state c.args.s.now in
    let r = old.origin.request in
    let limits : IsWithinLimits r = subst IsWithinLimits c.geometry.ensures c.request-limits.ensures.limits in
    let same = ap (λ (x : Request). x.block_size) (c.request-limits.ensures.same ∙ c.geometry.ensures) in
    let whole : c.args.left * r.block_size ≡ c.args.left * r.block_size + 0 = omega arith in
    let size : c.args.left * r.block_size ≡ c.slot_number.result = whole ∙ sym (c.slot_number.ensures ∙ ap (λ (b : ℕ). c.args.left * b + 0) same) in
    c.set_size.ensures.undamaged told rules (subst (RoomForSize old c.args.d) size (cut_room old c.args.d c.args.left limits room))

pub returns-clause-untangled : goal.returns-clause-untangled
returns-clause-untangled g c told rules =
    let old = g.S.Store.state c.args.s.now in
    let r = old.origin.request in
    let limits : IsWithinLimits r = subst IsWithinLimits c.geometry.ensures c.request-limits.ensures.limits in
    let same = ap (λ (x : Request). x.block_size) (c.request-limits.ensures.same ∙ c.geometry.ensures) in
    let whole : c.args.left * r.block_size ≡ c.args.left * r.block_size + 0 = omega arith in
    let size : c.args.left * r.block_size ≡ c.slot_number.result = whole ∙ sym (c.slot_number.ensures ∙ ap (λ (b : ℕ). c.args.left * b + 0) same) in
    c.set_size.ensures.untangled_shaped told (rules.0, subst (RoomForSize old c.args.d) size (cut_room old c.args.d c.args.left limits rules.1))

pub returns-clause-ends : goal.returns-clause-ends
returns-clause-ends g c =
    let old = g.S.Store.state c.args.s.now in
    let new = g.S.Store.state c.set_size.new.s in
    let r = old.origin.request in
    let done = c.set_size.ensures in
    let same = ap (λ (x : Request). x.block_size) (c.request-limits.ensures.same ∙ c.geometry.ensures) in
    let whole : c.args.left * r.block_size + 0 ≡ c.args.left * r.block_size = omega arith in
    let size : c.slot_number.result ≡ c.args.left * r.block_size = c.slot_number.ensures ∙ ap (λ (b : ℕ). c.args.left * b + 0) same ∙ whole in
    on_ok_both c.set_size.result (λ (both : SetsSize old new c.args.d c.slot_number.result × ShortensTo old new c.args.d c.slot_number.result) long. record {
      size = subst (SetsSize old new c.args.d) size both.0;
      shortens = subst (ShortensTo old new c.args.d) size both.1;
      lengthens = subst (LengthensTo old new c.args.d) size long;
    }) (on_ok_both c.set_size.result (λ sets cuts. (sets, cuts)) done.sized done.shortened) done.lengthened

pub returns-clause-cut : goal.returns-clause-cut
returns-clause-cut g c =
    let old = g.S.Store.state c.args.s.now in
    let new = g.S.Store.state c.set_size.new.s in
    let r = old.origin.request in
    let limits : IsWithinLimits r = subst IsWithinLimits c.geometry.ensures c.request-limits.ensures.limits in
    on_ok_map c.set_size.result (λ ends.
    cut_slots old c.args.d c.args.left limits new (g.met.S.Store.is_geometry c.args.s.now) (λ told. g.met.S.Store.working_is_view c.args.s.now told c.requires.live)
    ends.size ends.shortens)
    (returns-clause-ends g c)
