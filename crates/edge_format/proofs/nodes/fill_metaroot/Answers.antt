use Rattle.std.proofs.Common.{◌≡◌, ℕ, ◌-◌, ◌∷◌, cond, replicate, refl, ap, ◌∙◌, arith}
use Rattle.edge_base.specs.layout.Places.{is_inline_of}
use Rattle.edge_nodes.proofs.GeometryLaws.{geometry_long}
use Rattle.edge_format.proofs.NodeLaws.{bool_byte-cond, front_bits, other_root_bits, has_metaroot}
use Rattle.edge_format.proofs.nodes.fill_metaroot.Goals as goal

pub encode_metaroot-requires-clause-unused : goal.encode_metaroot-requires-clause-unused
encode_metaroot-requires-clause-unused c =
    let g = c.args.g.now in
    let same = ap (λ r. r.block_size) c.request-request.ensures.same in
    let long = geometry_long g c.request-request.ensures.geometry in
    let size = c.request-request.result.block_size in
    let first : c.from.result ≡ cond {A = ℕ} (is_inline_of g) 1 0 = bool_byte-cond c.is_inline.result (is_inline_of g) c.from.result c.from.ensures c.is_inline.ensures in
    λ i from below. other_root_bits g (size - 33) _ c.request-request.ensures.geometry
    (front_bits c.from.result (size - 32) (size - 33) 4063 (let least = long.least in omega arith) (let most = long.most in omega arith) ∙ ap (λ (x : ℕ). x ∷ replicate (size - 33) 0) first) i from

pub returns : goal.returns
returns c =
    let g = c.args.g.now in
    let request = c.request-request.ensures.same in
    let same = ap (λ r. r.block_size) request in
    let long = geometry_long g c.request-request.ensures.geometry in
    let size = c.request-request.result.block_size in
    let first : c.from.result ≡ cond {A = ℕ} (is_inline_of g) 1 0 = bool_byte-cond c.is_inline.result (is_inline_of g) c.from.result c.from.ensures c.is_inline.ensures in
    has_metaroot g _ _ _ (size - 33) c.encode_metaroot.ensures
    (λ i. record { sequence = 1; free_blocks = c.allocable.ensures.count i; free_inodes = (request i).inodes - 1; next = c.first_allocable.ensures i })
    (front_bits c.from.result (size - 32) (size - 33) 4063 (let least = long.least in omega arith) (let most = long.most in omega arith) ∙ ap (λ (x : ℕ). x ∷ replicate (size - 33) 0) first)
