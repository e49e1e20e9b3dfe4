use Rattle.std.proofs.Common.{◌≡◌, ℕ, ◌-◌, ◌==◌, ◌∷◌, cond, replicate, refl, ap, ◌∙◌, arith}
use Rattle.edge_nodes.proofs.GeometryLaws.{geometry_long}
use Rattle.edge_format.proofs.NodeLaws.{bool_byte-cond, front_bits, other_node_bits, has_imap}
use Rattle.edge_format.proofs.nodes.fill_imap.Goals as goal

pub encode_imap-requires-clause-unused : goal.encode_imap-requires-clause-unused
encode_imap-requires-clause-unused c =
    let g = c.args.g.now in
    let node = c.args.node in
    let same = ap (λ r. r.block_size) c.request.ensures.same in
    let long = geometry_long g c.request.ensures.geometry in
    let size = c.request.result.block_size in
    let first : c.from.result ≡ cond {A = ℕ} (node == 0) 1 0 = bool_byte-cond (node == 0) (node == 0) c.from.result c.from.ensures refl in
    λ i from below. other_node_bits g node (size - 17) _ c.request.ensures.geometry
    (front_bits c.from.result (size - 16) (size - 17) 4079 (let least = long.least in omega arith) (let most = long.most in omega arith) ∙ ap (λ (x : ℕ). x ∷ replicate (size - 17) 0) first) i from

pub returns : goal.returns
returns c =
    let g = c.args.g.now in
    let node = c.args.node in
    let same = ap (λ r. r.block_size) c.request.ensures.same in
    let long = geometry_long g c.request.ensures.geometry in
    let size = c.request.result.block_size in
    let first : c.from.result ≡ cond {A = ℕ} (node == 0) 1 0 = bool_byte-cond (node == 0) (node == 0) c.from.result c.from.ensures refl in
    has_imap g node _ _ (size - 17) c.encode_imap.ensures
    (front_bits c.from.result (size - 16) (size - 17) 4079 (let least = long.least in omega arith) (let most = long.most in omega arith) ∙ ap (λ (x : ℕ). x ∷ replicate (size - 17) 0) first)
