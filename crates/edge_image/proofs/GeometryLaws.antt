-- What the geometry of a master says of its blocks.
use Rattle.std.proofs.Common.{◌≡◌, ℕ, ◌+◌, ◌-◌, ◌/◌, ◌%◌, ◌<◌, ◌≤◌, ◌==◌, ◌||◌, inl, inr, not, Bool, true, false, cond, List, length, drop, Option, Some, None, Ok, Err, refl, sym, ap, ◌∙◌, arith}
use Rattle.std.specs.Prelude.{Result, nat_lt, is_some}
use Rattle.std.proofs.Math.Nat.{le-div_iff_mul-le}
use Rattle.std.proofs.lemmas.Bool.{or_cases, or_parts, eqb-true, ltb-false, not-false}
use Rattle.edge_base.specs.declared.geometry.BadGeometry.{BadGeometry}
use Rattle.edge_base.specs.declared.geometry.BadGeometry.TheVariants.{BlockSize, Blocks, Inodes, NameMax, Pointers, Room}
use Rattle.edge_base.specs.declared.geometry.Request.{Request}
use Rattle.edge_base.specs.declared.node.Master.{Master}
use Rattle.edge_base.specs.declared.node.NodeFault.{NodeFault}
use Rattle.edge_base.specs.declared.node.NodeFault.TheVariants.{WrongSignature, WrongWord, WrongField}
use Rattle.edge_base.specs.layout.Sizes.{is_block_size}
use Rattle.edge_base.specs.layout.Places.{bad_geometry, entries_of, first_allocable_of, allocable_of}
use Rattle.edge_base.specs.tree.Slots.{slots_in_block}
use Rattle.edge_base.specs.layout.Word.{check_word_of}
use Rattle.edge_base.specs.layout.Bytes.{number_at, signature_in, is_zero}
use Rattle.edge_base.specs.layout.Spelling.{master_signature, request_in, master_in}

pub record IsUsable (g : Request) : Type 0 where
  pub long : 512 ≤ g.block_size
  pub some_bytes : 0 < g.block_size
  pub some_slots : 0 < slots_in_block g
  pub few_inodes : g.inodes ≤ 65536
  pub room : first_allocable_of g ≤ g.blocks

-- ---- limits

kept : (broken : Bool) (limit : BadGeometry) (rest : Option BadGeometry) → cond broken (Some limit) rest ≡ None → (broken ≡ false) × (rest ≡ None)
kept false limit rest e = (refl, e)
kept true limit rest e = absurd (let wrong : Some limit ≡ None = e in cc)

least_size : (n : ℕ) → is_block_size n ≡ true → 512 ≤ n
least_size n e = elim (or_cases ((n == 512) || (n == 1024) || (n == 2048)) (n == 4096) e) [
  | inl f ↦ elim (or_cases ((n == 512) || (n == 1024)) (n == 2048) f) [
    | inl h ↦ elim (or_cases (n == 512) (n == 1024) h) [
      | inl k ↦ let is = eqb-true n 512 k in omega arith
      | inr k ↦ let is = eqb-true n 1024 k in omega arith
    ]
    | inr h ↦ let is = eqb-true n 2048 h in omega arith
  ]
  | inr f ↦ let is = eqb-true n 4096 f in omega arith
]

some_slot : (size name_max : ℕ) → 512 ≤ size → name_max ≤ 252 → 0 < size / (4 + name_max)
some_slot size name_max long short = (le-div_iff_mul-le {k = 4 + name_max} {x = 1} {y = size} (omega arith)).1 (omega arith)

behind : (blocks first : ℕ) → 3 ≤ blocks - first → first ≤ blocks
behind blocks first some = omega arith

pub limits : (g : Request) → bad_geometry g ≡ None → IsUsable g
unfolding bad_geometry
limits g e =
    let size = kept (not (is_block_size g.block_size)) BlockSize _ e in
    let blocks = kept (nat_lt 4194304 g.blocks) Blocks _ size.1 in
    let inodes = kept ((g.inodes == 0) || nat_lt 65536 g.inodes) Inodes _ blocks.1 in
    let names = kept (nat_lt g.name_max 12 || nat_lt 252 g.name_max || not (g.name_max % 4 == 0)) NameMax _ inodes.1 in
    let long = least_size g.block_size (not-false (is_block_size g.block_size) size.0) in
    let few = ltb-false 65536 g.inodes (or_parts (g.inodes == 0) (nat_lt 65536 g.inodes) inodes.0).1 in
    let short = ltb-false 252 g.name_max (or_parts (nat_lt g.name_max 12) (nat_lt 252 g.name_max) (or_parts (nat_lt g.name_max 12 || nat_lt 252 g.name_max) (not (g.name_max % 4 == 0)) names.0).0).1 in
    let pointers = kept ((g.direct == 0) || nat_lt (entries_of g) (g.direct + g.indirect)) Pointers _ names.1 in
    let room = ltb-false (allocable_of g) 3 (kept (nat_lt (allocable_of g) 3) Room _ pointers.1).0 in
    record { long = long; some_bytes = omega arith; some_slots = some_slot g.block_size g.name_max long short; few_inodes = few; room = behind g.blocks (first_allocable_of g) room }

-- ---- a master

passed : (wrong : Bool) (fault : NodeFault) (rest : Result Master NodeFault) (m : Master) → cond wrong (Err fault) rest ≡ Ok m → (wrong ≡ false) × (rest ≡ Ok m)
passed true fault rest m e = absurd (let wrong : Err fault ≡ Ok m = e in cc)
passed false fault rest m e = (refl, e)

none : (o : Option BadGeometry) → is_some o ≡ false → o ≡ None
none None e = refl
none (Some x) e = absurd (let wrong : true ≡ false = e in cc)

pub master_geometry : (b : List ℕ) (m : Master) → master_in b ≡ Ok m → bad_geometry m.geometry ≡ None
unfolding master_in
master_geometry b m e =
    let sign = passed (not (signature_in b == master_signature)) WrongSignature _ m e in
    let word = passed (not (number_at 4 4 b == check_word_of (drop 8 b))) WrongWord _ m sign.1 in
    let sequence = passed (not (number_at 8 8 b == 0)) (WrongField 8) _ m word.1 in
    let version = passed (not (number_at 16 4 b == 1)) (WrongField 16) _ m sequence.1 in
    let reserved = passed (not (number_at 20 8 b == 0)) (WrongField 20) _ m version.1 in
    let geometry = passed (is_some (bad_geometry (request_in b))) (WrongField 32) _ m reserved.1 in
    let flags = passed (not (number_at 47 1 b == 1)) (WrongField 47) _ m geometry.1 in
    let rest = passed (not (is_zero 48 (length b) b)) (WrongField 48) _ m flags.1 in
    let same : record { geometry = request_in b; time = number_at 28 4 b } ≡ m = let e = rest.1 in cc in
    ap (λ (n : Master). bad_geometry n.geometry) (sym same) ∙ none (bad_geometry (request_in b)) geometry.0

pub usable : (b : List ℕ) (m : Master) → master_in b ≡ Ok m → IsUsable m.geometry
usable b m e = limits m.geometry (master_geometry b m e)
