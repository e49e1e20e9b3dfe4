-- What is kept in memory is a view.
use Rattle.std.proofs.Common.{◌≡◌, ℕ, ◌+◌, ◌*◌, ◌<◌, ◌≤◌, Bool, true, false, cond, List, length, drop, length-drop, length-take, refl, sym, ap, ◌∙◌, subst, arith, Option, Some, None}
use Rattle.std.specs.Prelude.{is_some, Ok}
use Rattle.std.proofs.lemmas.Bool.Decides.{nat_tests}
use Rattle.std.proofs.Math.Nat.{mul-le-mul_right}
use Rattle.std.proofs.lemmas.List.Elements.{All-get_or}
use Rattle.edge_base.specs.declared.damage.Damage.{Damage}
use Rattle.edge_base.specs.declared.form.Form.{Form}
use Rattle.edge_base.specs.declared.form.Form.TheVariants.{Plain, Indirect, Double}
use Rattle.edge_base.specs.declared.geometry.Request.{Request}
use Rattle.edge_base.specs.declared.node.Head.{Head}
use Rattle.edge_base.specs.layout.Places.{entries_of, pointers_of, first_allocable_of, allocable_of}
use Rattle.edge_base.specs.layout.Spelling.{PointerNode}
use Rattle.edge_store.specs.View.{View, IsView, is_head, is_head_or_none, whole, broken, Block, pointers, content, is_allocable, is_number}
use Rattle.edge_plain.specs.Kept.{row, block_kept, inode_kept}
use Rattle.edge_plain.specs.KeptView.{view_of}
use Rattle.edge_plain.specs.declared.plain_view.PlainView.{PlainView}

pub length-row : {X : Type 0} (size : ℕ) (xs : List X) (b : ℕ) → b * size + size ≤ length xs → length (row size xs b) ≡ size
length-row size xs b fits = omega (arith, length-take size (drop (b * size) xs), length-drop (b * size) xs)

pub rows_apart : (b c size : ℕ) → c < b → c * size + size ≤ b * size
rows_apart b c size h =
    let step : (c + 1) * size ≤ b * size = mul-le-mul_right size (omega arith) in
    let together : (c + 1) * size ≡ c * size + size = grind arith in
    omega arith

pub row_fits : (b n size : ℕ) → b < n → b * size + size ≤ n * size
row_fits b n size h = rows_apart n b size h

inside : (g : Request) (b : ℕ) → is_allocable g b ≡ true → (first_allocable_of g ≤ b) × (b < first_allocable_of g + allocable_of g)
inside g b h =
    let low : first_allocable_of g ≤ b = grind (arith, nat_tests) in
    let high : b < first_allocable_of g + allocable_of g = grind (arith, nat_tests) in
    (low, high)

only : {X : Type 0} (t : Bool) (o : Option X) (x : X) → cond t o None ≡ Some x → (t ≡ true) × (o ≡ Some x)
only true o x e = (refl, e)
only false o x e = absurd (cc)

some_only : {X : Type 0} (t : Bool) (o : Option X) → is_some (cond t o None) ≡ true → t ≡ true
some_only true o e = refl
some_only false o e = absurd (let f : false ≡ true = e in cc)

kept_entries : (o : Option Head) (es : List ℕ) (head : Head) (entries : List ℕ) → inode_kept o es ≡ Some (whole head entries) → entries ≡ es
kept_entries None es head entries e = absurd (cc)
kept_entries (Some old) es head entries e = let f : Some (whole old es) ≡ Some (whole head entries) = e in cc

kept_rules : (o : Option Head) (es : List ℕ) (head : Head) (entries : List ℕ)
    → inode_kept o es ≡ Some (whole head entries) → is_head_or_none o ≡ true → is_head head ≡ true
kept_rules None es head entries e rules = absurd (cc)
kept_rules (Some old) es head entries e rules = let f : Some (whole old es) ≡ Some (whole head entries) = e in
    let same : old ≡ head = cc in subst (λ (x : Head). is_head x ≡ true) same rules

never_broken : (o : Option Head) (es : List ℕ) (d : Damage) → inode_kept o es ≡ Some (broken d) → ⊥
never_broken None es d e = cc
never_broken (Some old) es d e = let f : Some (whole old es) ≡ Some (broken d) = e in cc

kept_bytes : (f : Option Form) (owner : ℕ) (ps bs : List ℕ) (block : Block) → block_kept f owner ps bs ≡ Some block → block.bytes ≡ bs
kept_bytes None owner ps bs block e = absurd (cc)
kept_bytes (Some form) owner ps bs block e = ap bytes_of (sym e) ∙ by_form form
  where
    bytes_of : Option Block → List ℕ
    bytes_of None = bs
    bytes_of (Some b) = b.bytes

    by_form : (f : Form) → bytes_of (block_kept (Some f) owner ps bs) ≡ bs
    by_form Plain = refl
    by_form Indirect = refl
    by_form Double = refl

-- the entries of a pointer node are the row of its block
node_entries : (form : Form) (f : Option Form) (owner : ℕ) (ps bs : List ℕ) (node : PointerNode)
    → content form (block_kept f owner ps bs) ≡ pointers (Ok node) → node.entries ≡ ps
node_entries form None owner ps bs node e = absurd (cc)
node_entries Plain (Some Plain) owner ps bs node e = absurd (cc)
node_entries Plain (Some Indirect) owner ps bs node e = absurd (cc)
node_entries Plain (Some Double) owner ps bs node e = absurd (cc)
node_entries Indirect (Some Plain) owner ps bs node e = absurd (cc)
node_entries Indirect (Some Indirect) owner ps bs node e =
    let f : pointers (Ok (record { owner = owner; entries = ps })) ≡ pointers (Ok node) = e in
    let same : record { owner = owner; entries = ps } ≡ node = cc in
    ap (λ (x : PointerNode). x.entries) (sym same)
node_entries Indirect (Some Double) owner ps bs node e = absurd (cc)
node_entries Double (Some Plain) owner ps bs node e = absurd (cc)
node_entries Double (Some Indirect) owner ps bs node e = absurd (cc)
node_entries Double (Some Double) owner ps bs node e =
    let f : pointers (Ok (record { owner = owner; entries = ps })) ≡ pointers (Ok node) = e in
    let same : record { owner = owner; entries = ps } ≡ node = cc in
    ap (λ (x : PointerNode). x.entries) (sym same)

content_only : (form : Form) (t : Bool) (o : Option Block) (node : PointerNode)
    → content form (cond t o None) ≡ pointers (Ok node) → (t ≡ true) × (content form o ≡ pointers (Ok node))
content_only form true o node e = (refl, e)
content_only form false o node e = absurd (cc)

module _ (h : PlainView) where
  abbrev g : Request
  g = h.geometry

  abbrev v : View
  v = view_of h

  in_numbers : (n : ℕ) → is_number g n ≡ true → (2 ≤ n) × (n < 2 + g.inodes)
  in_numbers n e =
      let low : 2 ≤ n = grind (arith, nat_tests) in
      let high : n < 2 + g.inodes = grind (arith, nat_tests) in
      (low, high)

  in_blocks : (b : ℕ) → is_allocable g b ≡ true → b < g.blocks
  in_blocks b e = let i = inside g b e in let l = h.limits in omega (arith, l.room)

  pub kept_is_view : IsView g v
  kept_is_view = record {
    numbers = λ n there. some_only (is_number g n) _ there;
    full_inodes = λ n head entries e.
        let o = only (is_number g n) _ _ e in
        let fits = row_fits n (2 + g.inodes) (entries_of g) (in_numbers n o.0).1 in
        ap length (kept_entries _ _ head entries o.1) ∙ length-row (entries_of g) h.entries.items n (omega (arith, fits, h.entries_length));
    heads = λ n head entries e.
        let o = only (is_number g n) _ _ e in
        let low : n < length h.heads.items = (let i = in_numbers n o.0 in omega (arith, h.heads_length)) in
        kept_rules _ _ head entries o.1 (All-get_or (λ found. is_head_or_none found ≡ true) h.heads.items n None low h.heads_kept);
    broken_inodes = λ n d e. absurd (never_broken _ _ d (only (is_number g n) _ _ e).1);
    allocable = λ b used. some_only (is_allocable g b) _ used;
    full_blocks = λ b block e.
        let o = only (is_allocable g b) _ _ e in
        let fits = row_fits b g.blocks g.block_size (in_blocks b o.0) in
        ap length (kept_bytes _ _ _ _ block o.1) ∙ length-row g.block_size h.bytes.items b (omega (arith, fits, h.bytes_length));
    full_nodes = λ form b node e.
        let o = content_only form (is_allocable g b) _ node e in
        let fits = row_fits b g.blocks (pointers_of g) (in_blocks b o.0) in
        ap length (node_entries form _ _ _ _ node o.1) ∙ length-row (pointers_of g) h.pointers.items b (omega (arith, fits, h.pointers_length));
  }

-- the same of an equal geometry
pub kept_is_view_at : (v : PlainView) (g : Request) → v.geometry ≡ g → IsView g (view_of v)
kept_is_view_at v g same = subst (λ (r : Request). IsView r (view_of v)) same (kept_is_view v)
