-- A view that is kept in lists, after a change in them.
use Rattle.std.proofs.Common.{◌≡◌, ◌≢◌, ℕ, ◌+◌, ◌*◌, ◌<◌, ◌≤◌, Bool, true, false, cond, List, length, get_or, replicate, refl, sym, ap, ◌∙◌, arith, inl, inr, Option, Some, None}
use Rattle.std.specs.Prelude.{is_some, is_none, slice_index, slice_index_or, slice_set, nat_eq, Ok, Err}
use Rattle.std.specs.Map.{update}
use Rattle.std.proofs.lemmas.Bool.{cases_eq, cases_lt, eqb-true}
use Rattle.std.proofs.lemmas.List.{get_or-replicate, get_or_past}
use Rattle.std.proofs.Math.ListN.{length-replicate}
use Rattle.std.proofs.lemmas.Bool.Decides.{nat_tests}
use Rattle.std.proofs.lemmas.Map.{update_here, update_apart}
use Rattle.edge_base.specs.declared.form.Form.{Form}
use Rattle.edge_base.specs.declared.form.Form.TheVariants.{Plain, Indirect, Double}
use Rattle.edge_base.specs.declared.geometry.Request.{Request}
use Rattle.edge_base.specs.declared.node.Head.{Head}
use Rattle.edge_base.specs.declared.node.NodeFault.TheVariants.{WrongSignature}
use Rattle.edge_base.specs.layout.Places.{entries_of, pointers_of}
use Rattle.edge_store.specs.View.{no_view, Inode, Block, bytes, pointers, content, content_at, entries_in, empty_content, is_allocable, is_number, is_spot, is_owned_by, with_block, with_inode, with_head, with_entry, bytes_in, head_of_inode}
use Rattle.edge_plain.specs.Kept.{row, block_kept, inode_kept, inode_in, block_in, view_in}
use Rattle.edge_store.specs.Effects.{PointerSet, BytesSet, put_in}
use borrow.Rule.Slice.PartMut.{put_mid}
use Rattle.edge_plain.proofs.RowLaws.{row-get, row-set_here, row-set_apart}
use Rattle.edge_plain.proofs.RangeLaws.{row-put_here, row-put_apart}

chosen : {X : Type 0} (t : Bool) (x y : X) → t ≡ true → cond t x y ≡ x
chosen t x y e = λ i. cond (e i) x y

module _ (g : Request) where
  inodes_changed : (heads heads2 : List (Option Head)) (entries entries2 : List ℕ) (n : ℕ) (v : Option Inode) → is_number g n ≡ true
      → ((k : ℕ) → k ≢ n → slice_index_or heads2 k None ≡ slice_index_or heads k None) → ((k : ℕ) → k ≢ n → row (entries_of g) entries2 k ≡ row (entries_of g) entries k)
      → inode_kept (slice_index_or heads2 n None) (row (entries_of g) entries2 n) ≡ v → (k : ℕ) → inode_in g heads2 entries2 k ≡ update nat_eq (inode_in g heads entries) n v k
  inodes_changed heads heads2 entries entries2 n v number same_heads same_entries here k = elim (cases_eq k n) [
    | inl e ↦ ap (inode_in g heads2 entries2) e ∙ chosen (is_number g n) _ None number ∙ here ∙ sym (ap (update nat_eq (inode_in g heads entries) n v) e ∙ update_here (inode_in g heads entries) n v)
    | inr far ↦ (λ i. cond (is_number g k) (inode_kept (same_heads k far i) (same_entries k far i)) None) ∙ sym (update_apart (inode_in g heads entries) n v k far)
  ]

  pub view_inodes : (heads heads2 : List (Option Head)) (entries entries2 : List ℕ) (forms : List (Option Form)) (owners ps bs : List ℕ) (n : ℕ) (v : Option Inode) → is_number g n ≡ true
      → ((k : ℕ) → k ≢ n → slice_index_or heads2 k None ≡ slice_index_or heads k None) → ((k : ℕ) → k ≢ n → row (entries_of g) entries2 k ≡ row (entries_of g) entries k)
      → inode_kept (slice_index_or heads2 n None) (row (entries_of g) entries2 n) ≡ v → view_in g heads2 entries2 forms owners ps bs ≡ with_inode (view_in g heads entries forms owners ps bs) n v
  view_inodes heads heads2 entries entries2 forms owners ps bs n v number same_heads same_entries here =
      λ j. record { inodes = λ k. inodes_changed heads heads2 entries entries2 n v number same_heads same_entries here k j; blocks = block_in g forms owners ps bs }

  -- what is kept of a block
  abbrev block_row : List (Option Form) → List ℕ → List ℕ → List ℕ → ℕ → Option Block
  block_row forms owners ps bs b = block_kept (slice_index_or forms b None) (slice_index owners b) (row (pointers_of g) ps b) (row g.block_size bs b)

  pub block_of_kept : (forms : List (Option Form)) (owners ps bs : List ℕ) (b : ℕ) → is_allocable g b ≡ true → block_in g forms owners ps bs b ≡ block_row forms owners ps bs b
  block_of_kept forms owners ps bs b fits = chosen (is_allocable g b) _ None fits

  module _ (forms forms2 : List (Option Form)) (owners owners2 ps ps2 bs bs2 : List ℕ) (b : ℕ) (fits : is_allocable g b ≡ true)
      (same_forms : (k : ℕ) → k ≢ b → slice_index_or forms2 k None ≡ slice_index_or forms k None) (same_owners : (k : ℕ) → k ≢ b → slice_index owners2 k ≡ slice_index owners k)
      (same_ps : (k : ℕ) → k ≢ b → row (pointers_of g) ps2 k ≡ row (pointers_of g) ps k) (same_bs : (k : ℕ) → k ≢ b → row g.block_size bs2 k ≡ row g.block_size bs k) where
    blocks_changed : (v : Option Block) → block_row forms2 owners2 ps2 bs2 b ≡ v → (k : ℕ) → block_in g forms2 owners2 ps2 bs2 k ≡ update nat_eq (block_in g forms owners ps bs) b v k
    blocks_changed v here k = elim (cases_eq k b) [
      | inl e ↦ ap (block_in g forms2 owners2 ps2 bs2) e ∙ block_of_kept forms2 owners2 ps2 bs2 b fits ∙ here ∙ sym (ap (update nat_eq (block_in g forms owners ps bs) b v) e ∙ update_here (block_in g forms owners ps bs) b v)
      | inr far ↦ (λ i. cond (is_allocable g k) (block_kept (same_forms k far i) (same_owners k far i) (same_ps k far i) (same_bs k far i)) None) ∙ sym (update_apart (block_in g forms owners ps bs) b v k far)
    ]

    pub view_blocks : (heads : List (Option Head)) (entries : List ℕ) (v : Option Block) → block_row forms2 owners2 ps2 bs2 b ≡ v
        → view_in g heads entries forms2 owners2 ps2 bs2 ≡ with_block (view_in g heads entries forms owners ps bs) b v
    view_blocks heads entries v here = λ j. record { inodes = inode_in g heads entries; blocks = λ k. blocks_changed v here k j }

  -- ---- pointer nodes

  node_of_kept : (form : Form) (x : ℕ) (ps bs : List ℕ) → form ≢ Plain → content form (block_kept (Some form) x ps bs) ≡ pointers (Ok (record { owner = x; entries = ps }))
  node_of_kept Plain x ps bs node = absurd (node refl)
  node_of_kept Indirect x ps bs node = refl
  node_of_kept Double x ps bs node = refl

  -- under another form a block spells no pointer node
  pub none_kept : (form other : Form) (x : ℕ) (ps bs : List ℕ) → other ≢ Plain → other ≢ form → content other (block_kept (Some form) x ps bs) ≡ pointers (Err WrongSignature)
  none_kept form Plain x ps bs node far = absurd (node refl)
  none_kept Plain Indirect x ps bs node far = refl
  none_kept Plain Double x ps bs node far = refl
  none_kept Indirect Indirect x ps bs node far = absurd (far refl)
  none_kept Indirect Double x ps bs node far = refl
  none_kept Double Indirect x ps bs node far = refl
  none_kept Double Double x ps bs node far = absurd (far refl)

  -- a block of the form and the owner is kept so
  kept_so : (f : Option Form) (owner : ℕ) (ps bs : List ℕ) (form : Form) (x : ℕ) → form ≢ Plain → is_owned_by x (content form (block_kept f owner ps bs)) ≡ true → (f ≡ Some form) × (owner ≡ x)
  kept_so None owner ps bs form x node e = absurd (let h : false ≡ true = e in cc)
  kept_so (Some f) owner ps bs Plain x node e = absurd (node refl)
  kept_so (Some Plain) owner ps bs Indirect x node e = absurd (let h : false ≡ true = e in cc)
  kept_so (Some Plain) owner ps bs Double x node e = absurd (let h : false ≡ true = e in cc)
  kept_so (Some Indirect) owner ps bs Indirect x node e = (refl, eqb-true owner x e)
  kept_so (Some Indirect) owner ps bs Double x node e = absurd (let h : false ≡ true = e in cc)
  kept_so (Some Double) owner ps bs Indirect x node e = absurd (let h : false ≡ true = e in cc)
  kept_so (Some Double) owner ps bs Double x node e = (refl, eqb-true owner x e)

  module _ (heads : List (Option Head)) (entries : List ℕ) (forms : List (Option Form)) (owners ps bs : List ℕ) (form : Form) (x b : ℕ) (fits : is_allocable g b ≡ true) (node : form ≢ Plain)
      (spot : is_spot (view_in g heads entries forms owners ps bs) form x b ≡ true) where
    so : (slice_index_or forms b None ≡ Some form) × (slice_index owners b ≡ x)
    so = kept_so (slice_index_or forms b None) (slice_index owners b) (row (pointers_of g) ps b) (row g.block_size bs b) form x node (ap (λ o. is_owned_by x (content form o)) (sym (block_of_kept forms owners ps bs b fits)) ∙ spot)

    content_of : (qs : List ℕ) → content_at (view_in g heads entries forms owners qs bs) form b ≡ pointers (Ok (record { owner = x; entries = row (pointers_of g) qs b }))
    content_of qs = ap (content form) (block_of_kept forms owners qs bs b fits) ∙ (λ j. content form (block_kept (so.0 j) (so.1 j) (row (pointers_of g) qs b) (row g.block_size bs b))) ∙ node_of_kept form x (row (pointers_of g) qs b) (row g.block_size bs b) node

    pub pointer_here : (i : ℕ) → i < pointers_of g → slice_index ps (b * pointers_of g + i) ≡ slice_index (entries_in (content_at (view_in g heads entries forms owners ps bs) form b)) i
    pointer_here i low = sym (row-get (pointers_of g) ps b i 0 low) ∙ ap (λ y. slice_index (entries_in y) i) (sym (content_of ps))

    pub set_here : (i to : ℕ) → i < pointers_of g → PointerSet (view_in g heads entries forms owners ps bs) (view_in g heads entries forms owners (slice_set ps (b * pointers_of g + i) to) bs) form x b i to
    set_here i to low =
        let qs : List ℕ = slice_set ps (b * pointers_of g + i) to in
        record {
          working = view_blocks forms forms owners owners ps qs bs bs b fits (λ k far. refl) (λ k far. refl) (λ k far. row-set_apart (pointers_of g) ps b i to k low far) (λ k far. refl) heads entries _ (sym (block_of_kept forms owners qs bs b fits));
          spells_no_other = λ other other_node far. ap (content other) (block_of_kept forms owners qs bs b fits) ∙ ap (λ f. content other (block_kept f (slice_index owners b) (row (pointers_of g) qs b) (row g.block_size bs b))) so.0
              ∙ none_kept form other (slice_index owners b) (row (pointers_of g) qs b) (row g.block_size bs b) other_node far;
          content = content_of qs ∙ (λ j. pointers (Ok (record { owner = x; entries = row-set_here (pointers_of g) ps b i to low j })))
              ∙ ap (λ y. pointers (Ok (record { owner = x; entries = slice_set (entries_in y) i to }))) (sym (content_of ps));
        }

  -- a block with nothing in it
  pub empty_kept : (form : Form) (x : ℕ) → content form (block_kept (Some form) x (replicate (pointers_of g) 0) (replicate g.block_size 0)) ≡ empty_content g form x
  empty_kept Plain x = refl
  empty_kept Indirect x = refl
  empty_kept Double x = refl

  pub below_numbers : (n : ℕ) → is_number g n ≡ true → (2 ≤ n) × (n < 2 + g.inodes)
  below_numbers n h =
      let low : 2 ≤ n = grind (arith, nat_tests) in
      let high : n < 2 + g.inodes = grind (arith, nat_tests) in
      (low, high)

  -- an inode that is there, with another head
  pub headed : (heads : List (Option Head)) (entries : List ℕ) (n : ℕ) (head : Head) → is_number g n ≡ true → is_some (inode_in g heads entries n) ≡ true
      → inode_kept (Some head) (row (entries_of g) entries n) ≡ with_head (inode_in g heads entries n) head
  headed heads entries n head number there =
      let is : inode_in g heads entries n ≡ inode_kept (slice_index_or heads n None) (row (entries_of g) entries n) = chosen (is_number g n) _ None number in
      by_head (slice_index_or heads n None) (ap is_some (sym is) ∙ there) ∙ ap (λ o. with_head o head) (sym is)
    where
      by_head : (o : Option Head) → is_some (inode_kept o (row (entries_of g) entries n)) ≡ true → inode_kept (Some head) (row (entries_of g) entries n) ≡ with_head (inode_kept o (row (entries_of g) entries n)) head
      by_head None e = absurd (let f : false ≡ true = e in cc)
      by_head (Some old) e = refl

  -- ---- numbers without an inode

  pub inode_none : (heads : List (Option Head)) (entries : List ℕ) (n : ℕ) → is_none (slice_index_or heads n None) ≡ true → inode_in g heads entries n ≡ None
  inode_none heads entries n e = by_both (is_number g n) (slice_index_or heads n None) (row (entries_of g) entries n) e
    where
      by_both : (t : Bool) (o : Option Head) (es : List ℕ) → is_none o ≡ true → cond t (inode_kept o es) None ≡ None
      by_both true None es e = refl
      by_both false None es e = refl
      by_both t (Some head) es e = absurd (let f : false ≡ true = e in cc)

  pub inode_some : (heads : List (Option Head)) (entries : List ℕ) (n : ℕ) → is_number g n ≡ true → is_none (slice_index_or heads n None) ≡ false → inode_in g heads entries n ≢ None
  inode_some heads entries n number e none = by_head (slice_index_or heads n None) e (sym (chosen (is_number g n) _ None number) ∙ none)
    where
      by_head : (o : Option Head) → is_none o ≡ false → inode_kept o (row (entries_of g) entries n) ≡ None → ⊥
      by_head None e f = let h : true ≡ false = e in cc
      by_head (Some head) e f = cc

  -- an inode that is there, with another pointer in an entry
  pub entry_set : (heads : List (Option Head)) (entries : List ℕ) (n i to : ℕ) → is_number g n ≡ true → i < entries_of g
      → inode_kept (slice_index_or heads n None) (row (entries_of g) (slice_set entries (n * entries_of g + i) to) n) ≡ with_entry (inode_in g heads entries n) i to
  entry_set heads entries n i to number low =
      ap (inode_kept (slice_index_or heads n None)) (row-set_here (entries_of g) entries n i to low) ∙ by_head (slice_index_or heads n None)
      ∙ ap (λ o. with_entry o i to) (sym (chosen (is_number g n) _ None number))
    where
      by_head : (o : Option Head) → inode_kept o (slice_set (row (entries_of g) entries n) i to) ≡ with_entry (inode_kept o (row (entries_of g) entries n)) i to
      by_head None = refl
      by_head (Some head) = refl

  -- the bytes of a used block
  pub bytes_kept : (forms : List (Option Form)) (owners ps bs : List ℕ) (b : ℕ) → is_allocable g b ≡ true → is_some (block_in g forms owners ps bs b) ≡ true
      → bytes_in (content Plain (block_in g forms owners ps bs b)) ≡ row g.block_size bs b
  bytes_kept forms owners ps bs b fits used =
      let e = block_of_kept forms owners ps bs b fits in
      ap (λ o. bytes_in (content Plain o)) e ∙ by_form (slice_index_or forms b None) (ap is_some (sym e) ∙ used)
    where
      by_form : (f : Option Form) → is_some (block_kept f (slice_index owners b) (row (pointers_of g) ps b) (row g.block_size bs b)) ≡ true
          → bytes_in (content Plain (block_kept f (slice_index owners b) (row (pointers_of g) ps b) (row g.block_size bs b))) ≡ row g.block_size bs b
      by_form None e = absurd (let f : false ≡ true = e in cc)
      by_form (Some Plain) e = refl
      by_form (Some Indirect) e = refl
      by_form (Some Double) e = refl

  pub head_none : (heads : List (Option Head)) (entries : List ℕ) (n : ℕ) → is_none (head_of_inode (inode_in g heads entries n)) ≡ is_none (inode_in g heads entries n)
  head_none heads entries n = by_both (is_number g n) (slice_index_or heads n None) (row (entries_of g) entries n)
    where
      by_both : (t : Bool) (o : Option Head) (es : List ℕ) → is_none (head_of_inode (cond t (inode_kept o es) None)) ≡ is_none (cond t (inode_kept o es) None)
      by_both true None es = refl
      by_both true (Some head) es = refl
      by_both false o es = refl

  -- a range of the bytes of a used block, written
  pub bytes_set : (heads : List (Option Head)) (entries : List ℕ) (forms : List (Option Form)) (owners ps bs bs2 : List ℕ) (b at : ℕ) (new : List ℕ) → is_allocable g b ≡ true → is_some (block_in g forms owners ps bs b) ≡ true
      → at + length new ≤ g.block_size → b * g.block_size + g.block_size ≤ length bs → bs2 ≡ put_mid (b * g.block_size + at) (length new) bs new
      → BytesSet (view_in g heads entries forms owners ps bs) (view_in g heads entries forms owners ps bs2) b at new
  bytes_set heads entries forms owners ps bs bs2 b at new fits used in_row long is =
      let here : row g.block_size bs2 b ≡ put_in (row g.block_size bs b) at new = ap (λ l. row g.block_size l b) is ∙ row-put_here g.block_size bs new b at (length new) in_row long refl in
      let there : (k : ℕ) → k ≢ b → row g.block_size bs2 k ≡ row g.block_size bs k = λ k far. ap (λ l. row g.block_size l k) is ∙ row-put_apart g.block_size bs new b at (length new) in_row long refl k far in
      record {
        working = view_blocks forms forms owners owners ps ps bs bs2 b fits (λ k far. refl) (λ k far. refl) (λ k far. refl) there heads entries _ (sym (block_of_kept forms owners ps bs2 b fits));
        content = plain_kept bs2 (still used) ∙ ap bytes here ∙ ap (λ l. bytes (put_in l at new)) (sym (bytes_kept forms owners ps bs b fits used));
      }
    where
      by_form : (f : Option Form) (owner : ℕ) (qs cs ds : List ℕ) → is_some (block_kept f owner qs cs) ≡ true → is_some (block_kept f owner qs ds) ≡ true
      by_form None owner qs cs ds e = e
      by_form (Some Plain) owner qs cs ds e = refl
      by_form (Some Indirect) owner qs cs ds e = refl
      by_form (Some Double) owner qs cs ds e = refl

      still : is_some (block_in g forms owners ps bs b) ≡ true → is_some (block_in g forms owners ps bs2 b) ≡ true
      still e = ap is_some (block_of_kept forms owners ps bs2 b fits) ∙ by_form (slice_index_or forms b None) _ _ _ _ (ap is_some (sym (block_of_kept forms owners ps bs b fits)) ∙ e)

      plain_of : (o : Option Block) → is_some o ≡ true → content Plain o ≡ bytes (bytes_in (content Plain o))
      plain_of None e = absurd (let f : false ≡ true = e in cc)
      plain_of (Some block) e = refl

      plain_kept : (cs : List ℕ) → is_some (block_in g forms owners ps cs b) ≡ true → content Plain (block_in g forms owners ps cs b) ≡ bytes (row g.block_size cs b)
      plain_kept cs e = plain_of (block_in g forms owners ps cs b) e ∙ ap bytes (bytes_kept forms owners ps cs b fits e)

  -- ---- nothing

  none_among : (X : Type 0) (count k : ℕ) → get_or {A = Option X} (replicate count None) k None ≡ None
  none_among X count k = elim (cases_lt k count) [
    | inl low ↦ get_or-replicate count k None None low
    | inr past ↦ get_or_past (replicate count None) k None (let e : length (replicate {A = Option X} count None) ≡ count = length-replicate count None in omega (arith, e))
  ]

  pub view_of_none : (count blocks : ℕ) (entries owners ps bs : List ℕ) → view_in g (replicate count None) entries (replicate blocks None) owners ps bs ≡ no_view
  view_of_none count blocks entries owners ps bs = λ j. record {
    inodes = λ n. inode_none (replicate count None) entries n (ap is_none (none_among Head count n)) j;
    blocks = λ b. block_none b j;
  }
    where
      off : (t : Bool) → cond {A = Option Block} t None None ≡ None
      off true = refl
      off false = refl

      block_none : (b : ℕ) → block_in g (replicate blocks None) owners ps bs b ≡ None
      block_none b = ap (λ f. cond (is_allocable g b) (block_kept f (slice_index owners b) (row (pointers_of g) ps b) (row g.block_size bs b)) None) (none_among Form blocks b) ∙ off (is_allocable g b)
