-- Nodes that keep their blocks, and data blocks that are there.
use Rattle.std.proofs.Common.{◌≡◌, ◌≢◌, ◌⊎◌, ℕ, ◌<◌, ◌==◌, ◌&&◌, not, true, false, List, ◌∷◌, Option, Some, None, refl, sym, ap, ◌∙◌, inl, inr}
use Rattle.std.specs.Prelude.{is_some}
use Rattle.std.specs.List.{list_any}
use Rattle.std.proofs.lemmas.Bool.{cases_eq, cases_Bool, eq-eqb, or_cases}
use Rattle.edge_base.specs.declared.form.Form.{Form}
use Rattle.edge_base.specs.declared.form.Form.TheVariants.{Plain, Indirect, Double}
use Rattle.edge_base.specs.declared.geometry.Request.{Request}
use Rattle.edge_base.specs.declared.node.Head.{Head}
use Rattle.edge_base.specs.tree.Positions.{Position, has, chain, positions_of, positions_of_form}
use Rattle.edge_base.proofs.PositionLaws.{has-append}
use Rattle.edge_store.specs.View.{View, IsView, Block, Inode, whole, broken, content, entries_of_inode, is_owned_by, is_spot, is_used, is_new, is_whole, with_head, with_inode}
use Rattle.edge_store.specs.Effects.{HeadSet, BytesSet}
use Rattle.edge_store.specs.Placed.{data_block, block_at}
use Rattle.edge_store.specs.Fresh.{is_dirty}
use Rattle.edge_store.specs.Frames.{KeepsPointers, IsNoNodeOf}
use Rattle.edge_store.proofs.FrameLaws.{block_at-pointers}
use Rattle.edge_store.proofs.ViewLaws.{used_of, unused_zero, with_block_apart, with_inode_here, with_inode_apart}
use Rattle.edge_moves.specs.Sound.{numbered}
use Rattle.edge_shape.specs.Shape.{HasShape, before}
use Rattle.edge_shape.specs.Cut.{IsCut}
use Rattle.edge_moves.specs.Writable.{IsMadeWritable}
use Rattle.edge_shape.proofs.ListLaws.{apart_false}
use Rattle.edge_shape.proofs.LeadLaws.{shape_from_layout}
use Rattle.edge_shape.proofs.ShapeLaws.{in_range, listed, spot_at, one_place}
use Rattle.edge_shape.proofs.LeaveLaws.{index_there, index_listed, position_there}
use Rattle.edge_shape.proofs.MovedLaws.{made_shape}
use Rattle.edge_shape.proofs.RenewLaws.{used_not_none, node_used}
use Rattle.edge_count.specs.Frames.{KeepsBlocks, AreApart}
use Rattle.edge_count.proofs.FreshLaws.{chain_number}

-- what is dirty of a node that keeps its blocks stays dirty, and no more
pub kept_dirty : (g : Request) (c v w : View) (p : Position) → KeepsBlocks g v w p.number → p.index < positions_of_form g p.form
    → is_dirty g c w p ≡ is_dirty g c v p
kept_dirty g c v w p kept low =
    ap (is_new c w) (kept.places p.form p.index low) ∙ ap (λ t. t && not (is_used c (block_at g v p))) (kept.used p.form p.index low)

-- a data block is absent where it is none of the node's
pub absent_is : (g : Request) (v : View) (n : ℕ) (indices : List ℕ) → HasShape g v n indices → (x : ℕ)
    → (data_block g v n x == 0) ≡ not (list_any (λ k. k == x) indices)
absent_is g v n indices shape x = elim (cases_Bool (list_any (λ k. k == x) indices)) [
  | inl member ↦ apart_false (data_block g v n x) 0 (index_there g v n indices shape x member) ∙ sym (ap not member)
  | inr other ↦ elim (cases_eq (data_block g v n x) 0) [
    | inl none ↦ eq-eqb (data_block g v n x) 0 none ∙ sym (ap not other)
    | inr there ↦ absurd (let e : true ≡ false = sym (index_listed g v n indices shape x there) ∙ other in cc)
  ]
]

-- ---- a node of which no pointer changes

plain_spot : (o : Option Block) (m : ℕ) → is_some o ≡ true → is_owned_by m (content Plain o) ≡ true
plain_spot (Some block) m h = refl
plain_spot None m h = absurd (let e : false ≡ true = h in cc)

module _ (g : Request) (v w : View) (m : ℕ) (indices : List ℕ) (shape : HasShape g v m indices) (view : IsView g w)
    (entries : entries_of_inode (w.inodes m) ≡ entries_of_inode (v.inodes m)) (inode : is_whole (w.inodes m) ≡ true)
    (nodes : (form : Form) (k : ℕ) → form ≢ Plain → block_at g v (numbered m form k) ≢ 0
    → w.blocks (block_at g v (numbered m form k)) ≡ v.blocks (block_at g v (numbered m form k)))
    (used : (k : ℕ) → data_block g v m k ≢ 0 → is_used w (data_block g v m k) ≡ true) where
  keeps_pointers : KeepsPointers g v w m
  keeps_pointers = record {
    entries = entries;
    indirect = λ j low there. ap (content Indirect) (nodes Indirect j (λ (e : Indirect ≡ Plain). cc) there);
    double = λ d low there. ap (content Double) (nodes Double d (λ (e : Double ≡ Plain). cc) there);
  }

  used_there : (form : Form) (k : ℕ) → block_at g v (numbered m form k) ≢ 0 → is_used w (block_at g v (numbered m form k)) ≡ true
  used_there Plain k there = used k there
  used_there Indirect k there = ap is_some (nodes Indirect k (λ (e : Indirect ≡ Plain). cc) there) ∙ node_used g v m indices shape Indirect k there
  used_there Double k there = ap is_some (nodes Double k (λ (e : Double ≡ Plain). cc) there) ∙ node_used g v m indices shape Double k there

  pub keeps_blocks : KeepsBlocks g v w m
  keeps_blocks = record {
    places = λ form k low. block_at-pointers g v w m keeps_pointers (numbered m form k) (λ t. m) low;
    used = λ form k low. elim (cases_eq (block_at g v (numbered m form k)) 0) [
      | inl none ↦ ap (is_used w) none ∙ ap is_some (unused_zero g w view) ∙ sym (ap (is_used v) none ∙ ap is_some (unused_zero g v shape.view))
      | inr there ↦ used_there form k there ∙ sym (node_used g v m indices shape form k there)
    ];
  }

  spot_there : (form : Form) (k : ℕ) → block_at g v (numbered m form k) ≢ 0 → is_spot w form m (block_at g v (numbered m form k)) ≡ true
  spot_there Plain k there = plain_spot (w.blocks (data_block g v m k)) m (used k there)
  spot_there Indirect k there = ap (λ o. is_owned_by m (content Indirect o)) (nodes Indirect k (λ (e : Indirect ≡ Plain). cc) there)
      ∙ spot_at g v m indices shape Indirect k there
  spot_there Double k there = ap (λ o. is_owned_by m (content Double o)) (nodes Double k (λ (e : Double ≡ Plain). cc) there)
      ∙ spot_at g v m indices shape Double k there

  pub keeps_shape : HasShape g w m indices
  keeps_shape = shape_from_layout g w m indices (λ form k. block_at g v (numbered m form k)) shape.geometry view inode keeps_blocks.places (record {
    within = λ form k h. in_range g v m indices shape form k (position_there g v m indices shape form k h);
    there = λ form k h. position_there g v m indices shape form k h;
    listed = λ form k low there. listed g v m indices shape form k there;
    spots = λ form k h. spot_there form k (position_there g v m indices shape form k h);
    apart = λ form f k l h other_h same. one_place g v m indices shape form f k l (position_there g v m indices shape form k h) same;
  })

-- ---- bytes, a head, another inode

module _ (g : Request) (v w : View) (m : ℕ) (indices : List ℕ) (shape : HasShape g v m indices) (view : IsView g w) where
  abbrev Stays : Type 0
  Stays = KeepsBlocks g v w m × HasShape g w m indices

  pub bytes_keep : (b at : ℕ) (new : List ℕ) → IsNoNodeOf g v m b → BytesSet v w b at new → Stays
  bytes_keep b at new none set =
      (keeps_blocks g v w m indices shape view entries inode nodes used, keeps_shape g v w m indices shape view entries inode nodes used)
    where
      inodes : w.inodes ≡ v.inodes
      inodes = ap (λ (u : View). u.inodes) set.working

      entries : entries_of_inode (w.inodes m) ≡ entries_of_inode (v.inodes m)
      entries = ap (λ (o : ℕ → Option Inode). entries_of_inode (o m)) inodes

      inode : is_whole (w.inodes m) ≡ true
      inode = ap (λ (o : ℕ → Option Inode). is_whole (o m)) inodes ∙ shape.inode

      beside : (x : ℕ) → x ≢ b → w.blocks x ≡ v.blocks x
      beside x away = ap (λ (u : View). u.blocks x) set.working ∙ with_block_apart v b (w.blocks b) x away

      no_node : (form : Form) (k : ℕ) → form ≢ Plain → block_at g v (numbered m form k) ≢ 0 → block_at g v (numbered m form k) ≢ b
      no_node Plain k node there = absurd (node refl)
      no_node Indirect k node there = none.indirect k (in_range g v m indices shape Indirect k there)
      no_node Double k node there = none.double k (in_range g v m indices shape Double k there)

      nodes : (form : Form) (k : ℕ) → form ≢ Plain → block_at g v (numbered m form k) ≢ 0
          → w.blocks (block_at g v (numbered m form k)) ≡ v.blocks (block_at g v (numbered m form k))
      nodes form k node there = beside (block_at g v (numbered m form k)) (no_node form k node there)

      used : (k : ℕ) → data_block g v m k ≢ 0 → is_used w (data_block g v m k) ≡ true
      used k there = elim (cases_eq (data_block g v m k) b) [
        | inl is ↦ ap (is_used w) is ∙ used_of Plain (w.blocks b) m (ap (is_owned_by m) set.content)
        | inr away ↦ ap is_some (beside (data_block g v m k) away) ∙ node_used g v m indices shape Plain k there
      ]

  -- where the blocks stay, and the node's entries
  same_keep : w.blocks ≡ v.blocks → entries_of_inode (w.inodes m) ≡ entries_of_inode (v.inodes m) → is_whole (w.inodes m) ≡ true → Stays
  same_keep blocks entries inode =
      (keeps_blocks g v w m indices shape view entries inode nodes used, keeps_shape g v w m indices shape view entries inode nodes used)
    where
      nodes : (form : Form) (k : ℕ) → form ≢ Plain → block_at g v (numbered m form k) ≢ 0
          → w.blocks (block_at g v (numbered m form k)) ≡ v.blocks (block_at g v (numbered m form k))
      nodes form k node there = λ t. blocks t (block_at g v (numbered m form k))

      used : (k : ℕ) → data_block g v m k ≢ 0 → is_used w (data_block g v m k) ≡ true
      used k there = (λ t. is_some (blocks t (data_block g v m k))) ∙ node_used g v m indices shape Plain k there

  pub inode_keeps : (n : ℕ) (inode : Option Inode) → m ≢ n → w ≡ with_inode v n inode → Stays
  inode_keeps n inode away set = same_keep (ap (λ (u : View). u.blocks) set) (ap entries_of_inode same) (ap is_whole same ∙ shape.inode)
    where
      same : w.inodes m ≡ v.inodes m
      same = ap (λ (u : View). u.inodes m) set ∙ with_inode_apart v n inode m away

  pub head_keeps : (n : ℕ) (head : Head) → HeadSet v w n head → Stays
  head_keeps n head set = elim (cases_eq m n) [
    | inr away ↦ inode_keeps n (with_head (v.inodes n) head) away set
    | inl here ↦
        let is : w.inodes m ≡ with_head (v.inodes m) head =
        ap (λ (u : View). u.inodes m) set ∙ ap (with_inode v n (with_head (v.inodes n) head)).inodes here ∙ with_inode_here v n (with_head (v.inodes n) head)
        ∙ ap (λ (k : ℕ). with_head (v.inodes k) head) (sym here) in
        same_keep (ap (λ (u : View). u.blocks) set) (ap entries_of_inode is ∙ entries_same (v.inodes m))
        (ap is_whole is ∙ whole_same (v.inodes m) ∙ shape.inode)
  ]
    where
      entries_same : (o : Option Inode) → entries_of_inode (with_head o head) ≡ entries_of_inode o
      entries_same None = refl
      entries_same (Some (broken damage)) = refl
      entries_same (Some (whole old list)) = refl

      whole_same : (o : Option Inode) → is_whole (with_head o head) ≡ is_whole o
      whole_same None = refl
      whole_same (Some (broken damage)) = refl
      whole_same (Some (whole old list)) = refl

-- ---- after a step at node n

module _ (g : Request) (c v w : View) (n m i : ℕ) (indices others : List ℕ) (other : HasShape g v m others) (view : IsView g w) (apart : AreApart g v n m)
    (away : m ≢ n) where
  apart_keeps : w.inodes m ≡ v.inodes m
      → ((form : Form) (k : ℕ) → block_at g v (numbered m form k) ≢ 0
      → w.blocks (block_at g v (numbered m form k)) ≡ v.blocks (block_at g v (numbered m form k)))
      → KeepsBlocks g v w m × HasShape g w m others
  apart_keeps inode blocks = (
    keeps_blocks g v w m others other view (ap entries_of_inode inode) (ap is_whole inode ∙ other.inode) (λ form k node there. blocks form k there) used,
    keeps_shape g v w m others other view (ap entries_of_inode inode) (ap is_whole inode ∙ other.inode) (λ form k node there. blocks form k there) used,
  )
    where
      used : (k : ℕ) → data_block g v m k ≢ 0 → is_used w (data_block g v m k) ≡ true
      used k there = ap is_some (blocks Plain k there) ∙ node_used g v m others other Plain k there

  module _ (made : IsMadeWritable g c v w n i indices) where
    made_blocks : (form : Form) (k : ℕ) → block_at g v (numbered m form k) ≢ 0
        → w.blocks (block_at g v (numbered m form k)) ≡ v.blocks (block_at g v (numbered m form k))
    made_blocks form k there =
        made.others (block_at g v (numbered m form k)) (node_used g v m others other form k there)
        (λ p on same. far p.number p.form p.index (chain_number g n i p on) same)
      where
        far : (x : ℕ) (f : Form) (l : ℕ) → x ≡ n → block_at g v (numbered x f l) ≢ block_at g v (numbered m form k)
        far x f l is same =
            apart f form l k (λ none. there (sym same ∙ ap (λ (y : ℕ). block_at g v (numbered y f l)) is ∙ none))
            (ap (λ (y : ℕ). block_at g v (numbered y f l)) (sym is) ∙ same)

    pub writable_keeps : KeepsBlocks g v w m × HasShape g w m others
    writable_keeps = apart_keeps (made.inodes m away) made_blocks

  module _ (cut : IsCut g c v w n i indices) where
    cut_blocks : (form : Form) (k : ℕ) → block_at g v (numbered m form k) ≢ 0
        → w.blocks (block_at g v (numbered m form k)) ≡ v.blocks (block_at g v (numbered m form k))
    cut_blocks form k there =
        cut.others (block_at g v (numbered m form k)) (node_used g v m others other form k there) (λ f l some same. apart f form l k some same)

    pub cut_keeps : KeepsBlocks g v w m × HasShape g w m others
    cut_keeps = apart_keeps (cut.inodes m away) cut_blocks

-- ---- the two nodes stay apart

module _ (g : Request) (v w : View) (n m : ℕ) (rest others : List ℕ) (shape : HasShape g w n rest) (other : HasShape g v m others) (apart : AreApart g v n m)
    (keeps : KeepsBlocks g v w m × HasShape g w m others)
    (came : (form : Form) (k : ℕ) → has (positions_of g n rest) (numbered n form k) ≡ true
    → (block_at g w (numbered n form k) ≡ block_at g v (numbered n form k)) ⊎ (v.blocks (block_at g w (numbered n form k)) ≡ None)) where
  pub still_apart : AreApart g w n m
  still_apart form f k l some same =
      let there : block_at g w (numbered m f l) ≢ 0 = λ none. some (same ∙ none) in
      let is = keeps.0.places f l (in_range g w m others keeps.1 f l there) in
      elim (came form k (listed g w n rest shape form k some)) [
        | inl still ↦ apart form f k l (λ none. some (still ∙ none)) (sym still ∙ same ∙ is)
        | inr free ↦
            used_not_none (v.blocks (block_at g v (numbered m f l))) (node_used g v m others other f l (λ none. there (is ∙ none)))
            (ap v.blocks (sym (same ∙ is)) ∙ free)
      ]

module _ (g : Request) (c v w : View) (n m i : ℕ) (indices others : List ℕ) (shape : HasShape g v n indices) (other : HasShape g v m others) (view : IsView g w)
    (apart : AreApart g v n m) (away : m ≢ n) where
  pub writable_apart : IsMadeWritable g c v w n i indices → AreApart g w n m
  writable_apart made =
      still_apart g v w n m (i ∷ indices) others (made_shape g c v w n i indices shape view made) other apart
      (writable_keeps g c v w n m i indices others other view apart away made) came
    where
      came : (form : Form) (k : ℕ) → has (positions_of g n (i ∷ indices)) (numbered n form k) ≡ true
          → (block_at g w (numbered n form k) ≡ block_at g v (numbered n form k)) ⊎ (v.blocks (block_at g w (numbered n form k)) ≡ None)
      came form k h = elim (or_cases (has (chain g n i) (numbered n form k)) (has (positions_of g n indices) (numbered n form k))
          (sym (has-append (chain g n i) (positions_of g n indices) (numbered n form k)) ∙ h)) [
            | inl on ↦ on_chain on
            | inr old ↦ elim (cases_Bool (has (chain g n i) (numbered n form k))) [
              | inl on ↦ on_chain on
              | inr off ↦ inl (made.stays (numbered n form k) old off)
            ]
          ]
        where
          on_chain : has (chain g n i) (numbered n form k) ≡ true
              → (block_at g w (numbered n form k) ≡ block_at g v (numbered n form k)) ⊎ (v.blocks (block_at g w (numbered n form k)) ≡ None)
          on_chain on = elim (made.came (numbered n form k) on) [ inl same ↦ inl same | inr moved ↦ inr moved.fresh ]

  pub cut_apart : IsCut g c v w n i indices → AreApart g w n m
  cut_apart cut =
      still_apart g v w n m (before i indices) others cut.shape other apart (cut_keeps g c v w n m i indices others other view apart away cut)
      (λ form k h. elim (cut.came form k h) [ inl same ↦ inl same | inr moved ↦ inr moved.fresh ])
