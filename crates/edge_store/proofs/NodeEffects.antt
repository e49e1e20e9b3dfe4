-- What calls that name a node do to it: its head set, bytes of a data block set, its inode made or dropped.
use Rattle.std.proofs.Common.{◌≡◌, ◌≢◌, ◌↔◌, ℕ, zero, suc, ◌+◌, ◌-◌, ◌/◌, ◌%◌, ◌<◌, ◌&&◌, ◌||◌, not, Bool, true, false, cond, nat_lt, is_some, get_or, List, [], ◌∷◌, replicate, inl, inr, ⊎_elim, Option, Some, None, refl, sym, ap, ◌∙◌, subst, eq-eqb}
use Rattle.std.specs.Prelude.{slice_index}
use Rattle.std.proofs.lemmas.Bool.{false≢true, cases_eq, cases_Bool, or_cases, or_right, ltb-false}
use Rattle.std.proofs.lemmas.Map.{update_apart, update_here}
use Rattle.edge_base.specs.declared.form.Form.{Form}
use Rattle.edge_base.specs.declared.form.Form.TheVariants.{Plain, Indirect, Double}
use Rattle.edge_base.specs.declared.geometry.Request.{Request}
use Rattle.edge_base.specs.declared.node.Head.{Head}
use Rattle.edge_base.specs.layout.Places.{entries_of, pointers_of, max_blocks_of}
use Rattle.edge_base.specs.tree.Positions.{Position, data_at, indirect_at, double_at, same_position, has, ancestors, above_data, above_indirect, chain, positions_of, positions_of_form}
use Rattle.edge_base.proofs.ChainLaws.{has-positions_of-number}
use Rattle.edge_base.proofs.PositionLaws.{same_position_Decides}
use Rattle.edge_store.specs.Changed.{has_index, IsBlockOf, IsNoBlockOf, NodeChanged, NodeDirtied, KeepsContents}
use Rattle.edge_store.specs.Effects.{HeadSet, InodeMade, InodeDropped, BytesSet, put_in}
use Rattle.edge_store.specs.Fresh.{is_dirty}
use Rattle.edge_store.specs.Frames.{KeepsPointers}
use Rattle.edge_store.specs.Placed.{block_at, data_block, indirect_block, double_block, entry_at, pointer_at, HasPlaces, IsOnce}
use Rattle.edge_store.specs.View.{View, Block, Inode, whole, broken, bytes, unused, content, content_at, bytes_in, entries_in, entries_of_inode, empty_inode, is_new, is_spot, is_used, is_owned_by, with_head, with_inode}
use Rattle.edge_store.proofs.ChangedLaws.{block_or_none, chain_of, on_chain, data_there}
use Rattle.edge_store.proofs.DigitLaws.{table_below, indirect_below}
use Rattle.edge_store.proofs.FrameLaws.{block_at-kept, block_at-pointers}
use Rattle.edge_store.proofs.ViewLaws.{used_of, with_block_apart}

-- ---- positions above positions

is_position : (p q : Position) → same_position p q ≡ true → p ≡ q
is_position p q h = (same_position_Decides p q).0 h

none_above_double : (g : Request) (n d : ℕ) (p q : Position) → p ≡ double_at n d → has (ancestors g p) q ≡ true → ⊥
none_above_double g n d p q is h = false≢true (subst (λ (r : Position). has (ancestors g r) q ≡ true) is h)

-- of an indirect node at most the double-indirect one
above_one : (b : Bool) (x p : Position) → has (cond b [] (x ∷ [])) p ≡ true → p ≡ x
above_one true x p h = absurd (false≢true h)
above_one false x p h = ⊎_elim (λ here. is_position p x here) (λ none. absurd (false≢true none)) (or_cases (same_position p x) false h)

chain_up : (g : Request) (n i : ℕ) (p q : Position) → has (chain g n i) p ≡ true → has (ancestors g p) q ≡ true → has (chain g n i) q ≡ true
chain_up g n i p q on up = or_right (same_position q (data_at n i)) (has (above_data g n i) q) (⊎_elim
    (λ here. subst (λ (r : Position). has (ancestors g r) q ≡ true) (is_position p (data_at n i) here) up)
    (λ over. higher (nat_lt i g.direct) ((i - g.direct) / pointers_of g) over)
    (or_cases (same_position p (data_at n i)) (has (above_data g n i) p) on))
  where
    higher : (b : Bool) (j : ℕ) → has (cond b [] (indirect_at n j ∷ above_indirect g n j)) p ≡ true → has (cond b [] (indirect_at n j ∷ above_indirect g n j)) q ≡ true
    higher true j h = absurd (false≢true h)
    higher false j h = ⊎_elim
        (λ here. or_right (same_position q (indirect_at n j)) (has (above_indirect g n j) q) (subst (λ (r : Position). has (ancestors g r) q ≡ true) (is_position p (indirect_at n j) here) up))
        (λ over. absurd (none_above_double g n ((j - g.indirect) / pointers_of g) p q (above_one (nat_lt j g.indirect) (double_at n ((j - g.indirect) / pointers_of g)) p over) up))
        (or_cases (same_position p (indirect_at n j)) (has (above_indirect g n j) p) h)

-- the ancestors of a position of a node are positions of it
pub node_up : (g : Request) (n : ℕ) (indices : List ℕ) (p q : Position) → has (positions_of g n indices) p ≡ true → has (ancestors g p) q ≡ true → has (positions_of g n indices) q ≡ true
node_up g n indices p q h up = let r = chain_of g n indices p h in on_chain g n indices q r.0 r.1 (chain_up g n r.0 p q r.2 up)

data_no_indirect : (n i x j : ℕ) → data_at n i ≢ indirect_at x j
data_no_indirect n i x j e = let forms : Plain ≡ Indirect = ap (λ (p : Position). p.form) e in cc

data_no_double : (n i x d : ℕ) → data_at n i ≢ double_at x d
data_no_double n i x d e = let forms : Plain ≡ Double = ap (λ (p : Position). p.form) e in cc

-- and no data blocks
above_no_data : (g : Request) (p : Position) (n i : ℕ) → has (ancestors g p) (data_at n i) ≡ true → ⊥
above_no_data g p n i h = by p.form p.index h
  where
    over : (j : ℕ) → has (above_indirect g p.number j) (data_at n i) ≡ true → ⊥
    over j k = data_no_double n i p.number ((j - g.indirect) / pointers_of g) (above_one (nat_lt j g.indirect) (double_at p.number ((j - g.indirect) / pointers_of g)) (data_at n i) k)

    from : (b : Bool) (j : ℕ) → has (cond b [] (indirect_at p.number j ∷ above_indirect g p.number j)) (data_at n i) ≡ true → ⊥
    from true j k = false≢true k
    from false j k = ⊎_elim
        (λ here. data_no_indirect n i p.number j (is_position (data_at n i) (indirect_at p.number j) here))
        (λ later. over j later)
        (or_cases (same_position (data_at n i) (indirect_at p.number j)) (has (above_indirect g p.number j) (data_at n i)) k)

    by : (form : Form) (k : ℕ) → has (ancestors g (record { number = p.number; form = form; index = k })) (data_at n i) ≡ true → ⊥
    by Plain k a = from (nat_lt k g.direct) ((k - g.direct) / pointers_of g) a
    by Indirect k a = over k a
    by Double k a = false≢true a

-- of one node, a chain has one data block
pub data_on_chain : (g : Request) (n i k : ℕ) → k ≢ i → has (chain g n i) (data_at n k) ≡ false
data_on_chain g n i k other = ⊎_elim
    (λ (on : has (chain g n i) (data_at n k) ≡ true). absurd (⊎_elim
    (λ here. other (ap (λ (p : Position). p.index) (is_position (data_at n k) (data_at n i) here)))
    (λ over. above_no_data g (data_at n i) n k over)
    (or_cases (same_position (data_at n k) (data_at n i)) (has (above_data g n i) (data_at n k)) on)))
    (λ (out : has (chain g n i) (data_at n k) ≡ false). out)
    (cases_Bool (has (chain g n i) (data_at n k)))

-- a data block of a node is at one of its indices
pub index_of : (g : Request) (n : ℕ) (indices : List ℕ) (i : ℕ) → has (positions_of g n indices) (data_at n i) ≡ true → has_index indices i ≡ true
index_of g n indices i h =
    let r = chain_of g n indices (data_at n i) h in
    ⊎_elim
    (λ here. ap (has_index indices) (ap (λ (p : Position). p.index) (is_position (data_at n i) (data_at n r.0) here)) ∙ r.1)
    (λ over. absurd (above_no_data g (data_at n r.0) n i over))
    (or_cases (same_position (data_at n i) (data_at n r.0)) (has (above_data g n r.0) (data_at n i)) r.2)

-- ---- a node whose blocks stay where they are

-- the blocks of node n are where they were, with their forms and their owner, and no other is used or not used any more
pub record StaysInPlace (g : Request) (v w : View) (n : ℕ) (indices : List ℕ) : Type 0 where
  pub was_placed : HasPlaces g v n indices
  pub was_once : IsOnce g v n indices
  pub same : (p : Position) → has (positions_of g n indices) p ≡ true → block_at g w p ≡ block_at g v p
  pub low : (p : Position) → p.number ≡ n → p.index < positions_of_form g p.form → block_at g w p ≡ block_at g v p
  pub spots : (p : Position) → has (positions_of g n indices) p ≡ true → is_spot w p.form n (block_at g v p) ≡ true
  pub used : (b : ℕ) → is_used w b ≡ is_used v b
  pub inodes : (x : ℕ) → x ≢ n → w.inodes x ≡ v.inodes x
  pub blocks : (b : ℕ) → is_used v b ≡ true → IsNoBlockOf g v n indices b → w.blocks b ≡ v.blocks b

or_false : (b : Bool) → (b || false) ≡ b
or_false true = refl
or_false false = refl

module _ (g : Request) (v w : View) (n : ℕ) (indices : List ℕ) (s : StaysInPlace g v w n indices) where
  pub stays_changed : NodeChanged g v w n indices indices
  stays_changed = record {
    were = s.was_placed;
    places = record {
      places = λ p number low. subst (λ (b : ℕ). (b ≢ 0) ↔ (has (positions_of g n indices) p ≡ true)) (sym (s.low p number low)) (s.was_placed.places p number low);
      spots = λ p h. subst (λ (b : ℕ). is_spot w p.form n b ≡ true) (sym (s.same p h)) (s.spots p h);
    };
    once = λ p q one two e. s.was_once p q one two (sym (s.same p one) ∙ e ∙ s.same q two);
    inodes = s.inodes;
    blocks = s.blocks;
    taken = λ p h. inr (record { position = p; is_there = h; block = sym (s.same p h) });
    left = λ b used. ⊎_elim
        (λ (own : IsBlockOf g v n indices b). inl (record { position = own.position; is_there = own.is_there; block = s.same own.position own.is_there ∙ own.block }))
        (λ (none : IsNoBlockOf g v n indices b). inr (sym (s.used b) ∙ used, none))
        (block_or_none g v n indices b);
  }

  pub stays_dirty : (c : View) → NodeDirtied g c v w n indices indices [] []
  stays_dirty c = record {
    dirty = λ p h.
        ap (is_new c w) (s.same p h) ∙ ap (λ used. used && not (is_used c (block_at g v p))) (s.used (block_at g v p))
        ∙ sym (ap (λ there. (there && is_dirty g c v p) || false) h ∙ or_false (is_dirty g c v p));
    added = λ i there absent. absurd (false≢true (sym absent ∙ there));
  }

-- ---- nothing changes

pub stays_as_it_is : (g : Request) (v : View) (n : ℕ) (indices : List ℕ) → HasPlaces g v n indices → IsOnce g v n indices → StaysInPlace g v v n indices
stays_as_it_is g v n indices places once = record {
  was_placed = places;
  was_once = once;
  same = λ p h. refl;
  low = λ p number low. refl;
  spots = λ p h. places.spots p h;
  used = λ b. refl;
  inodes = λ x other. refl;
  blocks = λ b used none. refl;
}

-- ---- another head

pub same_entries : (o : Option Inode) (head : Head) → entries_of_inode (with_head o head) ≡ entries_of_inode o
same_entries None head = refl
same_entries (Some (whole old entries)) head = refl
same_entries (Some (broken damage)) head = refl

-- where node n has another inode with the same entries
pub stays_with_inode : (g : Request) (v : View) (n : ℕ) (indices : List ℕ) (o : Option Inode) → entries_of_inode o ≡ entries_of_inode (v.inodes n) → HasPlaces g v n indices → IsOnce g v n indices → StaysInPlace g v (with_inode v n o) n indices
stays_with_inode g v n indices o entries places once = record {
  was_placed = places;
  was_once = once;
  same = λ p h. at p (has-positions_of-number g n indices p h);
  low = λ p number low. at p number;
  spots = λ p h. places.spots p h;
  used = λ b. refl;
  inodes = λ x other. update_apart v.inodes n o x other;
  blocks = λ b used none. refl;
}
  where
    at : (p : Position) → p.number ≡ n → block_at g (with_inode v n o) p ≡ block_at g v p
    at p number = block_at-kept g v (with_inode v n o) p (record {
      entries = ap (λ x. entries_of_inode ((with_inode v n o).inodes x)) number ∙ ap entries_of_inode (update_here v.inodes n o) ∙ entries ∙ ap (λ x. entries_of_inode (v.inodes x)) (sym number);
      nodes = λ q up some. refl;
    })

pub head_stays : (g : Request) (v w : View) (n : ℕ) (head : Head) (indices : List ℕ) → HasPlaces g v n indices → IsOnce g v n indices → HeadSet v w n head → StaysInPlace g v w n indices
head_stays g v w n head indices places once set = subst (λ u. StaysInPlace g v u n indices) (sym set)
    (stays_with_inode g v n indices (with_head (v.inodes n) head) (same_entries (v.inodes n) head) places once)

pub head_contents : (g : Request) (v w : View) (n : ℕ) (head : Head) (indices : List ℕ) → HasPlaces g v n indices → IsOnce g v n indices → HeadSet v w n head → KeepsContents g v w n indices
head_contents g v w n head indices places once set i there =
    let stays = head_stays g v w n head indices places once set in
    let blocks : w.blocks ≡ v.blocks = ap (λ (u : View). u.blocks) set in
    ap (content_at w Plain) (stays.same (data_at n i) (data_there g n indices i there)) ∙ ap (λ f. content Plain (f (data_block g v n i))) blocks

-- ---- other bytes in a data block

bytes_used : (o : Option Block) (list : List ℕ) → content Plain o ≡ bytes list → is_some o ≡ true
bytes_used None list e = absurd (let wrong : unused ≡ bytes list = e in cc)
bytes_used (Some block) list e = refl

module _ (g : Request) (v w : View) (n i at : ℕ) (new : List ℕ) (indices : List ℕ) (places : HasPlaces g v n indices) (once : IsOnce g v n indices) (there : has_index indices i ≡ true) (set : BytesSet v w (data_block g v n i) at new) where
  abbrev place : ℕ
  place = data_block g v n i

  here : has (positions_of g n indices) (data_at n i) ≡ true
  here = data_there g n indices i there

  same_inodes : w.inodes ≡ v.inodes
  same_inodes = ap (λ (u : View). u.inodes) set.working

  other_block : (b : ℕ) → b ≢ place → w.blocks b ≡ v.blocks b
  other_block b other = ap (λ (u : View). u.blocks b) set.working ∙ with_block_apart v place (w.blocks place) b other

  used_now : is_used w place ≡ true
  used_now = bytes_used (w.blocks place) (put_in (bytes_in (content_at v Plain place)) at new) set.content

  used_before : is_used v place ≡ true
  used_before = used_of Plain (v.blocks place) n (places.spots (data_at n i) here)

  -- a block at a position above another is no data block
  node_apart : (p q : Position) → has (positions_of g n indices) p ≡ true → has (ancestors g p) q ≡ true → block_at g v q ≢ place
  node_apart p q h up e =
      let is : q ≡ data_at n i = once q (data_at n i) (node_up g n indices p q h up) here e in
      above_no_data g p n i (subst (λ (r : Position). has (ancestors g p) r ≡ true) is up)

  bytes_same : (p : Position) → has (positions_of g n indices) p ≡ true → block_at g w p ≡ block_at g v p
  bytes_same p h = block_at-kept g v w p (record {
    entries = ap (λ f. entries_of_inode (f p.number)) same_inodes;
    nodes = λ q up some. ap (content q.form) (other_block (block_at g v q) (node_apart p q h up));
  })

  bytes_pointers : KeepsPointers g v w n
  bytes_pointers = record {
    entries = ap (λ f. entries_of_inode (f n)) same_inodes;
    indirect = λ j low some. ap (content Indirect) (other_block (indirect_block g v n j)
        (λ e. data_no_indirect n i n j (sym (once (indirect_at n j) (data_at n i) ((places.places (indirect_at n j) refl low).0 some) here e))));
    double = λ d low some. ap (content Double) (other_block (double_block g v n d)
        (λ e. data_no_double n i n d (sym (once (double_at n d) (data_at n i) ((places.places (double_at n d) refl low).0 some) here e))));
  }

  bytes_spot : (p : Position) → has (positions_of g n indices) p ≡ true → is_spot w p.form n (block_at g v p) ≡ true
  bytes_spot p h = ⊎_elim
      (λ (e : block_at g v p ≡ place).
      let is : p ≡ data_at n i = once p (data_at n i) h here e in
      subst (λ (q : Position). is_spot w q.form n (block_at g v q) ≡ true) (sym is) (ap (is_owned_by n) set.content))
      (λ (other : block_at g v p ≡ place → ⊥). ap (λ o. is_owned_by n (content p.form o)) (other_block (block_at g v p) other) ∙ places.spots p h)
      (cases_eq (block_at g v p) place)

  pub bytes_stay : StaysInPlace g v w n indices
  bytes_stay = record {
    was_placed = places;
    was_once = once;
    same = bytes_same;
    low = λ p number low. block_at-pointers g v w n bytes_pointers p number low;
    spots = bytes_spot;
    used = λ b. ⊎_elim
        (λ (e : b ≡ place). ap (is_used w) e ∙ used_now ∙ sym (ap (is_used v) e ∙ used_before))
        (λ (other : b ≡ place → ⊥). ap is_some (other_block b other))
        (cases_eq b place);
    inodes = λ x other. ap (λ f. f x) same_inodes;
    blocks = λ b used none. other_block b (λ e. none (data_at n i) here (sym e));
  }

  pub bytes_here : content_at w Plain (data_block g w n i) ≡ bytes (put_in (bytes_in (content_at v Plain (data_block g v n i))) at new)
  bytes_here = ap (content_at w Plain) (bytes_same (data_at n i) here) ∙ set.content

  pub bytes_elsewhere : (k : ℕ) → has_index indices k ≡ true → k ≢ i → content_at w Plain (data_block g w n k) ≡ content_at v Plain (data_block g v n k)
  bytes_elsewhere k other apart =
      let at_k = data_there g n indices k other in
      ap (content_at w Plain) (bytes_same (data_at n k) at_k)
      ∙ ap (content Plain) (other_block (data_block g v n k) (λ e. apart (ap (λ (p : Position). p.index) (once (data_at n k) (data_at n i) at_k here e))))

-- ---- a node without blocks

zeros_at : (k i : ℕ) → get_or {A = ℕ} (replicate {A = ℕ} k 0) i 0 ≡ 0
zeros_at zero i = refl
zeros_at (suc k) zero = refl
zeros_at (suc k) (suc i) = zeros_at k i

-- no pointer leads from a node that is absent
no_pointer : (v : View) (form : Form) (b at : ℕ) → b ≡ 0 → pointer_at v form b at ≡ 0
no_pointer v form b at none = ap (λ (k : Bool). cond k 0 (slice_index (entries_in (content_at v form b)) at)) (eq-eqb b 0 none)

module _ (g : Request) (w : View) (n k : ℕ) (none : entries_of_inode (w.inodes n) ≡ replicate k 0) where
  no_entry : (e : ℕ) → entry_at w n e ≡ 0
  no_entry e = ap (λ es. get_or es e 0) none ∙ zeros_at k e

  no_double : (d : ℕ) → double_block g w n d ≡ 0
  unfolding double_block
  no_double d = no_entry (g.direct + g.indirect + d)

  no_indirect : (j : ℕ) → indirect_block g w n j ≡ 0
  unfolding indirect_block
  no_indirect j = elim (nat_lt j g.indirect) as (λ b. cond b (entry_at w n (g.direct + j)) (pointer_at w Double (double_block g w n ((j - g.indirect) / pointers_of g)) ((j - g.indirect) % pointers_of g)) ≡ 0) [
    | true ↦ no_entry (g.direct + j)
    | false ↦ no_pointer w Double (double_block g w n ((j - g.indirect) / pointers_of g)) ((j - g.indirect) % pointers_of g) (no_double ((j - g.indirect) / pointers_of g))
  ]

  no_data : (i : ℕ) → data_block g w n i ≡ 0
  unfolding data_block
  no_data i = elim (nat_lt i g.direct) as (λ b. cond b (entry_at w n i) (pointer_at w Indirect (indirect_block g w n ((i - g.direct) / pointers_of g)) ((i - g.direct) % pointers_of g)) ≡ 0) [
    | true ↦ no_entry i
    | false ↦ no_pointer w Indirect (indirect_block g w n ((i - g.direct) / pointers_of g)) ((i - g.direct) % pointers_of g) (no_indirect ((i - g.direct) / pointers_of g))
  ]

  no_block_at : (form : Form) (i : ℕ) → block_at g w (record { number = n; form = form; index = i }) ≡ 0
  no_block_at Plain i = no_data i
  no_block_at Indirect i = no_indirect i
  no_block_at Double i = no_double i

  pub no_blocks : (p : Position) → p.number ≡ n → block_at g w p ≡ 0
  no_blocks p own = subst (λ (m : ℕ). block_at g w (record { number = m; form = p.form; index = p.index }) ≡ 0) (sym own) (no_block_at p.form p.index)

  pub no_places : HasPlaces g w n []
  no_places = record {
    places = λ p number low. ((λ some. absurd (some (no_blocks p number))), (λ wrong. absurd (false≢true wrong)));
    spots = λ p h. absurd (false≢true h);
  }

-- where number n had no block and has none
pub blockless_changed : (g : Request) (v : View) (n k : ℕ) (o : Option Inode) → HasPlaces g v n [] → entries_of_inode o ≡ replicate k 0 → NodeChanged g v (with_inode v n o) n [] []
blockless_changed g v n k o were none = record {
  were = were;
  places = no_places g (with_inode v n o) n k (ap entries_of_inode (update_here v.inodes n o) ∙ none);
  once = λ p q one two e. absurd (false≢true one);
  inodes = λ x other. update_apart v.inodes n o x other;
  blocks = λ b used apart. refl;
  taken = λ p h. absurd (false≢true h);
  left = λ b used. inr (used, λ p h e. false≢true h);
}

pub blockless_dirty : (g : Request) (c v w : View) (n : ℕ) → NodeDirtied g c v w n [] [] [] []
blockless_dirty g c v w n = record { dirty = λ p h. absurd (false≢true h); added = λ i there absent. absurd (false≢true there) }

pub made_changed : (g : Request) (v w : View) (n : ℕ) (head : Head) → InodeMade g v w head (Some n) → NodeChanged g v w n [] []
made_changed g v w n head made = subst (λ u. NodeChanged g v u n [] []) (sym made.1) (blockless_changed g v n (entries_of g) (Some (empty_inode g head)) (no_places g v n 0 (ap entries_of_inode made.0.absent)) refl)

pub dropped_changed : (g : Request) (v w : View) (n : ℕ) → HasPlaces g v n [] → InodeDropped v w n → NodeChanged g v w n [] []
dropped_changed g v w n were dropped = subst (λ u. NodeChanged g v u n [] []) (sym dropped) (blockless_changed g v n 0 None were refl)

-- ---- positions on a chain are positions that a node may have

above_two : (b : Bool) (x p : Position) → has (cond b [] (x ∷ [])) p ≡ true → (b ≡ false) × (p ≡ x)
above_two true x p h = absurd (false≢true h)
above_two false x p h = (refl, ⊎_elim (λ here. is_position p x here) (λ none. absurd (false≢true none)) (or_cases (same_position p x) false h))

pub chain_low : (g : Request) (n i : ℕ) (p : Position) → i < max_blocks_of g → has (chain g n i) p ≡ true → p.index < positions_of_form g p.form
chain_low g n i p low on = ⊎_elim
    (λ here. subst (λ (q : Position). q.index < positions_of_form g q.form) (sym (is_position p (data_at n i) here)) low)
    (λ over. from (nat_lt i g.direct) refl over)
    (or_cases (same_position p (data_at n i)) (has (above_data g n i) p) on)
  where
    from : (b : Bool) → nat_lt i g.direct ≡ b → has (cond b [] (indirect_at n ((i - g.direct) / pointers_of g) ∷ above_indirect g n ((i - g.direct) / pointers_of g))) p ≡ true → p.index < positions_of_form g p.form
    from true is h = absurd (false≢true h)
    from false is h =
        let row = indirect_below g.direct g.indirect (entries_of g - g.direct - g.indirect) (pointers_of g) i low (ltb-false i g.direct is) in
        ⊎_elim
        (λ here. subst (λ (q : Position). q.index < positions_of_form g q.form) (sym (is_position p (indirect_at n ((i - g.direct) / pointers_of g)) here)) row)
        (λ top.
        let r = above_two (nat_lt ((i - g.direct) / pointers_of g) g.indirect) (double_at n (((i - g.direct) / pointers_of g - g.indirect) / pointers_of g)) p top in
        subst (λ (q : Position). q.index < positions_of_form g q.form) (sym r.1)
        (table_below g.indirect (entries_of g - g.direct - g.indirect) (pointers_of g) ((i - g.direct) / pointers_of g) row (ltb-false ((i - g.direct) / pointers_of g) g.indirect r.0)))
        (or_cases (same_position p (indirect_at n ((i - g.direct) / pointers_of g))) (has (above_indirect g n ((i - g.direct) / pointers_of g)) p) h)
