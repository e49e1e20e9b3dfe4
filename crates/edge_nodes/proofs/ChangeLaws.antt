-- What is left of a spelled node when some of its bytes are written in place.
use Rattle.std.proofs.Common.{◌≡◌, ◌≢◌, inl, inr, ℕ, ◌+◌, ◌*◌, ◌<◌, ◌≤◌, Bool, List, length, drop, get_or, set, sym, ap, ◌∙◌, arith, get_or-set_same, get_or-set_other, length-drop}
use Rattle.std.proofs.lemmas.Bool.{cases_eq, cases_lt}
use Rattle.std.proofs.lemmas.List.{length-set}
use Rattle.std.proofs.lemmas.List.FromFn.{fill_by_all, get_or-map-range_with_len, length-map-range_with_len}
use Rattle.edge_base.specs.declared.geometry.Request.{Request}
use Rattle.edge_base.specs.declared.node.Head.{Head}
use Rattle.edge_base.specs.declared.node.NodeType.TheVariants.{File}
use Rattle.edge_base.specs.layout.Bytes.{number_at, numbers_at, signature_in, bit_in}
use Rattle.edge_base.specs.layout.Places.{entries_of, pointers_of}
use Rattle.edge_base.specs.layout.Spelling.{IsNode, SpellsInode, SpellsPointer, SpellsImap}
use Rattle.edge_nodes.specs.Writing.{ChangesOnly, IsSealed}
use Rattle.edge_nodes.specs.Changes.{HasHead}
use Rattle.edge_nodes.proofs.BytesLaws.{bit_in-drop}
use Rattle.edge_nodes.proofs.WritingLaws.{changes, sealed, numbers_at-back}

-- a number beside the one that is written
elsewhere : (from i k : ℕ) (old new : List ℕ) → k ≢ i → ChangesOnly (from + 4 * i) (from + 4 * i + 4) old new → number_at (from + 4 * k) 4 new ≡ number_at (from + 4 * k) 4 old
elsewhere from i k old new apart kept = elim (cases_lt k i) [
  | inl below ↦ kept.before (from + 4 * k) 4 (omega arith)
  | inr above ↦ kept.behind (from + 4 * k) 4 (omega arith)
]

-- numbers of which one is written
numbers_at-set : (from n i x : ℕ) (old new : List ℕ) → i < n → ChangesOnly (from + 4 * i) (from + 4 * i + 4) old new → number_at (from + 4 * i) 4 new ≡ x
    → numbers_at from n new ≡ set (numbers_at from n old) i x
numbers_at-set from n i x old new inside kept here =
    let was = numbers_at from n old in
    let long : length was ≡ n = length-map-range_with_len (λ k. number_at (from + 4 * k) 4 old) 0 n in
    sym (fill_by_all (λ k. number_at (from + 4 * k) 4 new) (set was i x) n 0 (length-set was i x ∙ long) (λ k below. elim (cases_eq k i) [
      | inl same ↦
          ap (λ (j : ℕ). get_or (set was i x) j 0) same ∙ get_or-set_same was i x 0 (omega (arith, long)) ∙ sym here ∙ ap (λ (j : ℕ). number_at (from + 4 * j) 4 new) (sym same)
      | inr apart ↦
          get_or-set_other was i k x 0 apart ∙ get_or-map-range_with_len (λ j. number_at (from + 4 * j) 4 old) 0 n k k 0 below (omega arith) ∙ sym (elsewhere from i k old new apart kept)
    ]))

-- ---- a node whose check word is put right

module _ (new node : List ℕ) (s : IsSealed new node) where
  -- beside its check word the node has the bytes that were written
  same : ChangesOnly 4 8 new node
  same = changes 4 8 new node s.front s.back

  -- it is as long, if it has more than a header's first half
  long : 8 < length new → length node ≡ length new
  long more = let there = sym (length-drop 8 node) ∙ ap length s.back ∙ length-drop 8 new in omega arith

  -- behind the check word a number is the one that was there before the change, or the one that was written
  number : (at n : ℕ) → 8 ≤ at → number_at at n node ≡ number_at at n new
  number at n past = same.behind at n past

  header : (signature sequence : ℕ) (old : List ℕ) → signature_in new ≡ signature_in old → number_at 8 8 new ≡ sequence → signature_in old ≡ signature → IsNode signature sequence node
  header signature sequence old kept here was = sealed signature sequence new node (kept ∙ was) here s.word s.front s.back

-- ---- an inode

pub inode_head : (g : Request) (before sequence : ℕ) (was head : Head) (entries old new node : List ℕ) → length new ≡ length old → 32 ≤ length old → 1 ≤ head.links → (head.kind ≡ File → head.parent ≡ 0)
    → ChangesOnly 8 32 old new → HasHead sequence head new → SpellsInode g before was entries old → IsSealed new node → SpellsInode g sequence head entries node
inode_head g before sequence was head entries old new node same_long enough some_link no_parent kept has spells s = record {
  len = long new node s (omega arith) ∙ same_long ∙ spells.len;
  node = header new node s _ sequence old (kept.signature (omega arith)) has.sequence_is spells.node.signature_is;
  size = number new node s 16 8 (omega arith) ∙ has.size;
  mode = number new node s 24 2 (omega arith) ∙ has.mode;
  links = number new node s 26 2 (omega arith) ∙ has.links;
  some_link = some_link;
  parent = number new node s 28 4 (omega arith) ∙ has.parent;
  no_parent = no_parent;
  entries_are = numbers_at-back 8 32 (entries_of g) node new (omega arith) s.back ∙ numbers_at-back 32 32 (entries_of g) new old (omega arith) (kept.back 32 (omega arith)) ∙ spells.entries_are;
}

pub inode_entry : (g : Request) (sequence i x : ℕ) (head : Head) (entries old new node : List ℕ) → length new ≡ length old → 32 + 4 * i + 4 ≤ length old
    → ChangesOnly (32 + 4 * i) (32 + 4 * i + 4) old new → number_at (32 + 4 * i) 4 new ≡ x → SpellsInode g sequence head entries old → IsSealed new node
    → SpellsInode g sequence head (set entries i x) node
inode_entry g sequence i x head entries old new node same_long inside kept here spells s =
    let size = spells.len in
    let below : i < entries_of g = omega arith in
    record {
      len = long new node s (omega arith) ∙ same_long ∙ spells.len;
      node = header new node s _ sequence old (kept.signature (omega arith)) (kept.before 8 8 (omega arith) ∙ spells.node.sequence_is) spells.node.signature_is;
      size = number new node s 16 8 (omega arith) ∙ kept.before 16 8 (omega arith) ∙ spells.size;
      mode = number new node s 24 2 (omega arith) ∙ kept.before 24 2 (omega arith) ∙ spells.mode;
      links = number new node s 26 2 (omega arith) ∙ kept.before 26 2 (omega arith) ∙ spells.links;
      some_link = spells.some_link;
      parent = number new node s 28 4 (omega arith) ∙ kept.before 28 4 (omega arith) ∙ spells.parent;
      no_parent = spells.no_parent;
      entries_are = numbers_at-back 8 32 (entries_of g) node new (omega arith) s.back ∙ numbers_at-set 32 (entries_of g) i x old new below kept here ∙ ap (λ l. set l i x) spells.entries_are;
    }

pub inode_sequence : (g : Request) (before sequence : ℕ) (head : Head) (entries old new node : List ℕ) → length new ≡ length old → 16 ≤ length old
    → ChangesOnly 8 16 old new → number_at 8 8 new ≡ sequence → SpellsInode g before head entries old → IsSealed new node → SpellsInode g sequence head entries node
inode_sequence g before sequence head entries old new node same_long inside kept here spells s = record {
  len = long new node s (omega arith) ∙ same_long ∙ spells.len;
  node = header new node s _ sequence old (kept.signature (omega arith)) here spells.node.signature_is;
  size = number new node s 16 8 (omega arith) ∙ kept.behind 16 8 (omega arith) ∙ spells.size;
  mode = number new node s 24 2 (omega arith) ∙ kept.behind 24 2 (omega arith) ∙ spells.mode;
  links = number new node s 26 2 (omega arith) ∙ kept.behind 26 2 (omega arith) ∙ spells.links;
  some_link = spells.some_link;
  parent = number new node s 28 4 (omega arith) ∙ kept.behind 28 4 (omega arith) ∙ spells.parent;
  no_parent = spells.no_parent;
  entries_are = numbers_at-back 8 32 (entries_of g) node new (omega arith) s.back ∙ numbers_at-back 16 32 (entries_of g) new old (omega arith) (kept.back 16 (omega arith)) ∙ spells.entries_are;
}

-- ---- a pointer node

pub pointer_entry : (g : Request) (double : Bool) (sequence owner i x : ℕ) (entries old new node : List ℕ) → length new ≡ length old → 20 + 4 * i + 4 ≤ length old
    → ChangesOnly (20 + 4 * i) (20 + 4 * i + 4) old new → number_at (20 + 4 * i) 4 new ≡ x → SpellsPointer g double sequence owner entries old → IsSealed new node
    → SpellsPointer g double sequence owner (set entries i x) node
pointer_entry g double sequence owner i x entries old new node same_long inside kept here spells s =
    let size = spells.len in
    let below : i < pointers_of g = omega arith in
    record {
      len = long new node s (omega arith) ∙ same_long ∙ spells.len;
      node = header new node s _ sequence old (kept.signature (omega arith)) (kept.before 8 8 (omega arith) ∙ spells.node.sequence_is) spells.node.signature_is;
      owner_is = number new node s 16 4 (omega arith) ∙ kept.before 16 4 (omega arith) ∙ spells.owner_is;
      owner_from = spells.owner_from;
      owner_below = spells.owner_below;
      entries_are = numbers_at-back 8 20 (pointers_of g) node new (omega arith) s.back ∙ numbers_at-set 20 (pointers_of g) i x old new below kept here ∙ ap (λ l. set l i x) spells.entries_are;
    }

pub pointer_sequence : (g : Request) (double : Bool) (before sequence owner : ℕ) (entries old new node : List ℕ) → length new ≡ length old → 16 ≤ length old
    → ChangesOnly 8 16 old new → number_at 8 8 new ≡ sequence → SpellsPointer g double before owner entries old → IsSealed new node → SpellsPointer g double sequence owner entries node
pointer_sequence g double before sequence owner entries old new node same_long inside kept here spells s = record {
  len = long new node s (omega arith) ∙ same_long ∙ spells.len;
  node = header new node s _ sequence old (kept.signature (omega arith)) here spells.node.signature_is;
  owner_is = number new node s 16 4 (omega arith) ∙ kept.behind 16 4 (omega arith) ∙ spells.owner_is;
  owner_from = spells.owner_from;
  owner_below = spells.owner_below;
  entries_are = numbers_at-back 8 20 (pointers_of g) node new (omega arith) s.back ∙ numbers_at-back 16 20 (pointers_of g) new old (omega arith) (kept.back 16 (omega arith)) ∙ spells.entries_are;
}

-- ---- an imap node

pub imap_sequence : (g : Request) (i before sequence : ℕ) (bits old new node : List ℕ) → length new ≡ length old → 16 ≤ length old
    → ChangesOnly 8 16 old new → number_at 8 8 new ≡ sequence → SpellsImap g i before bits old → IsSealed new node → SpellsImap g i sequence bits node
imap_sequence g i before sequence bits old new node same_long inside kept here spells s =
    let back : drop 16 node ≡ drop 16 old = (same new node s).back 16 (omega arith) ∙ kept.back 16 (omega arith) in
    let len = long new node s (omega arith) ∙ same_long in
    record {
      len = len ∙ spells.len;
      in_range = spells.in_range;
      node = header new node s _ sequence old (kept.signature (omega arith)) here spells.node.signature_is;
      bitmap = back ∙ spells.bitmap;
      unused = λ k from below. bit_in-drop 16 node k ∙ ap (λ l. bit_in 0 l k) back ∙ sym (bit_in-drop 16 old k) ∙ spells.unused k from (omega (arith, len));
    }
