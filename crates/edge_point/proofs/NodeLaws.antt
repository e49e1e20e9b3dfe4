-- The bytes of a block as pointer nodes.
use Rattle.std.proofs.Common.{◌≡◌, ◌≢◌, ℕ, ◌+◌, ◌*◌, ◌^◌, ◌<◌, ◌≤◌, ◌==◌, Bool, true, false, cond, not, List, ◌++◌, length, take, drop, set, replicate, Option, Some, None, refl, sym, ap, ◌∙◌, subst, arith}
use Rattle.std.specs.Prelude.{Ok, Err, is_some}
use Rattle.byteorder.specs.Endian.{little_bytes}
use Rattle.byteorder.specs.Numbers.{length-bytes_low_first}
use Rattle.edge_base.specs.declared.form.Form.{Form}
use Rattle.edge_base.specs.declared.form.Form.TheVariants.{Plain, Indirect, Double}
use Rattle.edge_base.specs.declared.geometry.Request.{Request}
use Rattle.edge_base.specs.declared.node.NodeFault.TheVariants.{WrongField, WrongSignature, WrongWord}
use Rattle.edge_base.specs.layout.Bytes.{number_at, signature_in}
use Rattle.edge_base.specs.layout.Places.{pointers_of}
use Rattle.edge_base.specs.layout.Spelling.{PointerNode, SpellsPointer, is_owner, pointer_fields, pointer_in, pointer_signature}
use Rattle.edge_base.specs.layout.Word.{check_word_of}
use Rattle.edge_base.proofs.SpellingLaws.{pointer_in-decides, pointer_in-spelled}
use Rattle.edge_cache.specs.Blocks.{changed_by, marked, put_at, word_holds_in}
use Rattle.edge_cache.proofs.SealLaws.{drop-put_at, length-put_at, take-put_at}
use Rattle.edge_image.specs.View.{block_told}
use Rattle.edge_image.proofs.FormattedLaws.{no_signature}
use Rattle.edge_nodes.specs.Changes.{ChangesSequence}
use Rattle.edge_nodes.specs.Writing.{ChangesOnly, IsSealed}
use Rattle.edge_nodes.proofs.ChangeLaws.{pointer_entry, pointer_sequence}
use Rattle.edge_nodes.proofs.WritingLaws.{changes, number_at-with_bytes, with_bytes}
use Rattle.edge_store.specs.View.{Block, View, content, pointers}
use Rattle.edge_point.proofs.PlacedLaws.{is_sealed}
use Rattle.edge_point.specs.Uses.{BlockEmptied, BlockPut, CopyPut, IsCopy, IsEmptyAs, content_of, form_of}

-- ---- the other kind

wrong_by : (g : Request) (kind : Bool) (b : List ℕ) (s : ℕ) → signature_in b ≡ s → (s == pointer_signature kind) ≡ false
    → pointer_in g kind b ≡ Err WrongSignature
unfolding pointer_in
wrong_by g kind b s is off = ap (λ t. cond (not t) (Err WrongSignature) (cond (not (number_at 4 4 b == check_word_of (drop 8 b))) (Err WrongWord)
    (cond (not (is_owner g (number_at 16 4 b))) (Err (WrongField 16)) (Ok (pointer_fields g b))))) (ap (λ (x : ℕ). x == pointer_signature kind) is ∙ off)

-- a node of one kind is none of the other
pub other_kind : (g : Request) (double : Bool) (b : List ℕ) → signature_in b ≡ pointer_signature double → pointer_in g (not double) b ≡ Err WrongSignature
other_kind g true b is = wrong_by g false b (pointer_signature true) is refl
other_kind g false b is = wrong_by g true b (pointer_signature false) is refl

-- a node is read as itself, and as none of the other kind
pub both_kinds : (g : Request) (double : Bool) (sequence owner : ℕ) (entries b : List ℕ) → SpellsPointer g double sequence owner entries b
    → (pointer_in g double b ≡ Ok (record { owner = owner; entries = entries })) × (pointer_in g (not double) b ≡ Err WrongSignature)
both_kinds g double sequence owner entries b spells = (
  pointer_in-spelled g double sequence owner entries b spells,
  other_kind g double b
      spells.node.signature_is,
)

by_kind : (double kind : Bool) (P : Bool → Type 0) → P double → P (not double) → P kind
by_kind true true P same other = same
by_kind true false P same other = other
by_kind false true P same other = other
by_kind false false P same other = same

-- ---- nothing in it

pub empty_plain : (g : Request) (owner : ℕ) → IsEmptyAs g Plain owner (replicate g.block_size 0)
empty_plain g owner = record { content = refl; spells_no_other = none }
  where
    none : (other : Form) → other ≢ Plain → other ≢ Plain → content_of g other (replicate g.block_size 0) ≡ pointers (Err WrongSignature)
    none Plain node far = absurd (node refl)
    none Indirect node far = ap pointers (wrong_by g false (replicate g.block_size 0) 0 (no_signature g.block_size) refl)
    none Double node far = ap pointers (wrong_by g true (replicate g.block_size 0) 0 (no_signature g.block_size) refl)

pub empty_node : (g : Request) (double : Bool) (sequence owner : ℕ) (b : List ℕ) → SpellsPointer g double sequence owner (replicate (pointers_of g) 0) b
    → IsEmptyAs g (form_of double) owner b
empty_node g true sequence owner b spells =
    let both = both_kinds g true sequence owner (replicate (pointers_of g) 0) b spells in
    record { content = ap pointers both.0; spells_no_other = none both.1 }
  where
    none : pointer_in g false b ≡ Err WrongSignature → (other : Form) → other ≢ Plain → other ≢ Double → content_of g other b ≡ pointers (Err WrongSignature)
    none wrong Plain node far = absurd (node refl)
    none wrong Indirect node far = ap pointers wrong
    none wrong Double node far = absurd (far refl)
empty_node g false sequence owner b spells =
    let both = both_kinds g false sequence owner (replicate (pointers_of g) 0) b spells in
    record { content = ap pointers both.0; spells_no_other = none both.1 }
  where
    none : pointer_in g true b ≡ Err WrongSignature → (other : Form) → other ≢ Plain → other ≢ Indirect → content_of g other b ≡ pointers (Err WrongSignature)
    none wrong Plain node far = absurd (node refl)
    none wrong Indirect node far = absurd (far refl)
    none wrong Double node far = ap pointers wrong

-- what is put into a used block is there
pub put_here : (g : Request) (v w : View) (b : ℕ) (bytes : List ℕ) → ((block : Block) → v.blocks b ≡ Some block → w.blocks b ≡ Some (block_told g bytes))
    → is_some (v.blocks b) ≡ true → w.blocks b ≡ Some (block_told g bytes)
put_here g v w b bytes each on = by_use (v.blocks b) refl on
  where
    by_use : (o : Option Block) → v.blocks b ≡ o → is_some o ≡ true → w.blocks b ≡ Some (block_told g bytes)
    by_use None e on = absurd (cc on)
    by_use (Some block) e on = each block e

pub emptied : (g : Request) (v w : View) (form : Form) (owner b : ℕ) (bytes : List ℕ) → BlockPut g v w b (λ old. bytes) → is_some (v.blocks b) ≡ true
    → IsEmptyAs g form owner bytes → BlockEmptied g v w form owner b
emptied g v w form owner b bytes put on empty =
    let here = put_here g v w b bytes put.bytes on in
    record {
      working = put.working;
      content = ap (content form) here ∙ empty.content;
      spells_no_other = λ other node far. ap (content other) here ∙ empty.spells_no_other other node far;
    }

-- ---- nodes whose check word was put right

-- a node that is written with its check word put right is the same node
pub same_node : (g : Request) (double : Bool) (sequence owner : ℕ) (entries b node : List ℕ) → 16 ≤ length b → SpellsPointer g double sequence owner entries b
    → IsSealed b node → SpellsPointer g double sequence owner entries node
same_node g double sequence owner entries b node long spells is = pointer_sequence g double sequence sequence owner entries b b node refl long
    (changes 8 16 b b refl refl) spells.node.sequence_is spells is

-- ---- copies

pub plain_copy : (g : Request) (from to : List ℕ) → to ≡ from → IsCopy g false from to
plain_copy g from to is = record { plain = λ e. is; spelled = λ e. absurd (cc e) }

pub node_copy : (g : Request) (sequence : ℕ) (from mid to : List ℕ) → length from ≡ g.block_size → ChangesSequence sequence from mid → IsSealed mid to
    → IsCopy g true from to
node_copy g sequence from mid to len change is = record {
  plain = λ e. absurd (cc e);
  spelled = λ e double node read kind.
      let was = (pointer_in-decides g double from node len).0 read in
      let now = change.pointer g double (number_at 8 8 from) node.owner node.entries to was is in
      let before = both_kinds g double (number_at 8 8 from) node.owner node.entries from was in
      let after = both_kinds g double sequence node.owner node.entries to now in
      by_kind double kind (λ k. pointer_in g k to ≡ pointer_in g k from) (after.0 ∙ sym before.0) (after.1 ∙ sym before.1);
}

-- ---- one pointer

pub pointer_put : (g : Request) (double : Bool) (owner i to : ℕ) (node : PointerNode) (word old new : List ℕ) → length old ≡ g.block_size
    → 20 + 4 * i + 4 ≤ g.block_size → to < 2 ^ 32 → word ≡ little_bytes 4 to → pointer_in g double old ≡ Ok node → node.owner ≡ owner
    → new ≡ changed_by (20 + 4 * i) word true old → word_holds_in new ≡ true
    → (pointer_in g double new ≡ Ok (record { owner = owner; entries = set node.entries i to })) × (pointer_in g (not double) new ≡ Err WrongSignature)
pointer_put g double owner i to node word old new len inside small bytes read owned is holds =
    let at = 20 + 4 * i in
    let four : length word ≡ 4 = ap length bytes ∙ length-bytes_low_first 0 4 to in
    let mid = put_at at word old in
    let long : length mid ≡ length old = length-put_at at word old (omega arith) in
    let kept : ChangesOnly at (at + 4) old mid = changes at (at + 4) old mid (take-put_at at at word old (omega arith) (omega arith))
    (drop-put_at at (at + 4) word old (omega arith) (omega arith)) in
    let whole : mid ≡ with_bytes at 4 (little_bytes 4 to) old = (λ t. take at old ++ (bytes t ++ drop (at + four t) old)) in
    let here : number_at at 4 mid ≡ to = ap (number_at at 4) whole ∙ number_at-with_bytes at 4 to old (omega arith) small in
    let was = (pointer_in-decides g double old node len).0 read in
    let now = pointer_entry g double (number_at 8 8 old) node.owner i to node.entries old mid new long (omega arith) kept here was
    (is_sealed mid new (omega arith) is holds) in
    both_kinds g double (number_at 8 8 old) owner (set node.entries i to) new
    (subst (λ (n : ℕ). SpellsPointer g double (number_at 8 8 old) n (set node.entries i to) new) owned now)

-- the bytes of a room that were written whole, a node's with another sequence number and its check word put right
pub room_copy : (g : Request) (sequence : ℕ) (node : Bool) (from mid to : List ℕ) → length from ≡ g.block_size → 8 ≤ length mid → (node ≡ false → mid ≡ from)
    → (node ≡ true → ChangesSequence sequence from mid) → to ≡ marked node mid → (node ≡ true → word_holds_in to ≡ true) → IsCopy g node from to
room_copy g sequence true from mid to len long plain change is word = node_copy g sequence from mid to len (change refl) (is_sealed mid to long is (word refl))
room_copy g sequence false from mid to len long plain change is word = plain_copy g from to (is ∙ plain refl)

pub copy_put : (g : Request) (v w : View) (b : ℕ) (node : Bool) (from to : List ℕ) → BlockPut g v w b (λ old. to) → IsCopy g node from to
    → CopyPut g v w b node from
copy_put g v w b node from to put copy = record { working = put.working; to = to; copy = copy; bytes = λ on. put_here g v w b to put.bytes on }
