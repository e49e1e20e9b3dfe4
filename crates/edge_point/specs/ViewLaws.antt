-- The views of a store have what every view has, and the other laws of a store.
use Rattle.std.proofs.Common.{◌≡◌, ℕ, ◌+◌, ◌*◌, ◌<◌, ◌==◌, ◌&&◌, ◌||◌, Bool, true, false, not, cond, List, drop, length, Option, Some, None, Ok, Err, refl, sym, ap, ◌∙◌, subst, arith}
use Rattle.std.specs.Prelude.{Result, IsTrue, is_some, nat_le}
use Rattle.std.specs.List.{range_with_len}
use Rattle.std.proofs.lemmas.Bool.{and_parts}
use Rattle.std.proofs.lemmas.Bool.Decides.{nat_tests}
use Rattle.std.proofs.lemmas.List.{length-map}
use Rattle.std.proofs.lemmas.List.FromFn.{length-range_with_len}
use Rattle.edge_base.specs.declared.damage.Damage.{Damage}
use Rattle.edge_base.specs.declared.damage.DamageKind.TheVariants as kinds
use Rattle.edge_base.specs.declared.form.Form.{Form}
use Rattle.edge_base.specs.declared.form.Form.TheVariants.{Plain, Indirect, Double}
use Rattle.edge_base.specs.declared.geometry.Request.{Request}
use Rattle.edge_base.specs.declared.node.Head.{Head}
use Rattle.edge_base.specs.declared.node.NodeFault.{NodeFault}
use Rattle.edge_base.specs.declared.node.NodeFault.TheVariants.{WrongSignature, WrongWord, WrongField}
use Rattle.edge_base.specs.declared.node.NodeType.TheVariants.{File, Directory}
use Rattle.edge_base.specs.layout.Bitmap.{used_under}
use Rattle.edge_base.specs.layout.Bytes.{number_at, numbers_at, signature_in}
use Rattle.edge_base.specs.layout.Places.{entries_of, inode_place_of, pointers_of}
use Rattle.edge_base.specs.layout.Spelling.{PointerNode, head_fields, inode_in, inode_signature, pointer_in}
use Rattle.edge_base.specs.layout.Word.{check_word_of}
use Rattle.edge_base.proofs.SpellingLaws.{pointer_in-decides}
use Rattle.edge_cache.specs.Calls.{content_in}
use Rattle.edge_disk.specs.declared.disk.Disk.{Ghosts}
use Rattle.edge_image.specs.View.{block_told, inode_by, inode_told, inode_under, view_over}
use Rattle.edge_nodes.proofs.GeometryLaws.{limits}
use Rattle.edge_store.specs.State.{IsLive, Told}
use Rattle.edge_store.specs.View.{Block, Inode, whole, broken, IsInodeDamage, unreadable, two_places, IsView, View, content, is_allocable, is_head, is_number, kind_of_fault, pointers}
use Rattle.edge_anchor.proofs.PlaceLaws.{allocable_within}
use Rattle.edge_point.specs.Seen.{last_view, next_view, places_of, second_alone, state_of, view_told}
use Rattle.edge_point.specs.Standing.{IsPoint}
use Rattle.edge_point.specs.declared.parts.Parts.{Parts}

length-numbers : (from n : ℕ) (b : List ℕ) → length (numbers_at from n b) ≡ n
length-numbers from n b = length-map (range_with_len 0 n) (λ i. number_at (from + 4 * i) 4 b) ∙ length-range_with_len 0 n

only : {X : Type 0} (t : Bool) (o : Option X) (x : X) → cond t o None ≡ Some x → (t ≡ true) × (o ≡ Some x)
only true o x e = (refl, e)
only false o x e = absurd (cc e)

some_only : {X : Type 0} (t : Bool) (o : Option X) → is_some (cond t o None) ≡ true → t ≡ true
some_only true o e = refl
some_only false o e = absurd (cc e)

-- ---- heads

rules_by : (file none : Bool) (size links parent : ℕ) → none ≡ (parent == 0) → nat_le 1 links ≡ true → (file && not none) ≡ false
    → is_head (record { size = size; kind = cond file File Directory; links = links; parent = parent }) ≡ true
rules_by true true size links parent is some good = λ t. some t && sym is t
rules_by true false size links parent is some good = absurd (cc good)
rules_by false none size links parent is some good = λ t. some t && true

-- the tests of an inode in a row, each with its fault
abbrev tested : Bool → Bool → Bool → Bool → Bool → Head → Result Head NodeFault
tested sign word kind none bad head =
    cond (not sign) (Err WrongSignature) (cond (not word) (Err WrongWord)
    (cond (not kind) (Err (WrongField 24)) (cond none (Err (WrongField 26)) (cond bad (Err (WrongField 28)) (Ok head)))))

passed : (sign word kind none bad : Bool) (x y : Head) → tested sign word kind none bad x ≡ Ok y → (none ≡ false) × (bad ≡ false) × (x ≡ y)
passed true true true false false x y e = (refl, refl, cc e)
passed true true true false true x y e = absurd (cc e)
passed true true true true bad x y e = absurd (cc e)
passed true true false none bad x y e = absurd (cc e)
passed true false kind none bad x y e = absurd (cc e)
passed false word kind none bad x y e = absurd (cc e)

some_link : (n : ℕ) → (n == 0) ≡ false → nat_le 1 n ≡ true
some_link n e = grind (arith, nat_tests)

spelled_head : (b : List ℕ) (head : Head) → inode_in b ≡ Ok head → is_head head ≡ true
unfolding inode_in head_fields
spelled_head b head e =
    let file = number_at 24 2 b == 1 in
    let t = passed (signature_in b == inode_signature) (number_at 4 4 b == check_word_of (drop 8 b)) (file || (number_at 24 2 b == 2)) (number_at 26 2 b == 0)
    (file && not (number_at 28 4 b == 0)) (head_fields b) head e in
    subst (λ (h : Head). is_head h ≡ true) t.2
    (rules_by file (number_at 28 4 b == 0) (number_at 16 8 b) (number_at 26 2 b) (number_at 28 4 b) refl (some_link (number_at 26 2 b) t.0) t.1)

-- ---- inodes

some_is : {X : Type 0} (x y : X) → Some x ≡ Some y → x ≡ y
some_is x y e = cc e

told_whole : (g : Request) (b : ℕ) (list : List ℕ) (r : Result Head NodeFault) (head : Head) (entries : List ℕ) → inode_told g b list r ≡ whole head entries
    → (r ≡ Ok head) × (entries ≡ numbers_at 32 (entries_of g) list)
told_whole g b list (Ok h) head entries e =
    let f : whole h (numbers_at 32 (entries_of g) list) ≡ whole head entries = e in
    let same : h ≡ head = cc f in
    (ap Ok same, cc f)
told_whole g b list (Err fault) head entries e = absurd (cc e)

told_full : (g : Request) (b : ℕ) (list : List ℕ) (head : Head) (entries : List ℕ) → inode_told g b list (inode_in list) ≡ whole head entries
    → (length entries ≡ entries_of g) × (is_head head ≡ true)
told_full g b list head entries e =
    let parts = told_whole g b list (inode_in list) head entries e in
    (ap length parts.1 ∙ length-numbers 32 (entries_of g) list, spelled_head list head parts.0)

told_broken : (g : Request) (n : ℕ) (second : Bool) (list : List ℕ) (r : Result Head NodeFault) (d : Damage)
    → inode_told g (inode_place_of g n second) list r ≡ broken d → IsInodeDamage g n d
told_broken g n second list (Ok h) d e = absurd (cc e)
told_broken g n second list (Err fault) d e =
    let f : broken (record { block = inode_place_of g n second; kind = kind_of_fault fault }) ≡ broken d = e in
    subst (IsInodeDamage g n) (cc f) (unreadable second fault)

module _ (g : Request) (bytes : ℕ → List ℕ) (n : ℕ) where
  by_full : (s t : Bool) (head : Head) (entries : List ℕ) → inode_by g bytes n s t ≡ Some (whole head entries)
      → (length entries ≡ entries_of g) × (is_head head ≡ true)
  by_full true true head entries e = absurd (cc e)
  by_full true false head entries e = told_full g (inode_place_of g n false) (bytes (inode_place_of g n false)) head entries (some_is _ _ e)
  by_full false true head entries e = told_full g (inode_place_of g n true) (bytes (inode_place_of g n true)) head entries (some_is _ _ e)
  by_full false false head entries e = absurd (cc e)

  by_broken : (s t : Bool) (d : Damage) → inode_by g bytes n s t ≡ Some (broken d) → IsInodeDamage g n d
  by_broken true true d e =
      let f : Some (broken (record { block = inode_place_of g n false; kind = kinds.TwoPlaces })) ≡ Some (broken d) = e in
      subst (IsInodeDamage g n) (cc f) two_places
  by_broken true false d e = told_broken g n false (bytes (inode_place_of g n false)) (inode_in (bytes (inode_place_of g n false))) d (some_is _ _ e)
  by_broken false true d e = told_broken g n true (bytes (inode_place_of g n true)) (inode_in (bytes (inode_place_of g n true))) d (some_is _ _ e)
  by_broken false false d e = absurd (cc e)

-- ---- blocks

node_full : (g : Request) (double : Bool) (list : List ℕ) (node : PointerNode) → length list ≡ g.block_size → pointer_in g double list ≡ Ok node
    → length node.entries ≡ pointers_of g
node_full g double list node len e =
    let spells = (pointer_in-decides g double list node len).0 e in
    sym (ap length spells.entries_are) ∙ length-numbers 20 (pointers_of g) list

pointers_are : (x y : Result PointerNode NodeFault) → pointers x ≡ pointers y → x ≡ y
pointers_are x y e = cc e

content_full : (g : Request) (form : Form) (t : Bool) (list : List ℕ) (node : PointerNode) → (t ≡ true → length list ≡ g.block_size)
    → content form (cond t (Some (block_told g list)) None) ≡ pointers (Ok node) → length node.entries ≡ pointers_of g
content_full g Plain true list node len e = absurd (cc e)
content_full g Plain false list node len e = absurd (cc e)
content_full g Indirect true list node len e = node_full g false list node (len refl) (pointers_are _ _ e)
content_full g Indirect false list node len e = absurd (cc e)
content_full g Double true list node len e = node_full g true list node (len refl) (pointers_are _ _ e)
content_full g Double false list node len e = absurd (cc e)

-- ---- views

module _ (g : Request) (used : ℕ → Bool) (bytes : ℕ → List ℕ) (whole_blocks : (b : ℕ) → is_allocable g b ≡ true → used b ≡ true → length
    (bytes b) ≡ g.block_size) where
  has_whole : (b : ℕ) → (is_allocable g b && used b) ≡ true → length (bytes b) ≡ g.block_size
  has_whole b e = let parts = and_parts (is_allocable g b) (used b) e in whole_blocks b parts.0 parts.1

  inode_there : (n : ℕ) (inode : Inode) → inode_under g used bytes n ≡ Some inode
      → inode_by g bytes n (used (inode_place_of g n false)) (used (inode_place_of g n true)) ≡ Some inode
  inode_there n inode e = (only (is_number g n) (inode_by g bytes n (used (inode_place_of g n false)) (used (inode_place_of g n true))) inode e).1

  pub over_is_view : IsView g (view_over g used bytes)
  over_is_view = record {
    numbers = λ n some. some_only (is_number g n) (inode_by g bytes n (used (inode_place_of g n false)) (used (inode_place_of g n true))) some;
    full_inodes = λ n head entries e. (by_full g bytes n _ _ head entries (inode_there n (whole head entries) e)).0;
    heads = λ n head entries e. (by_full g bytes n _ _ head entries (inode_there n (whole head entries) e)).1;
    broken_inodes = λ n d e. by_broken g bytes n _ _ d (inode_there n (broken d) e);
    allocable = λ b some. (and_parts (is_allocable g b) (used b) (some_only (is_allocable g b && used b) (Some (block_told g (bytes b))) some)).0;
    full_blocks = λ b block e.
        let parts = only (is_allocable g b && used b) (Some (block_told g (bytes b))) block e in
        sym (ap (λ (x : Block). length x.bytes) (some_is (block_told g (bytes b)) block parts.1)) ∙ has_whole b parts.0;
    full_nodes = λ form b node e. content_full g form (is_allocable g b && used b) (bytes b) node (has_whole b) e;
  }

-- ---- stores

module _ {D : Type 0} (g : Ghosts D) (p : Parts D) (is : IsPoint g p) where
  abbrev request : Request
  request = p.master.geometry

  told_view : (v : View) → IsTrue (g.origin p.cache.disk).shows → IsView request v → IsView request (view_told (g.origin p.cache.disk).shows v)
  told_view v shows view = subst (λ (t : Bool). IsView request (view_told t v)) (sym shows) view

  -- what is shown is whole by the disk's law, also after a fault
  pub committed_view : ((k : ℕ) → IsTrue (g.origin p.cache.disk).shows → k < (g.origin p.cache.disk).blocks
      → length (g.shown p.cache.disk k) ≡ (g.origin p.cache.disk).block_size)
      → Told (state_of g p) → IsView request (state_of g p).committed
  committed_view law told = told_view (last_view g p) told
      (over_is_view request (used_under request p.imap.committed (g.shown p.cache.disk)) (g.shown p.cache.disk)
      (λ b may used. law b told (let within = allocable_within request (limits request is.geometry) b may in let fits = is.fits.blocks in omega arith)
      ∙ is.fits.size))

  pub working_view : Told (state_of g p) → IsLive (state_of g p) → IsView request (state_of g p).working
  working_view told live = told_view (next_view g p) told
      (over_is_view request (used_under request p.imap.working (content_in g p.cache)) (content_in g p.cache) (λ b may used. (is.told live told).whole b may))

  -- an inode lies at one of the places of its number
  pub at_one_place : (n : ℕ) → Told (state_of g p) → (second : Bool) × ((state_of g p).places n ≡ inode_place_of request n second)
  at_one_place n told =
      let used = used_under request p.imap.working (content_in g p.cache) in (
        is_number request n && second_alone (used (inode_place_of request n false)) (used (inode_place_of request n true)),
        ap (λ (t : Bool). cond t (places_of g p n) (inode_place_of request n false)) told,
      )

  -- a live store has no point under way, and no damage
  pub none_under_way : IsLive (state_of g p) → (state_of g p).under_way ≡ None
  none_under_way live = ap (λ (t : Bool). cond t (Some (view_told (g.origin p.cache.disk).shows (next_view g p))) None) (is.untorn live)

  pub none_damaged : IsLive (state_of g p) → (state_of g p).damage ≡ None
  none_damaged live = is.undamaged live
