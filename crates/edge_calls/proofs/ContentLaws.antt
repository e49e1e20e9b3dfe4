-- What is read of a file of the tree that a store stands for.
use Rattle.std.proofs.Common.{◌≡◌, ◌∙◌, ℕ, ◌+◌, ◌-◌, ◌/◌, ◌<◌, ◌≤◌, ◌==◌, Bool, true, false, List, [], ◌∷◌, ◌++◌, length, take, drop, min, unwrap_or, inl, inr, refl, sym, ap, arith, eq-eqb, append_assoc, length-drop, Option, Some, None}
use Rattle.std.specs.Prelude.{slice_index, slice_index_or, Result, Ok}
use Rattle.std.specs.List.{list_any}
use Rattle.std.proofs.lemmas.Bool.{false≢true, cases_Bool, cases_lt, or_left, or_right}
use Rattle.std.proofs.lemmas.List.{take_all, take-append-le}
use Rattle.std.proofs.Math.ListN.{drop_of_length-le}
use Rattle.edge_base.specs.commands.Descriptors.{Descriptor, descriptor_at}
use Rattle.edge_base.specs.commands.Refusals.{◌>>=◌, or_refuse, refuse_if}
use Rattle.edge_base.specs.declared.geometry.Request.{Request}
use Rattle.edge_base.specs.declared.node.Head.{Head}
use Rattle.edge_base.specs.declared.refusal.Refusal.{Refusal}
use Rattle.edge_base.specs.declared.refusal.Refusal.TheVariants as refusal
use Rattle.edge_base.specs.layout.Places.{IsGeometry}
use Rattle.edge_base.specs.tree.NodeRules.{IsFile}
use Rattle.edge_base.specs.tree.Nodes.{Node, file, indices_of, marked_from}
use Rattle.edge_store.specs.Placed.{IsSized}
use Rattle.edge_store.specs.State.{StoreState}
use Rattle.edge_store.specs.View.{View, Inode, IsView, head_of_inode, is_whole}
use Rattle.edge_moves.proofs.SlotLaws.{entries_fit, some_pointers_fit}
use Rattle.edge_file.specs.Bytes.{bytes_at, size_at, size_in}
use Rattle.edge_file.proofs.ByteLaws.{length-bytes}
use Rattle.edge_file.proofs.FileLaws.{file_run}
use Rattle.edge_file.proofs.StepLaws.{some_bytes}
use Rattle.edge_model.specs.Files.{content_of}
use Rattle.edge_model.specs.Open.{file_at}
use Rattle.edge_model.specs.Rules.{IsTree}
use Rattle.edge_model.specs.State.{State}
use Rattle.edge_model.specs.Tree.{Tree, node_at, links_of}
use Rattle.edge_model.proofs.Members.{IsAmong}
use Rattle.edge_model.proofs.SlotLaws.{is_in_marked}
use Rattle.edge_image.specs.Opens.{StandsFor, head_of_node}
use Rattle.edge_stands.proofs.NodeLaws.{with_links_of}
use Rattle.edge_stands.proofs.StandingLaws.{each_sized}
use Rattle.edge_steps.proofs.NodeLaws.{file_is}
use Rattle.edge_volume.specs.Nodes.{head_at, head_of_some}
use Rattle.edge_volume.specs.Volume.{VolumeState, StoreStands, VolumeStands, request_of}

-- ---- a byte of an absent block is 0

listed : (is : List ℕ) (x : ℕ) → IsAmong is x → list_any (λ i. i == x) is ≡ true
listed [] x h = elim h [ ]
listed (i ∷ is) x (inl e) = or_left (i == x) (list_any (λ j. j == x) is) (eq-eqb i x (sym e))
listed (i ∷ is) x (inr h) = or_right (i == x) (list_any (λ j. j == x) is) (listed is x h)

absent_bytes : (g : Request) (content : List ℕ) (present : List Bool) → IsFile g content present → (k : ℕ)
    → list_any (λ i. i == k / g.block_size) (indices_of g (file content present)) ≡ false → slice_index content k ≡ 0
absent_bytes g content present rules k none = elim (cases_Bool (slice_index_or present (k / g.block_size) false)) [
  | inl set ↦ absurd (false≢true (sym none ∙ listed (marked_from 0 present) (k / g.block_size) (is_in_marked present (k / g.block_size) set)))
  | inr clear ↦ rules.absent_zero k clear
]

-- ---- as many bytes as are left

take_left : (rest : List ℕ) (count done : ℕ) → done ≡ min count (length rest) → take count rest ≡ take done rest
take_left rest count done is = elim (cases_lt (length rest) count) [
  | inl less ↦ take_all count rest (omega arith) ∙ sym (take_all done rest (omega (arith, is, less)))
  | inr most ↦ ap (λ (n : ℕ). take n rest) (omega (arith, is, most))
]

take_first : (xs ys zs : List ℕ) (n : ℕ) → length xs ≡ n → take n ((xs ++ ys) ++ zs) ≡ xs
take_first xs ys zs n long =
    ap (take n) (append_assoc xs ys zs) ∙ take-append-le n xs (ys ++ zs) (omega (arith, long)) ∙ take_all n xs (omega (arith, long))

module _ (g : Request) (v : View) (t : Tree) (tree : IsTree g t) (stands : StandsFor g v t) (n : ℕ) (content : List ℕ) (present : List Bool)
    (there : t n ≡ Some (file content present)) where
  pub content_is : content_of (node_at t n) ≡ content
  content_is = ap (λ (o : Option Node). content_of (unwrap_or o (file [] []))) there

  size_is : size_at v n ≡ length content
  size_is = ap (λ (o : Option Inode). size_in (head_of_inode o)) (stands.heads n (file content present) there).inode

  bytes_are : IsGeometry g → IsView g v → (at len : ℕ) → at + len ≤ length content → bytes_at g v n at len ≡ take len (drop at content)
  bytes_are geometry view at len within =
      let rules = tree.nodes n (file content present) there in
      file_run g v n content present (entries_fit g geometry) (some_pointers_fit g geometry) (some_bytes g (some_pointers_fit g geometry)) view
      (ap is_whole (stands.heads n (file content present) there).inode) (stands.nodes n (file content present) there) (absent_bytes g content present rules)
      at len rules.size within

  -- `len` bytes were asked for, as many of `count` as are left
  pub piece_is : IsGeometry g → IsView g v → (old new more : List ℕ) (at count len done : ℕ) → len ≡ min (length content - at) count
      → length old ≡ len → done ≡ min (length old) (size_at v n - at) → at ≤ length content → new ≡ bytes_at g v n at done ++ drop done old
      → (done ≡ len) × (take count (drop at content) ≡ take done (new ++ more)) × (length (take done (new ++ more)) ≡ done)
  piece_is geometry view old new more at count len done is long reads low put =
      let size = size_is in
      let whole : done ≡ len = omega (arith, is, long, reads, size) in
      let rest = length-drop at content in
      let bytes = bytes_are geometry view at done (omega (arith, whole, is, low)) in
      let front : take done (new ++ more) ≡ bytes_at g v n at done = ap (λ (xs : List ℕ). take done (xs ++ more)) put
      ∙ take_first (bytes_at g v n at done) (drop done old) more done (length-bytes g v n at done) in (
        whole,
        take_left (drop at content) count done (omega (arith, whole, is, rest)) ∙ sym bytes ∙ sym front,
        ap length front ∙ length-bytes g v n at done,
      )

-- ---- the file of a descriptor

file_kind : (o : Option Descriptor) (d : Descriptor) → Ok d ≡ (or_refuse o refusal.BadDescriptor >>= (λ x. refuse_if x.directory refusal.IsDir >>= (λ u. Ok x)))
    → (d.directory ≡ false) × (o ≡ Some d)
file_kind None d is = absurd (cc)
file_kind (Some x) d is = by x.directory refl is
  where
    by : (b : Bool) → x.directory ≡ b → Ok d ≡ (refuse_if b refusal.IsDir >>= (λ u. Ok x)) → (d.directory ≡ false) × (Some x ≡ Some d)
    by true was e = absurd (cc)
    by false was e = let same : d ≡ x = cc in (ap (λ (y : Descriptor). y.directory) same ∙ was, ap Some (sym same))

-- a file that is open is there
pub open_file_is : (v : VolumeState) (s : State) (h : ℕ) (d : Descriptor) → VolumeStands v s → Ok d ≡ file_at s h
    → (content : List ℕ) × (present : List Bool) × (s.tree d.number ≡ Some (file content present))
open_file_is v s h d stands is =
    let r = file_kind (descriptor_at s.descriptors h) d is in
    let names = stands.session.trees.descriptors h d r.1 in
    file_is s.tree d.number names.there (names.kind ∙ r.0)

-- and its head is not refused
pub head_of_open : (g : Request) (t : Tree) (n : ℕ) (content : List ℕ) (present : List Bool) (r : Result Head Refusal) → t n ≡ Some (file content present)
    → r ≡ or_refuse (head_at g t n) refusal.BadDescriptor → r ≡ Ok (head_of_node g t n (file content present))
head_of_open g t n content present r there is = is ∙ ap (λ (o : Option Node). or_refuse (head_of_some g t n o) refusal.BadDescriptor) there

-- the bytes of a file from the position of a descriptor on
abbrev pub rest_of : Tree → Descriptor → List ℕ
rest_of t d = drop d.at (content_of (node_at t d.number))

module _ (v : VolumeState) (s : State) (h : ℕ) (d : Descriptor) (stands : VolumeStands v s) (is : Ok d ≡ file_at s h) (head : Head)
    (told : Ok head ≡ or_refuse (head_at (request_of v) s.tree d.number) refusal.BadDescriptor) where
  size_told : head.size ≡ length (open_file_is v s h d stands is).0
  size_told =
      let f = open_file_is v s h d stands is in
      let there = head_of_open (request_of v) s.tree d.number f.0 f.1 (Ok head) f.2 told in
      let same : head ≡ head_of_node (request_of v) s.tree d.number (file f.0 f.1) = cc in
      ap (λ (x : Head). x.size) same

  -- nothing is left at its end
  pub none_left : head.size ≤ d.at → rest_of s.tree d ≡ []
  none_left past =
      let f = open_file_is v s h d stands is in
      let size = size_told in
      ap (drop d.at) (ap (λ (o : Option Node). content_of (unwrap_or o (file [] []))) f.2) ∙ drop_of_length-le f.0 (omega (arith, size, past))

  -- what was read before it, in a store that stands for the same state
  pub piece_left : (m : StoreState) → StoreStands m s → IsTree m.origin.request s.tree → IsGeometry m.origin.request → (old new more : List ℕ) (count len done : ℕ)
      → d.at < head.size → 1 ≤ count → len ≡ min (head.size - d.at) count → length old ≡ len → done ≡ min (length old) (size_at m.working d.number - d.at)
      → new ≡ bytes_at m.origin.request m.working d.number d.at done ++ drop done old
      → (take count (rest_of s.tree d) ≡ take done (new ++ more)) × (length (take done (new ++ more)) ≡ done) × (0 < done)
  piece_left m here tree geometry old new more count len done low some least long reads put =
      let f = open_file_is v s h d stands is in
      let size = size_told in
      let k = piece_is m.origin.request m.working s.tree tree here.views.tree d.number f.0 f.1 f.2 geometry here.views.working_is_view old new more d.at count len
      done (least ∙ ap (λ (n : ℕ). min (n - d.at) count) size) long reads (omega (arith, size, low)) put in
      let whole = k.0 in (
        ap (λ (xs : List ℕ). take count (drop d.at xs)) (content_is m.origin.request m.working s.tree tree here.views.tree d.number f.0 f.1 f.2) ∙ k.1,
        k.2,
        omega (arith, whole, least, low, some),
      )

  -- no damage is told in reading it
  pub file_sound : (m : StoreState) → StoreStands m s → IsTree m.origin.request s.tree → IsGeometry m.origin.request → IsSized m.origin.request m.working d.number
  file_sound m here tree geometry =
      let f = open_file_is v s h d stands is in
      each_sized m.origin.request m.working s.tree (links_of m.origin.request s.tree) here.views.working_is_view
      ((with_links_of m.origin.request m.working s.tree).0 here.views.tree) d.number (file f.0 f.1) f.2 geometry (tree.nodes d.number (file f.0 f.1) f.2)
