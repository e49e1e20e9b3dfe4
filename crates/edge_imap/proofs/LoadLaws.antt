-- Reading all live nodes, and counting their free bits.
use Rattle.std.proofs.Common.{◌≡◌, ◌≢◌, ◌⊎◌, inl, inr, ⊎_elim, ℕ, ◌+◌, ◌*◌, ◌-◌, ◌<◌, ◌≤◌, ◌&&◌, not, Bool, true, false, max, min, List, drop, refl, sym, ap, ◌∙◌, subst, arith}
use Rattle.std.specs.Prelude.{Result, Ok, Err, OnErr, IsErr, IsErrAnd, IfOk, IsTrue, is_ok, is_err}
use Rattle.std.specs.List.{count_by, range_with_len}
use Rattle.std.proofs.lemmas.Bool.{cases_lt}
use Rattle.edge_base.specs.declared.geometry.Request.{Request}
use Rattle.edge_base.specs.declared.node.NodeFault.{NodeFault}
use Rattle.edge_base.specs.layout.Bitmap.{bit_under, used_under, live_place}
use Rattle.edge_base.specs.layout.Bytes.{bit_in, number_at}
use Rattle.edge_base.specs.layout.Places.{is_inline_of, imap_nodes_of, table_start_of, first_allocable_of, allocable_of}
use Rattle.edge_base.specs.layout.Sizes.{node_bits}
use Rattle.edge_base.specs.layout.Spelling.{SpellsImap, imap_in}
use Rattle.edge_base.specs.outside.Faults.{Rose}
use Rattle.edge_alloc.specs.Pairs.{is_free}
use Rattle.edge_cache.specs.Cached.{Cached}
use Rattle.edge_cache.specs.Calls.{content_in}
use Rattle.edge_disk.specs.declared.disk.Disk.{Ghosts}
use Rattle.edge_nodes.proofs.ImapLaws.{imap_in-spelled}
use Rattle.edge_imap.specs.declared.fault.LoadFault.{LoadFault}
use Rattle.edge_imap.specs.declared.fault.LoadFault.TheVariants.{Device, Node, Memory}
use Rattle.edge_imap.specs.Bitmaps.{IsNode, IsWindow, HasNodes, IsTied, bitmaps, bits_of, first_bit, count_clear, count_in_node, allocable_counts}
use Rattle.edge_imap.specs.Reading.{OnlyReads, TellsNode, TellsLoad}
use Rattle.edge_imap.proofs.BitLaws.{bit_in-drop, bit_in_node}
use Rattle.edge_imap.proofs.CallLaws.{shows_on}
use Rattle.edge_imap.proofs.CountLaws.{count-append, count-shift, count-alike, count-none, count-few}

-- ---- one node

pub err_not_ok : {T E : Type 0} (r : Result T E) → is_err r ≡ true → is_ok r ≡ false
err_not_ok (Ok v) h = absurd (cc h)
err_not_ok (Err e) h = refl

-- a node that was read
pub node_read : (g : Request) (j : ℕ) (b : List ℕ) (r : Result ℕ NodeFault) → is_err r ≡ false → IfOk r (λ sequence. SpellsImap g j sequence (drop 16 b) b) → IsNode g j b
node_read g j b (Ok s) h spelled = subst (λ (n : ℕ). SpellsImap g j n (drop 16 b) b) (sym spelled.node.sequence_is) spelled
node_read g j b (Err e) h spelled = absurd (cc h)

-- a node is read as one
pub node_is_ok : (g : Request) (j : ℕ) (b : List ℕ) → IsNode g j b → is_ok (imap_in g j b) ≡ true
node_is_ok g j b n = ap (λ (r : Result ℕ NodeFault). is_ok r) (imap_in-spelled g j b (number_at 8 8 b) (drop 16 b) n)

pub err_is : {T E : Type 0} (r : Result T E) (d : E) → IsErr r × IsErrAnd r (λ e. e ≡ d) → r ≡ Err d
err_is (Ok v) d h = absurd (cc (h.0))
err_is (Err e) d h = ap (λ (x : _). Err x) h.1

-- a fault that tells a node is no device's
not_device : {S : Type 0} (s : Result S LoadFault) (i : ℕ) (read : Result ℕ NodeFault) → s ≡ Err (Node i) → OnErr s ((s ≡ Err Device) ⊎ (is_ok read ≡ false)) → is_ok read ≡ false
not_device (Ok v) i read is h = absurd (cc is)
not_device (Err e) i read is h = ⊎_elim (λ d. absurd (cc (is, d))) (λ b. b) h

-- ---- answers

module _ {D : Type 0} (g : Ghosts D) where
  pub tells_device : {T : Type 0} (j : ℕ) (content : List ℕ) (request : Request) (old new : Cached D) (r : Result T LoadFault) → IsErr r × IsErrAnd r (λ e. e ≡ Device)
      → g.faults old.disk ≤ g.faults new.disk → Rose (g.faults old.disk) (g.faults new.disk) → TellsNode g j content request old new r
  tells_device j content request old new (Ok v) fails later rose = absurd (cc (fails.0))
  tells_device j content request old new (Err e) fails later rose = record {
    later = later;
    passed = tt;
    device = λ h. rose;
    memory = λ h. absurd (cc (fails.1, h));
    node = λ i h. absurd (cc (fails.1, h));
    read = λ i h. absurd (cc (fails.1, h));
    spells_none = λ tells. inl (ap (λ (x : LoadFault). Err x) fails.1);
  }

  pub tells_passed : {T : Type 0} (request : Request) (roots : List ℕ) (old new : Cached D) (v : T) → g.faults new.disk ≡ g.faults old.disk → TellsLoad g request roots old new (Ok v)
  tells_passed request roots old new v same = record {
    later = omega (arith, same);
    passed = same;
    device = λ h. absurd (cc h);
    memory = λ h. absurd (cc h);
    read = λ i h. absurd (cc h);
    in_range = λ i h. absurd (cc h);
    node = λ i h. absurd (cc h);
  }

  -- want of memory, before anything was read
  pub tells_memory : {T : Type 0} (request : Request) (roots : List ℕ) (old : Cached D) (r : Result T LoadFault) → IsErr r × IsErrAnd r (λ e. e ≡ Memory) → TellsLoad g request roots old old r
  tells_memory request roots old (Ok v) fails = absurd (cc (fails.0))
  tells_memory request roots old (Err e) fails = record {
    later = omega arith;
    passed = tt;
    device = λ h. absurd (cc (fails.1, h));
    memory = λ h. refl;
    read = λ i h. absurd (cc (fails.1, h));
    in_range = λ i h. absurd (cc (fails.1, h));
    node = λ i h. absurd (cc (fails.1, h));
  }

  -- the fault of the node of pair j, behind good ones
  pub tells_after : {S T : Type 0} (j : ℕ) (request : Request) (roots : List ℕ) (old mid new : Cached D) (s : Result S LoadFault) (r : Result T LoadFault) (e : LoadFault) → j < imap_nodes_of request
      → OnlyReads g old mid → g.faults mid.disk ≡ g.faults old.disk → (IsTrue (g.origin old.disk).shows → (i : ℕ) → i < j → IsNode request i (content_in g old (live_place request roots i)))
      → TellsNode g j (content_in g mid (live_place request roots j)) request mid new s → s ≡ Err e → IsErr r × IsErrAnd r (λ x. x ≡ e) → TellsLoad g request roots old new r
  tells_after j request roots old mid new s (Ok v) e low reads same good why is fails = absurd (cc (fails.0))
  tells_after j request roots old mid new s (Err x) e low reads same good why is fails = record {
    later = omega (arith, same, why.later);
    passed = tt;
    device = λ h.
        let at : e ≡ Device = cc (fails.1, h) in
        subst (λ (n : ℕ). Rose n (g.faults new.disk)) same (why.device (is ∙ ap (λ (y : LoadFault). Err y) at));
    memory = λ h.
        let at : e ≡ Memory = cc (fails.1, h) in
        absurd (why.memory (is ∙ ap (λ (y : LoadFault). Err y) at));
    read = λ i h.
        let at : e ≡ Node i = cc (fails.1, h) in
        why.read i (is ∙ ap (λ (y : LoadFault). Err y) at) ∙ same;
    in_range = λ i h.
        let at : e ≡ Node i = cc (fails.1, h) in
        let there : i ≡ j = why.node i (is ∙ ap (λ (y : LoadFault). Err y) at) in
        omega (arith, there, low);
    node = λ i h tells.
        let at : e ≡ Node i = cc (fails.1, h) in
        let failed = is ∙ ap (λ (y : LoadFault). Err y) at in
        let there : i ≡ j = why.node i failed in
        let bad = not_device s i (imap_in request j (content_in g mid (live_place request roots j))) failed (why.spells_none (shows_on g old mid reads.origin tells)) in
        let content = ap (λ (b : List ℕ). is_ok (imap_in request j b)) (sym (reads.contents tells (live_place request roots j))) ∙ bad in
        record {
          in_range = omega (arith, there, low);
          spells_none = ap (λ (n : ℕ). is_ok (imap_in request n (content_in g old (live_place request roots n)))) there ∙ content;
          before = λ k lt. node_is_ok request k (content_in g old (live_place request roots k)) (good tells k (omega (arith, lt, there)));
        };
  }

  -- the fault of a load was passed on
  pub tells_same : {S T : Type 0} (request : Request) (roots : List ℕ) (old new : Cached D) (s : Result S LoadFault) (r : Result T LoadFault) (e : LoadFault)
      → TellsLoad g request roots old new s → s ≡ Err e → IsErr r × IsErrAnd r (λ x. x ≡ e) → TellsLoad g request roots old new r
  tells_same request roots old new s (Ok v) e why is fails = absurd (cc (fails.0))
  tells_same request roots old new s (Err x) e why is fails = record {
    later = why.later;
    passed = tt;
    device = λ h. let at : e ≡ Device = cc (fails.1, h) in why.device (is ∙ ap (λ (y : LoadFault). Err y) at);
    memory = λ h. let at : e ≡ Memory = cc (fails.1, h) in why.memory (is ∙ ap (λ (y : LoadFault). Err y) at);
    read = λ i h. let at : e ≡ Node i = cc (fails.1, h) in why.read i (is ∙ ap (λ (y : LoadFault). Err y) at);
    in_range = λ i h. let at : e ≡ Node i = cc (fails.1, h) in why.in_range i (is ∙ ap (λ (y : LoadFault). Err y) at);
    node = λ i h. let at : e ≡ Node i = cc (fails.1, h) in why.node i (is ∙ ap (λ (y : LoadFault). Err y) at);
  }

-- ---- counts

both_not : (a : Bool) → (not a && not a) ≡ not a
both_not true = refl
both_not false = refl

-- the free bits of the window of a node
pub count_window : (g : Request) (j first len : ℕ) (bits b : List ℕ) → bits ≡ drop 16 b → IsWindow g j first len → count_by (is_free bits bits) (range_with_len first len) ≡ count_in_node g j b
count_window g j first len bits b is w =
    let s = j * node_bits g.block_size in
    let many : len ≡ min (s + node_bits g.block_size) (bits_of g) - max (first_bit g) s = omega (arith, w.begins, w.ends) in
    count-alike (λ k. not (bit_in 16 b k)) (is_free bits bits) first len (λ k on lt. both_not (bit_in 0 bits k) ∙ ap not (ap (λ (l : List ℕ). bit_in 0 l k) is ∙ bit_in-drop b k))
    ∙ elim (cases_lt 0 len) [
      | inl some ↦
          let at : first ≡ max (first_bit g) s - s = omega (arith, w.begins, w.ends, some) in
          (λ i. count_by (λ k. not (bit_in 16 b k)) (range_with_len (at i) (many i)))
      | inr none ↦
          let left : len ≡ 0 = omega (arith, none) in
          let right : min (s + node_bits g.block_size) (bits_of g) - max (first_bit g) s ≡ 0 = sym many ∙ left in
          ap (λ (n : ℕ). count_by (λ k. not (bit_in 16 b k)) (range_with_len first n)) left
          ∙ sym (ap (λ (n : ℕ). count_by (λ k. not (bit_in 16 b k)) (range_with_len (max (first_bit g) s - s) n)) right)
    ]

-- how far the nodes before j reach
abbrev pub reached : Request → ℕ → ℕ
reached g j = max (first_bit g) (min (j * node_bits g.block_size) (bits_of g))

abbrev pub count_before : Request → (ℕ → Bool) → ℕ → ℕ
count_before g list j = count_by (λ i. not (list i)) (range_with_len (first_bit g) (reached g j - first_bit g))

pub count_next : (g : Request) (roots : List ℕ) (content : ℕ → List ℕ) (j : ℕ) (b : List ℕ) → is_inline_of g ≡ false → b ≡ content (live_place g roots j)
    → count_before g (bit_under g roots content) (j + 1) ≡ count_before g (bit_under g roots content) j + count_in_node g j b
count_next g roots content j b external is = elim (cases_lt low stop) [
  | inl some ↦
      let at : reached g j ≡ low = omega (arith, some) in
      let to : reached g (j + 1) - first_bit g ≡ (reached g j - first_bit g) + (stop - low) = omega (arith, some, next) in
      let from : first_bit g + (reached g j - first_bit g) ≡ low = omega (arith, some) in
      ap (λ (n : ℕ). count_by q (range_with_len (first_bit g) n)) to ∙ count-append q (first_bit g) (reached g j - first_bit g) (stop - low)
      ∙ (λ i. count_before g (bit_under g roots content) j + (ap (λ (a : ℕ). count_by q (range_with_len a (stop - low))) from ∙ part some) i)
  | inr none ↦
      let len : stop - low ≡ 0 = omega (arith, none) in
      let same : reached g (j + 1) ≡ reached g j = omega (arith, none, next) in
      let empty : count_in_node g j b ≡ 0 = ap (λ (n : ℕ). count_by (λ k. not (bit_in 16 b k)) (range_with_len (low - start) n)) len in
      ap (λ (n : ℕ). count_by q (range_with_len (first_bit g) (n - first_bit g))) same ∙ omega (arith, empty)
]
  where
    start : ℕ
    start = j * node_bits g.block_size

    low : ℕ
    low = max (first_bit g) (j * node_bits g.block_size)

    stop : ℕ
    stop = min (j * node_bits g.block_size + node_bits g.block_size) (bits_of g)

    q : ℕ → Bool
    q i = not (bit_under g roots content i)

    next : (j + 1) * node_bits g.block_size ≡ j * node_bits g.block_size + node_bits g.block_size
    next = omega arith

    part : low < stop → count_by q (range_with_len low (stop - low)) ≡ count_in_node g j b
    part some = count-shift (λ k. not (bit_in 16 b k)) q (j * node_bits g.block_size) (low - start) low (stop - low) (omega arith)
        (λ k on lt. ap not (bit_in_node g roots content j k external (omega (arith, lt, some)) ∙ ap (λ (l : List ℕ). bit_in 16 l k) (sym is)))

pub count_first : (g : Request) (list : ℕ → Bool) → count_before g list 0 ≡ 0
count_first g list = let none : reached g 0 - first_bit g ≡ 0 = omega arith in ap (λ (n : ℕ). count_by (λ i. not (list i)) (range_with_len (first_bit g) n)) none

pub count_last : (g : Request) (list : ℕ → Bool) (k : ℕ) → bits_of g ≤ k * node_bits g.block_size → 3 ≤ allocable_of g → count_before g list k ≡ count_clear g list
count_last g list k all room = let len : reached g k - first_bit g ≡ allocable_of g = omega (arith, all, room) in ap (λ (n : ℕ). count_by (λ i. not (list i)) (range_with_len (first_bit g) n)) len

pub count_before_few : (g : Request) (list : ℕ → Bool) (j : ℕ) → count_before g list j ≤ bits_of g
count_before_few g list j = let few = count-few (λ i. not (list i)) (first_bit g) (reached g j - first_bit g) in omega (arith, few)

-- the counts of two lists that are the same
pub counts_loaded : (g : Request) (roots : List ℕ) (content : ℕ → List ℕ) (n : ℕ) → n ≡ count_clear g (bit_under g roots content)
    → record { free = n; almost = 0 } ≡ allocable_counts g (used_under g roots content) (used_under g roots content)
counts_loaded g roots content n is = λ i. record { free = (is ∙ sym free) i; almost = sym (count-none (used_under g roots content) (first_allocable_of g) (allocable_of g)) i }
  where
    at : (k : ℕ) → used_under g roots content (table_start_of g + k) ≡ bit_under g roots content k
    at k = let same : table_start_of g + k - table_start_of g ≡ k = omega arith in ap (bit_under g roots content) same

    free : count_by (λ b. not (used_under g roots content b) && not (used_under g roots content b)) (range_with_len (first_allocable_of g) (allocable_of g)) ≡ count_clear g (bit_under g roots content)
    free = count-shift (λ i. not (bit_under g roots content i)) (λ b. not (used_under g roots content b) && not (used_under g roots content b)) (table_start_of g) (first_bit g) (first_allocable_of g) (allocable_of g) refl
        (λ k on lt. both_not (used_under g roots content (table_start_of g + k)) ∙ ap not (at k))

pub count_of_roots : (g : Request) (roots : List ℕ) (first len : ℕ) → first ≡ first_bit g → len ≡ allocable_of g → count_by (is_free roots roots) (range_with_len first len) ≡ count_clear g (bit_in 0 roots)
count_of_roots g roots first len at count =
    (λ i. count_by (is_free roots roots) (range_with_len (at i) (count i)))
    ∙ count-alike (λ k. not (bit_in 0 roots k)) (is_free roots roots) (first_bit g) (allocable_of g) (λ k on lt. both_not (bit_in 0 roots k))

-- a bitmap is tied to the cache from which it was read
pub load_tied : (g : Request) (roots c w : List ℕ) (old new : ℕ → List ℕ) (n : ℕ) → c ≡ roots → w ≡ roots → ((k : ℕ) → new k ≡ old k) → HasNodes g roots old → n ≡ count_clear g (bit_under g roots old)
    → IsTied (bitmaps g c w (record { free = n; almost = 0 })) new
load_tied g roots c w old new n one two same nodes is =
    let contents : old ≡ new = λ i k. sym (same k) i in
    let at : IsTied (bitmaps g roots roots (record { free = n; almost = 0 })) old = record { committed = nodes; working = nodes; counts = counts_loaded g roots old n is } in
    subst (λ (f : ℕ → List ℕ). IsTied (bitmaps g c w (record { free = n; almost = 0 })) f) contents
    (subst (λ (l : List ℕ). IsTied (bitmaps g l w (record { free = n; almost = 0 })) old) (sym one) (subst (λ (l : List ℕ). IsTied (bitmaps g roots l (record { free = n; almost = 0 })) old) (sym two) at))

-- a fault that was passed on is not want of memory
pub not_memory : {S T : Type 0} (s : Result S LoadFault) (r : Result T LoadFault) (e : LoadFault) → s ≢ Err Memory → s ≡ Err e → IsErr r × IsErrAnd r (λ x. x ≡ e) → r ≢ Err Memory
not_memory s (Ok v) e never is fails h = absurd (cc (fails.0))
not_memory s (Err x) e never is fails h =
    let at : e ≡ Memory = cc (fails.1, h) in
    never (is ∙ ap (λ (y : LoadFault). Err y) at)
