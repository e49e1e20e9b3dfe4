-- What is told of the working view after a change of an inode, or of blocks.
use Rattle.std.proofs.Common.{◌≡◌, ◌≢◌, ◌⊎◌, inl, inr, ⊎_elim, ℕ, ◌&&◌, Bool, true, false, not, length, None, refl, sym, ap, ◌∙◌, subst, arith}
use Rattle.std.specs.Prelude.{IsTrue, if◌then◌else◌}
use Rattle.std.proofs.lemmas.Bool.{cases_eq}
use Rattle.edge_base.specs.declared.geometry.Request.{Request}
use Rattle.edge_base.specs.layout.Bitmap.{live_place, used_under}
use Rattle.edge_base.specs.layout.Places.{IsWithinLimits, inode_place_of}
use Rattle.edge_cache.specs.Calls.{content_in}
use Rattle.edge_disk.specs.Disk.{Origin}
use Rattle.edge_disk.specs.declared.disk.Disk.{Ghosts}
use Rattle.edge_image.specs.Image.{free_inodes_of, is_free}
use Rattle.edge_image.specs.View.{block_under, inode_under, view_over}
use Rattle.edge_image.proofs.AlikeLaws.{count_alike}
use Rattle.edge_nodes.proofs.GeometryLaws.{limits}
use Rattle.edge_store.specs.Calls.{KeepsPlaces, KeepsPlacesBut}
use Rattle.edge_store.specs.View.{View, is_allocable, is_number, with_block, with_inode}
use Rattle.edge_anchor.specs.Anchor.{Anchor, HasBit, to_node}
use Rattle.edge_anchor.specs.Medium.{medium_of, shown_alone}
use Rattle.edge_anchor.proofs.PlaceLaws.{allocable_within, block_has_bit, low_place, number_within, place_has_bit}
use Rattle.edge_anchor.proofs.ViewLaws.{block_changes, inode_changes, used_same}
use Rattle.edge_point.specs.Changing.{Changes, HasWorking, IsPlaceFor, committed_of, working_of}
use Rattle.edge_point.specs.Seen.{anchor_of, next_view, place_under, places_of, second_alone, state_of, view_told}
use Rattle.edge_point.specs.Standing.{IsPoint}
use Rattle.edge_point.specs.declared.parts.Parts.{Parts}
use Rattle.edge_point.proofs.ChangeLaws.{changed, follows_shown, last_shown, list_shown}
use Rattle.edge_point.proofs.RoomLaws.{within}
use Rattle.edge_phase.proofs.SparedLaws.{spared_shown}
use Rattle.edge_point.proofs.TakesLaws.{if_same}

-- ---- places

-- no inode lies in an allocable block, and none at a place of another
module _ (r : Request) (bounds : IsWithinLimits r) where
  pub place_not_block : (n b : ℕ) → is_number r n ≡ true → is_allocable r b ≡ true → IsPlaceFor r n b → ⊥
  place_not_block n b number may = ⊎_elim (λ e. far false e) (λ e. far true e)
    where
      far : (second : Bool) → b ≡ inode_place_of r n second → ⊥
      far second e =
          let within = number_within r bounds n number in
          let from = (allocable_within r bounds b may).0 in
          let low = low_place second in
          omega (arith, e)

  pub place_apart : (n k : ℕ) (second : Bool) → is_number r n ≡ true → is_number r k ≡ true → k ≢ n → IsPlaceFor r n (inode_place_of r k second) → ⊥
  place_apart n k second number other apart = ⊎_elim (λ e. far false e) (λ e. far true e)
    where
      far : (at : Bool) → inode_place_of r k second ≡ inode_place_of r n at → ⊥
      far at e =
          let within = number_within r bounds n number in
          let too = number_within r bounds k other in
          let low = low_place second in
          let lower = low_place at in
          apart (omega (arith, e))

-- a number keeps its place where the list keeps both
place_stays : (r : Request) (used now : ℕ → Bool) (k : ℕ) → (is_number r k ≡ true → (second : Bool) → now (inode_place_of r k second) ≡ used (inode_place_of r k second))
    → place_under r now k ≡ place_under r used k
place_stays r used now k same = by_number (is_number r k) refl
  where
    by_number : (t : Bool) → is_number r k ≡ t → place_under r now k ≡ place_under r used k
    by_number true e = λ t. inode_place_of r k (is_number r k && second_alone (same e false t) (same e true t))
    by_number false e =
        ap (λ t. inode_place_of r k (t && second_alone (now (inode_place_of r k false)) (now (inode_place_of r k true)))) e
        ∙ sym (ap (λ t. inode_place_of r k (t && second_alone (used (inode_place_of r k false)) (used (inode_place_of r k true)))) e)

module _ {D : Type 0} (g : Ghosts D) (IsSuch : ℕ → Type 0) (p q : Parts D) (is : IsPoint g p) (live : p.live ≡ true) (c : Changes g IsSuch p q) where
  abbrev request : Request
  request = p.master.geometry

  abbrev bounds : IsWithinLimits request
  bounds = limits request is.geometry

  abbrev last : Anchor
  last = anchor_of g p

  same_geometry : q.master.geometry ≡ request
  same_geometry = λ t. (c.master t).geometry

  tells : (g.origin q.cache.disk).shows ≡ (g.origin p.cache.disk).shows
  tells = ap (λ (o : Origin). o.shows) c.origin

  -- the list of the last point stays
  pub last_list : IsTrue (g.origin p.cache.disk).shows → (k : ℕ) → HasBit request k → committed_of g q k ≡ committed_of g p k
  last_list shows k has = (λ t. used_under (same_geometry t) (c.committed t) (content_in g q.cache) k)
      ∙ list_shown g q.cache (anchor_of g (changed g p q true None)) bounds (last_shown g IsSuch p q c is live shows true None) k has
      ∙ used_same request p.imap.committed (g.shown p.cache.disk) (g.shown q.cache.disk) bounds
      (λ i below. spared_shown last (shown_alone (medium_of g p.cache)) (shown_alone (medium_of g q.cache)) (follows_shown g IsSuch p q c is live shows)
      (is.told live shows).committed (live_place request p.imap.committed i) (inr (to_node i below refl))) k has
      ∙ sym (list_shown g p.cache last bounds (is.told live shows).committed k has)

  -- the views, where they are told
  pub told_next : IsTrue (g.origin p.cache.disk).shows → (state_of g p).working ≡ next_view g p
  told_next shows = ap (λ t. view_told t (next_view g p)) shows

  pub told_after : IsTrue (g.origin p.cache.disk).shows → (state_of g q).working ≡ next_view g q
  told_after shows = ap (λ t. view_told t (next_view g q)) (tells ∙ shows)

  -- the place of an inode
  keeps_place : (k : ℕ) → (IsTrue (g.origin p.cache.disk).shows → is_number request k ≡ true → (second : Bool)
      → working_of g q (inode_place_of request k second) ≡ working_of g p (inode_place_of request k second))
      → (state_of g q).places k ≡ (state_of g p).places k
  keeps_place k same = (λ t. if (g.origin q.cache.disk).shows then place_under (same_geometry t) (working_of g q) k else inode_place_of (same_geometry t) k false)
      ∙ if_same _ _ (place_under request (working_of g q) k) (places_of g p k) (inode_place_of request k false) tells
      (λ shows. place_stays request (working_of g p) (working_of g q) k (same shows))

  -- Where the bits of the inode table stay, and the blocks that changed keep their length, all is told that was.
  pub has_working_table : IsTrue (g.origin p.cache.disk).shows → q.numbers ≡ p.numbers
      → ((k : ℕ) (second : Bool) → is_number request k ≡ true → working_of g q (inode_place_of request k second) ≡ working_of g p (inode_place_of request k second))
      → ((k : ℕ) → IsSuch k ⊎ (IsSuch k → ⊥)) → ((k : ℕ) → IsSuch k → length (content_in g q.cache k) ≡ request.block_size) → HasWorking g q
  has_working_table shows numbers table which whole = record {
    numbers = numbers ∙ (is.told live shows).numbers
        ∙ sym (count_alike (is_free request (working_of g q)) (is_free request (working_of g p)) 2 request.inodes (λ k from below.
        let is_one : is_number request k ≡ true = within 2 request.inodes k from below in
        λ t. not (table k false is_one t) && not (table k true is_one t)))
        ∙ (λ t. free_inodes_of (sym same_geometry t) (working_of g q));
    whole = λ b may.
        let here = subst (λ (r : Request). is_allocable r b ≡ true) same_geometry may in
        elim (which b) as (λ x. length (content_in g q.cache b) ≡ request.block_size) [
          | inl such ↦ whole b such
          | inr far ↦ ap length (c.contents shows b (block_has_bit request bounds b here) far) ∙ (is.told live shows).whole b here
        ] ∙ (λ t. (sym same_geometry t).block_size);
    both_stay = subst (λ (r : Request). (k : ℕ) → is_number r k ≡ true → committed_of g q (inode_place_of r k false) ≡ true
        → committed_of g q (inode_place_of r k true) ≡ true → (second : Bool) → working_of g q (inode_place_of r k second) ≡ true) (sym same_geometry)
        (λ k is_one one two second. table k second is_one ∙ (is.told live shows).both_stay k is_one
        (sym (last_list shows (inode_place_of request k false) (place_has_bit request bounds k false is_one)) ∙ one)
        (sym (last_list shows (inode_place_of request k true) (place_has_bit request bounds k true is_one)) ∙ two) second);
  }

  -- ---- an inode

  module _ (n : ℕ) (number : is_number request n ≡ true) (only : (k : ℕ) → IsSuch k → IsPlaceFor request n k) where
    pub other_used : IsTrue (g.origin p.cache.disk).shows → (k : ℕ) (second : Bool) → is_number request k ≡ true → k ≢ n
        → working_of g q (inode_place_of request k second) ≡ working_of g p (inode_place_of request k second)
    other_used shows k second is_one apart = c.used shows (inode_place_of request k second) (place_has_bit request bounds k second is_one)
        (λ such. place_apart request bounds n k second number is_one apart (only _ such))

    pub keeps_places_but : KeepsPlacesBut (state_of g p) (state_of g q) n
    keeps_places_but k far = keeps_place k (λ shows is_one second. other_used shows k second is_one far)

    -- the numbers that have none are as many, if this one has one as before
    pub numbers_stay : IsTrue (g.origin p.cache.disk).shows → is_free request (working_of g q) n ≡ is_free request (working_of g p) n
        → free_inodes_of request (working_of g q) ≡ free_inodes_of request (working_of g p)
    numbers_stay shows same = count_alike (is_free request (working_of g q)) (is_free request (working_of g p)) 2 request.inodes (λ k from below. elim (cases_eq k n) [
      | inl e ↦ ap (is_free request (working_of g q)) e ∙ same ∙ sym (ap (is_free request (working_of g p)) e)
      | inr apart ↦
          let is_one : is_number request k ≡ true = within 2 request.inodes k from below in
          λ t. not (other_used shows k false is_one apart t) && not (other_used shows k true is_one apart t)
    ])

    module _ (shows : IsTrue (g.origin p.cache.disk).shows)
        (apart : committed_of g p (inode_place_of request n false) ≡ true → committed_of g p (inode_place_of request n true) ≡ true → ⊥) where
      stays_at : (k : ℕ) → is_number request k ≡ true → committed_of g q (inode_place_of request k false) ≡ true → committed_of g q (inode_place_of request k true) ≡ true
          → (second : Bool) → working_of g q (inode_place_of request k second) ≡ true
      stays_at k is_one one two second =
          let first_was = sym (last_list shows (inode_place_of request k false) (place_has_bit request bounds k false is_one)) ∙ one in
          let second_was = sym (last_list shows (inode_place_of request k true) (place_has_bit request bounds k true is_one)) ∙ two in
          elim (cases_eq k n) [
            | inl e ↦ absurd (apart (ap (λ (x : ℕ). committed_of g p (inode_place_of request x false)) (sym e) ∙ first_was)
                (ap (λ (x : ℕ). committed_of g p (inode_place_of request x true)) (sym e) ∙ second_was))
            | inr far ↦ other_used shows k second is_one far ∙ (is.told live shows).both_stay k is_one first_was second_was second
          ]

      pub has_working_inode : q.numbers ≡ free_inodes_of request (working_of g q) → HasWorking g q
      has_working_inode numbers = record {
        numbers = numbers ∙ (λ t. free_inodes_of (sym same_geometry t) (working_of g q));
        whole = λ b may.
            let here = subst (λ (r : Request). is_allocable r b ≡ true) same_geometry may in
            ap length (c.contents shows b (block_has_bit request bounds b here) (λ such. place_not_block request bounds n b number here (only b such)))
            ∙ (is.told live shows).whole b here ∙ (λ t. (sym same_geometry t).block_size);
        both_stay = subst (λ (r : Request). (k : ℕ) → is_number r k ≡ true → committed_of g q (inode_place_of r k false) ≡ true
            → committed_of g q (inode_place_of r k true) ≡ true → (second : Bool) → working_of g q (inode_place_of r k second) ≡ true) (sym same_geometry) stays_at;
      }

    -- the view has another inode of this number
    pub next_inode : IsTrue (g.origin p.cache.disk).shows
        → next_view g q ≡ with_inode (next_view g p) n (inode_under request (working_of g q) (content_in g q.cache) n)
    next_inode shows = (λ t. view_over (same_geometry t) (working_of g q) (content_in g q.cache))
        ∙ inode_changes request (working_of g p) (working_of g q) (content_in g p.cache) (content_in g q.cache) bounds n number
        (λ b has first second.
        let far : IsSuch b → ⊥ = λ such. ⊎_elim first second (only b such) in
        record { same_use = c.used shows b has far; bytes = λ used. c.contents shows b has far })

    pub working_inode : IsTrue (g.origin p.cache.disk).shows
        → (state_of g q).working ≡ with_inode (state_of g p).working n (inode_under request (working_of g q) (content_in g q.cache) n)
    working_inode shows = told_after shows ∙ next_inode shows
        ∙ ap (λ (v : View). with_inode v n (inode_under request (working_of g q) (content_in g q.cache) n)) (sym (told_next shows))

  -- ---- blocks

  module _ (only : (k : ℕ) → IsSuch k → is_allocable request k ≡ true) where
    table_used : IsTrue (g.origin p.cache.disk).shows → (k : ℕ) (second : Bool) → is_number request k ≡ true
        → working_of g q (inode_place_of request k second) ≡ working_of g p (inode_place_of request k second)
    table_used shows k second is_one = c.used shows (inode_place_of request k second) (place_has_bit request bounds k second is_one)
        (λ such. place_not_block request bounds k _ is_one (only _ such) (is_place second))
      where
        is_place : (second : Bool) → IsPlaceFor request k (inode_place_of request k second)
        is_place false = inl refl
        is_place true = inr refl

    pub keeps_places : KeepsPlaces (state_of g p) (state_of g q)
    keeps_places = λ t k. keeps_place k (λ shows is_one second. table_used shows k second is_one) t

    pub has_working_blocks : IsTrue (g.origin p.cache.disk).shows → q.numbers ≡ p.numbers → ((k : ℕ) → IsSuch k ⊎ (IsSuch k → ⊥))
        → ((k : ℕ) → IsSuch k → length (content_in g q.cache k) ≡ request.block_size) → HasWorking g q
    has_working_blocks shows numbers which whole = has_working_table shows numbers (table_used shows) which whole

    -- the view differs at one block
    module _ (b : ℕ) (may : is_allocable request b ≡ true) (alone : (k : ℕ) → IsSuch k → k ≡ b) where
      pub next_block : IsTrue (g.origin p.cache.disk).shows
          → next_view g q ≡ with_block (next_view g p) b (block_under request (working_of g q) (content_in g q.cache) b)
      next_block shows = (λ t. view_over (same_geometry t) (working_of g q) (content_in g q.cache))
          ∙ block_changes request (working_of g p) (working_of g q) (content_in g p.cache) (content_in g q.cache) bounds b may
          (λ k has far.
          let away : IsSuch k → ⊥ = λ such. far (alone k such) in
          record { same_use = c.used shows k has away; bytes = λ used. c.contents shows k has away })

      pub working_block : IsTrue (g.origin p.cache.disk).shows
          → (state_of g q).working ≡ with_block (state_of g p).working b (block_under request (working_of g q) (content_in g q.cache) b)
      working_block shows = told_after shows ∙ next_block shows
          ∙ ap (λ (v : View). with_block v b (block_under request (working_of g q) (content_in g q.cache) b)) (sym (told_next shows))
