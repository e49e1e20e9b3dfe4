-- A data block made writable.
use Rattle.std.proofs.Common.{◌≡◌, ◌≢◌, ◌⊎◌, ℕ, ◌+◌, ◌<◌, ◌≤◌, ◌||◌, not, true, false, inl, inr, List, [], ◌∷◌, sym, ap, ◌∙◌, subst}
use Rattle.std.specs.Prelude.{is_some, ◌↔◌}
use Rattle.std.specs.List.{AllByRecursion}
use Rattle.std.proofs.lemmas.Bool.{cases_Bool, and_parts, or_left, or_right}
use Rattle.edge_base.specs.declared.form.Form.{Form}
use Rattle.edge_base.specs.declared.form.Form.TheVariants.{Plain, Indirect, Double}
use Rattle.edge_base.specs.declared.geometry.Request.{Request}
use Rattle.edge_base.specs.declared.way.Way.{Way}
use Rattle.edge_base.specs.declared.way.Way.TheVariants as way
use Rattle.edge_base.specs.layout.Places.{IsGeometry, entries_of, pointers_of, max_blocks_of, way_of}
use Rattle.edge_base.specs.tree.Positions.{Position, same_position, has, chain, positions_of, positions_of_form}
use Rattle.edge_base.proofs.ChainLaws.{has-positions_of-number}
use Rattle.edge_base.proofs.PositionLaws.{has-append, same_position_Decides}
use Rattle.edge_store.specs.Placed.{block_at, data_block, HasPlaces, IsOnce}
use Rattle.edge_store.specs.View.{View, IsView, content_at, is_spot, is_used, is_new, is_whole}
use Rattle.edge_store.proofs.ViewLaws.{used_of, unused_zero, entries_of_whole}
use Rattle.edge_moves.specs.Sound.{numbered, IsSound, IsApart}
use Rattle.edge_moves.specs.Renewal.{held_by, WayRenewed, direct, single, double}
use Rattle.edge_moves.specs.Writable.{IsMadeWritable, Came}
use Rattle.edge_moves.specs.Relinks.{number_of_entry, number_under}
use Rattle.edge_moves.proofs.SlotLaws.{entries_fit, some_pointers_fit, entry_in_range, under_in_range}
use Rattle.edge_moves.proofs.SoFarLaws.{SoFar}
use Rattle.edge_moves.proofs.RangeLaws.{there_in_range}
use Rattle.edge_moves.proofs.OnWayLaws.{IsChainOn, chain_on, positions_on}
use Rattle.edge_moves.proofs.ArriveLaws.{way_arrives}

-- ---- a node of a proper shape

pub sound_of_places : (g : Request) (v : View) (n : ℕ) (indices : List ℕ) → HasPlaces g v n indices → IsSound g v n
sound_of_places g v n indices places = λ form k low there. places.spots (numbered n form k) ((places.places (numbered n form k) (λ t. n) low).0 there)

pub apart_of_once : (g : Request) (v : View) (n : ℕ) (indices : List ℕ) → HasPlaces g v n indices → IsOnce g v n indices → IsApart g v n
apart_of_once g v n indices places once = λ form other k l low high there same.
    once (numbered n form k) (numbered n other l) ((places.places (numbered n form k) (λ t. n) low).0 there) ((places.places (numbered n other l) (λ t. n) high).0 (λ none. there (same ∙ none))) same

module _ (g : Request) (c v w : View) (n i : ℕ) (indices : List ℕ) (fits : g.direct + g.indirect ≤ entries_of g) (some : 0 < pointers_of g) (view : IsView g v) (is : is_whole (v.inodes n) ≡ true)
    (places : HasPlaces g v n indices) (low_i : i < max_blocks_of g) (far : SoFar g c v w n (chain g n i))
    (within : (p : Position) → has (chain g n i) p ≡ true → p.index < positions_of_form g p.form) where
  -- a position of the node is a number of its form
  at_n : (p : Position) → p.number ≡ n → numbered n p.form p.index ≡ p
  at_n p e = λ t. record { number = sym e t; form = p.form; index = p.index }

  on_all : (p : Position) → has (chain g n i) p ≡ true → has (positions_of g n (i ∷ indices)) p ≡ true
  on_all p h = has-append (chain g n i) (positions_of g n indices) p ∙ or_left (has (chain g n i) p) (has (positions_of g n indices) p) h

  old_all : (p : Position) → has (positions_of g n indices) p ≡ true → has (positions_of g n (i ∷ indices)) p ≡ true
  old_all p h = has-append (chain g n i) (positions_of g n indices) p ∙ or_right (has (chain g n i) p) (has (positions_of g n indices) p) h

  number_of : (p : Position) → has (positions_of g n (i ∷ indices)) p ≡ true → p.number ≡ n
  number_of p h = has-positions_of-number g n (i ∷ indices) p h

  some_block : (u : View) → IsView g u → (form : Form) (b : ℕ) → is_spot u form n b ≡ true → b ≢ 0
  some_block u view_u form b spot none =
      let f : true ≡ false = sym (used_of form (u.blocks b) n spot) ∙ ap (is_used u) none ∙ ap is_some (unused_zero g u view_u) in cc

  low_old : (p : Position) → has (positions_of g n indices) p ≡ true → p.index < positions_of_form g p.form
  low_old p h =
      let e = at_n p (number_of p (old_all p h)) in
      there_in_range g v n fits some (entries_of_whole g v n view is) p.form p.index
      (some_block v view p.form (block_at g v (numbered n p.form p.index)) (subst (λ (q : Position). is_spot v p.form n (block_at g v q) ≡ true) (sym e) (places.spots p h)))

  -- what holds of each number of a form on the chain holds of each position there
  on_chain : (Q : Position → Type 0) → ((form : Form) (k : ℕ) → k < positions_of_form g form → has (chain g n i) (numbered n form k) ≡ true → Q (numbered n form k)) → (p : Position) → has (chain g n i) p ≡ true → Q p
  on_chain Q each p h =
      let e = at_n p (number_of p (on_all p h)) in
      subst Q e (each p.form p.index (within p h) (subst (λ (q : Position). has (chain g n i) q ≡ true) (sym e) h))

  off_chain : (Q : Position → Type 0) → ((form : Form) (k : ℕ) → k < positions_of_form g form → has (positions_of g n indices) (numbered n form k) ≡ true → has (chain g n i) (numbered n form k) ≡ false → Q (numbered n form k))
      → (p : Position) → has (positions_of g n indices) p ≡ true → has (chain g n i) p ≡ false → Q p
  off_chain Q each p h out =
      let e = at_n p (number_of p (old_all p h)) in
      subst Q e (each p.form p.index (low_old p h) (subst (λ (q : Position). has (positions_of g n indices) q ≡ true) (sym e) h) (subst (λ (q : Position). has (chain g n i) q ≡ false) (sym e) out))

  there_old : (form : Form) (k : ℕ) → has (positions_of g n indices) (numbered n form k) ≡ true → block_at g v (numbered n form k) ≢ 0
  there_old form k h = some_block v view form (block_at g v (numbered n form k)) (places.spots (numbered n form k) h)

  there_on : (form : Form) (k : ℕ) → k < positions_of_form g form → has (chain g n i) (numbered n form k) ≡ true → block_at g w (numbered n form k) ≢ 0
  there_on form k low h none =
      let used = (and_parts (is_used w (block_at g w (numbered n form k))) (not (is_used c (block_at g w (numbered n form k)))) (far.is_fresh form k low h)).0 in
      let f : true ≡ false = sym used ∙ ap (is_used w) none ∙ ap is_some (unused_zero g w far.view) in cc

  -- each position of the node is there
  there_now : (form : Form) (k : ℕ) → k < positions_of_form g form → has (positions_of g n (i ∷ indices)) (numbered n form k) ≡ true → block_at g w (numbered n form k) ≢ 0
  there_now form k low h = elim (cases_Bool (has (chain g n i) (numbered n form k))) [
    | inl on ↦ there_on form k low on
    | inr out ↦ λ none. there_old form k (rest form k h out) (sym (far.moved form k low out) ∙ none)
  ]
    where
      rest : (form : Form) (k : ℕ) → has (positions_of g n (i ∷ indices)) (numbered n form k) ≡ true → has (chain g n i) (numbered n form k) ≡ false → has (positions_of g n indices) (numbered n form k) ≡ true
      rest form k h out = sym (ap (λ t. t || has (positions_of g n indices) (numbered n form k)) out) ∙ sym (has-append (chain g n i) (positions_of g n indices) (numbered n form k)) ∙ h

  listed_now : (form : Form) (k : ℕ) → k < positions_of_form g form → block_at g w (numbered n form k) ≢ 0 → has (positions_of g n (i ∷ indices)) (numbered n form k) ≡ true
  listed_now form k low there = elim (cases_Bool (has (chain g n i) (numbered n form k))) [
    | inl on ↦ on_all (numbered n form k) on
    | inr out ↦ old_all (numbered n form k) ((places.places (numbered n form k) (λ t. n) low).0 (λ none. there (far.moved form k low out ∙ none)))
  ]

  low_all : (p : Position) → has (positions_of g n (i ∷ indices)) p ≡ true → p.index < positions_of_form g p.form
  low_all p h = elim (cases_Bool (has (chain g n i) p)) [
    | inl on ↦ within p on
    | inr out ↦ low_old p (sym (ap (λ t. t || has (positions_of g n indices) p) out) ∙ sym (has-append (chain g n i) (positions_of g n indices) p) ∙ h)
  ]

  -- what holds of each number of a form holds of each position of the node
  on_node : (Q : Position → Type 0) → ((form : Form) (k : ℕ) → k < positions_of_form g form → has (positions_of g n (i ∷ indices)) (numbered n form k) ≡ true → Q (numbered n form k))
      → (p : Position) → has (positions_of g n (i ∷ indices)) p ≡ true → Q p
  on_node Q each p h =
      let e = at_n p (number_of p h) in
      subst Q e (each p.form p.index (low_all p h) (subst (λ (q : Position). has (positions_of g n (i ∷ indices)) q ≡ true) (sym e) h))

  places_now : HasPlaces g w n (i ∷ indices)
  places_now = record {
    places = λ p number low. subst (λ (q : Position). (block_at g w q ≢ 0) ↔ (has (positions_of g n (i ∷ indices)) q ≡ true)) (at_n p number) (
      (λ there. listed_now p.form p.index low there),
      (λ h. there_now p.form p.index low h),
    );
    spots = on_node (λ p. is_spot w p.form n (block_at g w p) ≡ true) (λ form k low h. far.sound form k low (there_now form k low h));
  }

  once_now : IsOnce g w n (i ∷ indices)
  once_now p q hp hq =
      on_node (λ p. block_at g w p ≡ block_at g w q → p ≡ q)
      (λ form k low h. on_node (λ q. block_at g w (numbered n form k) ≡ block_at g w q → numbered n form k ≡ q) (λ other l high r same. far.apart form other k l low high (there_now form k low h) same) q hq) p hp

  pub writable : (b : ℕ) → data_block g w n i ≡ b → content_at w Plain b ≡ held_by g v Plain n (data_block g v n i) → IsMadeWritable g c v w n i indices
  writable b lands content = record {
    head = far.head;
    places = places_now;
    once = once_now;
    content = ap (content_at w Plain) lands ∙ content;
    dirty = on_chain (λ p. is_new c w (block_at g w p) ≡ true) far.is_fresh;
    came = on_chain (λ p. (block_at g w p ≡ block_at g v p) ⊎ Came c v w (block_at g v p) (block_at g w p)) far.came;
    stays = off_chain (λ p. block_at g w p ≡ block_at g v p) (λ form k low h out. far.moved form k low out);
    holds = off_chain (λ p. w.blocks (block_at g v p) ≡ v.blocks (block_at g v p)) (λ form k low h out. far.holds form k low out (there_old form k h));
    inodes = far.inodes;
    others = λ x used none. far.others x used (λ form k low h. none (numbered n form k) h);
    used = λ x none used. let r = far.used x none used in (numbered n r.0 r.1, r.3, r.4);
    free = far.free;
  }

-- ---- a way made new

-- what holds of each of a list holds of each that it has
each_of : (Q : Position → Type 0) (ps : List Position) → AllByRecursion Q ps → (p : Position) → has ps p ≡ true → Q p
each_of Q [] all p h = absurd (let f : false ≡ true = h in cc)
each_of Q (q ∷ ps) all p h = elim (cases_Bool (same_position p q)) [
  | inl same ↦ subst Q (sym ((same_position_Decides p q).0 same)) all.0
  | inr other ↦ each_of Q ps all.1 p (sym (ap (λ t. t || has ps p) other) ∙ h)
]

within_way : (g : Request) (c v w : View) (n : ℕ) (on : Way) (b : ℕ) → WayRenewed g c v w n on b → AllByRecursion (λ p. p.index < positions_of_form g p.form) (positions_on g n on)
within_way g c v w n (way.Direct _) _ (direct e b low form step) = (subst (λ (f : Form). number_of_entry g e < positions_of_form g f) form (entry_in_range g e low), tt)
within_way g c v w n (way.Single _ _) _ (single e place top b m view_m low low_place form first second) =
    let low_j : number_of_entry g e < positions_of_form g Indirect = subst (λ (f : Form). number_of_entry g e < positions_of_form g f) form (entry_in_range g e low) in
    (under_in_range g Indirect (number_of_entry g e) place (λ (e : Indirect ≡ Plain). cc) low_j low_place, (low_j, tt))
within_way g c v w n (way.Double _ _ _) _ (double e outer place top node b m l view_m view_l low low_outer low_place form first second third) =
    let low_d : number_of_entry g e < positions_of_form g Double = subst (λ (f : Form). number_of_entry g e < positions_of_form g f) form (entry_in_range g e low) in
    let low_j : number_under g Double (number_of_entry g e) outer < positions_of_form g Indirect = under_in_range g Double (number_of_entry g e) outer (λ (e : Double ≡ Plain). cc) low_d low_outer in
    (under_in_range g Indirect (number_under g Double (number_of_entry g e) outer) place (λ (e : Indirect ≡ Plain). cc) low_j low_place, (low_j, (low_d, tt)))

-- What a way made new makes of a node of a proper shape.
pub record IsDone (g : Request) (c v w : View) (n i b : ℕ) (indices : List ℕ) : Type 0 where
  pub made : IsMadeWritable g c v w n i indices
  pub block : data_block g w n i ≡ b

pub way_done : (g : Request) (c v w : View) (n i b : ℕ) (indices : List ℕ) (on : Way) → IsGeometry g → IsView g v → IsView g w → i < max_blocks_of g → way_of g i ≡ on → is_whole (v.inodes n) ≡ true
    → HasPlaces g v n indices → IsOnce g v n indices → WayRenewed g c v w n on b → IsDone g c v w n i b indices
way_done g c v w n i b indices on geometry view view_w low is_way is places once renewed =
    let fits = entries_fit g geometry in
    let at : IsChainOn g n i on = subst (IsChainOn g n i) is_way (chain_on g n i low) in
    let there = way_arrives g c v w n fits view view_w (sound_of_places g v n indices places) (apart_of_once g v n indices places once) is on b renewed in
    let far : SoFar g c v w n (chain g n i) = subst (SoFar g c v w n) (sym at.positions) there.so_far in
    let within : (p : Position) → has (chain g n i) p ≡ true → p.index < positions_of_form g p.form =
    subst (λ ps. (p : Position) → has ps p ≡ true → p.index < positions_of_form g p.form) (sym at.positions) (each_of (λ p. p.index < positions_of_form g p.form) (positions_on g n on) (within_way g c v w n on b renewed)) in
    let lands : data_block g w n i ≡ b = ap (data_block g w n) (sym at.number) ∙ there.lands in
    let content : content_at w Plain b ≡ held_by g v Plain n (data_block g v n i) = there.content ∙ ap (λ (m : ℕ). held_by g v Plain n (data_block g v n m)) at.number in
    record {
      made = writable g c v w n i indices fits (some_pointers_fit g geometry) view is places low far within b lands content;
      block = lands;
    }
