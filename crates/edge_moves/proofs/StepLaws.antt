-- The blocks of a sound node after one of them moved.
use Rattle.std.proofs.Common.{◌≡◌, ◌≢◌, ◌⊎◌, ℕ, ◌+◌, ◌<◌, ◌≤◌, Bool, true, false, cond, eqb, inl, inr, length, refl, sym, ap, ◌∙◌, subst, arith}
use Rattle.std.specs.Prelude.{slice_index, slice_set, is_some, Ok}
use Rattle.std.proofs.lemmas.Bool.{cases_eq, cases_Bool, eqb-false, eq-eqb, cond-true, cond-false}
use Rattle.std.proofs.lemmas.Bool.Decides.{nat_tests}
use Rattle.std.proofs.lemmas.List.{get_or-set_same, get_or-set_other, get_or-replicate}
use Rattle.edge_base.specs.declared.form.Form.{Form}
use Rattle.edge_base.specs.declared.form.Form.TheVariants.{Plain, Indirect, Double}
use Rattle.edge_base.specs.declared.geometry.Request.{Request}
use Rattle.edge_base.specs.layout.Places.{entries_of, pointers_of}
use Rattle.edge_base.specs.tree.Positions.{Position, same_position, positions_of_form}
use Rattle.edge_base.proofs.PositionLaws.{same_position_Decides}
use Rattle.edge_store.specs.Damages.{form_of_entry, form_under}
use Rattle.edge_store.specs.Effects.{IsFresh}
use Rattle.edge_store.specs.Placed.{entry_at, pointer_at, block_at}
use Rattle.edge_store.specs.View.{View, content, content_at, pointers, empty_content, entries_in, is_owned_by, is_spot, is_used, is_allocable}
use Rattle.edge_store.proofs.ViewLaws.{used_of, empty_is_owned}
use Rattle.edge_moves.specs.Sound.{numbered, IsSound, IsApart}
use Rattle.edge_moves.specs.Relinks.{number_of_entry, number_under, Relinks}
use Rattle.edge_moves.specs.Renewal.{held_by}
use Rattle.edge_moves.proofs.SlotLaws.{same_entry, entry_not_under, same_under, entry_in_range, under_in_range}
use Rattle.edge_moves.proofs.SelfLaws.{self_relinks}
use Rattle.edge_moves.proofs.RelinkLaws.{blocks_are}

-- ---- pointers

pub pointer_is : (v : View) (form : Form) (b i : ℕ) → b ≢ 0 → pointer_at v form b i ≡ slice_index (entries_in (content_at v form b)) i
pointer_is v form b i some = cond-false (eqb b 0) 0 _ (grind (arith, nat_tests))

-- what takes the place of a block has its pointers, and its owner
pub held_pointer : (g : Request) (v : View) (form : Form) (n x s : ℕ) → form ≢ Plain → s < pointers_of g → slice_index (entries_in (held_by g v form n x)) s ≡ pointer_at v form x s
held_pointer g v form n x s node low = by (eqb x 0)
  where
    empty : (form : Form) → form ≢ Plain → slice_index (entries_in (empty_content g form n)) s ≡ 0
    empty Plain node = absurd (node refl)
    empty Indirect node = get_or-replicate (pointers_of g) s 0 0 low
    empty Double node = get_or-replicate (pointers_of g) s 0 0 low

    by : (none : Bool) → slice_index (entries_in (cond none (empty_content g form n) (content_at v form x))) s ≡ cond none 0 (slice_index (entries_in (content_at v form x)) s)
    by true = empty form node
    by false = refl

held_owned : (g : Request) (v : View) (form : Form) (n x : ℕ) → (x ≢ 0 → is_spot v form n x ≡ true) → is_owned_by n (held_by g v form n x) ≡ true
held_owned g v form n x spot = by (eqb x 0) refl
  where
    by : (none : Bool) → eqb x 0 ≡ none → is_owned_by n (cond none (empty_content g form n) (content_at v form x)) ≡ true
    by true e = empty_is_owned g form n
    by false e = spot (eqb-false x 0 e)

pub not_zero : (g : Request) (b : ℕ) → is_allocable g b ≡ true → b ≢ 0
not_zero g b allocable none = let f : true ≡ false = sym allocable ∙ ap (is_allocable g) none ∙ zero in cc
  where
    zero : is_allocable g 0 ≡ false
    zero = grind (arith, nat_tests)

-- ---- positions

pub hits : (p q : Position) → p ≡ q → same_position p q ≡ true
hits p q e = (same_position_Decides p q).1 e

pub misses : (p q : Position) → p ≢ q → same_position p q ≡ false
misses p q far = elim (cases_Bool (same_position p q)) [ inl h ↦ absurd (far ((same_position_Decides p q).0 h)) | inr h ↦ h ]

-- Block b takes the place of the block at number m0 of form f, but for the pointers of block top.
module _ (g : Request) (c v w : View) (n : ℕ) (sound : IsSound g v n) (apart : IsApart g v n) (f : Form) (m0 b top : ℕ) (low0 : m0 < positions_of_form g f)
    (fresh : IsFresh g c v b) (holds : content_at w f b ≡ held_by g v f n (block_at g v (numbered n f m0)))
    (others : (k : ℕ) → k ≢ b → k ≢ block_at g v (numbered n f m0) → k ≢ top → w.blocks k ≡ v.blocks k) where
  abbrev at : Form → ℕ → ℕ
  at form m = block_at g v (numbered n form m)

  abbrev hit : Form → ℕ → Bool
  hit form m = same_position (numbered n form m) (numbered n f m0)

  abbrev to : Form → ℕ → ℕ
  to form m = cond (hit form m) b (at form m)

  b_some : b ≢ 0
  b_some = not_zero g b fresh.allocable

  to_hit : (form : Form) (m : ℕ) → hit form m ≡ true → to form m ≡ b
  to_hit form m h = cond-true (hit form m) b (at form m) h

  to_miss : (form : Form) (m : ℕ) → hit form m ≡ false → to form m ≡ at form m
  to_miss form m h = cond-false (hit form m) b (at form m) h

  where_hit : (form : Form) (m : ℕ) → hit form m ≡ true → numbered n f m0 ≡ numbered n form m
  where_hit form m h = sym ((same_position_Decides (numbered n form m) (numbered n f m0)).0 h)

  not_b : (form : Form) (m : ℕ) → m < positions_of_form g form → at form m ≢ 0 → at form m ≢ b
  not_b form m low there same =
      let used : is_used v b ≡ true = ap (is_used v) (sym same) ∙ used_of form (v.blocks (at form m)) n (sound form m low there) in
      let f : true ≡ false = sym used ∙ ap is_some fresh.unused in cc

  -- another block of the node is as it was
  untouched : (form : Form) (m : ℕ) → m < positions_of_form g form → at form m ≢ 0 → hit form m ≡ false → at form m ≢ top → w.blocks (at form m) ≡ v.blocks (at form m)
  untouched form m low there miss away = others (at form m) (not_b form m low there) moved away
    where
      moved : at form m ≢ at f m0
      moved same = let h : true ≡ false = sym (hits (numbered n form m) (numbered n f m0) (apart form f m m0 low low0 there same)) ∙ miss in cc

  holds_at : (form : Form) (m : ℕ) → hit form m ≡ true → content_at w form b ≡ held_by g v form n (at form m)
  holds_at form m h = subst (λ (q : Position). content_at w q.form b ≡ held_by g v q.form n (block_at g v q)) (where_hit form m h) holds

  -- a pointer node says what it said, where it is now
  followed : (form : Form) (m s : ℕ) → form ≢ Plain → m < positions_of_form g form → s < pointers_of g → (at form m ≢ 0 → hit form m ≡ false → at form m ≢ top)
      → pointer_at w form (to form m) s ≡ pointer_at v form (at form m) s
  followed form m s node low place away = elim (cases_Bool (hit form m)) [
    | inl h ↦
        ap (λ (x : ℕ). pointer_at w form x s) (to_hit form m h) ∙ pointer_is w form b s b_some ∙ ap (λ x. slice_index (entries_in x) s) (holds_at form m h)
        ∙ held_pointer g v form n (at form m) s node place
    | inr h ↦
        ap (λ (x : ℕ). pointer_at w form x s) (to_miss form m h)
        ∙ elim (cases_eq (at form m) 0) [
          | inl none ↦ ap (λ (x : ℕ). pointer_at w form x s) none ∙ sym (ap (λ (x : ℕ). pointer_at v form x s) none)
          | inr there ↦ pointer_is w form (at form m) s there ∙ ap (λ o. slice_index (entries_in (content form o)) s) (untouched form m low there h (away there h)) ∙ sym (pointer_is v form (at form m) s there)
        ]
  ]

  -- what the node is then, once its blocks are there
  module _ (there_now : (form : Form) (m : ℕ) → m < positions_of_form g form → block_at g w (numbered n form m) ≡ to form m)
      (top_now : (form : Form) (m : ℕ) → m < positions_of_form g form → at form m ≢ 0 → at form m ≡ top → is_spot w form n (at form m) ≡ true) where
    pub sound_now : IsSound g w n
    sound_now form m low there = elim (cases_Bool (hit form m)) [
      | inl h ↦
          ap (is_spot w form n) (there_now form m low ∙ to_hit form m h) ∙ ap (is_owned_by n) (holds_at form m h)
          ∙ held_owned g v form n (at form m) (λ some. sound form m low some)
      | inr h ↦
          let same = there_now form m low ∙ to_miss form m h in
          let some : at form m ≢ 0 = λ none. there (same ∙ none) in
          ap (is_spot w form n) same
          ∙ elim (cases_eq (at form m) top) [
            | inl is ↦ top_now form m low some is
            | inr away ↦ ap (λ o. is_owned_by n (content form o)) (untouched form m low some h away) ∙ sound form m low some
          ]
    ]

    pub apart_now : IsApart g w n
    apart_now form other k l low high there same =
        by (cases_Bool (hit form k)) (cases_Bool (hit other l)) (λ none. there (there_now form k low ∙ none)) (sym (there_now form k low) ∙ same ∙ there_now other l high)
      where
        by : (hit form k ≡ true) ⊎ (hit form k ≡ false) → (hit other l ≡ true) ⊎ (hit other l ≡ false) → to form k ≢ 0 → to form k ≡ to other l → numbered n form k ≡ numbered n other l
        by (inl h) (inl q) some e = sym (where_hit form k h) ∙ where_hit other l q
        by (inl h) (inr q) some e = let is = sym (to_hit form k h) ∙ e ∙ to_miss other l q in absurd (not_b other l high (λ none. b_some (is ∙ none)) (sym is))
        by (inr h) (inl q) some e = let is = sym (to_miss form k h) ∙ e ∙ to_hit other l q in absurd (not_b form k low (λ none. some (to_miss form k h ∙ none)) is)
        by (inr h) (inr q) some e = apart form other k l low high (λ none. some (to_miss form k h ∙ none)) (sym (to_miss form k h) ∙ e ∙ to_miss other l q)

-- ---- the block of an entry

module _ (g : Request) (c v w : View) (n : ℕ) (fits : g.direct + g.indirect ≤ entries_of g) (sound : IsSound g v n) (apart : IsApart g v n) (e b : ℕ) (low : e < entries_of g) (fresh : IsFresh g c v b)
    (holds : content_at w (form_of_entry g e) b ≡ held_by g v (form_of_entry g e) n (block_at g v (numbered n (form_of_entry g e) (number_of_entry g e))))
    (others : (k : ℕ) → k ≢ b → k ≢ block_at g v (numbered n (form_of_entry g e) (number_of_entry g e)) → w.blocks k ≡ v.blocks k)
    (entry_here : entry_at w n e ≡ b) (entry_other : (y : ℕ) → y ≢ e → entry_at w n y ≡ entry_at v n y) where
  abbrev f : Form
  f = form_of_entry g e

  abbrev m0 : ℕ
  m0 = number_of_entry g e

  abbrev to_e : Form → ℕ → ℕ
  to_e form m = cond (same_position (numbered n form m) (numbered n f m0)) b (block_at g v (numbered n form m))

  missed : (form : Form) (m : ℕ) → numbered n form m ≢ numbered n f m0 → to_e form m ≡ block_at g v (numbered n form m)
  missed form m far = cond-false _ b _ (misses (numbered n form m) (numbered n f m0) far)

  entry_relinks : Relinks g w n to_e
  entry_relinks = record {
    entries = λ y low_y. elim (cases_eq y e) [
      | inl is ↦
          ap (entry_at w n) is ∙ entry_here
          ∙ sym (cond-true _ b _ (hits (numbered n (form_of_entry g y) (number_of_entry g y)) (numbered n f m0) (ap (λ (x : ℕ). numbered n (form_of_entry g x) (number_of_entry g x)) is)))
      | inr away ↦
          entry_other y away ∙ (self_relinks g v n).entries y low_y
          ∙ sym (missed (form_of_entry g y) (number_of_entry g y) (λ same. away (same_entry g y e (ap (λ (p : Position). p.form) same) (ap (λ (p : Position). p.index) same))))
    ];
    pointers = λ form m s node low_m place.
        followed g c v w n sound apart f m0 b 0 (entry_in_range g e low) fresh holds (λ k one two three. others k one two) form m s node low_m place (λ there h. there)
        ∙ (self_relinks g v n).pointers form m s node low_m place
        ∙ sym (missed (form_under form) (number_under g form m s) (λ same. entry_not_under g e form m s node (sym (ap (λ (p : Position). p.form) same)) (sym (ap (λ (p : Position). p.index) same))));
  }

  pub entry_blocks : (form : Form) (m : ℕ) → m < positions_of_form g form → block_at g w (numbered n form m) ≡ to_e form m
  entry_blocks = blocks_are g w n to_e fits entry_relinks

  pub entry_sound : IsSound g w n
  entry_sound = sound_now g c v w n sound apart f m0 b 0 (entry_in_range g e low) fresh holds (λ k one two three. others k one two) entry_blocks (λ form m low_m there none. absurd (there none))

  pub entry_apart : IsApart g w n
  entry_apart = apart_now g c v w n sound apart f m0 b 0 (entry_in_range g e low) fresh holds (λ k one two three. others k one two) entry_blocks (λ form m low_m there none. absurd (there none))

-- ---- the block in a place of a pointer node

module _ (g : Request) (c v w : View) (n : ℕ) (fits : g.direct + g.indirect ≤ entries_of g) (sound : IsSound g v n) (apart : IsApart g v n)
    (h : Form) (m i b top : ℕ) (node : h ≢ Plain) (low : m < positions_of_form g h) (place : i < pointers_of g) (is_top : block_at g v (numbered n h m) ≡ top) (top_some : top ≢ 0) (fresh : IsFresh g c v b)
    (holds : content_at w (form_under h) b ≡ held_by g v (form_under h) n (block_at g v (numbered n (form_under h) (number_under g h m i))))
    (others : (k : ℕ) → k ≢ b → k ≢ block_at g v (numbered n (form_under h) (number_under g h m i)) → k ≢ top → w.blocks k ≡ v.blocks k)
    (entries : (y : ℕ) → entry_at w n y ≡ entry_at v n y)
    (set : content_at w h top ≡ pointers (Ok (record { owner = n; entries = slice_set (entries_in (content_at v h top)) i b }))) (long : i < length (entries_in (content_at v h top))) where
  abbrev f_p : Form
  f_p = form_under h

  abbrev m_p : ℕ
  m_p = number_under g h m i

  abbrev to_p : Form → ℕ → ℕ
  to_p form k = cond (same_position (numbered n form k) (numbered n f_p m_p)) b (block_at g v (numbered n form k))

  missed_p : (form : Form) (k : ℕ) → numbered n form k ≢ numbered n f_p m_p → to_p form k ≡ block_at g v (numbered n form k)
  missed_p form k far = cond-false _ b _ (misses (numbered n form k) (numbered n f_p m_p) far)

  low_p : m_p < positions_of_form g f_p
  low_p = under_in_range g h m i node low place

  self_form : (a : Form) → a ≢ Plain → a ≢ form_under a
  self_form Plain some e = some refl
  self_form Indirect some e = cc
  self_form Double some e = cc

  -- the node itself does not move
  top_stays : to_p h m ≡ top
  top_stays = missed_p h m (λ same. self_form h node (ap (λ (p : Position). p.form) same)) ∙ is_top

  at_top : (s : ℕ) → s < pointers_of g → pointer_at w h (to_p h m) s ≡ to_p (form_under h) (number_under g h m s)
  at_top s low_s =
      ap (λ (x : ℕ). pointer_at w h x s) top_stays ∙ pointer_is w h top s top_some ∙ ap (λ x. slice_index (entries_in x) s) set
      ∙ elim (cases_eq s i) [
        | inl is ↦
            ap (slice_index (slice_set (entries_in (content_at v h top)) i b)) is ∙ get_or-set_same (entries_in (content_at v h top)) i b 0 long
            ∙ sym (cond-true _ b _ (hits (numbered n (form_under h) (number_under g h m s)) (numbered n f_p m_p) (ap (λ (x : ℕ). numbered n (form_under h) (number_under g h m x)) is)))
        | inr away ↦
            get_or-set_other (entries_in (content_at v h top)) i s b 0 away ∙ sym (pointer_is v h top s top_some) ∙ sym (ap (λ (x : ℕ). pointer_at v h x s) is_top)
            ∙ (self_relinks g v n).pointers h m s node low low_s
            ∙ sym (missed_p (form_under h) (number_under g h m s) (λ same. away (same_under g h h m s m i node node low_s place refl (ap (λ (p : Position). p.index) same)).2))
      ]

  pointer_relinks : Relinks g w n to_p
  pointer_relinks = record {
    entries = λ y low_y. entries y ∙ (self_relinks g v n).entries y low_y
        ∙ sym (missed_p (form_of_entry g y) (number_of_entry g y) (λ same. entry_not_under g y h m i node (ap (λ (p : Position). p.form) same) (ap (λ (p : Position). p.index) same)));
    pointers = λ form k s some low_k low_s. elim (cases_Bool (same_position (numbered n form k) (numbered n h m))) [
      | inl is ↦ subst (λ (q : Position). pointer_at w q.form (to_p q.form q.index) s ≡ to_p (form_under q.form) (number_under g q.form q.index s))
          (sym ((same_position_Decides (numbered n form k) (numbered n h m)).0 is)) (at_top s low_s)
      | inr other ↦
          followed g c v w n sound apart f_p m_p b top low_p fresh holds others form k s some low_k low_s (λ there miss same. apart_from form k other low_k there same)
          ∙ (self_relinks g v n).pointers form k s some low_k low_s
          ∙ sym (missed_p (form_under form) (number_under g form k s) (λ same. elsewhere form k other
          (let r = same_under g form h k s m i some node low_s place (ap (λ (p : Position). p.form) same) (ap (λ (p : Position). p.index) same) in λ t. numbered n (r.0 t) (r.1 t))))
    ];
  }
    where
      elsewhere : (form : Form) (k : ℕ) → same_position (numbered n form k) (numbered n h m) ≡ false → numbered n form k ≡ numbered n h m → ⊥
      elsewhere form k other same = let x : true ≡ false = sym (hits (numbered n form k) (numbered n h m) same) ∙ other in cc

      apart_from : (form : Form) (k : ℕ) → same_position (numbered n form k) (numbered n h m) ≡ false → k < positions_of_form g form → block_at g v (numbered n form k) ≢ 0 → block_at g v (numbered n form k) ≡ top → ⊥
      apart_from form k other low_k there same = elsewhere form k other (apart form h k m low_k low there (same ∙ sym is_top))

  pub pointer_blocks : (form : Form) (k : ℕ) → k < positions_of_form g form → block_at g w (numbered n form k) ≡ to_p form k
  pointer_blocks = blocks_are g w n to_p fits pointer_relinks

  top_spot : (form : Form) (k : ℕ) → k < positions_of_form g form → block_at g v (numbered n form k) ≢ 0 → block_at g v (numbered n form k) ≡ top → is_spot w form n (block_at g v (numbered n form k)) ≡ true
  top_spot form k low_k there same = ap (is_spot w form n) same ∙ subst (λ (q : Position). is_spot w q.form n top ≡ true) (sym (apart form h k m low_k low there (same ∙ sym is_top))) (ap (is_owned_by n) set ∙ eq-eqb n n refl)

  pub pointer_sound : IsSound g w n
  pointer_sound = sound_now g c v w n sound apart f_p m_p b top low_p fresh holds others pointer_blocks top_spot

  pub pointer_apart : IsApart g w n
  pointer_apart = apart_now g c v w n sound apart f_p m_p b top low_p fresh holds others pointer_blocks top_spot
