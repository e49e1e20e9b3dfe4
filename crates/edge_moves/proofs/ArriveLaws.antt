-- The positions on a way made new, from the entry on.
use Rattle.std.proofs.Common.{◌≡◌, ◌≢◌, ℕ, ◌+◌, ◌<◌, ◌≤◌, ◌||◌, true, false, eqb, inl, inr, List, [], ◌∷◌, refl, sym, ap, ◌∙◌, subst, arith}
use Rattle.std.proofs.lemmas.Bool.{cases_eq, and_parts, or_left, or_from, cond-true, cond-false}
use Rattle.std.proofs.lemmas.Bool.Decides.{nat_tests}
use Rattle.std.specs.Prelude.{is_some, not}
use Rattle.edge_base.specs.declared.form.Form.{Form}
use Rattle.edge_base.specs.declared.form.Form.TheVariants.{Plain, Indirect, Double}
use Rattle.edge_base.specs.declared.geometry.Request.{Request}
use Rattle.edge_base.specs.declared.way.Way.{Way}
use Rattle.edge_base.specs.declared.way.Way.TheVariants as way
use Rattle.edge_base.specs.layout.Places.{entries_of, pointers_of}
use Rattle.edge_base.specs.tree.Positions.{Position, same_position, has, positions_of_form}
use Rattle.edge_store.specs.Damages.{form_of_entry, form_under}
use Rattle.edge_store.specs.Placed.{entry_at, pointer_at, block_at}
use Rattle.edge_store.specs.View.{View, IsView, content, content_at, is_used, is_new, is_whole, empty_content}
use Rattle.edge_store.proofs.ViewLaws.{unused_zero}
use Rattle.edge_moves.specs.Sound.{numbered, IsSound, IsApart}
use Rattle.edge_moves.specs.Relinks.{number_of_entry, number_under}
use Rattle.edge_moves.specs.Renewal.{held_by, IsKept, EntryMoved, EntryRenewed, PointerMoved, PointerRenewed, UnderRenewed, WayRenewed, direct, single, double}
use Rattle.edge_moves.proofs.SlotLaws.{entry_in_range, under_in_range}
use Rattle.edge_moves.proofs.SelfLaws.{self_relinks}
use Rattle.edge_moves.proofs.StepLaws.{hits, misses}
use Rattle.edge_moves.proofs.SoFarLaws.{SoFar, Above, begin, next_kept, next_moved}
use Rattle.edge_moves.proofs.FactLaws.{entry_step, pointer_step}
use Rattle.edge_moves.proofs.OnWayLaws.{number_on, positions_on}

-- The last of the positions that were made new, and its block.
pub record Arrived (g : Request) (c v w : View) (n : ℕ) (on : List Position) (f : Form) (m b : ℕ) : Type 0 where
  pub so_far : SoFar g c v w n (numbered n f m ∷ on)
  pub lands : block_at g w (numbered n f m) ≡ b
  pub content : content_at w f b ≡ held_by g v f n (block_at g v (numbered n f m))

pub held_some : (g : Request) (v : View) (f : Form) (n x : ℕ) → x ≢ 0 → content_at v f x ≡ held_by g v f n x
held_some g v f n x some = sym (cond-false (eqb x 0) (empty_content g f n) (content_at v f x) (none x some))
  where
    none : (x : ℕ) → x ≢ 0 → eqb x 0 ≡ false
    none x some = grind (arith, nat_tests)

held_same : (g : Request) (v m : View) (f : Form) (n x : ℕ) → (x ≢ 0 → m.blocks x ≡ v.blocks x) → held_by g m f n x ≡ held_by g v f n x
held_same g v m f n x same = elim (cases_eq x 0) [
  | inl none ↦ ap (held_by g m f n) none ∙ sym (ap (held_by g v f n) none)
  | inr some ↦ sym (held_some g m f n x some) ∙ ap (content f) (same some) ∙ held_some g v f n x some
]

new_some : (g : Request) (c v : View) (x : ℕ) → IsView g v → is_new c v x ≡ true → x ≢ 0
new_some g c v x view new none =
    let used = (and_parts (is_used v x) (not (is_used c x)) new).0 in
    let f : true ≡ false = sym used ∙ ap (is_used v) none ∙ ap is_some (unused_zero g v view) in cc

-- ---- the entry

module _ (g : Request) (c v w : View) (n e b : ℕ) (fits : g.direct + g.indirect ≤ entries_of g) (view : IsView g v) (view_w : IsView g w) (sound : IsSound g v n) (apart : IsApart g v n)
    (is : is_whole (v.inodes n) ≡ true) (low : e < entries_of g) where
  abbrev f : Form
  f = form_of_entry g e

  abbrev m0 : ℕ
  m0 = number_of_entry g e

  from_is : entry_at v n e ≡ block_at g v (numbered n f m0)
  from_is = (self_relinks g v n).entries e low

  entry_kept : IsKept c v w (entry_at v n e) b → Arrived g c v w n [] f m0 b
  entry_kept kept =
      let new : is_new c v (block_at g v (numbered n f m0)) ≡ true = ap (is_new c v) (sym from_is) ∙ kept.is_new in
      let some = new_some g c v (block_at g v (numbered n f m0)) view new in
      let same : b ≡ block_at g v (numbered n f m0) = kept.same ∙ from_is in
      record {
        so_far = subst (λ (u : View). SoFar g c v u n (numbered n f m0 ∷ [])) (sym kept.view)
            (next_kept g c v v n [] sound view (begin g c v n sound apart view) f m0 (entry_in_range g e low) refl new);
        lands = ap (λ (u : View). block_at g u (numbered n f m0)) kept.view ∙ sym same;
        content = ap (λ (u : View). content_at u f b) kept.view ∙ ap (content_at v f) same ∙ held_some g v f n (block_at g v (numbered n f m0)) some;
      }

  entry_moved : EntryMoved g c v w n e b → Arrived g c v w n [] f m0 b
  entry_moved moved =
      let step = entry_step g c v w n e b fits view view_w sound apart is low moved in
      let low0 = entry_in_range g e low in
      let first = begin g c v n sound apart view in
      record {
        so_far = next_moved g c v v n [] sound view first f m0 low0 refl w b 0 step (inl refl);
        lands = step.blocks f m0 low0 ∙ cond-true (same_position (numbered n f m0) (numbered n f m0)) b _ (hits (numbered n f m0) (numbered n f m0) refl);
        content = step.content;
      }

  pub entry_arrives : EntryRenewed g c v w n e b → Arrived g c v w n [] f m0 b
  entry_arrives (inl kept) = entry_kept kept
  entry_arrives (inr moved) = entry_moved moved

-- ---- a pointer

module _ (g : Request) (c v m w : View) (n : ℕ) (on : List Position) (h : Form) (k top i b : ℕ) (fits : g.direct + g.indirect ≤ entries_of g) (view : IsView g v) (view_w : IsView g w) (sound : IsSound g v n)
    (node : h ≢ Plain) (low : k < positions_of_form g h) (place : i < pointers_of g) (prior : Arrived g c v m n on h k top)
    (out : has (numbered n h k ∷ on) (numbered n (form_under h) (number_under g h k i)) ≡ false) where
  abbrev f_p : Form
  f_p = form_under h

  abbrev m_p : ℕ
  m_p = number_under g h k i

  abbrev far : SoFar g c v m n (numbered n h k ∷ on)
  far = prior.so_far

  low_p : m_p < positions_of_form g f_p
  low_p = under_in_range g h k i node low place

  listed : has (numbered n h k ∷ on) (numbered n h k) ≡ true
  listed = or_left (same_position (numbered n h k) (numbered n h k)) (has on (numbered n h k)) (hits (numbered n h k) (numbered n h k) refl)

  top_new : is_new c m top ≡ true
  top_new = ap (is_new c m) (sym prior.lands) ∙ far.is_fresh h k low listed

  top_some : top ≢ 0
  top_some = new_some g c m top far.view top_new

  stayed : block_at g m (numbered n f_p m_p) ≡ block_at g v (numbered n f_p m_p)
  stayed = far.moved f_p m_p low_p out

  from_p : pointer_at m h top i ≡ block_at g m (numbered n f_p m_p)
  from_p = ap (λ (x : ℕ). pointer_at m h x i) (sym prior.lands) ∙ (self_relinks g m n).pointers h k i node low place

  -- what a block of the start holds it still holds
  held_still : held_by g m f_p n (block_at g m (numbered n f_p m_p)) ≡ held_by g v f_p n (block_at g v (numbered n f_p m_p))
  held_still = ap (held_by g m f_p n) stayed ∙ held_same g v m f_p n (block_at g v (numbered n f_p m_p)) (λ there. far.holds f_p m_p low_p out there)

  pointer_kept : IsKept c m w (pointer_at m h top i) b → Arrived g c v w n (numbered n h k ∷ on) f_p m_p b
  pointer_kept kept =
      let new : is_new c m (block_at g m (numbered n f_p m_p)) ≡ true = ap (is_new c m) (sym from_p) ∙ kept.is_new in
      let some = new_some g c m (block_at g m (numbered n f_p m_p)) far.view new in
      let same : b ≡ block_at g m (numbered n f_p m_p) = kept.same ∙ from_p in
      record {
        so_far = subst (λ (u : View). SoFar g c v u n (numbered n f_p m_p ∷ numbered n h k ∷ on)) (sym kept.view) (next_kept g c v m n (numbered n h k ∷ on) sound view far f_p m_p low_p out new);
        lands = ap (λ (u : View). block_at g u (numbered n f_p m_p)) kept.view ∙ sym same;
        content = ap (λ (u : View). content_at u f_p b) kept.view ∙ ap (content_at m f_p) same ∙ held_some g m f_p n (block_at g m (numbered n f_p m_p)) some ∙ held_still;
      }

  pointer_moved : PointerMoved g c m w h n top i b → Arrived g c v w n (numbered n h k ∷ on) f_p m_p b
  pointer_moved moved =
      let step = pointer_step g c m w n h k i top b fits far.view view_w far.sound far.apart node low place prior.lands
      (and_parts (is_used m top) (not (is_used c top)) top_new).0 (λ same. let f : true ≡ false = sym top_new ∙ ap (is_new c m) (sym same) ∙ moved.moved.was in cc) top_some moved in
      let above : Above g m n (numbered n h k ∷ on) top = record { form = h; k = k; low = low; listed = listed; is = prior.lands } in
      record {
        so_far = next_moved g c v m n (numbered n h k ∷ on) sound view far f_p m_p low_p out w b top step (inr above);
        lands = step.blocks f_p m_p low_p ∙ cond-true (same_position (numbered n f_p m_p) (numbered n f_p m_p)) b _ (hits (numbered n f_p m_p) (numbered n f_p m_p) refl);
        content = step.content ∙ held_still;
      }

  pub pointer_arrives : PointerRenewed g c m w h n top i b → Arrived g c v w n (numbered n h k ∷ on) f_p m_p b
  pointer_arrives (inl kept) = pointer_kept kept
  pointer_arrives (inr moved) = pointer_moved moved

-- ---- a way

-- The positions on a way were made new, and the last one's block is this.
pub record Reached (g : Request) (c v w : View) (n : ℕ) (on : List Position) (m b : ℕ) : Type 0 where
  pub so_far : SoFar g c v w n on
  pub lands : block_at g w (numbered n Plain m) ≡ b
  pub content : content_at w Plain b ≡ held_by g v Plain n (block_at g v (numbered n Plain m))

module _ (g : Request) (c v w : View) (n : ℕ) (fits : g.direct + g.indirect ≤ entries_of g) (view : IsView g v) (view_w : IsView g w) (sound : IsSound g v n) (apart : IsApart g v n)
    (is : is_whole (v.inodes n) ≡ true) where
  reached : (m b : ℕ) (on : List Position) → Arrived g c v w n on Plain m b → Reached g c v w n (numbered n Plain m ∷ on) m b
  reached m b on a = record { so_far = a.so_far; lands = a.lands; content = a.content }

  other_form : (f h : Form) (m k : ℕ) → f ≢ h → same_position (numbered n f m) (numbered n h k) ≡ false
  other_form f h m k far = misses (numbered n f m) (numbered n h k) (λ same. far (ap (λ (p : Position). p.form) same))

  plain_indirect : Plain ≢ Indirect
  plain_indirect e = cc

  plain_double : Plain ≢ Double
  plain_double e = cc

  indirect_double : Indirect ≢ Double
  indirect_double e = cc

  indirect_node : Indirect ≢ Plain
  indirect_node e = cc

  double_node : Double ≢ Plain
  double_node e = cc

  pub way_arrives : (on : Way) (b : ℕ) → WayRenewed g c v w n on b → Reached g c v w n (positions_on g n on) (number_on g on) b
  way_arrives (way.Direct _) _ (direct e b low form step) =
      reached (number_of_entry g e) b [] (subst (λ (f : Form). Arrived g c v w n [] f (number_of_entry g e) b) form (entry_arrives g c v w n e b fits view view_w sound apart is low step))
  way_arrives (way.Single _ _) _ (single e place top b m view_m low low_place form first second) =
      let j = number_of_entry g e in
      let a : Arrived g c v m n [] Indirect j top = subst (λ (f : Form). Arrived g c v m n [] f j top) form (entry_arrives g c v m n e top fits view view_m sound apart is low first) in
      let low_j : j < positions_of_form g Indirect = subst (λ (f : Form). j < positions_of_form g f) form (entry_in_range g e low) in
      let i = number_under g Indirect j place in
      reached i b (numbered n Indirect j ∷ []) (pointer_arrives g c v m w n [] Indirect j top place b fits view view_w sound indirect_node low_j low_place a
      (or_from (same_position (numbered n Plain i) (numbered n Indirect j)) false (other_form Plain Indirect i j plain_indirect) refl) second)
  way_arrives (way.Double _ _ _) _ (double e outer place top node b m l view_m view_l low low_outer low_place form first second third) =
      let d = number_of_entry g e in
      let a : Arrived g c v m n [] Double d top = subst (λ (f : Form). Arrived g c v m n [] f d top) form (entry_arrives g c v m n e top fits view view_m sound apart is low first) in
      let low_d : d < positions_of_form g Double = subst (λ (f : Form). d < positions_of_form g f) form (entry_in_range g e low) in
      let j = number_under g Double d outer in
      let low_j : j < positions_of_form g Indirect = under_in_range g Double d outer double_node low_d low_outer in
      let i = number_under g Indirect j place in
      let inner = pointer_arrives g c v m l n [] Double d top outer node fits view view_l sound double_node low_d low_outer a
      (or_from (same_position (numbered n Indirect j) (numbered n Double d)) false (other_form Indirect Double j d indirect_double) refl) second in
      reached i b (numbered n Indirect j ∷ numbered n Double d ∷ []) (pointer_arrives g c v l w n (numbered n Double d ∷ []) Indirect j node place b fits view view_w sound indirect_node low_j low_place inner
      (or_from (same_position (numbered n Plain i) (numbered n Indirect j)) (same_position (numbered n Plain i) (numbered n Double d) || false) (other_form Plain Indirect i j plain_indirect)
      (or_from (same_position (numbered n Plain i) (numbered n Double d)) false (other_form Plain Double i d plain_double) refl)) third)

  -- after two of three the node is still sound
  pub under_sound : (e place b : ℕ) → e < entries_of g → place < pointers_of g → form_of_entry g e ≡ Double → UnderRenewed g c v w n e place b → IsSound g w n
  under_sound e place b low low_place form u =
      let d = number_of_entry g e in
      let a : Arrived g c v u.between n [] Double d u.top = subst (λ (f : Form). Arrived g c v u.between n [] f d u.top) form (entry_arrives g c v u.between n e u.top fits view u.view sound apart is low u.entry) in
      let low_d : d < positions_of_form g Double = subst (λ (f : Form). d < positions_of_form g f) form (entry_in_range g e low) in
      let j = number_under g Double d place in
      let second : PointerRenewed g c u.between w Double n u.top place b = subst (λ (f : Form). PointerRenewed g c u.between w f n u.top place b) form u.pointer in
      (pointer_arrives g c v u.between w n [] Double d u.top place b fits view view_w sound double_node low_d low_place a
      (or_from (same_position (numbered n Indirect j) (numbered n Double d)) false (other_form Indirect Double j d indirect_double) refl) second).so_far.sound
