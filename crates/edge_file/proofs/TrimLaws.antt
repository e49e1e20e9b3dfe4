-- Data blocks of a node made new, and a cut behind them.
use Rattle.std.proofs.Common.{◌≡◌, ◌≢◌, ◌⊎◌, ℕ, ◌+◌, ◌≤◌, ◌==◌, ◌&&◌, ◌||◌, not, Bool, true, false, inl, inr, List, None, refl, sym, ap, ◌∙◌, arith}
use Rattle.std.specs.Prelude.{is_some}
use Rattle.std.specs.List.{list_any}
use Rattle.std.proofs.lemmas.Bool.{cases_Bool, both_ways, and_parts, and_from, or_right, or_parts, false_from_ne_true, eq-eqb}
use Rattle.edge_base.specs.declared.form.Form.{Form}
use Rattle.edge_base.specs.declared.form.Form.TheVariants.{Plain}
use Rattle.edge_base.specs.declared.geometry.Request.{Request}
use Rattle.edge_base.specs.tree.Chains.{is_on_chain}
use Rattle.edge_base.specs.tree.Positions.{Position, has, positions_of}
use Rattle.edge_base.proofs.ChainLaws.{has-positions_of, has-positions_of-number}
use Rattle.edge_store.specs.Fresh.{is_dirty}
use Rattle.edge_store.specs.Placed.{block_at, data_block}
use Rattle.edge_store.specs.View.{View, is_used, is_new, free_now}
use Rattle.edge_moves.specs.Sound.{numbered}
use Rattle.edge_moves.specs.Writable.{Came}
use Rattle.edge_shape.specs.Cut.{is_split, IsCut}
use Rattle.edge_shape.specs.Shape.{HasShape, before}
use Rattle.edge_shape.specs.Where.{cut_need}
use Rattle.edge_shape.proofs.AfterLaws.{free_after-cut}
use Rattle.edge_shape.proofs.LeaveLaws.{position_of, position_there}
use Rattle.edge_shape.proofs.ListLaws.{found, any_of}
use Rattle.edge_shape.proofs.RenewLaws.{used_not_none, by_use, uncommitted, new_used, node_used}
use Rattle.edge_shape.proofs.ShapeLaws.{listed}
use Rattle.edge_count.proofs.CutStepLaws.{before_is}
use Rattle.edge_count.proofs.RoomLaws.{free_now-need}
use Rattle.edge_file.specs.Rewritten.{IsRewritten, fresh_on}
use Rattle.edge_file.specs.Shortened.{is_renewed, IsTrimmed}

-- a position of what is left was there before
pub was_there : (g : Request) (n i : ℕ) (indices : List ℕ) (p : Position) → has (positions_of g n (before i indices)) p ≡ true → has (positions_of g n indices) p ≡ true
was_there g n i indices p h =
    let on = and_parts (p.number == n) (list_any (is_on_chain g p.form p.index) (before i indices)) (sym (has-positions_of g n (before i indices) p) ∙ h) in
    let f = found (is_on_chain g p.form p.index) (before i indices) on.1 in
    let member = and_parts (list_any (λ k. k == f.0) indices) _ (sym (before_is i f.0 indices) ∙ f.1) in
    has-positions_of g n indices p ∙ and_from (p.number == n) (list_any (is_on_chain g p.form p.index) indices) on.0 (any_of (is_on_chain g p.form p.index) indices f.0 member.0 f.2)

module _ (g : Request) (c v m w : View) (n i : ℕ) (touched indices : List ℕ) (shape_v : HasShape g v n indices) (shape_m : HasShape g m n indices)
    (first : IsRewritten g c v m n touched indices) (second : IsCut g c m w n i indices)
    (within : (p : Position) → has (positions_of g n touched) p ≡ true → has (positions_of g n (before i indices)) p ≡ true) where
  abbrev rest : List ℕ
  rest = before i indices

  abbrev at : Form → ℕ → Position
  at form k = numbered n form k

  abbrev in_touched : Position → Bool
  in_touched p = has (positions_of g n touched) p

  in_all : (form : Form) (k : ℕ) → has (positions_of g n rest) (at form k) ≡ true → has (positions_of g n indices) (at form k) ≡ true
  in_all form k h = was_there g n i indices (at form k) h

  -- a position with its number
  as_numbered : (p : Position) → p.number ≡ n → at p.form p.index ≡ p
  as_numbered p e = λ t. record { number = sym e t; form = p.form; index = p.index }

  touched_as : (p : Position) → in_touched p ≡ true → at p.form p.index ≡ p
  touched_as p on = as_numbered p (has-positions_of-number g n touched p on)

  there_v : (form : Form) (k : ℕ) → has (positions_of g n rest) (at form k) ≡ true → block_at g v (at form k) ≢ 0
  there_v form k h = position_there g v n indices shape_v form k (in_all form k h)

  there_m : (form : Form) (k : ℕ) → has (positions_of g n rest) (at form k) ≡ true → block_at g m (at form k) ≢ 0
  there_m form k h = position_there g m n indices shape_m form k (in_all form k h)

  used_m : (form : Form) (k : ℕ) → has (positions_of g n rest) (at form k) ≡ true → is_used m (block_at g m (at form k)) ≡ true
  used_m form k h = node_used g m n indices shape_m form k (there_m form k h)

  -- ---- dirty positions

  dirty_m : (form : Form) (k : ℕ) → has (positions_of g n indices) (at form k) ≡ true → is_dirty g c m (at form k) ≡ (is_dirty g c v (at form k) || in_touched (at form k))
  dirty_m form k h = by (in_touched (at form k)) refl
    where
      more : (x : Bool) → true ≡ (x || true)
      more true = refl
      more false = refl

      same : (x : Bool) → x ≡ (x || false)
      same true = refl
      same false = refl

      by : (t : Bool) → in_touched (at form k) ≡ t → is_dirty g c m (at form k) ≡ (is_dirty g c v (at form k) || t)
      by true on = first.dirty (at form k) on ∙ more (is_dirty g c v (at form k))
      by false off =
          ap (is_new c m) (first.stays (at form k) h off)
          ∙ ap (λ o. is_some o && not (is_used c (block_at g v (at form k)))) (first.holds (at form k) h off)
          ∙ same (is_dirty g c v (at form k))

  dirty_w : (form : Form) (k : ℕ) → has (positions_of g n rest) (at form k) ≡ true → is_dirty g c w (at form k) ≡ (is_dirty g c v (at form k) || is_renewed g n i touched indices form k)
  dirty_w form k h =
      second.dirty form k h ∙ ap (λ t. t || is_split g i indices form k) (dirty_m form k (in_all form k h))
      ∙ order (is_dirty g c v (at form k)) (in_touched (at form k)) (is_split g i indices form k)
    where
      order : (a b d : Bool) → ((a || b) || d) ≡ (a || (b || d))
      order true b d = refl
      order false b d = refl

  moved_w : (form : Form) (k : ℕ) → has (positions_of g n rest) (at form k) ≡ true → is_renewed g n i touched indices form k ≡ false → block_at g w (at form k) ≡ block_at g v (at form k)
  moved_w form k h out =
      let o = or_parts (in_touched (at form k)) (is_split g i indices form k) out in
      second.moved form k h o.1 ∙ first.stays (at form k) (in_all form k h) o.0

  -- ---- where blocks come from

  -- what the cut moved is new
  new_w : (form : Form) (k : ℕ) → has (positions_of g n rest) (at form k) ≡ true → Came c m w (block_at g m (at form k)) (block_at g w (at form k)) → is_new c w (block_at g w (at form k)) ≡ true
  new_w form k h came = second.dirty form k h ∙ elim (cases_Bool (is_split g i indices form k)) [
    | inl split ↦ or_right (is_dirty g c m (at form k)) (is_split g i indices form k) split
    | inr whole ↦ absurd (used_not_none (m.blocks (block_at g m (at form k))) (used_m form k h) (ap m.blocks (sym (second.moved form k h whole)) ∙ came.fresh))
  ]

  -- what was made new first, the cut left where it was
  still : (form : Form) (k : ℕ) → in_touched (at form k) ≡ true → block_at g w (at form k) ≡ block_at g m (at form k)
  still form k on = by (second.came form k (within (at form k) on))
    where
      by : ((block_at g w (at form k) ≡ block_at g m (at form k)) ⊎ Came c m w (block_at g m (at form k)) (block_at g w (at form k))) → block_at g w (at form k) ≡ block_at g m (at form k)
      by (inl same) = same
      by (inr came) = absurd (both_ways (is_used c (block_at g m (at form k))) (uncommitted c m (block_at g m (at form k)) (first.dirty (at form k) on)) (came.was (there_m form k (within (at form k) on))))

  -- a block of the last point that was left first is not taken again
  gone_still : (b : ℕ) → m.blocks b ≡ None → (b ≢ 0 → is_used c b ≡ true) → w.blocks b ≡ None
  gone_still b gone was = elim (by_use (w.blocks b)) [
    | inl none ↦ none
    | inr used ↦ let r = second.used b used gone in absurd (by r.0 r.1 r.2 r.3 (second.came r.0 r.1 r.2))
  ]
    where
      by : (form : Form) (k : ℕ) → has (positions_of g n rest) (at form k) ≡ true → block_at g w (at form k) ≡ b
          → ((block_at g w (at form k) ≡ block_at g m (at form k)) ⊎ Came c m w (block_at g m (at form k)) (block_at g w (at form k))) → ⊥
      by form k h is (inl same) = used_not_none (m.blocks (block_at g m (at form k))) (used_m form k h) (ap m.blocks (sym same ∙ is) ∙ gone)
      by form k h is (inr came) = both_ways (is_used c b) (ap (is_used c) (sym is) ∙ uncommitted c w (block_at g w (at form k)) (new_w form k h came)) (was (λ none. position_there g w n rest second.shape form k h (is ∙ none)))

  -- a block that the cut took was not used before either
  fresh_before : (form : Form) (k : ℕ) → has (positions_of g n rest) (at form k) ≡ true → Came c m w (block_at g m (at form k)) (block_at g w (at form k)) → v.blocks (block_at g w (at form k)) ≡ None
  fresh_before form k h came = elim (by_use (v.blocks (block_at g w (at form k)))) [
    | inl none ↦ none
    | inr used ↦ absurd (used_not_none (v.blocks (block_at g w (at form k))) used (sym (first.others (block_at g w (at form k)) used (λ q on is. by q on is (first.came q on))) ∙ came.fresh))
  ]
    where
      by : (q : Position) → in_touched q ≡ true → block_at g v q ≡ block_at g w (at form k) → ((block_at g m q ≡ block_at g v q) ⊎ Came c v m (block_at g v q) (block_at g m q)) → ⊥
      by q on is (inl same) = used_not_none (m.blocks (block_at g m q)) (new_used c m (block_at g m q) (first.dirty q on)) (ap m.blocks (same ∙ is) ∙ came.fresh)
      by q on is (inr away) = both_ways (is_used c (block_at g w (at form k))) (uncommitted c w (block_at g w (at form k)) (new_w form k h came))
          (ap (is_used c) (sym is) ∙ away.was (λ none. position_there g w n rest second.shape form k h (sym is ∙ none)))

  came_w : (form : Form) (k : ℕ) → has (positions_of g n rest) (at form k) ≡ true
      → (block_at g w (at form k) ≡ block_at g v (at form k)) ⊎ Came c v w (block_at g v (at form k)) (block_at g w (at form k))
  came_w form k h = elim (cases_Bool (in_touched (at form k))) [
    | inl on ↦ from_first on (first.came (at form k) on)
    | inr off ↦ from_second off (second.came form k h)
  ]
    where
      from_first : in_touched (at form k) ≡ true → ((block_at g m (at form k) ≡ block_at g v (at form k)) ⊎ Came c v m (block_at g v (at form k)) (block_at g m (at form k)))
          → (block_at g w (at form k) ≡ block_at g v (at form k)) ⊎ Came c v w (block_at g v (at form k)) (block_at g w (at form k))
      from_first on (inl same) = inl (still form k on ∙ same)
      from_first on (inr came) = inr (record {
        fresh = ap v.blocks (still form k on) ∙ came.fresh;
        gone = gone_still (block_at g v (at form k)) came.gone came.was;
        was = came.was;
      })

      from_second : in_touched (at form k) ≡ false → ((block_at g w (at form k) ≡ block_at g m (at form k)) ⊎ Came c m w (block_at g m (at form k)) (block_at g w (at form k)))
          → (block_at g w (at form k) ≡ block_at g v (at form k)) ⊎ Came c v w (block_at g v (at form k)) (block_at g w (at form k))
      from_second off (inl same) = inl (same ∙ first.stays (at form k) (in_all form k h) off)
      from_second off (inr came) =
          let kept : block_at g m (at form k) ≡ block_at g v (at form k) = first.stays (at form k) (in_all form k h) off in
          inr (record {
            fresh = fresh_before form k h came;
            gone = ap w.blocks (sym kept) ∙ came.gone;
            was = λ there. ap (is_used c) (sym kept) ∙ came.was (λ none. there (sym kept ∙ none));
          })

  -- ---- blocks that go, and those of others

  dropped_w : (form : Form) (k : ℕ) → has (positions_of g n indices) (at form k) ≡ true → has (positions_of g n rest) (at form k) ≡ false → w.blocks (block_at g v (at form k)) ≡ None
  dropped_w form k h out =
      let off : in_touched (at form k) ≡ false = false_from_ne_true (in_touched (at form k)) (λ on. both_ways (has (positions_of g n rest) (at form k)) out (within (at form k) on)) in
      ap w.blocks (sym (first.stays (at form k) h off)) ∙ second.dropped form k h out

  others_w : (b : ℕ) → is_used v b ≡ true → ((form : Form) (k : ℕ) → block_at g v (at form k) ≢ 0 → block_at g v (at form k) ≢ b) → w.blocks b ≡ v.blocks b
  others_w b used far = second.others b (ap is_some kept ∙ used) apart ∙ kept
    where
      kept : m.blocks b ≡ v.blocks b
      kept = first.others b used (λ p on is.
          let is_p = touched_as p on in
          far p.form p.index (there_v p.form p.index (ap (has (positions_of g n rest)) is_p ∙ within p on)) (ap (block_at g v) is_p ∙ is))

      by : (form : Form) (k : ℕ) → in_touched (at form k) ≡ true → block_at g m (at form k) ≡ b → ((block_at g m (at form k) ≡ block_at g v (at form k)) ⊎ Came c v m (block_at g v (at form k)) (block_at g m (at form k))) → ⊥
      by form k on is (inl same) = far form k (there_v form k (within (at form k) on)) (sym same ∙ is)
      by form k on is (inr came) = used_not_none (v.blocks b) used (ap v.blocks (sym is) ∙ came.fresh)

      apart : (form : Form) (k : ℕ) → block_at g m (at form k) ≢ 0 → block_at g m (at form k) ≢ b
      apart form k there is = elim (cases_Bool (in_touched (at form k))) [
        | inl on ↦ by form k on is (first.came (at form k) on)
        | inr off ↦
            let stays : block_at g m (at form k) ≡ block_at g v (at form k) = first.stays (at form k) (listed g m n indices shape_m form k there) off in
            far form k (λ none. there (stays ∙ none)) (sym stays ∙ is)
      ]

  newly : (b : ℕ) → is_used w b ≡ true → v.blocks b ≡ None → (form : Form) × (k : ℕ) × (has (positions_of g n rest) (at form k) ≡ true) × (block_at g w (at form k) ≡ b)
  newly b used none = elim (by_use (m.blocks b)) [
    | inl free ↦ second.used b used free
    | inr there ↦
        let r = first.used b (ap is_some none) there in
        let is_p = touched_as r.0 r.1 in
        let on : in_touched (at r.0.form r.0.index) ≡ true = ap in_touched is_p ∙ r.1 in
        (r.0.form, r.0.index, within (at r.0.form r.0.index) on, still r.0.form r.0.index on ∙ ap (block_at g m) is_p ∙ r.2)
  ]

  holds_w : (k : ℕ) → list_any (λ x. x == k) rest ≡ true → in_touched (at Plain k) ≡ false → w.blocks (data_block g v n k) ≡ v.blocks (data_block g v n k)
  holds_w k member off =
      let all : has (positions_of g n indices) (at Plain k) ≡ true = in_all Plain k (position_of g w n rest second.shape Plain k k member (on_itself k)) in
      let stays : data_block g m n k ≡ data_block g v n k = first.stays (at Plain k) all off in
      ap w.blocks (sym stays) ∙ second.bytes k member ∙ ap m.blocks stays ∙ first.holds (at Plain k) all off
    where
      on_itself : (x : ℕ) → (x == x) ≡ true
      on_itself x = eq-eqb x x refl

  pub trimmed_both : IsTrimmed g c v w n i touched indices
  trimmed_both = record {
    shape = second.shape;
    holds = holds_w;
    dirty = dirty_w;
    moved = moved_w;
    came = came_w;
    dropped = dropped_w;
    inodes = λ x apart. second.inodes x apart ∙ first.inodes x apart;
    others = others_w;
    used = newly;
    after = free_after-cut g c v w n indices rest shape_v second.shape came_w dropped_w others_w newly;
  }

  pub room_both : free_now g c v ≤ free_now g c w + (fresh_on g c v n touched + cut_need g c m n i)
  room_both =
      let one = first.free in
      let two : free_now g c m ≤ free_now g c w + cut_need g c m n i = free_now-need g c m w n indices shape_m i second in
      omega (arith, one, two)
