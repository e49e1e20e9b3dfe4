use Rattle.std.proofs.Common.{◌≡◌, ◌≢◌, ℕ, ◌==◌, true, false, List, inl, inr, refl, sym, ap, subst, ◌∙◌}
use Rattle.std.specs.Prelude.{not, if◌then◌else◌, IsTrue, ◌-◌}
use Rattle.edge_base.specs.layout.Bitmap.{bit_under, live_place}
use Rattle.edge_base.specs.layout.Bytes.{bit_in, number_at}
use Rattle.edge_base.specs.layout.Places.{is_inline_of, table_start_of, imap_place_of}
use Rattle.edge_cache.specs.Cached.{Cached}
use Rattle.edge_cache.specs.Calls.{content_in}
use Rattle.edge_disk.specs.Disk.{Origin}
use Rattle.edge_imap.specs.Bitmaps.{IsFit, HoldsBit, HoldsBitUnder, IsNode, IsTied, bitmaps, node_of, spare_place}
use Rattle.edge_imap.proofs.BitLaws.{contents_same}
use Rattle.edge_imap.proofs.CallLaws.{reads_same, reads_after, writes_none, writes_after, why_passed, why_after, shows_on}
use Rattle.edge_imap.proofs.TieLaws.{on_err, same_flags, not_ok, tie_same, use_changes, has_already, not_self, was_live, tie_set, committed_kept, nodes_kept, nodes_changed, flag_other, node_inside}
use Rattle.edge_imap.proofs.state.set_bit.Goals as goal

pub returns-in_err-old-clause-inline : goal.returns-in_err-old-clause-inline
returns-in_err-old-clause-inline g c = λ inline. absurd (not_ok c.bit_of.result _ c.in_err-old.was (c.bit_of.ensures.inline inline).1)

pub returns-in_err-old-clause-idle : goal.returns-in_err-old-clause-idle
returns-in_err-old-clause-idle g c = λ tells has. (refl, refl, c.bit_of.ensures.reads)

pub returns-in_err-old-clause-unset : goal.returns-in_err-old-clause-unset
returns-in_err-old-clause-unset g c = on_err c.from_residual.result (refl, refl)

pub returns-in_err-old-clause-fault : goal.returns-in_err-old-clause-fault
returns-in_err-old-clause-fault g c = on_err c.from_residual.result c.bit_of.ensures.reads

pub returns-in_err-old-clause-cause : goal.returns-in_err-old-clause-cause
returns-in_err-old-clause-cause g c =
    why_after g.D.Disk (HoldsBit c.args.g.now c.args.committed.now c.args.change.bit) (HoldsBitUnder c.args.g.now c.args.committed.now c.args.working.now c.args.change.bit) c.args.cache.now c.args.cache.now c.bit_of.new.cache c.bit_of.result _ c.in_err-old.field-0.0
    (λ k h. inl h) (reads_same g.D.Disk c.args.cache.now) refl c.bit_of.ensures.cause c.in_err-old.was c.from_residual.ensures

pub returns-in_err-old-clause-tied : goal.returns-in_err-old-clause-tied
returns-in_err-old-clause-tied g c = λ tells t. tie_same _ _ _ (c.bit_of.ensures.reads.contents tells) t

pub bit_of-requires-2-clause-fits : goal.bit_of-requires-2-clause-fits
bit_of-requires-2-clause-fits g c = subst (λ (o : Origin). IsFit c.args.g.now o) (sym c.bit_of.ensures.reads.origin) c.requires.fits

pub returns-in_err-new-clause-inline : goal.returns-in_err-new-clause-inline
returns-in_err-new-clause-inline g c = λ inline. absurd (not_ok c.bit_of-2.result _ c.in_err-new.was (c.bit_of-2.ensures.inline inline).1)

pub returns-in_err-new-clause-idle : goal.returns-in_err-new-clause-idle
returns-in_err-new-clause-idle g c = λ tells has. (refl, refl, reads_after g.D.Disk _ _ _ c.bit_of.ensures.reads c.bit_of-2.ensures.reads)

pub returns-in_err-new-clause-unset : goal.returns-in_err-new-clause-unset
returns-in_err-new-clause-unset g c = on_err c.from_residual-in_err-new.result (refl, refl)

pub returns-in_err-new-clause-fault : goal.returns-in_err-new-clause-fault
returns-in_err-new-clause-fault g c = on_err c.from_residual-in_err-new.result (reads_after g.D.Disk _ _ _ c.bit_of.ensures.reads c.bit_of-2.ensures.reads)

pub returns-in_err-new-clause-cause : goal.returns-in_err-new-clause-cause
returns-in_err-new-clause-cause g c =
    why_after g.D.Disk (HoldsBit c.args.g.now c.args.working.now c.args.change.bit) (HoldsBitUnder c.args.g.now c.args.committed.now c.args.working.now c.args.change.bit) c.args.cache.now c.bit_of.new.cache c.bit_of-2.new.cache c.bit_of-2.result _ c.in_err-new.field-0.0
    (λ k h. inr h) c.bit_of.ensures.reads c.in_ok-old.ensures.cause.passed c.bit_of-2.ensures.cause c.in_err-new.was c.from_residual-in_err-new.ensures

pub returns-in_err-new-clause-tied : goal.returns-in_err-new-clause-tied
returns-in_err-new-clause-tied g c = λ tells t. tie_same _ _ _ ((reads_after g.D.Disk _ _ _ c.bit_of.ensures.reads c.bit_of-2.ensures.reads).contents tells) t

pub returns-then-new-change-clause-sets : goal.returns-then-new-change-clause-sets
returns-then-new-change-clause-sets g c =
    let d = g.D.Disk in
    let geometry = c.args.g.now in
    let reads = reads_after d _ _ _ c.bit_of.ensures.reads c.bit_of-2.ensures.reads in
    let old = content_in d c.args.cache.now in
    let new = content_in d c.bit_of-2.new.cache in
    let value : IsTrue (d.origin c.args.cache.now.disk).shows → bit_under geometry c.args.working.now old c.args.change.bit ≡ c.args.change.used = λ tells.
    let same : content_in d c.bit_of.new.cache ≡ old = λ z k. c.bit_of.ensures.reads.contents tells k z in
    sym (c.in_ok-new.ensures.bit (shows_on d c.args.cache.now c.bit_of.new.cache c.bit_of.ensures.reads.origin tells) ∙ ap (λ (f : ℕ → List ℕ). bit_under geometry c.args.working.now f c.args.change.bit) same)
    ∙ same_flags c.in_ok-new.new c.args.change.used c.if-new-change.true in
    record {
      working = λ tells. use_changes geometry c.args.change.bit c.args.change.used (bit_under geometry c.args.working.now old) (bit_under geometry c.args.working.now new)
          (has_already (bit_under geometry c.args.working.now old) (bit_under geometry c.args.working.now new) c.args.change.bit c.args.change.used (contents_same geometry c.args.working.now old new (reads.contents tells)) (value tells));
      committed = λ tells b. contents_same geometry c.args.committed.now old new (reads.contents tells) (b - table_start_of geometry);
      writes = λ external. writes_none d _ _ _ reads;
      places = λ external j far. refl;
      sequence_is = λ tells external far. absurd (far refl);
      sequence_stays = λ tells external e. ap (number_at 8 8) (reads.contents tells (live_place geometry c.args.working.now (node_of geometry c.args.change.bit)));
    }

pub returns-then-new-change-clause-idle : goal.returns-then-new-change-clause-idle
returns-then-new-change-clause-idle g c = λ tells has. (refl, refl, reads_after g.D.Disk _ _ _ c.bit_of.ensures.reads c.bit_of-2.ensures.reads)

pub returns-then-new-change-clause-inline : goal.returns-then-new-change-clause-inline
returns-then-new-change-clause-inline g c = λ inline. ((c.bit_of-2.ensures.inline inline).0 ∙ (c.bit_of.ensures.inline inline).0, refl)

pub returns-then-new-change-clause-cause : goal.returns-then-new-change-clause-cause
returns-then-new-change-clause-cause g c = why_passed g.D.Disk (HoldsBitUnder c.args.g.now c.args.committed.now c.args.working.now c.args.change.bit) _ _ _ (c.in_ok-new.ensures.cause.passed ∙ c.in_ok-old.ensures.cause.passed)

pub returns-then-new-change-clause-tied : goal.returns-then-new-change-clause-tied
returns-then-new-change-clause-tied g c = λ tells t. tie_same _ _ _ ((reads_after g.D.Disk _ _ _ c.bit_of.ensures.reads c.bit_of-2.ensures.reads).contents tells) t

pub turn_bit-requires-clause-fits : goal.turn_bit-requires-clause-fits
turn_bit-requires-clause-fits g c = subst (λ (o : Origin). IsFit c.args.g.now o) (sym (c.bit_of-2.ensures.reads.origin ∙ c.bit_of.ensures.reads.origin)) c.requires.fits

pub returns-in_err-turn_bit-clause-inline : goal.returns-in_err-turn_bit-clause-inline
returns-in_err-turn_bit-clause-inline g c = λ inline. absurd (not_ok c.turn_bit.result _ c.in_err-turn_bit.was (c.turn_bit.ensures.inline inline).1)

pub returns-in_err-turn_bit-clause-idle : goal.returns-in_err-turn_bit-clause-idle
returns-in_err-turn_bit-clause-idle g c = λ tells has.
    (c.in_err-turn_bit.ensures.unmoved, refl, reads_after g.D.Disk _ _ _ (reads_after g.D.Disk _ _ _ c.bit_of.ensures.reads c.bit_of-2.ensures.reads) c.in_err-turn_bit.ensures.fault)

pub returns-in_err-turn_bit-clause-unset : goal.returns-in_err-turn_bit-clause-unset
returns-in_err-turn_bit-clause-unset g c = on_err c.from_residual-in_err-turn_bit.result (c.in_err-turn_bit.ensures.unmoved, refl)

pub returns-in_err-turn_bit-clause-fault : goal.returns-in_err-turn_bit-clause-fault
returns-in_err-turn_bit-clause-fault g c = on_err c.from_residual-in_err-turn_bit.result
    (reads_after g.D.Disk _ _ _ (reads_after g.D.Disk _ _ _ c.bit_of.ensures.reads c.bit_of-2.ensures.reads) c.in_err-turn_bit.ensures.fault)

pub returns-in_err-turn_bit-clause-cause : goal.returns-in_err-turn_bit-clause-cause
returns-in_err-turn_bit-clause-cause g c =
    why_after g.D.Disk (HoldsBit c.args.g.now c.args.working.now c.args.change.bit) (HoldsBitUnder c.args.g.now c.args.committed.now c.args.working.now c.args.change.bit) c.args.cache.now c.bit_of-2.new.cache c.turn_bit.new.cache c.turn_bit.result _ c.in_err-turn_bit.field-0.0
    (λ k h. inr h) (reads_after g.D.Disk _ _ _ c.bit_of.ensures.reads c.bit_of-2.ensures.reads) (c.in_ok-new.ensures.cause.passed ∙ c.in_ok-old.ensures.cause.passed) c.turn_bit.ensures.cause c.in_err-turn_bit.was c.from_residual-in_err-turn_bit.ensures

pub returns-in_err-turn_bit-clause-tied : goal.returns-in_err-turn_bit-clause-tied
returns-in_err-turn_bit-clause-tied g c = λ tells t.
    let reads = reads_after g.D.Disk _ _ _ (reads_after g.D.Disk _ _ _ c.bit_of.ensures.reads c.bit_of-2.ensures.reads) c.in_err-turn_bit.ensures.fault in
    let moved = tie_same _ _ (content_in g.D.Disk c.turn_bit.new.cache) (reads.contents tells) t in
    subst (λ (w : List ℕ). IsTied (bitmaps c.args.g.now c.args.committed.now w c.args.counts.now) (content_in g.D.Disk c.turn_bit.new.cache)) (sym c.in_err-turn_bit.ensures.unmoved) moved

pub returns-clause-sets : goal.returns-clause-sets
returns-clause-sets g c =
    let d = g.D.Disk in
    let geometry = c.args.g.now in
    let reads = reads_after d _ _ _ c.bit_of.ensures.reads c.bit_of-2.ensures.reads in
    let mid = c.bit_of-2.new.cache in
    let old = content_in d c.args.cache.now in
    let new = content_in d c.turn_bit.new.cache in
    let did = c.in_ok-turn_bit.ensures in
    record {
      working = λ tells.
          let same : content_in d mid ≡ old = λ z k. reads.contents tells k z in
          use_changes geometry c.args.change.bit c.args.change.used (bit_under geometry c.args.working.now old) (bit_under geometry c.turn_bit.new.working new)
          (λ i. did.bits (shows_on d c.args.cache.now mid reads.origin tells) i ∙ ap (λ (f : ℕ → List ℕ). if i == c.args.change.bit then c.args.change.used else bit_under geometry c.args.working.now f i) same);
      committed = λ tells b. committed_kept geometry c.args.committed.now c.args.working.now c.turn_bit.new.working old new c.args.change.bit
          (λ external k far. (did.turns external).writes.contents (shows_on d c.args.cache.now mid reads.origin tells) k far ∙ reads.contents tells k)
          (λ inline k. ap (λ (x : Cached g.row.D.Denot). content_in d x k) (c.turn_bit.ensures.inline inline).0 ∙ reads.contents tells k) (b - table_start_of geometry);
      writes = λ external. writes_after d _ _ _ _ reads (did.turns external).writes;
      places = λ external. (did.turns external).places;
      sequence_is = λ tells external far.
          let turns = did.turns external in
          let n = node_of geometry c.args.change.bit in
          ap (λ (b : ℕ). number_at 8 8 (new b)) (ap (imap_place_of geometry n) turns.place)
          ∙ turns.first (shows_on d c.args.cache.now mid reads.origin tells) (was_live (bit_in 0 c.turn_bit.new.working n) (bit_in 0 c.args.working.now n) (bit_in 0 c.args.committed.now n) far turns.place);
      sequence_stays = λ tells external e.
          let turns = did.turns external in
          turns.again (shows_on d c.args.cache.now mid reads.origin tells) (sym e ∙ turns.place) ∙ ap (number_at 8 8) (reads.contents tells (live_place geometry c.args.working.now (node_of geometry c.args.change.bit)));
    }

pub returns-clause-idle : goal.returns-clause-idle
returns-clause-idle g c = λ tells has.
    let d = g.D.Disk in
    let geometry = c.args.g.now in
    let old = content_in d c.args.cache.now in
    let same : content_in d c.bit_of.new.cache ≡ old = λ z k. c.bit_of.ensures.reads.contents tells k z in
    let had : bit_under geometry c.args.working.now old c.args.change.bit ≡ not c.args.change.used
    = sym (c.in_ok-new.ensures.bit (shows_on d c.args.cache.now c.bit_of.new.cache c.bit_of.ensures.reads.origin tells) ∙ ap (λ (f : ℕ → List ℕ). bit_under geometry c.args.working.now f c.args.change.bit) same)
    ∙ flag_other c.in_ok-new.new c.args.change.used c.if-new-change.false in
    absurd (not_self c.args.change.used (sym has ∙ had))

pub returns-clause-inline : goal.returns-clause-inline
returns-clause-inline g c = λ inline. ((c.turn_bit.ensures.inline inline).0 ∙ (c.bit_of-2.ensures.inline inline).0 ∙ (c.bit_of.ensures.inline inline).0, refl)

pub returns-clause-cause : goal.returns-clause-cause
returns-clause-cause g c = why_passed g.D.Disk (HoldsBitUnder c.args.g.now c.args.committed.now c.args.working.now c.args.change.bit) _ _ _ (c.in_ok-turn_bit.ensures.cause.passed ∙ c.in_ok-new.ensures.cause.passed ∙ c.in_ok-old.ensures.cause.passed)

pub returns-clause-tied : goal.returns-clause-tied
returns-clause-tied g c = λ tells t.
    let d = g.D.Disk in
    let geometry = c.args.g.now in
    let reads = reads_after d _ _ _ c.bit_of.ensures.reads c.bit_of-2.ensures.reads in
    let mid = c.bit_of-2.new.cache in
    let tells_mid = shows_on d c.args.cache.now mid reads.origin tells in
    let old = content_in d c.args.cache.now in
    let new = content_in d c.turn_bit.new.cache in
    let did = c.in_ok-turn_bit.ensures in
    let n = node_of geometry c.args.change.bit in
    let same_mid : content_in d mid ≡ old = λ z k. reads.contents tells k z in
    let others = λ (external : is_inline_of geometry ≡ false) (k : ℕ) (far : k ≢ spare_place geometry c.args.committed.now n). (did.turns external).writes.contents tells_mid k far ∙ reads.contents tells k in
    let inline_same = λ (inline : is_inline_of geometry ≡ true) (k : ℕ). ap (λ (x : Cached g.row.D.Denot). content_in d x k) (c.turn_bit.ensures.inline inline).0 ∙ reads.contents tells k in
    let same_one : content_in d c.bit_of.new.cache ≡ old = λ z k. c.bit_of.ensures.reads.contents tells k z in
    let was = sym (c.in_ok-old.ensures.bit tells) in
    let had : bit_under geometry c.args.working.now old c.args.change.bit ≡ not c.args.change.used
    = sym (c.in_ok-new.ensures.bit (shows_on d c.args.cache.now c.bit_of.new.cache c.bit_of.ensures.reads.origin tells) ∙ ap (λ (f : ℕ → List ℕ). bit_under geometry c.args.working.now f c.args.change.bit) same_one)
    ∙ flag_other c.in_ok-new.new c.args.change.used c.if-new-change.false in
    tie_set geometry c.args.committed.now c.args.working.now c.turn_bit.new.working old new c.args.change.bit c.args.change.used c.in_ok-old.old c.args.counts.now c.counts_with.result c.counts_with.ensures.few c.requires.bit t
    (nodes_kept geometry c.args.committed.now c.args.working.now c.turn_bit.new.working old new c.args.change.bit others inline_same t.committed)
    (nodes_changed geometry c.args.committed.now c.args.working.now c.turn_bit.new.working old new c.args.change.bit others inline_same t.working
    (λ external. (did.turns external).node tells_mid (subst (λ (f : ℕ → List ℕ). IsNode geometry n (f (live_place geometry c.args.working.now n))) (sym same_mid) (t.working n (node_inside geometry c.args.change.bit c.counts_with.ensures.limits external c.requires.bit))))
    (λ external. (did.turns external).places) (λ external. (did.turns external).place))
    (committed_kept geometry c.args.committed.now c.args.working.now c.turn_bit.new.working old new c.args.change.bit others inline_same)
    (λ i. did.bits tells_mid i ∙ ap (λ (f : ℕ → List ℕ). if i == c.args.change.bit then c.args.change.used else bit_under geometry c.args.working.now f i) same_mid)
    was had c.counts_with.ensures.table c.counts_with.ensures.changed
