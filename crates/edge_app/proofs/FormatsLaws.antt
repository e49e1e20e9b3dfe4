-- What `format` promises, from what the formatter promises.
use Rattle.std.proofs.Common.{◌≡◌, inl, inr, ℕ, true, false, sym, subst, arith}
use Rattle.std.specs.Prelude.{IsTrue, Result, Ok, Err, OnOk, OnErr, is_err, is_ok}
use Rattle.std.proofs.lemmas.Bool.{false≢true}
use Rattle.edge_base.specs.declared.geometry.Request.{Request}
use Rattle.edge_io.specs.Moments.{GivesMoment}
use Rattle.edge_image.specs.Formatted.{OpensFresh}
use Rattle.edge_format.specs.Cut.{IsOldOrFresh}
use Rattle.edge_disk.specs.State.{EachPermitted, EachCut, IsSettled, shown_by}
use Rattle.edge_app.specs.Formats.{IsWritten, MakesVolume}
use Rattle.edge_app.specs.World.{World}
use Rattle.edge_app.specs.declared.report.Report.{Report}
use Rattle.edge_app.specs.declared.report.TheConstants.{DEVICE}

not_written : (status : ℕ) → status ≡ DEVICE → IsWritten status → ⊥
not_written status five (inl zero) = omega (arith, five, zero)
not_written status five (inr four) = omega (arith, five, four)

module _ (g : Request) (before after : World) (time : ℕ) (moment : IsTrue before.clock.tells → GivesMoment time before.clock.moments after.clock.moments) where
  pub made_after_fault : {T E : Type 0} (r : Result T E) (h : Request) (report : Report) → is_err r ≡ true → h ≡ g → after.disk.origin ≡ before.disk.origin → report.status ≡ DEVICE
      → (IsSettled before.disk → OnErr r (EachCut after.disk (IsOldOrFresh (shown_by before.disk) h time)))
      → MakesVolume g before after report
  made_after_fault (Ok x) h report failed same same_origin five cut = absurd (false≢true failed)
  made_after_fault (Err e) h report failed same same_origin five cut = record {
    time = time;
    moment = moment;
    shown = λ shows written. absurd (not_written report.status five written);
    permitted = λ settled written. absurd (not_written report.status five written);
    sure = λ settled written. absurd (not_written report.status five written);
    cut = λ settled _. subst (λ (k : Request). EachCut after.disk (IsOldOrFresh (shown_by before.disk) k time)) same (cut settled);
  }

  pub made_after_ok : {T E : Type 0} (r : Result T E) (h : Request) (report : Report) → is_err r ≡ false → h ≡ g → IsWritten report.status
      → (IsTrue before.disk.origin.shows → OnOk r (OpensFresh h time (shown_by after.disk)))
      → (IsSettled before.disk → OnOk r (EachPermitted after.disk (OpensFresh h time)))
      → (IsSettled before.disk → OnOk r ((b : ℕ) → after.disk.is_sure b))
      → MakesVolume g before after report
  made_after_ok (Err e) h report failed same written shown opens sure = absurd (false≢true (sym failed))
  made_after_ok (Ok x) h report failed same written shown opens sure = record {
    time = time;
    moment = moment;
    shown = λ shows _. subst (λ (k : Request). OpensFresh k time (shown_by after.disk)) same (shown shows);
    permitted = λ settled _. subst (λ (k : Request). EachPermitted after.disk (OpensFresh k time)) same (opens settled);
    sure = λ settled _. sure settled;
    cut = λ settled five. absurd (not_written report.status five written);
  }

-- what holds after Ok, of an answer that is Ok
pub passed_ok : {T E : Type 0} (r : Result T E) (P : Type 0) → is_ok r ≡ true → OnOk r P → P
passed_ok (Ok x) P is p = p
passed_ok (Err e) P is p = absurd (false≢true is)
