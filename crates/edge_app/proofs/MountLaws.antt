-- What `run` promises over an image that is not mounted.
use Rattle.std.proofs.Common.{◌≡◌, inl, inr, ℕ, false, refl, sym, ◌∙◌, arith, ap}
use Rattle.std.proofs.lemmas.Bool.{false≢true}
use Rattle.edge_disk.specs.State.{disk_of}
use Rattle.edge_disk.specs.declared.disk.Disk.{Ghosts}
use Rattle.edge_mount.specs.Mounted.{Refuses}
use Rattle.edge_mount.specs.declared.fault.MountFault.{MountFault}
use Rattle.edge_mount.specs.declared.fault.MountFault.TheVariants.{Device, NotVolume, Memory}
use Rattle.edge_app.specs.Causes.{HasCauses, IsBeforeDisk, has_no_session}
use Rattle.edge_app.specs.Report.{unmounted_by}
use Rattle.edge_app.specs.Runs.{Runs}
use Rattle.edge_app.specs.World.{World}
use Rattle.edge_app.specs.declared.report.TheConstants.{DEVICE, MEMORY, NOT_A_VOLUME}
use Rattle.edge_app.proofs.SoundLaws.{SureIsShown}
use Rattle.edge_app.proofs.UnservedLaws.{causes_unserved, runs_unserved}

module _ {D : Type 0} (g : Ghosts D) (b : World) (disk back : D) where
  abbrev before : World
  before = record b { disk = disk_of g disk }

  pub causes_unmounted : (fault : MountFault) → Refuses g disk back fault → HasCauses before (record b { disk = disk_of g back }) (unmounted_by fault)
  causes_unmounted Device is =
      causes_unserved before (disk_of g back) DEVICE 0 (inl refl) (λ e. is.why) (λ shows e. absurd (omega arith)) is.untouched.origin (inr refl) (inl refl)
  causes_unmounted (NotVolume reason) is =
      causes_unserved before (disk_of g back) NOT_A_VOLUME reason (inr (inr refl)) (λ e. absurd (omega arith)) (λ shows e. is.why.1 shows) is.untouched.origin (inl refl) (inr is.why.0)
  causes_unmounted Memory is =
      causes_unserved before (disk_of g back) MEMORY 0 (inr (inl refl)) (λ e. absurd (omega arith)) (λ shows e. absurd (omega arith)) is.untouched.origin (inr refl) (inr (ap g.faults is.why))

  pub runs_unmounted : (fault : MountFault) → SureIsShown (disk_of g disk) → Refuses g disk back fault → Runs before (record b { disk = disk_of g back }) (unmounted_by fault)
  runs_unmounted Device is_shown is =
      runs_unserved before (disk_of g back) DEVICE 0 (inl refl) (λ e. is.why) (λ shows e. absurd (omega arith)) is_shown is.untouched
  runs_unmounted (NotVolume reason) is_shown is =
      runs_unserved before (disk_of g back) NOT_A_VOLUME reason (inr (inr refl)) (λ e. absurd (omega arith)) (λ shows e. is.why.1 shows) is_shown is.untouched
  runs_unmounted Memory is_shown is =
      runs_unserved before (disk_of g back) MEMORY 0 (inr (inl refl)) (λ e. absurd (omega arith)) (λ shows e. absurd (omega arith)) is_shown is.untouched

  pub no_call_unmounted : (fault : MountFault) → Refuses g disk back fault → IsBeforeDisk (unmounted_by fault).status → back ≡ disk
  no_call_unmounted Memory is early = is.why
  no_call_unmounted Device is (inl e) = absurd (omega arith)
  no_call_unmounted Device is (inr (inl e)) = absurd (omega arith)
  no_call_unmounted Device is (inr (inr e)) = absurd (omega arith)
  no_call_unmounted (NotVolume reason) is (inl e) = absurd (omega arith)
  no_call_unmounted (NotVolume reason) is (inr (inl e)) = absurd (omega arith)
  no_call_unmounted (NotVolume reason) is (inr (inr e)) = absurd (omega arith)

-- a session comes behind the first call of the disk
pub no_call_served : (status : ℕ) → has_no_session status ≡ false → IsBeforeDisk status → ⊥
no_call_served status some (inl e) = false≢true (sym some ∙ ap has_no_session e)
no_call_served status some (inr (inl e)) = false≢true (sym some ∙ ap has_no_session e)
no_call_served status some (inr (inr e)) = false≢true (sym some ∙ ap has_no_session e)
