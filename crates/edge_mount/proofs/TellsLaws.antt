-- What the parts of a mount answer, one after another.
use Rattle.std.proofs.Common.{◌≡◌, ◌≢◌, ℕ, ◌^◌, ◌≤◌, List, Option, Some, sym, ap, ◌∙◌, subst, arith}
use Rattle.std.specs.Prelude.{Result, Ok, Err, IsErr, IsErrAnd, IsTrue}
use Rattle.edge_base.specs.declared.geometry.Request.{Request}
use Rattle.edge_base.specs.declared.node.Metaroot.{Metaroot}
use Rattle.edge_base.specs.outside.Faults.{Rose}
use Rattle.edge_cache.specs.Cached.{Cached}
use Rattle.edge_cache.specs.Calls.{content_in}
use Rattle.edge_disk.specs.Image.{shown_image}
use Rattle.edge_disk.specs.declared.disk.Disk.{Ghosts}
use Rattle.edge_imap.specs.Reading.{OnlyReads, TellsLoad}
use Rattle.edge_imap.specs.declared.fault.LoadFault.{LoadFault}
use Rattle.edge_imap.specs.declared.fault.LoadFault.TheVariants as load
use Rattle.edge_imap.proofs.CallLaws.{shows_on}
use Rattle.edge_mount.specs.Faults.{of_load}
use Rattle.edge_mount.specs.Mounting.{TellsMount, image_of, reason_under}
use Rattle.edge_mount.proofs.NodeLaws.{first_is_bad}
use Rattle.edge_mount.proofs.ReasonLaws.{bad}
use Rattle.edge_mount.specs.declared.fault.MountFault.{MountFault}
use Rattle.edge_mount.specs.declared.fault.MountFault.TheVariants.{Device, NotVolume, Memory}

module _ {D : Type 0} (g : Ghosts D) where
  -- what is read only gives the same image
  pub content_same : (old new : Cached D) → OnlyReads g old new → IsTrue (g.origin old.disk).shows → content_in g new ≡ content_in g old
  content_same old new reads shows = λ t k. reads.contents shows k t

  pub image_same : (old new : Cached D) → OnlyReads g old new → IsTrue (g.origin old.disk).shows → image_of g new ≡ image_of g old
  image_same old new reads shows =
      (λ t. shown_image (reads.origin t) (content_in g new)) ∙ ap (shown_image (g.origin old.disk)) (content_same old new reads shows)

  pub tells_passed : {T : Type 0} (reason : Option ℕ) (old new : Cached D) (v : T) → g.faults new.disk ≡ g.faults old.disk → TellsMount g reason old new (Ok v)
  tells_passed reason old new v same = record {
    later = omega (arith, same);
    passed = same;
    device = λ h. absurd (cc h);
    memory = λ h. absurd (cc h);
    read = λ r h. absurd (cc h);
    first = λ r h. absurd (cc h);
  }

  -- a fault of the disk, behind calls that read
  pub tells_device : {T : Type 0} (reason : Option ℕ) (old mid new : Cached D) (r : Result T MountFault) → IsErr r × IsErrAnd r (λ e. e ≡ Device)
      → g.faults mid.disk ≡ g.faults old.disk → g.faults mid.disk ≤ g.faults new.disk → Rose (g.faults mid.disk) (g.faults new.disk)
      → TellsMount g reason old new r
  tells_device reason old mid new (Ok v) fails same later rose = absurd (cc (fails.0))
  tells_device reason old mid new (Err e) fails same later rose = record {
    later = omega (arith, same, later);
    passed = tt;
    device = λ h. subst (λ (n : ℕ). Rose n (g.faults new.disk)) same rose;
    memory = λ h. absurd (cc (fails.1, h));
    read = λ r h. absurd (cc (fails.1, h));
    first = λ r h. absurd (cc (fails.1, h));
  }

  -- a reason was found
  pub tells_reason : {T : Type 0} (reason : Option ℕ) (old new : Cached D) (r : ℕ) → g.faults new.disk ≡ g.faults old.disk
      → (IsTrue (g.origin old.disk).shows → reason ≡ Some r) → TellsMount g {T = T} reason old new (Err (NotVolume r))
  tells_reason reason old new r same is = record {
    later = omega (arith, same);
    passed = tt;
    device = λ h. absurd (cc h);
    memory = λ h. absurd (cc h);
    read = λ k h. same;
    first = λ k h shows. let e : r ≡ k = cc h in is shows ∙ ap Some e;
  }

  -- the fault of a part, behind others that only read, was passed on
  pub tells_after : {S T : Type 0} (part whole : Option ℕ) (old mid new : Cached D) (s : Result S MountFault) (r : Result T MountFault) (e : MountFault)
      → OnlyReads g old mid → g.faults mid.disk ≡ g.faults old.disk → (IsTrue (g.origin old.disk).shows → part ≡ whole)
      → TellsMount g part mid new s → s ≡ Err e → IsErr r × IsErrAnd r (λ x. x ≡ e) → TellsMount g whole old new r
  tells_after part whole old mid new s (Ok v) e reads same into tells is fails = absurd (cc (fails.0))
  tells_after part whole old mid new s (Err x) e reads same into tells is fails =
      let failed : s ≡ Err x = is ∙ ap (λ (y : MountFault). Err y) (sym fails.1) in
      record {
        later = omega (arith, same, tells.later);
        passed = tt;
        device = λ h. subst (λ (n : ℕ). Rose n (g.faults new.disk)) same (tells.device (let f : x ≡ Device = cc h in failed ∙ ap (λ (y : MountFault). Err y) f));
        memory = λ h. tells.memory (let f : x ≡ Memory = cc h in failed ∙ ap (λ (y : MountFault). Err y) f);
        read = λ k h. tells.read k (let f : x ≡ NotVolume k = cc h in failed ∙ ap (λ (y : MountFault). Err y) f) ∙ same;
        first = λ k h shows. sym (into shows)
            ∙ tells.first k (let f : x ≡ NotVolume k = cc h in failed ∙ ap (λ (y : MountFault). Err y) f) (shows_on g old mid reads.origin shows);
      }

  -- the fault of a load was passed on
  pub tells_load : {S T : Type 0} (request : Request) (root : Metaroot) (roots : List ℕ) (old new : Cached D) (s : Result S LoadFault) (r : Result T MountFault)
      (e : LoadFault) → root.sequence ≤ 2 ^ 63 → TellsLoad g request roots old new s → s ≢ Err load.Memory → s ≡ Err e
      → IsErr r × IsErrAnd r (λ x. x ≡ of_load e) → TellsMount g (reason_under request root roots (content_in g old)) old new r
  tells_load request root roots old new s (Ok v) e early tells never is fails = absurd (cc (fails.0))
  tells_load request root roots old new s (Err x) load.Memory early tells never is fails = absurd (never is)
  tells_load request root roots old new s (Err x) load.Device early tells never is fails = record {
    later = tells.later;
    passed = tt;
    device = λ h. tells.device is;
    memory = λ h. absurd (cc (fails.1, h));
    read = λ k h. absurd (cc (fails.1, h));
    first = λ k h. absurd (cc (fails.1, h));
  }
  tells_load request root roots old new s (Err x) (load.Node i) early tells never is fails = record {
    later = tells.later;
    passed = tt;
    device = λ h. absurd (cc (fails.1, h));
    memory = λ h. absurd (cc (fails.1, h));
    read = λ k h. tells.read i is;
    first = λ k h shows.
        let found = tells.node i is shows in
        let six : 6 ≡ k = cc (fails.1, h) in
        bad request root roots (content_in g old) early (first_is_bad request roots (content_in g old) i found.in_range found.spells_none) ∙ ap Some six;
  }
