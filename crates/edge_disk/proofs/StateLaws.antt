-- A disk that no call has changed, and one that two such calls left.
use Rattle.std.proofs.Common.{refl, ◌∙◌}
use Rattle.edge_disk.specs.Disk.{DiskState}
use Rattle.edge_disk.specs.State.{IsUntouched}

pub untouched : {disk : DiskState} → IsUntouched disk disk
untouched = record { origin = refl; shown = refl; candidates = record { adds_none = λ k c h. h; stays = λ k c h. h; sure = λ k h. h; sure_stays = λ k h. h } }

pub untouched-twice : {a b c : DiskState} → IsUntouched a b → IsUntouched b c → IsUntouched a c
untouched-twice first second = record {
  origin = second.origin ∙ first.origin;
  shown = second.shown ∙ first.shown;
  candidates = record {
    adds_none = λ k c h. first.candidates.adds_none k c (second.candidates.adds_none k c h);
    stays = λ k c h. second.candidates.stays k c (first.candidates.stays k c h);
    sure = λ k h. first.candidates.sure k (second.candidates.sure k h);
    sure_stays = λ k h. second.candidates.sure_stays k (first.candidates.sure_stays k h);
  };
}
