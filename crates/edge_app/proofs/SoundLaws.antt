-- A disk that was sound, and whose candidates have not changed, still holds images of the same tree alone.
use Rattle.std.proofs.Common.{◌≡◌, ◌<◌, ℕ, List, sym, ap, ◌∙◌, subst}
use Rattle.edge_disk.specs.Disk.{Origin, DiskState}
use Rattle.edge_model.specs.Tree.{Tree}
use Rattle.edge_image.specs.Opens.{OpensTo, IsAlike, IsSound}
use Rattle.edge_image.proofs.AlikeLaws.{opens_alike}
use Rattle.edge_disk.specs.State.{IsUntouched, shown_by, EachPermitted}

-- a block with one candidate holds what is shown
abbrev pub SureIsShown : DiskState → Type 0
SureIsShown disk = (b : ℕ) (c : List ℕ) → disk.is_sure b → disk.may_hold b c → c ≡ disk.shown b

pub still_opens : (disk then : DiskState) (t : Tree) → SureIsShown disk → IsUntouched disk then → IsSound disk t → EachPermitted then (λ image. OpensTo image t)
still_opens disk then t is_shown untouched sound = λ image permitted.
    let alike : IsAlike (shown_by disk) image = record {
      blocks = permitted.blocks ∙ ap (λ (o : Origin). o.blocks) untouched.origin;
      block_size = permitted.block_size ∙ ap (λ (o : Origin). o.block_size) untouched.origin;
      same = λ b below.
          let sure_before = sound.sure b below in
          is_shown b (image.block b) sure_before
          (untouched.candidates.adds_none b (image.block b) (permitted.only b (subst (λ (o : Origin). b < o.blocks) (sym untouched.origin) below) (untouched.candidates.sure_stays b sure_before)));
    } in
    opens_alike (shown_by disk) image t alike sound.opens
