use Rattle.std.proofs.Common.{ℕ, List, sym, ap, ◌∙◌, subst, arith}
use Rattle.edge_disk.specs.Image.{Image}
use Rattle.edge_image.specs.Image.{roots_in}
use Rattle.edge_image.specs.Ready.{IsMountable}
use Rattle.edge_imap.specs.Bitmaps.{IsTied}
use Rattle.edge_mount.specs.Mounted.{Refuses}
use Rattle.edge_mount.specs.Mounting.{live_at}
use Rattle.edge_mount.proofs.TellsLaws.{content_same}
use Rattle.edge_mount.proofs.WholeLaws.{content_shown, image_shown, length-back, only_read, why_not}
use Rattle.edge_mount.proofs.volume.mount_in.Goals as goal

pub returns-in-Ok-clause-mounts : goal.returns-in-Ok-clause-mounts
returns-in-Ok-clause-mounts g c =
    let d = g.D.Disk in
    let old = c.args.cache in
    let new = c.read_volume.new.cache in
    let reads = c.read_volume.ensures.reads in
    let v = c.in-Ok.volume in
    let finds = c.in-Ok.ensures.finds in
    let clean = c.requires.clean in
    record {
      untouched = only_read d old new clean reads;
      no_fault = c.in-Ok.ensures.cause.passed;
      clean = (reads.clean clean).clean;
      block = length-back c.args.rooms.one.len c.read_volume.new.one c.args.rooms.one.items (omega arith) c.args.rooms.one.ok.0 ∙ c.requires.rooms.one
          ∙ finds.fits.size;
      fits = finds.fits;
      first = finds.first;
      place = finds.place;
      sequence = finds.sequence;
      geometry = finds.geometry;
      settled = finds.settled;
      mountable = λ shows. subst (λ (i : Image). IsMountable i v.master (live_at v.place v.root)) (image_shown d old new clean reads) (finds.mountable shows);
      roots = λ shows. finds.roots shows ∙ ap (λ (i : Image). roots_in i (live_at v.place v.root)) (image_shown d old new clean reads);
      tied = λ shows. subst (λ (s : ℕ → List ℕ). IsTied v.imap s) (content_same d old new reads shows ∙ content_shown d old new clean reads) (finds.tied shows);
    }

pub returns-in-Err-clause-refuses : goal.returns-in-Err-clause-refuses
returns-in-Err-clause-refuses g c =
    let d = g.D.Disk in
    let old = c.args.cache in
    let new = c.read_volume.new.cache in
    let clean = c.requires.clean in
    subst (λ back. Refuses d old.disk back c.in-Err.fault) (sym c.end.ensures) (record {
      untouched = only_read d old new clean c.read_volume.ensures.reads;
      why = why_not d old new clean c.read_volume.ensures.reads c.read_volume.result c.in-Err.fault c.read_volume.ensures.cause c.in-Err.is;
    })
