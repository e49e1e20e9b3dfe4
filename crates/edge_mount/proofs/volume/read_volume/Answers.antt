use Rattle.std.proofs.Common.{ℕ, List, drop, sym, ap, ◌∙◌, refl, subst, arith}
use Rattle.edge_cache.specs.Calls.{content_in}
use Rattle.edge_disk.specs.Image.{Image}
use Rattle.edge_image.specs.Image.{live_of, reason_of_live}
use Rattle.edge_imap.specs.Bitmaps.{IsFit}
use Rattle.edge_imap.proofs.CallLaws.{reads_after, reads_same, shows_on}
use Rattle.edge_nodes.proofs.GeometryLaws.{block_long}
use Rattle.edge_mount.specs.Mounting.{image_of}
use Rattle.edge_mount.proofs.ReasonLaws.{by_live}
use Rattle.edge_mount.proofs.TellsLaws.{content_same, image_same, tells_after, tells_passed}
use Rattle.edge_mount.proofs.WholeLaws.{by_root, mountable, root_bits}
use Rattle.edge_mount.proofs.volume.read_volume.Goals as goal

pub returns-in_err-master-clause-cause : goal.returns-in_err-master-clause-cause
returns-in_err-master-clause-cause g c = tells_after g.D.Disk _ _ c.args.cache.now c.args.cache.now c.read_master.new.cache c.read_master.result _
    c.in_err-master.field-0.0 (reads_same g.D.Disk c.args.cache.now) refl (λ shows. refl) c.read_master.ensures.cause c.in_err-master.was
    c.from_residual.ensures

pub read_live-requires-clause-fits : goal.read_live-requires-clause-fits
read_live-requires-clause-fits g c = subst (λ o. IsFit c.in_ok-master.master.geometry o) (sym c.read_master.ensures.reads.origin) c.in_ok-master.ensures.fits

pub read_live-requires-clause-three : goal.read_live-requires-clause-three
read_live-requires-clause-three g c = omega (arith, ap (λ o. o.blocks) c.read_master.ensures.reads.origin, c.requires.three)

pub read_live-requires-clause-one : goal.read_live-requires-clause-one
read_live-requires-clause-one g c = omega (arith, c.requires.one, c.in_ok-master.ensures.fits.size)

pub read_live-requires-clause-two : goal.read_live-requires-clause-two
read_live-requires-clause-two g c = c.requires.two ∙ c.in_ok-master.ensures.fits.size

pub returns-in_err-live-clause-reads : goal.returns-in_err-live-clause-reads
returns-in_err-live-clause-reads g c = reads_after g.D.Disk c.args.cache.now c.read_master.new.cache c.read_live.new.cache
    c.read_master.ensures.reads c.read_live.ensures.reads

pub returns-in_err-live-clause-cause : goal.returns-in_err-live-clause-cause
returns-in_err-live-clause-cause g c =
    let old = c.args.cache.now in
    let mid = c.read_master.new.cache in
    let master = c.in_ok-master.master in
    tells_after g.D.Disk _ _ old mid c.read_live.new.cache c.read_live.result _ c.in_err-live.field-0.0 c.read_master.ensures.reads
    c.in_ok-master.ensures.cause.passed (λ shows.
    ap (λ (i : Image). reason_of_live master.geometry i (live_of master.geometry i)) (image_same g.D.Disk old mid c.read_master.ensures.reads shows)
    ∙ sym (by_live (image_of g.D.Disk old) master (omega (arith, c.requires.blocks, c.requires.three)) (c.in_ok-master.ensures.master shows)
    (sym c.in_ok-master.ensures.fits.size) c.in_ok-master.ensures.fits.blocks))
    c.read_live.ensures.cause c.in_err-live.was c.from_residual-in_err-live.ensures

pub load_bitmap-requires-clause-room : goal.load_bitmap-requires-clause-room
load_bitmap-requires-clause-room g c = c.requires.room ∙ c.in_ok-master.ensures.fits.size

pub load_bitmap-requires-clause-bits : goal.load_bitmap-requires-clause-bits
load_bitmap-requires-clause-bits g c =
    let master = c.in_ok-master.master in
    let long = block_long (g.D.Disk.origin c.args.cache.now.disk).block_size (g.met.D.Disk.known_size c.args.cache.now.disk) in
    root_bits master.geometry c.in_ok-live.live.root c.read_live.new.one c.bits_of.result.now
    (omega (arith, long.least, c.in_ok-master.ensures.fits.size)) c.in_ok-live.ensures.spelled.spelled c.bits_of.ensures

pub load_bitmap-requires-clause-fits : goal.load_bitmap-requires-clause-fits
load_bitmap-requires-clause-fits g c = subst (λ o. IsFit c.in_ok-master.master.geometry o)
    (sym (c.read_live.ensures.reads.origin ∙ c.read_master.ensures.reads.origin)) c.in_ok-master.ensures.fits

pub returns-in_err-imap-clause-reads : goal.returns-in_err-imap-clause-reads
returns-in_err-imap-clause-reads g c = reads_after g.D.Disk c.args.cache.now c.read_live.new.cache c.load_bitmap.new.cache
    (reads_after g.D.Disk c.args.cache.now c.read_master.new.cache c.read_live.new.cache c.read_master.ensures.reads c.read_live.ensures.reads)
    c.load_bitmap.ensures.reads

pub returns-in_err-imap-clause-cause : goal.returns-in_err-imap-clause-cause
returns-in_err-imap-clause-cause g c =
    let d = g.D.Disk in
    let old = c.args.cache.now in
    let one = c.read_master.new.cache in
    let two = c.read_live.new.cache in
    let master = c.in_ok-master.master in
    let live = c.in_ok-live.live in
    let reads = reads_after d old one two c.read_master.ensures.reads c.read_live.ensures.reads in
    tells_after d _ _ old two c.load_bitmap.new.cache c.load_bitmap.result _ c.in_err-imap.field-0.0 reads
    (c.in_ok-live.ensures.cause.passed ∙ c.in_ok-master.ensures.cause.passed) (λ shows.
    let shows_one = shows_on d old one c.read_master.ensures.reads.origin shows in
    let same = content_same d old one c.read_master.ensures.reads shows in
    by_root (image_of d old) master live.place live.root c.bits_of.result.now (content_in d two)
    (omega (arith, c.requires.blocks, c.requires.three)) (c.in_ok-master.ensures.master shows) (sym c.in_ok-master.ensures.fits.size)
    c.in_ok-master.ensures.fits.blocks
    (ap (λ (i : Image). live_of master.geometry i) (sym (image_same d old one c.read_master.ensures.reads shows)) ∙ c.in_ok-live.ensures.live shows_one)
    (c.bits_of.ensures ∙ ap (drop 32) (c.in_ok-live.ensures.bytes shows_one ∙ ap (λ (s : ℕ → List ℕ). s live.place) same))
    (content_same d old two reads shows))
    c.load_bitmap.ensures.cause c.in_err-imap.was c.from_residual-in_err-imap.ensures

pub returns-clause-finds : goal.returns-clause-finds
returns-clause-finds g c =
    let d = g.D.Disk in
    let old = c.args.cache.now in
    let one = c.read_master.new.cache in
    let two = c.read_live.new.cache in
    let master = c.in_ok-master.master in
    let live = c.in_ok-live.live in
    let imap = c.in_ok-imap.imap in
    let reads = reads_after d old one two c.read_master.ensures.reads c.read_live.ensures.reads in
    record {
      fits = c.in_ok-master.ensures.fits;
      first = c.in_ok-live.ensures.spelled.first;
      place = c.in_ok-live.ensures.spelled.place;
      sequence = c.in_ok-imap.ensures.sequence;
      geometry = c.in_ok-imap.ensures.geometry;
      settled = c.in_ok-imap.ensures.committed ∙ sym c.in_ok-imap.ensures.working;
      mountable = λ shows.
          let shows_one = shows_on d old one c.read_master.ensures.reads.origin shows in
          let shows_two = shows_on d old two reads.origin shows in
          let same = content_same d old one c.read_master.ensures.reads shows in
          mountable (image_of d old) master live.place live.root c.bits_of.result.now (content_in d two)
          (omega (arith, c.requires.blocks, c.requires.three)) (c.in_ok-master.ensures.master shows) (sym c.in_ok-master.ensures.fits.size)
          c.in_ok-master.ensures.fits.blocks
          (ap (λ (i : Image). live_of master.geometry i) (sym (image_same d old one c.read_master.ensures.reads shows)) ∙ c.in_ok-live.ensures.live shows_one)
          (c.bits_of.ensures ∙ ap (drop 32) (c.in_ok-live.ensures.bytes shows_one ∙ ap (λ (s : ℕ → List ℕ). s live.place) same))
          (content_same d old two reads shows)
          c.in_ok-imap.ensures.sequence (c.in_ok-imap.ensures.nodes shows_two) (c.in_ok-imap.ensures.counts shows_two);
      roots = λ shows.
          let shows_one = shows_on d old one c.read_master.ensures.reads.origin shows in
          let same = content_same d old one c.read_master.ensures.reads shows in
          c.in_ok-imap.ensures.working ∙ c.bits_of.ensures
          ∙ ap (drop 32) (c.in_ok-live.ensures.bytes shows_one ∙ ap (λ (s : ℕ → List ℕ). s live.place) same);
      tied = λ shows. c.in_ok-imap.ensures.tied (shows_on d old two reads.origin shows);
    }

pub returns-clause-reads : goal.returns-clause-reads
returns-clause-reads g c = reads_after g.D.Disk c.args.cache.now c.read_live.new.cache c.load_bitmap.new.cache
    (reads_after g.D.Disk c.args.cache.now c.read_master.new.cache c.read_live.new.cache c.read_master.ensures.reads c.read_live.ensures.reads)
    c.load_bitmap.ensures.reads

pub returns-clause-cause : goal.returns-clause-cause
returns-clause-cause g c = tells_passed g.D.Disk _ c.args.cache.now c.load_bitmap.new.cache _
    (c.in_ok-imap.ensures.cause.passed ∙ c.in_ok-live.ensures.cause.passed ∙ c.in_ok-master.ensures.cause.passed)
