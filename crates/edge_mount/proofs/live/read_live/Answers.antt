use Rattle.std.proofs.Common.{◌≡◌, sym, ap, ◌∙◌, refl, subst, arith}
use Rattle.std.specs.Prelude.{IsTrue}
use Rattle.edge_base.specs.layout.Spelling.{metaroot_in}
use Rattle.edge_cache.specs.Calls.{content_in}
use Rattle.edge_image.specs.Image.{live_among, reason_of_live}
use Rattle.edge_imap.proofs.BitLaws.{whole_read}
use Rattle.edge_imap.proofs.CallLaws.{reads_after, reads_call}
use Rattle.edge_mount.specs.Live.{live_bytes}
use Rattle.edge_mount.specs.Mounting.{image_of, live_at}
use Rattle.edge_mount.proofs.NodeLaws.{live_found, none_found}
use Rattle.edge_mount.proofs.ReasonLaws.{at_place}
use Rattle.edge_mount.proofs.TellsLaws.{tells_device, tells_passed, tells_reason}
use Rattle.edge_mount.proofs.live.read_live.Goals as goal

pub returns-in_err-read-clause-reads : goal.returns-in_err-read-clause-reads
returns-in_err-read-clause-reads g c = reads_call g.D.Disk _ _ c.read.ensures.origin c.read.ensures.only c.read.ensures.clean

pub returns-in_err-read-clause-cause : goal.returns-in_err-read-clause-cause
returns-in_err-read-clause-cause g c = tells_device g.D.Disk _ c.args.cache.now c.args.cache.now c.read.new.self _ c.from_residual.ensures refl
    c.read.ensures.cause.later c.in_err-read.ensures.cause.failed

pub read-requires-2-clause-in_range : goal.read-requires-2-clause-in_range
read-requires-2-clause-in_range g c = omega (arith, ap (λ o. o.blocks) c.read.ensures.origin, c.requires.three)

pub read-requires-2-clause-inside : goal.read-requires-2-clause-inside
read-requires-2-clause-inside g c = omega (arith, ap (λ o. o.block_size) c.read.ensures.origin, c.requires.two, c.requires.fits.size)

pub returns-in_err-read-2-clause-reads : goal.returns-in_err-read-2-clause-reads
returns-in_err-read-2-clause-reads g c =
    reads_after g.D.Disk c.args.cache.now c.read.new.self c.read-2.new.self
    (reads_call g.D.Disk _ _ c.read.ensures.origin c.read.ensures.only c.read.ensures.clean)
    (reads_call g.D.Disk _ _ c.read-2.ensures.origin c.read-2.ensures.only c.read-2.ensures.clean)

pub returns-in_err-read-2-clause-cause : goal.returns-in_err-read-2-clause-cause
returns-in_err-read-2-clause-cause g c = tells_device g.D.Disk _ c.args.cache.now c.read.new.self c.read-2.new.self _ c.from_residual-in_err-read-2.ensures
    c.in_ok-read.ensures.cause.passed c.read-2.ensures.cause.later c.in_err-read-2.ensures.cause.failed

pub returns-in_default-clause-reads : goal.returns-in_default-clause-reads
returns-in_default-clause-reads g c =
    reads_after g.D.Disk c.args.cache.now c.read.new.self c.read-2.new.self
    (reads_call g.D.Disk _ _ c.read.ensures.origin c.read.ensures.only c.read.ensures.clean)
    (reads_call g.D.Disk _ _ c.read-2.ensures.origin c.read-2.ensures.only c.read-2.ensures.clean)

pub returns-in_default-clause-cause : goal.returns-in_default-clause-cause
returns-in_default-clause-cause g c = tells_reason g.D.Disk _ c.args.cache.now c.read-2.new.self 4
    (c.in_ok-read-2.ensures.cause.passed ∙ c.in_ok-read.ensures.cause.passed) (λ shows.
    let r = c.args.g.now in
    let content = content_in g.D.Disk c.args.cache.now in
    let shows_mid = subst (λ o. IsTrue o.shows) (sym c.read.ensures.origin) shows in
    let first : c.read.new.out ≡ content 1
    = c.in_ok-read.ensures.bytes shows ∙ whole_read (content 1) c.args.one.now
    (c.read.ensures.whole shows 1 (omega (arith, c.requires.three)) ∙ c.requires.fits.size ∙ sym c.requires.one) in
    let second : c.read-2.new.out ≡ content 2
    = c.in_ok-read-2.ensures.bytes shows_mid ∙ whole_read (content_in g.D.Disk c.read.new.self 2) c.args.two.now
    (c.read-2.ensures.whole shows_mid 2 (omega (arith, ap (λ o. o.blocks) c.read.ensures.origin, c.requires.three)) ∙ ap (λ o. o.block_size) c.read.ensures.origin
    ∙ c.requires.fits.size ∙ sym c.requires.two)
    ∙ c.read.ensures.only.contents shows 2 in
    ap (reason_of_live r (image_of g.D.Disk c.args.cache.now))
    ((λ t. live_among (metaroot_in r (sym first t)) (metaroot_in r (sym second t))) ∙ none_found _ _ _ _ c.in_default.ensures.found))

pub returns-clause-live : goal.returns-clause-live
returns-clause-live g c = λ shows.
    let r = c.args.g.now in
    let content = content_in g.D.Disk c.args.cache.now in
    let shows_mid = subst (λ o. IsTrue o.shows) (sym c.read.ensures.origin) shows in
    let first : c.read.new.out ≡ content 1
    = c.in_ok-read.ensures.bytes shows ∙ whole_read (content 1) c.args.one.now
    (c.read.ensures.whole shows 1 (omega (arith, c.requires.three)) ∙ c.requires.fits.size ∙ sym c.requires.one) in
    let second : c.read-2.new.out ≡ content 2
    = c.in_ok-read-2.ensures.bytes shows_mid ∙ whole_read (content_in g.D.Disk c.read.new.self 2) c.args.two.now
    (c.read-2.ensures.whole shows_mid 2 (omega (arith, ap (λ o. o.blocks) c.read.ensures.origin, c.requires.three)) ∙ ap (λ o. o.block_size) c.read.ensures.origin
    ∙ c.requires.fits.size ∙ sym c.requires.two)
    ∙ c.read.ensures.only.contents shows 2 in
    (λ t. live_among (metaroot_in r (sym first t)) (metaroot_in r (sym second t))) ∙ (live_found _ _ _ _ c.in-Some.live c.in-Some.ensures.found).0

pub returns-clause-bytes : goal.returns-clause-bytes
returns-clause-bytes g c = λ shows.
    let r = c.args.g.now in
    let content = content_in g.D.Disk c.args.cache.now in
    let live = live_at c.in-Some.live.place c.in-Some.live.root in
    let shows_mid = subst (λ o. IsTrue o.shows) (sym c.read.ensures.origin) shows in
    let first : c.read.new.out ≡ content 1
    = c.in_ok-read.ensures.bytes shows ∙ whole_read (content 1) c.args.one.now
    (c.read.ensures.whole shows 1 (omega (arith, c.requires.three)) ∙ c.requires.fits.size ∙ sym c.requires.one) in
    let second : c.read-2.new.out ≡ content 2
    = c.in_ok-read-2.ensures.bytes shows_mid ∙ whole_read (content_in g.D.Disk c.read.new.self 2) c.args.two.now
    (c.read-2.ensures.whole shows_mid 2 (omega (arith, ap (λ o. o.blocks) c.read.ensures.origin, c.requires.three)) ∙ ap (λ o. o.block_size) c.read.ensures.origin
    ∙ c.requires.fits.size ∙ sym c.requires.two)
    ∙ c.read.ensures.only.contents shows 2 in
    let found = live_found _ _ _ _ c.in-Some.live c.in-Some.ensures.found in
    found.1 ∙ (λ t. live_bytes live (first t) (second t))
    ∙ at_place (metaroot_in r (content 1)) (metaroot_in r (content 2)) content live
    ((λ t. live_among (metaroot_in r (sym first t)) (metaroot_in r (sym second t))) ∙ found.0)

pub returns-clause-reads : goal.returns-clause-reads
returns-clause-reads g c =
    reads_after g.D.Disk c.args.cache.now c.read.new.self c.read-2.new.self
    (reads_call g.D.Disk _ _ c.read.ensures.origin c.read.ensures.only c.read.ensures.clean)
    (reads_call g.D.Disk _ _ c.read-2.ensures.origin c.read-2.ensures.only c.read-2.ensures.clean)

pub returns-clause-cause : goal.returns-clause-cause
returns-clause-cause g c = tells_passed g.D.Disk _ c.args.cache.now c.read-2.new.self _
    (c.in_ok-read-2.ensures.cause.passed ∙ c.in_ok-read.ensures.cause.passed)
