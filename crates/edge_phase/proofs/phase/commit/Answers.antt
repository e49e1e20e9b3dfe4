use Rattle.std.proofs.Common.{◌∙◌, inr, ℕ, List, refl, sym, subst}
use Rattle.edge_cache.specs.Calls.{content_in}
use Rattle.edge_disk.specs.State.{EachCut, disk_of}
use Rattle.edge_anchor.specs.Anchor.{to_master}
use Rattle.edge_anchor.specs.Medium.{IsCommitted, medium_of, shown_alone}
use Rattle.edge_phase.specs.Phases.{MayFollow, OpensAsEither, next_of}
use Rattle.edge_phase.proofs.TieLaws.{may_follow}
use Rattle.edge_phase.proofs.phase.commit.Goals as goal

pub returns-in_err-take_point-clause-cut : goal.returns-in_err-take_point-clause-cut
returns-in_err-take_point-clause-cut g c = λ a allowed told is.
    let d = g.D.Disk in
    let old = c.args.cache.now in
    let new = c.take_point.new.cache in
    let content = content_in d old in
    let bits = c.root_bits.ensures.bits in
    let may = may_follow d a c.args.place c.args.root.now c.args.imap.now old allowed is.hangs (is.needed.idle 0 (inr (to_master refl))) in
    let follows = subst (λ (x : List ℕ). MayFollow d a c.args.root.now x old) (sym bits) may in
    subst (λ (x : List ℕ). EachCut (disk_of d new.disk) (OpensAsEither a (next_of a c.args.root.now x content) content)) bits
    (c.take_point.ensures.cut a (allowed.geometry ∙ c.requires.geometry) allowed.spare follows told is)

pub returns-clause-cut : goal.returns-clause-cut
returns-clause-cut g c = λ a allowed told is.
    let d = g.D.Disk in
    let old = c.args.cache.now in
    let new = c.take_point.new.cache in
    let content = content_in d old in
    let bits = c.root_bits.ensures.bits in
    let may = may_follow d a c.args.place c.args.root.now c.args.imap.now old allowed is.hangs (is.needed.idle 0 (inr (to_master refl))) in
    let follows = subst (λ (x : List ℕ). MayFollow d a c.args.root.now x old) (sym bits) may in
    subst (λ (x : List ℕ). EachCut (disk_of d new.disk) (OpensAsEither a (next_of a c.args.root.now x content) content)) bits
    (c.take_point.ensures.cut a (allowed.geometry ∙ c.requires.geometry) allowed.spare follows told is)

pub returns-clause-committed : goal.returns-clause-committed
returns-clause-committed g c = λ a allowed told is.
    let d = g.D.Disk in
    let old = c.args.cache.now in
    let new = c.take_point.new.cache in
    let content = content_in d old in
    let bits = c.root_bits.ensures.bits in
    let may = may_follow d a c.args.place c.args.root.now c.args.imap.now old allowed is.hangs (is.needed.idle 0 (inr (to_master refl))) in
    let follows = subst (λ (x : List ℕ). MayFollow d a c.args.root.now x old) (sym bits) may in
    subst (λ (x : List ℕ). IsCommitted (next_of a c.args.root.now x content) (medium_of d new)) bits
    (c.in_ok-take_point.ensures.committed a (allowed.geometry ∙ c.requires.geometry) allowed.spare follows told is)

pub returns-clause-shown : goal.returns-clause-shown
returns-clause-shown g c = λ a allowed shows is.
    let d = g.D.Disk in
    let old = c.args.cache.now in
    let new = c.take_point.new.cache in
    let content = content_in d old in
    let bits = c.root_bits.ensures.bits in
    let may = may_follow d a c.args.place c.args.root.now c.args.imap.now old allowed is.hangs (is.needed.idle 0 (inr (to_master refl))) in
    let follows = subst (λ (x : List ℕ). MayFollow d a c.args.root.now x old) (sym bits) may in
    subst (λ (x : List ℕ). IsCommitted (next_of a c.args.root.now x content) (shown_alone (medium_of d new))) bits
    (c.in_ok-take_point.ensures.shown a (allowed.geometry ∙ c.requires.geometry) allowed.spare follows shows is)
