use Rattle.std.proofs.Common.{◌≡◌, ◌∙◌, ℕ, sym, ap, subst, arith}
use Rattle.std.specs.Prelude.{IsTrue}
use Rattle.edge_cache.specs.Calls.{content_in}
use Rattle.edge_cache.specs.Given.{or_shown}
use Rattle.edge_disk.specs.Disk.{Origin}
use Rattle.edge_anchor.specs.Anchor.{IsOn, IsRoot}
use Rattle.edge_anchor.specs.Medium.{medium_of, none_given, one_given, shown_alone}
use Rattle.edge_anchor.proofs.KeepLaws.{committed_none, follows_more, shown_follows}
use Rattle.edge_phase.specs.Phases.{next_of}
use Rattle.edge_phase.specs.Spared.{block_given}
use Rattle.edge_phase.proofs.PhaseLaws.{IdleShow, spells_next, left_before, left_inside, begun, turned, taken}
use Rattle.edge_phase.proofs.SparedLaws.{follows_then}
use Rattle.edge_phase.proofs.phase.take_point.Goals as goal

pub returns-in_err-make_sure-clause-cut : goal.returns-in_err-make_sure-clause-cut
returns-in_err-make_sure-clause-cut g c = λ a geometry spare may told is.
    let d = g.D.Disk in
    let old = c.args.cache.now in
    let mid = c.make_sure.new.cache in
    let content = content_in d old in
    let b = next_of a c.args.root.now c.args.bits.now content in
    let on_mid = subst (λ (x : Origin). IsOn x a) (sym c.make_sure.ensures.origin) may.on in
    let idle : IdleShow content (medium_of d mid)
    = λ k three none. sym (ap (λ w. or_shown w (d.shown mid.disk k)) none) ∙ c.make_sure.ensures.contents told.shows k in
    left_before a b content (medium_of d mid) (g.met.D.Disk.sure_is_shown mid.disk) idle on_mid
    (committed_none (medium_of d old) (medium_of d mid) a c.make_sure.ensures.follows is)

pub returns-in_err-turn-clause-cut : goal.returns-in_err-turn-clause-cut
returns-in_err-turn-clause-cut g c = λ a geometry spare may told is.
    let d = g.D.Disk in
    let old = c.args.cache.now in
    let mid = c.make_sure.new.cache in
    let new = c.turn.new.cache in
    let content = content_in d old in
    let b = next_of a c.args.root.now c.args.bits.now content in
    let bytes = c.encode_metaroot.new.out in
    let on_mid = subst (λ (x : Origin). IsOn x a) (sym c.make_sure.ensures.origin) may.on in
    let on_new = subst (λ (x : Origin). IsOn x a) (sym c.turn.ensures.origin) on_mid in
    let shows_mid = subst (λ (x : Origin). IsTrue x.shows) (sym c.make_sure.ensures.origin) told.shows in
    let clean = c.in_ok-make_sure.ensures.clean in
    let same : (k : ℕ) → d.shown mid.disk k ≡ content k
    = λ k. sym (ap (λ w. or_shown w (d.shown mid.disk k)) (clean k)) ∙ c.make_sure.ensures.contents told.shows k in
    let root : IsRoot b bytes = spells_next a c.args.g.now c.args.root.now c.args.bits.now bytes content geometry c.encode_metaroot.ensures in
    let sure = c.in_ok-make_sure.ensures.sure told.keeps told.no_fault in
    let first = begun a c.args.root.now c.args.bits.now content (medium_of d old) (medium_of d mid) on_mid may.sequence may.hangs same clean
    (λ k below. sure k) c.make_sure.ensures.follows is in
    let second = turned a b c.args.place bytes (medium_of d mid) (medium_of d new) on_mid spare root (c.turn.ensures.follows shows_mid) first in
    let idle : IdleShow content (medium_of d new)
    = λ k three none. sym (ap (λ w. or_shown w (d.shown new.disk k)) none)
    ∙ c.turn.ensures.others shows_mid k (λ e. let low = c.requires.place in omega arith) ∙ c.make_sure.ensures.contents told.shows k in
    left_inside a b content (medium_of d new) (g.met.D.Disk.sure_is_shown new.disk) idle on_new second

pub returns-clause-cut : goal.returns-clause-cut
returns-clause-cut g c = λ a geometry spare may told is.
    let d = g.D.Disk in
    let old = c.args.cache.now in
    let mid = c.make_sure.new.cache in
    let new = c.turn.new.cache in
    let content = content_in d old in
    let b = next_of a c.args.root.now c.args.bits.now content in
    let bytes = c.encode_metaroot.new.out in
    let on_mid = subst (λ (x : Origin). IsOn x a) (sym c.make_sure.ensures.origin) may.on in
    let on_new = subst (λ (x : Origin). IsOn x a) (sym c.turn.ensures.origin) on_mid in
    let shows_mid = subst (λ (x : Origin). IsTrue x.shows) (sym c.make_sure.ensures.origin) told.shows in
    let clean = c.in_ok-make_sure.ensures.clean in
    let same : (k : ℕ) → d.shown mid.disk k ≡ content k
    = λ k. sym (ap (λ w. or_shown w (d.shown mid.disk k)) (clean k)) ∙ c.make_sure.ensures.contents told.shows k in
    let root : IsRoot b bytes = spells_next a c.args.g.now c.args.root.now c.args.bits.now bytes content geometry c.encode_metaroot.ensures in
    let sure = c.in_ok-make_sure.ensures.sure told.keeps told.no_fault in
    let first = begun a c.args.root.now c.args.bits.now content (medium_of d old) (medium_of d mid) on_mid may.sequence may.hangs same clean
    (λ k below. sure k) c.make_sure.ensures.follows is in
    let second = turned a b c.args.place bytes (medium_of d mid) (medium_of d new) on_mid spare root (c.turn.ensures.follows shows_mid) first in
    let idle : IdleShow content (medium_of d new)
    = λ k three none. sym (ap (λ w. or_shown w (d.shown new.disk k)) none)
    ∙ c.turn.ensures.others shows_mid k (λ e. let low = c.requires.place in omega arith) ∙ c.make_sure.ensures.contents told.shows k in
    left_inside a b content (medium_of d new) (g.met.D.Disk.sure_is_shown new.disk) idle on_new second

pub returns-clause-committed : goal.returns-clause-committed
returns-clause-committed g c = λ a geometry spare may told is.
    let d = g.D.Disk in
    let old = c.args.cache.now in
    let mid = c.make_sure.new.cache in
    let new = c.turn.new.cache in
    let content = content_in d old in
    let b = next_of a c.args.root.now c.args.bits.now content in
    let bytes = c.encode_metaroot.new.out in
    let on_mid = subst (λ (x : Origin). IsOn x a) (sym c.make_sure.ensures.origin) may.on in
    let on_new = subst (λ (x : Origin). IsOn x a) (sym c.turn.ensures.origin) on_mid in
    let shows_mid = subst (λ (x : Origin). IsTrue x.shows) (sym c.make_sure.ensures.origin) told.shows in
    let clean = c.in_ok-make_sure.ensures.clean in
    let same : (k : ℕ) → d.shown mid.disk k ≡ content k
    = λ k. sym (ap (λ w. or_shown w (d.shown mid.disk k)) (clean k)) ∙ c.make_sure.ensures.contents told.shows k in
    let root : IsRoot b bytes = spells_next a c.args.g.now c.args.root.now c.args.bits.now bytes content geometry c.encode_metaroot.ensures in
    let sure = c.in_ok-make_sure.ensures.sure told.keeps told.no_fault in
    let first = begun a c.args.root.now c.args.bits.now content (medium_of d old) (medium_of d mid) on_mid may.sequence may.hangs same clean
    (λ k below. sure k) c.make_sure.ensures.follows is in
    let second = turned a b c.args.place bytes (medium_of d mid) (medium_of d new) on_mid spare root (c.turn.ensures.follows shows_mid) first in
    let keeps_mid = subst (λ (x : Origin). IsTrue x.keeps) (sym c.make_sure.ensures.origin) told.keeps in
    let sure_new = c.in_ok-turn.ensures.sure keeps_mid (c.in_ok-make_sure.ensures.cause.passed ∙ told.no_fault) in
    taken a b c.args.place bytes (medium_of d new) (g.met.D.Disk.sure_is_shown new.disk) on_new spare root
    (c.in_ok-turn.ensures.written shows_mid) c.in_ok-turn.ensures.clean (λ k below. sure_new k) second

pub returns-clause-shown : goal.returns-clause-shown
returns-clause-shown g c = λ a geometry spare may shows is.
    let d = g.D.Disk in
    let old = c.args.cache.now in
    let mid = c.make_sure.new.cache in
    let new = c.turn.new.cache in
    let content = content_in d old in
    let b = next_of a c.args.root.now c.args.bits.now content in
    let bytes = c.encode_metaroot.new.out in
    let on_mid = subst (λ (x : Origin). IsOn x a) (sym c.make_sure.ensures.origin) may.on in
    let on_new = subst (λ (x : Origin). IsOn x a) (sym c.turn.ensures.origin) on_mid in
    let shows_mid = subst (λ (x : Origin). IsTrue x.shows) (sym c.make_sure.ensures.origin) shows in
    let clean = c.in_ok-make_sure.ensures.clean in
    let same : (k : ℕ) → d.shown mid.disk k ≡ content k
    = λ k. sym (ap (λ w. or_shown w (d.shown mid.disk k)) (clean k)) ∙ c.make_sure.ensures.contents shows k in
    let root : IsRoot b bytes = spells_next a c.args.g.now c.args.root.now c.args.bits.now bytes content geometry c.encode_metaroot.ensures in
    let alone_old = shown_alone (medium_of d old) in
    let alone_mid = shown_alone (medium_of d mid) in
    let alone_new = shown_alone (medium_of d new) in
    let first = begun a c.args.root.now c.args.bits.now content alone_old alone_mid on_mid may.sequence may.hangs same clean
    (λ k below. tt) (shown_follows none_given (medium_of d old) (medium_of d mid) c.make_sure.ensures.follows) is in
    let second = turned a b c.args.place bytes alone_mid alone_new on_mid spare root
    (shown_follows (one_given c.args.place bytes) (medium_of d mid) (medium_of d new) (c.turn.ensures.follows shows_mid)) first in
    taken a b c.args.place bytes alone_new (λ k x is same. same) on_new spare root (c.in_ok-turn.ensures.written shows_mid) c.in_ok-turn.ensures.clean
    (λ k below. tt) second

pub returns-in_err-make_sure-clause-follows : goal.returns-in_err-make_sure-clause-follows
returns-in_err-make_sure-clause-follows g c = λ shows. follows_more none_given (block_given c.args.place) (medium_of g.D.Disk c.args.cache.now)
    (medium_of g.D.Disk c.make_sure.new.cache) (λ k bytes given. absurd given) c.make_sure.ensures.follows

pub returns-in_err-turn-clause-follows : goal.returns-in_err-turn-clause-follows
returns-in_err-turn-clause-follows g c = λ shows.
    let place = c.args.place in
    let old = medium_of g.D.Disk c.args.cache.now in
    let mid = medium_of g.D.Disk c.make_sure.new.cache in
    let new = medium_of g.D.Disk c.turn.new.cache in
    let shows_mid = subst (λ (x : Origin). IsTrue x.shows) (sym c.make_sure.ensures.origin) shows in
    follows_then (block_given place) old mid new
    (follows_more none_given (block_given place) old mid (λ k bytes given. absurd given) c.make_sure.ensures.follows)
    (follows_more (one_given place c.encode_metaroot.new.out) (block_given place) mid new (λ k bytes given. given.0) (c.turn.ensures.follows shows_mid))

pub returns-clause-follows : goal.returns-clause-follows
returns-clause-follows g c = λ shows.
    let place = c.args.place in
    let old = medium_of g.D.Disk c.args.cache.now in
    let mid = medium_of g.D.Disk c.make_sure.new.cache in
    let new = medium_of g.D.Disk c.turn.new.cache in
    let shows_mid = subst (λ (x : Origin). IsTrue x.shows) (sym c.make_sure.ensures.origin) shows in
    follows_then (block_given place) old mid new
    (follows_more none_given (block_given place) old mid (λ k bytes given. absurd given) c.make_sure.ensures.follows)
    (follows_more (one_given place c.encode_metaroot.new.out) (block_given place) mid new (λ k bytes given. given.0) (c.turn.ensures.follows shows_mid))
