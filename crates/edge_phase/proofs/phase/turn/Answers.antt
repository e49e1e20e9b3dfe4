use Rattle.std.proofs.Common.{◌≡◌, ◌∙◌, length, Some, sym, ap, subst}
use Rattle.std.specs.Prelude.{IsTrue}
use Rattle.edge_cache.specs.Calls.{content_in}
use Rattle.edge_cache.specs.Given.{waiting, or_shown}
use Rattle.edge_disk.specs.Disk.{Origin}
use Rattle.edge_anchor.specs.Medium.{medium_of, none_given, one_given}
use Rattle.edge_anchor.proofs.KeepLaws.{gives_follow, change_follows, follows_more, follows_on}
use Rattle.edge_phase.proofs.PhaseLaws.{whole_write}
use Rattle.edge_phase.proofs.phase.turn.Goals as goal

pub returns-in_err-write-clause-follows : goal.returns-in_err-write-clause-follows
returns-in_err-write-clause-follows g c = λ shows.
    let old = medium_of g.D.Disk c.args.cache.now in
    let new = medium_of g.D.Disk c.write.new.self in
    follows_more none_given (one_given c.args.place c.args.bytes.now) old new
    (λ k bytes given. absurd given) (gives_follow old new c.in_err-write.ensures.fault.gives)

pub returns-in_err-make_sure-clause-follows : goal.returns-in_err-make_sure-clause-follows
returns-in_err-make_sure-clause-follows g c = λ shows.
    let old = c.args.cache.now in
    let mid = c.write.new.self in
    let place = c.args.place in
    let bytes = c.args.bytes.now in
    let len : length (content_in g.D.Disk old place) ≡ length bytes = c.write.ensures.whole shows place c.requires.place ∙ sym c.requires.whole in
    let waits : waiting mid.held place ≡ Some bytes = c.in_ok-write.ensures.bytes shows ∙ ap Some (whole_write bytes (content_in g.D.Disk old place) len) in
    let first = change_follows (medium_of g.D.Disk old) (medium_of g.D.Disk mid) place bytes c.in_ok-write.ensures.changes.gives waits in
    follows_on (one_given place bytes) (medium_of g.D.Disk old) (medium_of g.D.Disk mid)
    (medium_of g.D.Disk c.make_sure.new.cache) first c.make_sure.ensures.follows

pub returns-clause-follows : goal.returns-clause-follows
returns-clause-follows g c = λ shows.
    let old = c.args.cache.now in
    let mid = c.write.new.self in
    let place = c.args.place in
    let bytes = c.args.bytes.now in
    let len : length (content_in g.D.Disk old place) ≡ length bytes = c.write.ensures.whole shows place c.requires.place ∙ sym c.requires.whole in
    let waits : waiting mid.held place ≡ Some bytes = c.in_ok-write.ensures.bytes shows ∙ ap Some (whole_write bytes (content_in g.D.Disk old place) len) in
    let first = change_follows (medium_of g.D.Disk old) (medium_of g.D.Disk mid) place bytes c.in_ok-write.ensures.changes.gives waits in
    follows_on (one_given place bytes) (medium_of g.D.Disk old) (medium_of g.D.Disk mid)
    (medium_of g.D.Disk c.make_sure.new.cache) first c.make_sure.ensures.follows

pub returns-clause-written : goal.returns-clause-written
returns-clause-written g c = λ shows.
    let old = c.args.cache.now in
    let mid = c.write.new.self in
    let new = c.make_sure.new.cache in
    let place = c.args.place in
    let bytes = c.args.bytes.now in
    let len : length (content_in g.D.Disk old place) ≡ length bytes = c.write.ensures.whole shows place c.requires.place ∙ sym c.requires.whole in
    let waits : waiting mid.held place ≡ Some bytes = c.in_ok-write.ensures.bytes shows ∙ ap Some (whole_write bytes (content_in g.D.Disk old place) len) in
    let shows_mid = subst (λ (x : Origin). IsTrue x.shows) (sym c.write.ensures.origin) shows in
    sym (ap (λ w. or_shown w (g.D.Disk.shown new.disk place)) (c.in_ok-make_sure.ensures.clean place))
    ∙ c.make_sure.ensures.contents shows_mid place
    ∙ ap (λ w. or_shown w (g.D.Disk.shown mid.disk place)) waits
