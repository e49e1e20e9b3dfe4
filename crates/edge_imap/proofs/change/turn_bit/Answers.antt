use Rattle.std.proofs.Common.{refl, sym, ◌∙◌, arith}
use Rattle.edge_cache.specs.Calls.{content_in}
use Rattle.edge_cache.proofs.CacheLaws.{on_ok}
use Rattle.edge_imap.specs.Bitmaps.{HoldsBit}
use Rattle.edge_imap.proofs.BitLaws.{root_fits, root_changes}
use Rattle.edge_imap.proofs.CallLaws.{why_passed}
use Rattle.edge_imap.proofs.TieLaws.{roots_changed, root_bits_inline, no_nodes}
use Rattle.edge_imap.proofs.change.turn_bit.Goals as goal

pub turn_node-requires-clause-external : goal.turn_node-requires-clause-external
turn_node-requires-clause-external g c = sym c.is_inline.ensures ∙ c.if-not-is_inline.true

pub returns-then-not-is_inline-clause-inline : goal.returns-then-not-is_inline-clause-inline
returns-then-not-is_inline-clause-inline g c = λ inline. absurd (cc (c.is_inline.ensures, c.if-not-is_inline.true, inline))

pub returns-then-not-is_inline-clause-bits : goal.returns-then-not-is_inline-clause-bits
returns-then-not-is_inline-clause-bits g c = λ tells. on_ok c.turn_node.result (λ turns. turns.bits tells) c.turn_node.ensures.turns

pub set-requires : goal.set-requires
set-requires g c = root_fits c.args.g.now c.args.change.bit c.args.working.now (sym c.is_inline.ensures ∙ c.if-not-is_inline.false) c.requires.bit c.requires.working.len

pub returns-clause-roots : goal.returns-clause-roots
returns-clause-roots g c =
    let inline = sym c.is_inline.ensures ∙ c.if-not-is_inline.false in
    roots_changed c.args.g.now c.args.working.now c.set.new.bytes c.args.change.bit c.requires.working c.set.auto.bytes c.set.ensures.others (omega (arith, c.requires.bit, root_bits_inline c.args.g.now inline, no_nodes c.args.g.now inline))

pub returns-clause-turns : goal.returns-clause-turns
returns-clause-turns g c = λ external. absurd (cc (c.is_inline.ensures, c.if-not-is_inline.false, external))

pub returns-clause-inline : goal.returns-clause-inline
returns-clause-inline g c = λ inline. (refl, refl)

pub returns-clause-bits : goal.returns-clause-bits
returns-clause-bits g c = λ tells.
    root_changes c.args.g.now c.args.working.now c.set.new.bytes (content_in g.D.Disk c.args.cache.now) (content_in g.D.Disk c.args.cache.now) c.args.change.bit c.args.change.used (sym c.is_inline.ensures ∙ c.if-not-is_inline.false)
    c.set.ensures.here c.set.ensures.others

pub returns-clause-cause : goal.returns-clause-cause
returns-clause-cause g c = why_passed g.D.Disk (HoldsBit c.args.g.now c.args.working.now c.args.change.bit) _ _ _ refl
