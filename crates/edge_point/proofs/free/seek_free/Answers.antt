use Rattle.std.proofs.Common.{◌+◌, ℕ, None, Err, refl, sym, subst}
use Rattle.edge_cache.specs.Calls.{content_in}
use Rattle.edge_imap.specs.Bitmaps.{IsNamed, bits_of, first_bit, is_free_bit}
use Rattle.edge_imap.proofs.ListLaws.{free_is_found}
use Rattle.edge_store.specs.declared.fault.StoreFault.{StoreFault}
use Rattle.edge_point.specs.Finding.{Sees}
use Rattle.edge_point.specs.Uses.{IsUnused}
use Rattle.edge_point.proofs.FindLaws.{sees_imap}
use Rattle.edge_point.proofs.FreeLaws.{bit_unused, next_passes}
use Rattle.edge_point.proofs.StepLaws.{over, rest_over}
use Rattle.edge_point.proofs.free.seek_free.Goals as goal

pub returns-in-Ok-Some-clause-free : goal.returns-in-Ok-Some-clause-free
returns-in-Ok-Some-clause-free g c = λ shows.
    let d = g.D.Disk in
    let p = c.args.p.now in
    let bit = c.in-Ok-Some.bit in
    let found = rw c.in-Ok-Some.field-0-is at (c.in-Ok-Some.ensures.found shows) in
    subst (λ (n : ℕ). IsUnused d p (n + bit)) (sym c.table_start-start.ensures)
    (bit_unused d p c.requires.stands bit
    (next_passes (is_free_bit p.imap (content_in d p.cache)) (first_bit p.imap.geometry) (bits_of p.imap.geometry) c.bit_from-from.result bit found))

pub returns-in-Ok-None-clause-sound : goal.returns-in-Ok-None-clause-sound
returns-in-Ok-None-clause-sound g c = λ shows tied some damage e.
    let p = c.args.p.now in
    let found = rw c.in-Ok-None.field-0-is at (c.in-Ok-None.ensures.found shows) in
    free_is_found p.imap (content_in g.D.Disk p.cache) tied some c.bit_from-from.result None found refl

pub returns-in-Err-clause-sees : goal.returns-in-Err-clause-sees
returns-in-Err-clause-sees g c =
    let d = g.D.Disk in
    let p = c.args.p.now in
    let q = over p c.next_free.new.self c.next_free.new.cache in
    subst (λ (f : StoreFault). Sees {T = ℕ} d p q (Err f)) (sym c.fault_of.ensures)
    (sees_imap d {T = ℕ} (IsNamed p.imap) p q c.next_free.result c.in-Err.fault (rest_over p c.next_free.new.self c.next_free.new.cache)
    c.next_free.ensures.same
    c.next_free.ensures.reads c.next_free.ensures.cause c.in-Err.is)
