use Rattle.std.proofs.Common.{◌≡◌, subst, ◌∙◌}
use Rattle.std.specs.Prelude.{IfOk, IfSome}
use Rattle.edge_cache.specs.Calls.{content_in}
use Rattle.edge_imap.specs.Bitmaps.{Bitmaps, bitmaps, IsNamed, is_free_bit, first_bit, bits_of}
use Rattle.edge_imap.specs.Reading.{TellsWhy}
use Rattle.edge_imap.specs.Search.{Finds, IsWithin}
use Rattle.edge_imap.proofs.TieLaws.{never_damaged}
use Rattle.edge_imap.proofs.imap.Imap.next_free.Goals as goal

pub returns-clause-found : goal.returns-clause-found
returns-clause-found g c = λ tells.
    let s = c.self.inside in
    let view : bitmaps s.geometry c.deref.result.now c.deref-2.result.now s.counts ≡ c.args.self.now = (λ i. bitmaps s.geometry (c.deref.ensures.value i) (c.deref-2.ensures.value i) s.counts) ∙ c.self.view_is in
    subst (λ (m : Bitmaps). IfOk c.next_bit.result (Finds (is_free_bit m (content_in g.D.Disk c.args.cache.now)) (first_bit m.geometry) (bits_of m.geometry) c.args.from)) view (c.next_bit.ensures.found tells)

pub returns-clause-bound : goal.returns-clause-bound
returns-clause-bound g c = subst (λ (m : Bitmaps). IfOk c.next_bit.result (λ found. IfSome found (IsWithin (first_bit m.geometry) (bits_of m.geometry)))) c.self.view_is c.next_bit.ensures.bound

pub returns-clause-cause : goal.returns-clause-cause
returns-clause-cause g c =
    let s = c.self.inside in
    let view : bitmaps s.geometry c.deref.result.now c.deref-2.result.now s.counts ≡ c.args.self.now = (λ i. bitmaps s.geometry (c.deref.ensures.value i) (c.deref-2.ensures.value i) s.counts) ∙ c.self.view_is in
    subst (λ (m : Bitmaps). TellsWhy g.D.Disk (IsNamed m) c.args.cache.now c.next_bit.new.cache c.next_bit.result) view c.next_bit.ensures.cause

pub returns-clause-sound : goal.returns-clause-sound
returns-clause-sound g c = never_damaged g.D.Disk c.args.self.now c.args.cache.now c.next_bit.new.cache c.next_bit.result (returns-clause-cause g c)
