use Rattle.std.proofs.Common.{◌≡◌, ◌-◌, ◌<◌, ℕ, refl, sym, subst, arith}
use Rattle.std.specs.Prelude.{IfOk}
use Rattle.edge_base.specs.declared.geometry.Request.{Request}
use Rattle.edge_base.specs.layout.Bitmap.{bit_under}
use Rattle.edge_cache.specs.Calls.{content_in}
use Rattle.edge_imap.specs.Bitmaps.{IsFit, IsNamedFor, bits_of, state_of as block_state_of}
use Rattle.edge_imap.specs.Reading.{TellsWhy}
use Rattle.edge_point.proofs.read.block_state.Goals as goal

pub overflow_sub-bit : goal.overflow_sub-bit
overflow_sub-bit g c =
    let has = c.requires.block in
    omega (arith, has.from, c.table_start.ensures)

pub state-requires-clause-fits : goal.state-requires-clause-fits
state-requires-clause-fits g c = subst (λ (r : Request). IsFit r (g.D.Disk.origin c.args.p.now.cache.disk)) (sym c.requires.stands.imap) c.requires.stands.fits

pub state-requires-clause-bit : goal.state-requires-clause-bit
state-requires-clause-bit g c =
    let has = c.requires.block in
    subst (λ (x : Request). c.args.b - c.table_start.result < bits_of x) (sym c.requires.stands.imap)
    (omega (arith, has.from, has.below, c.table_start.ensures))

pub returns-clause-state : goal.returns-clause-state
returns-clause-state g c = λ shows.
    let p = c.args.p.now in
    let content = content_in g.D.Disk p.cache in
    subst (λ (n : ℕ). IfOk c.state.result (λ s. s ≡ block_state_of (bit_under p.master.geometry p.imap.committed content (c.args.b - n))
    (bit_under p.master.geometry p.imap.working content (c.args.b - n)))) c.table_start.ensures
    (subst (λ (r : Request). IfOk c.state.result (λ s. s ≡ block_state_of (bit_under r p.imap.committed content (c.args.b - c.table_start.result))
    (bit_under r p.imap.working content (c.args.b - c.table_start.result)))) c.requires.stands.imap (c.state.ensures.state shows))

pub returns-clause-rest : goal.returns-clause-rest
returns-clause-rest g c = record {
  master = refl;
  place = refl;
  root = refl;
  points = refl;
  numbers = refl;
  next = refl;
  live = refl;
  torn = refl;
  damage = refl;
  block = refl;
}

pub returns-clause-cause : goal.returns-clause-cause
returns-clause-cause g c =
    let p = c.args.p.now in
    subst (λ (n : ℕ). TellsWhy g.D.Disk (IsNamedFor p.imap (c.args.b - n)) p.cache c.state.new.cache c.state.result) c.table_start.ensures c.state.ensures.cause
