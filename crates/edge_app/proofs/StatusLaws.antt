-- The statuses of a session, and the counts that they tell of.
use Rattle.std.proofs.Common.{◌≡◌, ℕ, ◌==◌, true, false, Option, None, refl, arith}
use Rattle.std.specs.Prelude.{IsTrue}
use Rattle.std.proofs.lemmas.Bool.{false≢true}
use Rattle.edge_base.specs.declared.damage.Damage.{Damage}
use Rattle.edge_base.specs.outside.Faults.{Rose}
use Rattle.edge_model.specs.declared.ask.AskFault.TheVariants.{Device, Damaged}
use Rattle.edge_session.specs.declared.ended.How.{How}
use Rattle.edge_session.specs.declared.ended.How.TheVariants.{End, Source, Sink, Limit, Fault}
use Rattle.edge_session.specs.Object.{SourceCount, SinkCount, ObjectCount}
use Rattle.edge_session.specs.Session.{is_fault, is_source}
use Rattle.edge_app.specs.Causes.{is_run_status, has_no_session, CountsFor}
use Rattle.edge_app.specs.Report.{status_of, damage_by}
use Rattle.edge_app.specs.declared.report.TheConstants.{DONE, SOURCE, SINK, DEVICE, DAMAGED, NOT_A_VOLUME, LIMIT}

-- ---- statuses

pub known : (how : How) → IsTrue (is_run_status (status_of how))
known End = refl
known Source = refl
known Sink = refl
known Limit = refl
known (Fault Device) = refl
known (Fault (Damaged damage)) = refl

pub some_session : (how : How) → has_no_session (status_of how) ≡ false
some_session End = refl
some_session Source = refl
some_session Sink = refl
some_session Limit = refl
some_session (Fault Device) = refl
some_session (Fault (Damaged damage)) = refl

pub not_refused : (how : How) → status_of how ≡ NOT_A_VOLUME → ⊥
not_refused End e = omega arith
not_refused Source e = omega arith
not_refused Sink e = omega arith
not_refused Limit e = omega arith
not_refused (Fault Device) e = omega arith
not_refused (Fault (Damaged damage)) e = omega arith

pub is_end : (how : How) → status_of how ≡ DONE → how ≡ End
is_end End e = refl
is_end Source e = absurd (omega arith)
is_end Sink e = absurd (omega arith)
is_end Limit e = absurd (omega arith)
is_end (Fault Device) e = absurd (omega arith)
is_end (Fault (Damaged damage)) e = absurd (omega arith)

pub is_at_limit : (how : How) → status_of how ≡ LIMIT → how ≡ Limit
is_at_limit Limit e = refl
is_at_limit End e = absurd (omega arith)
is_at_limit Source e = absurd (omega arith)
is_at_limit Sink e = absurd (omega arith)
is_at_limit (Fault Device) e = absurd (omega arith)
is_at_limit (Fault (Damaged damage)) e = absurd (omega arith)

pub is_of_sink : (how : How) → status_of how ≡ SINK → how ≡ Sink
is_of_sink Sink e = refl
is_of_sink End e = absurd (omega arith)
is_of_sink Source e = absurd (omega arith)
is_of_sink Limit e = absurd (omega arith)
is_of_sink (Fault Device) e = absurd (omega arith)
is_of_sink (Fault (Damaged damage)) e = absurd (omega arith)

pub is_of_source : (how : How) → status_of how ≡ SOURCE → how ≡ Source
is_of_source Source e = refl
is_of_source End e = absurd (omega arith)
is_of_source Sink e = absurd (omega arith)
is_of_source Limit e = absurd (omega arith)
is_of_source (Fault Device) e = absurd (omega arith)
is_of_source (Fault (Damaged damage)) e = absurd (omega arith)

-- damage was met
pub record Met (how : How) : Type 0 where
  pub damage : Damage
  pub how_is : how ≡ Fault (Damaged damage)

pub met : (how : How) → status_of how ≡ DAMAGED → Met how
met (Fault (Damaged d)) e = record { damage = d; how_is = refl }
met End e = absurd (omega arith)
met Source e = absurd (omega arith)
met Sink e = absurd (omega arith)
met Limit e = absurd (omega arith)
met (Fault Device) e = absurd (omega arith)

pub undamaged : (how : How) → (status_of how ≡ DAMAGED → ⊥) → damage_by how ≡ None
undamaged (Fault (Damaged d)) not = absurd (not refl)
undamaged End not = refl
undamaged Source not = refl
undamaged Sink not = refl
undamaged Limit not = refl
undamaged (Fault Device) not = refl

-- a fault without damage is one of the device
pub of_device : (how : How) → ((d : Damage) → how ≡ Fault (Damaged d) → ⊥) → is_fault how ≡ true → status_of how ≡ DEVICE
of_device (Fault Device) undamaged is = refl
of_device (Fault (Damaged d)) undamaged is = absurd (undamaged d refl)
of_device End undamaged is = absurd (false≢true is)
of_device Source undamaged is = absurd (false≢true is)
of_device Sink undamaged is = absurd (false≢true is)
of_device Limit undamaged is = absurd (false≢true is)

pub no_fault : (how : How) → ((d : Damage) → how ≡ Fault (Damaged d) → ⊥) → (status_of how ≡ DEVICE → ⊥) → is_fault how ≡ false
no_fault (Fault Device) undamaged not = absurd (not refl)
no_fault (Fault (Damaged d)) undamaged not = absurd (undamaged d refl)
no_fault End undamaged not = refl
no_fault Source undamaged not = refl
no_fault Sink undamaged not = refl
no_fault Limit undamaged not = refl

pub tells_source : (how : How) → (status_of how == SOURCE) ≡ is_source how
tells_source End = refl
tells_source Source = refl
tells_source Sink = refl
tells_source Limit = refl
tells_source (Fault Device) = refl
tells_source (Fault (Damaged damage)) = refl

-- ---- counts of faults

pub stands : {failure status : ℕ} (a b : ℕ) → (status ≡ failure → ⊥) → b ≡ a → CountsFor failure status a b
stands a b not same = record { rose = λ e. absurd (not e); still = λ no. same }

rises : (failure a b : ℕ) → Rose a b → CountsFor failure failure a b
rises failure a b rose = record { rose = λ e. rose; still = λ no. absurd (no refl) }

pub source_counts : (how : How) (a b : ℕ) → SourceCount how a b → CountsFor SOURCE (status_of how) a b
source_counts Source a b count = rises SOURCE a b count
source_counts End a b count = stands a b (λ e. omega arith) count
source_counts Sink a b count = stands a b (λ e. omega arith) count
source_counts Limit a b count = stands a b (λ e. omega arith) count
source_counts (Fault Device) a b count = stands a b (λ e. omega arith) count
source_counts (Fault (Damaged damage)) a b count = stands a b (λ e. omega arith) count

pub sink_counts : (how : How) (a b : ℕ) → SinkCount how a b → CountsFor SINK (status_of how) a b
sink_counts Sink a b count = rises SINK a b count
sink_counts End a b count = stands a b (λ e. omega arith) count
sink_counts Source a b count = stands a b (λ e. omega arith) count
sink_counts Limit a b count = stands a b (λ e. omega arith) count
sink_counts (Fault Device) a b count = stands a b (λ e. omega arith) count
sink_counts (Fault (Damaged damage)) a b count = stands a b (λ e. omega arith) count

pub device_counts : (how : How) (a b : ℕ) (c d : Option Damage) → ObjectCount how a b c d → CountsFor DEVICE (status_of how) a b
device_counts (Fault Device) a b c d count = rises DEVICE a b count.0
device_counts (Fault (Damaged damage)) a b c d count = stands a b (λ e. omega arith) count.0
device_counts End a b c d count = stands a b (λ e. omega arith) count.0
device_counts Source a b c d count = stands a b (λ e. omega arith) count.0
device_counts Sink a b c d count = stands a b (λ e. omega arith) count.0
device_counts Limit a b c d count = stands a b (λ e. omega arith) count.0
