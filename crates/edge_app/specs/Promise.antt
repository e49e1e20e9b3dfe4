-- What `edge` promises: a cause for each status, and for each command what it does.
use Rattle.std.specs.Prelude.{◌≡◌, List}
use Rattle.edge_disk.specs.State.{IsUntouched}
use Rattle.edge_words.specs.Words.{Word}
use Rattle.edge_words.specs.Orders.{Wanted, Run, Format, Spells}
use Rattle.edge_app.specs.Causes.{HasCauses, HasStatus}
use Rattle.edge_app.specs.Formats.{Formats}
use Rattle.edge_app.specs.Orders.{AsksNothing}
use Rattle.edge_app.specs.Report.{unserved_by}
use Rattle.edge_app.specs.Runs.{Runs}
use Rattle.edge_app.specs.World.{World}
use Rattle.edge_app.specs.declared.report.Report.{Report}
use Rattle.edge_app.specs.declared.report.TheConstants.{WORDS}

-- words that spell no command do nothing
pub record DoesNothing (before after : World) (report : Report) : Type 0 where
  pub report_is : report ≡ unserved_by WORDS 0
  pub source : after.source ≡ before.source
  pub sink : after.sink ≡ before.sink
  pub clock : after.clock ≡ before.clock
  pub disk : IsUntouched before.disk after.disk

-- what each command does
abbrev pub Does : Wanted → World → World → Report → Type 0
Does (Run image block_size) before after report = Runs before after report
Does (Format image g) before after report = Formats g before after report

pub record Promise (words : List Word) (before after : World) (report : Report) : Type 0 where
  pub status : HasStatus words before.disk.origin.blocks report.status
  pub causes : HasCauses before after report
  pub nothing : AsksNothing words → DoesNothing before after report
  pub command : (wanted : Wanted) → Spells words wanted → Does wanted before after report
