use Rattle.edge_model.proofs.CompleteLaws.{step_sound, run_sound, closed_sound}
use Rattle.edge_model.proofs.laws.dirty_is_sound.Goals as goal

pub returns-clause-step : goal.returns-clause-step
returns-clause-step c = step_sound

pub returns-clause-run : goal.returns-clause-run
returns-clause-run c = run_sound

pub returns-clause-closed : goal.returns-clause-closed
returns-clause-closed c = closed_sound
