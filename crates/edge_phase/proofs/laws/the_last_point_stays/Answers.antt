use Rattle.edge_anchor.specs.Medium.{medium_of, shown_alone}
use Rattle.edge_anchor.proofs.KeepLaws.{shown_follows}
use Rattle.edge_phase.specs.Spared.{Spares}
use Rattle.edge_phase.proofs.SparedLaws.{last_stays, last_view, same_view}
use Rattle.edge_phase.proofs.laws.the_last_point_stays.Goals as goal

pub returns-clause-committed : goal.returns-clause-committed
returns-clause-committed g c = λ old new a. last_stays a (medium_of g.D.Disk old) (medium_of g.D.Disk new)

pub returns-clause-shown : goal.returns-clause-shown
returns-clause-shown g c = λ old new a follows.
    let m = medium_of g.D.Disk old in
    let n = medium_of g.D.Disk new in
    last_stays a (shown_alone m) (shown_alone n) (shown_follows (Spares a) m n follows)

pub returns-clause-view : goal.returns-clause-view
returns-clause-view g c = λ old new a follows.
    let m = medium_of g.D.Disk old in
    let n = medium_of g.D.Disk new in
    same_view a (shown_alone m) (shown_alone n) (shown_follows (Spares a) m n follows)

pub returns-clause-told : goal.returns-clause-told
returns-clause-told g c = λ old new a follows.
    let m = medium_of g.D.Disk old in
    let n = medium_of g.D.Disk new in
    last_view a (shown_alone m) (shown_alone n) (shown_follows (Spares a) m n follows)
