use Rattle.std.proofs.Common.{◌∙◌, sym, ap, subst}
use Rattle.std.specs.Prelude.{Err}
use Rattle.std.proofs.lemmas.Result.{err_from_is_err_and}
use Rattle.edge_file.proofs.AnswerLaws.{same_fault}
use Rattle.edge_dir.specs.Directory.{IsPlaceIn, OnSlots}
use Rattle.edge_dir.specs.Looked.{SeesPlace}
use Rattle.edge_dir.specs.Bounds.{IsPlaceWithin}
use Rattle.edge_dir.proofs.look.find.Goals as goal

pub returns-in_err-place-clause-undamaged : goal.returns-in_err-place-clause-undamaged
returns-in_err-place-clause-undamaged g c told slots parent node d e =
    let p = err_from_is_err_and c.from_residual.result c.from_residual.ensures.1 in
    c.in_err-place.ensures.undamaged told slots parent node d (ap Err (sym p.2) ∙ same_fault _ _ (sym p.1 ∙ e))

pub returns-in-Taken-clause-seen : goal.returns-in-Taken-clause-seen
returns-in-Taken-clause-seen g c = subst (SeesPlace (g.S.Store.state c.args.s.now) c.args.d c.args.name.now) c.in-Taken.is c.in_ok-place.ensures.seen

pub returns-in-Taken-clause-found : goal.returns-in-Taken-clause-found
returns-in-Taken-clause-found g c = subst (λ place. OnSlots (g.S.Store.state c.args.s.now) c.args.d (λ slots. IsPlaceIn slots c.args.name.now place)) c.in-Taken.is c.in_ok-place.ensures.place

pub returns-in-Free-clause-seen : goal.returns-in-Free-clause-seen
returns-in-Free-clause-seen g c told = (subst (SeesPlace (g.S.Store.state c.args.s.now) c.args.d c.args.name.now) c.in-Free.is c.in_ok-place.ensures.seen told).0

pub returns-in-Free-clause-found : goal.returns-in-Free-clause-found
returns-in-Free-clause-found g c told slots parent node =
    (subst (λ place. OnSlots (g.S.Store.state c.args.s.now) c.args.d (λ slots. IsPlaceIn slots c.args.name.now place)) c.in-Free.is c.in_ok-place.ensures.place told slots parent node).0

pub returns-in-Taken-clause-within : goal.returns-in-Taken-clause-within
returns-in-Taken-clause-within g c = subst (IsPlaceWithin (g.S.Store.state c.args.s.now).origin.request) c.in-Taken.is c.in_ok-place.ensures.within
