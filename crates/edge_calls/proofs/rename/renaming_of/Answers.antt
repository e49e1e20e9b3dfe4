use Rattle.std.proofs.Common.{◌≡◌, ◌∙◌, List, ℕ, None, sym, ap, subst}
use Rattle.std.specs.Prelude.{Ok, Err}
use Rattle.std.proofs.lemmas.Result.{err_from_is_err_and}
use Rattle.edge_base.specs.commands.Paths.{names_in}
use Rattle.edge_base.specs.declared.geometry.Request.{Request}
use Rattle.edge_volume.specs.Nodes.{OnTree}
use Rattle.edge_volume.specs.Parts.{IsOfNoDamage, Looks}
use Rattle.edge_volume.specs.Stopped.{fault_of}
use Rattle.edge_volume.proofs.LookLaws.{looks_on}
use Rattle.edge_walk.proofs.StillLaws.{holder_after, on_tree_before}
use Rattle.edge_calls.specs.Renames.{held_in, held_of, name_for, name_in, paths_of}
use Rattle.edge_calls.specs.declared.rename.Wanted.{Wanted}
use Rattle.edge_calls.proofs.RenameAtLaws.{all_found}
use Rattle.edge_calls.proofs.rename.renaming_of.Goals as goal

pub returns-in_err-wanted-clause-looks : goal.returns-in_err-wanted-clause-looks
returns-in_err-wanted-clause-looks g c =
    let p = err_from_is_err_and c.from_residual-in_err-wanted.result c.from_residual-in_err-wanted.ensures.1 in
    subst (λ r. Looks g.S.Store (fault_of r) c.args.s.now c.wanted_at.new.s) (sym (p.1 ∙ ap Err p.2))
    (looks_on g.S.Store (fault_of {T = Wanted} (Err c.in_err-wanted.field-0.0)) c.args.s.now c.named_at.new.s c.wanted_at.new.s c.in_ok-named.ensures.looks
    c.in_err-wanted.ensures.looks)

pub returns-in_err-wanted-clause-undamaged : goal.returns-in_err-wanted-clause-undamaged
returns-in_err-wanted-clause-undamaged g c z stands tree damage e =
    let p = err_from_is_err_and c.from_residual-in_err-wanted.result c.from_residual-in_err-wanted.ensures.1 in
    on_tree_before g.S.Store c.args.s.now c.named_at.new.s c.in_ok-named.ensures.looks (λ t. IsOfNoDamage (fault_of c.wanted_at.result))
    c.wanted_at.ensures.undamaged z stands tree damage (ap fault_of c.in_err-wanted.was ∙ sym (ap fault_of (p.1 ∙ ap Err p.2)) ∙ e)

pub renaming_to-requires-clause-from : goal.renaming_to-requires-clause-from
renaming_to-requires-clause-from g c =
    holder_after g.S.Store c.named_at.new.s c.wanted_at.new.s c.in_ok-wanted.ensures.looks c.in_ok-named.named.at.dir c.in_ok-named.ensures.holder

pub returns-clause-looks : goal.returns-clause-looks
returns-clause-looks g c =
    looks_on g.S.Store (fault_of c.renaming_to.result) c.args.s.now c.wanted_at.new.s c.renaming_to.new.s
    (looks_on g.S.Store None c.args.s.now c.named_at.new.s c.wanted_at.new.s c.in_ok-named.ensures.looks c.in_ok-wanted.ensures.looks) c.renaming_to.ensures.looks

pub returns-clause-undamaged : goal.returns-clause-undamaged
returns-clause-undamaged g c =
    on_tree_before g.S.Store c.args.s.now c.wanted_at.new.s
    (looks_on g.S.Store None c.args.s.now c.named_at.new.s c.wanted_at.new.s c.in_ok-named.ensures.looks c.in_ok-wanted.ensures.looks)
    (λ t. IsOfNoDamage (fault_of c.renaming_to.result)) c.renaming_to.ensures.undamaged

pub returns-clause-renaming : goal.returns-clause-renaming
returns-clause-renaming g c =
    let st = g.S.Store.state c.args.s.now in
    let names = c.in_ok-names.ensures.names in
    let held = held_in c.in_ok-named.named in
    let name = name_in c.in_ok-wanted.wanted in
    let looks = looks_on g.S.Store None c.args.s.now c.named_at.new.s c.wanted_at.new.s c.in_ok-named.ensures.looks c.in_ok-wanted.ensures.looks in
    all_found g.S.Store c.args.s.now c.wanted_at.new.s looks c.args.handles.now c.args.path.now c.args.to.now held name
    (subst (λ (r : Request). paths_of r c.args.path.now c.args.to.now ≡ Ok tt) c.geometry.ensures c.in_ok-names.ensures.refused)
    (subst (λ (ns : List (List ℕ)). OnTree st (λ t. Ok held ≡ held_of t ns)) names.0 c.in_ok-named.ensures.held)
    (on_tree_before g.S.Store c.args.s.now c.named_at.new.s c.in_ok-named.ensures.looks (λ t. Ok name ≡ name_for t (names_in c.args.to.now) held.number)
    (subst (λ (ns : List (List ℕ)). OnTree (g.S.Store.state c.named_at.new.s) (λ t. Ok name ≡ name_for t ns held.number)) names.1 c.in_ok-wanted.ensures.name))
    c.renaming_to.result c.renaming_to.ensures.renaming
