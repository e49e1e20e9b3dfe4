use Rattle.std.proofs.Common.{◌≡◌, ◌∙◌, ℕ, ◌≤◌, nat_le, List, length, refl, sym, ap, subst, arith}
use Rattle.std.specs.Prelude.{Ok, Err}
use Rattle.std.proofs.lemmas.Bool.{le-leb, le-ltb}
use Rattle.std.proofs.lemmas.Result.{err_from_is_err_and}
use Rattle.edge_base.specs.commands.Paths.{two_paths}
use Rattle.edge_base.specs.declared.geometry.Request.{Request}
use Rattle.edge_base.specs.outside.Below.{Origin}
use Rattle.edge_volume.specs.Nodes.{OnTree}
use Rattle.edge_volume.specs.Parts.{IsOfNoDamage}
use Rattle.edge_volume.specs.Stopped.{fault_of, IfAnswered}
use Rattle.edge_volume.proofs.NodeLaws.{node_still}
use Rattle.edge_walk.specs.Spots.{AreShort}
use Rattle.edge_walk.proofs.NameLaws.{two_are_short}
use Rattle.edge_walk.proofs.StillLaws.{on_tree_before}
use Rattle.edge_calls.specs.Links.{file_at, link_in, link_of, vacancy_at}
use Rattle.edge_calls.specs.Makes.{NewName, is_behind, vacated}
use Rattle.edge_calls.proofs.LinkPlanLaws.{link_unplaced, link_too_many, link_behind, link_is}
use Rattle.edge_calls.proofs.link.link_at.Goals as goal

pub returns-in_err-at-clause-undamaged : goal.returns-in_err-at-clause-undamaged
returns-in_err-at-clause-undamaged g c z stands tree damage e =
    let p = err_from_is_err_and c.from_residual-in_err-at.result c.from_residual-in_err-at.ensures.1 in
    on_tree_before g.S.Store c.args.s.now c.file_at.new.s c.in_ok-file.ensures.looks (λ t. IsOfNoDamage (fault_of c.name_at.result))
    c.name_at.ensures.undamaged z stands tree damage (ap fault_of c.in_err-at.was ∙ sym (ap fault_of (p.1 ∙ ap Err p.2)) ∙ e)

pub returns-in_err-at-clause-link : goal.returns-in_err-at-clause-link
returns-in_err-at-clause-link g c =
    let st = g.S.Store.state c.args.s.now in
    let path = c.args.path.now in
    let to = c.args.to.now in
    let names = c.in_ok-from.ensures.names in
    let both = subst (λ (r : Request). two_paths r.name_max path to ≡ Ok tt) (c.request-name_max.ensures.same ∙ c.geometry.ensures) c.in_ok-from.ensures.refused in
    let n = c.in_ok-file.file.n in
    let file = subst (λ (ns : List (List ℕ)). OnTree st (λ t. Ok n ≡ file_at t ns)) names.0 c.in_ok-file.ensures.file in
    let p = err_from_is_err_and c.from_residual-in_err-at.result c.from_residual-in_err-at.ensures.1 in
    subst (λ r. IfAnswered r (λ r. OnTree st (λ t. link_in r ≡ link_of st.origin.request t path to))) (sym (p.1 ∙ ap Err p.2))
    (link_unplaced g.S.Store c.args.s.now c.file_at.new.s c.in_ok-file.ensures.looks path to both n file c.in_err-at.field-0.0
    (subst (λ (ns : List (List ℕ)). IfAnswered (Err c.in_err-at.field-0.0) (λ r. OnTree (g.S.Store.state c.file_at.new.s) (λ t. vacated r ≡ vacancy_at t ns)))
    names.1 c.in_err-at.ensures.vacancy))

pub returns-then-file-ge-MOST_LINKS-clause-link : goal.returns-then-file-ge-MOST_LINKS-clause-link
returns-then-file-ge-MOST_LINKS-clause-link g c z stands tree =
    let st = g.S.Store.state c.args.s.now in
    let path = c.args.path.now in
    let to = c.args.to.now in
    let names = c.in_ok-from.ensures.names in
    let both = subst (λ (r : Request). two_paths r.name_max path to ≡ Ok tt) (c.request-name_max.ensures.same ∙ c.geometry.ensures) c.in_ok-from.ensures.refused in
    let file = c.in_ok-file.file in
    let at : NewName = record { d = c.in_ok-at.at.d; name = c.in_ok-at.at.name.now; slot = c.in_ok-at.at.slot } in
    let there = on_tree_before g.S.Store c.args.s.now c.file_at.new.s c.in_ok-file.ensures.looks (λ t. Ok at ≡ vacancy_at t c.in_ok-from.to) c.in_ok-at.ensures.vacancy
    z stands tree in
    link_too_many st.origin.request z.tree path to both file.n (c.in_ok-file.ensures.file z stands tree ∙ ap (file_at z.tree) names.0) at (there ∙ ap (vacancy_at z.tree) names.1)
    (ap (nat_le 65535) (sym (c.in_ok-file.ensures.links z stands tree)) ∙ le-leb 65535 file.head.links c.if-file-ge-MOST_LINKS.true)

pub returns-then-is_behind-clause-link : goal.returns-then-is_behind-clause-link
returns-then-is_behind-clause-link g c z stands tree =
    let st = g.S.Store.state c.args.s.now in
    let path = c.args.path.now in
    let to = c.args.to.now in
    let names = c.in_ok-from.ensures.names in
    let both = subst (λ (r : Request). two_paths r.name_max path to ≡ Ok tt) (c.request-name_max.ensures.same ∙ c.geometry.ensures) c.in_ok-from.ensures.refused in
    let file = c.in_ok-file.file in
    let at : NewName = record { d = c.in_ok-at.at.d; name = c.in_ok-at.at.name.now; slot = c.in_ok-at.at.slot } in
    let there = on_tree_before g.S.Store c.args.s.now c.file_at.new.s c.in_ok-file.ensures.looks (λ t. Ok at ≡ vacancy_at t c.in_ok-from.to) c.in_ok-at.ensures.vacancy
    z stands tree in
    let few = c.if-file-ge-MOST_LINKS.false in
    let same = c.geometry-2.ensures ∙ ap (λ (o : Origin). o.request) (c.in_ok-at.ensures.looks.ends.origin ∙ c.in_ok-file.ensures.looks.ends.origin) in
    link_behind st.origin.request z.tree path to both file.n (c.in_ok-file.ensures.file z stands tree ∙ ap (file_at z.tree) names.0) at (there ∙ ap (vacancy_at z.tree) names.1)
    (ap (nat_le 65535) (sym (c.in_ok-file.ensures.links z stands tree)) ∙ le-ltb 65534 file.head.links (omega (arith, few)))
    (sym (c.is_behind.ensures.behind ∙ (λ i. is_behind (same i) at.slot)) ∙ c.if-is_behind.true)

pub returns-clause-link : goal.returns-clause-link
returns-clause-link g c z stands tree =
    let st = g.S.Store.state c.args.s.now in
    let path = c.args.path.now in
    let to = c.args.to.now in
    let names = c.in_ok-from.ensures.names in
    let both = subst (λ (r : Request). two_paths r.name_max path to ≡ Ok tt) (c.request-name_max.ensures.same ∙ c.geometry.ensures) c.in_ok-from.ensures.refused in
    let file = c.in_ok-file.file in
    let at : NewName = record { d = c.in_ok-at.at.d; name = c.in_ok-at.at.name.now; slot = c.in_ok-at.at.slot } in
    let there = on_tree_before g.S.Store c.args.s.now c.file_at.new.s c.in_ok-file.ensures.looks (λ t. Ok at ≡ vacancy_at t c.in_ok-from.to) c.in_ok-at.ensures.vacancy
    z stands tree in
    let few = c.if-file-ge-MOST_LINKS.false in
    let same = c.geometry-2.ensures ∙ ap (λ (o : Origin). o.request) (c.in_ok-at.ensures.looks.ends.origin ∙ c.in_ok-file.ensures.looks.ends.origin) in
    link_is st.origin.request z.tree path to both file.n (c.in_ok-file.ensures.file z stands tree ∙ ap (file_at z.tree) names.0) at (there ∙ ap (vacancy_at z.tree) names.1)
    (ap (nat_le 65535) (sym (c.in_ok-file.ensures.links z stands tree)) ∙ le-ltb 65534 file.head.links (omega (arith, few)))
    (sym (c.is_behind.ensures.behind ∙ (λ i. is_behind (same i) at.slot)) ∙ c.if-is_behind.false)

pub returns-clause-node : goal.returns-clause-node
returns-clause-node g c =
    let file = c.in_ok-file.file in
    let call = c.in_ok-at.ensures in
    node_still (g.S.Store.state c.file_at.new.s) (g.S.Store.state c.name_at.new.s) file.n file.head call.looks.ends (call.looks.reads refl) c.in_ok-file.ensures.node

pub returns-clause-short : goal.returns-clause-short
returns-clause-short g c =
    let st = g.S.Store.state c.args.s.now in
    let origin = c.in_ok-file.ensures.looks.ends.origin in
    let both = subst (λ (r : Request). two_paths r.name_max c.args.path.now c.args.to.now ≡ Ok tt) (c.request-name_max.ensures.same ∙ c.geometry.ensures) c.in_ok-from.ensures.refused in
    let short = subst (AreShort st.origin.request) (sym c.in_ok-from.ensures.names.1) (two_are_short st.origin.request c.args.path.now c.args.to.now both).1 in
    let call = c.in_ok-at.ensures in
    subst (λ (o : Origin). AreShort o.request c.in_ok-from.to → length c.in_ok-at.at.name.now ≤ o.request.name_max) origin call.short short
