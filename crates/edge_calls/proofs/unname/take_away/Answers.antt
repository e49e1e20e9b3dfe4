use Rattle.std.proofs.Common.{◌∙◌, ◌==◌, ap, subst, sym, eq-eqb}
use Rattle.std.proofs.lemmas.Bool.{ne_eqb}
use Rattle.edge_cut.proofs.GoLaws.{on_ok_map}
use Rattle.edge_model.specs.Names.{unnamed}
use Rattle.edge_steps.proofs.NameLaws.{other_names}
use Rattle.edge_volume.specs.Stopped.{fault_in}
use Rattle.edge_names.specs.Carried.{CarriesOut}
use Rattle.edge_names.specs.Unnamed.{MayUnname, NeverUnnaming}
use Rattle.edge_calls.specs.Unnaming.{found_in}
use Rattle.edge_calls.proofs.unname.take_away.Goals as goal

pub returns-then-named-eq1-clause-undamaged : goal.returns-then-named-eq1-clause-undamaged
returns-then-named-eq1-clause-undamaged g c =
    let named = c.args.named.now in
    subst (λ last. NeverUnnaming (g.S.Store.state c.args.s.now) named.number named.d named.slot last (fault_in c.drop_node.result)) (sym (eq-eqb _ _ c.if-named-eq1.true)) c.drop_node.ensures.undamaged

pub returns-else-named-eq1-clause-undamaged : goal.returns-else-named-eq1-clause-undamaged
returns-else-named-eq1-clause-undamaged g c =
    let named = c.args.named.now in
    subst (λ last. NeverUnnaming (g.S.Store.state c.args.s.now) named.number named.d named.slot last (fault_in c.remove_name.result)) (sym (ne_eqb _ _ c.if-named-eq1.false)) c.remove_name.ensures.undamaged

pub returns-else-named-eq1-clause-taken : goal.returns-else-named-eq1-clause-taken
returns-else-named-eq1-clause-taken g c =
    let old = g.S.Store.state c.args.s.now in
    let named = c.args.named.now in
    let many = ne_eqb named.head.links 1 c.if-named-eq1.false in
    on_ok_map c.remove_name.result (λ unnames z stands may leaf.
    subst (λ last. CarriesOut old (g.S.Store.state c.remove_name.new.s) z (unnamed old.origin.request z.tree named.d (found_in named) last)) (sym many)
    (unnames z stands (subst (λ last. MayUnname old.origin.request z named.number named.d named.slot last) many may)
    (other_names old.origin.request z.tree named.number (ap (λ k. k == 1) leaf.links ∙ many)).0)) c.remove_name.ensures.unnamed
