use Rattle.std.proofs.Common.{◌∙◌, sym, ap}
use Rattle.std.proofs.lemmas.Bool.{lt-ltb, le-ltb}
use Rattle.edge_base.specs.commands.Descriptors.{Descriptors, descriptor_at}
use Rattle.edge_base.specs.layout.Places.{max_size_of}
use Rattle.edge_base.specs.outside.Below.{Origin}
use Rattle.edge_handles.specs.Table.{descriptor_of}
use Rattle.edge_calls.proofs.PlaceLaws.{writable_open, writable_file, not_gone}
use Rattle.edge_calls.proofs.SizingLaws.{found_great, found_sizing}
use Rattle.edge_calls.proofs.resize.sizing_at.Goals as goal

pub returns-in_default-clause-sizing : goal.returns-in_default-clause-sizing
returns-in_default-clause-sizing g c z stands session are =
    let d = descriptor_of c.in_ok-slot.slot in
    let is_open = ap (λ (ds : Descriptors). descriptor_at ds c.args.h) are ∙ writable_open c.args.handles.now c.args.h d c.in_ok-slot.ensures in
    absurd (not_gone (g.S.Store.state c.args.s.now).origin.request z c.args.h d session is_open (writable_file c.args.handles.now c.args.h d c.in_ok-slot.ensures)
    (sym c.in_default.is ∙ c.in_ok-head.ensures.head z stands session.trees.tree))

pub returns-clause-open : goal.returns-clause-open
returns-clause-open g c = writable_open c.args.handles.now c.args.h (descriptor_of c.in_ok-slot.slot) c.in_ok-slot.ensures

pub returns-clause-file : goal.returns-clause-file
returns-clause-file g c = writable_file c.args.handles.now c.args.h (descriptor_of c.in_ok-slot.slot) c.in_ok-slot.ensures

pub returns-then-size-max_size-clause-sizing : goal.returns-then-size-max_size-clause-sizing
returns-then-size-max_size-clause-sizing g c z stands session are =
    found_great (g.S.Store.state c.args.s.now).origin.request z c.args.h c.args.size (descriptor_of c.in_ok-slot.slot) (c.in_ok-slot.ensures z are) c.max_size.result
    (c.max_size.ensures ∙ ap max_size_of c.geometry.ensures ∙ ap (λ (o : Origin). max_size_of o.request) c.in_ok-head.ensures.looks.ends.origin)
    (lt-ltb c.max_size.result c.args.size c.if-size-max_size.true)

pub returns-clause-sizing : goal.returns-clause-sizing
returns-clause-sizing g c z stands session are =
    let d = descriptor_of c.in_ok-slot.slot in
    let looked = c.in_ok-head.ensures in
    let is_open = ap (λ (ds : Descriptors). descriptor_at ds c.args.h) are ∙ writable_open c.args.handles.now c.args.h d c.in_ok-slot.ensures in
    found_sizing (g.S.Store.state c.args.s.now).origin.request z c.args.h c.args.size d (c.in_ok-slot.ensures z are) c.max_size.result
    (c.max_size.ensures ∙ ap max_size_of c.geometry.ensures ∙ ap (λ (o : Origin). max_size_of o.request) looked.looks.ends.origin) c.reserve_of-reserve.result c.in-Some.head session is_open
    (writable_file c.args.handles.now c.args.h d c.in_ok-slot.ensures) (sym c.in-Some.is ∙ looked.head z stands session.trees.tree) c.reserve_of-reserve.ensures
    (le-ltb c.max_size.result c.args.size c.if-size-max_size.false)
