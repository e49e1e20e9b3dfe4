use Rattle.std.proofs.Common.{◌∙◌, sym, ap}
use Rattle.edge_base.specs.commands.Descriptors.{Descriptors, descriptor_at}
use Rattle.edge_base.specs.layout.Places.{max_size_of}
use Rattle.edge_base.specs.outside.Below.{Origin}
use Rattle.edge_handles.specs.Table.{descriptor_of}
use Rattle.edge_calls.proofs.PlaceLaws.{writable_open, writable_file, not_gone, found_past, found_place}
use Rattle.edge_calls.proofs.write.place_of.Goals as goal

pub returns-in_default-clause-place : goal.returns-in_default-clause-place
returns-in_default-clause-place g c z stands session are =
    let d = descriptor_of c.in_ok-slot.slot in
    let is_open = ap (λ (ds : Descriptors). descriptor_at ds c.args.h) are ∙ writable_open c.args.handles.now c.args.h d c.in_ok-slot.ensures in
    absurd (not_gone (g.S.Store.state c.args.s.now).origin.request z c.args.h d session is_open (writable_file c.args.handles.now c.args.h d c.in_ok-slot.ensures)
    (sym c.in_default.is ∙ c.in_ok-head.ensures.head z stands session.trees.tree))

pub returns-then-is_past-clause-place : goal.returns-then-is_past-clause-place
returns-then-is_past-clause-place g c z stands session are =
    let d = descriptor_of c.in_ok-slot.slot in
    let looked = c.in_ok-head.ensures in
    let is_open = ap (λ (ds : Descriptors). descriptor_at ds c.args.h) are ∙ writable_open c.args.handles.now c.args.h d c.in_ok-slot.ensures in
    found_past (g.S.Store.state c.args.s.now).origin.request z c.args.h c.args.len c.max_size.result c.start_of-at.result d c.in-Some.head session is_open
    (writable_file c.args.handles.now c.args.h d c.in_ok-slot.ensures) (sym c.in-Some.is ∙ looked.head z stands session.trees.tree) (c.in_ok-slot.ensures z are)
    (c.max_size.ensures ∙ ap max_size_of c.geometry.ensures ∙ ap (λ (o : Origin). max_size_of o.request) looked.looks.ends.origin) c.start_of-at.ensures (sym c.is_past.ensures ∙ c.if-is_past.true)

pub returns-clause-open : goal.returns-clause-open
returns-clause-open g c = writable_open c.args.handles.now c.args.h (descriptor_of c.in_ok-slot.slot) c.in_ok-slot.ensures

pub returns-clause-file : goal.returns-clause-file
returns-clause-file g c = writable_file c.args.handles.now c.args.h (descriptor_of c.in_ok-slot.slot) c.in_ok-slot.ensures

pub returns-clause-place : goal.returns-clause-place
returns-clause-place g c z stands session are =
    let d = descriptor_of c.in_ok-slot.slot in
    let looked = c.in_ok-head.ensures in
    let is_open = ap (λ (ds : Descriptors). descriptor_at ds c.args.h) are ∙ writable_open c.args.handles.now c.args.h d c.in_ok-slot.ensures in
    found_place (g.S.Store.state c.args.s.now).origin.request z c.args.h c.args.len c.max_size.result c.start_of-at.result d c.in-Some.head session is_open
    (writable_file c.args.handles.now c.args.h d c.in_ok-slot.ensures) (sym c.in-Some.is ∙ looked.head z stands session.trees.tree) (c.in_ok-slot.ensures z are)
    (c.max_size.ensures ∙ ap max_size_of c.geometry.ensures ∙ ap (λ (o : Origin). max_size_of o.request) looked.looks.ends.origin) c.start_of-at.ensures (sym c.is_past.ensures ∙ c.if-is_past.false)
