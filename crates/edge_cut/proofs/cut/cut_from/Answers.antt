use Rattle.std.proofs.Common.{◌≡◌, true, sym, ap, ◌∙◌, subst}
use Rattle.std.specs.Prelude.{is_ok}
use Rattle.edge_store.specs.State.{Told}
use Rattle.edge_store.specs.View.{IsView}
use Rattle.edge_shape.specs.declared.cut.Cut.{Cut}
use Rattle.edge_shape.specs.declared.cut.Cut.TheVariants.{Whole, Node, Top, Both}
use Rattle.edge_shape.specs.Where.{cut_at}
use Rattle.edge_shape.proofs.EntryCutLaws.{sound_inode}
use Rattle.edge_cut.specs.Dropped.{IsFullInode}
use Rattle.edge_cut.specs.Through.{HasFullGone}
use Rattle.edge_cut.proofs.GoLaws.{on_ok_map}
use Rattle.edge_cut.proofs.FromLaws.{steps_at, cuts_of, never_at}
use Rattle.edge_cut.proofs.cut.cut_from.Goals as goal

pub returns-in-Whole-clause-cut : goal.returns-in-Whole-clause-cut
returns-in-Whole-clause-cut g c =
    let old = g.S.Store.state c.args.s.now in
    let read = g.S.Store.state c.cut_through.new.s in
    let last = g.S.Store.state c.cut_entries.new.s in
    let done = c.in_ok-entry.ensures in
    let cut : Cut = Whole c.in-Whole.entry in
    let is : Told old → cut ≡ cut_at old.origin.request old.working c.args.n c.args.i = λ told. sym c.in-Whole.is ∙ done.cut told in
    let origin : last.origin ≡ old.origin = c.cut_entries.ensures.called.origin ∙ done.called.origin in
    let view : is_ok c.cut_entries.result ≡ true → Told old → IsView old.origin.request last.working =
    λ ok told. rw (← origin) (g.met.S.Store.working_is_view c.cut_entries.new.s (ap (λ o. o.tells) origin ∙ told) (c.cut_entries.ensures.called.live ∙ ok)) in
    cuts_of old last c.args.n c.args.i c.cut_entries.result view
    (steps_at old read last c.args.n c.args.i cut c.cut_entries.result done.called.origin done.point.committed done.reads.working is c.cut_entries.ensures.cut)

pub returns-in-Whole-clause-undamaged : goal.returns-in-Whole-clause-undamaged
returns-in-Whole-clause-undamaged g c told shaped room =
    let old = g.S.Store.state c.args.s.now in
    let read = g.S.Store.state c.cut_through.new.s in
    let done = c.in_ok-entry.ensures in
    let cut : Cut = Whole c.in-Whole.entry in
    let is : cut ≡ cut_at old.origin.request old.working c.args.n c.args.i = sym c.in-Whole.is ∙ done.cut told in
    let view = g.met.S.Store.working_is_view c.args.s.now told c.requires.live in
    let told_read : Told read = ap (λ o. o.tells) done.called.origin ∙ told in
    let found = never_at old read c.args.n c.args.i cut done.called.origin done.point.committed done.reads.working (g.met.S.Store.is_geometry c.args.s.now) view is shaped room in
    c.cut_entries.ensures.undamaged told_read (sound_inode read.origin.request read.working c.args.n shaped.indices found.0 c.in-Whole.entry)

pub returns-in-Node-clause-cut : goal.returns-in-Node-clause-cut
returns-in-Node-clause-cut g c =
    let old = g.S.Store.state c.args.s.now in
    let read = g.S.Store.state c.cut_through.new.s in
    let last = g.S.Store.state c.cut_node.new.s in
    let done = c.in_ok-entry.ensures in
    let cut : Cut = Node c.in-Node.entry c.in-Node.place in
    let is : Told old → cut ≡ cut_at old.origin.request old.working c.args.n c.args.i = λ told. sym c.in-Node.is ∙ done.cut told in
    let origin : last.origin ≡ old.origin = c.cut_node.ensures.called.origin ∙ done.called.origin in
    let view : is_ok c.cut_node.result ≡ true → Told old → IsView old.origin.request last.working =
    λ ok told. rw (← origin) (g.met.S.Store.working_is_view c.cut_node.new.s (ap (λ o. o.tells) origin ∙ told) (c.cut_node.ensures.called.live ∙ ok)) in
    cuts_of old last c.args.n c.args.i c.cut_node.result view
    (steps_at old read last c.args.n c.args.i cut c.cut_node.result done.called.origin done.point.committed done.reads.working is c.cut_node.ensures.steps)

pub returns-in-Node-clause-undamaged : goal.returns-in-Node-clause-undamaged
returns-in-Node-clause-undamaged g c told shaped room =
    let old = g.S.Store.state c.args.s.now in
    let read = g.S.Store.state c.cut_through.new.s in
    let done = c.in_ok-entry.ensures in
    let cut : Cut = Node c.in-Node.entry c.in-Node.place in
    let is : cut ≡ cut_at old.origin.request old.working c.args.n c.args.i = sym c.in-Node.is ∙ done.cut told in
    let view = g.met.S.Store.working_is_view c.args.s.now told c.requires.live in
    let told_read : Told read = ap (λ o. o.tells) done.called.origin ∙ told in
    let found = never_at old read c.args.n c.args.i cut done.called.origin done.point.committed done.reads.working (g.met.S.Store.is_geometry c.args.s.now) view is shaped room in
    c.cut_node.ensures.undamaged told_read shaped.indices found.0 found.1 found.2

pub returns-in-Top-clause-cut : goal.returns-in-Top-clause-cut
returns-in-Top-clause-cut g c =
    let old = g.S.Store.state c.args.s.now in
    let read = g.S.Store.state c.cut_through.new.s in
    let last = g.S.Store.state c.cut_node-in-Top.new.s in
    let done = c.in_ok-entry.ensures in
    let cut : Cut = Top c.in-Top.entry c.in-Top.place in
    let is : Told old → cut ≡ cut_at old.origin.request old.working c.args.n c.args.i = λ told. sym c.in-Top.is ∙ done.cut told in
    let origin : last.origin ≡ old.origin = c.cut_node-in-Top.ensures.called.origin ∙ done.called.origin in
    let view : is_ok c.cut_node-in-Top.result ≡ true → Told old → IsView old.origin.request last.working =
    λ ok told. rw (← origin) (g.met.S.Store.working_is_view c.cut_node-in-Top.new.s (ap (λ o. o.tells) origin ∙ told) (c.cut_node-in-Top.ensures.called.live ∙ ok)) in
    cuts_of old last c.args.n c.args.i c.cut_node-in-Top.result view
    (steps_at old read last c.args.n c.args.i cut c.cut_node-in-Top.result done.called.origin done.point.committed done.reads.working is c.cut_node-in-Top.ensures.steps)

pub returns-in-Top-clause-undamaged : goal.returns-in-Top-clause-undamaged
returns-in-Top-clause-undamaged g c told shaped room =
    let old = g.S.Store.state c.args.s.now in
    let read = g.S.Store.state c.cut_through.new.s in
    let done = c.in_ok-entry.ensures in
    let cut : Cut = Top c.in-Top.entry c.in-Top.place in
    let is : cut ≡ cut_at old.origin.request old.working c.args.n c.args.i = sym c.in-Top.is ∙ done.cut told in
    let view = g.met.S.Store.working_is_view c.args.s.now told c.requires.live in
    let told_read : Told read = ap (λ o. o.tells) done.called.origin ∙ told in
    let found = never_at old read c.args.n c.args.i cut done.called.origin done.point.committed done.reads.working (g.met.S.Store.is_geometry c.args.s.now) view is shaped room in
    c.cut_node-in-Top.ensures.undamaged told_read shaped.indices found.0 found.1 found.2

pub returns-in-Both-clause-cut : goal.returns-in-Both-clause-cut
returns-in-Both-clause-cut g c =
    let old = g.S.Store.state c.args.s.now in
    let read = g.S.Store.state c.cut_through.new.s in
    let last = g.S.Store.state c.cut_pair.new.s in
    let done = c.in_ok-entry.ensures in
    let cut : Cut = Both c.in-Both.entry c.in-Both.outer c.in-Both.place in
    let is : Told old → cut ≡ cut_at old.origin.request old.working c.args.n c.args.i = λ told. sym c.in-Both.is ∙ done.cut told in
    let origin : last.origin ≡ old.origin = c.cut_pair.ensures.called.origin ∙ done.called.origin in
    let view : is_ok c.cut_pair.result ≡ true → Told old → IsView old.origin.request last.working =
    λ ok told. rw (← origin) (g.met.S.Store.working_is_view c.cut_pair.new.s (ap (λ o. o.tells) origin ∙ told) (c.cut_pair.ensures.called.live ∙ ok)) in
    cuts_of old last c.args.n c.args.i c.cut_pair.result view
    (steps_at old read last c.args.n c.args.i cut c.cut_pair.result done.called.origin done.point.committed done.reads.working is c.cut_pair.ensures.steps)

pub returns-in-Both-clause-undamaged : goal.returns-in-Both-clause-undamaged
returns-in-Both-clause-undamaged g c told shaped room =
    let old = g.S.Store.state c.args.s.now in
    let read = g.S.Store.state c.cut_through.new.s in
    let done = c.in_ok-entry.ensures in
    let cut : Cut = Both c.in-Both.entry c.in-Both.outer c.in-Both.place in
    let is : cut ≡ cut_at old.origin.request old.working c.args.n c.args.i = sym c.in-Both.is ∙ done.cut told in
    let view = g.met.S.Store.working_is_view c.args.s.now told c.requires.live in
    let told_read : Told read = ap (λ o. o.tells) done.called.origin ∙ told in
    let found = never_at old read c.args.n c.args.i cut done.called.origin done.point.committed done.reads.working (g.met.S.Store.is_geometry c.args.s.now) view is shaped room in
    c.cut_pair.ensures.undamaged told_read shaped.indices found.0 found.1 found.2

pub returns-in-Whole-clause-tangled : goal.returns-in-Whole-clause-tangled
returns-in-Whole-clause-tangled g c told d e kind =
    let told_read : Told (g.S.Store.state c.cut_through.new.s) = ap (λ o. o.tells) c.in_ok-entry.ensures.called.origin ∙ told in
    absurd (c.cut_entries.ensures.untangled told_read d e kind)

pub returns-in-Whole-clause-some : goal.returns-in-Whole-clause-some
returns-in-Whole-clause-some g c = on_ok_map c.cut_entries.result (λ there. c.in_ok-entry.ensures.some) c.cut_entries.ensures.there

pub returns-in-Whole-clause-full : goal.returns-in-Whole-clause-full
returns-in-Whole-clause-full g c =
    let old = g.S.Store.state c.args.s.now in
    let read = g.S.Store.state c.cut_through.new.s in
    let done = c.in_ok-entry.ensures in
    on_ok_map c.cut_entries.result (λ full told.
    let is : Whole c.in-Whole.entry ≡ cut_at old.origin.request old.working c.args.n c.args.i = sym c.in-Whole.is ∙ done.cut told in
    let told_read : Told read = ap (λ o. o.tells) done.called.origin ∙ told in
    let here : IsFullInode old.origin.request old.working c.args.n c.in-Whole.entry = rw (← done.called.origin, ← done.reads.working) (full told_read) in
    subst (HasFullGone old.origin.request old.working c.args.n) is here)
    c.cut_entries.ensures.full

pub returns-in-Node-clause-tangled : goal.returns-in-Node-clause-tangled
returns-in-Node-clause-tangled g c told d e kind =
    let told_read : Told (g.S.Store.state c.cut_through.new.s) = ap (λ o. o.tells) c.in_ok-entry.ensures.called.origin ∙ told in
    c.cut_node.ensures.tangled told_read d e kind

pub returns-in-Node-clause-some : goal.returns-in-Node-clause-some
returns-in-Node-clause-some g c = on_ok_map c.cut_node.result (λ there. c.in_ok-entry.ensures.some) c.cut_node.ensures.there

pub returns-in-Node-clause-full : goal.returns-in-Node-clause-full
returns-in-Node-clause-full g c =
    let old = g.S.Store.state c.args.s.now in
    on_ok_map c.cut_node.result (λ there told.
    let is : Node c.in-Node.entry c.in-Node.place ≡ cut_at old.origin.request old.working c.args.n c.args.i = sym c.in-Node.is ∙ c.in_ok-entry.ensures.cut told in
    subst (HasFullGone old.origin.request old.working c.args.n) is tt)
    c.cut_node.ensures.there

pub returns-in-Top-clause-tangled : goal.returns-in-Top-clause-tangled
returns-in-Top-clause-tangled g c told d e kind =
    let told_read : Told (g.S.Store.state c.cut_through.new.s) = ap (λ o. o.tells) c.in_ok-entry.ensures.called.origin ∙ told in
    c.cut_node-in-Top.ensures.tangled told_read d e kind

pub returns-in-Top-clause-some : goal.returns-in-Top-clause-some
returns-in-Top-clause-some g c = on_ok_map c.cut_node-in-Top.result (λ there. c.in_ok-entry.ensures.some) c.cut_node-in-Top.ensures.there

pub returns-in-Top-clause-full : goal.returns-in-Top-clause-full
returns-in-Top-clause-full g c =
    let old = g.S.Store.state c.args.s.now in
    on_ok_map c.cut_node-in-Top.result (λ there told.
    let is : Top c.in-Top.entry c.in-Top.place ≡ cut_at old.origin.request old.working c.args.n c.args.i = sym c.in-Top.is ∙ c.in_ok-entry.ensures.cut told in
    subst (HasFullGone old.origin.request old.working c.args.n) is tt)
    c.cut_node-in-Top.ensures.there

pub returns-in-Both-clause-tangled : goal.returns-in-Both-clause-tangled
returns-in-Both-clause-tangled g c told d e kind =
    let told_read : Told (g.S.Store.state c.cut_through.new.s) = ap (λ o. o.tells) c.in_ok-entry.ensures.called.origin ∙ told in
    c.cut_pair.ensures.tangled told_read d e kind

pub returns-in-Both-clause-some : goal.returns-in-Both-clause-some
returns-in-Both-clause-some g c = on_ok_map c.cut_pair.result (λ there. c.in_ok-entry.ensures.some) c.cut_pair.ensures.there

pub returns-in-Both-clause-full : goal.returns-in-Both-clause-full
returns-in-Both-clause-full g c =
    let old = g.S.Store.state c.args.s.now in
    on_ok_map c.cut_pair.result (λ there told.
    let is : Both c.in-Both.entry c.in-Both.outer c.in-Both.place ≡ cut_at old.origin.request old.working c.args.n c.args.i = sym c.in-Both.is ∙ c.in_ok-entry.ensures.cut told in
    subst (HasFullGone old.origin.request old.working c.args.n) is tt)
    c.cut_pair.ensures.there
