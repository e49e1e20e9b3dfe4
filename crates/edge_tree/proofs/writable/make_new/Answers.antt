use Rattle.std.proofs.Common.{◌≡◌, ◌∙◌, ap, sym, subst}
use Rattle.std.specs.Prelude.{IfOk}
use Rattle.edge_base.specs.declared.geometry.Request.{Request}
use Rattle.edge_base.specs.declared.way.Way.{Way}
use Rattle.edge_base.specs.declared.way.Way.TheVariants as way
use Rattle.edge_base.specs.layout.Places.{IsWithinNodes, way_of}
use Rattle.edge_store.specs.View.{is_whole}
use Rattle.edge_moves.proofs.WritableLaws.{sound_of_places, apart_of_once}
use Rattle.edge_tree.specs.Blank.{FillsWay}
use Rattle.edge_tree.proofs.DoneLaws.{Stands, leads_of, direct_way, single_way, made_of, heads_of, chain_room, single_room}
use Rattle.edge_tree.proofs.OwnLaws.{if_ok_map}
use Rattle.edge_tree.proofs.writable.make_new.Goals as goal

pub returns-in-Direct-clause-made : goal.returns-in-Direct-clause-made
returns-in-Direct-clause-made g c =
    let old = g.S.Store.state c.args.s.now in
    let new = g.S.Store.state c.renew_entry.new.s in
    let is : way_of old.origin.request c.args.i ≡ way.Direct c.in-Direct.entry =
    ap (λ (r : Request). way_of r c.args.i) (sym c.geometry.ensures) ∙ sym c.way.ensures.way ∙ c.in-Direct.is in
    let within : IsWithinNodes old.origin.request (way.Direct c.in-Direct.entry) =
    subst (λ (w : Way). IsWithinNodes old.origin.request w) c.in-Direct.is (subst (λ (r : Request). IsWithinNodes r c.way.result) c.geometry.ensures c.way.ensures.within) in
    let form = leads_of old.origin.request c.args.i (way.Direct c.in-Direct.entry) c.requires.index is in
    let filled : IfOk c.renew_entry.result (FillsWay old new c.args.n (way.Direct c.in-Direct.entry) c.args.renewal) =
    if_ok_map c.renew_entry.result (λ b step told. direct_way old.origin.request old.committed old.working new.working c.args.n c.in-Direct.entry c.args.renewal b within form (step told)) c.renew_entry.ensures.renewed in
    let stands : Stands old new c.args.n c.args.i (way.Direct c.in-Direct.entry) c.args.renewal c.renew_entry.result = record {
      geometry = g.met.S.Store.is_geometry c.args.s.now;
      low = c.requires.index;
      on_way = is;
      view = λ told. g.met.S.Store.working_is_view c.args.s.now told c.requires.live;
      readable = c.renew_entry.ensures.was_readable;
      filled = filled;
    } in
    made_of old new c.args.n c.args.i (way.Direct c.in-Direct.entry) c.args.renewal c.renew_entry.result stands

pub returns-in-Direct-clause-heads : goal.returns-in-Direct-clause-heads
returns-in-Direct-clause-heads g c =
    let old = g.S.Store.state c.args.s.now in
    let new = g.S.Store.state c.renew_entry.new.s in
    let is : way_of old.origin.request c.args.i ≡ way.Direct c.in-Direct.entry =
    ap (λ (r : Request). way_of r c.args.i) (sym c.geometry.ensures) ∙ sym c.way.ensures.way ∙ c.in-Direct.is in
    let within : IsWithinNodes old.origin.request (way.Direct c.in-Direct.entry) =
    subst (λ (w : Way). IsWithinNodes old.origin.request w) c.in-Direct.is (subst (λ (r : Request). IsWithinNodes r c.way.result) c.geometry.ensures c.way.ensures.within) in
    let form = leads_of old.origin.request c.args.i (way.Direct c.in-Direct.entry) c.requires.index is in
    let filled : IfOk c.renew_entry.result (FillsWay old new c.args.n (way.Direct c.in-Direct.entry) c.args.renewal) =
    if_ok_map c.renew_entry.result (λ b step told. direct_way old.origin.request old.committed old.working new.working c.args.n c.in-Direct.entry c.args.renewal b within form (step told)) c.renew_entry.ensures.renewed in
    heads_of old new c.args.n (way.Direct c.in-Direct.entry) c.args.renewal c.renew_entry.result filled

pub returns-in-Direct-clause-untangled : goal.returns-in-Direct-clause-untangled
returns-in-Direct-clause-untangled g c told room =
    let old = g.S.Store.state c.args.s.now in
    let new = g.S.Store.state c.renew_entry.new.s in
    let is : way_of old.origin.request c.args.i ≡ way.Direct c.in-Direct.entry =
    ap (λ (r : Request). way_of r c.args.i) (sym c.geometry.ensures) ∙ sym c.way.ensures.way ∙ c.in-Direct.is in
    c.renew_entry.ensures.untangled told (chain_room old c.args.n c.args.i (way.Direct c.in-Direct.entry) c.requires.index is room)

pub returns-in-Direct-clause-undamaged : goal.returns-in-Direct-clause-undamaged
returns-in-Direct-clause-undamaged g c told shaped room =
    let old = g.S.Store.state c.args.s.now in
    let new = g.S.Store.state c.renew_entry.new.s in
    let is : way_of old.origin.request c.args.i ≡ way.Direct c.in-Direct.entry =
    ap (λ (r : Request). way_of r c.args.i) (sym c.geometry.ensures) ∙ sym c.way.ensures.way ∙ c.in-Direct.is in
    let sound = sound_of_places old.origin.request old.working c.args.n shaped.indices shaped.places in
    c.renew_entry.ensures.undamaged told (ap is_whole shaped.inode, sound) (chain_room old c.args.n c.args.i (way.Direct c.in-Direct.entry) c.requires.index is room)

pub returns-in-Single-clause-made : goal.returns-in-Single-clause-made
returns-in-Single-clause-made g c =
    let old = g.S.Store.state c.args.s.now in
    let new = g.S.Store.state c.own_under.new.s in
    let is : way_of old.origin.request c.args.i ≡ way.Single c.in-Single.entry c.in-Single.place =
    ap (λ (r : Request). way_of r c.args.i) (sym c.geometry.ensures) ∙ sym c.way.ensures.way ∙ c.in-Single.is in
    let within : IsWithinNodes old.origin.request (way.Single c.in-Single.entry c.in-Single.place) =
    subst (λ (w : Way). IsWithinNodes old.origin.request w) c.in-Single.is (subst (λ (r : Request). IsWithinNodes r c.way.result) c.geometry.ensures c.way.ensures.within) in
    let form = leads_of old.origin.request c.args.i (way.Single c.in-Single.entry c.in-Single.place) c.requires.index is in
    let filled : IfOk c.own_under.result (FillsWay old new c.args.n (way.Single c.in-Single.entry c.in-Single.place) c.args.renewal) =
    if_ok_map c.own_under.result (λ b step told. single_way old.origin.request old.committed old.working new.working c.args.n c.in-Single.entry c.in-Single.place c.args.renewal b within.0 within.1 form (step told)) c.own_under.ensures.renewed in
    let stands : Stands old new c.args.n c.args.i (way.Single c.in-Single.entry c.in-Single.place) c.args.renewal c.own_under.result = record {
      geometry = g.met.S.Store.is_geometry c.args.s.now;
      low = c.requires.index;
      on_way = is;
      view = λ told. g.met.S.Store.working_is_view c.args.s.now told c.requires.live;
      readable = c.own_under.ensures.was_readable;
      filled = filled;
    } in
    made_of old new c.args.n c.args.i (way.Single c.in-Single.entry c.in-Single.place) c.args.renewal c.own_under.result stands

pub returns-in-Single-clause-heads : goal.returns-in-Single-clause-heads
returns-in-Single-clause-heads g c =
    let old = g.S.Store.state c.args.s.now in
    let new = g.S.Store.state c.own_under.new.s in
    let is : way_of old.origin.request c.args.i ≡ way.Single c.in-Single.entry c.in-Single.place =
    ap (λ (r : Request). way_of r c.args.i) (sym c.geometry.ensures) ∙ sym c.way.ensures.way ∙ c.in-Single.is in
    let within : IsWithinNodes old.origin.request (way.Single c.in-Single.entry c.in-Single.place) =
    subst (λ (w : Way). IsWithinNodes old.origin.request w) c.in-Single.is (subst (λ (r : Request). IsWithinNodes r c.way.result) c.geometry.ensures c.way.ensures.within) in
    let form = leads_of old.origin.request c.args.i (way.Single c.in-Single.entry c.in-Single.place) c.requires.index is in
    let filled : IfOk c.own_under.result (FillsWay old new c.args.n (way.Single c.in-Single.entry c.in-Single.place) c.args.renewal) =
    if_ok_map c.own_under.result (λ b step told. single_way old.origin.request old.committed old.working new.working c.args.n c.in-Single.entry c.in-Single.place c.args.renewal b within.0 within.1 form (step told)) c.own_under.ensures.renewed in
    heads_of old new c.args.n (way.Single c.in-Single.entry c.in-Single.place) c.args.renewal c.own_under.result filled

pub returns-in-Single-clause-untangled : goal.returns-in-Single-clause-untangled
returns-in-Single-clause-untangled g c told room =
    let old = g.S.Store.state c.args.s.now in
    let new = g.S.Store.state c.own_under.new.s in
    let is : way_of old.origin.request c.args.i ≡ way.Single c.in-Single.entry c.in-Single.place =
    ap (λ (r : Request). way_of r c.args.i) (sym c.geometry.ensures) ∙ sym c.way.ensures.way ∙ c.in-Single.is in
    let form = leads_of old.origin.request c.args.i (way.Single c.in-Single.entry c.in-Single.place) c.requires.index is in
    c.own_under.ensures.untangled told (single_room old c.args.n c.in-Single.entry c.in-Single.place form (chain_room old c.args.n c.args.i (way.Single c.in-Single.entry c.in-Single.place) c.requires.index is room))

pub returns-in-Single-clause-undamaged : goal.returns-in-Single-clause-undamaged
returns-in-Single-clause-undamaged g c told shaped room =
    let old = g.S.Store.state c.args.s.now in
    let new = g.S.Store.state c.own_under.new.s in
    let is : way_of old.origin.request c.args.i ≡ way.Single c.in-Single.entry c.in-Single.place =
    ap (λ (r : Request). way_of r c.args.i) (sym c.geometry.ensures) ∙ sym c.way.ensures.way ∙ c.in-Single.is in
    let form = leads_of old.origin.request c.args.i (way.Single c.in-Single.entry c.in-Single.place) c.requires.index is in
    let sound = sound_of_places old.origin.request old.working c.args.n shaped.indices shaped.places in
    c.own_under.ensures.undamaged told (ap is_whole shaped.inode, sound, apart_of_once old.origin.request old.working c.args.n shaped.indices shaped.places shaped.once) (single_room old c.args.n c.in-Single.entry c.in-Single.place form (chain_room old c.args.n c.args.i (way.Single c.in-Single.entry c.in-Single.place) c.requires.index is room))

pub returns-in-Double-clause-made : goal.returns-in-Double-clause-made
returns-in-Double-clause-made g c =
    let old = g.S.Store.state c.args.s.now in
    let new = g.S.Store.state c.own_below.new.s in
    let is : way_of old.origin.request c.args.i ≡ way.Double c.in-Double.entry c.in-Double.outer c.in-Double.place =
    ap (λ (r : Request). way_of r c.args.i) (sym c.geometry.ensures) ∙ sym c.way.ensures.way ∙ c.in-Double.is in
    let filled = c.own_below.ensures.renewed in
    let stands : Stands old new c.args.n c.args.i (way.Double c.in-Double.entry c.in-Double.outer c.in-Double.place) c.args.renewal c.own_below.result = record {
      geometry = g.met.S.Store.is_geometry c.args.s.now;
      low = c.requires.index;
      on_way = is;
      view = λ told. g.met.S.Store.working_is_view c.args.s.now told c.requires.live;
      readable = c.own_below.ensures.was_readable;
      filled = filled;
    } in
    made_of old new c.args.n c.args.i (way.Double c.in-Double.entry c.in-Double.outer c.in-Double.place) c.args.renewal c.own_below.result stands

pub returns-in-Double-clause-heads : goal.returns-in-Double-clause-heads
returns-in-Double-clause-heads g c =
    let old = g.S.Store.state c.args.s.now in
    let new = g.S.Store.state c.own_below.new.s in
    let is : way_of old.origin.request c.args.i ≡ way.Double c.in-Double.entry c.in-Double.outer c.in-Double.place =
    ap (λ (r : Request). way_of r c.args.i) (sym c.geometry.ensures) ∙ sym c.way.ensures.way ∙ c.in-Double.is in
    let filled = c.own_below.ensures.renewed in
    heads_of old new c.args.n (way.Double c.in-Double.entry c.in-Double.outer c.in-Double.place) c.args.renewal c.own_below.result filled

pub returns-in-Double-clause-untangled : goal.returns-in-Double-clause-untangled
returns-in-Double-clause-untangled g c told room =
    let old = g.S.Store.state c.args.s.now in
    let new = g.S.Store.state c.own_below.new.s in
    let is : way_of old.origin.request c.args.i ≡ way.Double c.in-Double.entry c.in-Double.outer c.in-Double.place =
    ap (λ (r : Request). way_of r c.args.i) (sym c.geometry.ensures) ∙ sym c.way.ensures.way ∙ c.in-Double.is in
    c.own_below.ensures.untangled told (chain_room old c.args.n c.args.i (way.Double c.in-Double.entry c.in-Double.outer c.in-Double.place) c.requires.index is room)

pub returns-in-Double-clause-undamaged : goal.returns-in-Double-clause-undamaged
returns-in-Double-clause-undamaged g c told shaped room =
    let old = g.S.Store.state c.args.s.now in
    let new = g.S.Store.state c.own_below.new.s in
    let is : way_of old.origin.request c.args.i ≡ way.Double c.in-Double.entry c.in-Double.outer c.in-Double.place =
    ap (λ (r : Request). way_of r c.args.i) (sym c.geometry.ensures) ∙ sym c.way.ensures.way ∙ c.in-Double.is in
    let sound = sound_of_places old.origin.request old.working c.args.n shaped.indices shaped.places in
    c.own_below.ensures.undamaged told (ap is_whole shaped.inode, sound, apart_of_once old.origin.request old.working c.args.n shaped.indices shaped.places shaped.once) (chain_room old c.args.n c.args.i (way.Double c.in-Double.entry c.in-Double.outer c.in-Double.place) c.requires.index is room)
