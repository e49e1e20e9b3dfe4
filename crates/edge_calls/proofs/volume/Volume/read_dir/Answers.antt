use Rattle.std.proofs.Common.{◌≡◌, ◌∙◌, ◌+◌, ◌^◌, ◌<◌, ◌≤◌, ◌++◌, drop, take, length-take-le, Some, None, refl, sym, ap, subst, arith}
use Rattle.std.specs.Prelude.{IfSome, Err}
use Rattle.std.proofs.lemmas.List.{take-append-le}
use Rattle.std.proofs.lemmas.Result.{err_from_is_err_and}
use Rattle.edge_handles.specs.Table.{descriptor_of}
use Rattle.edge_model.specs.Asked as command
use Rattle.edge_model.specs.Open.{first_filled}
use Rattle.edge_model.specs.Tree.{slots_at}
use Rattle.edge_slots.specs.Slot.{entry_of}
use Rattle.edge_volume.specs.Parts.{IsOfNoDamage}
use Rattle.edge_volume.specs.Did.{Did}
use Rattle.edge_volume.proofs.LookLaws.{looks_on}
use Rattle.edge_walk.proofs.StillLaws.{on_tree_before}
use Rattle.edge_calls.specs.Entries.{filled_in}
use Rattle.edge_calls.specs.State.{volume_of}
use Rattle.edge_calls.proofs.DescriptorLaws.{directory_is_open}
use Rattle.edge_calls.proofs.ReadDirLaws.{read_dir_stopped, read_dir_no_node, read_dir_ended, read_dir_at_end, read_dir_told}
use Rattle.edge_calls.proofs.volume.Volume.read_dir.Goals as goal

pub next_filled-requires-clause-room : goal.next_filled-requires-clause-room
next_filled-requires-clause-room g c = let room = c.requires.buffer in length-take-le 252 c.args.out.now (omega (arith, room))

pub slice_bounds-next_filled-end-2 : goal.slice_bounds-next_filled-end-2
slice_bounds-next_filled-end-2 g c =
    let room = c.requires.buffer in
    let whole = length-take-le 252 c.args.out.now (omega (arith, room)) in
    omega (arith, whole, room)

pub overflow_add-filled : goal.overflow_add-filled
overflow_add-filled g c = let behind = subst (λ o. IfSome o (λ f. f.slot + 1 < 2 ^ 64)) c.in-Some.is c.in_ok-filled.ensures.behind in omega (arith, behind)

pub returns-in_err-slot-clause-did : goal.returns-in_err-slot-clause-did
returns-in_err-slot-clause-did g c =
    let old = volume_of g.S.Store c.args.self.now in
    let p = err_from_is_err_and c.from_residual.result c.from_residual.ensures.1 in
    subst (λ r. Did (command.read_dir c.args.h) r old old c.args.out.now) (sym (p.1 ∙ ap Err p.2))
    (read_dir_stopped c.args.h old old c.args.out.now refl refl c.in_err-slot.field-0.0 c.requires.live refl c.in_err-slot.ensures)

pub returns-in_err-open_holder-clause-did : goal.returns-in_err-open_holder-clause-did
returns-in_err-open_holder-clause-did g c =
    let old = volume_of g.S.Store c.args.self.now in
    let new = volume_of g.S.Store (record c.args.self.now { store = c.open_holder.new.s }) in
    let looked = c.in_err-open_holder.ensures in
    let p = err_from_is_err_and c.from_residual-in_err-open_holder.result c.from_residual-in_err-open_holder.ensures.1 in
    subst (λ r. Did (command.read_dir c.args.h) r old new c.args.out.now) (sym (p.1 ∙ ap Err p.2))
    (read_dir_no_node c.args.h old new c.args.out.now refl refl c.in_err-open_holder.field-0.0 (descriptor_of c.in_ok-slot.slot) c.in_ok-slot.ensures
    looked.looks.ends looked.looks.point looked.looks.reads looked.undamaged looked.open)

pub returns-in_err-filled-clause-did : goal.returns-in_err-filled-clause-did
returns-in_err-filled-clause-did g c =
    let x = c.args.self.now.store in
    let m = c.open_holder.new.s in
    let old = volume_of g.S.Store c.args.self.now in
    let new = volume_of g.S.Store (record c.args.self.now { store = c.next_filled.new.s }) in
    let out = c.next_filled.new.name ++ drop 252 c.args.out.now in
    let looked = c.in_ok-open_holder.ensures in
    let fault = c.in_err-filled.field-0.0 in
    let looks = looks_on g.S.Store (Some fault) x m c.next_filled.new.s looked.looks c.in_err-filled.ensures.looks in
    let p = err_from_is_err_and c.from_residual-in_err-filled.result c.from_residual-in_err-filled.ensures.1 in
    subst (λ r. Did (command.read_dir c.args.h) r old new out) (sym (p.1 ∙ ap Err p.2))
    (read_dir_ended c.args.h old new out refl refl fault looks.ends looks.point
    (on_tree_before g.S.Store x m looked.looks (λ t. IsOfNoDamage (Some fault)) c.in_err-filled.ensures.undamaged))

pub returns-in-Some-clause-did : goal.returns-in-Some-clause-did
returns-in-Some-clause-did g c =
    let x = c.args.self.now.store in
    let m = c.open_holder.new.s in
    let name = c.next_filled.new.name in
    let more = drop 252 c.args.out.now in
    let old = volume_of g.S.Store c.args.self.now in
    let new = volume_of g.S.Store (record c.args.self.now { store = c.next_filled.new.s; handles = c.move_to-open.new.self }) in
    let looked = c.in_ok-open_holder.ensures in
    let call = c.in_ok-filled.ensures in
    let filled = c.in-Some.filled in
    let d = descriptor_of c.in_ok-slot.slot in
    let is_open = directory_is_open c.args.self.now.handles c.args.h d c.in_ok-slot.ensures in
    let looks = looks_on g.S.Store None x m c.next_filled.new.s looked.looks call.looks in
    let low = subst (λ o. IfSome o (λ f. f.len ≤ 252)) c.in-Some.is call.most in
    let room = c.requires.buffer in
    let whole = length-take-le 252 c.args.out.now (omega (arith, room)) in
    let long = c.next_filled.auto.name in
    let front : take filled.len (name ++ more) ≡ take filled.len name = take-append-le filled.len name more (omega (arith, low, long, whole)) in
    read_dir_told c.args.h old new (name ++ more) refl d filled.slot filled.number filled.len looks.ends looks.point (looks.reads refl) c.in_ok-slot.ensures is_open
    (c.move_to-open.ensures.moved d is_open) low
    (λ z stands tree.
    sym (on_tree_before g.S.Store x m looked.looks (λ t. filled_in name c.in_ok-filled.field-0 ≡ first_filled d.at (drop d.at (slots_at t d.number))) call.next z stands tree)
    ∙ ap (filled_in name) c.in-Some.is
    ∙ ap (λ xs. Some (record { slot = filled.slot; entry = entry_of xs filled.number })) (sym front))

pub returns-in-None-clause-did : goal.returns-in-None-clause-did
returns-in-None-clause-did g c =
    let x = c.args.self.now.store in
    let m = c.open_holder.new.s in
    let name = c.next_filled.new.name in
    let old = volume_of g.S.Store c.args.self.now in
    let new = volume_of g.S.Store (record c.args.self.now { store = c.next_filled.new.s }) in
    let looked = c.in_ok-open_holder.ensures in
    let call = c.in_ok-filled.ensures in
    let d = descriptor_of c.in_ok-slot.slot in
    let looks = looks_on g.S.Store None x m c.next_filled.new.s looked.looks call.looks in
    read_dir_at_end c.args.h old new (name ++ drop 252 c.args.out.now) refl refl looks.ends looks.point (looks.reads refl) d c.in_ok-slot.ensures
    (λ z stands tree.
    sym (on_tree_before g.S.Store x m looked.looks (λ t. filled_in name c.in_ok-filled.field-0 ≡ first_filled d.at (drop d.at (slots_at t d.number))) call.next z stands tree)
    ∙ ap (filled_in name) c.in-None.is)
